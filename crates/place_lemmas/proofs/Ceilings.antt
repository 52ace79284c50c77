-- A task that owns no inheritance mutex has its priority by itself alone: by its base and by the ceilings of what it holds. No
-- serving of another task changes that, nor does another task that frees its own mutexes.
use Rattle.std.proofs.Common.{◌≡◌, ℕ, ◌≤◌, Bool, true, false, not, ◌&&◌, List, [], ◌∷◌, Option, Some, None, refl, ◌∙◌, ap, sym, arith}
use Rattle.std.specs.Prelude.{drop, fold}
use Rattle.std.specs.Bool.{◌==◌}
use Rattle.std.specs.Option.{option_map}
use Rattle.std.proofs.lemmas.Bool.Decides.{nat_tests}
use Rattle.tk_types.specs.declared.task.Phase.{Phase}
use Rattle.tk_types.specs.declared.task.Phase.TheVariants.{Dormant, Ready, Waiting}
use Rattle.tk_types.specs.declared.task.Task.{Task}
use Rattle.kernel_model.specs.Words.Orders.{taken_from, to_back, without}
use Rattle.kernel_model.specs.Tasks.Base.{Base, base_in, base_of, current_in, is_dormant_phase, is_ready_phase, may_run, task_at}
use Rattle.kernel_lemmas.proofs.Filters.{filter_absent, filter_gone}
use Rattle.kernel_lemmas.proofs.Tables.{entry_each, entry_other, entry_same, entry_there}
use Rattle.object_model.specs.declared.mutexes.Mutex.{Mutex}
use Rattle.object_model.specs.Mutexes.Tables.{Mutexes, awaited, ceiling_in, ceiling_of, freed, held, locked, mutex_at, owner_in, owner_of, with_mutex}
use Rattle.object_model.specs.Mutexes.Priority.{capped, chain_has, current_of, heir_in, is_alive, lends_to, lowered, next_in_chain, own, under}
use Rattle.mutex_laws.proofs.Freed.{held_freed}
use Rattle.mutex_laws.proofs.Least.{alive_if}
use Rattle.mutex_laws.proofs.Unowned.{least_same}
use Rattle.place_lemmas.proofs.Owned.{Passes, chain_alone, heir_if, second}
use Rattle.place_lemmas.proofs.Settled.{Settles}

-- the task owns no inheritance mutex
abbrev pub LendsNone : ℕ → Mutexes → Type 0
LendsNone t m = (id : ℕ) → heir_in (mutex_at m id) ≡ t → ⊥

-- and by its base and the ceilings of what it holds it has this priority
pub record IsAlone (t base now : ℕ) (m : Mutexes) : Type 0 where
  pub heirs : LendsNone t m
  pub own : fold (capped m) base (held m t) ≡ now

-- ---- the priority by definition

ready_phase_lives : (phase : Phase) (free : Bool) → (is_ready_phase phase && free) ≡ true → not (is_dormant_phase phase) ≡ true
ready_phase_lives Ready free ready = refl
ready_phase_lives Dormant free ready = absurd (cc ready)
ready_phase_lives (Waiting object) free ready = refl

-- a task that is ready is alive
ready_lives : (o : Option Task) → may_run o ≡ true → is_alive o ≡ true
ready_lives None ready = absurd (cc ready)
ready_lives (Some k) ready = ready_phase_lives k.phase _ ready

-- nobody lends a priority to a ready task that owns no inheritance mutex
pub current_lent_none : (b : Base) (m : Mutexes) (t : ℕ) → may_run (task_at b t) ≡ true → LendsNone t m → current_of b m t ≡ own b m t
unfolding current_of
current_lent_none b m t ready none =
    let lent : (u : ℕ) → lends_to b m t u ≡ true → own b m u ≡ own b m t = λ u lends. ap (own b m)
    (chain_alone (next_in_chain b m) t u 255 (λ v. none (awaited b v)) (second (is_alive (task_at b u)) (chain_has (next_in_chain b m) t 255 u) lends)) in
    alive_if (fold (lowered b m t) (own b m t) (taken_from 1 (drop 1 b.tasks))) (base_of b t) (is_alive (task_at b t)) (ready_lives (task_at b t) ready)
    ∙ least_same b m t (own b m t) (taken_from 1 (drop 1 b.tasks)) lent

-- ---- what serving does to it

pub fold_alike : (m now : Mutexes) (n : ℕ) (ids : List ℕ) → ((id : ℕ) → ceiling_of now id ≡ ceiling_of m id) → fold (capped now) n ids ≡ fold (capped m) n ids
fold_alike m now n [] same = refl
fold_alike m now n (id ∷ ids) same = fold_alike m now (capped now n id) ids same ∙ ap (λ ceiling. fold (capped m) (under ceiling n) ids) (same id)

pub differs_test : (x t : ℕ) → (x ≡ t → ⊥) → (x == t) ≡ false
differs_test x t apart = grind (arith, nat_tests, apart)

-- what the task holds and the ceilings stay, so its priority does
alone_then : (t base n : ℕ) (m now : Mutexes) → LendsNone t now → held now t ≡ held m t → ((id : ℕ) → ceiling_of now id ≡ ceiling_of m id) → IsAlone t base n m →
    IsAlone t base n now
alone_then t base n m now heirs same ceilings has = record {
  heirs = heirs;
  own = ap (fold (capped now) base) same ∙ fold_alike m now base (held m t) ceilings ∙ has.own;
}

-- a slot is written that isn't the task's
heirs_written : (t : ℕ) (m : Mutexes) (id : ℕ) (slot : Option Mutex) (locks : List ℕ) → 1 ≤ t → (heir_in slot ≡ t → ⊥) → LendsNone t m →
    LendsNone t (record (with_mutex m id slot) { locks = locks })
heirs_written t m id slot locks one apart none =
    entry_each (λ i o. heir_in o ≡ t → ⊥) m.table id slot (entry_same (λ o. heir_in o ≡ t → ⊥) m.table id slot apart (λ is. omega (arith, one, is))) (λ j differs. none j)

-- another task becomes an owner
locked_alone : (t base n : ℕ) (m : Mutexes) (id : ℕ) (k : Mutex) (u : ℕ) → 1 ≤ t → mutex_at m id ≡ Some k → k.owner ≡ 0 → (u ≡ t → ⊥) → IsAlone t base n m →
    IsAlone t base n (locked m id k u)
locked_alone t base n m id k u one at free apart has =
    let here : mutex_at (locked m id k u) id ≡ Some (record k { owner = u }) = entry_there m.table id k (Some (record k { owner = u })) at in
    let was_free : owner_of m id ≡ 0 = ap owner_in at ∙ free in
    alone_then t base n m (locked m id k u)
    (heirs_written t m id (Some (record k { owner = u })) (to_back id m.locks) one (heir_if k.inherits u t one apart) has.heirs)
    (filter_gone (λ i. owner_of m i == t) (λ i. owner_of (locked m id k u) i == t) id m.locks
    (λ i differs. ap (λ o. owner_in o == t) (entry_other m.table id i (Some (record k { owner = u })) differs))
    (ap (λ o. owner_in o == t) here ∙ differs_test u t apart)
    ∙ filter_absent (λ i. owner_of m i == t) id m.locks (differs_test (owner_of m id) t (λ is. omega (arith, one, was_free, is))))
    (entry_each (λ i o. ceiling_in o ≡ ceiling_of m i) m.table id (Some (record k { owner = u })) (ap ceiling_in here ∙ sym (ap ceiling_in at)) (λ j differs. refl))
    has

freed_heir : (o : Option Mutex) (t : ℕ) → 1 ≤ t → heir_in (option_map {T = Mutex} (λ k. record k { owner = 0 }) o) ≡ t → ⊥
freed_heir None t one is = omega (arith, one, is)
freed_heir (Some k) t one is = heir_if k.inherits 0 t one (λ same. omega (arith, one, same)) is

pub freed_ceiling : (m : Mutexes) (id : ℕ) (slot : Option Mutex) → mutex_at m id ≡ slot →
    ceiling_in (mutex_at (with_mutex m id (option_map {T = Mutex} (λ k. record k { owner = 0 }) slot)) id) ≡ ceiling_of m id
freed_ceiling m id None at = entry_same (λ o. ceiling_in o ≡ ceiling_of m id) m.table id None (sym (ap ceiling_in at)) (sym (ap ceiling_in at))
freed_ceiling m id (Some k) at = ap ceiling_in (entry_there m.table id k (Some (record k { owner = 0 })) at) ∙ sym (ap ceiling_in at)

-- another task's mutex is free
freed_alone : (t base n : ℕ) (m : Mutexes) (id u : ℕ) → 1 ≤ t → owner_of m id ≡ u → (u ≡ t → ⊥) → IsAlone t base n m → IsAlone t base n (freed m id)
freed_alone t base n m id u one is apart has =
    alone_then t base n m (freed m id)
    (heirs_written t m id (option_map {T = Mutex} (λ k. record k { owner = 0 }) (mutex_at m id)) (without id m.locks) one (freed_heir (mutex_at m id) t one) has.heirs)
    (held_freed m id t ∙ filter_absent (λ i. owner_of m i == t) id m.locks (differs_test (owner_of m id) t (λ same. apart (sym is ∙ same))))
    (entry_each (λ i o. ceiling_in o ≡ ceiling_of m i) m.table id (option_map {T = Mutex} (λ k. record k { owner = 0 }) (mutex_at m id)) (freed_ceiling m id (mutex_at m id) refl) (λ j differs. refl))
    has

alone_passes : (t base n : ℕ) → 1 ≤ t → Passes t (IsAlone t base n)
alone_passes t base n one = record {
  locks = λ m id k u at free apart has. locked_alone t base n m id k u one at free apart has;
  frees = λ m id u is apart has. freed_alone t base n m id u one is apart has;
}

-- so the priority of such a task never differs from that of its definition on the way
pub alone_settles : (row : Option Task) (t : ℕ) → 1 ≤ t → may_run row ≡ true → Settles row t (IsAlone t (base_in row) (current_in row))
alone_settles row t one ready = record {
  least = one;
  ready = ready;
  passes = alone_passes t (base_in row) (current_in row) one;
  priority = λ b m is has.
      current_lent_none b m t (ap may_run is ∙ ready) has.heirs ∙ ap (λ n. fold (capped m) n (held m t)) (ap base_in is) ∙ has.own;
}

-- a ready task that has the priority of its definition, and owns no inheritance mutex, has it by itself
pub alone_from : (b : Base) (m : Mutexes) (t : ℕ) → may_run (task_at b t) ≡ true → LendsNone t m → current_in (task_at b t) ≡ current_of b m t →
    IsAlone t (base_in (task_at b t)) (current_in (task_at b t)) m
alone_from b m t ready none fresh = record { heirs = none; own = sym (current_lent_none b m t ready none) ∙ sym fresh }
