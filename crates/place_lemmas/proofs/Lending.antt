-- What changes of owners do to the priority of a task by definition: once another task owns a mutex that was free, and waits for
-- none, or once a mutex of another one is free, the priority isn't higher.
use Rattle.std.proofs.Common.{◌≡◌, ℕ, ◌≤◌, ◌⊎◌, inl, inr, Bool, true, false, not, cond, List, [], ◌∷◌, ◌++◌, Option, Some, None, refl, ◌∙◌, ap, sym, subst, arith}
use Rattle.std.specs.Bool.{◌==◌}
use Rattle.std.specs.Prelude.{filter, fold, slice_set}
use Rattle.std.specs.Option.{option_map}
use Rattle.std.proofs.lemmas.Bool.Decides.{nat_tests}
use Rattle.std.proofs.lemmas.List.Elements.{filter-append}
use Rattle.kernel_model.specs.Words.Orders.{entry, without}
use Rattle.kernel_model.specs.Tasks.Base.{Base, base_of, task_at}
use Rattle.kernel_lemmas.proofs.Filters.{filter_absent, filter_but, filter_gone}
use Rattle.kernel_lemmas.proofs.Tables.{entry_each, entry_other, entry_same, entry_there}
use Rattle.object_model.specs.declared.mutexes.Mutex.{Mutex}
use Rattle.object_model.specs.Mutexes.Tables.{Mutexes, awaited, ceiling_in, ceiling_of, freed, held, locked, mutex_at, owner_in, owner_of}
use Rattle.object_model.specs.Mutexes.Priority.{capped, chain_has, current_of, heir_in, is_alive, lends_to, next_in_chain, own, under}
use Rattle.mutex_laws.proofs.Freed.{held_freed}
use Rattle.place_lemmas.proofs.Ceilings.{differs_test, fold_alike, freed_ceiling}
use Rattle.place_lemmas.proofs.Fewer.{LendsLess, current_less, second_true, stops}

-- ---- a mutex that was free is locked

-- there is no mutex 0
apart_from_none : (m : Mutexes) (id : ℕ) (k : Mutex) → mutex_at m 0 ≡ None → mutex_at m id ≡ Some k → 0 ≡ id → ⊥
apart_from_none m id k none at same = let there : mutex_at m 0 ≡ Some k = ap (mutex_at m) same ∙ at in cc (none, there)

still_none : (m : Mutexes) (id : ℕ) (k : Mutex) (slot : Option Mutex) → mutex_at m 0 ≡ None → mutex_at m id ≡ Some k → entry (slice_set m.table id slot) 0 ≡ None
still_none m id k slot none at = entry_other m.table id 0 slot (apart_from_none m id k none at) ∙ none

-- the heir in a slot is the one that was, or a chain that goes on with it ends short
abbrev HeirEnds : Base → Mutexes → Mutexes → ℕ → ℕ → Option Mutex → Type 0
HeirEnds b m now t id o = (heir_in o ≡ heir_in (mutex_at m id)) ⊎ ((heir_in o ≡ 0) ⊎ ((heir_in o ≡ t → ⊥) × (next_in_chain b now (heir_in o) ≡ 0)))

new_heir : (b : Base) (m now : Mutexes) (t id w : ℕ) (inherits : Bool) → (w ≡ t → ⊥) → next_in_chain b now w ≡ 0 →
    (cond inherits w 0 ≡ heir_in (mutex_at m id)) ⊎ ((cond inherits w 0 ≡ 0) ⊎ ((cond inherits w 0 ≡ t → ⊥) × (next_in_chain b now (cond inherits w 0) ≡ 0)))
new_heir b m now t id w true apart alone = inr (inr (apart, alone))
new_heir b m now t id w false apart alone = inr (inl refl)

-- what another task holds, and what ceilings give it, stays
locked_own : (b : Base) (m : Mutexes) (id w u : ℕ) (k : Mutex) → mutex_at m id ≡ Some k → k.owner ≡ 0 → (u ≡ w → ⊥) → 1 ≤ u → own b (locked m id k w) u ≡ own b m u
locked_own b m id w u k at free apart one =
    let now : Mutexes = locked m id k w in
    let here : mutex_at now id ≡ Some (record k { owner = w }) = entry_there m.table id k (Some (record k { owner = w })) at in
    let was_free : owner_of m id ≡ 0 = ap owner_in at ∙ free in
    let same : held now u ≡ held m u =
    filter_gone (λ i. owner_of m i == u) (λ i. owner_of now i == u) id m.locks
    (λ i differs. ap (λ o. owner_in o == u) (entry_other m.table id i (Some (record k { owner = w })) differs))
    (ap (λ o. owner_in o == u) here ∙ differs_test w u (λ e. apart (sym e)))
    ∙ filter_absent (λ i. owner_of m i == u) id m.locks (differs_test (owner_of m id) u (λ is. omega (arith, one, was_free, is))) in
    ap (fold (capped now) (base_of b u)) same
    ∙ fold_alike m now (base_of b u) (held m u) (entry_each (λ i o. ceiling_in o ≡ ceiling_of m i) m.table id (Some (record k { owner = w })) (ap ceiling_in here ∙ sym (ap ceiling_in at)) (λ j differs. refl))

under_more : (ceiling : Option ℕ) (less more : ℕ) → less ≤ more → under ceiling less ≤ under ceiling more
under_more None less more is = is
under_more (Some c) less more is = omega (arith, is)

under_most : (ceiling : Option ℕ) (priority : ℕ) → under ceiling priority ≤ priority
under_most None priority = omega arith
under_most (Some c) priority = omega arith

-- a ceiling more makes no priority lower
one_ceiling_more : (m : Mutexes) (id less more : ℕ) (ids : List ℕ) → less ≤ more → fold (capped m) less (ids ++ id ∷ []) ≤ fold (capped m) more ids
one_ceiling_more m id less more [] is = let most = under_most (ceiling_of m id) less in omega (arith, most, is)
one_ceiling_more m id less more (first ∷ ids) is = one_ceiling_more m id (capped m less first) (capped m more first) ids (under_more (ceiling_of m first) less more is)

kept_last : (w id : ℕ) (owner : ℕ) → owner ≡ w → cond (owner == w) (id ∷ []) [] ≡ id ∷ []
kept_last w id owner is = by_test (owner == w) (grind (arith, nat_tests, is))
  where
    by_test : (test : Bool) → test ≡ true → cond test (id ∷ []) [] ≡ id ∷ []
    by_test true same = refl
    by_test false same = absurd (cc same)

-- the new owner has one mutex more
owner_own : (b : Base) (m : Mutexes) (id w : ℕ) (k : Mutex) → mutex_at m id ≡ Some k → k.owner ≡ 0 → 1 ≤ w → own b (locked m id k w) w ≤ own b m w
owner_own b m id w k at free one =
    let now : Mutexes = locked m id k w in
    let here : mutex_at now id ≡ Some (record k { owner = w }) = entry_there m.table id k (Some (record k { owner = w })) at in
    let was_free : owner_of m id ≡ 0 = ap owner_in at ∙ free in
    let front : filter (λ i. owner_of now i == w) (without id m.locks) ≡ held m w =
    filter_but (λ i. owner_of m i == w) (λ i. owner_of now i == w) id m.locks (λ i differs. ap (λ o. owner_in o == w) (entry_other m.table id i (Some (record k { owner = w })) differs))
    ∙ filter_absent (λ i. owner_of m i == w) id m.locks (differs_test (owner_of m id) w (λ is. omega (arith, one, was_free, is))) in
    let all : held now w ≡ held m w ++ id ∷ [] =
    filter-append (λ i. owner_of now i == w) (without id m.locks) (id ∷ [])
    ∙ ap (λ last. filter (λ i. owner_of now i == w) (without id m.locks) ++ last) (kept_last w id (owner_of now id) (ap owner_in here))
    ∙ ap (λ ids. ids ++ id ∷ []) front in
    let alike = fold_alike m now (base_of b w) (held m w ++ id ∷ []) (entry_each (λ i o. ceiling_in o ≡ ceiling_of m i) m.table id (Some (record k { owner = w })) (ap ceiling_in here ∙ sym (ap ceiling_in at)) (λ j differs. refl)) in
    let same : fold (capped now) (base_of b w) (held now w) ≡ fold (capped now) (base_of b w) (held m w ++ id ∷ []) = ap (fold (capped now) (base_of b w)) all in
    let less = one_ceiling_more m id (base_of b w) (base_of b w) (held m w) (omega arith) in
    omega (arith, same, alike, less)

own_by : (b : Base) (m : Mutexes) (id w u : ℕ) (k : Mutex) (same : Bool) → (u == w) ≡ same → mutex_at m id ≡ Some k → k.owner ≡ 0 → 1 ≤ u → own b (locked m id k w) u ≤ own b m u
own_by b m id w u k true is at free one = let e : w ≡ u = grind (arith, nat_tests, is) in subst (λ (v : ℕ). own b (locked m id k w) v ≤ own b m v) e (owner_own b m id w k at free (omega (arith, e, one)))
own_by b m id w u k false is at free one = let alike = locked_own b m id w u k at free (λ e. grind (arith, nat_tests, is, e)) one in omega (arith, alike)

-- a mutex more that somebody owns makes nobody's priority by itself lower
pub locked_owns : (b : Base) (m : Mutexes) (id w u : ℕ) (k : Mutex) → mutex_at m id ≡ Some k → k.owner ≡ 0 → 1 ≤ u → own b (locked m id k w) u ≤ own b m u
locked_owns b m id w u k at free one = own_by b m id w u k (u == w) refl at free one

-- what somebody owns stays as it is
pub locked_others : (m : Mutexes) (id w other : ℕ) (k : Mutex) → mutex_at m id ≡ Some k → k.owner ≡ 0 → (owner_of m other ≡ 0 → ⊥) → mutex_at (locked m id k w) other ≡ mutex_at m other
locked_others m id w other k at free owned = entry_other m.table id other (Some (record k { owner = w })) (λ e. owned (ap (owner_of m) e ∙ ap owner_in at ∙ free))

lock_less : (b : Base) (m : Mutexes) (t id w : ℕ) (k : Mutex) → 1 ≤ t → mutex_at m id ≡ Some k → k.owner ≡ 0 → (w ≡ t → ⊥) → awaited b w ≡ 0 → is_alive (task_at b t) ≡ true → mutex_at m 0 ≡ None →
    LendsLess b b m (locked m id k w) t
lock_less b m t id w k one at free apart idle lives none =
    let now : Mutexes = locked m id k w in
    let row : Option Mutex = Some (record k { owner = w }) in
    let alone : next_in_chain b now w ≡ 0 = ap (λ i. heir_in (mutex_at now i)) idle ∙ ap heir_in (still_none m id k row none at) in
    let by_owner : (u : ℕ) → 1 ≤ u → lends_to b now t u ≡ true → own b m u ≡ own b now u = λ u least lends. sym (locked_own b m id w u k at free
    (λ same. apart (sym same ∙ stops (next_in_chain b now) t u 255 (ap (next_in_chain b now) same ∙ alone) (second_true (is_alive (task_at b u)) (chain_has (next_in_chain b now) t 255 u) lends))) least) in
    record {
      lives = lives;
      lives_still = lives;
      alive = λ u is. is;
      nexts = λ u. entry_each (HeirEnds b m now t) m.table id row
          (subst (HeirEnds b m now t id) (sym (entry_there m.table id k row at)) (new_heir b m now t id w k.inherits apart alone)) (λ j differs. inl refl) (awaited b u);
      itself = let same = locked_own b m id w t k at free (λ e. apart (sym e)) one in omega (arith, same);
      others = λ u least lends. let same = by_owner u least lends in omega (arith, same);
    }

-- once another task that waits for none owns a mutex that was free, a task's priority isn't higher
pub lock_sinks : (b : Base) (m : Mutexes) (t id w : ℕ) (k : Mutex) → 1 ≤ t → mutex_at m id ≡ Some k → k.owner ≡ 0 → (w ≡ t → ⊥) → awaited b w ≡ 0 → is_alive (task_at b t) ≡ true → mutex_at m 0 ≡ None →
    current_of b m t ≤ current_of b (locked m id k w) t
lock_sinks b m t id w k one at free apart idle lives none = current_less b b m (locked m id k w) t (lock_less b m t id w k one at free apart idle lives none) refl

-- and there is no mutex 0 then
pub locked_none : (m : Mutexes) (id w : ℕ) (k : Mutex) → mutex_at m id ≡ Some k → mutex_at m 0 ≡ None → mutex_at (locked m id k w) 0 ≡ None
locked_none m id w k at none = still_none m id k (Some (record k { owner = w })) none at

-- ---- a mutex is freed

no_owner_heir : (inherits : Bool) → cond {A = ℕ} inherits 0 0 ≡ 0
no_owner_heir true = refl
no_owner_heir false = refl

freed_heir : (o : Option Mutex) → heir_in (option_map {T = Mutex} (λ k. record k { owner = 0 }) o) ≡ 0
freed_heir None = refl
freed_heir (Some k) = no_owner_heir k.inherits

either_fewer : (m : Mutexes) (id less more first : ℕ) (ids : List ℕ) (test : Bool) → fold (capped m) (capped m less first) ids ≤ fold (capped m) more (without id ids) →
    fold (capped m) (capped m less first) ids ≤ fold (capped m) (capped m more first) (without id ids) → fold (capped m) (capped m less first) ids ≤ fold (capped m) more (cond (not test) (first ∷ without id ids) (without id ids))
either_fewer m id less more first ids true gone there = gone
either_fewer m id less more first ids false gone there = there

-- with fewer ceilings a priority isn't higher
fewer_ceilings : (m : Mutexes) (id less more : ℕ) (ids : List ℕ) → less ≤ more → fold (capped m) less ids ≤ fold (capped m) more (without id ids)
fewer_ceilings m id less more [] is = is
fewer_ceilings m id less more (first ∷ ids) is =
    let most = under_most (ceiling_of m first) less in
    either_fewer m id less more first ids (first == id) (fewer_ceilings m id (capped m less first) more ids (omega (arith, most, is)))
    (fewer_ceilings m id (capped m less first) (capped m more first) ids (under_more (ceiling_of m first) less more is))

freed_own : (b : Base) (m : Mutexes) (id u : ℕ) → own b m u ≤ own b (freed m id) u
freed_own b m id u =
    let now : Mutexes = freed m id in
    let slot : Option Mutex = option_map {T = Mutex} (λ k. record k { owner = 0 }) (mutex_at m id) in
    let held_now : fold (capped now) (base_of b u) (held now u) ≡ fold (capped now) (base_of b u) (without id (held m u)) = ap (fold (capped now) (base_of b u)) (held_freed m id u) in
    let alike = fold_alike m now (base_of b u) (without id (held m u)) (entry_each (λ i o. ceiling_in o ≡ ceiling_of m i) m.table id slot (freed_ceiling m id (mutex_at m id) refl) (λ j differs. refl)) in
    let less = fewer_ceilings m id (base_of b u) (base_of b u) (held m u) (omega arith) in
    omega (arith, held_now, alike, less)

free_less : (b : Base) (m : Mutexes) (t id : ℕ) → is_alive (task_at b t) ≡ true → LendsLess b b m (freed m id) t
free_less b m t id lives = record {
  lives = lives;
  lives_still = lives;
  alive = λ u is. is;
  nexts = λ u. entry_each (HeirEnds b m (freed m id) t) m.table id (option_map {T = Mutex} (λ k. record k { owner = 0 }) (mutex_at m id))
      (entry_same (HeirEnds b m (freed m id) t id) m.table id (option_map {T = Mutex} (λ k. record k { owner = 0 }) (mutex_at m id)) (inr (inl (freed_heir (mutex_at m id)))) (inr (inl refl)))
      (λ j differs. inl refl) (awaited b u);
  itself = freed_own b m id t;
  others = λ u least lends. freed_own b m id u;
}

-- once a mutex is free a task's priority isn't higher
pub free_sinks : (b : Base) (m : Mutexes) (t id : ℕ) → is_alive (task_at b t) ≡ true → current_of b m t ≤ current_of b (freed m id) t
free_sinks b m t id lives = current_less b b m (freed m id) t (free_less b m t id lives) refl

freed_slot : (m : Mutexes) (id : ℕ) (same : Bool) → (0 == id) ≡ same → mutex_at m 0 ≡ None → mutex_at (freed m id) 0 ≡ None
freed_slot m id true at none =
    let e : 0 ≡ id = grind (arith, nat_tests, at) in
    subst (λ (i : ℕ). entry (slice_set m.table id (option_map {T = Mutex} (λ k. record k { owner = 0 }) (mutex_at m id))) i ≡ None) (sym e)
    (entry_same (λ o. o ≡ None) m.table id (option_map {T = Mutex} (λ k. record k { owner = 0 }) (mutex_at m id)) (ap (option_map {T = Mutex} (λ k. record k { owner = 0 })) (ap (mutex_at m) (sym e) ∙ none)) refl)
freed_slot m id false at none = entry_other m.table id 0 (option_map {T = Mutex} (λ k. record k { owner = 0 }) (mutex_at m id)) (λ e. grind (arith, nat_tests, at, e)) ∙ none

-- and there is no mutex 0 then
pub freed_none : (m : Mutexes) (id : ℕ) → mutex_at m 0 ≡ None → mutex_at (freed m id) 0 ≡ None
freed_none m id none = freed_slot m id (0 == id) refl none
