-- A mutex leaves its owner only where the owner unlocks it or ends, or where it is deleted.
use Rattle.std.proofs.Common.{◌≡◌, ℕ, ◌⊎◌, inl, inr, Bool, true, false, not, List, [], Option, Some, None, option_map, refl, cond, ◌∙◌, ap, sym, ℤ, pos, arith}
use Rattle.std.specs.Prelude.{drop}
use Rattle.std.specs.Bool.{◌==◌}
use Rattle.std.specs.List.{last_or}
use Rattle.std.specs.Ordering.{int_eq}
use Rattle.std.proofs.lemmas.Bool.Decides.{nat_tests}
use Rattle.tk_types.specs.declared.answer.Outcome.TheVariants.{Blocked}
use Rattle.tk_types.specs.declared.answer.Who.{Who}
use Rattle.tk_types.specs.declared.calls.MutexCall.{MutexCall}
use Rattle.tk_types.specs.declared.calls.MutexCall.TheVariants as call
use Rattle.tk_types.specs.declared.error_code.Er.TheVariants as er
use Rattle.kernel_model.specs.SemFlags.Calls.{object_checks}
use Rattle.kernel_model.specs.Tasks.Base.{Base, make_wait}
use Rattle.kernel_model.specs.Tasks.Calls.{caller}
use Rattle.kernel_model.specs.Words.Checks.{Check, done, failed, first_error, natural}
use Rattle.call_lemmas.proofs.Checked.{holds_at}
use Rattle.kernel_lemmas.proofs.Tables.{entry_other}
use Rattle.object_model.specs.declared.mutexes.Mutex.{Mutex}
use Rattle.object_model.specs.Mutexes.Calls as Calls
use Rattle.object_model.specs.Mutexes.Calls.{MutexDone, create_mutex, delete_mutex, deleted, lock_mutex, mutex_call, mutex_checked, mutex_waits_ended, new_mutex, refer_mutex, table_changed, unlock_mutex, waited_for_mutex, waits_or_ends}
use Rattle.object_model.specs.Mutexes.Tables.{MutexParts, Mutexes, free_last, freed, has_mutex, held, locked, mutex_at, mutex_object, owner_in, owner_of, serve_mutex, with_mutex}
use Rattle.mutex_laws.specs.Owners.{GivesUp, IsServed}
use Rattle.mutex_laws.proofs.Freed.{EndsWith, ends_by, freed_rows, holds_owns, last_stands}
use Rattle.mutex_laws.proofs.Refusals.{mutex_cases}
use Rattle.mutex_laws.proofs.Serving.{serving_is}
use Rattle.mutex_laws.proofs.TableOrders.{free_is, free_slot}

-- one of two numbers, or another one
by_number : (P : Type 0) (id other : ℕ) (same : Bool) → (other == id) ≡ same → (other ≡ id → P) → ((id ≡ other → ⊥) → P) → P
by_number P id other true at here there = here (grind (arith, nat_tests, at))
by_number P id other false at here there = there (λ e. grind (arith, nat_tests, at, e))

-- what holds of the owner of a mutex after a call
abbrev Stays : Mutexes → ℕ → Type 0 → MutexDone → Type 0
Stays m id gives done = (owner_of done.table id ≡ owner_of m id) ⊎ gives

stays_checked : (b : Base) (m : Mutexes) (id : ℕ) (gives : Type 0) (checks : List Check) (effect : MutexDone) → (first_error checks ≡ None → Stays m id gives effect) → Stays m id gives (mutex_checked checks b m effect)
stays_checked b m id gives checks effect works = mutex_cases (Stays m id gives) checks b m effect (λ code. inl refl) works

or_waits : (b c : Base) (m : Mutexes) (id : ℕ) (over : Bool) → Stays m id ⊥ (cond {A = MutexDone} over (record { base = b; table = m; outcome = failed er.TmOut }) (record { base = c; table = m; outcome = Blocked }))
or_waits b c m id true = inl refl
or_waits b c m id false = inl refl

lock_if : (b : Base) (m : Mutexes) (t number id : ℕ) (timeout : ℤ) (k : Mutex) (free : Bool) → mutex_at m number ≡ Some k → (k.owner == 0) ≡ free → (owner_of m id ≡ 0 → ⊥) →
    Stays m id ⊥ (cond free (table_changed b (locked m number k t) (pos 0)) (waits_or_ends b m t number k.order timeout))
lock_if b m t number id timeout k false at is owned = or_waits b (make_wait b t (mutex_object number) k.order timeout) m id (int_eq timeout (pos 0))
lock_if b m t number id timeout k true at is owned =
    by_number (Stays m id ⊥ (table_changed b (locked m number k t) (pos 0))) id number (number == id) refl
    (λ same. absurd (owned (ap (owner_of m) (sym same) ∙ (ap owner_in at ∙ free is))))
    (λ apart. inl (ap owner_in (entry_other m.table number id (Some (record k { owner = t })) apart)))
  where
    free : (k.owner == 0) ≡ true → k.owner ≡ 0
    free is = grind (arith, nat_tests, is)

lock_at : (b : Base) (m : Mutexes) (t number id : ℕ) (timeout : ℤ) (slot : Option Mutex) → mutex_at m number ≡ slot → (owner_of m id ≡ 0 → ⊥) → Stays m id ⊥ (waited_for_mutex b m t number timeout slot)
lock_at b m t number id timeout None at owned = inl refl
lock_at b m t number id timeout (Some k) at owned = lock_if b m t number id timeout k (k.owner == 0) at refl owned

some_id : (id : ℕ) → not (id == 0) ≡ true → id ≡ 0 → ⊥
some_id id is same = grind (arith, nat_tests, is, same)

made : (b : Base) (m : Mutexes) (number id : ℕ) (k : Mutex) (value : ℤ) → mutex_at m number ≡ None → (owner_of m id ≡ 0 → ⊥) → Stays m id ⊥ (table_changed b (with_mutex m number (Some k)) value)
made b m number id k value free owned =
    by_number (Stays m id ⊥ (table_changed b (with_mutex m number (Some k)) value)) id number (number == id) refl
    (λ same. absurd (owned (ap (owner_of m) (sym same) ∙ ap owner_in free)))
    (λ apart. inl (ap owner_in (entry_other m.table number id (Some k) apart)))

owner_is : (owner t : ℕ) → (owner == t) ≡ true → owner ≡ t
owner_is owner t is = grind (arith, nat_tests, is)

gone : (b : Base) (m : Mutexes) (number id : ℕ) → Stays m id (number ≡ id) (record { base = b; table = deleted m number; outcome = done (pos 0) })
gone b m number id = by_number (Stays m id (number ≡ id) (record { base = b; table = deleted m number; outcome = done (pos 0) })) id number (number == id) refl (λ same. inr same) (λ apart. inl (ap owner_in (entry_other m.table number id None apart)))

-- a call leaves a mutex with its owner, or it is one that gives it up
pub call_leaves_owner : (b : Base) (m : Mutexes) (who : Who) (call : MutexCall) (id : ℕ) → (owner_of m id ≡ 0 → ⊥) →
    (owner_of (mutex_call b m who call).table id ≡ owner_of m id) ⊎ GivesUp who call id (owner_of m id)
unfolding mutex_call create_mutex lock_mutex unlock_mutex refer_mutex delete_mutex
call_leaves_owner b m who (call.CreMtx attributes ceiling) id owned =
    stays_checked b m id ⊥ (Calls.create_checks m attributes ceiling) _
    (λ none. made b m (Calls.free_mutex m) id (new_mutex attributes ceiling) (pos (Calls.free_mutex m)) (free_slot m (free_is 1 (drop 1 m.table)) (some_id (Calls.free_mutex m) (holds_at 2 (Calls.create_checks m attributes ceiling) none))) owned)
call_leaves_owner b m who (call.LocMtx number timeout) id owned =
    stays_checked b m id ⊥ (Calls.lock_checks b m who number timeout) _ (λ none. lock_at b m (caller who) (natural number) id timeout (mutex_at m (natural number)) refl owned)
call_leaves_owner b m who (call.UnlMtx number) id owned =
    let gives : Type 0 = (natural number ≡ id) × (caller who ≡ owner_of m id) in
    stays_checked b m id gives (Calls.unlock_checks b m who number) _
    (λ none. by_number (Stays m id gives (table_changed b (freed m (natural number)) (pos 0))) id (natural number) (natural number == id) refl
    (λ same. inr (same, sym (owner_is (owner_of m (natural number)) (caller who) (holds_at 3 (Calls.unlock_checks b m who number) none)) ∙ ap (owner_of m) same))
    (λ apart. inl (ap owner_in (freed_rows m (natural number) id apart))))
call_leaves_owner b m who (call.RefMtx number) id owned = stays_checked b m id ⊥ (object_checks number (has_mutex m (natural number)) []) _ (λ none. inl refl)
call_leaves_owner b m who (call.DelMtx number) id owned =
    stays_checked b m id (natural number ≡ id) (object_checks number (has_mutex m (natural number)) []) _
    (λ none. gone (mutex_waits_ended b (natural number) (mutex_at m (natural number))) m (natural number) id)

served_leaves : (b : Base) (m : Mutexes) (number id : ℕ) (parts : MutexParts) → IsServed b m number parts → (owner_of m id ≡ 0 → ⊥) → owner_of parts.table id ≡ owner_of m id
served_leaves b m number id parts served owned =
    by_number (owner_of parts.table id ≡ owner_of m id) id number (number == id) refl (λ same. absurd (owned (ap (owner_of m) (sym same) ∙ served.free))) (λ apart. ap owner_in (served.others id apart))

-- a serving leaves each with its owner
pub serving_leaves_owner : (b : Base) (m : Mutexes) (number id : ℕ) (parts : MutexParts) → serve_mutex b m number ≡ Some parts → (owner_of m id ≡ 0 → ⊥) → owner_of parts.table id ≡ owner_of m id
serving_leaves_owner b m number id parts is owned = served_leaves b m number id parts (serving_is b m number parts is) owned

freed_leaves : (m : Mutexes) (t number id : ℕ) (now : Mutexes) → EndsWith (held m t) number → freed m number ≡ now → (owner_of m id ≡ t → ⊥) → owner_of now id ≡ owner_of m id
freed_leaves m t number id now last is others =
    let owns : owner_of m number ≡ t = holds_owns m t number (last_stands number last.left (held m t) last.ends) in
    by_number (owner_of now id ≡ owner_of m id) id number (number == id) refl
    (λ same. absurd (others (ap (owner_of m) (sym same) ∙ owns)))
    (λ apart. ap (λ table. owner_of table id) (sym is) ∙ ap owner_in (freed_rows m number id apart))

by_last : (m : Mutexes) (t id : ℕ) (now : Mutexes) (last : Option ℕ) → last_or None (held m t) ≡ last → option_map (freed m) last ≡ Some now → (owner_of m id ≡ t → ⊥) → owner_of now id ≡ owner_of m id
by_last m t id now None at is others = absurd (cc is)
by_last m t id now (Some number) at is others = freed_leaves m t number id now (ends_by (held m t) number at) (cc is) others

-- and what a task gives up as it ends leaves every other task its own
pub freeing_leaves_owner : (b : Base) (m : Mutexes) (t id : ℕ) (now : Mutexes) → free_last b m t ≡ Some now → (owner_of m id ≡ t → ⊥) → owner_of now id ≡ owner_of m id
unfolding free_last
freeing_leaves_owner b m t id now is others = by_last m t id now (last_or None (held m t)) refl is others
