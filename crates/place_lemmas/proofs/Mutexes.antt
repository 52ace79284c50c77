-- A call on mutexes leaves a ready task that owns none in its place, and owning none, where another task makes it.
use Rattle.std.proofs.Common.{◌≡◌, ℕ, ◌≤◌, arith, Bool, true, false, cond, List, [], Option, Some, None, ℤ, pos}
use Rattle.std.specs.Bool.{◌==◌}
use Rattle.std.specs.Option.{option_map}
use Rattle.std.specs.Ordering.{int_eq}
use Rattle.tk_types.specs.declared.answer.Who.{Who}
use Rattle.tk_types.specs.declared.answer.Outcome.TheVariants as outcomes
use Rattle.tk_types.specs.declared.calls.Call.TheVariants as all_calls
use Rattle.tk_types.specs.declared.calls.MutexCall.{MutexCall}
use Rattle.tk_types.specs.declared.calls.MutexCall.TheVariants as call
use Rattle.tk_types.specs.declared.error_code.Er.{Er}
use Rattle.tk_types.specs.declared.error_code.Er.TheVariants as er
use Rattle.tk_types.specs.declared.run.Mode.{Mode}
use Rattle.tk_types.specs.declared.script.Script.{Script}
use Rattle.tk_types.specs.declared.task.Order.{Order}
use Rattle.tk_types.specs.declared.task.Task.{Task}
use Rattle.kernel_model.specs.Words.Checks.{Check, failed, first_error, natural}
use Rattle.kernel_model.specs.Words.Orders.{to_back, without}
use Rattle.kernel_model.specs.Tasks.Base.{Base, is_ready, make_wait, may_run}
use Rattle.kernel_model.specs.Tasks.Calls.{caller}
use Rattle.kernel_model.specs.SemFlags.Calls.{object_checks}
use Rattle.object_model.specs.declared.mutexes.Mutex.{Mutex}
use Rattle.object_model.specs.Mutexes.Tables.{Mutexes, has_mutex, locked, mutex_at, mutex_object}
use Rattle.object_model.specs.Mutexes.Calls as calls
use Rattle.object_model.specs.Mutexes.Calls.{MutexDone, mutex_call, mutex_checked, mutex_waits_ended, refused_with, table_changed, waited_for_mutex, waits_or_ends}
use Rattle.mutex_laws.proofs.Refusals.{mutex_cases}
use Rattle.machine_model.specs.Events.Calls.{called, family_call}
use Rattle.machine_model.specs.Events.Follow.{followed}
use Rattle.machine_model.specs.States.State.{State, parts_of, who_of}
use Rattle.place_lemmas.proofs.Calls.{StandsIf, called_has}
use Rattle.place_lemmas.proofs.Events.{Stands, stands_followed}
use Rattle.place_lemmas.proofs.Moves.{IsPassed, PlaceIfReady, end_waits_keeps, place_passes}
use Rattle.place_lemmas.proofs.Owned.{OwnsNone, freed_owner, written_none}
use Rattle.place_lemmas.proofs.Settled.{HasPlace, Settles}

refused_keeps : (P : Base → Type 0) (error : Option Er) (b : Base) (m : Mutexes) (effect : MutexDone) → P b → P effect.base → P (refused_with error b m effect).base
refused_keeps P (Some error) b m effect has works = has
refused_keeps P None b m effect has works = works

-- a call is refused and leaves the base, or has its effect
checked_keeps : (P : Base → Type 0) (checks : List Check) (b : Base) (m : Mutexes) (effect : MutexDone) → P b → P effect.base → P (mutex_checked checks b m effect).base
checked_keeps P checks b m effect has works = refused_keeps P (first_error checks) b m effect has works

either_done : (P : Base → Type 0) (test : Bool) (one other : MutexDone) → P one.base → P other.base → P (cond {A = MutexDone} test one other).base
either_done P true one other first second = first
either_done P false one other first second = second

ended_keeps : (P R : Base → Type 0) → IsPassed P R → (b : Base) (id : ℕ) (slot : Option Mutex) → P b → P (mutex_waits_ended b id slot)
ended_keeps P R is b id None has = has
ended_keeps P R is b id (Some k) has = end_waits_keeps P R is k.order (mutex_object id) b has

wait_keeps : (P R : Base → Type 0) → IsPassed P R → (b : Base) (m : Mutexes) (t id : ℕ) (order : Order) (timeout : ℤ) → P b → R (waits_or_ends b m t id order timeout).base
wait_keeps P R is b m t id order timeout has =
    either_done R (int_eq timeout (pos 0)) (record { base = b; table = m; outcome = failed er.TmOut })
    (record { base = make_wait b t (mutex_object id) order timeout; table = m; outcome = outcomes.Blocked }) (is.ends b has)
    (is.waits b t (mutex_object id) order timeout has)

waited_keeps : (P R : Base → Type 0) → IsPassed P R → (b : Base) (m : Mutexes) (t id : ℕ) (timeout : ℤ) (slot : Option Mutex) → P b →
    R (waited_for_mutex b m t id timeout slot).base
waited_keeps P R is b m t id timeout None has = is.ends b has
waited_keeps P R is b m t id timeout (Some k) has = either_done R (k.owner == 0) (table_changed b (locked m id k t) (pos 0)) (waits_or_ends b m t id k.order timeout) (is.ends b has) (wait_keeps P R is b m t id k.order timeout has)

-- each of them
pub mutex_calls_keep : (P R : Base → Type 0) → IsPassed P R → (b : Base) (m : Mutexes) (who : Who) (c : MutexCall) → P b → R (mutex_call b m who c).base
unfolding mutex_call calls.create_mutex calls.lock_mutex calls.unlock_mutex calls.refer_mutex calls.delete_mutex
mutex_calls_keep P R is b m who (call.CreMtx attributes ceiling) has = checked_keeps R (calls.create_checks m attributes ceiling) b m _ (is.ends b has) (is.ends b has)
mutex_calls_keep P R is b m who (call.LocMtx id timeout) has =
    checked_keeps R (calls.lock_checks b m who id timeout) b m _ (is.ends b has) (waited_keeps P R is b m (caller who) (natural id) timeout (mutex_at m (natural id)) has)
mutex_calls_keep P R is b m who (call.UnlMtx id) has = checked_keeps R (calls.unlock_checks b m who id) b m _ (is.ends b has) (is.ends b has)
mutex_calls_keep P R is b m who (call.RefMtx id) has = checked_keeps R (object_checks id (has_mutex m (natural id)) []) b m _ (is.ends b has) (is.ends b has)
mutex_calls_keep P R is b m who (call.DelMtx id) has =
    checked_keeps R (object_checks id (has_mutex m (natural id)) []) b m _ (is.ends b has) (is.ends _ (ended_keeps P R is b (natural id) (mutex_at m (natural id)) has))

-- ---- owners

abbrev Without : ℕ → MutexDone → Type 0
Without t done = OwnsNone t done.table

either_without : (t : ℕ) (test : Bool) (one other : MutexDone) → Without t one → Without t other → Without t (cond {A = MutexDone} test one other)
either_without t true one other first second = first
either_without t false one other first second = second

waited_without : (t : ℕ) (b : Base) (m : Mutexes) (u id : ℕ) (timeout : ℤ) (slot : Option Mutex) → 1 ≤ t → (u ≡ t → ⊥) → OwnsNone t m →
    Without t (waited_for_mutex b m u id timeout slot)
waited_without t b m u id timeout None one apart none = none
waited_without t b m u id timeout (Some k) one apart none =
    either_without t (k.owner == 0) (table_changed b (locked m id k u) (pos 0)) (waits_or_ends b m u id k.order timeout)
    (written_none m t id (Some (record k { owner = u })) (to_back id m.locks) none one apart)
    (either_without t (int_eq timeout (pos 0)) _ _ none none)

no_owner : (t : ℕ) → 1 ≤ t → 0 ≡ t → ⊥
no_owner t one is = omega (arith, one, is)

-- what checks refuse leaves the table
without_checked : (t : ℕ) (checks : List Check) (b : Base) (m : Mutexes) (effect : MutexDone) → OwnsNone t m → Without t effect → Without t (mutex_checked checks b m effect)
without_checked t checks b m effect none works = mutex_cases (Without t) checks b m effect (λ code. none) (λ passed. works)

-- the call of another task leaves the task owning none
pub call_without : (t : ℕ) (b : Base) (m : Mutexes) (who : Who) (c : MutexCall) → 1 ≤ t → (caller who ≡ t → ⊥) → OwnsNone t m → OwnsNone t (mutex_call b m who c).table
unfolding mutex_call calls.create_mutex calls.lock_mutex calls.unlock_mutex calls.refer_mutex calls.delete_mutex
call_without t b m who (call.CreMtx attributes ceiling) one apart none =
    without_checked t (calls.create_checks m attributes ceiling) b m _ none
    (written_none m t (calls.free_mutex m) (Some (calls.new_mutex attributes ceiling)) m.locks none one (no_owner t one))
call_without t b m who (call.LocMtx id timeout) one apart none =
    without_checked t (calls.lock_checks b m who id timeout) b m _ none (waited_without t b m (caller who) (natural id) timeout (mutex_at m (natural id)) one apart none)
call_without t b m who (call.UnlMtx id) one apart none =
    without_checked t (calls.unlock_checks b m who id) b m _ none
    (written_none m t (natural id) (option_map {T = Mutex} (λ k. record k { owner = 0 }) (mutex_at m (natural id))) (without (natural id) m.locks) none one (freed_owner (mutex_at m (natural id)) t one))
call_without t b m who (call.RefMtx id) one apart none = without_checked t (object_checks id (has_mutex m (natural id)) []) b m _ none none
call_without t b m who (call.DelMtx id) one apart none =
    without_checked t (object_checks id (has_mutex m (natural id)) []) b m _ none (written_none m t (natural id) None (without (natural id) m.locks) none one (no_owner t one))

-- ---- the call

-- a call on mutexes that another task makes, before what follows it
pub mutex_called : (row : Option Task) (t : ℕ) (mode : Mode) (n : ℕ) (st : State) (u : ℕ) (c : MutexCall) → 1 ≤ t → may_run row ≡ true → (caller (who_of u) ≡ t → ⊥) →
    Stands row t (OwnsNone t) (parts_of st) →
    StandsIf row t (OwnsNone t) (parts_of (called mode n st u (all_calls.Mutex c)).state)
unfolding family_call
mutex_called row t mode n st u c one ready apart has =
    called_has (StandsIf row t (OwnsNone t)) mode n st u (all_calls.Mutex c) (λ it same. cc same)
    (λ now. record {
      place = record {
        base = mutex_calls_keep (HasPlace row t) (PlaceIfReady row t) (place_passes row t ready) st.base st.objects.mutexes (who_of u) c has.place.base now;
        mutexes = call_without t st.base st.objects.mutexes (who_of u) c one apart has.place.mutexes;
      };
      few = has.few;
    })

-- and with all that follows it
pub mutex_followed : (row : Option Task) (t : ℕ) (script : Script) (mode : Mode) (n : ℕ) (st : State) (u : ℕ) (c : MutexCall) → Settles row t (OwnsNone t) →
    (caller (who_of u) ≡ t → ⊥) → Stands row t (OwnsNone t) (parts_of st) →
    is_ready (called mode n st u (all_calls.Mutex c)).state.base t ≡ true → Stands row t (OwnsNone t) (parts_of (followed script mode n (called mode n st u (all_calls.Mutex c)).state).state)
mutex_followed row t script mode n st u c settles apart has now =
    stands_followed row t (OwnsNone t) script mode n (called mode n st u (all_calls.Mutex c)).state settles
    (mutex_called row t mode n st u c settles.least settles.ready apart has now)
