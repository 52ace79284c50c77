-- What each move of the base keeps, each call on mutexes keeps, and each change of priorities in settling.
use Rattle.std.proofs.Common.{ℕ, Bool, true, false, cond, List, [], ◌∷◌, Option, Some, None, ℤ, pos}
use Rattle.std.specs.Bool.{◌==◌}
use Rattle.std.specs.Prelude.{drop, fold}
use Rattle.std.specs.Ordering.{int_eq}
use Rattle.tk_types.specs.declared.answer.Who.{Who}
use Rattle.tk_types.specs.declared.answer.Outcome.TheVariants as outcomes
use Rattle.tk_types.specs.declared.calls.MutexCall.{MutexCall}
use Rattle.tk_types.specs.declared.calls.MutexCall.TheVariants as call
use Rattle.tk_types.specs.declared.error_code.Er.{Er}
use Rattle.tk_types.specs.declared.error_code.Er.TheVariants as er
use Rattle.tk_types.specs.declared.task.Order.{Order}
use Rattle.kernel_model.specs.Words.Checks.{Check, failed, first_error, natural}
use Rattle.kernel_model.specs.Words.Orders.{taken_from}
use Rattle.kernel_model.specs.Tasks.Base.{Base, current, make_wait, set_current}
use Rattle.kernel_model.specs.Tasks.Calls.{caller}
use Rattle.kernel_model.specs.SemFlags.Calls.{object_checks}
use Rattle.object_model.specs.declared.mutexes.Mutex.{Mutex}
use Rattle.object_model.specs.Mutexes.Tables.{Mutexes, has_mutex, locked, mutex_at, mutex_object}
use Rattle.object_model.specs.Mutexes.Priority.{current_of, refresh, resettle}
use Rattle.object_model.specs.Mutexes.Calls as calls
use Rattle.object_model.specs.Mutexes.Calls.{MutexDone, mutex_call, mutex_checked, mutex_waits_ended, refused_with, table_changed, waited_for_mutex, waits_or_ends}
use Rattle.call_walk.proofs.BaseMoves.{IsStillProof, either_base, end_waits_keeps}

refused_keeps : (P : Base → Type 0) (error : Option Er) (b : Base) (m : Mutexes) (effect : MutexDone) → P b → P effect.base → P (refused_with error b m effect).base
refused_keeps P (Some error) b m effect has works = has
refused_keeps P None b m effect has works = works

-- a call is refused and leaves the base, or has its effect
checked_keeps : (P : Base → Type 0) (checks : List Check) (b : Base) (m : Mutexes) (effect : MutexDone) → P b → P effect.base → P (mutex_checked checks b m effect).base
checked_keeps P checks b m effect has works = refused_keeps P (first_error checks) b m effect has works

either_done : (P : Base → Type 0) (test : Bool) (one other : MutexDone) → P one.base → P other.base → P (cond {A = MutexDone} test one other).base
either_done P true one other first second = first
either_done P false one other first second = second

ended_keeps : (P : Base → Type 0) → IsStillProof P → (b : Base) (id : ℕ) (slot : Option Mutex) → P b → P (mutex_waits_ended b id slot)
ended_keeps P is b id None has = has
ended_keeps P is b id (Some k) has = end_waits_keeps P is k.order (mutex_object id) b has

wait_keeps : (P : Base → Type 0) → IsStillProof P → (b : Base) (m : Mutexes) (t id : ℕ) (order : Order) (timeout : ℤ) → P b → P (waits_or_ends b m t id order timeout).base
wait_keeps P is b m t id order timeout has =
    either_done P (int_eq timeout (pos 0)) (record { base = b; table = m; outcome = failed er.TmOut }) (record { base = make_wait b t (mutex_object id) order timeout; table = m; outcome = outcomes.Blocked }) has (is.waits b t (mutex_object id) order timeout has)

waited_keeps : (P : Base → Type 0) → IsStillProof P → (b : Base) (m : Mutexes) (t id : ℕ) (timeout : ℤ) (slot : Option Mutex) → P b → P (waited_for_mutex b m t id timeout slot).base
waited_keeps P is b m t id timeout None has = has
waited_keeps P is b m t id timeout (Some k) has = either_done P (k.owner == 0) (table_changed b (locked m id k t) (pos 0)) (waits_or_ends b m t id k.order timeout) has (wait_keeps P is b m t id k.order timeout has)

pub mutex_calls_keep : (P : Base → Type 0) → IsStillProof P → (b : Base) (m : Mutexes) (who : Who) (c : MutexCall) → P b → P (mutex_call b m who c).base
unfolding mutex_call calls.create_mutex calls.lock_mutex calls.unlock_mutex calls.refer_mutex calls.delete_mutex
mutex_calls_keep P is b m who (call.CreMtx attributes ceiling) has = checked_keeps P (calls.create_checks m attributes ceiling) b m _ has has
mutex_calls_keep P is b m who (call.LocMtx id timeout) has = checked_keeps P (calls.lock_checks b m who id timeout) b m _ has (waited_keeps P is b m (caller who) (natural id) timeout (mutex_at m (natural id)) has)
mutex_calls_keep P is b m who (call.UnlMtx id) has = checked_keeps P (calls.unlock_checks b m who id) b m _ has has
mutex_calls_keep P is b m who (call.RefMtx id) has = checked_keeps P (object_checks id (has_mutex m (natural id)) []) b m _ has has
mutex_calls_keep P is b m who (call.DelMtx id) has =
    checked_keeps P (object_checks id (has_mutex m (natural id)) []) b m _ has (ended_keeps P is b (natural id) (mutex_at m (natural id)) has)

-- ---- priorities

-- a priority that isn't that of its definition is taken over
pub refresh_keeps : (P : Base → Type 0) → IsStillProof P → (m : Mutexes) (b : Base) (t : ℕ) → P b → P (refresh m b t)
refresh_keeps P is m b t has = either_base P (current b t == current_of b m t) b (set_current b t (current_of b m t)) has (is.refreshed b t (current_of b m t) has)

each_keeps : (P : Base → Type 0) → IsStillProof P → (m : Mutexes) (ids : List ℕ) (b : Base) → P b → P (fold (refresh m) b ids)
each_keeps P is m [] b has = has
each_keeps P is m (t ∷ ids) b has = each_keeps P is m ids (refresh m b t) (refresh_keeps P is m b t has)

-- so are all of them
pub resettle_keeps : (P : Base → Type 0) → IsStillProof P → (b : Base) (m : Mutexes) → P b → P (resettle b m)
unfolding resettle
resettle_keeps P is b m has = each_keeps P is m (taken_from 1 (drop 1 b.tasks)) b has
