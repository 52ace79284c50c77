-- What each call on mutexes makes: a wait for a lock may make one event.
use Rattle.std.proofs.Common.{ℕ, Bool, true, false, cond, List, [], Option, Some, None, ℤ, pos}
use Rattle.std.specs.Bool.{◌==◌}
use Rattle.std.specs.Ordering.{int_eq}
use Rattle.tk_types.specs.declared.answer.Who.{Who}
use Rattle.tk_types.specs.declared.answer.Outcome.TheVariants as outcomes
use Rattle.tk_types.specs.declared.calls.MutexCall.{MutexCall}
use Rattle.tk_types.specs.declared.calls.MutexCall.TheVariants as call
use Rattle.tk_types.specs.declared.error_code.Er.{Er}
use Rattle.tk_types.specs.declared.error_code.Er.TheVariants as er
use Rattle.tk_types.specs.declared.task.Order.{Order}
use Rattle.kernel_model.specs.Words.Checks.{Check, failed, first_error, natural}
use Rattle.kernel_model.specs.Tasks.Base.{Base, make_wait}
use Rattle.kernel_model.specs.Tasks.Calls.{caller}
use Rattle.kernel_model.specs.SemFlags.Calls.{object_checks}
use Rattle.object_model.specs.declared.mutexes.Mutex.{Mutex}
use Rattle.object_model.specs.Mutexes.Tables.{Mutexes, has_mutex, locked, mutex_at, mutex_object}
use Rattle.object_model.specs.Mutexes.Calls as calls
use Rattle.object_model.specs.Mutexes.Calls.{MutexDone, mutex_call, mutex_checked, mutex_waits_ended, refused_with, table_changed, waited_for_mutex, waits_or_ends}
use Rattle.count_lemmas.proofs.Making.{IsMaking, IsQuiet, ends_quiet}

refused_quiet : (P : Base → Type 0) (error : Option Er) (b : Base) (m : Mutexes) (effect : MutexDone) → P b → P effect.base → P (refused_with error b m effect).base
refused_quiet P (Some error) b m effect has works = has
refused_quiet P None b m effect has works = works

-- a call is refused and leaves the base, or has its effect
checked_quiet : (P : Base → Type 0) (checks : List Check) (b : Base) (m : Mutexes) (effect : MutexDone) → P b → P effect.base → P (mutex_checked checks b m effect).base
checked_quiet P checks b m effect has works = refused_quiet P (first_error checks) b m effect has works

either_done : (P : Base → Type 0) (test : Bool) (one other : MutexDone) → P one.base → P other.base → P (cond {A = MutexDone} test one other).base
either_done P true one other first second = first
either_done P false one other first second = second

ended_quiet : (P : Base → Type 0) → IsQuiet P → (b : Base) (id : ℕ) (slot : Option Mutex) → P b → P (mutex_waits_ended b id slot)
ended_quiet P is b id None has = has
ended_quiet P is b id (Some k) has = ends_quiet P is k.order (mutex_object id) b has

wait_makes : (P Q : Base → Type 0) → IsMaking P Q → (b : Base) (m : Mutexes) (t id : ℕ) (order : Order) (timeout : ℤ) → P b → Q (waits_or_ends b m t id order timeout).base
wait_makes P Q is b m t id order timeout has =
    either_done Q (int_eq timeout (pos 0)) (record { base = b; table = m; outcome = failed er.TmOut }) (record { base = make_wait b t (mutex_object id) order timeout; table = m; outcome = outcomes.Blocked }) (is.more _ has) (is.waits b t (mutex_object id) order timeout has)

waited_makes : (P Q : Base → Type 0) → IsMaking P Q → (b : Base) (m : Mutexes) (t id : ℕ) (timeout : ℤ) (slot : Option Mutex) → P b → Q (waited_for_mutex b m t id timeout slot).base
waited_makes P Q is b m t id timeout None has = is.more _ has
waited_makes P Q is b m t id timeout (Some k) has = either_done Q (k.owner == 0) (table_changed b (locked m id k t) (pos 0)) (waits_or_ends b m t id k.order timeout) (is.more _ has) (wait_makes P Q is b m t id k.order timeout has)

pub mutex_calls_make : (P Q : Base → Type 0) → IsMaking P Q → (b : Base) (m : Mutexes) (who : Who) (c : MutexCall) → P b → Q (mutex_call b m who c).base
unfolding mutex_call calls.create_mutex calls.lock_mutex calls.unlock_mutex calls.refer_mutex calls.delete_mutex
mutex_calls_make P Q is b m who (call.CreMtx attributes ceiling) has = is.more _ (checked_quiet P (calls.create_checks m attributes ceiling) b m _ has has)
mutex_calls_make P Q is b m who (call.LocMtx id timeout) has = checked_quiet Q (calls.lock_checks b m who id timeout) b m _ (is.more _ has) (waited_makes P Q is b m (caller who) (natural id) timeout (mutex_at m (natural id)) has)
mutex_calls_make P Q is b m who (call.UnlMtx id) has = is.more _ (checked_quiet P (calls.unlock_checks b m who id) b m _ has has)
mutex_calls_make P Q is b m who (call.RefMtx id) has = is.more _ (checked_quiet P (object_checks id (has_mutex m (natural id)) []) b m _ has has)
mutex_calls_make P Q is b m who (call.DelMtx id) has = is.more _ (checked_quiet P (object_checks id (has_mutex m (natural id)) []) b m _ has (ended_quiet P is.quiet b (natural id) (mutex_at m (natural id)) has))
