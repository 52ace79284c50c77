-- Every call on mutexes leaves what the tasks that wait have asked for: whoever waits for one asks for nothing of a buffer or a
-- pool.
use Rattle.std.proofs.Common.{◌≡◌, ℕ, ◌≤◌, Bool, true, false, cond, List, [], Option, Some, None, refl, ℤ, pos, arith}
use Rattle.std.specs.Bool.{◌==◌}
use Rattle.std.specs.Ordering.{int_eq}
use Rattle.tk_types.specs.declared.answer.Who.{Who}
use Rattle.tk_types.specs.declared.calls.MutexCall.{MutexCall}
use Rattle.tk_types.specs.declared.calls.MutexCall.TheVariants as call
use Rattle.tk_types.specs.declared.error_code.Er.{Er}
use Rattle.kernel_model.specs.Words.Checks.{Check, first_error, natural}
use Rattle.kernel_model.specs.Tasks.Base.{Base}
use Rattle.kernel_model.specs.Tasks.Calls.{caller}
use Rattle.kernel_model.specs.SemFlags.Calls.{object_checks}
use Rattle.object_model.specs.declared.mutexes.Mutex.{Mutex}
use Rattle.object_model.specs.Mutexes.Tables.{Mutexes, has_mutex, mutex_at, mutex_object}
use Rattle.object_model.specs.Mutexes.Calls as calls
use Rattle.object_model.specs.Mutexes.Calls.{MutexDone, mutex_call, mutex_checked, mutex_waits_ended, refused_with, waited_for_mutex}
use Rattle.call_lemmas.proofs.Checked.{holds_at}
use Rattle.order_lemmas.proofs.Ranges.{known_id}
use Rattle.ask_lemmas.proofs.Asked.{Quietly, quiet_low}
use Rattle.ask_lemmas.proofs.Asks.{AllAsk, Asks, ended_asks, wait_asks}

refused_asks : (asks : Asks) (error : Option Er) (b : Base) (m : Mutexes) (effect : MutexDone) → AllAsk asks b → (error ≡ None → AllAsk asks effect.base) →
    AllAsk asks (refused_with error b m effect).base
refused_asks asks (Some error) b m effect all works = all
refused_asks asks None b m effect all works = works refl

checked_asks : (asks : Asks) (checks : List Check) (b : Base) (m : Mutexes) (effect : MutexDone) → AllAsk asks b → (first_error checks ≡ None → AllAsk asks effect.base) →
    AllAsk asks (mutex_checked checks b m effect).base
checked_asks asks checks b m effect all works = refused_asks asks (first_error checks) b m effect all works

either_asks : (asks : Asks) (test : Bool) (one other : MutexDone) → AllAsk asks one.base → AllAsk asks other.base → AllAsk asks (cond {A = MutexDone} test one other).base
either_asks asks true one other first second = first
either_asks asks false one other first second = second

ended : (asks : Asks) (b : Base) (id : ℕ) (slot : Option Mutex) → AllAsk asks b → AllAsk asks (mutex_waits_ended b id slot)
ended asks b id None all = all
ended asks b id (Some k) all = ended_asks asks k.order (mutex_object id) b all

waited : (asks : Asks) → Quietly asks → (b : Base) (m : Mutexes) (t id : ℕ) (timeout : ℤ) (slot : Option Mutex) → id ≤ 64 → AllAsk asks b →
    AllAsk asks (waited_for_mutex b m t id timeout slot).base
waited asks quiet b m t id timeout None most all = all
waited asks quiet b m t id timeout (Some k) most all =
    either_asks asks (k.owner == 0) _ _ all
    (either_asks asks (int_eq timeout (pos 0)) _ _ all
    (wait_asks asks b t (mutex_object id) k.order timeout (quiet t (mutex_object id) (quiet_low (mutex_object id) (omega (arith, most)))) all))

-- every call on mutexes
pub mutex_calls_ask : (asks : Asks) → Quietly asks → (b : Base) (m : Mutexes) (who : Who) (c : MutexCall) → AllAsk asks b → AllAsk asks (mutex_call b m who c).base
unfolding mutex_call calls.create_mutex calls.lock_mutex calls.unlock_mutex calls.refer_mutex calls.delete_mutex
mutex_calls_ask asks quiet b m who (call.CreMtx attributes ceiling) all = checked_asks asks (calls.create_checks m attributes ceiling) b m _ all (λ none. all)
mutex_calls_ask asks quiet b m who (call.LocMtx id timeout) all =
    checked_asks asks (calls.lock_checks b m who id timeout) b m _ all
    (λ none. let known = known_id 64 id (holds_at 0 (calls.lock_checks b m who id timeout) none) in
    waited asks quiet b m (caller who) (natural id) timeout (mutex_at m (natural id)) known.1 all)
mutex_calls_ask asks quiet b m who (call.UnlMtx id) all = checked_asks asks (calls.unlock_checks b m who id) b m _ all (λ none. all)
mutex_calls_ask asks quiet b m who (call.RefMtx id) all = checked_asks asks (object_checks id (has_mutex m (natural id)) []) b m _ all (λ none. all)
mutex_calls_ask asks quiet b m who (call.DelMtx id) all =
    checked_asks asks (object_checks id (has_mutex m (natural id)) []) b m _ all (λ none. ended asks b (natural id) (mutex_at m (natural id)) all)
