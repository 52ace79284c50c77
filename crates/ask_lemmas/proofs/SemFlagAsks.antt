-- Every call on semaphores and event flags leaves what the tasks that wait have asked for: whoever waits for one asks for nothing
-- of a buffer or a pool.
use Rattle.std.proofs.Common.{◌≡◌, ℕ, ◌≤◌, Bool, true, false, cond, List, [], Option, Some, None, ℤ, pos, arith}
use Rattle.std.specs.Ordering.{int_eq}
use Rattle.tk_types.specs.declared.answer.Who.{Who}
use Rattle.tk_types.specs.declared.calls.SemFlagCall.{SemFlagCall}
use Rattle.tk_types.specs.declared.calls.SemFlagCall.TheVariants as call
use Rattle.kernel_model.specs.declared.objects.EventFlag.{EventFlag}
use Rattle.kernel_model.specs.declared.objects.FlagWish.{FlagWish}
use Rattle.kernel_model.specs.declared.objects.Semaphore.{Semaphore}
use Rattle.kernel_model.specs.Words.Checks.{Check, first_error, natural}
use Rattle.kernel_model.specs.Tasks.Base.{Base}
use Rattle.kernel_model.specs.Tasks.Calls.{caller}
use Rattle.kernel_model.specs.SemFlags.Tables.{SemFlags, flag_at, flag_object, has_bits, sem_at, sem_object}
use Rattle.kernel_model.specs.SemFlags.Calls as calls
use Rattle.kernel_model.specs.SemFlags.Calls.{SemFlagDone, flag_waits_ended, has_flag, has_sem, object_checks, sem_flag_call, sem_flag_checked, sem_waits_ended, serves_at_once, waited_for_flag, waited_for_sem}
use Rattle.call_lemmas.proofs.Checked.{holds_at, sem_flag_cases}
use Rattle.order_lemmas.proofs.Ranges.{known_id}
use Rattle.ask_lemmas.proofs.Asked.{Quietly, quiet_low}
use Rattle.ask_lemmas.proofs.Asks.{AllAsk, Asks, ended_asks, wait_asks}

checked_asks : (asks : Asks) (checks : List Check) (b : Base) (s : SemFlags) (effect : SemFlagDone) → AllAsk asks b → (first_error checks ≡ None → AllAsk asks effect.base) →
    AllAsk asks (sem_flag_checked checks b s effect).base
checked_asks asks checks b s effect all works = sem_flag_cases (λ done. AllAsk asks done.base) checks b s effect (λ code. all) works

either_asks : (asks : Asks) (test : Bool) (one other : SemFlagDone) → AllAsk asks one.base → AllAsk asks other.base → AllAsk asks (cond {A = SemFlagDone} test one other).base
either_asks asks true one other first second = first
either_asks asks false one other first second = second

sem_ended : (asks : Asks) (b : Base) (id : ℕ) (slot : Option Semaphore) → AllAsk asks b → AllAsk asks (sem_waits_ended b id slot)
sem_ended asks b id None all = all
sem_ended asks b id (Some k) all = ended_asks asks k.order (sem_object id) b all

flag_ended : (asks : Asks) (b : Base) (id : ℕ) (slot : Option EventFlag) → AllAsk asks b → AllAsk asks (flag_waits_ended b id slot)
flag_ended asks b id None all = all
flag_ended asks b id (Some k) all = ended_asks asks k.order (flag_object id) b all

sem_waited : (asks : Asks) → Quietly asks → (b : Base) (s : SemFlags) (t id n : ℕ) (timeout : ℤ) (slot : Option Semaphore) → id ≤ 64 → AllAsk asks b →
    AllAsk asks (waited_for_sem b s t id n timeout slot).base
sem_waited asks quiet b s t id n timeout None most all = all
sem_waited asks quiet b s t id n timeout (Some k) most all =
    either_asks asks (serves_at_once b k id t n) _ _ all
    (either_asks asks (int_eq timeout (pos 0)) _ _ all
    (wait_asks asks b t (sem_object id) k.order timeout (quiet t (sem_object id) (quiet_low (sem_object id) (omega (arith, most)))) all))

flag_waited : (asks : Asks) → Quietly asks → (b : Base) (s : SemFlags) (t id : ℕ) (wish : FlagWish) (timeout : ℤ) (slot : Option EventFlag) → id ≤ 64 → AllAsk asks b →
    AllAsk asks (waited_for_flag b s t id wish timeout slot).base
flag_waited asks quiet b s t id wish timeout None most all = all
flag_waited asks quiet b s t id wish timeout (Some k) most all =
    either_asks asks (has_bits k.pattern wish) _ _ all
    (either_asks asks (int_eq timeout (pos 0)) _ _ all
    (wait_asks asks b t (flag_object id) k.order timeout (quiet t (flag_object id) (quiet_low (flag_object id) (omega (arith, most)))) all))

-- every call on semaphores and event flags
pub sem_flag_calls_ask : (asks : Asks) → Quietly asks → (b : Base) (s : SemFlags) (who : Who) (c : SemFlagCall) → AllAsk asks b → AllAsk asks (sem_flag_call b s who c).base
unfolding sem_flag_call calls.create_sem calls.create_flag calls.delete_sem calls.delete_flag calls.signal_sem calls.set_flag calls.clear_flag calls.refer_sem calls.refer_flag calls.wait_sem calls.wait_flag
sem_flag_calls_ask asks quiet b s who (call.CreSem attributes count most) all = checked_asks asks (calls.create_sem_checks s attributes count most) b s _ all (λ none. all)
sem_flag_calls_ask asks quiet b s who (call.SigSem id count) all = checked_asks asks (calls.signal_checks s id count) b s _ all (λ none. all)
sem_flag_calls_ask asks quiet b s who (call.WaiSem id count timeout) all =
    checked_asks asks (calls.wait_sem_checks b s who id count timeout) b s _ all
    (λ none. let known = known_id 64 id (holds_at 0 (calls.wait_sem_checks b s who id count timeout) none) in
    sem_waited asks quiet b s (caller who) (natural id) (natural count) timeout (sem_at s (natural id)) known.1 all)
sem_flag_calls_ask asks quiet b s who (call.RefSem id) all = checked_asks asks (object_checks id (has_sem s id) []) b s _ all (λ none. all)
sem_flag_calls_ask asks quiet b s who (call.CreFlg attributes pattern) all = checked_asks asks (calls.create_flag_checks s attributes) b s _ all (λ none. all)
sem_flag_calls_ask asks quiet b s who (call.SetFlg id pattern) all = checked_asks asks (object_checks id (has_flag s id) []) b s _ all (λ none. all)
sem_flag_calls_ask asks quiet b s who (call.ClrFlg id pattern) all = checked_asks asks (object_checks id (has_flag s id) []) b s _ all (λ none. all)
sem_flag_calls_ask asks quiet b s who (call.WaiFlg id bits mode timeout) all =
    checked_asks asks (calls.wait_flag_checks b s who id bits mode timeout) b s _ all
    (λ none. let known = known_id 64 id (holds_at 0 (calls.wait_flag_checks b s who id bits mode timeout) none) in
    flag_waited asks quiet b s (caller who) (natural id) _ timeout (flag_at s (natural id)) known.1 all)
sem_flag_calls_ask asks quiet b s who (call.RefFlg id) all = checked_asks asks (object_checks id (has_flag s id) []) b s _ all (λ none. all)
sem_flag_calls_ask asks quiet b s who (call.DelSem id) all =
    checked_asks asks (object_checks id (has_sem s id) []) b s _ all (λ none. sem_ended asks b (natural id) (sem_at s (natural id)) all)
sem_flag_calls_ask asks quiet b s who (call.DelFlg id) all =
    checked_asks asks (object_checks id (has_flag s id) []) b s _ all (λ none. flag_ended asks b (natural id) (flag_at s (natural id)) all)
