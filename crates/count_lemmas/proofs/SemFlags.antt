-- What each call on semaphores and event flags makes: a wait may make one event.
use Rattle.std.proofs.Common.{ℕ, Bool, true, false, cond, List, [], Option, Some, None, ℤ, pos}
use Rattle.std.specs.Ordering.{int_eq}
use Rattle.tk_types.specs.declared.answer.Who.{Who}
use Rattle.tk_types.specs.declared.answer.Outcome.TheVariants as outcomes
use Rattle.tk_types.specs.declared.calls.SemFlagCall.{SemFlagCall}
use Rattle.tk_types.specs.declared.calls.SemFlagCall.TheVariants as call
use Rattle.tk_types.specs.declared.error_code.Er.TheVariants as er
use Rattle.tk_types.specs.declared.task.Order.{Order}
use Rattle.kernel_model.specs.declared.objects.EventFlag.{EventFlag}
use Rattle.kernel_model.specs.declared.objects.FlagWish.{FlagWish}
use Rattle.kernel_model.specs.declared.objects.Semaphore.{Semaphore}
use Rattle.kernel_model.specs.Words.Checks.{Check, failed, natural}
use Rattle.kernel_model.specs.Tasks.Base.{Base, make_wait}
use Rattle.kernel_model.specs.Tasks.Calls.{caller}
use Rattle.kernel_model.specs.SemFlags.Tables.{SemFlags, flag_at, flag_object, has_bits, sem_at, sem_object}
use Rattle.kernel_model.specs.SemFlags.Calls as calls
use Rattle.kernel_model.specs.SemFlags.Calls.{SemFlagDone, flag_waits_ended, has_flag, has_sem, object_checks, sem_flag_call, sem_flag_checked, sem_waits_ended, serves_at_once, waited_for_flag, waited_for_sem, waits_or_ends}
use Rattle.call_lemmas.proofs.Checked.{sem_flag_cases}
use Rattle.count_lemmas.proofs.Making.{IsMaking, IsQuiet, ends_quiet}

-- a call is refused and leaves the base, or has its effect
checked_quiet : (P : Base → Type 0) (checks : List Check) (b : Base) (s : SemFlags) (effect : SemFlagDone) → P b → P effect.base → P (sem_flag_checked checks b s effect).base
checked_quiet P checks b s effect has works = sem_flag_cases (λ done. P done.base) checks b s effect (λ code. has) (λ none. works)

either_done : (P : Base → Type 0) (test : Bool) (one other : SemFlagDone) → P one.base → P other.base → P (cond {A = SemFlagDone} test one other).base
either_done P true one other first second = first
either_done P false one other first second = second

-- ---- deleting

sem_ended_quiet : (P : Base → Type 0) → IsQuiet P → (b : Base) (id : ℕ) (slot : Option Semaphore) → P b → P (sem_waits_ended b id slot)
sem_ended_quiet P is b id None has = has
sem_ended_quiet P is b id (Some k) has = ends_quiet P is k.order (sem_object id) b has

flag_ended_quiet : (P : Base → Type 0) → IsQuiet P → (b : Base) (id : ℕ) (slot : Option EventFlag) → P b → P (flag_waits_ended b id slot)
flag_ended_quiet P is b id None has = has
flag_ended_quiet P is b id (Some k) has = ends_quiet P is k.order (flag_object id) b has

-- ---- waiting

wait_makes : (P Q : Base → Type 0) → IsMaking P Q → (b : Base) (s : SemFlags) (t object : ℕ) (order : Order) (timeout : ℤ) (asked : SemFlags) → P b → Q (waits_or_ends b s t object order timeout asked).base
wait_makes P Q is b s t object order timeout asked has =
    either_done Q (int_eq timeout (pos 0)) (record { base = b; table = s; outcome = failed er.TmOut }) (record { base = make_wait b t object order timeout; table = asked; outcome = outcomes.Blocked }) (is.more _ has) (is.waits b t object order timeout has)

sem_makes : (P Q : Base → Type 0) → IsMaking P Q → (b : Base) (s : SemFlags) (t id n : ℕ) (timeout : ℤ) (slot : Option Semaphore) → P b → Q (waited_for_sem b s t id n timeout slot).base
sem_makes P Q is b s t id n timeout None has = is.more _ has
sem_makes P Q is b s t id n timeout (Some k) has = either_done Q (serves_at_once b k id t n) _ _ (is.more _ has) (wait_makes P Q is b s t (sem_object id) k.order timeout _ has)

flag_makes : (P Q : Base → Type 0) → IsMaking P Q → (b : Base) (s : SemFlags) (t id : ℕ) (wish : FlagWish) (timeout : ℤ) (slot : Option EventFlag) → P b → Q (waited_for_flag b s t id wish timeout slot).base
flag_makes P Q is b s t id wish timeout None has = is.more _ has
flag_makes P Q is b s t id wish timeout (Some k) has = either_done Q (has_bits k.pattern wish) _ _ (is.more _ has) (wait_makes P Q is b s t (flag_object id) k.order timeout _ has)

-- ---- all

pub sem_flag_calls_make : (P Q : Base → Type 0) → IsMaking P Q → (b : Base) (s : SemFlags) (who : Who) (c : SemFlagCall) → P b → Q (sem_flag_call b s who c).base
unfolding sem_flag_call calls.create_sem calls.create_flag calls.delete_sem calls.delete_flag calls.signal_sem calls.set_flag calls.clear_flag calls.refer_sem calls.refer_flag calls.wait_sem calls.wait_flag
sem_flag_calls_make P Q is b s who (call.CreSem attributes count most) has = is.more _ (checked_quiet P (calls.create_sem_checks s attributes count most) b s _ has has)
sem_flag_calls_make P Q is b s who (call.SigSem id count) has = is.more _ (checked_quiet P (calls.signal_checks s id count) b s _ has has)
sem_flag_calls_make P Q is b s who (call.WaiSem id count timeout) has =
    checked_quiet Q (calls.wait_sem_checks b s who id count timeout) b s _ (is.more _ has) (sem_makes P Q is b s (caller who) (natural id) (natural count) timeout (sem_at s (natural id)) has)
sem_flag_calls_make P Q is b s who (call.RefSem id) has = is.more _ (checked_quiet P (object_checks id (has_sem s id) []) b s _ has has)
sem_flag_calls_make P Q is b s who (call.CreFlg attributes pattern) has = is.more _ (checked_quiet P (calls.create_flag_checks s attributes) b s _ has has)
sem_flag_calls_make P Q is b s who (call.SetFlg id pattern) has = is.more _ (checked_quiet P (object_checks id (has_flag s id) []) b s _ has has)
sem_flag_calls_make P Q is b s who (call.ClrFlg id pattern) has = is.more _ (checked_quiet P (object_checks id (has_flag s id) []) b s _ has has)
sem_flag_calls_make P Q is b s who (call.WaiFlg id bits mode timeout) has =
    checked_quiet Q (calls.wait_flag_checks b s who id bits mode timeout) b s _ (is.more _ has) (flag_makes P Q is b s (caller who) (natural id) _ timeout (flag_at s (natural id)) has)
sem_flag_calls_make P Q is b s who (call.RefFlg id) has = is.more _ (checked_quiet P (object_checks id (has_flag s id) []) b s _ has has)
sem_flag_calls_make P Q is b s who (call.DelSem id) has = is.more _ (checked_quiet P (object_checks id (has_sem s id) []) b s _ has (sem_ended_quiet P is.quiet b (natural id) (sem_at s (natural id)) has))
sem_flag_calls_make P Q is b s who (call.DelFlg id) has = is.more _ (checked_quiet P (object_checks id (has_flag s id) []) b s _ has (flag_ended_quiet P is.quiet b (natural id) (flag_at s (natural id)) has))
