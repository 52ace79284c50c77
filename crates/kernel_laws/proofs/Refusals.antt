-- A call that answers an error has changed nothing.
use Rattle.std.proofs.Common.{◌≡◌, ℕ, suc, zero, Bool, true, false, List, [], ◌∷◌, Option, Some, None, refl, cond, ◌∙◌, ap, ℤ, pos, negsuc, arith}
use Rattle.std.specs.Prelude.{nat_lt}
use Rattle.std.specs.Int.{is_negative}
use Rattle.std.proofs.lemmas.Bool.Decides.{nat_tests}
use Rattle.std.specs.Ordering.{int_eq}
use Rattle.tk_types.specs.declared.task.Order.TheVariants.{Fifo}
use Rattle.tk_types.specs.declared.answer.Answer.{Answer}
use Rattle.tk_types.specs.declared.answer.Who.{Who}
use Rattle.tk_types.specs.declared.answer.Outcome.{Outcome}
use Rattle.tk_types.specs.declared.answer.Outcome.TheVariants.{Returned, Blocked}
use Rattle.tk_types.specs.declared.error_code.Er.TheVariants as er
use Rattle.tk_types.specs.declared.calls.SemFlagCall.{SemFlagCall}
use Rattle.tk_types.specs.declared.calls.SemFlagCall.TheVariants as ask
use Rattle.tk_types.specs.declared.calls.TaskCall.{TaskCall}
use Rattle.tk_types.specs.declared.calls.TaskCall.TheVariants as call
use Rattle.kernel_model.specs.declared.objects.Semaphore.{Semaphore}
use Rattle.kernel_model.specs.declared.objects.EventFlag.{EventFlag}
use Rattle.kernel_model.specs.declared.objects.FlagWish.{FlagWish}
use Rattle.kernel_model.specs.Words.Checks.{Check, ◌otherwise◌, within, natural, failed, done}
use Rattle.kernel_model.specs.Tasks.Base.{Base, free_task, create, take_bytes, wakeups_of, make_wait, rotate, set_wakeups}
use Rattle.kernel_model.specs.SemFlags.Tables.{SemFlags, sem_at, flag_at, flag_answer, has_bits}
use Rattle.kernel_model.specs.SemFlags.Calls as SemFlagCalls
use Rattle.kernel_model.specs.SemFlags.Calls.{SemFlagDone, sem_flag_call, sem_flag_checked, create_sem, create_flag, delete_sem, delete_flag, refer_sem, refer_flag, signal_sem, set_flag, clear_flag, wait_sem, wait_flag}
use Rattle.kernel_model.specs.Tasks.Calls as TaskCalls
use Rattle.kernel_model.specs.Tasks.Calls.{TaskDone, checked, task_call, create_task, delete_task, start_task, exit_task, terminate_task, change_priority, rotate_ready, get_task, refer_task, sleep, delay, wake_up, cancel_wakeups, release_wait, suspend_task, resume_task}
use Rattle.call_lemmas.proofs.Checked.{checked_cases, sem_flag_cases}

-- where a call has answered an error, the base is as it was
abbrev pub IsKept : Base → TaskDone → Type 0
IsKept b result = (answer : Answer) → result.outcome ≡ Returned answer → is_negative answer.value ≡ true → result.base ≡ b

abbrev value_in : Outcome → ℤ
value_in (Returned answer) = answer.value
value_in _ = pos 0

-- a number from 0 on is no error
no_error : (n : ℕ) (answer : Answer) → done (pos n) ≡ Returned answer → is_negative answer.value ≡ true → ⊥
no_error n answer is error = let none : nat_lt n 0 ≡ true = ap (λ outcome. is_negative (value_in outcome)) is ∙ error in grind (arith, nat_tests, none)

-- a call that answers no error may change what it likes, and so may one that makes its caller wait
answers_none : (b c : Base) (n : ℕ) → IsKept b (record { base = c; outcome = done (pos n) })
answers_none b c n answer is error = absurd (no_error n answer is error)

waits : (b c : Base) → IsKept b (record { base = c; outcome = Blocked })
waits b c answer is error = absurd (cc is)

-- a call is refused, or it works and answers no error
works_or_not : (b c : Base) (n : ℕ) (checks : List Check) → IsKept b (checked checks b (record { base = c; outcome = done (pos n) }))
works_or_not b c n checks = checked_cases (IsKept b) checks b (record { base = c; outcome = done (pos n) }) (λ code answer is error. refl) (λ none. answers_none b c n)

slept_if : (b c : Base) (over : Bool) → IsKept b (cond {A = TaskDone} over (record { base = b; outcome = failed er.TmOut }) (record { base = c; outcome = Blocked }))
slept_if b c true = λ answer is error. refl
slept_if b c false = waits b c

slept_kept : (b : Base) (t : ℕ) (timeout : ℤ) (requests : ℕ) → IsKept b (TaskCalls.slept b t timeout requests)
slept_kept b t timeout zero = slept_if b (make_wait b t TaskCalls.sleep_object Fifo timeout) (int_eq timeout (pos 0))
slept_kept b t timeout (suc requests) = answers_none b (set_wakeups b t requests) 0

delayed_if : (b c : Base) (over : Bool) → IsKept b (cond {A = TaskDone} over (TaskCalls.finished b) (record { base = c; outcome = Blocked }))
delayed_if b c true = λ answer is error. refl
delayed_if b c false = waits b c

-- a call that answers an error has changed nothing
pub refused_call : (b : Base) (who : Who) (call : TaskCall) → IsKept b (task_call b who call)
unfolding task_call create_task delete_task start_task exit_task terminate_task change_priority rotate_ready get_task refer_task sleep delay wake_up cancel_wakeups release_wait suspend_task resume_task
refused_call b who (call.CreTsk attributes body priority stack) = works_or_not b (create (take_bytes b (natural stack)) (free_task b) (natural priority) (natural stack)) (free_task b) (TaskCalls.create_checks b attributes priority stack)
refused_call b who (call.DelTsk task) = works_or_not b _ 0 (TaskCalls.delete_checks b task)
refused_call b who (call.StaTsk task code) = works_or_not b _ 0 (TaskCalls.start_checks b task code)
refused_call b who call.ExtTsk = answers_none b _ 0
refused_call b who call.ExdTsk = answers_none b _ 0
refused_call b who (call.TerTsk task) = works_or_not b _ 0 (TaskCalls.terminate_checks b who task)
refused_call b who (call.ChgPri task priority) = works_or_not b _ 0 (TaskCalls.change_checks b who task priority)
refused_call b who (call.RotRdq priority) = works_or_not b (rotate b (TaskCalls.rotated_priority b priority)) 0 ((within 0 140 priority otherwise er.Par) ∷ [])
refused_call b who call.GetTid = λ answer is error. refl
refused_call b who (call.RefTsk task) = checked_cases (IsKept b) (TaskCalls.named_checks b who task) b _ (λ code answer is error. refl) (λ none answer is error. refl)
refused_call b who (call.SlpTsk timeout) = checked_cases (IsKept b) (TaskCalls.waiting_checks b who (negsuc 0) timeout) b _ (λ code answer is error. refl) (λ none. slept_kept b (TaskCalls.caller who) timeout (wakeups_of b (TaskCalls.caller who)))
refused_call b who (call.WupTsk task) = works_or_not b _ 0 (TaskCalls.wake_up_checks b who task)
refused_call b who (call.CanWup task) = works_or_not b _ (wakeups_of b (TaskCalls.named who task)) (TaskCalls.cancel_checks b who task)
refused_call b who (call.RelWai task) = works_or_not b _ 0 (TaskCalls.release_checks b task)
refused_call b who (call.SusTsk task) = works_or_not b _ 0 (TaskCalls.suspend_checks b who task)
refused_call b who (call.RsmTsk task) = works_or_not b _ 0 (TaskCalls.resume_checks b task)
refused_call b who (call.FrsmTsk task) = works_or_not b _ 0 (TaskCalls.resume_checks b task)
refused_call b who (call.DlyTsk time) = checked_cases (IsKept b) (TaskCalls.waiting_checks b who (pos 0) time) b _ (λ code answer is error. refl) (λ none. delayed_if b (make_wait b (TaskCalls.caller who) TaskCalls.delay_object Fifo time) (int_eq time (pos 0)))

-- ---- semaphores and event flags

-- where a call has answered an error, the base is as it was, and so are the tables
abbrev pub AreKept : Base → SemFlags → SemFlagDone → Type 0
AreKept b s result = (answer : Answer) → result.outcome ≡ Returned answer → is_negative answer.value ≡ true → (result.base ≡ b) × (result.table ≡ s)

-- a call that answers no error may change what it likes
served_none : (b c : Base) (s now : SemFlags) (n : ℕ) → AreKept b s (record { base = c; table = now; outcome = done (pos n) })
served_none b c s now n answer is error = absurd (no_error n answer is error)

-- and one that changes nothing may answer what it likes
leaves : (b : Base) (s : SemFlags) (outcome : Outcome) → AreKept b s (record { base = b; table = s; outcome = outcome })
leaves b s outcome answer is error = (refl, refl)

-- a call is refused, or its effect answers no error or changes nothing
kept_checked : (b : Base) (s : SemFlags) (checks : List Check) (effect : SemFlagDone) → AreKept b s effect → AreKept b s (sem_flag_checked checks b s effect)
kept_checked b s checks effect works = sem_flag_cases (AreKept b s) checks b s effect (λ code. leaves b s (failed code)) (λ none. works)

or_waits : (b c : Base) (s asked : SemFlags) (over : Bool) → AreKept b s (cond {A = SemFlagDone} over (record { base = b; table = s; outcome = failed er.TmOut }) (record { base = c; table = asked; outcome = Blocked }))
or_waits b c s asked true = leaves b s (failed er.TmOut)
or_waits b c s asked false = λ answer is error. absurd (cc is)

sem_at_once : (b : Base) (s now : SemFlags) (late : SemFlagDone) (at_once : Bool) → AreKept b s late → AreKept b s (cond at_once (SemFlagCalls.tables_changed b now (pos 0)) late)
sem_at_once b s now late true waits = served_none b b s now 0
sem_at_once b s now late false waits = waits

sem_waited : (b : Base) (s : SemFlags) (t id n : ℕ) (timeout : ℤ) (slot : Option Semaphore) → AreKept b s (SemFlagCalls.waited_for_sem b s t id n timeout slot)
sem_waited b s t id n timeout None = leaves b s (failed er.NoExs)
sem_waited b s t id n timeout (Some k) = sem_at_once b s _ _ (SemFlagCalls.serves_at_once b k id t n) (or_waits b _ s _ (int_eq timeout (pos 0)))

flag_at_once : (b : Base) (s now : SemFlags) (k : EventFlag) (late : SemFlagDone) (at_once : Bool) → AreKept b s late → AreKept b s (cond {A = SemFlagDone} at_once (record { base = b; table = now; outcome = Returned (flag_answer k) }) late)
flag_at_once b s now k late true waits = λ answer is error. absurd (cc (ap (λ outcome. is_negative (value_in outcome)) is ∙ error))
flag_at_once b s now k late false waits = waits

flag_waited : (b : Base) (s : SemFlags) (t id : ℕ) (wish : FlagWish) (timeout : ℤ) (slot : Option EventFlag) → AreKept b s (SemFlagCalls.waited_for_flag b s t id wish timeout slot)
flag_waited b s t id wish timeout None = leaves b s (failed er.NoExs)
flag_waited b s t id wish timeout (Some k) = flag_at_once b s _ k _ (has_bits k.pattern wish) (or_waits b _ s _ (int_eq timeout (pos 0)))

-- a call on semaphores and event flags that answers an error has changed nothing
pub refused_sem_flag_call : (b : Base) (s : SemFlags) (who : Who) (call : SemFlagCall) → AreKept b s (sem_flag_call b s who call)
unfolding sem_flag_call create_sem create_flag delete_sem delete_flag refer_sem refer_flag signal_sem set_flag clear_flag wait_sem wait_flag
refused_sem_flag_call b s who (ask.CreSem attributes count most) = kept_checked b s (SemFlagCalls.create_sem_checks s attributes count most) _ (served_none b b s _ (SemFlagCalls.free_sem s))
refused_sem_flag_call b s who (ask.SigSem id count) = kept_checked b s (SemFlagCalls.signal_checks s id count) _ (served_none b b s _ 0)
refused_sem_flag_call b s who (ask.WaiSem id count timeout) =
    kept_checked b s (SemFlagCalls.wait_sem_checks b s who id count timeout) _ (sem_waited b s (TaskCalls.caller who) (natural id) (natural count) timeout (sem_at s (natural id)))
refused_sem_flag_call b s who (ask.RefSem id) = kept_checked b s (SemFlagCalls.object_checks id (SemFlagCalls.has_sem s id) []) _ (leaves b s _)
refused_sem_flag_call b s who (ask.CreFlg attributes pattern) = kept_checked b s (SemFlagCalls.create_flag_checks s attributes) _ (served_none b b s _ (SemFlagCalls.free_flag s))
refused_sem_flag_call b s who (ask.SetFlg id pattern) = kept_checked b s (SemFlagCalls.object_checks id (SemFlagCalls.has_flag s id) []) _ (served_none b b s _ 0)
refused_sem_flag_call b s who (ask.ClrFlg id pattern) = kept_checked b s (SemFlagCalls.object_checks id (SemFlagCalls.has_flag s id) []) _ (served_none b b s _ 0)
refused_sem_flag_call b s who (ask.WaiFlg id bits mode timeout) =
    kept_checked b s (SemFlagCalls.wait_flag_checks b s who id bits mode timeout) _ (flag_waited b s (TaskCalls.caller who) (natural id) _ timeout (flag_at s (natural id)))
refused_sem_flag_call b s who (ask.RefFlg id) = kept_checked b s (SemFlagCalls.object_checks id (SemFlagCalls.has_flag s id) []) _ (leaves b s _)
refused_sem_flag_call b s who (ask.DelSem id) = kept_checked b s (SemFlagCalls.object_checks id (SemFlagCalls.has_sem s id) []) _ (served_none b _ s _ 0)
refused_sem_flag_call b s who (ask.DelFlg id) = kept_checked b s (SemFlagCalls.object_checks id (SemFlagCalls.has_flag s id) []) _ (served_none b _ s _ 0)
