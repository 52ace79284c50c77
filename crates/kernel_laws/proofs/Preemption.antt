-- A task that makes a call and stays ready, with the priority that it has, stays the first of its equals, whoever runs
-- next, unless the call gives its place away.
use Rattle.std.proofs.Common.{◌≡◌, ℕ, suc, zero, ◌+◌, Bool, true, false, cond, ℤ, pos, negsuc, arith}
use Rattle.std.specs.Bool.{◌==◌}
use Rattle.std.specs.Ordering.{int_eq}
use Rattle.std.proofs.lemmas.Bool.Decides.{nat_tests}
use Rattle.tk_types.specs.declared.task.Order.TheVariants.{Fifo}
use Rattle.tk_types.specs.declared.answer.Who.TheVariants as whos
use Rattle.tk_types.specs.declared.answer.Outcome.TheVariants.{Blocked}
use Rattle.tk_types.specs.declared.error_code.Er.TheVariants as er
use Rattle.tk_types.specs.declared.calls.TaskCall.{TaskCall}
use Rattle.tk_types.specs.declared.calls.TaskCall.TheVariants as call
use Rattle.tk_types.specs.Codes.{code_of}
use Rattle.kernel_model.specs.Words.Checks.{plain, natural, failed}
use Rattle.kernel_model.specs.Tasks.Base.{Base, is_ready, waits_for, wakeups_of, free_task, release, make_wait, set_wakeups}
use Rattle.kernel_model.specs.Tasks.Calls as TaskCalls
use Rattle.kernel_model.specs.Tasks.Calls.{TaskDone, task_call, create_task, delete_task, start_task, exit_task, terminate_task, change_priority, rotate_ready, get_task, refer_task, sleep, delay, wake_up, cancel_wakeups, release_wait, suspend_task, resume_task}
use Rattle.kernel_model.specs.LawWords.Precedence.{KeepsPlace, gives_place_away}
use Rattle.call_lemmas.proofs.Checked.{checked_cases, holds_at}
use Rattle.kernel_lemmas.proofs.Places.{Keeps}
use Rattle.kernel_lemmas.proofs.Moves.{flags_keep, wakeups_keep, rebased_keep, release_keeps, suspend_keeps, resume_keeps, dormant_keeps, wait_keeps, create_keeps, delete_keeps, ready_keeps}

enabled_if : (b c : Base) (t : ℕ) (ran : Bool) → Keeps b t c → Keeps b t (TaskCalls.enabled_after ran c)
enabled_if b c t true keeps = flags_keep b c t _ keeps
enabled_if b c t false keeps = keeps

slept_if : (b : Base) (t : ℕ) (timeout : ℤ) (over : Bool) → KeepsPlace b t → Keeps b t (cond {A = TaskDone} over (record { base = b; outcome = failed er.TmOut }) (record { base = make_wait b t TaskCalls.sleep_object Fifo timeout; outcome = Blocked })).base
slept_if b t timeout true is = λ now same. is
slept_if b t timeout false is = wait_keeps b t t TaskCalls.sleep_object Fifo timeout is

slept_keeps : (b : Base) (t : ℕ) (timeout : ℤ) (requests : ℕ) → KeepsPlace b t → Keeps b t (TaskCalls.slept b t timeout requests).base
slept_keeps b t timeout zero is = slept_if b t timeout (int_eq timeout (pos 0)) is
slept_keeps b t timeout (suc requests) is = wakeups_keep b t t requests is

delayed_if : (b : Base) (t : ℕ) (time : ℤ) (over : Bool) → KeepsPlace b t → Keeps b t (cond {A = TaskDone} over (TaskCalls.finished b) (record { base = make_wait b t TaskCalls.delay_object Fifo time; outcome = Blocked })).base
delayed_if b t time true is = λ now same. is
delayed_if b t time false is = wait_keeps b t t TaskCalls.delay_object Fifo time is

woken_if : (b : Base) (t v : ℕ) (waits : Bool) → KeepsPlace b t → is_ready b t ≡ true → Keeps b t (cond waits (release b v (plain (pos 0))) (set_wakeups b v (wakeups_of b v + 1)))
woken_if b t v true is ready = release_keeps b t v (plain (pos 0)) is ready
woken_if b t v false is ready = wakeups_keep b t v (wakeups_of b v + 1) is

named_apart : (b : Base) (t v : ℕ) → (v == t) ≡ false → v ≡ t → ⊥
named_apart b t v differs same = grind (arith, nat_tests, differs, same)

-- what holds of the base after a call
abbrev Kept : Base → ℕ → TaskDone → Type 0
Kept b t done = Keeps b t done.base

-- a task that calls and stays ready, with its priority, stays the first of its equals
pub call_keeps_place : (b : Base) (t : ℕ) (call : TaskCall) → KeepsPlace b t → is_ready b t ≡ true → gives_place_away t call ≡ false → Keeps b t (task_call b (whos.Task t) call).base
unfolding task_call create_task delete_task start_task exit_task terminate_task change_priority get_task refer_task sleep delay wake_up cancel_wakeups release_wait suspend_task resume_task
call_keeps_place b t (call.CreTsk attributes body priority stack) is ready keeps =
    checked_cases (Kept b t) (TaskCalls.create_checks b attributes priority stack) b _ (λ code now same. is) (λ none. create_keeps b t (free_task b) (natural priority) (natural stack) (natural stack) is)
call_keeps_place b t (call.DelTsk task) is ready keeps =
    checked_cases (Kept b t) (TaskCalls.delete_checks b task) b _ (λ code now same. is) (λ none. delete_keeps b t (natural task) is)
call_keeps_place b t (call.StaTsk task code) is ready keeps =
    checked_cases (Kept b t) (TaskCalls.start_checks b task code) b _ (λ code now same. is) (λ none. ready_keeps b t (natural task) is ready (holds_at 3 (TaskCalls.start_checks b task code) none))
call_keeps_place b t call.ExtTsk is ready keeps = flags_keep b _ t _ (dormant_keeps b t t is)
call_keeps_place b t call.ExdTsk is ready keeps = flags_keep b _ t _ (dormant_keeps b t t is)
call_keeps_place b t (call.TerTsk task) is ready keeps =
    checked_cases (Kept b t) (TaskCalls.terminate_checks b (whos.Task t) task) b _ (λ code now same. is) (λ none. enabled_if b _ t _ (dormant_keeps b t (natural task) is))
call_keeps_place b t (call.ChgPri task priority) is ready keeps =
    checked_cases (Kept b t) (TaskCalls.change_checks b (whos.Task t) task priority) b _ (λ code now same. is)
    (λ none. rebased_keep b t (TaskCalls.named (whos.Task t) task) (TaskCalls.new_base b (TaskCalls.named (whos.Task t) task) priority) is (named_apart b t (TaskCalls.named (whos.Task t) task) keeps))
call_keeps_place b t (call.RotRdq priority) is ready keeps = absurd (cc keeps)
call_keeps_place b t call.GetTid is ready keeps = λ now same. is
call_keeps_place b t (call.RefTsk task) is ready keeps =
    checked_cases (Kept b t) (TaskCalls.named_checks b (whos.Task t) task) b _ (λ code now same. is) (λ none now same. is)
call_keeps_place b t (call.SlpTsk timeout) is ready keeps =
    checked_cases (Kept b t) (TaskCalls.waiting_checks b (whos.Task t) (negsuc 0) timeout) b _ (λ code now same. is) (λ none. slept_keeps b t timeout (wakeups_of b t) is)
call_keeps_place b t (call.WupTsk task) is ready keeps =
    checked_cases (Kept b t) (TaskCalls.wake_up_checks b (whos.Task t) task) b _ (λ code now same. is) (λ none. woken_if b t (natural task) (waits_for b TaskCalls.sleep_object (natural task)) is ready)
call_keeps_place b t (call.CanWup task) is ready keeps =
    checked_cases (Kept b t) (TaskCalls.cancel_checks b (whos.Task t) task) b _ (λ code now same. is) (λ none. wakeups_keep b t (TaskCalls.named (whos.Task t) task) 0 is)
call_keeps_place b t (call.RelWai task) is ready keeps =
    checked_cases (Kept b t) (TaskCalls.release_checks b task) b _ (λ code now same. is) (λ none. release_keeps b t (natural task) (plain (code_of er.RlWai)) is ready)
call_keeps_place b t (call.SusTsk task) is ready keeps =
    checked_cases (Kept b t) (TaskCalls.suspend_checks b (whos.Task t) task) b _ (λ code now same. is) (λ none. suspend_keeps b t (natural task) is)
call_keeps_place b t (call.RsmTsk task) is ready keeps =
    checked_cases (Kept b t) (TaskCalls.resume_checks b task) b _ (λ code now same. is) (λ none. resume_keeps b t (natural task) false is ready)
call_keeps_place b t (call.FrsmTsk task) is ready keeps =
    checked_cases (Kept b t) (TaskCalls.resume_checks b task) b _ (λ code now same. is) (λ none. resume_keeps b t (natural task) true is ready)
call_keeps_place b t (call.DlyTsk time) is ready keeps =
    checked_cases (Kept b t) (TaskCalls.waiting_checks b (whos.Task t) (pos 0) time) b _ (λ code now same. is) (λ none. delayed_if b t time (int_eq time (pos 0)) is)
