-- What each move of the base keeps, each call on tasks keeps, beside mutexes or without them.
use Rattle.std.proofs.Common.{ℕ, zero, suc, ◌+◌, Bool, true, false, cond, List, [], ◌∷◌, ℤ, pos, negsuc}
use Rattle.std.specs.Ordering.{int_eq}
use Rattle.tk_types.specs.declared.answer.Who.{Who}
use Rattle.tk_types.specs.declared.answer.Outcome.TheVariants as outcomes
use Rattle.tk_types.specs.declared.calls.TaskCall.{TaskCall}
use Rattle.tk_types.specs.declared.calls.TaskCall.TheVariants as call
use Rattle.tk_types.specs.declared.error_code.Er.TheVariants as er
use Rattle.tk_types.specs.declared.modes.Attributes.{Attributes}
use Rattle.tk_types.specs.declared.task.Order.TheVariants.{Fifo}
use Rattle.tk_types.specs.Codes.{code_of}
use Rattle.kernel_model.specs.Words.Checks.{Check, ◌otherwise◌, failed, natural, plain, within}
use Rattle.kernel_model.specs.Tasks.Base.{Base, free_task, make_dormant, make_wait, release, set_wakeups, take_bytes, waits_for, wakeups_of}
use Rattle.kernel_model.specs.Tasks.Views.{is_current}
use Rattle.kernel_model.specs.Tasks.Calls as tasks
use Rattle.kernel_model.specs.Tasks.Calls.{TaskDone, caller, checked, enabled_after, finished, named, new_base, rotated_priority}
use Rattle.object_model.specs.Mutexes.Tables.{Mutexes}
use Rattle.object_model.specs.Mutexes.Calls.{change_checks_beside, change_priority_beside, task_call_beside}
use Rattle.call_lemmas.proofs.Checked.{checked_cases}
use Rattle.call_walk.proofs.BaseMoves.{IsStillProof, either_base, rebased_keeps, rotate_keeps}

-- a call is refused and leaves the base, or has its effect
checked_keeps : (P : Base → Type 0) (checks : List Check) (b : Base) (effect : TaskDone) → P b → P effect.base → P (checked checks b effect).base
checked_keeps P checks b effect has works = checked_cases (λ done. P done.base) checks b effect (λ code. has) (λ none. works)

either_done : (P : Base → Type 0) (test : Bool) (one other : TaskDone) → P one.base → P other.base → P (cond {A = TaskDone} test one other).base
either_done P true one other first second = first
either_done P false one other first second = second

-- ---- making, starting and ending

create_keeps : (P : Base → Type 0) → IsStillProof P → (b : Base) (attributes : Attributes) (priority stack : ℤ) → P b → P (tasks.create_task b attributes priority stack).base
unfolding tasks.create_task
create_keeps P is b attributes priority stack has =
    checked_keeps P (tasks.create_checks b attributes priority stack) b _ has
    (is.created (take_bytes b (natural stack)) (free_task b) (natural priority) (natural stack) (is.taken b (natural stack) has))

delete_keeps : (P : Base → Type 0) → IsStillProof P → (b : Base) (task : ℤ) → P b → P (tasks.delete_task b task).base
unfolding tasks.delete_task
delete_keeps P is b task has = checked_keeps P (tasks.delete_checks b task) b _ has (is.deleted b (natural task) has)

start_keeps : (P : Base → Type 0) → IsStillProof P → (b : Base) (task code : ℤ) → P b → P (tasks.start_task b task code).base
unfolding tasks.start_task
start_keeps P is b task code has = checked_keeps P (tasks.start_checks b task code) b _ has (is.readied b (natural task) has)

exit_keeps : (P : Base → Type 0) → IsStillProof P → (b : Base) (who : Who) → P b → P (tasks.exit_task b who).base
unfolding tasks.exit_task
exit_keeps P is b who has = is.flagged (make_dormant b (caller who)) _ (is.ended b (caller who) has)

enabled_keeps : (P : Base → Type 0) → IsStillProof P → (ran : Bool) (b : Base) → P b → P (enabled_after ran b)
enabled_keeps P is true b has = is.flagged b (record b.flags { dispatch_off = false }) has
enabled_keeps P is false b has = has

terminate_keeps : (P : Base → Type 0) → IsStillProof P → (b : Base) (who : Who) (task : ℤ) → P b → P (tasks.terminate_task b who task).base
unfolding tasks.terminate_task
terminate_keeps P is b who task has =
    checked_keeps P (tasks.terminate_checks b who task) b _ has (enabled_keeps P is (is_current (natural task) b.cur) (make_dormant b (natural task)) (is.ended b (natural task) has))

-- ---- priorities

change_keeps : (P : Base → Type 0) → IsStillProof P → (b : Base) (who : Who) (task priority : ℤ) → P b → P (tasks.change_priority b who task priority).base
unfolding tasks.change_priority
change_keeps P is b who task priority has =
    checked_keeps P (tasks.change_checks b who task priority) b _ has (rebased_keeps P is b (named who task) (new_base b (named who task) priority) has)

change_beside_keeps : (P : Base → Type 0) → IsStillProof P → (b : Base) (m : Mutexes) (who : Who) (task priority : ℤ) → P b → P (change_priority_beside b m who task priority).base
unfolding change_priority_beside
change_beside_keeps P is b m who task priority has =
    checked_keeps P (change_checks_beside b m who task priority) b _ has (rebased_keeps P is b (named who task) (new_base b (named who task) priority) has)

rotated_keeps : (P : Base → Type 0) → IsStillProof P → (b : Base) (priority : ℤ) → P b → P (tasks.rotate_ready b priority).base
unfolding tasks.rotate_ready
rotated_keeps P is b priority has = checked_keeps P ((within 0 140 priority otherwise er.Par) ∷ []) b _ has (rotate_keeps P is b (rotated_priority b priority) has)

-- ---- asking

get_keeps : (P : Base → Type 0) (b : Base) → P b → P (tasks.get_task b).base
unfolding tasks.get_task
get_keeps P b has = has

refer_keeps : (P : Base → Type 0) (b : Base) (who : Who) (task : ℤ) → P b → P (tasks.refer_task b who task).base
unfolding tasks.refer_task
refer_keeps P b who task has = checked_keeps P (tasks.named_checks b who task) b _ has has

-- ---- sleep and delay

slept_keeps : (P : Base → Type 0) → IsStillProof P → (b : Base) (t : ℕ) (timeout : ℤ) (requests : ℕ) → P b → P (tasks.slept b t timeout requests).base
slept_keeps P is b t timeout zero has =
    either_done P (int_eq timeout (pos 0)) (record { base = b; outcome = failed er.TmOut }) (record { base = make_wait b t tasks.sleep_object Fifo timeout; outcome = outcomes.Blocked }) has (is.waits b t tasks.sleep_object Fifo timeout has)
slept_keeps P is b t timeout (suc requests) has = is.woken b t requests has

sleep_keeps : (P : Base → Type 0) → IsStillProof P → (b : Base) (who : Who) (timeout : ℤ) → P b → P (tasks.sleep b who timeout).base
unfolding tasks.sleep
sleep_keeps P is b who timeout has = checked_keeps P (tasks.waiting_checks b who (negsuc 0) timeout) b _ has (slept_keeps P is b (caller who) timeout (wakeups_of b (caller who)) has)

delay_keeps : (P : Base → Type 0) → IsStillProof P → (b : Base) (who : Who) (time : ℤ) → P b → P (tasks.delay b who time).base
unfolding tasks.delay
delay_keeps P is b who time has =
    checked_keeps P (tasks.waiting_checks b who (pos 0) time) b _ has
    (either_done P (int_eq time (pos 0)) (finished b) (record { base = make_wait b (caller who) tasks.delay_object Fifo time; outcome = outcomes.Blocked }) has (is.waits b (caller who) tasks.delay_object Fifo time has))

wake_up_keeps : (P : Base → Type 0) → IsStillProof P → (b : Base) (who : Who) (task : ℤ) → P b → P (tasks.wake_up b who task).base
unfolding tasks.wake_up
wake_up_keeps P is b who task has =
    let t : ℕ = natural task in
    checked_keeps P (tasks.wake_up_checks b who task) b (finished (tasks.woken b t)) has
    (either_base P (waits_for b tasks.sleep_object t) (release b t (plain (pos 0))) (set_wakeups b t (wakeups_of b t + 1)) (is.released b t (plain (pos 0)) has) (is.woken b t (wakeups_of b t + 1) has))

cancel_keeps : (P : Base → Type 0) → IsStillProof P → (b : Base) (who : Who) (task : ℤ) → P b → P (tasks.cancel_wakeups b who task).base
unfolding tasks.cancel_wakeups
cancel_keeps P is b who task has = checked_keeps P (tasks.cancel_checks b who task) b _ has (is.woken b (named who task) 0 has)

-- ---- release and suspension

release_keeps : (P : Base → Type 0) → IsStillProof P → (b : Base) (task : ℤ) → P b → P (tasks.release_wait b task).base
unfolding tasks.release_wait
release_keeps P is b task has = checked_keeps P (tasks.release_checks b task) b _ has (is.released b (natural task) (plain (code_of er.RlWai)) has)

suspend_keeps : (P : Base → Type 0) → IsStillProof P → (b : Base) (who : Who) (task : ℤ) → P b → P (tasks.suspend_task b who task).base
unfolding tasks.suspend_task
suspend_keeps P is b who task has = checked_keeps P (tasks.suspend_checks b who task) b _ has (is.suspended b (natural task) has)

resume_keeps : (P : Base → Type 0) → IsStillProof P → (b : Base) (task : ℤ) (all : Bool) → P b → P (tasks.resume_task b task all).base
unfolding tasks.resume_task
resume_keeps P is b task all has = checked_keeps P (tasks.resume_checks b task) b _ has (is.resumed b (natural task) all has)

-- ---- all

-- a call on tasks where there are no mutexes
pub plain_task_calls_keep : (P : Base → Type 0) → IsStillProof P → (b : Base) (who : Who) (c : TaskCall) → P b → P (tasks.task_call b who c).base
unfolding tasks.task_call
plain_task_calls_keep P is b who (call.CreTsk attributes body priority stack) has = create_keeps P is b attributes priority stack has
plain_task_calls_keep P is b who (call.DelTsk task) has = delete_keeps P is b task has
plain_task_calls_keep P is b who (call.StaTsk task code) has = start_keeps P is b task code has
plain_task_calls_keep P is b who call.ExtTsk has = exit_keeps P is b who has
plain_task_calls_keep P is b who call.ExdTsk has = exit_keeps P is b who has
plain_task_calls_keep P is b who (call.TerTsk task) has = terminate_keeps P is b who task has
plain_task_calls_keep P is b who (call.ChgPri task priority) has = change_keeps P is b who task priority has
plain_task_calls_keep P is b who (call.RotRdq priority) has = rotated_keeps P is b priority has
plain_task_calls_keep P is b who call.GetTid has = get_keeps P b has
plain_task_calls_keep P is b who (call.RefTsk task) has = refer_keeps P b who task has
plain_task_calls_keep P is b who (call.SlpTsk timeout) has = sleep_keeps P is b who timeout has
plain_task_calls_keep P is b who (call.WupTsk task) has = wake_up_keeps P is b who task has
plain_task_calls_keep P is b who (call.CanWup task) has = cancel_keeps P is b who task has
plain_task_calls_keep P is b who (call.RelWai task) has = release_keeps P is b task has
plain_task_calls_keep P is b who (call.SusTsk task) has = suspend_keeps P is b who task has
plain_task_calls_keep P is b who (call.RsmTsk task) has = resume_keeps P is b task false has
plain_task_calls_keep P is b who (call.FrsmTsk task) has = resume_keeps P is b task true has
plain_task_calls_keep P is b who (call.DlyTsk time) has = delay_keeps P is b who time has

-- a call on tasks beside mutexes
pub task_calls_keep : (P : Base → Type 0) → IsStillProof P → (b : Base) (m : Mutexes) (who : Who) (c : TaskCall) → P b → P (task_call_beside b m who c).base
unfolding task_call_beside
task_calls_keep P is b m who (call.ChgPri task priority) has = change_beside_keeps P is b m who task priority has
task_calls_keep P is b m who c has = plain_task_calls_keep P is b who c has
