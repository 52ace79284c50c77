-- What each call on tasks makes, beside mutexes or without them: a sleep and a delay may make one event.
use Rattle.std.proofs.Common.{ℕ, zero, suc, ◌+◌, Bool, true, false, cond, List, [], ◌∷◌, ℤ, pos, negsuc}
use Rattle.std.specs.Ordering.{int_eq}
use Rattle.tk_types.specs.declared.answer.Who.{Who}
use Rattle.tk_types.specs.declared.answer.Outcome.TheVariants as outcomes
use Rattle.tk_types.specs.declared.calls.TaskCall.{TaskCall}
use Rattle.tk_types.specs.declared.calls.TaskCall.TheVariants as call
use Rattle.tk_types.specs.declared.error_code.Er.TheVariants as er
use Rattle.tk_types.specs.declared.modes.Attributes.{Attributes}
use Rattle.tk_types.specs.declared.task.Order.TheVariants.{Fifo}
use Rattle.tk_types.specs.Codes.{code_of}
use Rattle.kernel_model.specs.Words.Checks.{Check, ◌otherwise◌, failed, natural, plain, within}
use Rattle.kernel_model.specs.Tasks.Base.{Base, free_task, make_dormant, make_wait, release, set_wakeups, take_bytes, waits_for, wakeups_of}
use Rattle.kernel_model.specs.Tasks.Views.{is_current}
use Rattle.kernel_model.specs.Tasks.Calls as tasks
use Rattle.kernel_model.specs.Tasks.Calls.{TaskDone, caller, checked, enabled_after, finished, named, new_base, rotated_priority}
use Rattle.object_model.specs.Mutexes.Tables.{Mutexes}
use Rattle.object_model.specs.Mutexes.Calls.{change_checks_beside, change_priority_beside, task_call_beside}
use Rattle.call_lemmas.proofs.Checked.{checked_cases}
use Rattle.count_lemmas.proofs.Making.{IsMaking, IsQuiet, either_base, rebase_quiet, rotation_quiet}

-- a call is refused and leaves the base, or has its effect
checked_quiet : (P : Base → Type 0) (checks : List Check) (b : Base) (effect : TaskDone) → P b → P effect.base → P (checked checks b effect).base
checked_quiet P checks b effect has works = checked_cases (λ done. P done.base) checks b effect (λ code. has) (λ none. works)

either_done : (P : Base → Type 0) (test : Bool) (one other : TaskDone) → P one.base → P other.base → P (cond {A = TaskDone} test one other).base
either_done P true one other first second = first
either_done P false one other first second = second

-- ---- making, starting and ending

create_quiet : (P : Base → Type 0) → IsQuiet P → (b : Base) (attributes : Attributes) (priority stack : ℤ) → P b → P (tasks.create_task b attributes priority stack).base
unfolding tasks.create_task
create_quiet P is b attributes priority stack has =
    checked_quiet P (tasks.create_checks b attributes priority stack) b _ has
    (is.created (take_bytes b (natural stack)) (free_task b) (natural priority) (natural stack) (is.taken b (natural stack) has))

delete_quiet : (P : Base → Type 0) → IsQuiet P → (b : Base) (task : ℤ) → P b → P (tasks.delete_task b task).base
unfolding tasks.delete_task
delete_quiet P is b task has = checked_quiet P (tasks.delete_checks b task) b _ has (is.deleted b (natural task) has)

start_quiet : (P : Base → Type 0) → IsQuiet P → (b : Base) (task code : ℤ) → P b → P (tasks.start_task b task code).base
unfolding tasks.start_task
start_quiet P is b task code has = checked_quiet P (tasks.start_checks b task code) b _ has (is.readied b (natural task) has)

exit_quiet : (P : Base → Type 0) → IsQuiet P → (b : Base) (who : Who) → P b → P (tasks.exit_task b who).base
unfolding tasks.exit_task
exit_quiet P is b who has = is.flagged (make_dormant b (caller who)) _ (is.ended b (caller who) has)

enabled_quiet : (P : Base → Type 0) → IsQuiet P → (ran : Bool) (b : Base) → P b → P (enabled_after ran b)
enabled_quiet P is true b has = is.flagged b (record b.flags { dispatch_off = false }) has
enabled_quiet P is false b has = has

terminate_quiet : (P : Base → Type 0) → IsQuiet P → (b : Base) (who : Who) (task : ℤ) → P b → P (tasks.terminate_task b who task).base
unfolding tasks.terminate_task
terminate_quiet P is b who task has =
    checked_quiet P (tasks.terminate_checks b who task) b _ has (enabled_quiet P is (is_current (natural task) b.cur) (make_dormant b (natural task)) (is.ended b (natural task) has))

-- ---- priorities

change_quiet : (P : Base → Type 0) → IsQuiet P → (b : Base) (who : Who) (task priority : ℤ) → P b → P (tasks.change_priority b who task priority).base
unfolding tasks.change_priority
change_quiet P is b who task priority has =
    checked_quiet P (tasks.change_checks b who task priority) b _ has (rebase_quiet P is b (named who task) (new_base b (named who task) priority) has)

change_beside_quiet : (P : Base → Type 0) → IsQuiet P → (b : Base) (m : Mutexes) (who : Who) (task priority : ℤ) → P b → P (change_priority_beside b m who task priority).base
unfolding change_priority_beside
change_beside_quiet P is b m who task priority has =
    checked_quiet P (change_checks_beside b m who task priority) b _ has (rebase_quiet P is b (named who task) (new_base b (named who task) priority) has)

rotated_quiet : (P : Base → Type 0) → IsQuiet P → (b : Base) (priority : ℤ) → P b → P (tasks.rotate_ready b priority).base
unfolding tasks.rotate_ready
rotated_quiet P is b priority has = checked_quiet P ((within 0 140 priority otherwise er.Par) ∷ []) b _ has (rotation_quiet P is b (rotated_priority b priority) has)

-- ---- asking

get_quiet : (P : Base → Type 0) (b : Base) → P b → P (tasks.get_task b).base
unfolding tasks.get_task
get_quiet P b has = has

refer_quiet : (P : Base → Type 0) (b : Base) (who : Who) (task : ℤ) → P b → P (tasks.refer_task b who task).base
unfolding tasks.refer_task
refer_quiet P b who task has = checked_quiet P (tasks.named_checks b who task) b _ has has

-- ---- sleep and delay

slept_makes : (P Q : Base → Type 0) → IsMaking P Q → (b : Base) (t : ℕ) (timeout : ℤ) (requests : ℕ) → P b → Q (tasks.slept b t timeout requests).base
slept_makes P Q is b t timeout zero has =
    either_done Q (int_eq timeout (pos 0)) (record { base = b; outcome = failed er.TmOut }) (record { base = make_wait b t tasks.sleep_object Fifo timeout; outcome = outcomes.Blocked }) (is.more _ has) (is.waits b t tasks.sleep_object Fifo timeout has)
slept_makes P Q is b t timeout (suc requests) has = is.more _ (is.quiet.woken b t requests has)

sleep_makes : (P Q : Base → Type 0) → IsMaking P Q → (b : Base) (who : Who) (timeout : ℤ) → P b → Q (tasks.sleep b who timeout).base
unfolding tasks.sleep
sleep_makes P Q is b who timeout has = checked_quiet Q (tasks.waiting_checks b who (negsuc 0) timeout) b _ (is.more _ has) (slept_makes P Q is b (caller who) timeout (wakeups_of b (caller who)) has)

delay_makes : (P Q : Base → Type 0) → IsMaking P Q → (b : Base) (who : Who) (time : ℤ) → P b → Q (tasks.delay b who time).base
unfolding tasks.delay
delay_makes P Q is b who time has =
    checked_quiet Q (tasks.waiting_checks b who (pos 0) time) b _ (is.more _ has)
    (either_done Q (int_eq time (pos 0)) (finished b) (record { base = make_wait b (caller who) tasks.delay_object Fifo time; outcome = outcomes.Blocked }) (is.more _ has) (is.waits b (caller who) tasks.delay_object Fifo time has))

wake_up_quiet : (P : Base → Type 0) → IsQuiet P → (b : Base) (who : Who) (task : ℤ) → P b → P (tasks.wake_up b who task).base
unfolding tasks.wake_up
wake_up_quiet P is b who task has =
    let t : ℕ = natural task in
    checked_quiet P (tasks.wake_up_checks b who task) b (finished (tasks.woken b t)) has
    (either_base P (waits_for b tasks.sleep_object t) (release b t (plain (pos 0))) (set_wakeups b t (wakeups_of b t + 1)) (is.released b t (plain (pos 0)) has) (is.woken b t (wakeups_of b t + 1) has))

cancel_quiet : (P : Base → Type 0) → IsQuiet P → (b : Base) (who : Who) (task : ℤ) → P b → P (tasks.cancel_wakeups b who task).base
unfolding tasks.cancel_wakeups
cancel_quiet P is b who task has = checked_quiet P (tasks.cancel_checks b who task) b _ has (is.woken b (named who task) 0 has)

-- ---- release and suspension

release_quiet : (P : Base → Type 0) → IsQuiet P → (b : Base) (task : ℤ) → P b → P (tasks.release_wait b task).base
unfolding tasks.release_wait
release_quiet P is b task has = checked_quiet P (tasks.release_checks b task) b _ has (is.released b (natural task) (plain (code_of er.RlWai)) has)

suspend_quiet : (P : Base → Type 0) → IsQuiet P → (b : Base) (who : Who) (task : ℤ) → P b → P (tasks.suspend_task b who task).base
unfolding tasks.suspend_task
suspend_quiet P is b who task has = checked_quiet P (tasks.suspend_checks b who task) b _ has (is.suspended b (natural task) has)

resume_quiet : (P : Base → Type 0) → IsQuiet P → (b : Base) (task : ℤ) (all : Bool) → P b → P (tasks.resume_task b task all).base
unfolding tasks.resume_task
resume_quiet P is b task all has = checked_quiet P (tasks.resume_checks b task) b _ has (is.resumed b (natural task) all has)

-- ---- all

-- a call on tasks where there are no mutexes
pub plain_task_calls_make : (P Q : Base → Type 0) → IsMaking P Q → (b : Base) (who : Who) (c : TaskCall) → P b → Q (tasks.task_call b who c).base
unfolding tasks.task_call
plain_task_calls_make P Q is b who (call.CreTsk attributes body priority stack) has = is.more _ (create_quiet P is.quiet b attributes priority stack has)
plain_task_calls_make P Q is b who (call.DelTsk task) has = is.more _ (delete_quiet P is.quiet b task has)
plain_task_calls_make P Q is b who (call.StaTsk task code) has = is.more _ (start_quiet P is.quiet b task code has)
plain_task_calls_make P Q is b who call.ExtTsk has = is.more _ (exit_quiet P is.quiet b who has)
plain_task_calls_make P Q is b who call.ExdTsk has = is.more _ (exit_quiet P is.quiet b who has)
plain_task_calls_make P Q is b who (call.TerTsk task) has = is.more _ (terminate_quiet P is.quiet b who task has)
plain_task_calls_make P Q is b who (call.ChgPri task priority) has = is.more _ (change_quiet P is.quiet b who task priority has)
plain_task_calls_make P Q is b who (call.RotRdq priority) has = is.more _ (rotated_quiet P is.quiet b priority has)
plain_task_calls_make P Q is b who call.GetTid has = is.more _ (get_quiet P b has)
plain_task_calls_make P Q is b who (call.RefTsk task) has = is.more _ (refer_quiet P b who task has)
plain_task_calls_make P Q is b who (call.SlpTsk timeout) has = sleep_makes P Q is b who timeout has
plain_task_calls_make P Q is b who (call.WupTsk task) has = is.more _ (wake_up_quiet P is.quiet b who task has)
plain_task_calls_make P Q is b who (call.CanWup task) has = is.more _ (cancel_quiet P is.quiet b who task has)
plain_task_calls_make P Q is b who (call.RelWai task) has = is.more _ (release_quiet P is.quiet b task has)
plain_task_calls_make P Q is b who (call.SusTsk task) has = is.more _ (suspend_quiet P is.quiet b who task has)
plain_task_calls_make P Q is b who (call.RsmTsk task) has = is.more _ (resume_quiet P is.quiet b task false has)
plain_task_calls_make P Q is b who (call.FrsmTsk task) has = is.more _ (resume_quiet P is.quiet b task true has)
plain_task_calls_make P Q is b who (call.DlyTsk time) has = delay_makes P Q is b who time has

-- a call on tasks beside mutexes
pub task_calls_make : (P Q : Base → Type 0) → IsMaking P Q → (b : Base) (m : Mutexes) (who : Who) (c : TaskCall) → P b → Q (task_call_beside b m who c).base
unfolding task_call_beside
task_calls_make P Q is b m who (call.ChgPri task priority) has = is.more _ (change_beside_quiet P is.quiet b m who task priority has)
task_calls_make P Q is b m who c has = plain_task_calls_make P Q is b who c has
