-- The system calls on tasks and on sleep: the checks of each in their order, and its effect up to the first settling.
use Rattle.std.specs.Prelude.{ℕ, zero, suc, ◌+◌, Bool, true, false, ◌==◌, ◌||◌, ◌&&◌, not, nat_lt, if◌then◌else◌, ℤ, pos, negsuc, int_le, List, [], ◌∷◌, Option, Some, None, unwrap_or}
use Rattle.std.specs.Option.{is_some}
use Rattle.std.specs.Ordering.{int_eq}
use Rattle.tk_types.specs.declared.answer.Who.{Who}
use Rattle.tk_types.specs.declared.answer.Who.TheVariants as whos
use Rattle.tk_types.specs.declared.answer.Outcome.{Outcome}
use Rattle.tk_types.specs.declared.answer.Outcome.TheVariants.{Returned, Blocked}
use Rattle.tk_types.specs.declared.error_code.Er.{Er}
use Rattle.tk_types.specs.declared.error_code.Er.TheVariants as er
use Rattle.tk_types.specs.declared.modes.Attributes.{Attributes}
use Rattle.tk_types.specs.declared.task.Task.{Task}
use Rattle.tk_types.specs.declared.task.Order.TheVariants.{Fifo}
use Rattle.tk_types.specs.declared.calls.TaskCall.{TaskCall}
use Rattle.tk_types.specs.declared.calls.TaskCall.TheVariants as call
use Rattle.tk_types.specs.Codes.{code_of}
use Rattle.kernel_model.specs.declared.marks.Mark.TheVariants.{MayWait}
use Rattle.kernel_model.specs.Words.Orders.{to_back}
use Rattle.kernel_model.specs.Words.Checks.{Check, ◌otherwise◌, first_error, within, natural, answer, plain, failed, done}
use Rattle.kernel_model.specs.Tasks.Base.{Base, task_at, is_dormant, is_waiting, waits_for, current, initial_of, wakeups_of, suspensions_of, free_task, has_room, create, delete, make_ready, make_wait, make_dormant, release, suspend, resume, set_base, set_wakeups, rotate, take_bytes, set_flags}
use Rattle.kernel_model.specs.Tasks.Marks.{allows, is_task}
use Rattle.kernel_model.specs.Tasks.Views.{is_current, state_in}

-- a base, and what became of the call
pub record TaskDone : Type 0 where
  pub base : Base
  pub outcome : Outcome

-- the object for which a sleeping task waits, and that of a delay
abbrev pub sleep_object : ℕ
sleep_object = 0

abbrev pub delay_object : ℕ
delay_object = 1

-- the most wake-up requests, and the most suspensions, of a task
abbrev pub most_requests : ℕ
most_requests = 65535

-- the ID of the calling task, or 0 for a handler
abbrev pub caller : Who → ℕ
caller (whos.Task t) = t
caller whos.Handler = 0

-- the task that a number names, where 0 names the caller
abbrev pub named : Who → ℤ → ℕ
named who task = if natural task == 0 then caller who else natural task

-- a number that names a task, where 0 names the caller, but no handler is one
abbrev pub names_task : Who → ℤ → Bool
names_task who task = within 0 255 task && (is_task who || not (natural task == 0))

-- attributes that have no effect may stand in every list; no other one may
abbrev pub has_only_free : Attributes → Bool
has_only_free a = not (a.ta_tfifo || a.ta_tpri || a.ta_first || a.ta_cnt || a.ta_wsgl || a.ta_wmul || a.ta_mfifo || a.ta_mpri || a.ta_inherit || a.ta_ceiling || a.ta_sta || a.ta_phs)

abbrev pub unless_error : Option Er → Base → TaskDone → TaskDone
unless_error (Some error) b effect = record { base = b; outcome = failed error }
unless_error None b effect = effect

-- a call is refused with the first error of its checks, and nothing is changed then; else it has its effect
abbrev pub checked : List Check → Base → TaskDone → TaskDone
checked checks b effect = unless_error (first_error checks) b effect

-- a call that has done its work and answers 0
abbrev pub finished : Base → TaskDone
finished b = record { base = b; outcome = done (pos 0) }

-- ---- making, starting and ending

abbrev pub create_checks : Base → Attributes → ℤ → ℤ → List Check
create_checks b attributes priority stack =
    (has_only_free attributes otherwise er.RsAtr)
    ∷ (within 1 140 priority otherwise er.Par)
    ∷ (within 1 1048576 stack otherwise er.Par)
    ∷ (not (free_task b == 0) otherwise er.Limit)
    ∷ (has_room b (natural stack) otherwise er.NoMem)
    ∷ []

-- `tk_cre_tsk`: a DORMANT task with the least free ID
unfoldable pub create_task : Base → Attributes → ℤ → ℤ → TaskDone
create_task b attributes priority stack = checked (create_checks b attributes priority stack) b (record { base = create (take_bytes b (natural stack)) (free_task b) (natural priority) (natural stack); outcome = done (pos (free_task b)) })

-- checks of a call on a DORMANT task
abbrev pub dormant_checks : Base → ℤ → List Check
dormant_checks b task =
    (is_some (task_at b (natural task)) otherwise er.NoExs)
    ∷ (is_dormant b (natural task) otherwise er.Obj)
    ∷ []

abbrev pub delete_checks : Base → ℤ → List Check
delete_checks b task = (within 1 255 task otherwise er.Id) ∷ dormant_checks b task

-- `tk_del_tsk`: a DORMANT task is deleted
unfoldable pub delete_task : Base → ℤ → TaskDone
delete_task b task = checked (delete_checks b task) b (finished (delete b (natural task)))

abbrev pub start_checks : Base → ℤ → ℤ → List Check
start_checks b task code = (within 1 255 task otherwise er.Id) ∷ (int_le (pos 0) code otherwise er.Par) ∷ dormant_checks b task

-- `tk_sta_tsk`: a DORMANT task becomes READY
unfoldable pub start_task : Base → ℤ → ℤ → TaskDone
start_task b task code = checked (start_checks b task code) b (finished (make_ready b (natural task)))

-- dispatching and interrupts are enabled
abbrev pub enabled : Base → Base
enabled b = set_flags b (record b.flags { dispatch_off = false; di = false })

-- `tk_ext_tsk` and `tk_exd_tsk`: the caller becomes DORMANT. What `tk_exd_tsk` deletes is gone once the task's mutexes
-- are free
unfoldable pub exit_task : Base → Who → TaskDone
exit_task b who = finished (enabled (make_dormant b (caller who)))

-- dispatching is enabled where the task that is ended was the current one
abbrev pub enabled_after : Bool → Base → Base
enabled_after ran b = if ran then set_flags b (record b.flags { dispatch_off = false }) else b

abbrev pub terminate_checks : Base → Who → ℤ → List Check
terminate_checks b who task =
    (within 1 255 task otherwise er.Id)
    ∷ (is_some (task_at b (natural task)) otherwise er.NoExs)
    ∷ (not (natural task == caller who) otherwise er.Obj)
    ∷ (not (is_dormant b (natural task)) otherwise er.Obj)
    ∷ []

-- `tk_ter_tsk`: another task becomes DORMANT
unfoldable pub terminate_task : Base → Who → ℤ → TaskDone
terminate_task b who task = checked (terminate_checks b who task) b (finished (enabled_after (is_current (natural task) b.cur) (make_dormant b (natural task))))

-- ---- priorities

-- checks of a call on a task that exists, where 0 names the caller
abbrev pub named_checks : Base → Who → ℤ → List Check
named_checks b who task =
    (names_task who task otherwise er.Id)
    ∷ (is_some (task_at b (named who task)) otherwise er.NoExs)
    ∷ []

abbrev pub change_checks : Base → Who → ℤ → ℤ → List Check
change_checks b who task priority =
    (names_task who task otherwise er.Id)
    ∷ (within 0 140 priority otherwise er.Par)
    ∷ (is_some (task_at b (named who task)) otherwise er.NoExs)
    ∷ []

-- the new base priority: 0 is the initial one
abbrev pub new_base : Base → ℕ → ℤ → ℕ
new_base b t priority = if natural priority == 0 then initial_of b t else natural priority

-- where the current priority keeps its value and equals the base, the task takes a new stamp. Where it is to change,
-- settling does that
abbrev pub rebased : Base → ℕ → ℕ → Base
rebased b t priority = if current b t == priority then record (set_base b t priority) { order = to_back t b.order } else set_base b t priority

-- `tk_chg_pri`: a task's base priority changes
unfoldable pub change_priority : Base → Who → ℤ → ℤ → TaskDone
change_priority b who task priority = checked (change_checks b who task priority) b (finished (rebased b (named who task) (new_base b (named who task) priority)))

-- the priority whose tasks are rotated: 0 is that of the current task, and none where there is no current task
abbrev pub rotated_priority : Base → ℤ → ℕ
rotated_priority b priority = if natural priority == 0 then current b (unwrap_or b.cur 0) else natural priority

-- `tk_rot_rdq`: the first ready task of a priority becomes the last of it
unfoldable pub rotate_ready : Base → ℤ → TaskDone
rotate_ready b priority = checked ((within 0 140 priority otherwise er.Par) ∷ []) b (finished (rotate b (rotated_priority b priority)))

-- ---- asking

-- `tk_get_tid`: the current task, or 0
unfoldable pub get_task : Base → TaskDone
get_task b = record { base = b; outcome = done (pos (unwrap_or b.cur 0)) }

abbrev pub shown : Base → ℕ → Option Task → Outcome
shown b t None = failed er.NoExs
shown b t (Some k) = Returned (answer (pos 0) (pos (state_in b t k) ∷ pos k.current ∷ pos k.base ∷ pos k.wakeups ∷ pos k.suspensions ∷ []))

-- `tk_ref_tsk`: state, current and base priority, wake-up requests and suspensions of a task
unfoldable pub refer_task : Base → Who → ℤ → TaskDone
refer_task b who task = checked (named_checks b who task) b (record { base = b; outcome = shown b (named who task) (task_at b (named who task)) })

-- ---- sleep and delay

-- the checks of a call that may wait, with the least number that it takes
abbrev pub waiting_checks : Base → Who → ℤ → ℤ → List Check
waiting_checks b who least number =
    (int_le least number otherwise er.Par)
    ∷ (allows b.flags who MayWait otherwise er.Ctx)
    ∷ []

-- a sleep takes one request; without one it is over at once with a time-out of 0, and else waits
abbrev pub slept : Base → ℕ → ℤ → ℕ → TaskDone
slept b t timeout zero =
    if int_eq timeout (pos 0)
    then record { base = b; outcome = failed er.TmOut }
    else record { base = make_wait b t sleep_object Fifo timeout; outcome = Blocked }
slept b t timeout (suc requests) = finished (set_wakeups b t requests)

-- `tk_slp_tsk`: the caller waits for a wake-up
unfoldable pub sleep : Base → Who → ℤ → TaskDone
sleep b who timeout = checked (waiting_checks b who (negsuc 0) timeout) b (slept b (caller who) timeout (wakeups_of b (caller who)))

-- a delay of 0 is over at once
abbrev pub delayed : Base → ℕ → ℤ → TaskDone
delayed b t time = if int_eq time (pos 0) then finished b else record { base = make_wait b t delay_object Fifo time; outcome = Blocked }

-- `tk_dly_tsk`: the caller waits for a time
unfoldable pub delay : Base → Who → ℤ → TaskDone
delay b who time = checked (waiting_checks b who (pos 0) time) b (delayed b (caller who) time)

-- a sleeping task has room for a wake-up, and another one while it has fewer than 65,535 requests
abbrev pub takes_wakeup : Base → ℕ → Bool
takes_wakeup b t = waits_for b sleep_object t || nat_lt (wakeups_of b t) most_requests

-- a wake-up ends a sleep, or is kept as a request
abbrev pub woken : Base → ℕ → Base
woken b t = if waits_for b sleep_object t then release b t (plain (pos 0)) else set_wakeups b t (wakeups_of b t + 1)

abbrev pub wake_up_checks : Base → Who → ℤ → List Check
wake_up_checks b who task =
    (within 1 255 task otherwise er.Id)
    ∷ (is_some (task_at b (natural task)) otherwise er.NoExs)
    ∷ (not (natural task == caller who) otherwise er.Obj)
    ∷ (not (is_dormant b (natural task)) otherwise er.Obj)
    ∷ (takes_wakeup b (natural task) otherwise er.QOvr)
    ∷ []

-- `tk_wup_tsk`: another task is woken
unfoldable pub wake_up : Base → Who → ℤ → TaskDone
wake_up b who task = checked (wake_up_checks b who task) b (finished (woken b (natural task)))

abbrev pub cancel_checks : Base → Who → ℤ → List Check
cancel_checks b who task =
    (names_task who task otherwise er.Id)
    ∷ (is_some (task_at b (named who task)) otherwise er.NoExs)
    ∷ (not (is_dormant b (named who task)) otherwise er.Obj)
    ∷ []

-- `tk_can_wup`: answers the wake-up requests of a task and clears them
unfoldable pub cancel_wakeups : Base → Who → ℤ → TaskDone
cancel_wakeups b who task = checked (cancel_checks b who task) b (record { base = set_wakeups b (named who task) 0; outcome = done (pos (wakeups_of b (named who task))) })

-- ---- release and suspension

abbrev pub release_checks : Base → ℤ → List Check
release_checks b task =
    (within 1 255 task otherwise er.Id)
    ∷ (is_some (task_at b (natural task)) otherwise er.NoExs)
    ∷ (is_waiting b (natural task) otherwise er.Obj)
    ∷ []

-- `tk_rel_wai`: the wait of a task ends with E_RLWAI
unfoldable pub release_wait : Base → ℤ → TaskDone
release_wait b task = checked (release_checks b task) b (finished (release b (natural task) (plain (code_of er.RlWai))))

-- a task that is the current one may not be suspended while dispatching is disabled
abbrev pub may_suspend : Base → ℕ → Bool
may_suspend b t = not (is_current t b.cur && b.flags.dispatch_off)

abbrev pub suspend_checks : Base → Who → ℤ → List Check
suspend_checks b who task =
    (within 1 255 task otherwise er.Id)
    ∷ (is_some (task_at b (natural task)) otherwise er.NoExs)
    ∷ (not (natural task == caller who) otherwise er.Obj)
    ∷ (not (is_dormant b (natural task)) otherwise er.Obj)
    ∷ (may_suspend b (natural task) otherwise er.Ctx)
    ∷ (nat_lt (suspensions_of b (natural task)) most_requests otherwise er.QOvr)
    ∷ []

-- `tk_sus_tsk`: another task is suspended once more
unfoldable pub suspend_task : Base → Who → ℤ → TaskDone
suspend_task b who task = checked (suspend_checks b who task) b (finished (suspend b (natural task)))

abbrev pub resume_checks : Base → ℤ → List Check
resume_checks b task =
    (within 1 255 task otherwise er.Id)
    ∷ (is_some (task_at b (natural task)) otherwise er.NoExs)
    ∷ (not (suspensions_of b (natural task) == 0) otherwise er.Obj)
    ∷ []

-- `tk_rsm_tsk` and `tk_frsm_tsk`: one suspension of a task is taken off, or all
unfoldable pub resume_task : Base → ℤ → Bool → TaskDone
resume_task b task all = checked (resume_checks b task) b (finished (resume b (natural task) all))

-- a call on tasks by its row
unfoldable pub task_call : Base → Who → TaskCall → TaskDone
task_call b who (call.CreTsk attributes body priority stack) = create_task b attributes priority stack
task_call b who (call.DelTsk task) = delete_task b task
task_call b who (call.StaTsk task code) = start_task b task code
task_call b who call.ExtTsk = exit_task b who
task_call b who call.ExdTsk = exit_task b who
task_call b who (call.TerTsk task) = terminate_task b who task
task_call b who (call.ChgPri task priority) = change_priority b who task priority
task_call b who (call.RotRdq priority) = rotate_ready b priority
task_call b who call.GetTid = get_task b
task_call b who (call.RefTsk task) = refer_task b who task
task_call b who (call.SlpTsk timeout) = sleep b who timeout
task_call b who (call.WupTsk task) = wake_up b who task
task_call b who (call.CanWup task) = cancel_wakeups b who task
task_call b who (call.RelWai task) = release_wait b task
task_call b who (call.SusTsk task) = suspend_task b who task
task_call b who (call.RsmTsk task) = resume_task b task false
task_call b who (call.FrsmTsk task) = resume_task b task true
task_call b who (call.DlyTsk time) = delay b who time
