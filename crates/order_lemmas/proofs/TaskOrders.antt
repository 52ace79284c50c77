-- Every call on tasks leaves the tasks that wait in the order of what they wait for: a call makes the caller wait in the queue
-- of those that sleep or of those in a delay, and those are by the beginning of the waits.
use Rattle.std.proofs.Common.{◌≡◌, ℕ, suc, zero, ◌+◌, Bool, true, false, cond, List, [], ◌∷◌, Some, refl, ℤ, pos, negsuc}
use Rattle.std.specs.Bool.{◌==◌}
use Rattle.std.specs.Ordering.{int_eq}
use Rattle.tk_types.specs.declared.answer.Outcome.TheVariants as outcomes
use Rattle.tk_types.specs.declared.answer.Who.{Who}
use Rattle.tk_types.specs.declared.calls.TaskCall.{TaskCall}
use Rattle.tk_types.specs.declared.calls.TaskCall.TheVariants as call
use Rattle.tk_types.specs.declared.error_code.Er.TheVariants as er
use Rattle.tk_types.specs.declared.task.Order.TheVariants.{Fifo}
use Rattle.tk_types.specs.Codes.{code_of}
use Rattle.kernel_model.specs.Words.Checks.{Check, ◌otherwise◌, done, failed, natural, plain, within}
use Rattle.kernel_model.specs.Words.Orders.{to_back}
use Rattle.kernel_model.specs.Tasks.Base.{Base, create, current, delete, free_task, has_room, make_dormant, make_ready, make_wait, release, resume, rotate, set_base, set_wakeups, suspend, take_bytes, waits_for, wakeups_of}
use Rattle.kernel_model.specs.Tasks.Calls.{TaskDone, cancel_checks, cancel_wakeups, caller, change_checks, change_priority, checked, create_checks, create_task, delay, delay_object, delayed, delete_checks, delete_task, enabled_after, exit_task, finished, get_task, named, named_checks, new_base, rebased, refer_task, release_checks, release_wait, resume_checks, resume_task, rotate_ready, rotated_priority, sleep, sleep_object, slept, start_checks, start_task, suspend_checks, suspend_task, task_call, terminate_checks, terminate_task, waiting_checks, wake_up, wake_up_checks, woken}
use Rattle.kernel_model.specs.Tasks.Views.{is_current}
use Rattle.object_model.specs.Mutexes.Tables.{Mutexes}
use Rattle.object_model.specs.Mutexes.Calls.{change_checks_beside, change_priority_beside, task_call_beside}
use Rattle.machine_model.specs.States.Objects.{Objects}
use Rattle.machine_model.specs.States.Waits.{order_for}
use Rattle.call_lemmas.proofs.Checked.{checked_cases}
use Rattle.order_lemmas.proofs.Rights.{AreRight, Orders, create_fits, delete_fits, dormant_fits, ready_fits, release_fits, resume_fits, set_base_fits, set_wakeups_fits, suspend_fits, wait_fits}

-- the queues of those that sleep and of those in a delay
pub record OfTasks (orders : Orders) : Type 0 where
  pub sleeps : orders sleep_object ≡ Some Fifo
  pub delays : orders delay_object ≡ Some Fifo

-- both are by the beginning of the waits
pub task_orders : (o : Objects) → OfTasks (order_for o)
task_orders o = record { sleeps = refl; delays = refl }

checked_fits : (orders : Orders) (checks : List Check) (b : Base) (effect : TaskDone) → AreRight orders b → AreRight orders effect.base →
    AreRight orders (checked checks b effect).base
checked_fits orders checks b effect all works = checked_cases (λ done. AreRight orders done.base) checks b effect (λ code. all) (λ none. works)

done_fits : (orders : Orders) (over : Bool) (done waits : TaskDone) → AreRight orders done.base → AreRight orders waits.base →
    AreRight orders (cond {A = TaskDone} over done waits).base
done_fits orders true done waits over on = over
done_fits orders false done waits over on = on

slept_fits : (orders : Orders) (own : OfTasks orders) (b : Base) (v : ℕ) (timeout : ℤ) (requests : ℕ) → AreRight orders b → AreRight orders (slept b v timeout requests).base
slept_fits orders own b v timeout zero all =
    done_fits orders (int_eq timeout (pos 0)) (record { base = b; outcome = failed er.TmOut })
    (record { base = make_wait b v sleep_object Fifo timeout; outcome = outcomes.Blocked }) all (wait_fits orders b v sleep_object Fifo timeout own.sleeps all)
slept_fits orders own b v timeout (suc requests) all = set_wakeups_fits orders b v requests all

-- bytes are taken, where there is room
pub taken_fits : (orders : Orders) (b : Base) (n : ℕ) → AreRight orders b → AreRight orders (take_bytes b n)
taken_fits orders b n all = room_fits (has_room b n)
  where
    room_fits : (room : Bool) → AreRight orders (cond room (record b { bytes = b.bytes + n }) b)
    room_fits true = all
    room_fits false = all

enabled_fits : (orders : Orders) (b : Base) (ran : Bool) → AreRight orders b → AreRight orders (enabled_after ran b)
enabled_fits orders b true all = all
enabled_fits orders b false all = all

rebased_if : (orders : Orders) (b : Base) (v priority : ℕ) (keeps : Bool) → AreRight orders b →
    AreRight orders (cond keeps (record (set_base b v priority) { order = to_back v b.order }) (set_base b v priority))
rebased_if orders b v priority true all = set_base_fits orders b v priority all
rebased_if orders b v priority false all = set_base_fits orders b v priority all

rebased_fits : (orders : Orders) (b : Base) (v priority : ℕ) → AreRight orders b → AreRight orders (rebased b v priority)
rebased_fits orders b v priority all = rebased_if orders b v priority (current b v == priority) all

woken_fits : (orders : Orders) (b : Base) (v : ℕ) (sleeps : Bool) → AreRight orders b →
    AreRight orders (cond sleeps (release b v (plain (pos 0))) (set_wakeups b v (wakeups_of b v + 1)))
woken_fits orders b v true all = release_fits orders b v (plain (pos 0)) all
woken_fits orders b v false all = set_wakeups_fits orders b v (wakeups_of b v + 1) all

call_fits : (orders : Orders) (own : OfTasks orders) (b : Base) (who : Who) (c : TaskCall) → AreRight orders b → AreRight orders (task_call b who c).base
unfolding task_call create_task delete_task start_task exit_task terminate_task change_priority rotate_ready get_task refer_task sleep delay wake_up cancel_wakeups release_wait suspend_task resume_task
call_fits orders own b who (call.CreTsk attributes body priority stack) all =
    checked_fits orders (create_checks b attributes priority stack) b (record {
      base = create (take_bytes b (natural stack)) (free_task b) (natural priority)
          (natural stack);
      outcome = done (pos (free_task b));
    }) all
    (create_fits orders (take_bytes b (natural stack)) (free_task b) (natural priority) (natural stack) (taken_fits orders b (natural stack) all))
call_fits orders own b who (call.DelTsk task) all = checked_fits orders (delete_checks b task) b (finished (delete b (natural task))) all
    (delete_fits orders b (natural task) all)
call_fits orders own b who (call.StaTsk task code) all = checked_fits orders (start_checks b task code) b (finished (make_ready b (natural task))) all
    (ready_fits orders b (natural task) all)
call_fits orders own b who call.ExtTsk all = dormant_fits orders b (caller who) all
call_fits orders own b who call.ExdTsk all = dormant_fits orders b (caller who) all
call_fits orders own b who (call.TerTsk task) all =
    checked_fits orders (terminate_checks b who task) b (finished (enabled_after (is_current (natural task) b.cur) (make_dormant b (natural task)))) all
    (enabled_fits orders (make_dormant b (natural task)) (is_current (natural task) b.cur) (dormant_fits orders b (natural task) all))
call_fits orders own b who (call.ChgPri task priority) all =
    checked_fits orders (change_checks b who task priority) b (finished (rebased b (named who task) (new_base b (named who task) priority))) all
    (rebased_fits orders b (named who task) (new_base b (named who task) priority) all)
call_fits orders own b who (call.RotRdq priority) all = checked_fits orders ((within 0 140 priority otherwise er.Par) ∷ []) b
    (finished (rotate b (rotated_priority b priority))) all all
call_fits orders own b who call.GetTid all = all
call_fits orders own b who (call.RefTsk task) all = checked_fits orders (named_checks b who task) b _ all all
call_fits orders own b who (call.SlpTsk timeout) all =
    checked_fits orders (waiting_checks b who (negsuc 0) timeout) b (slept b (caller who) timeout (wakeups_of b (caller who))) all
    (slept_fits orders own b (caller who) timeout (wakeups_of b (caller who)) all)
call_fits orders own b who (call.WupTsk task) all = checked_fits orders (wake_up_checks b who task) b (finished (woken b (natural task))) all
    (woken_fits orders b (natural task) (waits_for b sleep_object (natural task)) all)
call_fits orders own b who (call.CanWup task) all =
    checked_fits orders (cancel_checks b who task) b (record { base = set_wakeups b (named who task) 0; outcome = done (pos (wakeups_of b (named who task))) }) all
    (set_wakeups_fits orders b (named who task) 0 all)
call_fits orders own b who (call.RelWai task) all =
    checked_fits orders (release_checks b task) b (finished (release b (natural task) (plain (code_of er.RlWai)))) all
    (release_fits orders b (natural task) (plain (code_of er.RlWai)) all)
call_fits orders own b who (call.SusTsk task) all = checked_fits orders (suspend_checks b who task) b (finished (suspend b (natural task))) all
    (suspend_fits orders b (natural task) all)
call_fits orders own b who (call.RsmTsk task) all = checked_fits orders (resume_checks b task) b (finished (resume b (natural task) false)) all
    (resume_fits orders b (natural task) false all)
call_fits orders own b who (call.FrsmTsk task) all = checked_fits orders (resume_checks b task) b (finished (resume b (natural task) true)) all
    (resume_fits orders b (natural task) true all)
call_fits orders own b who (call.DlyTsk time) all =
    checked_fits orders (waiting_checks b who (pos 0) time) b (delayed b (caller who) time) all
    (done_fits orders (int_eq time (pos 0)) (finished b) (record { base = make_wait b (caller who) delay_object Fifo time; outcome = outcomes.Blocked }) all
    (wait_fits orders b (caller who) delay_object Fifo time own.delays all))

change_fits : (orders : Orders) (b : Base) (m : Mutexes) (who : Who) (task priority : ℤ) → AreRight orders b → AreRight orders (change_priority_beside b m who task priority).base
unfolding change_priority_beside
change_fits orders b m who task priority all =
    checked_fits orders (change_checks_beside b m who task priority) b _ all (rebased_fits orders b (named who task) (new_base b (named who task) priority) all)

-- every call on tasks leaves the tasks that wait in order
pub task_calls_fit : (orders : Orders) (own : OfTasks orders) (b : Base) (m : Mutexes) (who : Who) (c : TaskCall) → AreRight orders b →
    AreRight orders (task_call_beside b m who c).base
unfolding task_call_beside
task_calls_fit orders own b m who (call.ChgPri task priority) all = change_fits orders b m who task priority all
task_calls_fit orders own b m who c all = call_fits orders own b who c all
