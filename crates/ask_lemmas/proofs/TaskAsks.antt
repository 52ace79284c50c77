-- Every call on tasks leaves what the tasks that wait have asked for: whoever sleeps or is in a delay asks for nothing.
use Rattle.std.proofs.Common.{ℕ, suc, zero, ◌+◌, Bool, true, false, cond, List, [], ◌∷◌, arith, ℤ, pos, negsuc}
use Rattle.std.specs.Bool.{◌==◌}
use Rattle.std.specs.Ordering.{int_eq}
use Rattle.tk_types.specs.declared.answer.Outcome.TheVariants as outcomes
use Rattle.tk_types.specs.declared.answer.Who.{Who}
use Rattle.tk_types.specs.declared.calls.TaskCall.{TaskCall}
use Rattle.tk_types.specs.declared.calls.TaskCall.TheVariants as call
use Rattle.tk_types.specs.declared.error_code.Er.TheVariants as er
use Rattle.tk_types.specs.declared.task.Order.TheVariants.{Fifo}
use Rattle.tk_types.specs.Codes.{code_of}
use Rattle.kernel_model.specs.Words.Checks.{Check, ◌otherwise◌, done, failed, natural, plain, within}
use Rattle.kernel_model.specs.Words.Orders.{to_back}
use Rattle.kernel_model.specs.Tasks.Base.{Base, create, current, delete, free_task, make_dormant, make_ready, make_wait, release, resume, rotate, set_base, set_wakeups, suspend, take_bytes, waits_for, wakeups_of}
use Rattle.kernel_model.specs.Tasks.Calls.{TaskDone, cancel_checks, cancel_wakeups, caller, change_checks, change_priority, checked, create_checks, create_task, delay, delay_object, delayed, delete_checks, delete_task, enabled_after, exit_task, finished, get_task, named, named_checks, new_base, rebased, refer_task, release_checks, release_wait, resume_checks, resume_task, rotate_ready, rotated_priority, sleep, sleep_object, slept, start_checks, start_task, suspend_checks, suspend_task, task_call, terminate_checks, terminate_task, waiting_checks, wake_up, wake_up_checks, woken}
use Rattle.kernel_model.specs.Tasks.Views.{is_current}
use Rattle.object_model.specs.Mutexes.Tables.{Mutexes}
use Rattle.object_model.specs.Mutexes.Calls.{change_checks_beside, change_priority_beside, task_call_beside}
use Rattle.call_lemmas.proofs.Checked.{checked_cases}
use Rattle.ask_lemmas.proofs.Asked.{Quietly, quiet_low}
use Rattle.ask_lemmas.proofs.Asks.{AllAsk, Asks, create_asks, delete_asks, dormant_asks, ready_asks, release_asks, resume_asks, set_base_asks, set_wakeups_asks, suspend_asks, taken_asks, wait_asks}

checked_asks : (asks : Asks) (checks : List Check) (b : Base) (effect : TaskDone) → AllAsk asks b → AllAsk asks effect.base →
    AllAsk asks (checked checks b effect).base
checked_asks asks checks b effect all works = checked_cases (λ done. AllAsk asks done.base) checks b effect (λ code. all) (λ none. works)

done_asks : (asks : Asks) (over : Bool) (done waits : TaskDone) → AllAsk asks done.base → AllAsk asks waits.base →
    AllAsk asks (cond {A = TaskDone} over done waits).base
done_asks asks true done waits over on = over
done_asks asks false done waits over on = on

slept_asks : (asks : Asks) (quiet : Quietly asks) (b : Base) (v : ℕ) (timeout : ℤ) (requests : ℕ) → AllAsk asks b → AllAsk asks (slept b v timeout requests).base
slept_asks asks quiet b v timeout zero all =
    done_asks asks (int_eq timeout (pos 0)) (record { base = b; outcome = failed er.TmOut })
    (record { base = make_wait b v sleep_object Fifo timeout; outcome = outcomes.Blocked }) all (wait_asks asks b v sleep_object Fifo timeout (quiet v sleep_object (quiet_low sleep_object (omega arith))) all)
slept_asks asks quiet b v timeout (suc requests) all = set_wakeups_asks asks b v requests all

enabled_asks : (asks : Asks) (b : Base) (ran : Bool) → AllAsk asks b → AllAsk asks (enabled_after ran b)
enabled_asks asks b true all = all
enabled_asks asks b false all = all

rebased_if : (asks : Asks) (b : Base) (v priority : ℕ) (keeps : Bool) → AllAsk asks b →
    AllAsk asks (cond keeps (record (set_base b v priority) { order = to_back v b.order }) (set_base b v priority))
rebased_if asks b v priority true all = set_base_asks asks b v priority all
rebased_if asks b v priority false all = set_base_asks asks b v priority all

rebased_asks : (asks : Asks) (b : Base) (v priority : ℕ) → AllAsk asks b → AllAsk asks (rebased b v priority)
rebased_asks asks b v priority all = rebased_if asks b v priority (current b v == priority) all

woken_asks : (asks : Asks) (b : Base) (v : ℕ) (sleeps : Bool) → AllAsk asks b →
    AllAsk asks (cond sleeps (release b v (plain (pos 0))) (set_wakeups b v (wakeups_of b v + 1)))
woken_asks asks b v true all = release_asks asks b v (plain (pos 0)) all
woken_asks asks b v false all = set_wakeups_asks asks b v (wakeups_of b v + 1) all

call_asks : (asks : Asks) (quiet : Quietly asks) (b : Base) (who : Who) (c : TaskCall) → AllAsk asks b → AllAsk asks (task_call b who c).base
unfolding task_call create_task delete_task start_task exit_task terminate_task change_priority rotate_ready get_task refer_task sleep delay wake_up cancel_wakeups release_wait suspend_task resume_task
call_asks asks quiet b who (call.CreTsk attributes body priority stack) all =
    checked_asks asks (create_checks b attributes priority stack) b (record {
      base = create (take_bytes b (natural stack)) (free_task b) (natural priority)
          (natural stack);
      outcome = done (pos (free_task b));
    }) all
    (create_asks asks (take_bytes b (natural stack)) (free_task b) (natural priority) (natural stack) (taken_asks asks b (natural stack) all))
call_asks asks quiet b who (call.DelTsk task) all = checked_asks asks (delete_checks b task) b (finished (delete b (natural task))) all
    (delete_asks asks b (natural task) all)
call_asks asks quiet b who (call.StaTsk task code) all = checked_asks asks (start_checks b task code) b (finished (make_ready b (natural task))) all
    (ready_asks asks b (natural task) all)
call_asks asks quiet b who call.ExtTsk all = dormant_asks asks b (caller who) all
call_asks asks quiet b who call.ExdTsk all = dormant_asks asks b (caller who) all
call_asks asks quiet b who (call.TerTsk task) all =
    checked_asks asks (terminate_checks b who task) b (finished (enabled_after (is_current (natural task) b.cur) (make_dormant b (natural task)))) all
    (enabled_asks asks (make_dormant b (natural task)) (is_current (natural task) b.cur) (dormant_asks asks b (natural task) all))
call_asks asks quiet b who (call.ChgPri task priority) all =
    checked_asks asks (change_checks b who task priority) b (finished (rebased b (named who task) (new_base b (named who task) priority))) all
    (rebased_asks asks b (named who task) (new_base b (named who task) priority) all)
call_asks asks quiet b who (call.RotRdq priority) all = checked_asks asks ((within 0 140 priority otherwise er.Par) ∷ []) b
    (finished (rotate b (rotated_priority b priority))) all all
call_asks asks quiet b who call.GetTid all = all
call_asks asks quiet b who (call.RefTsk task) all = checked_asks asks (named_checks b who task) b _ all all
call_asks asks quiet b who (call.SlpTsk timeout) all =
    checked_asks asks (waiting_checks b who (negsuc 0) timeout) b (slept b (caller who) timeout (wakeups_of b (caller who))) all
    (slept_asks asks quiet b (caller who) timeout (wakeups_of b (caller who)) all)
call_asks asks quiet b who (call.WupTsk task) all = checked_asks asks (wake_up_checks b who task) b (finished (woken b (natural task))) all
    (woken_asks asks b (natural task) (waits_for b sleep_object (natural task)) all)
call_asks asks quiet b who (call.CanWup task) all =
    checked_asks asks (cancel_checks b who task) b (record { base = set_wakeups b (named who task) 0; outcome = done (pos (wakeups_of b (named who task))) }) all
    (set_wakeups_asks asks b (named who task) 0 all)
call_asks asks quiet b who (call.RelWai task) all =
    checked_asks asks (release_checks b task) b (finished (release b (natural task) (plain (code_of er.RlWai)))) all
    (release_asks asks b (natural task) (plain (code_of er.RlWai)) all)
call_asks asks quiet b who (call.SusTsk task) all = checked_asks asks (suspend_checks b who task) b (finished (suspend b (natural task))) all
    (suspend_asks asks b (natural task) all)
call_asks asks quiet b who (call.RsmTsk task) all = checked_asks asks (resume_checks b task) b (finished (resume b (natural task) false)) all
    (resume_asks asks b (natural task) false all)
call_asks asks quiet b who (call.FrsmTsk task) all = checked_asks asks (resume_checks b task) b (finished (resume b (natural task) true)) all
    (resume_asks asks b (natural task) true all)
call_asks asks quiet b who (call.DlyTsk time) all =
    checked_asks asks (waiting_checks b who (pos 0) time) b (delayed b (caller who) time) all
    (done_asks asks (int_eq time (pos 0)) (finished b) (record { base = make_wait b (caller who) delay_object Fifo time; outcome = outcomes.Blocked }) all
    (wait_asks asks b (caller who) delay_object Fifo time (quiet (caller who) delay_object (quiet_low delay_object (omega arith))) all))

change_asks : (asks : Asks) (b : Base) (m : Mutexes) (who : Who) (task priority : ℤ) → AllAsk asks b → AllAsk asks (change_priority_beside b m who task priority).base
unfolding change_priority_beside
change_asks asks b m who task priority all =
    checked_asks asks (change_checks_beside b m who task priority) b _ all (rebased_asks asks b (named who task) (new_base b (named who task) priority) all)

-- every call on tasks leaves what the tasks that wait have asked for
pub task_calls_ask : (asks : Asks) (quiet : Quietly asks) (b : Base) (m : Mutexes) (who : Who) (c : TaskCall) → AllAsk asks b →
    AllAsk asks (task_call_beside b m who c).base
unfolding task_call_beside
task_calls_ask asks quiet b m who (call.ChgPri task priority) all = change_asks asks b m who task priority all
task_calls_ask asks quiet b m who c all = call_asks asks quiet b who c all
