-- Runs that were worked out by hand from the rules, as runs/context/clocks has them: each a theorem by computation.
use Rattle.std.specs.Prelude.{ℕ, pos, negsuc, List, [], ◌∷◌, ◌++◌, Some, None, codes, ◌≡◌, refl}
use Rattle.std.specs.Fmt.{digits}
use Rattle.tk_types.specs.declared.script.Script.{Script}
use Rattle.tk_types.specs.declared.script.BodyKind.TheVariants as kinds
use Rattle.tk_types.specs.declared.script.Kind.TheVariants as devices
use Rattle.tk_types.specs.declared.script.Stmt.TheVariants as stmts
use Rattle.tk_types.specs.declared.script.Operand.TheVariants as operands
use Rattle.tk_types.specs.declared.script.Operation.TheVariants as operations
use Rattle.tk_types.specs.declared.script.Condition.TheVariants as conditions
use Rattle.tk_types.specs.declared.script.Arg.TheVariants as args
use Rattle.tk_types.specs.declared.call_name.CallName.TheVariants as names
use Rattle.tk_types.specs.declared.line.Entry.{Entry}
use Rattle.tk_types.specs.declared.line.How.TheVariants as hows
use Rattle.tk_types.specs.declared.run.Mode.TheVariants as modes
use Rattle.tk_types.specs.CallNames.{text_of, form_of, named}
use Rattle.tk_types.specs.Calls.{made, task_call_name, sem_flag_call_name, mutex_call_name, mail_call_name, pool_call_name, time_call_name, context_call_name, device_call_name, hook_call_name, name_of}
use Rattle.tk_types.specs.Codes.{code_of, error_text, coded, error_named}
use Rattle.tk_types.specs.Modes.{attributes_of, flag_mode_of, open_mode_of, suspend_mode_of}
use Rattle.tk_types.specs.Names.{is_name_byte, name_at_most}
use Rattle.tk_types.specs.Reasons.{why_text}
use Rattle.tk_model.specs.LineText.{value_text, words_of, text_of_line, text_of_lines}
use Rattle.kernel_model.specs.Bodies.Statements.{fetch, give, call_before}
use Rattle.kernel_model.specs.SemFlags.Calls.{create_sem, create_flag, end_first, delete_sem, delete_flag, refer_sem, refer_flag, signal_sem, set_flag, clear_flag, wait_sem, wait_flag, sem_flag_call}
use Rattle.kernel_model.specs.SemFlags.Tables.{serve_sem, serve_flag, first_served, serve_sem_flag}
use Rattle.kernel_model.specs.SemFlags.Trial.{sem_trial, flag_trial}
use Rattle.kernel_model.specs.Tasks.Base.{chosen, free_task}
use Rattle.kernel_model.specs.Tasks.Calls.{create_task, delete_task, start_task, exit_task, terminate_task, change_priority, rotate_ready, get_task, refer_task, sleep, delay, wake_up, cancel_wakeups, release_wait, suspend_task, resume_task, task_call}
use Rattle.kernel_model.specs.Tasks.Marks.{mark_of, allowed}
use Rattle.kernel_model.specs.Words.Orders.{free_from}
use Rattle.object_model.specs.Servings.{first_serving}
use Rattle.object_model.specs.Mails.Boxes.{serve_box, serve_mailboxes}
use Rattle.object_model.specs.Mails.Buffers.{serve_buffer, serve_buffers, post}
use Rattle.object_model.specs.Mails.Calls.{create_box, delete_box, send_box, receive_box, refer_box, create_buffer, delete_buffer, send_buffer, receive_buffer, refer_buffer, mail_call}
use Rattle.object_model.specs.Mutexes.Calls.{create_mutex, lock_mutex, unlock_mutex, refer_mutex, delete_mutex, mutex_call, change_priority_beside, task_call_beside}
use Rattle.object_model.specs.Mutexes.Priority.{chain_has, current_of, resettle}
use Rattle.object_model.specs.Mutexes.Tables.{free_last, ceiling_allows, serve_mutex, serve_mutexes}
use Rattle.object_model.specs.Pools.Calls.{create_fixed, delete_fixed, get_fixed, release_fixed, refer_fixed, create_variable, delete_variable, get_variable, release_variable, refer_variable, pool_call}
use Rattle.object_model.specs.Pools.Fixed.{first_free, serve_fixed, serve_fixed_pools}
use Rattle.object_model.specs.Pools.Variable.{serve_variable, serve_variable_pools}
use Rattle.context_model.specs.Clocks.Calls.{set_time, get_time, get_operating_time, create_cyclic, start_cyclic, stop_cyclic, delete_cyclic, refer_cyclic, create_alarm, start_alarm, stop_alarm, delete_alarm, refer_alarm, time_call}
use Rattle.context_model.specs.Clocks.Tables.{body_of, next_due, again}
use Rattle.context_model.specs.Contexts.Calls.{define_handler, disable_dispatch, enable_dispatch, disable_interrupts, enable_interrupts, refer_system, define_service, refer_service, enter_service, context_call}
use Rattle.context_model.specs.Contexts.Tables.{left}
use Rattle.context_model.specs.Hooks.Calls.{list_existing, list_ready, list_queue, set_hook, hook_call}
use Rattle.device_model.specs.Devices.Calls.{open_device, refer_device, request, request_whole, wait_ending, close_device, suspend_devices, device_call}
use Rattle.device_model.specs.Devices.Endings.{expected, arrive}
use Rattle.device_model.specs.Devices.Handing.{hand_over, hand_first, messages, emptied}
use Rattle.device_model.specs.Devices.Memory.{read_bytes, write_bytes}
use Rattle.device_model.specs.Devices.Requests.{accept, picked}
use Rattle.device_model.specs.Devices.Servings.{serve_acceptance, serve_acceptances, serve_ending, serve_endings, is_with_driver, serve_close, serve_closes, serve_suspension}
use Rattle.device_model.specs.Devices.Suspension.{events_sent}
use Rattle.device_model.specs.Devices.Tables.{free_descriptor, free_request, first_queued, at_driver, accepted, dropped, handed, asked, devices_start}
use Rattle.device_model.specs.Units.Blocks.{block, is_last, blocks}
use Rattle.device_model.specs.Units.Function.{unit, cut, may_cut}
use Rattle.machine_model.specs.Events.Arrivals.{arrived}
use Rattle.machine_model.specs.Events.Bodies.{entered, returned, body_returned}
use Rattle.machine_model.specs.Events.Calls.{family_call, answered, called}
use Rattle.machine_model.specs.Events.Follow.{follow_release, follow_each, with_releases, dispatched, followed}
use Rattle.machine_model.specs.Events.Handlers.{insert_once, with_requests, handler_begun, due_begun, interrupt_begun}
use Rattle.machine_model.specs.Events.Settle.{served_within, settle, freed_within}
use Rattle.machine_model.specs.Events.Ticks.{fallen, due_done, tick}
use Rattle.machine_model.specs.Runs.Reached.{state_after}
use Rattle.machine_model.specs.Runs.Step.{worked, counted, step}
use Rattle.machine_model.specs.Runs.SyncTrace.{sync_runs, sync_run}
use Rattle.machine_model.specs.Runs.Trace.{lines_of, entered as entered_2, runs, start, trace}
use Rattle.machine_model.specs.Runs.Turns.{acted, ran, turn_of, done_turn}
use Rattle.machine_model.specs.States.Objects.{first_serving as first_serving_2, serve_object}
use Rattle.machine_model.specs.States.State.{state_start}

-- Setting an alarm again takes the place of the time before; a far time is shown as a negative number. An alarm is no longer set while
-- its handler runs, which may set it; with time 0 it is due in the next tick, and its handler starts with registers anew.
alarms_set_again_script : Script
alarms_set_again_script = record {
  devices = [];
  pace = None;
  irqs = [];
  boot = record { body = 1; priority = 10 };
  bodies =
      record {
        name = codes "main";
        kind = kinds.Task;
        labels = [];
        stmts =
            stmts.Call names.TkCreAlm (args.List 0 ∷ args.Body 2 ∷ []) ∷
            stmts.Call names.TkRefAlm (args.Number (pos 1) ∷ []) ∷
            stmts.Call names.TkStaAlm (args.Number (pos 1) ∷ args.Number (pos 2147483647) ∷ []) ∷
            stmts.Call names.TkRefAlm (args.Number (pos 1) ∷ []) ∷
            stmts.Call names.TkStaAlm (args.Number (pos 1) ∷ args.Number (pos 5) ∷ []) ∷
            stmts.Call names.TkRefAlm (args.Number (pos 1) ∷ []) ∷
            stmts.Call names.TkStaAlm (args.Number (pos 1) ∷ args.Number (pos 0) ∷ []) ∷
            stmts.Call names.TkRefAlm (args.Number (pos 1) ∷ []) ∷
            stmts.Call names.TkDlyTsk (args.Number (pos 1) ∷ []) ∷
            stmts.Call names.TkStpAlm (args.Number (pos 1) ∷ []) ∷
            stmts.Call names.TkRefAlm (args.Number (pos 1) ∷ []) ∷
            stmts.Call names.TkStpAlm (args.Number (pos 1) ∷ []) ∷
            [];
      } ∷
      record {
        name = codes "h";
        kind = kinds.Hand;
        labels = [];
        stmts =
            stmts.Show (operands.Register 5) ∷
            stmts.Compute operations.Set 5 (operands.Register 1) ∷
            stmts.Call names.TkRefAlm (args.Register 5 ∷ []) ∷
            stmts.Call names.TkStaAlm (args.Register 5 ∷ args.Number (pos 0) ∷ []) ∷
            stmts.Call names.TkRefAlm (args.Register 5 ∷ []) ∷
            [];
      } ∷
      [];
}

alarms_set_again_entries : List Entry
alarms_set_again_entries = []

alarms_set_again_lines : List ℕ
alarms_set_again_lines =
    codes "0 D 1\n" ++
    codes "1 C 1 tk_cre_alm 1\n" ++
    codes "2 C 1 tk_ref_alm 0 0 0\n" ++
    codes "3 C 1 tk_sta_alm 0\n" ++
    codes "4 C 1 tk_ref_alm 0 -2147483648 1\n" ++
    codes "5 C 1 tk_sta_alm 0\n" ++
    codes "6 C 1 tk_ref_alm 0 6 1\n" ++
    codes "7 C 1 tk_sta_alm 0\n" ++
    codes "8 C 1 tk_ref_alm 0 1 1\n" ++
    codes "9 B 1 tk_dly_tsk\n" ++
    codes "9 D 0\n" ++
    codes "10 K 1\n" ++
    codes "11 I alm 1\n" ++
    codes "12 S 0 0\n" ++
    codes "14 C 0 tk_ref_alm 0 0 0\n" ++
    codes "15 C 0 tk_sta_alm 0\n" ++
    codes "16 C 0 tk_ref_alm 0 1 1\n" ++
    codes "18 K 2\n" ++
    codes "18 W 1 tk_dly_tsk 0\n" ++
    codes "19 I alm 1\n" ++
    codes "20 S 0 0\n" ++
    codes "22 C 0 tk_ref_alm 0 0 0\n" ++
    codes "23 C 0 tk_sta_alm 0\n" ++
    codes "24 C 0 tk_ref_alm 0 1 1\n" ++
    codes "25 D 1\n" ++
    codes "26 C 1 tk_stp_alm 0\n" ++
    codes "27 C 1 tk_ref_alm 0 0 0\n" ++
    codes "28 C 1 tk_stp_alm 0\n" ++
    codes "29 C 1 tk_ext_tsk 0\n" ++
    codes "29 D 0\n" ++
    codes "29 END idle\n" ++
    []

alarms_set_again_run : text_of_lines (lines_of (trace alarms_set_again_script modes.Free 100000 alarms_set_again_entries)) ≡ alarms_set_again_lines
unfolding alarms_set_again_script alarms_set_again_entries alarms_set_again_lines text_of form_of named made task_call_name sem_flag_call_name mutex_call_name mail_call_name pool_call_name time_call_name context_call_name device_call_name hook_call_name name_of code_of error_text coded error_named attributes_of flag_mode_of open_mode_of suspend_mode_of is_name_byte name_at_most why_text value_text words_of text_of_line text_of_lines fetch give call_before create_sem create_flag end_first delete_sem delete_flag refer_sem refer_flag signal_sem set_flag clear_flag wait_sem wait_flag sem_flag_call serve_sem serve_flag first_served serve_sem_flag sem_trial flag_trial chosen free_task create_task delete_task start_task exit_task terminate_task change_priority rotate_ready get_task refer_task sleep delay wake_up cancel_wakeups release_wait suspend_task resume_task task_call mark_of allowed free_from first_serving serve_box serve_mailboxes serve_buffer serve_buffers post create_box delete_box send_box receive_box refer_box create_buffer delete_buffer send_buffer receive_buffer refer_buffer mail_call create_mutex lock_mutex unlock_mutex refer_mutex delete_mutex mutex_call change_priority_beside task_call_beside chain_has current_of resettle free_last ceiling_allows serve_mutex serve_mutexes create_fixed delete_fixed get_fixed release_fixed refer_fixed create_variable delete_variable get_variable release_variable refer_variable pool_call first_free serve_fixed serve_fixed_pools serve_variable serve_variable_pools set_time get_time get_operating_time create_cyclic start_cyclic stop_cyclic delete_cyclic refer_cyclic create_alarm start_alarm stop_alarm delete_alarm refer_alarm time_call body_of next_due again define_handler disable_dispatch enable_dispatch disable_interrupts enable_interrupts refer_system define_service refer_service enter_service context_call left list_existing list_ready list_queue set_hook hook_call open_device refer_device request request_whole wait_ending close_device suspend_devices device_call expected arrive hand_over hand_first messages emptied read_bytes write_bytes accept picked serve_acceptance serve_acceptances serve_ending serve_endings is_with_driver serve_close serve_closes serve_suspension events_sent free_descriptor free_request first_queued at_driver accepted dropped handed asked devices_start block is_last blocks unit cut may_cut arrived entered returned body_returned family_call answered called follow_release follow_each with_releases dispatched followed insert_once with_requests handler_begun due_begun interrupt_begun served_within settle freed_within fallen due_done tick state_after worked counted step sync_runs sync_run entered_2 runs start trace acted ran turn_of done_turn first_serving_2 serve_object state_start digits
alarms_set_again_run = refl

-- What is due in one tick comes in the order of its making: an alarm before a cyclic handler that was started again behind it, and last
-- one that was set for this tick by its own earlier fall. After a wait's end all settles, so a later limit finds its task served.
order_in_one_tick_script : Script
order_in_one_tick_script = record {
  devices = [];
  pace = None;
  irqs = [];
  boot = record { body = 1; priority = 10 };
  bodies =
      record {
        name = codes "main";
        kind = kinds.Task;
        labels = [];
        stmts =
            stmts.Call names.TkCreCyc (args.List 65536 ∷ args.Body 4 ∷ args.Number (pos 2) ∷ args.Number (pos 1) ∷ []) ∷
            stmts.Call names.TkCreCyc (args.List 65536 ∷ args.Body 4 ∷ args.Number (pos 3) ∷ args.Number (pos 3) ∷ []) ∷
            stmts.Call names.TkCreAlm (args.List 0 ∷ args.Body 4 ∷ []) ∷
            stmts.Call names.TkStaAlm (args.Number (pos 1) ∷ args.Number (pos 3) ∷ []) ∷
            stmts.Call names.TkStaCyc (args.Number (pos 2) ∷ []) ∷
            stmts.Call names.TkCreSem (args.List 0 ∷ args.Number (pos 1) ∷ args.Number (pos 9) ∷ []) ∷
            stmts.Call names.TkCreTsk (args.List 0 ∷ args.Body 2 ∷ args.Number (pos 5) ∷ args.Number (pos 512) ∷ []) ∷
            stmts.Call names.TkCreTsk (args.List 0 ∷ args.Body 3 ∷ args.Number (pos 5) ∷ args.Number (pos 512) ∷ []) ∷
            stmts.Call names.TkStaTsk (args.Number (pos 2) ∷ args.Number (pos 0) ∷ []) ∷
            stmts.Call names.TkStaTsk (args.Number (pos 3) ∷ args.Number (pos 0) ∷ []) ∷
            stmts.Call names.TkDlyTsk (args.Number (pos 3) ∷ []) ∷
            stmts.Call names.TkStpCyc (args.Number (pos 1) ∷ []) ∷
            stmts.Call names.TkStpCyc (args.Number (pos 2) ∷ []) ∷
            [];
      } ∷
      record {
        name = codes "a";
        kind = kinds.Task;
        labels = [];
        stmts =
            stmts.Call names.TkWaiSem (args.Number (pos 1) ∷ args.Number (pos 2) ∷ args.Number (pos 3) ∷ []) ∷
            [];
      } ∷
      record {
        name = codes "b";
        kind = kinds.Task;
        labels = [];
        stmts =
            stmts.Call names.TkWaiSem (args.Number (pos 1) ∷ args.Number (pos 1) ∷ args.Number (pos 3) ∷ []) ∷
            [];
      } ∷
      record {
        name = codes "h";
        kind = kinds.Hand;
        labels = [];
        stmts =
            stmts.Show (operands.Register 1) ∷
            [];
      } ∷
      [];
}

order_in_one_tick_entries : List Entry
order_in_one_tick_entries = []

order_in_one_tick_lines : List ℕ
order_in_one_tick_lines =
    codes "0 D 1\n" ++
    codes "1 C 1 tk_cre_cyc 1\n" ++
    codes "2 C 1 tk_cre_cyc 2\n" ++
    codes "3 C 1 tk_cre_alm 1\n" ++
    codes "4 C 1 tk_sta_alm 0\n" ++
    codes "5 C 1 tk_sta_cyc 0\n" ++
    codes "6 C 1 tk_cre_sem 1\n" ++
    codes "7 C 1 tk_cre_tsk 2\n" ++
    codes "8 C 1 tk_cre_tsk 3\n" ++
    codes "9 C 1 tk_sta_tsk 0\n" ++
    codes "9 D 2\n" ++
    codes "10 B 2 tk_wai_sem\n" ++
    codes "10 D 1\n" ++
    codes "11 C 1 tk_sta_tsk 0\n" ++
    codes "11 D 3\n" ++
    codes "12 B 3 tk_wai_sem\n" ++
    codes "12 D 1\n" ++
    codes "13 B 1 tk_dly_tsk\n" ++
    codes "13 D 0\n" ++
    codes "14 K 1\n" ++
    codes "15 K 2\n" ++
    codes "16 I cyc 1\n" ++
    codes "17 S 0 1\n" ++
    codes "19 K 3\n" ++
    codes "20 K 4\n" ++
    codes "20 W 2 tk_wai_sem E_TMOUT\n" ++
    codes "20 W 3 tk_wai_sem 0\n" ++
    codes "20 W 1 tk_dly_tsk 0\n" ++
    codes "21 I alm 1\n" ++
    codes "22 S 0 1\n" ++
    codes "24 I cyc 2\n" ++
    codes "25 S 0 2\n" ++
    codes "27 I cyc 1\n" ++
    codes "28 S 0 1\n" ++
    codes "29 D 2\n" ++
    codes "30 C 2 tk_ext_tsk 0\n" ++
    codes "30 D 3\n" ++
    codes "31 C 3 tk_ext_tsk 0\n" ++
    codes "31 D 1\n" ++
    codes "32 C 1 tk_stp_cyc 0\n" ++
    codes "33 C 1 tk_stp_cyc 0\n" ++
    codes "34 C 1 tk_ext_tsk 0\n" ++
    codes "34 D 0\n" ++
    codes "34 END idle\n" ++
    []

order_in_one_tick_run : text_of_lines (lines_of (trace order_in_one_tick_script modes.Free 100000 order_in_one_tick_entries)) ≡ order_in_one_tick_lines
unfolding order_in_one_tick_script order_in_one_tick_entries order_in_one_tick_lines text_of form_of named made task_call_name sem_flag_call_name mutex_call_name mail_call_name pool_call_name time_call_name context_call_name device_call_name hook_call_name name_of code_of error_text coded error_named attributes_of flag_mode_of open_mode_of suspend_mode_of is_name_byte name_at_most why_text value_text words_of text_of_line text_of_lines fetch give call_before create_sem create_flag end_first delete_sem delete_flag refer_sem refer_flag signal_sem set_flag clear_flag wait_sem wait_flag sem_flag_call serve_sem serve_flag first_served serve_sem_flag sem_trial flag_trial chosen free_task create_task delete_task start_task exit_task terminate_task change_priority rotate_ready get_task refer_task sleep delay wake_up cancel_wakeups release_wait suspend_task resume_task task_call mark_of allowed free_from first_serving serve_box serve_mailboxes serve_buffer serve_buffers post create_box delete_box send_box receive_box refer_box create_buffer delete_buffer send_buffer receive_buffer refer_buffer mail_call create_mutex lock_mutex unlock_mutex refer_mutex delete_mutex mutex_call change_priority_beside task_call_beside chain_has current_of resettle free_last ceiling_allows serve_mutex serve_mutexes create_fixed delete_fixed get_fixed release_fixed refer_fixed create_variable delete_variable get_variable release_variable refer_variable pool_call first_free serve_fixed serve_fixed_pools serve_variable serve_variable_pools set_time get_time get_operating_time create_cyclic start_cyclic stop_cyclic delete_cyclic refer_cyclic create_alarm start_alarm stop_alarm delete_alarm refer_alarm time_call body_of next_due again define_handler disable_dispatch enable_dispatch disable_interrupts enable_interrupts refer_system define_service refer_service enter_service context_call left list_existing list_ready list_queue set_hook hook_call open_device refer_device request request_whole wait_ending close_device suspend_devices device_call expected arrive hand_over hand_first messages emptied read_bytes write_bytes accept picked serve_acceptance serve_acceptances serve_ending serve_endings is_with_driver serve_close serve_closes serve_suspension events_sent free_descriptor free_request first_queued at_driver accepted dropped handed asked devices_start block is_last blocks unit cut may_cut arrived entered returned body_returned family_call answered called follow_release follow_each with_releases dispatched followed insert_once with_requests handler_begun due_begun interrupt_begun served_within settle freed_within fallen due_done tick state_after worked counted step sync_runs sync_run entered_2 runs start trace acted ran turn_of done_turn first_serving_2 serve_object state_start digits
order_in_one_tick_run = refl

-- A handler of period 1 whose body is longer than the pace is due in each tick, so no task gets its turn; the ticks are counted, and
-- each of them makes it due once.
period_of_one_script : Script
period_of_one_script = record {
  devices = [];
  pace = Some 3;
  irqs = [];
  boot = record { body = 1; priority = 10 };
  bodies =
      record {
        name = codes "main";
        kind = kinds.Task;
        labels = [];
        stmts =
            stmts.Call names.TkCreCyc (args.List 65536 ∷ args.Body 2 ∷ args.Number (pos 1) ∷ args.Number (pos 0) ∷ []) ∷
            stmts.Say (codes "a") ∷
            stmts.Say (codes "never") ∷
            [];
      } ∷
      record {
        name = codes "c";
        kind = kinds.Hand;
        labels = [];
        stmts =
            stmts.Say (codes "x") ∷
            stmts.Say (codes "y") ∷
            [];
      } ∷
      [];
}

period_of_one_entries : List Entry
period_of_one_entries = []

period_of_one_lines : List ℕ
period_of_one_lines =
    codes "0 D 1\n" ++
    codes "1 C 1 tk_cre_cyc 1\n" ++
    codes "2 S 1 a\n" ++
    codes "3 K 1\n" ++
    codes "4 I cyc 1\n" ++
    codes "5 S 0 x\n" ++
    codes "6 S 0 y\n" ++
    codes "8 K 2\n" ++
    codes "9 I cyc 1\n" ++
    codes "10 S 0 x\n" ++
    codes "11 S 0 y\n" ++
    codes "13 K 3\n" ++
    codes "14 I cyc 1\n" ++
    codes "15 S 0 x\n" ++
    codes "16 S 0 y\n" ++
    codes "18 K 4\n" ++
    codes "19 I cyc 1\n" ++
    codes "20 S 0 x\n" ++
    codes "20 END budget\n" ++
    []

period_of_one_run : text_of_lines (lines_of (trace period_of_one_script modes.Free 20 period_of_one_entries)) ≡ period_of_one_lines
unfolding period_of_one_script period_of_one_entries period_of_one_lines text_of form_of named made task_call_name sem_flag_call_name mutex_call_name mail_call_name pool_call_name time_call_name context_call_name device_call_name hook_call_name name_of code_of error_text coded error_named attributes_of flag_mode_of open_mode_of suspend_mode_of is_name_byte name_at_most why_text value_text words_of text_of_line text_of_lines fetch give call_before create_sem create_flag end_first delete_sem delete_flag refer_sem refer_flag signal_sem set_flag clear_flag wait_sem wait_flag sem_flag_call serve_sem serve_flag first_served serve_sem_flag sem_trial flag_trial chosen free_task create_task delete_task start_task exit_task terminate_task change_priority rotate_ready get_task refer_task sleep delay wake_up cancel_wakeups release_wait suspend_task resume_task task_call mark_of allowed free_from first_serving serve_box serve_mailboxes serve_buffer serve_buffers post create_box delete_box send_box receive_box refer_box create_buffer delete_buffer send_buffer receive_buffer refer_buffer mail_call create_mutex lock_mutex unlock_mutex refer_mutex delete_mutex mutex_call change_priority_beside task_call_beside chain_has current_of resettle free_last ceiling_allows serve_mutex serve_mutexes create_fixed delete_fixed get_fixed release_fixed refer_fixed create_variable delete_variable get_variable release_variable refer_variable pool_call first_free serve_fixed serve_fixed_pools serve_variable serve_variable_pools set_time get_time get_operating_time create_cyclic start_cyclic stop_cyclic delete_cyclic refer_cyclic create_alarm start_alarm stop_alarm delete_alarm refer_alarm time_call body_of next_due again define_handler disable_dispatch enable_dispatch disable_interrupts enable_interrupts refer_system define_service refer_service enter_service context_call left list_existing list_ready list_queue set_hook hook_call open_device refer_device request request_whole wait_ending close_device suspend_devices device_call expected arrive hand_over hand_first messages emptied read_bytes write_bytes accept picked serve_acceptance serve_acceptances serve_ending serve_endings is_with_driver serve_close serve_closes serve_suspension events_sent free_descriptor free_request first_queued at_driver accepted dropped handed asked devices_start block is_last blocks unit cut may_cut arrived entered returned body_returned family_call answered called follow_release follow_each with_releases dispatched followed insert_once with_requests handler_begun due_begun interrupt_begun served_within settle freed_within fallen due_done tick state_after worked counted step sync_runs sync_run entered_2 runs start trace acted ran turn_of done_turn first_serving_2 serve_object state_start digits
period_of_one_run = refl

-- A cyclic handler that is started late is due at the next time of its phase.
phase_kept_script : Script
phase_kept_script = record {
  devices = [];
  pace = None;
  irqs = [];
  boot = record { body = 1; priority = 10 };
  bodies =
      record {
        name = codes "main";
        kind = kinds.Task;
        labels = [];
        stmts =
            stmts.Call names.TkCreCyc (args.List 131072 ∷ args.Body 2 ∷ args.Number (pos 10) ∷ args.Number (pos 3) ∷ []) ∷
            stmts.Call names.TkDlyTsk (args.Number (pos 5) ∷ []) ∷
            stmts.Call names.TkStaCyc (args.Number (pos 1) ∷ []) ∷
            stmts.Call names.TkRefCyc (args.Number (pos 1) ∷ []) ∷
            stmts.Call names.TkDlyTsk (args.Number (pos 9) ∷ []) ∷
            stmts.Call names.TkStpCyc (args.Number (pos 1) ∷ []) ∷
            [];
      } ∷
      record {
        name = codes "c";
        kind = kinds.Hand;
        labels = [];
        stmts =
            stmts.Say (codes "beep") ∷
            [];
      } ∷
      [];
}

phase_kept_entries : List Entry
phase_kept_entries = []

phase_kept_lines : List ℕ
phase_kept_lines =
    codes "0 D 1\n" ++
    codes "1 C 1 tk_cre_cyc 1\n" ++
    codes "2 B 1 tk_dly_tsk\n" ++
    codes "2 D 0\n" ++
    codes "3 K 1\n" ++
    codes "4 K 2\n" ++
    codes "5 K 3\n" ++
    codes "6 K 4\n" ++
    codes "7 K 5\n" ++
    codes "8 K 6\n" ++
    codes "8 W 1 tk_dly_tsk 0\n" ++
    codes "8 D 1\n" ++
    codes "9 C 1 tk_sta_cyc 0\n" ++
    codes "10 C 1 tk_ref_cyc 0 8 1\n" ++
    codes "11 B 1 tk_dly_tsk\n" ++
    codes "11 D 0\n" ++
    codes "12 K 7\n" ++
    codes "13 K 8\n" ++
    codes "14 K 9\n" ++
    codes "15 K 10\n" ++
    codes "16 K 11\n" ++
    codes "17 K 12\n" ++
    codes "18 K 13\n" ++
    codes "19 K 14\n" ++
    codes "20 I cyc 1\n" ++
    codes "21 S 0 beep\n" ++
    codes "23 K 15\n" ++
    codes "24 K 16\n" ++
    codes "24 W 1 tk_dly_tsk 0\n" ++
    codes "24 D 1\n" ++
    codes "25 C 1 tk_stp_cyc 0\n" ++
    codes "26 C 1 tk_ext_tsk 0\n" ++
    codes "26 D 0\n" ++
    codes "26 END idle\n" ++
    []

phase_kept_run : text_of_lines (lines_of (trace phase_kept_script modes.Free 100000 phase_kept_entries)) ≡ phase_kept_lines
unfolding phase_kept_script phase_kept_entries phase_kept_lines text_of form_of named made task_call_name sem_flag_call_name mutex_call_name mail_call_name pool_call_name time_call_name context_call_name device_call_name hook_call_name name_of code_of error_text coded error_named attributes_of flag_mode_of open_mode_of suspend_mode_of is_name_byte name_at_most why_text value_text words_of text_of_line text_of_lines fetch give call_before create_sem create_flag end_first delete_sem delete_flag refer_sem refer_flag signal_sem set_flag clear_flag wait_sem wait_flag sem_flag_call serve_sem serve_flag first_served serve_sem_flag sem_trial flag_trial chosen free_task create_task delete_task start_task exit_task terminate_task change_priority rotate_ready get_task refer_task sleep delay wake_up cancel_wakeups release_wait suspend_task resume_task task_call mark_of allowed free_from first_serving serve_box serve_mailboxes serve_buffer serve_buffers post create_box delete_box send_box receive_box refer_box create_buffer delete_buffer send_buffer receive_buffer refer_buffer mail_call create_mutex lock_mutex unlock_mutex refer_mutex delete_mutex mutex_call change_priority_beside task_call_beside chain_has current_of resettle free_last ceiling_allows serve_mutex serve_mutexes create_fixed delete_fixed get_fixed release_fixed refer_fixed create_variable delete_variable get_variable release_variable refer_variable pool_call first_free serve_fixed serve_fixed_pools serve_variable serve_variable_pools set_time get_time get_operating_time create_cyclic start_cyclic stop_cyclic delete_cyclic refer_cyclic create_alarm start_alarm stop_alarm delete_alarm refer_alarm time_call body_of next_due again define_handler disable_dispatch enable_dispatch disable_interrupts enable_interrupts refer_system define_service refer_service enter_service context_call left list_existing list_ready list_queue set_hook hook_call open_device refer_device request request_whole wait_ending close_device suspend_devices device_call expected arrive hand_over hand_first messages emptied read_bytes write_bytes accept picked serve_acceptance serve_acceptances serve_ending serve_endings is_with_driver serve_close serve_closes serve_suspension events_sent free_descriptor free_request first_queued at_driver accepted dropped handed asked devices_start block is_last blocks unit cut may_cut arrived entered returned body_returned family_call answered called follow_release follow_each with_releases dispatched followed insert_once with_requests handler_begun due_begun interrupt_begun served_within settle freed_within fallen due_done tick state_after worked counted step sync_runs sync_run entered_2 runs start trace acted ran turn_of done_turn first_serving_2 serve_object state_start digits
phase_kept_run = refl

-- A handler that keeps its phase is started for the next time of its phase that is later than now, also where now is such a time; a
-- start of one that is started changes nothing. One without a phase to keep is set anew by each start.
phases_script : Script
phases_script = record {
  devices = [];
  pace = None;
  irqs = [];
  boot = record { body = 1; priority = 10 };
  bodies =
      record {
        name = codes "main";
        kind = kinds.Task;
        labels = [];
        stmts =
            stmts.Call names.TkCreCyc (args.List 196608 ∷ args.Body 2 ∷ args.Number (pos 4) ∷ args.Number (pos 1) ∷ []) ∷
            stmts.Call names.TkCreCyc (args.List 65536 ∷ args.Body 2 ∷ args.Number (pos 4) ∷ args.Number (pos 1) ∷ []) ∷
            stmts.Call names.TkCreCyc (args.List 131072 ∷ args.Body 2 ∷ args.Number (pos 3) ∷ args.Number (pos 0) ∷ []) ∷
            stmts.Call names.TkRefCyc (args.Number (pos 1) ∷ []) ∷
            stmts.Call names.TkRefCyc (args.Number (pos 3) ∷ []) ∷
            stmts.Call names.TkStaCyc (args.Number (pos 3) ∷ []) ∷
            stmts.Call names.TkRefCyc (args.Number (pos 3) ∷ []) ∷
            stmts.Call names.TkStaCyc (args.Number (pos 1) ∷ []) ∷
            stmts.Call names.TkRefCyc (args.Number (pos 1) ∷ []) ∷
            stmts.Call names.TkStaCyc (args.Number (pos 2) ∷ []) ∷
            stmts.Call names.TkRefCyc (args.Number (pos 2) ∷ []) ∷
            stmts.Call names.TkDlyTsk (args.Number (pos 1) ∷ []) ∷
            stmts.Call names.TkStaCyc (args.Number (pos 3) ∷ []) ∷
            stmts.Call names.TkRefCyc (args.Number (pos 3) ∷ []) ∷
            stmts.Call names.TkStaCyc (args.Number (pos 1) ∷ []) ∷
            stmts.Call names.TkRefCyc (args.Number (pos 1) ∷ []) ∷
            stmts.Call names.TkRefCyc (args.Number (pos 2) ∷ []) ∷
            stmts.Call names.TkStpCyc (args.Number (pos 3) ∷ []) ∷
            stmts.Call names.TkStpCyc (args.Number (pos 2) ∷ []) ∷
            stmts.Call names.TkStpCyc (args.Number (pos 1) ∷ []) ∷
            stmts.Call names.TkRefCyc (args.Number (pos 1) ∷ []) ∷
            [];
      } ∷
      record {
        name = codes "c";
        kind = kinds.Hand;
        labels = [];
        stmts =
            stmts.Call names.TkStpCyc (args.Register 1 ∷ []) ∷
            [];
      } ∷
      [];
}

phases_entries : List Entry
phases_entries = []

phases_lines : List ℕ
phases_lines =
    codes "0 D 1\n" ++
    codes "1 C 1 tk_cre_cyc 1\n" ++
    codes "2 C 1 tk_cre_cyc 2\n" ++
    codes "3 C 1 tk_cre_cyc 3\n" ++
    codes "4 C 1 tk_ref_cyc 0 2 1\n" ++
    codes "5 C 1 tk_ref_cyc 0 0 0\n" ++
    codes "6 C 1 tk_sta_cyc 0\n" ++
    codes "7 C 1 tk_ref_cyc 0 1 1\n" ++
    codes "8 C 1 tk_sta_cyc 0\n" ++
    codes "9 C 1 tk_ref_cyc 0 2 1\n" ++
    codes "10 C 1 tk_sta_cyc 0\n" ++
    codes "11 C 1 tk_ref_cyc 0 5 1\n" ++
    codes "12 B 1 tk_dly_tsk\n" ++
    codes "12 D 0\n" ++
    codes "13 K 1\n" ++
    codes "14 I cyc 3\n" ++
    codes "15 C 0 tk_stp_cyc 0\n" ++
    codes "17 K 2\n" ++
    codes "17 W 1 tk_dly_tsk 0\n" ++
    codes "18 I cyc 1\n" ++
    codes "19 C 0 tk_stp_cyc 0\n" ++
    codes "20 D 1\n" ++
    codes "21 C 1 tk_sta_cyc 0\n" ++
    codes "22 C 1 tk_ref_cyc 0 2 1\n" ++
    codes "23 C 1 tk_sta_cyc 0\n" ++
    codes "24 C 1 tk_ref_cyc 0 4 1\n" ++
    codes "25 C 1 tk_ref_cyc 0 3 1\n" ++
    codes "26 C 1 tk_stp_cyc 0\n" ++
    codes "27 C 1 tk_stp_cyc 0\n" ++
    codes "28 C 1 tk_stp_cyc 0\n" ++
    codes "29 C 1 tk_ref_cyc 0 0 0\n" ++
    codes "30 C 1 tk_ext_tsk 0\n" ++
    codes "30 D 0\n" ++
    codes "30 END idle\n" ++
    []

phases_run : text_of_lines (lines_of (trace phases_script modes.Free 100000 phases_entries)) ≡ phases_lines
unfolding phases_script phases_entries phases_lines text_of form_of named made task_call_name sem_flag_call_name mutex_call_name mail_call_name pool_call_name time_call_name context_call_name device_call_name hook_call_name name_of code_of error_text coded error_named attributes_of flag_mode_of open_mode_of suspend_mode_of is_name_byte name_at_most why_text value_text words_of text_of_line text_of_lines fetch give call_before create_sem create_flag end_first delete_sem delete_flag refer_sem refer_flag signal_sem set_flag clear_flag wait_sem wait_flag sem_flag_call serve_sem serve_flag first_served serve_sem_flag sem_trial flag_trial chosen free_task create_task delete_task start_task exit_task terminate_task change_priority rotate_ready get_task refer_task sleep delay wake_up cancel_wakeups release_wait suspend_task resume_task task_call mark_of allowed free_from first_serving serve_box serve_mailboxes serve_buffer serve_buffers post create_box delete_box send_box receive_box refer_box create_buffer delete_buffer send_buffer receive_buffer refer_buffer mail_call create_mutex lock_mutex unlock_mutex refer_mutex delete_mutex mutex_call change_priority_beside task_call_beside chain_has current_of resettle free_last ceiling_allows serve_mutex serve_mutexes create_fixed delete_fixed get_fixed release_fixed refer_fixed create_variable delete_variable get_variable release_variable refer_variable pool_call first_free serve_fixed serve_fixed_pools serve_variable serve_variable_pools set_time get_time get_operating_time create_cyclic start_cyclic stop_cyclic delete_cyclic refer_cyclic create_alarm start_alarm stop_alarm delete_alarm refer_alarm time_call body_of next_due again define_handler disable_dispatch enable_dispatch disable_interrupts enable_interrupts refer_system define_service refer_service enter_service context_call left list_existing list_ready list_queue set_hook hook_call open_device refer_device request request_whole wait_ending close_device suspend_devices device_call expected arrive hand_over hand_first messages emptied read_bytes write_bytes accept picked serve_acceptance serve_acceptances serve_ending serve_endings is_with_driver serve_close serve_closes serve_suspension events_sent free_descriptor free_request first_queued at_driver accepted dropped handed asked devices_start block is_last blocks unit cut may_cut arrived entered returned body_returned family_call answered called follow_release follow_each with_releases dispatched followed insert_once with_requests handler_begun due_begun interrupt_begun served_within settle freed_within fallen due_done tick state_after worked counted step sync_runs sync_run entered_2 runs start trace acted ran turn_of done_turn first_serving_2 serve_object state_start digits
phases_run = refl

-- A handler that is due starts though it is stopped, and doesn't where it is deleted; its next time goes in both cases. An alarm that
-- sets itself again starts in the next tick, and a handler that deletes itself runs on to its end.
stopped_while_due_script : Script
stopped_while_due_script = record {
  devices = [];
  pace = None;
  irqs = [];
  boot = record { body = 1; priority = 10 };
  bodies =
      record {
        name = codes "main";
        kind = kinds.Task;
        labels = [];
        stmts =
            stmts.Call names.TkCreAlm (args.List 0 ∷ args.Body 2 ∷ []) ∷
            stmts.Call names.TkStaAlm (args.Number (pos 1) ∷ args.Number (pos 0) ∷ []) ∷
            stmts.Call names.TkCreCyc (args.List 65536 ∷ args.Body 4 ∷ args.Number (pos 5) ∷ args.Number (pos 0) ∷ []) ∷
            stmts.Call names.TkCreCyc (args.List 65536 ∷ args.Body 4 ∷ args.Number (pos 5) ∷ args.Number (pos 0) ∷ []) ∷
            stmts.Call names.TkCreAlm (args.List 0 ∷ args.Body 3 ∷ []) ∷
            stmts.Call names.TkCreAlm (args.List 0 ∷ args.Body 4 ∷ []) ∷
            stmts.Call names.TkStaAlm (args.Number (pos 2) ∷ args.Number (pos 0) ∷ []) ∷
            stmts.Call names.TkStaAlm (args.Number (pos 3) ∷ args.Number (pos 0) ∷ []) ∷
            stmts.Call names.TkDlyTsk (args.Number (pos 1) ∷ []) ∷
            stmts.Call names.TkDelAlm (args.Number (pos 1) ∷ []) ∷
            [];
      } ∷
      record {
        name = codes "boss";
        kind = kinds.Hand;
        labels = [];
        stmts =
            stmts.Call names.TkRefCyc (args.Number (pos 1) ∷ []) ∷
            stmts.Call names.TkStpCyc (args.Number (pos 1) ∷ []) ∷
            stmts.Call names.TkRefCyc (args.Number (pos 1) ∷ []) ∷
            stmts.Call names.TkDelCyc (args.Number (pos 2) ∷ []) ∷
            stmts.Call names.TkStpAlm (args.Number (pos 2) ∷ []) ∷
            stmts.Call names.TkDelAlm (args.Number (pos 3) ∷ []) ∷
            stmts.Call names.TkStaAlm (args.Number (pos 1) ∷ args.Number (pos 0) ∷ []) ∷
            [];
      } ∷
      record {
        name = codes "own";
        kind = kinds.Hand;
        labels = [];
        stmts =
            stmts.Call names.TkDelAlm (args.Register 1 ∷ []) ∷
            stmts.Say (codes "on") ∷
            [];
      } ∷
      record {
        name = codes "h";
        kind = kinds.Hand;
        labels = [];
        stmts =
            stmts.Show (operands.Register 1) ∷
            [];
      } ∷
      [];
}

stopped_while_due_entries : List Entry
stopped_while_due_entries = []

stopped_while_due_lines : List ℕ
stopped_while_due_lines =
    codes "0 D 1\n" ++
    codes "1 C 1 tk_cre_alm 1\n" ++
    codes "2 C 1 tk_sta_alm 0\n" ++
    codes "3 C 1 tk_cre_cyc 1\n" ++
    codes "4 C 1 tk_cre_cyc 2\n" ++
    codes "5 C 1 tk_cre_alm 2\n" ++
    codes "6 C 1 tk_cre_alm 3\n" ++
    codes "7 C 1 tk_sta_alm 0\n" ++
    codes "8 C 1 tk_sta_alm 0\n" ++
    codes "9 B 1 tk_dly_tsk\n" ++
    codes "9 D 0\n" ++
    codes "10 K 1\n" ++
    codes "11 I alm 1\n" ++
    codes "12 C 0 tk_ref_cyc 0 5 1\n" ++
    codes "13 C 0 tk_stp_cyc 0\n" ++
    codes "14 C 0 tk_ref_cyc 0 0 0\n" ++
    codes "15 C 0 tk_del_cyc 0\n" ++
    codes "16 C 0 tk_stp_alm 0\n" ++
    codes "17 C 0 tk_del_alm 0\n" ++
    codes "18 C 0 tk_sta_alm 0\n" ++
    codes "20 I cyc 1\n" ++
    codes "21 S 0 1\n" ++
    codes "23 I alm 2\n" ++
    codes "24 C 0 tk_del_alm 0\n" ++
    codes "25 S 0 on\n" ++
    codes "27 K 2\n" ++
    codes "27 W 1 tk_dly_tsk 0\n" ++
    codes "28 I alm 1\n" ++
    codes "29 C 0 tk_ref_cyc 0 0 0\n" ++
    codes "30 C 0 tk_stp_cyc 0\n" ++
    codes "31 C 0 tk_ref_cyc 0 0 0\n" ++
    codes "32 C 0 tk_del_cyc E_NOEXS\n" ++
    codes "33 C 0 tk_stp_alm E_NOEXS\n" ++
    codes "34 C 0 tk_del_alm E_NOEXS\n" ++
    codes "35 C 0 tk_sta_alm 0\n" ++
    codes "36 D 1\n" ++
    codes "37 C 1 tk_del_alm 0\n" ++
    codes "38 C 1 tk_ext_tsk 0\n" ++
    codes "38 D 0\n" ++
    codes "38 END idle\n" ++
    []

stopped_while_due_run : text_of_lines (lines_of (trace stopped_while_due_script modes.Free 100000 stopped_while_due_entries)) ≡ stopped_while_due_lines
unfolding stopped_while_due_script stopped_while_due_entries stopped_while_due_lines text_of form_of named made task_call_name sem_flag_call_name mutex_call_name mail_call_name pool_call_name time_call_name context_call_name device_call_name hook_call_name name_of code_of error_text coded error_named attributes_of flag_mode_of open_mode_of suspend_mode_of is_name_byte name_at_most why_text value_text words_of text_of_line text_of_lines fetch give call_before create_sem create_flag end_first delete_sem delete_flag refer_sem refer_flag signal_sem set_flag clear_flag wait_sem wait_flag sem_flag_call serve_sem serve_flag first_served serve_sem_flag sem_trial flag_trial chosen free_task create_task delete_task start_task exit_task terminate_task change_priority rotate_ready get_task refer_task sleep delay wake_up cancel_wakeups release_wait suspend_task resume_task task_call mark_of allowed free_from first_serving serve_box serve_mailboxes serve_buffer serve_buffers post create_box delete_box send_box receive_box refer_box create_buffer delete_buffer send_buffer receive_buffer refer_buffer mail_call create_mutex lock_mutex unlock_mutex refer_mutex delete_mutex mutex_call change_priority_beside task_call_beside chain_has current_of resettle free_last ceiling_allows serve_mutex serve_mutexes create_fixed delete_fixed get_fixed release_fixed refer_fixed create_variable delete_variable get_variable release_variable refer_variable pool_call first_free serve_fixed serve_fixed_pools serve_variable serve_variable_pools set_time get_time get_operating_time create_cyclic start_cyclic stop_cyclic delete_cyclic refer_cyclic create_alarm start_alarm stop_alarm delete_alarm refer_alarm time_call body_of next_due again define_handler disable_dispatch enable_dispatch disable_interrupts enable_interrupts refer_system define_service refer_service enter_service context_call left list_existing list_ready list_queue set_hook hook_call open_device refer_device request request_whole wait_ending close_device suspend_devices device_call expected arrive hand_over hand_first messages emptied read_bytes write_bytes accept picked serve_acceptance serve_acceptances serve_ending serve_endings is_with_driver serve_close serve_closes serve_suspension events_sent free_descriptor free_request first_queued at_driver accepted dropped handed asked devices_start block is_last blocks unit cut may_cut arrived entered returned body_returned family_call answered called follow_release follow_each with_releases dispatched followed insert_once with_requests handler_begun due_begun interrupt_begun served_within settle freed_within fallen due_done tick state_after worked counted step sync_runs sync_run entered_2 runs start trace acted ran turn_of done_turn first_serving_2 serve_object state_start digits
stopped_while_due_run = refl
