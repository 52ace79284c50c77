-- Runs that were worked out by hand from the rules, as runs/context/dispatching has them: each a theorem by computation.
use Rattle.std.specs.Prelude.{ℕ, pos, negsuc, List, [], ◌∷◌, ◌++◌, Some, None, codes, ◌≡◌, refl}
use Rattle.std.specs.Fmt.{digits}
use Rattle.tk_types.specs.declared.script.Script.{Script}
use Rattle.tk_types.specs.declared.script.BodyKind.TheVariants as kinds
use Rattle.tk_types.specs.declared.script.Kind.TheVariants as devices
use Rattle.tk_types.specs.declared.script.Stmt.TheVariants as stmts
use Rattle.tk_types.specs.declared.script.Operand.TheVariants as operands
use Rattle.tk_types.specs.declared.script.Operation.TheVariants as operations
use Rattle.tk_types.specs.declared.script.Condition.TheVariants as conditions
use Rattle.tk_types.specs.declared.script.Arg.TheVariants as args
use Rattle.tk_types.specs.declared.call_name.CallName.TheVariants as names
use Rattle.tk_types.specs.declared.line.Entry.{Entry}
use Rattle.tk_types.specs.declared.line.How.TheVariants as hows
use Rattle.tk_types.specs.declared.run.Mode.TheVariants as modes
use Rattle.tk_types.specs.CallNames.{text_of, form_of, named}
use Rattle.tk_types.specs.Calls.{made, task_call_name, sem_flag_call_name, mutex_call_name, mail_call_name, pool_call_name, time_call_name, context_call_name, device_call_name, hook_call_name, name_of}
use Rattle.tk_types.specs.Codes.{code_of, error_text, coded, error_named}
use Rattle.tk_types.specs.Modes.{attributes_of, flag_mode_of, open_mode_of, suspend_mode_of}
use Rattle.tk_types.specs.Names.{is_name_byte, name_at_most}
use Rattle.tk_types.specs.Reasons.{why_text}
use Rattle.tk_model.specs.LineText.{value_text, words_of, text_of_line, text_of_lines}
use Rattle.kernel_model.specs.Bodies.Statements.{fetch, give, call_before}
use Rattle.kernel_model.specs.SemFlags.Calls.{create_sem, create_flag, end_first, delete_sem, delete_flag, refer_sem, refer_flag, signal_sem, set_flag, clear_flag, wait_sem, wait_flag, sem_flag_call}
use Rattle.kernel_model.specs.SemFlags.Tables.{serve_sem, serve_flag, first_served, serve_sem_flag}
use Rattle.kernel_model.specs.SemFlags.Trial.{sem_trial, flag_trial}
use Rattle.kernel_model.specs.Tasks.Base.{chosen, free_task}
use Rattle.kernel_model.specs.Tasks.Calls.{create_task, delete_task, start_task, exit_task, terminate_task, change_priority, rotate_ready, get_task, refer_task, sleep, delay, wake_up, cancel_wakeups, release_wait, suspend_task, resume_task, task_call}
use Rattle.kernel_model.specs.Tasks.Marks.{mark_of, allowed}
use Rattle.kernel_model.specs.Words.Orders.{free_from}
use Rattle.object_model.specs.Servings.{first_serving}
use Rattle.object_model.specs.Mails.Boxes.{serve_box, serve_mailboxes}
use Rattle.object_model.specs.Mails.Buffers.{serve_buffer, serve_buffers, post}
use Rattle.object_model.specs.Mails.Calls.{create_box, delete_box, send_box, receive_box, refer_box, create_buffer, delete_buffer, send_buffer, receive_buffer, refer_buffer, mail_call}
use Rattle.object_model.specs.Mutexes.Calls.{create_mutex, lock_mutex, unlock_mutex, refer_mutex, delete_mutex, mutex_call, change_priority_beside, task_call_beside}
use Rattle.object_model.specs.Mutexes.Priority.{chain_has, current_of, resettle}
use Rattle.object_model.specs.Mutexes.Tables.{free_last, ceiling_allows, serve_mutex, serve_mutexes}
use Rattle.object_model.specs.Pools.Calls.{create_fixed, delete_fixed, get_fixed, release_fixed, refer_fixed, create_variable, delete_variable, get_variable, release_variable, refer_variable, pool_call}
use Rattle.object_model.specs.Pools.Fixed.{first_free, serve_fixed, serve_fixed_pools}
use Rattle.object_model.specs.Pools.Variable.{serve_variable, serve_variable_pools}
use Rattle.context_model.specs.Clocks.Calls.{set_time, get_time, get_operating_time, create_cyclic, start_cyclic, stop_cyclic, delete_cyclic, refer_cyclic, create_alarm, start_alarm, stop_alarm, delete_alarm, refer_alarm, time_call}
use Rattle.context_model.specs.Clocks.Tables.{body_of, next_due, again}
use Rattle.context_model.specs.Contexts.Calls.{define_handler, disable_dispatch, enable_dispatch, disable_interrupts, enable_interrupts, refer_system, define_service, refer_service, enter_service, context_call}
use Rattle.context_model.specs.Contexts.Tables.{left}
use Rattle.context_model.specs.Hooks.Calls.{list_existing, list_ready, list_queue, set_hook, hook_call}
use Rattle.device_model.specs.Devices.Calls.{open_device, refer_device, request, request_whole, wait_ending, close_device, suspend_devices, device_call}
use Rattle.device_model.specs.Devices.Endings.{expected, arrive}
use Rattle.device_model.specs.Devices.Handing.{hand_over, hand_first, messages, emptied}
use Rattle.device_model.specs.Devices.Memory.{read_bytes, write_bytes}
use Rattle.device_model.specs.Devices.Requests.{accept, picked}
use Rattle.device_model.specs.Devices.Servings.{serve_acceptance, serve_acceptances, serve_ending, serve_endings, is_with_driver, serve_close, serve_closes, serve_suspension}
use Rattle.device_model.specs.Devices.Suspension.{events_sent}
use Rattle.device_model.specs.Devices.Tables.{free_descriptor, free_request, first_queued, at_driver, accepted, dropped, handed, asked, devices_start}
use Rattle.device_model.specs.Units.Blocks.{block, is_last, blocks}
use Rattle.device_model.specs.Units.Function.{unit, cut, may_cut}
use Rattle.machine_model.specs.Events.Arrivals.{arrived}
use Rattle.machine_model.specs.Events.Bodies.{entered, returned, body_returned}
use Rattle.machine_model.specs.Events.Calls.{family_call, answered, called}
use Rattle.machine_model.specs.Events.Follow.{follow_release, follow_each, with_releases, dispatched, followed}
use Rattle.machine_model.specs.Events.Handlers.{insert_once, with_requests, handler_begun, due_begun, interrupt_begun}
use Rattle.machine_model.specs.Events.Settle.{served_within, settle, freed_within}
use Rattle.machine_model.specs.Events.Ticks.{fallen, due_done, tick}
use Rattle.machine_model.specs.Runs.Reached.{state_after}
use Rattle.machine_model.specs.Runs.Step.{worked, counted, step}
use Rattle.machine_model.specs.Runs.SyncTrace.{sync_runs, sync_run}
use Rattle.machine_model.specs.Runs.Trace.{lines_of, entered as entered_2, runs, start, trace}
use Rattle.machine_model.specs.Runs.Turns.{acted, ran, turn_of, done_turn}
use Rattle.machine_model.specs.States.Objects.{first_serving as first_serving_2, serve_object}
use Rattle.machine_model.specs.States.State.{state_start}

-- Ticks that fall while interrupts are disabled are counted, none is lost. A task that ends, or is deleted as it ends, enables
-- dispatching and interrupts: the next task is dispatched, then all ticks are taken, then the interrupt starts.
exit_with_both_set_script : Script
exit_with_both_set_script = record {
  devices = [];
  pace = Some 3;
  irqs = record { step = 9; number = 5 } ∷ [];
  boot = record { body = 1; priority = 10 };
  bodies =
      record {
        name = codes "main";
        kind = kinds.Task;
        labels = [];
        stmts =
            stmts.Call names.TkDefInt (args.Number (pos 5) ∷ args.Body 4 ∷ []) ∷
            stmts.Call names.TkCreTsk (args.List 0 ∷ args.Body 2 ∷ args.Number (pos 5) ∷ args.Number (pos 512) ∷ []) ∷
            stmts.Call names.TkCreTsk (args.List 0 ∷ args.Body 3 ∷ args.Number (pos 20) ∷ args.Number (pos 512) ∷ []) ∷
            stmts.Call names.TkStaTsk (args.Number (pos 3) ∷ args.Number (pos 0) ∷ []) ∷
            stmts.Call names.TkDisDsp ([]) ∷
            stmts.Call names.Di ([]) ∷
            stmts.Call names.TkStaTsk (args.Number (pos 2) ∷ args.Number (pos 0) ∷ []) ∷
            stmts.Call names.TkRefSys ([]) ∷
            stmts.Say (codes "a") ∷
            stmts.Say (codes "b") ∷
            stmts.Call names.TkExtTsk ([]) ∷
            [];
      } ∷
      record {
        name = codes "high";
        kind = kinds.Task;
        labels = [];
        stmts =
            stmts.Say (codes "h") ∷
            stmts.Call names.TkRefSys ([]) ∷
            stmts.Call names.TkDisDsp ([]) ∷
            stmts.Call names.Di ([]) ∷
            stmts.Call names.TkExdTsk ([]) ∷
            [];
      } ∷
      record {
        name = codes "last";
        kind = kinds.Task;
        labels = [];
        stmts =
            stmts.Call names.TkRefSys ([]) ∷
            stmts.Call names.TdLstTsk (args.Number (pos 0) ∷ args.Number (pos 0) ∷ []) ∷
            [];
      } ∷
      record {
        name = codes "h";
        kind = kinds.Hand;
        labels = [];
        stmts =
            stmts.Call names.TkRefSys ([]) ∷
            [];
      } ∷
      [];
}

exit_with_both_set_entries : List Entry
exit_with_both_set_entries = []

exit_with_both_set_lines : List ℕ
exit_with_both_set_lines =
    codes "0 D 1\n" ++
    codes "1 C 1 tk_def_int 0\n" ++
    codes "2 C 1 tk_cre_tsk 2\n" ++
    codes "3 K 1\n" ++
    codes "4 C 1 tk_cre_tsk 3\n" ++
    codes "5 C 1 tk_sta_tsk 0\n" ++
    codes "6 K 2\n" ++
    codes "7 C 1 tk_dis_dsp 0\n" ++
    codes "8 C 1 DI 0\n" ++
    codes "9 C 1 tk_sta_tsk 0\n" ++
    codes "10 C 1 tk_ref_sys 0 2 1 2\n" ++
    codes "11 S 1 a\n" ++
    codes "12 S 1 b\n" ++
    codes "13 C 1 tk_ext_tsk 0\n" ++
    codes "13 D 2\n" ++
    codes "14 K 3\n" ++
    codes "15 K 4\n" ++
    codes "16 K 5\n" ++
    codes "17 I int 5\n" ++
    codes "18 C 0 tk_ref_sys 0 3 2 2\n" ++
    codes "20 K 6\n" ++
    codes "21 K 7\n" ++
    codes "22 S 2 h\n" ++
    codes "23 C 2 tk_ref_sys 0 0 2 2\n" ++
    codes "24 K 8\n" ++
    codes "25 C 2 tk_dis_dsp 0\n" ++
    codes "26 C 2 DI 0\n" ++
    codes "27 C 2 tk_exd_tsk 0\n" ++
    codes "27 D 3\n" ++
    codes "28 K 9\n" ++
    codes "29 C 3 tk_ref_sys 0 0 3 3\n" ++
    codes "30 K 10\n" ++
    codes "31 C 3 td_lst_tsk 2\n" ++
    codes "32 C 3 tk_ext_tsk 0\n" ++
    codes "32 D 0\n" ++
    codes "32 END idle\n" ++
    []

exit_with_both_set_run : text_of_lines (lines_of (trace exit_with_both_set_script modes.Free 100000 exit_with_both_set_entries)) ≡ exit_with_both_set_lines
unfolding exit_with_both_set_script exit_with_both_set_entries exit_with_both_set_lines text_of form_of named made task_call_name sem_flag_call_name mutex_call_name mail_call_name pool_call_name time_call_name context_call_name device_call_name hook_call_name name_of code_of error_text coded error_named attributes_of flag_mode_of open_mode_of suspend_mode_of is_name_byte name_at_most why_text value_text words_of text_of_line text_of_lines fetch give call_before create_sem create_flag end_first delete_sem delete_flag refer_sem refer_flag signal_sem set_flag clear_flag wait_sem wait_flag sem_flag_call serve_sem serve_flag first_served serve_sem_flag sem_trial flag_trial chosen free_task create_task delete_task start_task exit_task terminate_task change_priority rotate_ready get_task refer_task sleep delay wake_up cancel_wakeups release_wait suspend_task resume_task task_call mark_of allowed free_from first_serving serve_box serve_mailboxes serve_buffer serve_buffers post create_box delete_box send_box receive_box refer_box create_buffer delete_buffer send_buffer receive_buffer refer_buffer mail_call create_mutex lock_mutex unlock_mutex refer_mutex delete_mutex mutex_call change_priority_beside task_call_beside chain_has current_of resettle free_last ceiling_allows serve_mutex serve_mutexes create_fixed delete_fixed get_fixed release_fixed refer_fixed create_variable delete_variable get_variable release_variable refer_variable pool_call first_free serve_fixed serve_fixed_pools serve_variable serve_variable_pools set_time get_time get_operating_time create_cyclic start_cyclic stop_cyclic delete_cyclic refer_cyclic create_alarm start_alarm stop_alarm delete_alarm refer_alarm time_call body_of next_due again define_handler disable_dispatch enable_dispatch disable_interrupts enable_interrupts refer_system define_service refer_service enter_service context_call left list_existing list_ready list_queue set_hook hook_call open_device refer_device request request_whole wait_ending close_device suspend_devices device_call expected arrive hand_over hand_first messages emptied read_bytes write_bytes accept picked serve_acceptance serve_acceptances serve_ending serve_endings is_with_driver serve_close serve_closes serve_suspension events_sent free_descriptor free_request first_queued at_driver accepted dropped handed asked devices_start block is_last blocks unit cut may_cut arrived entered returned body_returned family_call answered called follow_release follow_each with_releases dispatched followed insert_once with_requests handler_begun due_begun interrupt_begun served_within settle freed_within fallen due_done tick state_after worked counted step sync_runs sync_run entered_2 runs start trace acted ran turn_of done_turn first_serving_2 serve_object state_start digits
exit_with_both_set_run = refl

-- While dispatching is disabled, a handler can't suspend the current task, which can't suspend itself either, and what it makes ready
-- isn't dispatched at its end. Where a handler terminates the current task, dispatching is enabled; the end of another task doesn't do
-- that.
handler_and_disabled_script : Script
handler_and_disabled_script = record {
  devices = [];
  pace = None;
  irqs = record { step = 10; number = 1 } ∷ record { step = 18; number = 2 } ∷ [];
  boot = record { body = 1; priority = 10 };
  bodies =
      record {
        name = codes "main";
        kind = kinds.Task;
        labels = record { name = codes "again"; place = 10 } ∷ [];
        stmts =
            stmts.Jump (conditions.Equal 1 (operands.Number (pos 7))) 0 ∷
            stmts.Call names.TkDefInt (args.Number (pos 1) ∷ args.Body 3 ∷ []) ∷
            stmts.Call names.TkDefInt (args.Number (pos 2) ∷ args.Body 4 ∷ []) ∷
            stmts.Call names.TkCreTsk (args.List 0 ∷ args.Body 2 ∷ args.Number (pos 5) ∷ args.Number (pos 512) ∷ []) ∷
            stmts.Call names.TkDisDsp ([]) ∷
            stmts.Call names.TkSusTsk (args.Number (pos 1) ∷ []) ∷
            stmts.Call names.TkStaTsk (args.Number (pos 2) ∷ args.Number (pos 0) ∷ []) ∷
            stmts.Call names.TkTerTsk (args.Number (pos 2) ∷ []) ∷
            stmts.Call names.TkRefSys ([]) ∷
            stmts.Call names.TkRefSys ([]) ∷
            stmts.Call names.TkRefSys ([]) ∷
            stmts.Call names.TkSlpTsk (args.Number (pos 0) ∷ []) ∷
            [];
      } ∷
      record {
        name = codes "high";
        kind = kinds.Task;
        labels = [];
        stmts =
            stmts.Call names.TkRefSys ([]) ∷
            [];
      } ∷
      record {
        name = codes "one";
        kind = kinds.Hand;
        labels = [];
        stmts =
            stmts.Call names.TkSusTsk (args.Number (pos 1) ∷ []) ∷
            stmts.Call names.TkStaTsk (args.Number (pos 2) ∷ args.Number (pos 0) ∷ []) ∷
            stmts.Call names.TkSusTsk (args.Number (pos 2) ∷ []) ∷
            stmts.Call names.TkRsmTsk (args.Number (pos 2) ∷ []) ∷
            stmts.Call names.TkRefSys ([]) ∷
            [];
      } ∷
      record {
        name = codes "two";
        kind = kinds.Hand;
        labels = [];
        stmts =
            stmts.Call names.TkTerTsk (args.Number (pos 1) ∷ []) ∷
            stmts.Call names.TkRefSys ([]) ∷
            stmts.Call names.TkStaTsk (args.Number (pos 1) ∷ args.Number (pos 7) ∷ []) ∷
            [];
      } ∷
      [];
}

handler_and_disabled_entries : List Entry
handler_and_disabled_entries = []

handler_and_disabled_lines : List ℕ
handler_and_disabled_lines =
    codes "0 D 1\n" ++
    codes "2 C 1 tk_def_int 0\n" ++
    codes "3 C 1 tk_def_int 0\n" ++
    codes "4 C 1 tk_cre_tsk 2\n" ++
    codes "5 C 1 tk_dis_dsp 0\n" ++
    codes "6 C 1 tk_sus_tsk E_OBJ\n" ++
    codes "7 C 1 tk_sta_tsk 0\n" ++
    codes "8 C 1 tk_ter_tsk 0\n" ++
    codes "9 C 1 tk_ref_sys 0 1 1 1\n" ++
    codes "10 I int 1\n" ++
    codes "11 C 0 tk_sus_tsk E_CTX\n" ++
    codes "12 C 0 tk_sta_tsk 0\n" ++
    codes "13 C 0 tk_sus_tsk 0\n" ++
    codes "14 C 0 tk_rsm_tsk 0\n" ++
    codes "15 C 0 tk_ref_sys 0 3 1 2\n" ++
    codes "17 C 1 tk_ref_sys 0 1 1 2\n" ++
    codes "18 I int 2\n" ++
    codes "19 C 0 tk_ter_tsk 0\n" ++
    codes "20 C 0 tk_ref_sys 0 3 0 2\n" ++
    codes "21 C 0 tk_sta_tsk 0\n" ++
    codes "22 D 2\n" ++
    codes "23 C 2 tk_ref_sys 0 0 2 2\n" ++
    codes "24 C 2 tk_ext_tsk 0\n" ++
    codes "24 D 1\n" ++
    codes "26 C 1 tk_ref_sys 0 0 1 1\n" ++
    codes "27 C 1 tk_slp_tsk E_TMOUT\n" ++
    codes "28 C 1 tk_ext_tsk 0\n" ++
    codes "28 D 0\n" ++
    codes "28 END idle\n" ++
    []

handler_and_disabled_run : text_of_lines (lines_of (trace handler_and_disabled_script modes.Free 100000 handler_and_disabled_entries)) ≡ handler_and_disabled_lines
unfolding handler_and_disabled_script handler_and_disabled_entries handler_and_disabled_lines text_of form_of named made task_call_name sem_flag_call_name mutex_call_name mail_call_name pool_call_name time_call_name context_call_name device_call_name hook_call_name name_of code_of error_text coded error_named attributes_of flag_mode_of open_mode_of suspend_mode_of is_name_byte name_at_most why_text value_text words_of text_of_line text_of_lines fetch give call_before create_sem create_flag end_first delete_sem delete_flag refer_sem refer_flag signal_sem set_flag clear_flag wait_sem wait_flag sem_flag_call serve_sem serve_flag first_served serve_sem_flag sem_trial flag_trial chosen free_task create_task delete_task start_task exit_task terminate_task change_priority rotate_ready get_task refer_task sleep delay wake_up cancel_wakeups release_wait suspend_task resume_task task_call mark_of allowed free_from first_serving serve_box serve_mailboxes serve_buffer serve_buffers post create_box delete_box send_box receive_box refer_box create_buffer delete_buffer send_buffer receive_buffer refer_buffer mail_call create_mutex lock_mutex unlock_mutex refer_mutex delete_mutex mutex_call change_priority_beside task_call_beside chain_has current_of resettle free_last ceiling_allows serve_mutex serve_mutexes create_fixed delete_fixed get_fixed release_fixed refer_fixed create_variable delete_variable get_variable release_variable refer_variable pool_call first_free serve_fixed serve_fixed_pools serve_variable serve_variable_pools set_time get_time get_operating_time create_cyclic start_cyclic stop_cyclic delete_cyclic refer_cyclic create_alarm start_alarm stop_alarm delete_alarm refer_alarm time_call body_of next_due again define_handler disable_dispatch enable_dispatch disable_interrupts enable_interrupts refer_system define_service refer_service enter_service context_call left list_existing list_ready list_queue set_hook hook_call open_device refer_device request request_whole wait_ending close_device suspend_devices device_call expected arrive hand_over hand_first messages emptied read_bytes write_bytes accept picked serve_acceptance serve_acceptances serve_ending serve_endings is_with_driver serve_close serve_closes serve_suspension events_sent free_descriptor free_request first_queued at_driver accepted dropped handed asked devices_start block is_last blocks unit cut may_cut arrived entered returned body_returned family_call answered called follow_release follow_each with_releases dispatched followed insert_once with_requests handler_begun due_begun interrupt_begun served_within settle freed_within fallen due_done tick state_after worked counted step sync_runs sync_run entered_2 runs start trace acted ran turn_of done_turn first_serving_2 serve_object state_start digits
handler_and_disabled_run = refl

-- With a tick for each step no task gets to its first statement.
pace_of_one_script : Script
pace_of_one_script = record {
  devices = [];
  pace = Some 1;
  irqs = [];
  boot = record { body = 1; priority = 10 };
  bodies =
      record {
        name = codes "main";
        kind = kinds.Task;
        labels = [];
        stmts =
            stmts.Say (codes "never") ∷
            [];
      } ∷
      [];
}

pace_of_one_entries : List Entry
pace_of_one_entries = []

pace_of_one_lines : List ℕ
pace_of_one_lines =
    codes "0 D 1\n" ++
    codes "1 K 1\n" ++
    codes "2 K 2\n" ++
    codes "3 K 3\n" ++
    codes "4 K 4\n" ++
    codes "5 K 5\n" ++
    codes "5 END budget\n" ++
    []

pace_of_one_run : text_of_lines (lines_of (trace pace_of_one_script modes.Free 5 pace_of_one_entries)) ≡ pace_of_one_lines
unfolding pace_of_one_script pace_of_one_entries pace_of_one_lines text_of form_of named made task_call_name sem_flag_call_name mutex_call_name mail_call_name pool_call_name time_call_name context_call_name device_call_name hook_call_name name_of code_of error_text coded error_named attributes_of flag_mode_of open_mode_of suspend_mode_of is_name_byte name_at_most why_text value_text words_of text_of_line text_of_lines fetch give call_before create_sem create_flag end_first delete_sem delete_flag refer_sem refer_flag signal_sem set_flag clear_flag wait_sem wait_flag sem_flag_call serve_sem serve_flag first_served serve_sem_flag sem_trial flag_trial chosen free_task create_task delete_task start_task exit_task terminate_task change_priority rotate_ready get_task refer_task sleep delay wake_up cancel_wakeups release_wait suspend_task resume_task task_call mark_of allowed free_from first_serving serve_box serve_mailboxes serve_buffer serve_buffers post create_box delete_box send_box receive_box refer_box create_buffer delete_buffer send_buffer receive_buffer refer_buffer mail_call create_mutex lock_mutex unlock_mutex refer_mutex delete_mutex mutex_call change_priority_beside task_call_beside chain_has current_of resettle free_last ceiling_allows serve_mutex serve_mutexes create_fixed delete_fixed get_fixed release_fixed refer_fixed create_variable delete_variable get_variable release_variable refer_variable pool_call first_free serve_fixed serve_fixed_pools serve_variable serve_variable_pools set_time get_time get_operating_time create_cyclic start_cyclic stop_cyclic delete_cyclic refer_cyclic create_alarm start_alarm stop_alarm delete_alarm refer_alarm time_call body_of next_due again define_handler disable_dispatch enable_dispatch disable_interrupts enable_interrupts refer_system define_service refer_service enter_service context_call left list_existing list_ready list_queue set_hook hook_call open_device refer_device request request_whole wait_ending close_device suspend_devices device_call expected arrive hand_over hand_first messages emptied read_bytes write_bytes accept picked serve_acceptance serve_acceptances serve_ending serve_endings is_with_driver serve_close serve_closes serve_suspension events_sent free_descriptor free_request first_queued at_driver accepted dropped handed asked devices_start block is_last blocks unit cut may_cut arrived entered returned body_returned family_call answered called follow_release follow_each with_releases dispatched followed insert_once with_requests handler_begun due_begun interrupt_begun served_within settle freed_within fallen due_done tick state_after worked counted step sync_runs sync_run entered_2 runs start trace acted ran turn_of done_turn first_serving_2 serve_object state_start digits
pace_of_one_run = refl

-- A machine without a ready task takes the ticks and the interrupt that are pending before it is idle and ends.
pending_before_the_end_script : Script
pending_before_the_end_script = record {
  devices = [];
  pace = Some 2;
  irqs = record { step = 5; number = 1 } ∷ [];
  boot = record { body = 1; priority = 10 };
  bodies =
      record {
        name = codes "main";
        kind = kinds.Task;
        labels = [];
        stmts =
            stmts.Call names.TkDefInt (args.Number (pos 1) ∷ args.Body 2 ∷ []) ∷
            stmts.Call names.Di ([]) ∷
            stmts.Say (codes "a") ∷
            stmts.Say (codes "b") ∷
            [];
      } ∷
      record {
        name = codes "h";
        kind = kinds.Hand;
        labels = [];
        stmts =
            stmts.Say (codes "in") ∷
            [];
      } ∷
      [];
}

pending_before_the_end_entries : List Entry
pending_before_the_end_entries = []

pending_before_the_end_lines : List ℕ
pending_before_the_end_lines =
    codes "0 D 1\n" ++
    codes "1 C 1 tk_def_int 0\n" ++
    codes "2 K 1\n" ++
    codes "3 C 1 DI 0\n" ++
    codes "4 S 1 a\n" ++
    codes "5 S 1 b\n" ++
    codes "6 C 1 tk_ext_tsk 0\n" ++
    codes "6 D 0\n" ++
    codes "7 K 2\n" ++
    codes "8 K 3\n" ++
    codes "9 K 4\n" ++
    codes "10 K 5\n" ++
    codes "11 I int 1\n" ++
    codes "12 S 0 in\n" ++
    codes "14 K 6\n" ++
    codes "15 K 7\n" ++
    codes "15 END idle\n" ++
    []

pending_before_the_end_run : text_of_lines (lines_of (trace pending_before_the_end_script modes.Free 100000 pending_before_the_end_entries)) ≡ pending_before_the_end_lines
unfolding pending_before_the_end_script pending_before_the_end_entries pending_before_the_end_lines text_of form_of named made task_call_name sem_flag_call_name mutex_call_name mail_call_name pool_call_name time_call_name context_call_name device_call_name hook_call_name name_of code_of error_text coded error_named attributes_of flag_mode_of open_mode_of suspend_mode_of is_name_byte name_at_most why_text value_text words_of text_of_line text_of_lines fetch give call_before create_sem create_flag end_first delete_sem delete_flag refer_sem refer_flag signal_sem set_flag clear_flag wait_sem wait_flag sem_flag_call serve_sem serve_flag first_served serve_sem_flag sem_trial flag_trial chosen free_task create_task delete_task start_task exit_task terminate_task change_priority rotate_ready get_task refer_task sleep delay wake_up cancel_wakeups release_wait suspend_task resume_task task_call mark_of allowed free_from first_serving serve_box serve_mailboxes serve_buffer serve_buffers post create_box delete_box send_box receive_box refer_box create_buffer delete_buffer send_buffer receive_buffer refer_buffer mail_call create_mutex lock_mutex unlock_mutex refer_mutex delete_mutex mutex_call change_priority_beside task_call_beside chain_has current_of resettle free_last ceiling_allows serve_mutex serve_mutexes create_fixed delete_fixed get_fixed release_fixed refer_fixed create_variable delete_variable get_variable release_variable refer_variable pool_call first_free serve_fixed serve_fixed_pools serve_variable serve_variable_pools set_time get_time get_operating_time create_cyclic start_cyclic stop_cyclic delete_cyclic refer_cyclic create_alarm start_alarm stop_alarm delete_alarm refer_alarm time_call body_of next_due again define_handler disable_dispatch enable_dispatch disable_interrupts enable_interrupts refer_system define_service refer_service enter_service context_call left list_existing list_ready list_queue set_hook hook_call open_device refer_device request request_whole wait_ending close_device suspend_devices device_call expected arrive hand_over hand_first messages emptied read_bytes write_bytes accept picked serve_acceptance serve_acceptances serve_ending serve_endings is_with_driver serve_close serve_closes serve_suspension events_sent free_descriptor free_request first_queued at_driver accepted dropped handed asked devices_start block is_last blocks unit cut may_cut arrived entered returned body_returned family_call answered called follow_release follow_each with_releases dispatched followed insert_once with_requests handler_begun due_begun interrupt_begun served_within settle freed_within fallen due_done tick state_after worked counted step sync_runs sync_run entered_2 runs start trace acted ran turn_of done_turn first_serving_2 serve_object state_start digits
pending_before_the_end_run = refl

-- What the system's state is told to be in each context, which task is the current one and which would be dispatched.
-- Enabling one of the two doesn't enable the other, and dispatching waits for both; both may be asked for twice.
system_states_script : Script
system_states_script = record {
  devices = [];
  pace = None;
  irqs = record { step = 25; number = 1 } ∷ [];
  boot = record { body = 1; priority = 10 };
  bodies =
      record {
        name = codes "main";
        kind = kinds.Task;
        labels = [];
        stmts =
            stmts.Call names.TkDefInt (args.Number (pos 1) ∷ args.Body 3 ∷ []) ∷
            stmts.Call names.TkCreTsk (args.List 0 ∷ args.Body 2 ∷ args.Number (pos 5) ∷ args.Number (pos 512) ∷ []) ∷
            stmts.Call names.TkRefSys ([]) ∷
            stmts.Call names.TkDisDsp ([]) ∷
            stmts.Call names.TkDisDsp ([]) ∷
            stmts.Call names.TkStaTsk (args.Number (pos 2) ∷ args.Number (pos 0) ∷ []) ∷
            stmts.Call names.TkRefSys ([]) ∷
            stmts.Call names.Di ([]) ∷
            stmts.Call names.TkRefSys ([]) ∷
            stmts.Call names.TkEnaDsp ([]) ∷
            stmts.Call names.TkRefSys ([]) ∷
            stmts.Call names.TkDisDsp ([]) ∷
            stmts.Call names.Ei ([]) ∷
            stmts.Call names.TkRefSys ([]) ∷
            stmts.Call names.Di ([]) ∷
            stmts.Call names.TkEnaDsp ([]) ∷
            stmts.Call names.Ei ([]) ∷
            [];
      } ∷
      record {
        name = codes "high";
        kind = kinds.Task;
        labels = [];
        stmts =
            stmts.Call names.TkRefSys ([]) ∷
            stmts.Call names.Ei ([]) ∷
            stmts.Call names.TkEnaDsp ([]) ∷
            [];
      } ∷
      record {
        name = codes "h";
        kind = kinds.Hand;
        labels = [];
        stmts =
            stmts.Call names.TkRefSys ([]) ∷
            stmts.Call names.TkRotRdq (args.Number (pos 0) ∷ []) ∷
            stmts.Call names.TkStaTsk (args.Number (pos 2) ∷ args.Number (pos 0) ∷ []) ∷
            stmts.Call names.TkRefSys ([]) ∷
            [];
      } ∷
      [];
}

system_states_entries : List Entry
system_states_entries = []

system_states_lines : List ℕ
system_states_lines =
    codes "0 D 1\n" ++
    codes "1 C 1 tk_def_int 0\n" ++
    codes "2 C 1 tk_cre_tsk 2\n" ++
    codes "3 C 1 tk_ref_sys 0 0 1 1\n" ++
    codes "4 C 1 tk_dis_dsp 0\n" ++
    codes "5 C 1 tk_dis_dsp 0\n" ++
    codes "6 C 1 tk_sta_tsk 0\n" ++
    codes "7 C 1 tk_ref_sys 0 1 1 2\n" ++
    codes "8 C 1 DI 0\n" ++
    codes "9 C 1 tk_ref_sys 0 2 1 2\n" ++
    codes "10 C 1 tk_ena_dsp 0\n" ++
    codes "11 C 1 tk_ref_sys 0 2 1 2\n" ++
    codes "12 C 1 tk_dis_dsp 0\n" ++
    codes "13 C 1 EI 0\n" ++
    codes "14 C 1 tk_ref_sys 0 1 1 2\n" ++
    codes "15 C 1 DI 0\n" ++
    codes "16 C 1 tk_ena_dsp 0\n" ++
    codes "17 C 1 EI 0\n" ++
    codes "17 D 2\n" ++
    codes "18 C 2 tk_ref_sys 0 0 2 2\n" ++
    codes "19 C 2 EI 0\n" ++
    codes "20 C 2 tk_ena_dsp 0\n" ++
    codes "21 C 2 tk_ext_tsk 0\n" ++
    codes "21 D 1\n" ++
    codes "22 C 1 tk_ext_tsk 0\n" ++
    codes "22 D 0\n" ++
    codes "23 K 1\n" ++
    codes "24 K 2\n" ++
    codes "25 I int 1\n" ++
    codes "26 C 0 tk_ref_sys 0 3 0 0\n" ++
    codes "27 C 0 tk_rot_rdq 0\n" ++
    codes "28 C 0 tk_sta_tsk 0\n" ++
    codes "29 C 0 tk_ref_sys 0 3 0 2\n" ++
    codes "30 D 2\n" ++
    codes "31 C 2 tk_ref_sys 0 0 2 2\n" ++
    codes "32 C 2 EI 0\n" ++
    codes "33 C 2 tk_ena_dsp 0\n" ++
    codes "34 C 2 tk_ext_tsk 0\n" ++
    codes "34 D 0\n" ++
    codes "34 END idle\n" ++
    []

system_states_run : text_of_lines (lines_of (trace system_states_script modes.Free 100000 system_states_entries)) ≡ system_states_lines
unfolding system_states_script system_states_entries system_states_lines text_of form_of named made task_call_name sem_flag_call_name mutex_call_name mail_call_name pool_call_name time_call_name context_call_name device_call_name hook_call_name name_of code_of error_text coded error_named attributes_of flag_mode_of open_mode_of suspend_mode_of is_name_byte name_at_most why_text value_text words_of text_of_line text_of_lines fetch give call_before create_sem create_flag end_first delete_sem delete_flag refer_sem refer_flag signal_sem set_flag clear_flag wait_sem wait_flag sem_flag_call serve_sem serve_flag first_served serve_sem_flag sem_trial flag_trial chosen free_task create_task delete_task start_task exit_task terminate_task change_priority rotate_ready get_task refer_task sleep delay wake_up cancel_wakeups release_wait suspend_task resume_task task_call mark_of allowed free_from first_serving serve_box serve_mailboxes serve_buffer serve_buffers post create_box delete_box send_box receive_box refer_box create_buffer delete_buffer send_buffer receive_buffer refer_buffer mail_call create_mutex lock_mutex unlock_mutex refer_mutex delete_mutex mutex_call change_priority_beside task_call_beside chain_has current_of resettle free_last ceiling_allows serve_mutex serve_mutexes create_fixed delete_fixed get_fixed release_fixed refer_fixed create_variable delete_variable get_variable release_variable refer_variable pool_call first_free serve_fixed serve_fixed_pools serve_variable serve_variable_pools set_time get_time get_operating_time create_cyclic start_cyclic stop_cyclic delete_cyclic refer_cyclic create_alarm start_alarm stop_alarm delete_alarm refer_alarm time_call body_of next_due again define_handler disable_dispatch enable_dispatch disable_interrupts enable_interrupts refer_system define_service refer_service enter_service context_call left list_existing list_ready list_queue set_hook hook_call open_device refer_device request request_whole wait_ending close_device suspend_devices device_call expected arrive hand_over hand_first messages emptied read_bytes write_bytes accept picked serve_acceptance serve_acceptances serve_ending serve_endings is_with_driver serve_close serve_closes serve_suspension events_sent free_descriptor free_request first_queued at_driver accepted dropped handed asked devices_start block is_last blocks unit cut may_cut arrived entered returned body_returned family_call answered called follow_release follow_each with_releases dispatched followed insert_once with_requests handler_begun due_begun interrupt_begun served_within settle freed_within fallen due_done tick state_after worked counted step sync_runs sync_run entered_2 runs start trace acted ran turn_of done_turn first_serving_2 serve_object state_start digits
system_states_run = refl

-- While dispatching is disabled, and while interrupts are, a call that could wait is refused, in a service of the task too, and also
-- where it would only ask or has all that it wants. Unlocking is no such call.
waits_refused_script : Script
waits_refused_script = record {
  devices = [];
  pace = None;
  irqs = [];
  boot = record { body = 1; priority = 10 };
  bodies =
      record {
        name = codes "main";
        kind = kinds.Task;
        labels = [];
        stmts =
            stmts.Call names.TkCreSem (args.List 0 ∷ args.Number (pos 1) ∷ args.Number (pos 1) ∷ []) ∷
            stmts.Call names.TkDefSsy (args.Number (pos 1) ∷ args.Body 2 ∷ []) ∷
            stmts.Call names.TkDisDsp ([]) ∷
            stmts.Call names.Svc (args.Number (pos 1) ∷ args.Number (pos 0) ∷ []) ∷
            stmts.Call names.TkEnaDsp ([]) ∷
            stmts.Call names.Di ([]) ∷
            stmts.Call names.Svc (args.Number (pos 1) ∷ args.Number (pos 0) ∷ []) ∷
            stmts.Call names.Ei ([]) ∷
            stmts.Call names.TkWaiSem (args.Number (pos 1) ∷ args.Number (pos 1) ∷ args.Number (pos 0) ∷ []) ∷
            [];
      } ∷
      record {
        name = codes "waits";
        kind = kinds.Svc;
        labels = [];
        stmts =
            stmts.Call names.TkSlpTsk (args.Number (pos 0) ∷ []) ∷
            stmts.Call names.TkDlyTsk (args.Number (pos 0) ∷ []) ∷
            stmts.Call names.TkWaiSem (args.Number (pos 1) ∷ args.Number (pos 1) ∷ args.Number (pos 0) ∷ []) ∷
            stmts.Call names.TkWaiFlg (args.Number (pos 1) ∷ args.Number (pos 1) ∷ args.List 2 ∷ args.Number (negsuc 0) ∷ []) ∷
            stmts.Call names.TkLocMtx (args.Number (pos 1) ∷ args.Number (negsuc 0) ∷ []) ∷
            stmts.Call names.TkRcvMbx (args.Number (pos 1) ∷ args.Number (pos 0) ∷ []) ∷
            stmts.Call names.TkSndMbf (args.Number (pos 1) ∷ args.Number (pos 0) ∷ args.Number (pos 4) ∷ args.Number (pos 0) ∷ []) ∷
            stmts.Call names.TkRcvMbf (args.Number (pos 1) ∷ args.Number (pos 0) ∷ args.Number (pos 0) ∷ []) ∷
            stmts.Call names.TkGetMpf (args.Number (pos 1) ∷ args.Number (pos 0) ∷ []) ∷
            stmts.Call names.TkGetMpl (args.Number (pos 1) ∷ args.Number (pos 8) ∷ args.Number (pos 0) ∷ []) ∷
            stmts.Call names.TkReaDev (args.Number (pos 1) ∷ args.Number (pos 0) ∷ args.Number (pos 0) ∷ args.Number (pos 4) ∷ args.Number (pos 0) ∷ []) ∷
            stmts.Call names.TkWriDev (args.Number (pos 1) ∷ args.Number (pos 0) ∷ args.Number (pos 0) ∷ args.Number (pos 4) ∷ args.Number (pos 0) ∷ []) ∷
            stmts.Call names.TkSreaDev (args.Number (pos 1) ∷ args.Number (pos 0) ∷ args.Number (pos 0) ∷ args.Number (pos 4) ∷ []) ∷
            stmts.Call names.TkSwriDev (args.Number (pos 1) ∷ args.Number (pos 0) ∷ args.Number (pos 0) ∷ args.Number (pos 4) ∷ []) ∷
            stmts.Call names.TkWaiDev (args.Number (pos 1) ∷ args.Number (pos 0) ∷ args.Number (pos 0) ∷ []) ∷
            stmts.Call names.TkClsDev (args.Number (pos 1) ∷ []) ∷
            stmts.Call names.TkSusDev (args.List 8 ∷ []) ∷
            stmts.Call names.TkUnlMtx (args.Number (pos 1) ∷ []) ∷
            [];
      } ∷
      [];
}

waits_refused_entries : List Entry
waits_refused_entries = []

waits_refused_lines : List ℕ
waits_refused_lines =
    codes "0 D 1\n" ++
    codes "1 C 1 tk_cre_sem 1\n" ++
    codes "2 C 1 tk_def_ssy 0\n" ++
    codes "3 C 1 tk_dis_dsp 0\n" ++
    codes "5 C 1 tk_slp_tsk E_CTX\n" ++
    codes "6 C 1 tk_dly_tsk E_CTX\n" ++
    codes "7 C 1 tk_wai_sem E_CTX\n" ++
    codes "8 C 1 tk_wai_flg E_CTX\n" ++
    codes "9 C 1 tk_loc_mtx E_CTX\n" ++
    codes "10 C 1 tk_rcv_mbx E_CTX\n" ++
    codes "11 C 1 tk_snd_mbf E_CTX\n" ++
    codes "12 C 1 tk_rcv_mbf E_CTX\n" ++
    codes "13 C 1 tk_get_mpf E_CTX\n" ++
    codes "14 C 1 tk_get_mpl E_CTX\n" ++
    codes "15 C 1 tk_rea_dev E_CTX\n" ++
    codes "16 C 1 tk_wri_dev E_CTX\n" ++
    codes "17 C 1 tk_srea_dev E_CTX\n" ++
    codes "18 C 1 tk_swri_dev E_CTX\n" ++
    codes "19 C 1 tk_wai_dev E_CTX\n" ++
    codes "20 C 1 tk_cls_dev E_CTX\n" ++
    codes "21 C 1 tk_sus_dev E_CTX\n" ++
    codes "22 C 1 tk_unl_mtx E_NOEXS\n" ++
    codes "23 C 1 svc 0\n" ++
    codes "24 C 1 tk_ena_dsp 0\n" ++
    codes "25 C 1 DI 0\n" ++
    codes "27 C 1 tk_slp_tsk E_CTX\n" ++
    codes "28 C 1 tk_dly_tsk E_CTX\n" ++
    codes "29 C 1 tk_wai_sem E_CTX\n" ++
    codes "30 C 1 tk_wai_flg E_CTX\n" ++
    codes "31 C 1 tk_loc_mtx E_CTX\n" ++
    codes "32 C 1 tk_rcv_mbx E_CTX\n" ++
    codes "33 C 1 tk_snd_mbf E_CTX\n" ++
    codes "34 C 1 tk_rcv_mbf E_CTX\n" ++
    codes "35 C 1 tk_get_mpf E_CTX\n" ++
    codes "36 C 1 tk_get_mpl E_CTX\n" ++
    codes "37 C 1 tk_rea_dev E_CTX\n" ++
    codes "38 C 1 tk_wri_dev E_CTX\n" ++
    codes "39 C 1 tk_srea_dev E_CTX\n" ++
    codes "40 C 1 tk_swri_dev E_CTX\n" ++
    codes "41 C 1 tk_wai_dev E_CTX\n" ++
    codes "42 C 1 tk_cls_dev E_CTX\n" ++
    codes "43 C 1 tk_sus_dev E_CTX\n" ++
    codes "44 C 1 tk_unl_mtx E_NOEXS\n" ++
    codes "45 C 1 svc 0\n" ++
    codes "46 C 1 EI 0\n" ++
    codes "47 C 1 tk_wai_sem 0\n" ++
    codes "48 C 1 tk_ext_tsk 0\n" ++
    codes "48 D 0\n" ++
    codes "48 END idle\n" ++
    []

waits_refused_run : text_of_lines (lines_of (trace waits_refused_script modes.Free 100000 waits_refused_entries)) ≡ waits_refused_lines
unfolding waits_refused_script waits_refused_entries waits_refused_lines text_of form_of named made task_call_name sem_flag_call_name mutex_call_name mail_call_name pool_call_name time_call_name context_call_name device_call_name hook_call_name name_of code_of error_text coded error_named attributes_of flag_mode_of open_mode_of suspend_mode_of is_name_byte name_at_most why_text value_text words_of text_of_line text_of_lines fetch give call_before create_sem create_flag end_first delete_sem delete_flag refer_sem refer_flag signal_sem set_flag clear_flag wait_sem wait_flag sem_flag_call serve_sem serve_flag first_served serve_sem_flag sem_trial flag_trial chosen free_task create_task delete_task start_task exit_task terminate_task change_priority rotate_ready get_task refer_task sleep delay wake_up cancel_wakeups release_wait suspend_task resume_task task_call mark_of allowed free_from first_serving serve_box serve_mailboxes serve_buffer serve_buffers post create_box delete_box send_box receive_box refer_box create_buffer delete_buffer send_buffer receive_buffer refer_buffer mail_call create_mutex lock_mutex unlock_mutex refer_mutex delete_mutex mutex_call change_priority_beside task_call_beside chain_has current_of resettle free_last ceiling_allows serve_mutex serve_mutexes create_fixed delete_fixed get_fixed release_fixed refer_fixed create_variable delete_variable get_variable release_variable refer_variable pool_call first_free serve_fixed serve_fixed_pools serve_variable serve_variable_pools set_time get_time get_operating_time create_cyclic start_cyclic stop_cyclic delete_cyclic refer_cyclic create_alarm start_alarm stop_alarm delete_alarm refer_alarm time_call body_of next_due again define_handler disable_dispatch enable_dispatch disable_interrupts enable_interrupts refer_system define_service refer_service enter_service context_call left list_existing list_ready list_queue set_hook hook_call open_device refer_device request request_whole wait_ending close_device suspend_devices device_call expected arrive hand_over hand_first messages emptied read_bytes write_bytes accept picked serve_acceptance serve_acceptances serve_ending serve_endings is_with_driver serve_close serve_closes serve_suspension events_sent free_descriptor free_request first_queued at_driver accepted dropped handed asked devices_start block is_last blocks unit cut may_cut arrived entered returned body_returned family_call answered called follow_release follow_each with_releases dispatched followed insert_once with_requests handler_begun due_begun interrupt_begun served_within settle freed_within fallen due_done tick state_after worked counted step sync_runs sync_run entered_2 runs start trace acted ran turn_of done_turn first_serving_2 serve_object state_start digits
waits_refused_run = refl
