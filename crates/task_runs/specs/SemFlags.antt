-- Runs that were worked out by hand from the rules, as runs/task/sem_flags has them: each a theorem by computation.
use Rattle.std.specs.Prelude.{ℕ, pos, negsuc, List, [], ◌∷◌, ◌++◌, Some, None, codes, ◌≡◌, refl}
use Rattle.std.specs.Fmt.{digits}
use Rattle.tk_types.specs.declared.script.Script.{Script}
use Rattle.tk_types.specs.declared.script.BodyKind.TheVariants as kinds
use Rattle.tk_types.specs.declared.script.Kind.TheVariants as devices
use Rattle.tk_types.specs.declared.script.Stmt.TheVariants as stmts
use Rattle.tk_types.specs.declared.script.Operand.TheVariants as operands
use Rattle.tk_types.specs.declared.script.Operation.TheVariants as operations
use Rattle.tk_types.specs.declared.script.Condition.TheVariants as conditions
use Rattle.tk_types.specs.declared.script.Arg.TheVariants as args
use Rattle.tk_types.specs.declared.call_name.CallName.TheVariants as names
use Rattle.tk_types.specs.declared.line.Entry.{Entry}
use Rattle.tk_types.specs.declared.line.How.TheVariants as hows
use Rattle.tk_types.specs.declared.run.Mode.TheVariants as modes
use Rattle.tk_types.specs.CallNames.{text_of, form_of, named}
use Rattle.tk_types.specs.Calls.{made, task_call_name, sem_flag_call_name, mutex_call_name, mail_call_name, pool_call_name, time_call_name, context_call_name, device_call_name, hook_call_name, name_of}
use Rattle.tk_types.specs.Codes.{code_of, error_text, coded, error_named}
use Rattle.tk_types.specs.Modes.{attributes_of, flag_mode_of, open_mode_of, suspend_mode_of}
use Rattle.tk_types.specs.Names.{is_name_byte, name_at_most}
use Rattle.tk_types.specs.Reasons.{why_text}
use Rattle.tk_model.specs.LineText.{value_text, words_of, text_of_line, text_of_lines}
use Rattle.kernel_model.specs.Bodies.Statements.{fetch, give, call_before}
use Rattle.kernel_model.specs.SemFlags.Calls.{create_sem, create_flag, end_first, delete_sem, delete_flag, refer_sem, refer_flag, signal_sem, set_flag, clear_flag, wait_sem, wait_flag, sem_flag_call}
use Rattle.kernel_model.specs.SemFlags.Tables.{serve_sem, serve_flag, first_served, serve_sem_flag}
use Rattle.kernel_model.specs.SemFlags.Trial.{sem_trial, flag_trial}
use Rattle.kernel_model.specs.Tasks.Base.{chosen, free_task}
use Rattle.kernel_model.specs.Tasks.Calls.{create_task, delete_task, start_task, exit_task, terminate_task, change_priority, rotate_ready, get_task, refer_task, sleep, delay, wake_up, cancel_wakeups, release_wait, suspend_task, resume_task, task_call}
use Rattle.kernel_model.specs.Tasks.Marks.{mark_of, allowed}
use Rattle.kernel_model.specs.Words.Orders.{free_from}
use Rattle.object_model.specs.Servings.{first_serving}
use Rattle.object_model.specs.Mails.Boxes.{serve_box, serve_mailboxes}
use Rattle.object_model.specs.Mails.Buffers.{serve_buffer, serve_buffers, post}
use Rattle.object_model.specs.Mails.Calls.{create_box, delete_box, send_box, receive_box, refer_box, create_buffer, delete_buffer, send_buffer, receive_buffer, refer_buffer, mail_call}
use Rattle.object_model.specs.Mutexes.Calls.{create_mutex, lock_mutex, unlock_mutex, refer_mutex, delete_mutex, mutex_call, change_priority_beside, task_call_beside}
use Rattle.object_model.specs.Mutexes.Priority.{chain_has, current_of, resettle}
use Rattle.object_model.specs.Mutexes.Tables.{free_last, ceiling_allows, serve_mutex, serve_mutexes}
use Rattle.object_model.specs.Pools.Calls.{create_fixed, delete_fixed, get_fixed, release_fixed, refer_fixed, create_variable, delete_variable, get_variable, release_variable, refer_variable, pool_call}
use Rattle.object_model.specs.Pools.Fixed.{first_free, serve_fixed, serve_fixed_pools}
use Rattle.object_model.specs.Pools.Variable.{serve_variable, serve_variable_pools}
use Rattle.context_model.specs.Clocks.Calls.{set_time, get_time, get_operating_time, create_cyclic, start_cyclic, stop_cyclic, delete_cyclic, refer_cyclic, create_alarm, start_alarm, stop_alarm, delete_alarm, refer_alarm, time_call}
use Rattle.context_model.specs.Clocks.Tables.{body_of, next_due, again}
use Rattle.context_model.specs.Contexts.Calls.{define_handler, disable_dispatch, enable_dispatch, disable_interrupts, enable_interrupts, refer_system, define_service, refer_service, enter_service, context_call}
use Rattle.context_model.specs.Contexts.Tables.{left}
use Rattle.context_model.specs.Hooks.Calls.{list_existing, list_ready, list_queue, set_hook, hook_call}
use Rattle.device_model.specs.Devices.Calls.{open_device, refer_device, request, request_whole, wait_ending, close_device, suspend_devices, device_call}
use Rattle.device_model.specs.Devices.Endings.{expected, arrive}
use Rattle.device_model.specs.Devices.Handing.{hand_over, hand_first, messages, emptied}
use Rattle.device_model.specs.Devices.Memory.{read_bytes, write_bytes}
use Rattle.device_model.specs.Devices.Requests.{accept, picked}
use Rattle.device_model.specs.Devices.Servings.{serve_acceptance, serve_acceptances, serve_ending, serve_endings, is_with_driver, serve_close, serve_closes, serve_suspension}
use Rattle.device_model.specs.Devices.Suspension.{events_sent}
use Rattle.device_model.specs.Devices.Tables.{free_descriptor, free_request, first_queued, at_driver, accepted, dropped, handed, asked, devices_start}
use Rattle.device_model.specs.Units.Blocks.{block, is_last, blocks}
use Rattle.device_model.specs.Units.Function.{unit, cut, may_cut}
use Rattle.machine_model.specs.Events.Arrivals.{arrived}
use Rattle.machine_model.specs.Events.Bodies.{entered, returned, body_returned}
use Rattle.machine_model.specs.Events.Calls.{family_call, answered, called}
use Rattle.machine_model.specs.Events.Follow.{follow_release, follow_each, with_releases, dispatched, followed}
use Rattle.machine_model.specs.Events.Handlers.{insert_once, with_requests, handler_begun, due_begun, interrupt_begun}
use Rattle.machine_model.specs.Events.Settle.{served_within, settle, freed_within}
use Rattle.machine_model.specs.Events.Ticks.{fallen, due_done, tick}
use Rattle.machine_model.specs.Runs.Reached.{state_after}
use Rattle.machine_model.specs.Runs.Step.{worked, counted, step}
use Rattle.machine_model.specs.Runs.SyncTrace.{sync_runs, sync_run}
use Rattle.machine_model.specs.Runs.Trace.{lines_of, entered as entered_2, runs, start, trace}
use Rattle.machine_model.specs.Runs.Turns.{acted, ran, turn_of, done_turn}
use Rattle.machine_model.specs.States.Objects.{first_serving as first_serving_2, serve_object}
use Rattle.machine_model.specs.States.State.{state_start}

-- A flag is cleared for its first waiter, so the second, whose bits were there before, goes on waiting.
cleared_between_script : Script
cleared_between_script = record {
  devices = [];
  pace = None;
  irqs = [];
  boot = record { body = 1; priority = 10 };
  bodies =
      record {
        name = codes "main";
        kind = kinds.Task;
        labels = [];
        stmts =
            stmts.Call names.TkCreFlg (args.List 2048 ∷ args.Number (pos 0) ∷ []) ∷
            stmts.Call names.TkCreTsk (args.List 0 ∷ args.Body 2 ∷ args.Number (pos 5) ∷ args.Number (pos 512) ∷ []) ∷
            stmts.Call names.TkCreTsk (args.List 0 ∷ args.Body 3 ∷ args.Number (pos 5) ∷ args.Number (pos 512) ∷ []) ∷
            stmts.Call names.TkStaTsk (args.Number (pos 2) ∷ args.Number (pos 0) ∷ []) ∷
            stmts.Call names.TkStaTsk (args.Number (pos 3) ∷ args.Number (pos 0) ∷ []) ∷
            stmts.Call names.TkSetFlg (args.Number (pos 1) ∷ args.Number (pos 3) ∷ []) ∷
            stmts.Call names.TkRefFlg (args.Number (pos 1) ∷ []) ∷
            stmts.Call names.TkRelWai (args.Number (pos 3) ∷ []) ∷
            [];
      } ∷
      record {
        name = codes "a";
        kind = kinds.Task;
        labels = [];
        stmts =
            stmts.Call names.TkWaiFlg (args.Number (pos 1) ∷ args.Number (pos 1) ∷ args.List 6 ∷ args.Number (negsuc 0) ∷ []) ∷
            [];
      } ∷
      record {
        name = codes "b";
        kind = kinds.Task;
        labels = [];
        stmts =
            stmts.Call names.TkWaiFlg (args.Number (pos 1) ∷ args.Number (pos 3) ∷ args.List 2 ∷ args.Number (negsuc 0) ∷ []) ∷
            [];
      } ∷
      [];
}

cleared_between_entries : List Entry
cleared_between_entries = []

cleared_between_lines : List ℕ
cleared_between_lines =
    codes "0 D 1\n" ++
    codes "1 C 1 tk_cre_flg 1\n" ++
    codes "2 C 1 tk_cre_tsk 2\n" ++
    codes "3 C 1 tk_cre_tsk 3\n" ++
    codes "4 C 1 tk_sta_tsk 0\n" ++
    codes "4 D 2\n" ++
    codes "5 B 2 tk_wai_flg\n" ++
    codes "5 D 1\n" ++
    codes "6 C 1 tk_sta_tsk 0\n" ++
    codes "6 D 3\n" ++
    codes "7 B 3 tk_wai_flg\n" ++
    codes "7 D 1\n" ++
    codes "8 C 1 tk_set_flg 0\n" ++
    codes "8 W 2 tk_wai_flg 0 3\n" ++
    codes "8 D 2\n" ++
    codes "9 C 2 tk_ext_tsk 0\n" ++
    codes "9 D 1\n" ++
    codes "10 C 1 tk_ref_flg 0 0 3\n" ++
    codes "11 C 1 tk_rel_wai 0\n" ++
    codes "11 W 3 tk_wai_flg E_RLWAI\n" ++
    codes "11 D 3\n" ++
    codes "12 C 3 tk_ext_tsk 0\n" ++
    codes "12 D 1\n" ++
    codes "13 C 1 tk_ext_tsk 0\n" ++
    codes "13 D 0\n" ++
    codes "13 END idle\n" ++
    []

cleared_between_run : text_of_lines (lines_of (trace cleared_between_script modes.Free 100000 cleared_between_entries)) ≡ cleared_between_lines
unfolding cleared_between_script cleared_between_entries cleared_between_lines text_of form_of named made task_call_name sem_flag_call_name mutex_call_name mail_call_name pool_call_name time_call_name context_call_name device_call_name hook_call_name name_of code_of error_text coded error_named attributes_of flag_mode_of open_mode_of suspend_mode_of is_name_byte name_at_most why_text value_text words_of text_of_line text_of_lines fetch give call_before create_sem create_flag end_first delete_sem delete_flag refer_sem refer_flag signal_sem set_flag clear_flag wait_sem wait_flag sem_flag_call serve_sem serve_flag first_served serve_sem_flag sem_trial flag_trial chosen free_task create_task delete_task start_task exit_task terminate_task change_priority rotate_ready get_task refer_task sleep delay wake_up cancel_wakeups release_wait suspend_task resume_task task_call mark_of allowed free_from first_serving serve_box serve_mailboxes serve_buffer serve_buffers post create_box delete_box send_box receive_box refer_box create_buffer delete_buffer send_buffer receive_buffer refer_buffer mail_call create_mutex lock_mutex unlock_mutex refer_mutex delete_mutex mutex_call change_priority_beside task_call_beside chain_has current_of resettle free_last ceiling_allows serve_mutex serve_mutexes create_fixed delete_fixed get_fixed release_fixed refer_fixed create_variable delete_variable get_variable release_variable refer_variable pool_call first_free serve_fixed serve_fixed_pools serve_variable serve_variable_pools set_time get_time get_operating_time create_cyclic start_cyclic stop_cyclic delete_cyclic refer_cyclic create_alarm start_alarm stop_alarm delete_alarm refer_alarm time_call body_of next_due again define_handler disable_dispatch enable_dispatch disable_interrupts enable_interrupts refer_system define_service refer_service enter_service context_call left list_existing list_ready list_queue set_hook hook_call open_device refer_device request request_whole wait_ending close_device suspend_devices device_call expected arrive hand_over hand_first messages emptied read_bytes write_bytes accept picked serve_acceptance serve_acceptances serve_ending serve_endings is_with_driver serve_close serve_closes serve_suspension events_sent free_descriptor free_request first_queued at_driver accepted dropped handed asked devices_start block is_last blocks unit cut may_cut arrived entered returned body_returned family_call answered called follow_release follow_each with_releases dispatched followed insert_once with_requests handler_begun due_begun interrupt_begun served_within settle freed_within fallen due_done tick state_after worked counted step sync_runs sync_run entered_2 runs start trace acted ran turn_of done_turn first_serving_2 serve_object state_start digits
cleared_between_run = refl

-- One setting of a flag serves its waiters one after another by priority, and each clears its bits before the next is looked at; one of them is suspended meanwhile, and runs when it is resumed.
cleared_in_turn_script : Script
cleared_in_turn_script = record {
  devices = [];
  pace = None;
  irqs = [];
  boot = record { body = 1; priority = 20 };
  bodies =
      record {
        name = codes "main";
        kind = kinds.Task;
        labels = [];
        stmts =
            stmts.Call names.TkCreFlg (args.List 2176 ∷ args.Number (pos 0) ∷ []) ∷
            stmts.Call names.TkCreTsk (args.List 0 ∷ args.Body 2 ∷ args.Number (pos 7) ∷ args.Number (pos 512) ∷ []) ∷
            stmts.Call names.TkCreTsk (args.List 0 ∷ args.Body 3 ∷ args.Number (pos 8) ∷ args.Number (pos 512) ∷ []) ∷
            stmts.Call names.TkCreTsk (args.List 0 ∷ args.Body 4 ∷ args.Number (pos 9) ∷ args.Number (pos 512) ∷ []) ∷
            stmts.Call names.TkCreTsk (args.List 0 ∷ args.Body 5 ∷ args.Number (pos 10) ∷ args.Number (pos 512) ∷ []) ∷
            stmts.Call names.TkStaTsk (args.Number (pos 5) ∷ args.Number (pos 0) ∷ []) ∷
            stmts.Call names.TkStaTsk (args.Number (pos 4) ∷ args.Number (pos 0) ∷ []) ∷
            stmts.Call names.TkStaTsk (args.Number (pos 3) ∷ args.Number (pos 0) ∷ []) ∷
            stmts.Call names.TkStaTsk (args.Number (pos 2) ∷ args.Number (pos 0) ∷ []) ∷
            stmts.Call names.TkSusTsk (args.Number (pos 3) ∷ []) ∷
            stmts.Call names.TkRefTsk (args.Number (pos 3) ∷ []) ∷
            stmts.Call names.TkRefFlg (args.Number (pos 1) ∷ []) ∷
            stmts.Call names.TkSetFlg (args.Number (pos 1) ∷ args.Number (pos 15) ∷ []) ∷
            stmts.Call names.TkRefTsk (args.Number (pos 3) ∷ []) ∷
            stmts.Call names.TkRefFlg (args.Number (pos 1) ∷ []) ∷
            stmts.Call names.TkRsmTsk (args.Number (pos 3) ∷ []) ∷
            stmts.Call names.TkSetFlg (args.Number (pos 1) ∷ args.Number (pos 28) ∷ []) ∷
            stmts.Call names.TkRefFlg (args.Number (pos 1) ∷ []) ∷
            [];
      } ∷
      record {
        name = codes "high";
        kind = kinds.Task;
        labels = [];
        stmts =
            stmts.Call names.TkWaiFlg (args.Number (pos 1) ∷ args.Number (pos 1) ∷ args.List 10 ∷ args.Number (negsuc 0) ∷ []) ∷
            stmts.Show (operands.Register 1) ∷
            [];
      } ∷
      record {
        name = codes "mid";
        kind = kinds.Task;
        labels = [];
        stmts =
            stmts.Call names.TkWaiFlg (args.Number (pos 1) ∷ args.Number (pos 6) ∷ args.List 9 ∷ args.Number (negsuc 0) ∷ []) ∷
            stmts.Show (operands.Register 1) ∷
            [];
      } ∷
      record {
        name = codes "low";
        kind = kinds.Task;
        labels = [];
        stmts =
            stmts.Call names.TkWaiFlg (args.Number (pos 1) ∷ args.Number (pos 12) ∷ args.List 9 ∷ args.Number (negsuc 0) ∷ []) ∷
            stmts.Show (operands.Register 1) ∷
            [];
      } ∷
      record {
        name = codes "last";
        kind = kinds.Task;
        labels = [];
        stmts =
            stmts.Call names.TkWaiFlg (args.Number (pos 1) ∷ args.Number (pos 12) ∷ args.List 10 ∷ args.Number (negsuc 0) ∷ []) ∷
            stmts.Show (operands.Register 1) ∷
            [];
      } ∷
      [];
}

cleared_in_turn_entries : List Entry
cleared_in_turn_entries = []

cleared_in_turn_lines : List ℕ
cleared_in_turn_lines =
    codes "0 D 1\n" ++
    codes "1 C 1 tk_cre_flg 1\n" ++
    codes "2 C 1 tk_cre_tsk 2\n" ++
    codes "3 C 1 tk_cre_tsk 3\n" ++
    codes "4 C 1 tk_cre_tsk 4\n" ++
    codes "5 C 1 tk_cre_tsk 5\n" ++
    codes "6 C 1 tk_sta_tsk 0\n" ++
    codes "6 D 5\n" ++
    codes "7 B 5 tk_wai_flg\n" ++
    codes "7 D 1\n" ++
    codes "8 C 1 tk_sta_tsk 0\n" ++
    codes "8 D 4\n" ++
    codes "9 B 4 tk_wai_flg\n" ++
    codes "9 D 1\n" ++
    codes "10 C 1 tk_sta_tsk 0\n" ++
    codes "10 D 3\n" ++
    codes "11 B 3 tk_wai_flg\n" ++
    codes "11 D 1\n" ++
    codes "12 C 1 tk_sta_tsk 0\n" ++
    codes "12 D 2\n" ++
    codes "13 B 2 tk_wai_flg\n" ++
    codes "13 D 1\n" ++
    codes "14 C 1 tk_sus_tsk 0\n" ++
    codes "15 C 1 tk_ref_tsk 0 5 8 8 0 1\n" ++
    codes "16 C 1 tk_ref_flg 0 0 2\n" ++
    codes "17 C 1 tk_set_flg 0\n" ++
    codes "17 W 2 tk_wai_flg 0 15\n" ++
    codes "17 W 3 tk_wai_flg 0 14\n" ++
    codes "17 W 5 tk_wai_flg 0 8\n" ++
    codes "17 D 2\n" ++
    codes "18 S 2 15\n" ++
    codes "19 C 2 tk_ext_tsk 0\n" ++
    codes "19 D 5\n" ++
    codes "20 S 5 8\n" ++
    codes "21 C 5 tk_ext_tsk 0\n" ++
    codes "21 D 1\n" ++
    codes "22 C 1 tk_ref_tsk 0 4 8 8 0 1\n" ++
    codes "23 C 1 tk_ref_flg 0 0 4\n" ++
    codes "24 C 1 tk_rsm_tsk 0\n" ++
    codes "24 D 3\n" ++
    codes "25 S 3 14\n" ++
    codes "26 C 3 tk_ext_tsk 0\n" ++
    codes "26 D 1\n" ++
    codes "27 C 1 tk_set_flg 0\n" ++
    codes "27 W 4 tk_wai_flg 0 28\n" ++
    codes "27 D 4\n" ++
    codes "28 S 4 28\n" ++
    codes "29 C 4 tk_ext_tsk 0\n" ++
    codes "29 D 1\n" ++
    codes "30 C 1 tk_ref_flg 0 16 0\n" ++
    codes "31 C 1 tk_ext_tsk 0\n" ++
    codes "31 D 0\n" ++
    codes "31 END idle\n" ++
    []

cleared_in_turn_run : text_of_lines (lines_of (trace cleared_in_turn_script modes.Free 100000 cleared_in_turn_entries)) ≡ cleared_in_turn_lines
unfolding cleared_in_turn_script cleared_in_turn_entries cleared_in_turn_lines text_of form_of named made task_call_name sem_flag_call_name mutex_call_name mail_call_name pool_call_name time_call_name context_call_name device_call_name hook_call_name name_of code_of error_text coded error_named attributes_of flag_mode_of open_mode_of suspend_mode_of is_name_byte name_at_most why_text value_text words_of text_of_line text_of_lines fetch give call_before create_sem create_flag end_first delete_sem delete_flag refer_sem refer_flag signal_sem set_flag clear_flag wait_sem wait_flag sem_flag_call serve_sem serve_flag first_served serve_sem_flag sem_trial flag_trial chosen free_task create_task delete_task start_task exit_task terminate_task change_priority rotate_ready get_task refer_task sleep delay wake_up cancel_wakeups release_wait suspend_task resume_task task_call mark_of allowed free_from first_serving serve_box serve_mailboxes serve_buffer serve_buffers post create_box delete_box send_box receive_box refer_box create_buffer delete_buffer send_buffer receive_buffer refer_buffer mail_call create_mutex lock_mutex unlock_mutex refer_mutex delete_mutex mutex_call change_priority_beside task_call_beside chain_has current_of resettle free_last ceiling_allows serve_mutex serve_mutexes create_fixed delete_fixed get_fixed release_fixed refer_fixed create_variable delete_variable get_variable release_variable refer_variable pool_call first_free serve_fixed serve_fixed_pools serve_variable serve_variable_pools set_time get_time get_operating_time create_cyclic start_cyclic stop_cyclic delete_cyclic refer_cyclic create_alarm start_alarm stop_alarm delete_alarm refer_alarm time_call body_of next_due again define_handler disable_dispatch enable_dispatch disable_interrupts enable_interrupts refer_system define_service refer_service enter_service context_call left list_existing list_ready list_queue set_hook hook_call open_device refer_device request request_whole wait_ending close_device suspend_devices device_call expected arrive hand_over hand_first messages emptied read_bytes write_bytes accept picked serve_acceptance serve_acceptances serve_ending serve_endings is_with_driver serve_close serve_closes serve_suspension events_sent free_descriptor free_request first_queued at_driver accepted dropped handed asked devices_start block is_last blocks unit cut may_cut arrived entered returned body_returned family_call answered called follow_release follow_each with_releases dispatched followed insert_once with_requests handler_begun due_begun interrupt_begun served_within settle freed_within fallen due_done tick state_after worked counted step sync_runs sync_run entered_2 runs start trace acted ran turn_of done_turn first_serving_2 serve_object state_start digits
cleared_in_turn_run = refl

-- A deleted flag ends its waits in the order in which they began, and a deleted semaphore with a queue by priority in the order of the priorities that its waiters have then; the number is free again.
deleted_objects_script : Script
deleted_objects_script = record {
  devices = [];
  pace = None;
  irqs = [];
  boot = record { body = 1; priority = 20 };
  bodies =
      record {
        name = codes "main";
        kind = kinds.Task;
        labels = [];
        stmts =
            stmts.Call names.TkCreFlg (args.List 2048 ∷ args.Number (pos 0) ∷ []) ∷
            stmts.Call names.TkCreSem (args.List 128 ∷ args.Number (pos 0) ∷ args.Number (pos 5) ∷ []) ∷
            stmts.Call names.TkCreTsk (args.List 0 ∷ args.Body 2 ∷ args.Number (pos 9) ∷ args.Number (pos 512) ∷ []) ∷
            stmts.Call names.TkCreTsk (args.List 0 ∷ args.Body 2 ∷ args.Number (pos 7) ∷ args.Number (pos 512) ∷ []) ∷
            stmts.Call names.TkCreTsk (args.List 0 ∷ args.Body 2 ∷ args.Number (pos 8) ∷ args.Number (pos 512) ∷ []) ∷
            stmts.Call names.TkStaTsk (args.Number (pos 2) ∷ args.Number (pos 0) ∷ []) ∷
            stmts.Call names.TkStaTsk (args.Number (pos 3) ∷ args.Number (pos 0) ∷ []) ∷
            stmts.Call names.TkStaTsk (args.Number (pos 4) ∷ args.Number (pos 0) ∷ []) ∷
            stmts.Call names.TkDelFlg (args.Number (pos 1) ∷ []) ∷
            stmts.Call names.TkRefFlg (args.Number (pos 1) ∷ []) ∷
            stmts.Call names.TkChgPri (args.Number (pos 2) ∷ args.Number (pos 6) ∷ []) ∷
            stmts.Call names.TkRefSem (args.Number (pos 1) ∷ []) ∷
            stmts.Call names.TkDelSem (args.Number (pos 1) ∷ []) ∷
            stmts.Call names.TkRefSem (args.Number (pos 1) ∷ []) ∷
            stmts.Call names.TkCreSem (args.List 128 ∷ args.Number (pos 3) ∷ args.Number (pos 3) ∷ []) ∷
            stmts.Call names.TkRefSem (args.Number (pos 1) ∷ []) ∷
            [];
      } ∷
      record {
        name = codes "taker";
        kind = kinds.Task;
        labels = [];
        stmts =
            stmts.Call names.TkWaiFlg (args.Number (pos 1) ∷ args.Number (pos 1) ∷ args.List 1 ∷ args.Number (pos 5) ∷ []) ∷
            stmts.Show (operands.Register 0) ∷
            stmts.Call names.TkWaiSem (args.Number (pos 1) ∷ args.Number (pos 1) ∷ args.Number (negsuc 0) ∷ []) ∷
            [];
      } ∷
      [];
}

deleted_objects_entries : List Entry
deleted_objects_entries = []

deleted_objects_lines : List ℕ
deleted_objects_lines =
    codes "0 D 1\n" ++
    codes "1 C 1 tk_cre_flg 1\n" ++
    codes "2 C 1 tk_cre_sem 1\n" ++
    codes "3 C 1 tk_cre_tsk 2\n" ++
    codes "4 C 1 tk_cre_tsk 3\n" ++
    codes "5 C 1 tk_cre_tsk 4\n" ++
    codes "6 C 1 tk_sta_tsk 0\n" ++
    codes "6 D 2\n" ++
    codes "7 B 2 tk_wai_flg\n" ++
    codes "7 D 1\n" ++
    codes "8 C 1 tk_sta_tsk 0\n" ++
    codes "8 D 3\n" ++
    codes "9 B 3 tk_wai_flg\n" ++
    codes "9 D 1\n" ++
    codes "10 C 1 tk_sta_tsk 0\n" ++
    codes "10 D 4\n" ++
    codes "11 B 4 tk_wai_flg\n" ++
    codes "11 D 1\n" ++
    codes "12 C 1 tk_del_flg 0\n" ++
    codes "12 W 2 tk_wai_flg E_DLT\n" ++
    codes "12 W 3 tk_wai_flg E_DLT\n" ++
    codes "12 W 4 tk_wai_flg E_DLT\n" ++
    codes "12 D 3\n" ++
    codes "13 S 3 -51\n" ++
    codes "14 B 3 tk_wai_sem\n" ++
    codes "14 D 4\n" ++
    codes "15 S 4 -51\n" ++
    codes "16 B 4 tk_wai_sem\n" ++
    codes "16 D 2\n" ++
    codes "17 S 2 -51\n" ++
    codes "18 B 2 tk_wai_sem\n" ++
    codes "18 D 1\n" ++
    codes "19 C 1 tk_ref_flg E_NOEXS\n" ++
    codes "20 C 1 tk_chg_pri 0\n" ++
    codes "21 C 1 tk_ref_sem 0 0 2\n" ++
    codes "22 C 1 tk_del_sem 0\n" ++
    codes "22 W 2 tk_wai_sem E_DLT\n" ++
    codes "22 W 3 tk_wai_sem E_DLT\n" ++
    codes "22 W 4 tk_wai_sem E_DLT\n" ++
    codes "22 D 2\n" ++
    codes "23 C 2 tk_ext_tsk 0\n" ++
    codes "23 D 3\n" ++
    codes "24 C 3 tk_ext_tsk 0\n" ++
    codes "24 D 4\n" ++
    codes "25 C 4 tk_ext_tsk 0\n" ++
    codes "25 D 1\n" ++
    codes "26 C 1 tk_ref_sem E_NOEXS\n" ++
    codes "27 C 1 tk_cre_sem 1\n" ++
    codes "28 C 1 tk_ref_sem 0 3 0\n" ++
    codes "29 C 1 tk_ext_tsk 0\n" ++
    codes "29 D 0\n" ++
    codes "29 END idle\n" ++
    []

deleted_objects_run : text_of_lines (lines_of (trace deleted_objects_script modes.Free 100000 deleted_objects_entries)) ≡ deleted_objects_lines
unfolding deleted_objects_script deleted_objects_entries deleted_objects_lines text_of form_of named made task_call_name sem_flag_call_name mutex_call_name mail_call_name pool_call_name time_call_name context_call_name device_call_name hook_call_name name_of code_of error_text coded error_named attributes_of flag_mode_of open_mode_of suspend_mode_of is_name_byte name_at_most why_text value_text words_of text_of_line text_of_lines fetch give call_before create_sem create_flag end_first delete_sem delete_flag refer_sem refer_flag signal_sem set_flag clear_flag wait_sem wait_flag sem_flag_call serve_sem serve_flag first_served serve_sem_flag sem_trial flag_trial chosen free_task create_task delete_task start_task exit_task terminate_task change_priority rotate_ready get_task refer_task sleep delay wake_up cancel_wakeups release_wait suspend_task resume_task task_call mark_of allowed free_from first_serving serve_box serve_mailboxes serve_buffer serve_buffers post create_box delete_box send_box receive_box refer_box create_buffer delete_buffer send_buffer receive_buffer refer_buffer mail_call create_mutex lock_mutex unlock_mutex refer_mutex delete_mutex mutex_call change_priority_beside task_call_beside chain_has current_of resettle free_last ceiling_allows serve_mutex serve_mutexes create_fixed delete_fixed get_fixed release_fixed refer_fixed create_variable delete_variable get_variable release_variable refer_variable pool_call first_free serve_fixed serve_fixed_pools serve_variable serve_variable_pools set_time get_time get_operating_time create_cyclic start_cyclic stop_cyclic delete_cyclic refer_cyclic create_alarm start_alarm stop_alarm delete_alarm refer_alarm time_call body_of next_due again define_handler disable_dispatch enable_dispatch disable_interrupts enable_interrupts refer_system define_service refer_service enter_service context_call left list_existing list_ready list_queue set_hook hook_call open_device refer_device request request_whole wait_ending close_device suspend_devices device_call expected arrive hand_over hand_first messages emptied read_bytes write_bytes accept picked serve_acceptance serve_acceptances serve_ending serve_endings is_with_driver serve_close serve_closes serve_suspension events_sent free_descriptor free_request first_queued at_driver accepted dropped handed asked devices_start block is_last blocks unit cut may_cut arrived entered returned body_returned family_call answered called follow_release follow_each with_releases dispatched followed insert_once with_requests handler_begun due_begun interrupt_begun served_within settle freed_within fallen due_done tick state_after worked counted step sync_runs sync_run entered_2 runs start trace acted ran turn_of done_turn first_serving_2 serve_object state_start digits
deleted_objects_run = refl

-- There are at most 64 semaphores and 64 flags; a freed number is taken again, and a wrong count is told before that.
full_tables_script : Script
full_tables_script = record {
  devices = [];
  pace = None;
  irqs = [];
  boot = record { body = 1; priority = 10 };
  bodies =
      record {
        name = codes "main";
        kind = kinds.Task;
        labels = record { name = codes "sems"; place = 0 } ∷ record { name = codes "flags"; place = 7 } ∷ [];
        stmts =
            stmts.Call names.TkCreSem (args.List 0 ∷ args.Number (pos 0) ∷ args.Number (pos 1) ∷ []) ∷
            stmts.Jump (conditions.Less 0 (operands.Number (pos 64))) 0 ∷
            stmts.Call names.TkCreSem (args.List 0 ∷ args.Number (pos 0) ∷ args.Number (pos 1) ∷ []) ∷
            stmts.Call names.TkCreSem (args.List 0 ∷ args.Number (pos 2) ∷ args.Number (pos 1) ∷ []) ∷
            stmts.Call names.TkDelSem (args.Number (pos 3) ∷ []) ∷
            stmts.Call names.TkCreSem (args.List 0 ∷ args.Number (pos 1) ∷ args.Number (pos 1) ∷ []) ∷
            stmts.Call names.TkRefSem (args.Number (pos 3) ∷ []) ∷
            stmts.Call names.TkCreFlg (args.List 0 ∷ args.Number (pos 0) ∷ []) ∷
            stmts.Jump (conditions.Less 0 (operands.Number (pos 64))) 1 ∷
            stmts.Call names.TkCreFlg (args.List 0 ∷ args.Number (pos 0) ∷ []) ∷
            stmts.Call names.TkCreFlg (args.List 512 ∷ args.Number (pos 0) ∷ []) ∷
            stmts.Call names.TkDelFlg (args.Number (pos 64) ∷ []) ∷
            stmts.Call names.TkCreFlg (args.List 0 ∷ args.Number (pos 5) ∷ []) ∷
            stmts.Call names.TkRefFlg (args.Number (pos 64) ∷ []) ∷
            [];
      } ∷
      [];
}

full_tables_entries : List Entry
full_tables_entries = []

full_tables_lines : List ℕ
full_tables_lines =
    codes "0 D 1\n" ++
    codes "1 C 1 tk_cre_sem 1\n" ++
    codes "3 C 1 tk_cre_sem 2\n" ++
    codes "5 C 1 tk_cre_sem 3\n" ++
    codes "7 C 1 tk_cre_sem 4\n" ++
    codes "9 C 1 tk_cre_sem 5\n" ++
    codes "11 C 1 tk_cre_sem 6\n" ++
    codes "13 C 1 tk_cre_sem 7\n" ++
    codes "15 C 1 tk_cre_sem 8\n" ++
    codes "17 C 1 tk_cre_sem 9\n" ++
    codes "19 C 1 tk_cre_sem 10\n" ++
    codes "21 C 1 tk_cre_sem 11\n" ++
    codes "23 C 1 tk_cre_sem 12\n" ++
    codes "25 C 1 tk_cre_sem 13\n" ++
    codes "27 C 1 tk_cre_sem 14\n" ++
    codes "29 C 1 tk_cre_sem 15\n" ++
    codes "31 C 1 tk_cre_sem 16\n" ++
    codes "33 C 1 tk_cre_sem 17\n" ++
    codes "35 C 1 tk_cre_sem 18\n" ++
    codes "37 C 1 tk_cre_sem 19\n" ++
    codes "39 C 1 tk_cre_sem 20\n" ++
    codes "41 C 1 tk_cre_sem 21\n" ++
    codes "43 C 1 tk_cre_sem 22\n" ++
    codes "45 C 1 tk_cre_sem 23\n" ++
    codes "47 C 1 tk_cre_sem 24\n" ++
    codes "49 C 1 tk_cre_sem 25\n" ++
    codes "51 C 1 tk_cre_sem 26\n" ++
    codes "53 C 1 tk_cre_sem 27\n" ++
    codes "55 C 1 tk_cre_sem 28\n" ++
    codes "57 C 1 tk_cre_sem 29\n" ++
    codes "59 C 1 tk_cre_sem 30\n" ++
    codes "61 C 1 tk_cre_sem 31\n" ++
    codes "63 C 1 tk_cre_sem 32\n" ++
    codes "65 C 1 tk_cre_sem 33\n" ++
    codes "67 C 1 tk_cre_sem 34\n" ++
    codes "69 C 1 tk_cre_sem 35\n" ++
    codes "71 C 1 tk_cre_sem 36\n" ++
    codes "73 C 1 tk_cre_sem 37\n" ++
    codes "75 C 1 tk_cre_sem 38\n" ++
    codes "77 C 1 tk_cre_sem 39\n" ++
    codes "79 C 1 tk_cre_sem 40\n" ++
    codes "81 C 1 tk_cre_sem 41\n" ++
    codes "83 C 1 tk_cre_sem 42\n" ++
    codes "85 C 1 tk_cre_sem 43\n" ++
    codes "87 C 1 tk_cre_sem 44\n" ++
    codes "89 C 1 tk_cre_sem 45\n" ++
    codes "91 C 1 tk_cre_sem 46\n" ++
    codes "93 C 1 tk_cre_sem 47\n" ++
    codes "95 C 1 tk_cre_sem 48\n" ++
    codes "97 C 1 tk_cre_sem 49\n" ++
    codes "99 C 1 tk_cre_sem 50\n" ++
    codes "101 C 1 tk_cre_sem 51\n" ++
    codes "103 C 1 tk_cre_sem 52\n" ++
    codes "105 C 1 tk_cre_sem 53\n" ++
    codes "107 C 1 tk_cre_sem 54\n" ++
    codes "109 C 1 tk_cre_sem 55\n" ++
    codes "111 C 1 tk_cre_sem 56\n" ++
    codes "113 C 1 tk_cre_sem 57\n" ++
    codes "115 C 1 tk_cre_sem 58\n" ++
    codes "117 C 1 tk_cre_sem 59\n" ++
    codes "119 C 1 tk_cre_sem 60\n" ++
    codes "121 C 1 tk_cre_sem 61\n" ++
    codes "123 C 1 tk_cre_sem 62\n" ++
    codes "125 C 1 tk_cre_sem 63\n" ++
    codes "127 C 1 tk_cre_sem 64\n" ++
    codes "129 C 1 tk_cre_sem E_LIMIT\n" ++
    codes "130 C 1 tk_cre_sem E_PAR\n" ++
    codes "131 C 1 tk_del_sem 0\n" ++
    codes "132 C 1 tk_cre_sem 3\n" ++
    codes "133 C 1 tk_ref_sem 0 1 0\n" ++
    codes "134 C 1 tk_cre_flg 1\n" ++
    codes "136 C 1 tk_cre_flg 2\n" ++
    codes "138 C 1 tk_cre_flg 3\n" ++
    codes "140 C 1 tk_cre_flg 4\n" ++
    codes "142 C 1 tk_cre_flg 5\n" ++
    codes "144 C 1 tk_cre_flg 6\n" ++
    codes "146 C 1 tk_cre_flg 7\n" ++
    codes "148 C 1 tk_cre_flg 8\n" ++
    codes "150 C 1 tk_cre_flg 9\n" ++
    codes "152 C 1 tk_cre_flg 10\n" ++
    codes "154 C 1 tk_cre_flg 11\n" ++
    codes "156 C 1 tk_cre_flg 12\n" ++
    codes "158 C 1 tk_cre_flg 13\n" ++
    codes "160 C 1 tk_cre_flg 14\n" ++
    codes "162 C 1 tk_cre_flg 15\n" ++
    codes "164 C 1 tk_cre_flg 16\n" ++
    codes "166 C 1 tk_cre_flg 17\n" ++
    codes "168 C 1 tk_cre_flg 18\n" ++
    codes "170 C 1 tk_cre_flg 19\n" ++
    codes "172 C 1 tk_cre_flg 20\n" ++
    codes "174 C 1 tk_cre_flg 21\n" ++
    codes "176 C 1 tk_cre_flg 22\n" ++
    codes "178 C 1 tk_cre_flg 23\n" ++
    codes "180 C 1 tk_cre_flg 24\n" ++
    codes "182 C 1 tk_cre_flg 25\n" ++
    codes "184 C 1 tk_cre_flg 26\n" ++
    codes "186 C 1 tk_cre_flg 27\n" ++
    codes "188 C 1 tk_cre_flg 28\n" ++
    codes "190 C 1 tk_cre_flg 29\n" ++
    codes "192 C 1 tk_cre_flg 30\n" ++
    codes "194 C 1 tk_cre_flg 31\n" ++
    codes "196 C 1 tk_cre_flg 32\n" ++
    codes "198 C 1 tk_cre_flg 33\n" ++
    codes "200 C 1 tk_cre_flg 34\n" ++
    codes "202 C 1 tk_cre_flg 35\n" ++
    codes "204 C 1 tk_cre_flg 36\n" ++
    codes "206 C 1 tk_cre_flg 37\n" ++
    codes "208 C 1 tk_cre_flg 38\n" ++
    codes "210 C 1 tk_cre_flg 39\n" ++
    codes "212 C 1 tk_cre_flg 40\n" ++
    codes "214 C 1 tk_cre_flg 41\n" ++
    codes "216 C 1 tk_cre_flg 42\n" ++
    codes "218 C 1 tk_cre_flg 43\n" ++
    codes "220 C 1 tk_cre_flg 44\n" ++
    codes "222 C 1 tk_cre_flg 45\n" ++
    codes "224 C 1 tk_cre_flg 46\n" ++
    codes "226 C 1 tk_cre_flg 47\n" ++
    codes "228 C 1 tk_cre_flg 48\n" ++
    codes "230 C 1 tk_cre_flg 49\n" ++
    codes "232 C 1 tk_cre_flg 50\n" ++
    codes "234 C 1 tk_cre_flg 51\n" ++
    codes "236 C 1 tk_cre_flg 52\n" ++
    codes "238 C 1 tk_cre_flg 53\n" ++
    codes "240 C 1 tk_cre_flg 54\n" ++
    codes "242 C 1 tk_cre_flg 55\n" ++
    codes "244 C 1 tk_cre_flg 56\n" ++
    codes "246 C 1 tk_cre_flg 57\n" ++
    codes "248 C 1 tk_cre_flg 58\n" ++
    codes "250 C 1 tk_cre_flg 59\n" ++
    codes "252 C 1 tk_cre_flg 60\n" ++
    codes "254 C 1 tk_cre_flg 61\n" ++
    codes "256 C 1 tk_cre_flg 62\n" ++
    codes "258 C 1 tk_cre_flg 63\n" ++
    codes "260 C 1 tk_cre_flg 64\n" ++
    codes "262 C 1 tk_cre_flg E_LIMIT\n" ++
    codes "263 C 1 tk_cre_flg E_RSATR\n" ++
    codes "264 C 1 tk_del_flg 0\n" ++
    codes "265 C 1 tk_cre_flg 64\n" ++
    codes "266 C 1 tk_ref_flg 0 5 0\n" ++
    codes "267 C 1 tk_ext_tsk 0\n" ++
    codes "267 D 0\n" ++
    codes "267 END idle\n" ++
    []

full_tables_run : text_of_lines (lines_of (trace full_tables_script modes.Free 100000 full_tables_entries)) ≡ full_tables_lines
unfolding full_tables_script full_tables_entries full_tables_lines text_of form_of named made task_call_name sem_flag_call_name mutex_call_name mail_call_name pool_call_name time_call_name context_call_name device_call_name hook_call_name name_of code_of error_text coded error_named attributes_of flag_mode_of open_mode_of suspend_mode_of is_name_byte name_at_most why_text value_text words_of text_of_line text_of_lines fetch give call_before create_sem create_flag end_first delete_sem delete_flag refer_sem refer_flag signal_sem set_flag clear_flag wait_sem wait_flag sem_flag_call serve_sem serve_flag first_served serve_sem_flag sem_trial flag_trial chosen free_task create_task delete_task start_task exit_task terminate_task change_priority rotate_ready get_task refer_task sleep delay wake_up cancel_wakeups release_wait suspend_task resume_task task_call mark_of allowed free_from first_serving serve_box serve_mailboxes serve_buffer serve_buffers post create_box delete_box send_box receive_box refer_box create_buffer delete_buffer send_buffer receive_buffer refer_buffer mail_call create_mutex lock_mutex unlock_mutex refer_mutex delete_mutex mutex_call change_priority_beside task_call_beside chain_has current_of resettle free_last ceiling_allows serve_mutex serve_mutexes create_fixed delete_fixed get_fixed release_fixed refer_fixed create_variable delete_variable get_variable release_variable refer_variable pool_call first_free serve_fixed serve_fixed_pools serve_variable serve_variable_pools set_time get_time get_operating_time create_cyclic start_cyclic stop_cyclic delete_cyclic refer_cyclic create_alarm start_alarm stop_alarm delete_alarm refer_alarm time_call body_of next_due again define_handler disable_dispatch enable_dispatch disable_interrupts enable_interrupts refer_system define_service refer_service enter_service context_call left list_existing list_ready list_queue set_hook hook_call open_device refer_device request request_whole wait_ending close_device suspend_devices device_call expected arrive hand_over hand_first messages emptied read_bytes write_bytes accept picked serve_acceptance serve_acceptances serve_ending serve_endings is_with_driver serve_close serve_closes serve_suspension events_sent free_descriptor free_request first_queued at_driver accepted dropped handed asked devices_start block is_last blocks unit cut may_cut arrived entered returned body_returned family_call answered called follow_release follow_each with_releases dispatched followed insert_once with_requests handler_begun due_begun interrupt_begun served_within settle freed_within fallen due_done tick state_after worked counted step sync_runs sync_run entered_2 runs start trace acted ran turn_of done_turn first_serving_2 serve_object state_start digits
full_tables_run = refl

-- The head of a queue asks for more than there is, and a later waiter for less: with TA_FIRST both wait, with TA_CNT the later one is served.
head_and_later_script : Script
head_and_later_script = record {
  devices = [];
  pace = None;
  irqs = [];
  boot = record { body = 1; priority = 10 };
  bodies =
      record {
        name = codes "main";
        kind = kinds.Task;
        labels = [];
        stmts =
            stmts.Call names.TkCreSem (args.List 256 ∷ args.Number (pos 1) ∷ args.Number (pos 9) ∷ []) ∷
            stmts.Call names.TkCreSem (args.List 512 ∷ args.Number (pos 0) ∷ args.Number (pos 9) ∷ []) ∷
            stmts.Call names.TkCreTsk (args.List 0 ∷ args.Body 2 ∷ args.Number (pos 5) ∷ args.Number (pos 512) ∷ []) ∷
            stmts.Call names.TkCreTsk (args.List 0 ∷ args.Body 2 ∷ args.Number (pos 5) ∷ args.Number (pos 512) ∷ []) ∷
            stmts.Call names.TkStaTsk (args.Number (pos 2) ∷ args.Number (pos 3) ∷ []) ∷
            stmts.Call names.TkStaTsk (args.Number (pos 3) ∷ args.Number (pos 1) ∷ []) ∷
            stmts.Call names.TkWaiSem (args.Number (pos 1) ∷ args.Number (pos 1) ∷ args.Number (pos 0) ∷ []) ∷
            stmts.Call names.TkRefSem (args.Number (pos 1) ∷ []) ∷
            stmts.Call names.TkSigSem (args.Number (pos 1) ∷ args.Number (pos 1) ∷ []) ∷
            stmts.Call names.TkSigSem (args.Number (pos 1) ∷ args.Number (pos 2) ∷ []) ∷
            stmts.Call names.TkRefSem (args.Number (pos 1) ∷ []) ∷
            stmts.Call names.TkSigSem (args.Number (pos 2) ∷ args.Number (pos 2) ∷ []) ∷
            stmts.Call names.TkRefSem (args.Number (pos 2) ∷ []) ∷
            stmts.Call names.TkWaiSem (args.Number (pos 2) ∷ args.Number (pos 1) ∷ args.Number (pos 0) ∷ []) ∷
            stmts.Call names.TkWaiSem (args.Number (pos 2) ∷ args.Number (pos 1) ∷ args.Number (pos 0) ∷ []) ∷
            stmts.Call names.TkSigSem (args.Number (pos 2) ∷ args.Number (pos 3) ∷ []) ∷
            stmts.Call names.TkRefSem (args.Number (pos 2) ∷ []) ∷
            [];
      } ∷
      record {
        name = codes "taker";
        kind = kinds.Task;
        labels = [];
        stmts =
            stmts.Call names.TkWaiSem (args.Number (pos 1) ∷ args.Register 1 ∷ args.Number (negsuc 0) ∷ []) ∷
            stmts.Call names.TkWaiSem (args.Number (pos 2) ∷ args.Register 1 ∷ args.Number (negsuc 0) ∷ []) ∷
            [];
      } ∷
      [];
}

head_and_later_entries : List Entry
head_and_later_entries = []

head_and_later_lines : List ℕ
head_and_later_lines =
    codes "0 D 1\n" ++
    codes "1 C 1 tk_cre_sem 1\n" ++
    codes "2 C 1 tk_cre_sem 2\n" ++
    codes "3 C 1 tk_cre_tsk 2\n" ++
    codes "4 C 1 tk_cre_tsk 3\n" ++
    codes "5 C 1 tk_sta_tsk 0\n" ++
    codes "5 D 2\n" ++
    codes "6 B 2 tk_wai_sem\n" ++
    codes "6 D 1\n" ++
    codes "7 C 1 tk_sta_tsk 0\n" ++
    codes "7 D 3\n" ++
    codes "8 B 3 tk_wai_sem\n" ++
    codes "8 D 1\n" ++
    codes "9 C 1 tk_wai_sem E_TMOUT\n" ++
    codes "10 C 1 tk_ref_sem 0 1 2\n" ++
    codes "11 C 1 tk_sig_sem 0\n" ++
    codes "12 C 1 tk_sig_sem 0\n" ++
    codes "12 W 2 tk_wai_sem 0\n" ++
    codes "12 W 3 tk_wai_sem 0\n" ++
    codes "12 D 2\n" ++
    codes "13 B 2 tk_wai_sem\n" ++
    codes "13 D 3\n" ++
    codes "14 B 3 tk_wai_sem\n" ++
    codes "14 D 1\n" ++
    codes "15 C 1 tk_ref_sem 0 0 0\n" ++
    codes "16 C 1 tk_sig_sem 0\n" ++
    codes "16 W 3 tk_wai_sem 0\n" ++
    codes "16 D 3\n" ++
    codes "17 C 3 tk_ext_tsk 0\n" ++
    codes "17 D 1\n" ++
    codes "18 C 1 tk_ref_sem 0 1 2\n" ++
    codes "19 C 1 tk_wai_sem 0\n" ++
    codes "20 C 1 tk_wai_sem E_TMOUT\n" ++
    codes "21 C 1 tk_sig_sem 0\n" ++
    codes "21 W 2 tk_wai_sem 0\n" ++
    codes "21 D 2\n" ++
    codes "22 C 2 tk_ext_tsk 0\n" ++
    codes "22 D 1\n" ++
    codes "23 C 1 tk_ref_sem 0 0 0\n" ++
    codes "24 C 1 tk_ext_tsk 0\n" ++
    codes "24 D 0\n" ++
    codes "24 END idle\n" ++
    []

head_and_later_run : text_of_lines (lines_of (trace head_and_later_script modes.Free 100000 head_and_later_entries)) ≡ head_and_later_lines
unfolding head_and_later_script head_and_later_entries head_and_later_lines text_of form_of named made task_call_name sem_flag_call_name mutex_call_name mail_call_name pool_call_name time_call_name context_call_name device_call_name hook_call_name name_of code_of error_text coded error_named attributes_of flag_mode_of open_mode_of suspend_mode_of is_name_byte name_at_most why_text value_text words_of text_of_line text_of_lines fetch give call_before create_sem create_flag end_first delete_sem delete_flag refer_sem refer_flag signal_sem set_flag clear_flag wait_sem wait_flag sem_flag_call serve_sem serve_flag first_served serve_sem_flag sem_trial flag_trial chosen free_task create_task delete_task start_task exit_task terminate_task change_priority rotate_ready get_task refer_task sleep delay wake_up cancel_wakeups release_wait suspend_task resume_task task_call mark_of allowed free_from first_serving serve_box serve_mailboxes serve_buffer serve_buffers post create_box delete_box send_box receive_box refer_box create_buffer delete_buffer send_buffer receive_buffer refer_buffer mail_call create_mutex lock_mutex unlock_mutex refer_mutex delete_mutex mutex_call change_priority_beside task_call_beside chain_has current_of resettle free_last ceiling_allows serve_mutex serve_mutexes create_fixed delete_fixed get_fixed release_fixed refer_fixed create_variable delete_variable get_variable release_variable refer_variable pool_call first_free serve_fixed serve_fixed_pools serve_variable serve_variable_pools set_time get_time get_operating_time create_cyclic start_cyclic stop_cyclic delete_cyclic refer_cyclic create_alarm start_alarm stop_alarm delete_alarm refer_alarm time_call body_of next_due again define_handler disable_dispatch enable_dispatch disable_interrupts enable_interrupts refer_system define_service refer_service enter_service context_call left list_existing list_ready list_queue set_hook hook_call open_device refer_device request request_whole wait_ending close_device suspend_devices device_call expected arrive hand_over hand_first messages emptied read_bytes write_bytes accept picked serve_acceptance serve_acceptances serve_ending serve_endings is_with_driver serve_close serve_closes serve_suspension events_sent free_descriptor free_request first_queued at_driver accepted dropped handed asked devices_start block is_last blocks unit cut may_cut arrived entered returned body_returned family_call answered called follow_release follow_each with_releases dispatched followed insert_once with_requests handler_begun due_begun interrupt_begun served_within settle freed_within fallen due_done tick state_after worked counted step sync_runs sync_run entered_2 runs start trace acted ran turn_of done_turn first_serving_2 serve_object state_start digits
head_and_later_run = refl

-- The head of a queue by priority is released, then the next one is terminated, and then the one behind it gets a lower priority:
-- only then there is enough for the head. A wake-up doesn't end a wait for a semaphore.
head_leaves_script : Script
head_leaves_script = record {
  devices = [];
  pace = None;
  irqs = [];
  boot = record { body = 1; priority = 20 };
  bodies =
      record {
        name = codes "main";
        kind = kinds.Task;
        labels = [];
        stmts =
            stmts.Call names.TkCreSem (args.List 384 ∷ args.Number (pos 2) ∷ args.Number (pos 9) ∷ []) ∷
            stmts.Call names.TkCreTsk (args.List 0 ∷ args.Body 2 ∷ args.Number (pos 8) ∷ args.Number (pos 512) ∷ []) ∷
            stmts.Call names.TkCreTsk (args.List 0 ∷ args.Body 2 ∷ args.Number (pos 6) ∷ args.Number (pos 512) ∷ []) ∷
            stmts.Call names.TkCreTsk (args.List 0 ∷ args.Body 2 ∷ args.Number (pos 7) ∷ args.Number (pos 512) ∷ []) ∷
            stmts.Call names.TkCreTsk (args.List 0 ∷ args.Body 2 ∷ args.Number (pos 9) ∷ args.Number (pos 512) ∷ []) ∷
            stmts.Call names.TkStaTsk (args.Number (pos 2) ∷ args.Number (pos 3) ∷ []) ∷
            stmts.Call names.TkStaTsk (args.Number (pos 3) ∷ args.Number (pos 5) ∷ []) ∷
            stmts.Call names.TkStaTsk (args.Number (pos 4) ∷ args.Number (pos 4) ∷ []) ∷
            stmts.Call names.TkStaTsk (args.Number (pos 5) ∷ args.Number (pos 1) ∷ []) ∷
            stmts.Call names.TkWupTsk (args.Number (pos 2) ∷ []) ∷
            stmts.Call names.TkRefTsk (args.Number (pos 2) ∷ []) ∷
            stmts.Call names.TkRefSem (args.Number (pos 1) ∷ []) ∷
            stmts.Call names.TkRelWai (args.Number (pos 3) ∷ []) ∷
            stmts.Call names.TkRefSem (args.Number (pos 1) ∷ []) ∷
            stmts.Call names.TkTerTsk (args.Number (pos 4) ∷ []) ∷
            stmts.Call names.TkRefSem (args.Number (pos 1) ∷ []) ∷
            stmts.Call names.TkChgPri (args.Number (pos 2) ∷ args.Number (pos 10) ∷ []) ∷
            stmts.Call names.TkRefSem (args.Number (pos 1) ∷ []) ∷
            stmts.Call names.TkSigSem (args.Number (pos 1) ∷ args.Number (pos 2) ∷ []) ∷
            [];
      } ∷
      record {
        name = codes "taker";
        kind = kinds.Task;
        labels = [];
        stmts =
            stmts.Call names.TkWaiSem (args.Number (pos 1) ∷ args.Register 1 ∷ args.Number (negsuc 0) ∷ []) ∷
            stmts.Show (operands.Register 0) ∷
            [];
      } ∷
      [];
}

head_leaves_entries : List Entry
head_leaves_entries = []

head_leaves_lines : List ℕ
head_leaves_lines =
    codes "0 D 1\n" ++
    codes "1 C 1 tk_cre_sem 1\n" ++
    codes "2 C 1 tk_cre_tsk 2\n" ++
    codes "3 C 1 tk_cre_tsk 3\n" ++
    codes "4 C 1 tk_cre_tsk 4\n" ++
    codes "5 C 1 tk_cre_tsk 5\n" ++
    codes "6 C 1 tk_sta_tsk 0\n" ++
    codes "6 D 2\n" ++
    codes "7 B 2 tk_wai_sem\n" ++
    codes "7 D 1\n" ++
    codes "8 C 1 tk_sta_tsk 0\n" ++
    codes "8 D 3\n" ++
    codes "9 B 3 tk_wai_sem\n" ++
    codes "9 D 1\n" ++
    codes "10 C 1 tk_sta_tsk 0\n" ++
    codes "10 D 4\n" ++
    codes "11 B 4 tk_wai_sem\n" ++
    codes "11 D 1\n" ++
    codes "12 C 1 tk_sta_tsk 0\n" ++
    codes "12 D 5\n" ++
    codes "13 B 5 tk_wai_sem\n" ++
    codes "13 D 1\n" ++
    codes "14 C 1 tk_wup_tsk 0\n" ++
    codes "15 C 1 tk_ref_tsk 0 3 8 8 1 0\n" ++
    codes "16 C 1 tk_ref_sem 0 2 3\n" ++
    codes "17 C 1 tk_rel_wai 0\n" ++
    codes "17 W 3 tk_wai_sem E_RLWAI\n" ++
    codes "17 D 3\n" ++
    codes "18 S 3 -49\n" ++
    codes "19 C 3 tk_ext_tsk 0\n" ++
    codes "19 D 1\n" ++
    codes "20 C 1 tk_ref_sem 0 2 4\n" ++
    codes "21 C 1 tk_ter_tsk 0\n" ++
    codes "22 C 1 tk_ref_sem 0 2 2\n" ++
    codes "23 C 1 tk_chg_pri 0\n" ++
    codes "23 W 5 tk_wai_sem 0\n" ++
    codes "23 D 5\n" ++
    codes "24 S 5 0\n" ++
    codes "25 C 5 tk_ext_tsk 0\n" ++
    codes "25 D 1\n" ++
    codes "26 C 1 tk_ref_sem 0 1 2\n" ++
    codes "27 C 1 tk_sig_sem 0\n" ++
    codes "27 W 2 tk_wai_sem 0\n" ++
    codes "27 D 2\n" ++
    codes "28 S 2 0\n" ++
    codes "29 C 2 tk_ext_tsk 0\n" ++
    codes "29 D 1\n" ++
    codes "30 C 1 tk_ext_tsk 0\n" ++
    codes "30 D 0\n" ++
    codes "30 END idle\n" ++
    []

head_leaves_run : text_of_lines (lines_of (trace head_leaves_script modes.Free 100000 head_leaves_entries)) ≡ head_leaves_lines
unfolding head_leaves_script head_leaves_entries head_leaves_lines text_of form_of named made task_call_name sem_flag_call_name mutex_call_name mail_call_name pool_call_name time_call_name context_call_name device_call_name hook_call_name name_of code_of error_text coded error_named attributes_of flag_mode_of open_mode_of suspend_mode_of is_name_byte name_at_most why_text value_text words_of text_of_line text_of_lines fetch give call_before create_sem create_flag end_first delete_sem delete_flag refer_sem refer_flag signal_sem set_flag clear_flag wait_sem wait_flag sem_flag_call serve_sem serve_flag first_served serve_sem_flag sem_trial flag_trial chosen free_task create_task delete_task start_task exit_task terminate_task change_priority rotate_ready get_task refer_task sleep delay wake_up cancel_wakeups release_wait suspend_task resume_task task_call mark_of allowed free_from first_serving serve_box serve_mailboxes serve_buffer serve_buffers post create_box delete_box send_box receive_box refer_box create_buffer delete_buffer send_buffer receive_buffer refer_buffer mail_call create_mutex lock_mutex unlock_mutex refer_mutex delete_mutex mutex_call change_priority_beside task_call_beside chain_has current_of resettle free_last ceiling_allows serve_mutex serve_mutexes create_fixed delete_fixed get_fixed release_fixed refer_fixed create_variable delete_variable get_variable release_variable refer_variable pool_call first_free serve_fixed serve_fixed_pools serve_variable serve_variable_pools set_time get_time get_operating_time create_cyclic start_cyclic stop_cyclic delete_cyclic refer_cyclic create_alarm start_alarm stop_alarm delete_alarm refer_alarm time_call body_of next_due again define_handler disable_dispatch enable_dispatch disable_interrupts enable_interrupts refer_system define_service refer_service enter_service context_call left list_existing list_ready list_queue set_hook hook_call open_device refer_device request request_whole wait_ending close_device suspend_devices device_call expected arrive hand_over hand_first messages emptied read_bytes write_bytes accept picked serve_acceptance serve_acceptances serve_ending serve_endings is_with_driver serve_close serve_closes serve_suspension events_sent free_descriptor free_request first_queued at_driver accepted dropped handed asked devices_start block is_last blocks unit cut may_cut arrived entered returned body_returned family_call answered called follow_release follow_each with_releases dispatched followed insert_once with_requests handler_begun due_begun interrupt_begun served_within settle freed_within fallen due_done tick state_after worked counted step sync_runs sync_run entered_2 runs start trace acted ran turn_of done_turn first_serving_2 serve_object state_start digits
head_leaves_run = refl

-- A released head lets the next waiter be served; a change to the same priority moves the head behind its equal; a terminated head
-- is passed by the one behind it, which is served where there is enough for it; a waiter that gets a higher priority passes the head.
head_moves_script : Script
head_moves_script = record {
  devices = [];
  pace = None;
  irqs = [];
  boot = record { body = 1; priority = 20 };
  bodies =
      record {
        name = codes "main";
        kind = kinds.Task;
        labels = [];
        stmts =
            stmts.Call names.TkCreSem (args.List 384 ∷ args.Number (pos 2) ∷ args.Number (pos 9) ∷ []) ∷
            stmts.Call names.TkCreTsk (args.List 0 ∷ args.Body 2 ∷ args.Number (pos 6) ∷ args.Number (pos 512) ∷ []) ∷
            stmts.Call names.TkCreTsk (args.List 0 ∷ args.Body 2 ∷ args.Number (pos 7) ∷ args.Number (pos 512) ∷ []) ∷
            stmts.Call names.TkCreTsk (args.List 0 ∷ args.Body 2 ∷ args.Number (pos 8) ∷ args.Number (pos 512) ∷ []) ∷
            stmts.Call names.TkCreTsk (args.List 0 ∷ args.Body 2 ∷ args.Number (pos 9) ∷ args.Number (pos 512) ∷ []) ∷
            stmts.Call names.TkCreTsk (args.List 0 ∷ args.Body 2 ∷ args.Number (pos 9) ∷ args.Number (pos 512) ∷ []) ∷
            stmts.Call names.TkStaTsk (args.Number (pos 2) ∷ args.Number (pos 5) ∷ []) ∷
            stmts.Call names.TkStaTsk (args.Number (pos 3) ∷ args.Number (pos 1) ∷ []) ∷
            stmts.Call names.TkStaTsk (args.Number (pos 4) ∷ args.Number (pos 6) ∷ []) ∷
            stmts.Call names.TkStaTsk (args.Number (pos 5) ∷ args.Number (pos 2) ∷ []) ∷
            stmts.Call names.TkStaTsk (args.Number (pos 6) ∷ args.Number (pos 1) ∷ []) ∷
            stmts.Call names.TkRefSem (args.Number (pos 1) ∷ []) ∷
            stmts.Call names.TkRelWai (args.Number (pos 2) ∷ []) ∷
            stmts.Call names.TkTerTsk (args.Number (pos 4) ∷ []) ∷
            stmts.Call names.TkRefSem (args.Number (pos 1) ∷ []) ∷
            stmts.Call names.TkChgPri (args.Number (pos 5) ∷ args.Number (pos 9) ∷ []) ∷
            stmts.Call names.TkStaTsk (args.Number (pos 4) ∷ args.Number (pos 1) ∷ []) ∷
            stmts.Call names.TkChgPri (args.Number (pos 5) ∷ args.Number (pos 7) ∷ []) ∷
            stmts.Call names.TkRefSem (args.Number (pos 1) ∷ []) ∷
            stmts.Call names.TkSigSem (args.Number (pos 1) ∷ args.Number (pos 1) ∷ []) ∷
            stmts.Call names.TkTerTsk (args.Number (pos 5) ∷ []) ∷
            stmts.Call names.TkStaTsk (args.Number (pos 5) ∷ args.Number (pos 3) ∷ []) ∷
            stmts.Call names.TkStaTsk (args.Number (pos 6) ∷ args.Number (pos 1) ∷ []) ∷
            stmts.Call names.TkSigSem (args.Number (pos 1) ∷ args.Number (pos 1) ∷ []) ∷
            stmts.Call names.TkRefSem (args.Number (pos 1) ∷ []) ∷
            stmts.Call names.TkChgPri (args.Number (pos 6) ∷ args.Number (pos 8) ∷ []) ∷
            stmts.Call names.TkRefSem (args.Number (pos 1) ∷ []) ∷
            stmts.Call names.TkRelWai (args.Number (pos 5) ∷ []) ∷
            stmts.Call names.TkRefSem (args.Number (pos 1) ∷ []) ∷
            [];
      } ∷
      record {
        name = codes "taker";
        kind = kinds.Task;
        labels = [];
        stmts =
            stmts.Call names.TkWaiSem (args.Number (pos 1) ∷ args.Register 1 ∷ args.Number (negsuc 0) ∷ []) ∷
            [];
      } ∷
      [];
}

head_moves_entries : List Entry
head_moves_entries = []

head_moves_lines : List ℕ
head_moves_lines =
    codes "0 D 1\n" ++
    codes "1 C 1 tk_cre_sem 1\n" ++
    codes "2 C 1 tk_cre_tsk 2\n" ++
    codes "3 C 1 tk_cre_tsk 3\n" ++
    codes "4 C 1 tk_cre_tsk 4\n" ++
    codes "5 C 1 tk_cre_tsk 5\n" ++
    codes "6 C 1 tk_cre_tsk 6\n" ++
    codes "7 C 1 tk_sta_tsk 0\n" ++
    codes "7 D 2\n" ++
    codes "8 B 2 tk_wai_sem\n" ++
    codes "8 D 1\n" ++
    codes "9 C 1 tk_sta_tsk 0\n" ++
    codes "9 D 3\n" ++
    codes "10 B 3 tk_wai_sem\n" ++
    codes "10 D 1\n" ++
    codes "11 C 1 tk_sta_tsk 0\n" ++
    codes "11 D 4\n" ++
    codes "12 B 4 tk_wai_sem\n" ++
    codes "12 D 1\n" ++
    codes "13 C 1 tk_sta_tsk 0\n" ++
    codes "13 D 5\n" ++
    codes "14 B 5 tk_wai_sem\n" ++
    codes "14 D 1\n" ++
    codes "15 C 1 tk_sta_tsk 0\n" ++
    codes "15 D 6\n" ++
    codes "16 B 6 tk_wai_sem\n" ++
    codes "16 D 1\n" ++
    codes "17 C 1 tk_ref_sem 0 2 2\n" ++
    codes "18 C 1 tk_rel_wai 0\n" ++
    codes "18 W 2 tk_wai_sem E_RLWAI\n" ++
    codes "18 W 3 tk_wai_sem 0\n" ++
    codes "18 D 2\n" ++
    codes "19 C 2 tk_ext_tsk 0\n" ++
    codes "19 D 3\n" ++
    codes "20 C 3 tk_ext_tsk 0\n" ++
    codes "20 D 1\n" ++
    codes "21 C 1 tk_ter_tsk 0\n" ++
    codes "22 C 1 tk_ref_sem 0 1 5\n" ++
    codes "23 C 1 tk_chg_pri 0\n" ++
    codes "23 W 6 tk_wai_sem 0\n" ++
    codes "23 D 6\n" ++
    codes "24 C 6 tk_ext_tsk 0\n" ++
    codes "24 D 1\n" ++
    codes "25 C 1 tk_sta_tsk 0\n" ++
    codes "25 D 4\n" ++
    codes "26 B 4 tk_wai_sem\n" ++
    codes "26 D 1\n" ++
    codes "27 C 1 tk_chg_pri 0\n" ++
    codes "28 C 1 tk_ref_sem 0 0 5\n" ++
    codes "29 C 1 tk_sig_sem 0\n" ++
    codes "30 C 1 tk_ter_tsk 0\n" ++
    codes "30 W 4 tk_wai_sem 0\n" ++
    codes "30 D 4\n" ++
    codes "31 C 4 tk_ext_tsk 0\n" ++
    codes "31 D 1\n" ++
    codes "32 C 1 tk_sta_tsk 0\n" ++
    codes "32 D 5\n" ++
    codes "33 B 5 tk_wai_sem\n" ++
    codes "33 D 1\n" ++
    codes "34 C 1 tk_sta_tsk 0\n" ++
    codes "34 D 6\n" ++
    codes "35 B 6 tk_wai_sem\n" ++
    codes "35 D 1\n" ++
    codes "36 C 1 tk_sig_sem 0\n" ++
    codes "37 C 1 tk_ref_sem 0 1 5\n" ++
    codes "38 C 1 tk_chg_pri 0\n" ++
    codes "38 W 6 tk_wai_sem 0\n" ++
    codes "38 D 6\n" ++
    codes "39 C 6 tk_ext_tsk 0\n" ++
    codes "39 D 1\n" ++
    codes "40 C 1 tk_ref_sem 0 0 5\n" ++
    codes "41 C 1 tk_rel_wai 0\n" ++
    codes "41 W 5 tk_wai_sem E_RLWAI\n" ++
    codes "41 D 5\n" ++
    codes "42 C 5 tk_ext_tsk 0\n" ++
    codes "42 D 1\n" ++
    codes "43 C 1 tk_ref_sem 0 0 0\n" ++
    codes "44 C 1 tk_ext_tsk 0\n" ++
    codes "44 D 0\n" ++
    codes "44 END idle\n" ++
    []

head_moves_run : text_of_lines (lines_of (trace head_moves_script modes.Free 100000 head_moves_entries)) ≡ head_moves_lines
unfolding head_moves_script head_moves_entries head_moves_lines text_of form_of named made task_call_name sem_flag_call_name mutex_call_name mail_call_name pool_call_name time_call_name context_call_name device_call_name hook_call_name name_of code_of error_text coded error_named attributes_of flag_mode_of open_mode_of suspend_mode_of is_name_byte name_at_most why_text value_text words_of text_of_line text_of_lines fetch give call_before create_sem create_flag end_first delete_sem delete_flag refer_sem refer_flag signal_sem set_flag clear_flag wait_sem wait_flag sem_flag_call serve_sem serve_flag first_served serve_sem_flag sem_trial flag_trial chosen free_task create_task delete_task start_task exit_task terminate_task change_priority rotate_ready get_task refer_task sleep delay wake_up cancel_wakeups release_wait suspend_task resume_task task_call mark_of allowed free_from first_serving serve_box serve_mailboxes serve_buffer serve_buffers post create_box delete_box send_box receive_box refer_box create_buffer delete_buffer send_buffer receive_buffer refer_buffer mail_call create_mutex lock_mutex unlock_mutex refer_mutex delete_mutex mutex_call change_priority_beside task_call_beside chain_has current_of resettle free_last ceiling_allows serve_mutex serve_mutexes create_fixed delete_fixed get_fixed release_fixed refer_fixed create_variable delete_variable get_variable release_variable refer_variable pool_call first_free serve_fixed serve_fixed_pools serve_variable serve_variable_pools set_time get_time get_operating_time create_cyclic start_cyclic stop_cyclic delete_cyclic refer_cyclic create_alarm start_alarm stop_alarm delete_alarm refer_alarm time_call body_of next_due again define_handler disable_dispatch enable_dispatch disable_interrupts enable_interrupts refer_system define_service refer_service enter_service context_call left list_existing list_ready list_queue set_hook hook_call open_device refer_device request request_whole wait_ending close_device suspend_devices device_call expected arrive hand_over hand_first messages emptied read_bytes write_bytes accept picked serve_acceptance serve_acceptances serve_ending serve_endings is_with_driver serve_close serve_closes serve_suspension events_sent free_descriptor free_request first_queued at_driver accepted dropped handed asked devices_start block is_last blocks unit cut may_cut arrived entered returned body_returned family_call answered called follow_release follow_each with_releases dispatched followed insert_once with_requests handler_begun due_begun interrupt_begun served_within settle freed_within fallen due_done tick state_after worked counted step sync_runs sync_run entered_2 runs start trace acted ran turn_of done_turn first_serving_2 serve_object state_start digits
head_moves_run = refl

-- A caller that would stand first in a queue by priority is served at once and keeps its place among its equals; one that would
-- stand behind the head, or behind an equal, isn't served though there is enough for it.
joins_first_script : Script
joins_first_script = record {
  devices = [];
  pace = None;
  irqs = [];
  boot = record { body = 1; priority = 20 };
  bodies =
      record {
        name = codes "main";
        kind = kinds.Task;
        labels = [];
        stmts =
            stmts.Call names.TkCreSem (args.List 128 ∷ args.Number (pos 2) ∷ args.Number (pos 9) ∷ []) ∷
            stmts.Call names.TkCreTsk (args.List 0 ∷ args.Body 2 ∷ args.Number (pos 8) ∷ args.Number (pos 512) ∷ []) ∷
            stmts.Call names.TkCreTsk (args.List 0 ∷ args.Body 3 ∷ args.Number (pos 20) ∷ args.Number (pos 512) ∷ []) ∷
            stmts.Call names.TkStaTsk (args.Number (pos 3) ∷ args.Number (pos 0) ∷ []) ∷
            stmts.Call names.TkWaiSem (args.Number (pos 1) ∷ args.Number (pos 1) ∷ args.Number (negsuc 0) ∷ []) ∷
            stmts.Call names.TkStaTsk (args.Number (pos 2) ∷ args.Number (pos 5) ∷ []) ∷
            stmts.Call names.TkWaiSem (args.Number (pos 1) ∷ args.Number (pos 1) ∷ args.Number (pos 0) ∷ []) ∷
            stmts.Say (codes "here") ∷
            stmts.Call names.TkChgPri (args.Number (pos 0) ∷ args.Number (pos 8) ∷ []) ∷
            stmts.Call names.TkWaiSem (args.Number (pos 1) ∷ args.Number (pos 1) ∷ args.Number (pos 0) ∷ []) ∷
            stmts.Call names.TkChgPri (args.Number (pos 0) ∷ args.Number (pos 7) ∷ []) ∷
            stmts.Call names.TkWaiSem (args.Number (pos 1) ∷ args.Number (pos 1) ∷ args.Number (pos 0) ∷ []) ∷
            stmts.Call names.TkRefSem (args.Number (pos 1) ∷ []) ∷
            stmts.Call names.TkSigSem (args.Number (pos 1) ∷ args.Number (pos 6) ∷ []) ∷
            stmts.Call names.TkRefSem (args.Number (pos 1) ∷ []) ∷
            stmts.Call names.TkChgPri (args.Number (pos 0) ∷ args.Number (pos 8) ∷ []) ∷
            [];
      } ∷
      record {
        name = codes "taker";
        kind = kinds.Task;
        labels = [];
        stmts =
            stmts.Call names.TkWaiSem (args.Number (pos 1) ∷ args.Register 1 ∷ args.Number (negsuc 0) ∷ []) ∷
            [];
      } ∷
      record {
        name = codes "other";
        kind = kinds.Task;
        labels = [];
        stmts =
            stmts.Say (codes "o") ∷
            [];
      } ∷
      [];
}

joins_first_entries : List Entry
joins_first_entries = []

joins_first_lines : List ℕ
joins_first_lines =
    codes "0 D 1\n" ++
    codes "1 C 1 tk_cre_sem 1\n" ++
    codes "2 C 1 tk_cre_tsk 2\n" ++
    codes "3 C 1 tk_cre_tsk 3\n" ++
    codes "4 C 1 tk_sta_tsk 0\n" ++
    codes "5 C 1 tk_wai_sem 0\n" ++
    codes "6 C 1 tk_sta_tsk 0\n" ++
    codes "6 D 2\n" ++
    codes "7 B 2 tk_wai_sem\n" ++
    codes "7 D 1\n" ++
    codes "8 C 1 tk_wai_sem E_TMOUT\n" ++
    codes "9 S 1 here\n" ++
    codes "10 C 1 tk_chg_pri 0\n" ++
    codes "11 C 1 tk_wai_sem E_TMOUT\n" ++
    codes "12 C 1 tk_chg_pri 0\n" ++
    codes "13 C 1 tk_wai_sem 0\n" ++
    codes "14 C 1 tk_ref_sem 0 0 2\n" ++
    codes "15 C 1 tk_sig_sem 0\n" ++
    codes "15 W 2 tk_wai_sem 0\n" ++
    codes "16 C 1 tk_ref_sem 0 1 0\n" ++
    codes "17 C 1 tk_chg_pri 0\n" ++
    codes "17 D 2\n" ++
    codes "18 C 2 tk_ext_tsk 0\n" ++
    codes "18 D 1\n" ++
    codes "19 C 1 tk_ext_tsk 0\n" ++
    codes "19 D 3\n" ++
    codes "20 S 3 o\n" ++
    codes "21 C 3 tk_ext_tsk 0\n" ++
    codes "21 D 0\n" ++
    codes "21 END idle\n" ++
    []

joins_first_run : text_of_lines (lines_of (trace joins_first_script modes.Free 100000 joins_first_entries)) ≡ joins_first_lines
unfolding joins_first_script joins_first_entries joins_first_lines text_of form_of named made task_call_name sem_flag_call_name mutex_call_name mail_call_name pool_call_name time_call_name context_call_name device_call_name hook_call_name name_of code_of error_text coded error_named attributes_of flag_mode_of open_mode_of suspend_mode_of is_name_byte name_at_most why_text value_text words_of text_of_line text_of_lines fetch give call_before create_sem create_flag end_first delete_sem delete_flag refer_sem refer_flag signal_sem set_flag clear_flag wait_sem wait_flag sem_flag_call serve_sem serve_flag first_served serve_sem_flag sem_trial flag_trial chosen free_task create_task delete_task start_task exit_task terminate_task change_priority rotate_ready get_task refer_task sleep delay wake_up cancel_wakeups release_wait suspend_task resume_task task_call mark_of allowed free_from first_serving serve_box serve_mailboxes serve_buffer serve_buffers post create_box delete_box send_box receive_box refer_box create_buffer delete_buffer send_buffer receive_buffer refer_buffer mail_call create_mutex lock_mutex unlock_mutex refer_mutex delete_mutex mutex_call change_priority_beside task_call_beside chain_has current_of resettle free_last ceiling_allows serve_mutex serve_mutexes create_fixed delete_fixed get_fixed release_fixed refer_fixed create_variable delete_variable get_variable release_variable refer_variable pool_call first_free serve_fixed serve_fixed_pools serve_variable serve_variable_pools set_time get_time get_operating_time create_cyclic start_cyclic stop_cyclic delete_cyclic refer_cyclic create_alarm start_alarm stop_alarm delete_alarm refer_alarm time_call body_of next_due again define_handler disable_dispatch enable_dispatch disable_interrupts enable_interrupts refer_system define_service refer_service enter_service context_call left list_existing list_ready list_queue set_hook hook_call open_device refer_device request request_whole wait_ending close_device suspend_devices device_call expected arrive hand_over hand_first messages emptied read_bytes write_bytes accept picked serve_acceptance serve_acceptances serve_ending serve_endings is_with_driver serve_close serve_closes serve_suspension events_sent free_descriptor free_request first_queued at_driver accepted dropped handed asked devices_start block is_last blocks unit cut may_cut arrived entered returned body_returned family_call answered called follow_release follow_each with_releases dispatched followed insert_once with_requests handler_begun due_begun interrupt_begun served_within settle freed_within fallen due_done tick state_after worked counted step sync_runs sync_run entered_2 runs start trace acted ran turn_of done_turn first_serving_2 serve_object state_start digits
joins_first_run = refl

-- Of two waits with one limit the first is over, and that serves the second, whose limit counts no more; waits for a flag end at their limits, and a served one has none left.
limited_waits_script : Script
limited_waits_script = record {
  devices = [];
  pace = None;
  irqs = [];
  boot = record { body = 1; priority = 10 };
  bodies =
      record {
        name = codes "main";
        kind = kinds.Task;
        labels = [];
        stmts =
            stmts.Call names.TkCreSem (args.List 0 ∷ args.Number (pos 2) ∷ args.Number (pos 9) ∷ []) ∷
            stmts.Call names.TkCreFlg (args.List 2048 ∷ args.Number (pos 1) ∷ []) ∷
            stmts.Call names.TkCreTsk (args.List 0 ∷ args.Body 2 ∷ args.Number (pos 5) ∷ args.Number (pos 512) ∷ []) ∷
            stmts.Call names.TkCreTsk (args.List 0 ∷ args.Body 3 ∷ args.Number (pos 6) ∷ args.Number (pos 512) ∷ []) ∷
            stmts.Call names.TkStaTsk (args.Number (pos 2) ∷ args.Number (pos 0) ∷ []) ∷
            stmts.Call names.TkStaTsk (args.Number (pos 3) ∷ args.Number (pos 0) ∷ []) ∷
            [];
      } ∷
      record {
        name = codes "one";
        kind = kinds.Task;
        labels = [];
        stmts =
            stmts.Call names.TkWaiSem (args.Number (pos 1) ∷ args.Number (pos 3) ∷ args.Number (pos 2) ∷ []) ∷
            stmts.Call names.TkWaiFlg (args.Number (pos 1) ∷ args.Number (pos 2) ∷ args.List 1 ∷ args.Number (pos 1) ∷ []) ∷
            stmts.Call names.TkWaiFlg (args.Number (pos 1) ∷ args.Number (pos 2) ∷ args.List 2 ∷ args.Number (pos 9) ∷ []) ∷
            [];
      } ∷
      record {
        name = codes "two";
        kind = kinds.Task;
        labels = [];
        stmts =
            stmts.Call names.TkWaiSem (args.Number (pos 1) ∷ args.Number (pos 1) ∷ args.Number (pos 2) ∷ []) ∷
            stmts.Call names.TkWaiFlg (args.Number (pos 1) ∷ args.Number (pos 3) ∷ args.List 1 ∷ args.Number (pos 1) ∷ []) ∷
            stmts.Call names.TkSetFlg (args.Number (pos 1) ∷ args.Number (pos 2) ∷ []) ∷
            [];
      } ∷
      [];
}

limited_waits_entries : List Entry
limited_waits_entries = []

limited_waits_lines : List ℕ
limited_waits_lines =
    codes "0 D 1\n" ++
    codes "1 C 1 tk_cre_sem 1\n" ++
    codes "2 C 1 tk_cre_flg 1\n" ++
    codes "3 C 1 tk_cre_tsk 2\n" ++
    codes "4 C 1 tk_cre_tsk 3\n" ++
    codes "5 C 1 tk_sta_tsk 0\n" ++
    codes "5 D 2\n" ++
    codes "6 B 2 tk_wai_sem\n" ++
    codes "6 D 1\n" ++
    codes "7 C 1 tk_sta_tsk 0\n" ++
    codes "7 D 3\n" ++
    codes "8 B 3 tk_wai_sem\n" ++
    codes "8 D 1\n" ++
    codes "9 C 1 tk_ext_tsk 0\n" ++
    codes "9 D 0\n" ++
    codes "10 K 1\n" ++
    codes "11 K 2\n" ++
    codes "12 K 3\n" ++
    codes "12 W 2 tk_wai_sem E_TMOUT\n" ++
    codes "12 W 3 tk_wai_sem 0\n" ++
    codes "12 D 2\n" ++
    codes "13 B 2 tk_wai_flg\n" ++
    codes "13 D 3\n" ++
    codes "14 B 3 tk_wai_flg\n" ++
    codes "14 D 0\n" ++
    codes "15 K 4\n" ++
    codes "16 K 5\n" ++
    codes "16 W 2 tk_wai_flg E_TMOUT\n" ++
    codes "16 W 3 tk_wai_flg E_TMOUT\n" ++
    codes "16 D 2\n" ++
    codes "17 B 2 tk_wai_flg\n" ++
    codes "17 D 3\n" ++
    codes "18 C 3 tk_set_flg 0\n" ++
    codes "18 W 2 tk_wai_flg 0 3\n" ++
    codes "18 D 2\n" ++
    codes "19 C 2 tk_ext_tsk 0\n" ++
    codes "19 D 3\n" ++
    codes "20 C 3 tk_ext_tsk 0\n" ++
    codes "20 D 0\n" ++
    codes "20 END idle\n" ++
    []

limited_waits_run : text_of_lines (lines_of (trace limited_waits_script modes.Free 100000 limited_waits_entries)) ≡ limited_waits_lines
unfolding limited_waits_script limited_waits_entries limited_waits_lines text_of form_of named made task_call_name sem_flag_call_name mutex_call_name mail_call_name pool_call_name time_call_name context_call_name device_call_name hook_call_name name_of code_of error_text coded error_named attributes_of flag_mode_of open_mode_of suspend_mode_of is_name_byte name_at_most why_text value_text words_of text_of_line text_of_lines fetch give call_before create_sem create_flag end_first delete_sem delete_flag refer_sem refer_flag signal_sem set_flag clear_flag wait_sem wait_flag sem_flag_call serve_sem serve_flag first_served serve_sem_flag sem_trial flag_trial chosen free_task create_task delete_task start_task exit_task terminate_task change_priority rotate_ready get_task refer_task sleep delay wake_up cancel_wakeups release_wait suspend_task resume_task task_call mark_of allowed free_from first_serving serve_box serve_mailboxes serve_buffer serve_buffers post create_box delete_box send_box receive_box refer_box create_buffer delete_buffer send_buffer receive_buffer refer_buffer mail_call create_mutex lock_mutex unlock_mutex refer_mutex delete_mutex mutex_call change_priority_beside task_call_beside chain_has current_of resettle free_last ceiling_allows serve_mutex serve_mutexes create_fixed delete_fixed get_fixed release_fixed refer_fixed create_variable delete_variable get_variable release_variable refer_variable pool_call first_free serve_fixed serve_fixed_pools serve_variable serve_variable_pools set_time get_time get_operating_time create_cyclic start_cyclic stop_cyclic delete_cyclic refer_cyclic create_alarm start_alarm stop_alarm delete_alarm refer_alarm time_call body_of next_due again define_handler disable_dispatch enable_dispatch disable_interrupts enable_interrupts refer_system define_service refer_service enter_service context_call left list_existing list_ready list_queue set_hook hook_call open_device refer_device request request_whole wait_ending close_device suspend_devices device_call expected arrive hand_over hand_first messages emptied read_bytes write_bytes accept picked serve_acceptance serve_acceptances serve_ending serve_endings is_with_driver serve_close serve_closes serve_suspension events_sent free_descriptor free_request first_queued at_driver accepted dropped handed asked devices_start block is_last blocks unit cut may_cut arrived entered returned body_returned family_call answered called follow_release follow_each with_releases dispatched followed insert_once with_requests handler_begun due_begun interrupt_begun served_within settle freed_within fallen due_done tick state_after worked counted step sync_runs sync_run entered_2 runs start trace acted ran turn_of done_turn first_serving_2 serve_object state_start digits
limited_waits_run = refl

-- The time-out of a semaphore's first waiter lets the next one be served, in the same tick.
next_after_time_out_script : Script
next_after_time_out_script = record {
  devices = [];
  pace = None;
  irqs = [];
  boot = record { body = 1; priority = 10 };
  bodies =
      record {
        name = codes "main";
        kind = kinds.Task;
        labels = [];
        stmts =
            stmts.Call names.TkCreSem (args.List 0 ∷ args.Number (pos 2) ∷ args.Number (pos 9) ∷ []) ∷
            stmts.Call names.TkCreTsk (args.List 0 ∷ args.Body 2 ∷ args.Number (pos 5) ∷ args.Number (pos 512) ∷ []) ∷
            stmts.Call names.TkCreTsk (args.List 0 ∷ args.Body 3 ∷ args.Number (pos 5) ∷ args.Number (pos 512) ∷ []) ∷
            stmts.Call names.TkStaTsk (args.Number (pos 2) ∷ args.Number (pos 0) ∷ []) ∷
            stmts.Call names.TkStaTsk (args.Number (pos 3) ∷ args.Number (pos 0) ∷ []) ∷
            stmts.Call names.TkExtTsk ([]) ∷
            [];
      } ∷
      record {
        name = codes "one";
        kind = kinds.Task;
        labels = [];
        stmts =
            stmts.Call names.TkWaiSem (args.Number (pos 1) ∷ args.Number (pos 3) ∷ args.Number (pos 2) ∷ []) ∷
            [];
      } ∷
      record {
        name = codes "two";
        kind = kinds.Task;
        labels = [];
        stmts =
            stmts.Call names.TkWaiSem (args.Number (pos 1) ∷ args.Number (pos 1) ∷ args.Number (negsuc 0) ∷ []) ∷
            [];
      } ∷
      [];
}

next_after_time_out_entries : List Entry
next_after_time_out_entries = []

next_after_time_out_lines : List ℕ
next_after_time_out_lines =
    codes "0 D 1\n" ++
    codes "1 C 1 tk_cre_sem 1\n" ++
    codes "2 C 1 tk_cre_tsk 2\n" ++
    codes "3 C 1 tk_cre_tsk 3\n" ++
    codes "4 C 1 tk_sta_tsk 0\n" ++
    codes "4 D 2\n" ++
    codes "5 B 2 tk_wai_sem\n" ++
    codes "5 D 1\n" ++
    codes "6 C 1 tk_sta_tsk 0\n" ++
    codes "6 D 3\n" ++
    codes "7 B 3 tk_wai_sem\n" ++
    codes "7 D 1\n" ++
    codes "8 C 1 tk_ext_tsk 0\n" ++
    codes "8 D 0\n" ++
    codes "9 K 1\n" ++
    codes "10 K 2\n" ++
    codes "11 K 3\n" ++
    codes "11 W 2 tk_wai_sem E_TMOUT\n" ++
    codes "11 W 3 tk_wai_sem 0\n" ++
    codes "11 D 2\n" ++
    codes "12 C 2 tk_ext_tsk 0\n" ++
    codes "12 D 3\n" ++
    codes "13 C 3 tk_ext_tsk 0\n" ++
    codes "13 D 0\n" ++
    codes "13 END idle\n" ++
    []

next_after_time_out_run : text_of_lines (lines_of (trace next_after_time_out_script modes.Free 100000 next_after_time_out_entries)) ≡ next_after_time_out_lines
unfolding next_after_time_out_script next_after_time_out_entries next_after_time_out_lines text_of form_of named made task_call_name sem_flag_call_name mutex_call_name mail_call_name pool_call_name time_call_name context_call_name device_call_name hook_call_name name_of code_of error_text coded error_named attributes_of flag_mode_of open_mode_of suspend_mode_of is_name_byte name_at_most why_text value_text words_of text_of_line text_of_lines fetch give call_before create_sem create_flag end_first delete_sem delete_flag refer_sem refer_flag signal_sem set_flag clear_flag wait_sem wait_flag sem_flag_call serve_sem serve_flag first_served serve_sem_flag sem_trial flag_trial chosen free_task create_task delete_task start_task exit_task terminate_task change_priority rotate_ready get_task refer_task sleep delay wake_up cancel_wakeups release_wait suspend_task resume_task task_call mark_of allowed free_from first_serving serve_box serve_mailboxes serve_buffer serve_buffers post create_box delete_box send_box receive_box refer_box create_buffer delete_buffer send_buffer receive_buffer refer_buffer mail_call create_mutex lock_mutex unlock_mutex refer_mutex delete_mutex mutex_call change_priority_beside task_call_beside chain_has current_of resettle free_last ceiling_allows serve_mutex serve_mutexes create_fixed delete_fixed get_fixed release_fixed refer_fixed create_variable delete_variable get_variable release_variable refer_variable pool_call first_free serve_fixed serve_fixed_pools serve_variable serve_variable_pools set_time get_time get_operating_time create_cyclic start_cyclic stop_cyclic delete_cyclic refer_cyclic create_alarm start_alarm stop_alarm delete_alarm refer_alarm time_call body_of next_due again define_handler disable_dispatch enable_dispatch disable_interrupts enable_interrupts refer_system define_service refer_service enter_service context_call left list_existing list_ready list_queue set_hook hook_call open_device refer_device request request_whole wait_ending close_device suspend_devices device_call expected arrive hand_over hand_first messages emptied read_bytes write_bytes accept picked serve_acceptance serve_acceptances serve_ending serve_endings is_with_driver serve_close serve_closes serve_suspension events_sent free_descriptor free_request first_queued at_driver accepted dropped handed asked devices_start block is_last blocks unit cut may_cut arrived entered returned body_returned family_call answered called follow_release follow_each with_releases dispatched followed insert_once with_requests handler_begun due_begun interrupt_begun served_within settle freed_within fallen due_done tick state_after worked counted step sync_runs sync_run entered_2 runs start trace acted ran turn_of done_turn first_serving_2 serve_object state_start digits
next_after_time_out_run = refl

-- Calls on event flags are refused by the first check that fails; patterns have 32 bits and are shown as signed numbers; a flag for one waiter refuses a second one, also one whose bits are there.
refused_on_flags_script : Script
refused_on_flags_script = record {
  devices = [];
  pace = None;
  irqs = [];
  boot = record { body = 1; priority = 10 };
  bodies =
      record {
        name = codes "main";
        kind = kinds.Task;
        labels = [];
        stmts =
            stmts.Call names.TkCreFlg (args.List 512 ∷ args.Number (pos 0) ∷ []) ∷
            stmts.Call names.TkCreFlg (args.List 3072 ∷ args.Number (pos 0) ∷ []) ∷
            stmts.Call names.TkCreFlg (args.List 192 ∷ args.Number (pos 0) ∷ []) ∷
            stmts.Call names.TkSetFlg (args.Number (pos 0) ∷ args.Number (pos 1) ∷ []) ∷
            stmts.Call names.TkSetFlg (args.Number (pos 1) ∷ args.Number (pos 1) ∷ []) ∷
            stmts.Call names.TkClrFlg (args.Number (pos 65) ∷ args.Number (pos 0) ∷ []) ∷
            stmts.Call names.TkClrFlg (args.Number (pos 64) ∷ args.Number (pos 0) ∷ []) ∷
            stmts.Call names.TkWaiFlg (args.Number (pos 0) ∷ args.Number (pos 0) ∷ args.List 0 ∷ args.Number (negsuc 1) ∷ []) ∷
            stmts.Call names.TkWaiFlg (args.Number (pos 1) ∷ args.Number (pos 0) ∷ args.List 1 ∷ args.Number (negsuc 0) ∷ []) ∷
            stmts.Call names.TkWaiFlg (args.Number (pos 1) ∷ args.Number (pos 1) ∷ args.List 0 ∷ args.Number (negsuc 0) ∷ []) ∷
            stmts.Call names.TkWaiFlg (args.Number (pos 1) ∷ args.Number (pos 1) ∷ args.List 3 ∷ args.Number (negsuc 0) ∷ []) ∷
            stmts.Call names.TkWaiFlg (args.Number (pos 1) ∷ args.Number (pos 1) ∷ args.List 14 ∷ args.Number (negsuc 0) ∷ []) ∷
            stmts.Call names.TkWaiFlg (args.Number (pos 1) ∷ args.Number (pos 1) ∷ args.List 1 ∷ args.Number (negsuc 1) ∷ []) ∷
            stmts.Call names.TkWaiFlg (args.Number (pos 1) ∷ args.Number (pos 1) ∷ args.List 1 ∷ args.Number (negsuc 0) ∷ []) ∷
            stmts.Call names.TkRefFlg (args.Number (pos 65) ∷ []) ∷
            stmts.Call names.TkRefFlg (args.Number (pos 64) ∷ []) ∷
            stmts.Call names.TkDelFlg (args.Number (negsuc 0) ∷ []) ∷
            stmts.Call names.TkDelFlg (args.Number (pos 1) ∷ []) ∷
            stmts.Call names.TkCreFlg (args.List 1024 ∷ args.Number (negsuc 0) ∷ []) ∷
            stmts.Call names.TkRefFlg (args.Number (pos 1) ∷ []) ∷
            stmts.Call names.TkClrFlg (args.Number (pos 1) ∷ args.Number (negsuc 2147483647) ∷ []) ∷
            stmts.Call names.TkRefFlg (args.Number (pos 1) ∷ []) ∷
            stmts.Call names.TkWaiFlg (args.Number (pos 1) ∷ args.Number (negsuc 0) ∷ args.List 1 ∷ args.Number (pos 0) ∷ []) ∷
            stmts.Call names.TkWaiFlg (args.Number (pos 1) ∷ args.Number (negsuc 0) ∷ args.List 10 ∷ args.Number (pos 0) ∷ []) ∷
            stmts.Call names.TkRefFlg (args.Number (pos 1) ∷ []) ∷
            stmts.Call names.TkSetFlg (args.Number (pos 1) ∷ args.Number (negsuc 2147483647) ∷ []) ∷
            stmts.Call names.TkWaiFlg (args.Number (pos 1) ∷ args.Number (negsuc 2147483647) ∷ args.List 5 ∷ args.Number (negsuc 0) ∷ []) ∷
            stmts.Call names.TkRefFlg (args.Number (pos 1) ∷ []) ∷
            stmts.Call names.TkCreTsk (args.List 0 ∷ args.Body 2 ∷ args.Number (pos 5) ∷ args.Number (pos 512) ∷ []) ∷
            stmts.Call names.TkStaTsk (args.Number (pos 2) ∷ args.Number (pos 0) ∷ []) ∷
            stmts.Call names.TkWaiFlg (args.Number (pos 1) ∷ args.Number (pos 1) ∷ args.List 2 ∷ args.Number (pos 0) ∷ []) ∷
            stmts.Call names.TkSetFlg (args.Number (pos 1) ∷ args.Number (pos 6) ∷ []) ∷
            stmts.Call names.TkWaiFlg (args.Number (pos 1) ∷ args.Number (pos 6) ∷ args.List 1 ∷ args.Number (negsuc 0) ∷ []) ∷
            stmts.Call names.TkSetFlg (args.Number (pos 1) ∷ args.Number (pos 1) ∷ []) ∷
            stmts.Call names.TkWaiFlg (args.Number (pos 1) ∷ args.Number (pos 6) ∷ args.List 1 ∷ args.Number (negsuc 0) ∷ []) ∷
            stmts.Call names.TkDelFlg (args.Number (pos 1) ∷ []) ∷
            stmts.Call names.TkSetFlg (args.Number (pos 1) ∷ args.Number (pos 1) ∷ []) ∷
            [];
      } ∷
      record {
        name = codes "one";
        kind = kinds.Task;
        labels = [];
        stmts =
            stmts.Call names.TkWaiFlg (args.Number (pos 1) ∷ args.Number (pos 1) ∷ args.List 1 ∷ args.Number (negsuc 0) ∷ []) ∷
            stmts.Show (operands.Register 1) ∷
            [];
      } ∷
      [];
}

refused_on_flags_entries : List Entry
refused_on_flags_entries = []

refused_on_flags_lines : List ℕ
refused_on_flags_lines =
    codes "0 D 1\n" ++
    codes "1 C 1 tk_cre_flg E_RSATR\n" ++
    codes "2 C 1 tk_cre_flg E_RSATR\n" ++
    codes "3 C 1 tk_cre_flg E_RSATR\n" ++
    codes "4 C 1 tk_set_flg E_ID\n" ++
    codes "5 C 1 tk_set_flg E_NOEXS\n" ++
    codes "6 C 1 tk_clr_flg E_ID\n" ++
    codes "7 C 1 tk_clr_flg E_NOEXS\n" ++
    codes "8 C 1 tk_wai_flg E_ID\n" ++
    codes "9 C 1 tk_wai_flg E_PAR\n" ++
    codes "10 C 1 tk_wai_flg E_PAR\n" ++
    codes "11 C 1 tk_wai_flg E_PAR\n" ++
    codes "12 C 1 tk_wai_flg E_PAR\n" ++
    codes "13 C 1 tk_wai_flg E_PAR\n" ++
    codes "14 C 1 tk_wai_flg E_NOEXS\n" ++
    codes "15 C 1 tk_ref_flg E_ID\n" ++
    codes "16 C 1 tk_ref_flg E_NOEXS\n" ++
    codes "17 C 1 tk_del_flg E_ID\n" ++
    codes "18 C 1 tk_del_flg E_NOEXS\n" ++
    codes "19 C 1 tk_cre_flg 1\n" ++
    codes "20 C 1 tk_ref_flg 0 -1 0\n" ++
    codes "21 C 1 tk_clr_flg 0\n" ++
    codes "22 C 1 tk_ref_flg 0 -2147483648 0\n" ++
    codes "23 C 1 tk_wai_flg E_TMOUT\n" ++
    codes "24 C 1 tk_wai_flg 0 -2147483648\n" ++
    codes "25 C 1 tk_ref_flg 0 0 0\n" ++
    codes "26 C 1 tk_set_flg 0\n" ++
    codes "27 C 1 tk_wai_flg 0 -2147483648\n" ++
    codes "28 C 1 tk_ref_flg 0 0 0\n" ++
    codes "29 C 1 tk_cre_tsk 2\n" ++
    codes "30 C 1 tk_sta_tsk 0\n" ++
    codes "30 D 2\n" ++
    codes "31 B 2 tk_wai_flg\n" ++
    codes "31 D 1\n" ++
    codes "32 C 1 tk_wai_flg E_OBJ\n" ++
    codes "33 C 1 tk_set_flg 0\n" ++
    codes "34 C 1 tk_wai_flg E_OBJ\n" ++
    codes "35 C 1 tk_set_flg 0\n" ++
    codes "35 W 2 tk_wai_flg 0 7\n" ++
    codes "35 D 2\n" ++
    codes "36 S 2 7\n" ++
    codes "37 C 2 tk_ext_tsk 0\n" ++
    codes "37 D 1\n" ++
    codes "38 C 1 tk_wai_flg 0 7\n" ++
    codes "39 C 1 tk_del_flg 0\n" ++
    codes "40 C 1 tk_set_flg E_NOEXS\n" ++
    codes "41 C 1 tk_ext_tsk 0\n" ++
    codes "41 D 0\n" ++
    codes "41 END idle\n" ++
    []

refused_on_flags_run : text_of_lines (lines_of (trace refused_on_flags_script modes.Free 100000 refused_on_flags_entries)) ≡ refused_on_flags_lines
unfolding refused_on_flags_script refused_on_flags_entries refused_on_flags_lines text_of form_of named made task_call_name sem_flag_call_name mutex_call_name mail_call_name pool_call_name time_call_name context_call_name device_call_name hook_call_name name_of code_of error_text coded error_named attributes_of flag_mode_of open_mode_of suspend_mode_of is_name_byte name_at_most why_text value_text words_of text_of_line text_of_lines fetch give call_before create_sem create_flag end_first delete_sem delete_flag refer_sem refer_flag signal_sem set_flag clear_flag wait_sem wait_flag sem_flag_call serve_sem serve_flag first_served serve_sem_flag sem_trial flag_trial chosen free_task create_task delete_task start_task exit_task terminate_task change_priority rotate_ready get_task refer_task sleep delay wake_up cancel_wakeups release_wait suspend_task resume_task task_call mark_of allowed free_from first_serving serve_box serve_mailboxes serve_buffer serve_buffers post create_box delete_box send_box receive_box refer_box create_buffer delete_buffer send_buffer receive_buffer refer_buffer mail_call create_mutex lock_mutex unlock_mutex refer_mutex delete_mutex mutex_call change_priority_beside task_call_beside chain_has current_of resettle free_last ceiling_allows serve_mutex serve_mutexes create_fixed delete_fixed get_fixed release_fixed refer_fixed create_variable delete_variable get_variable release_variable refer_variable pool_call first_free serve_fixed serve_fixed_pools serve_variable serve_variable_pools set_time get_time get_operating_time create_cyclic start_cyclic stop_cyclic delete_cyclic refer_cyclic create_alarm start_alarm stop_alarm delete_alarm refer_alarm time_call body_of next_due again define_handler disable_dispatch enable_dispatch disable_interrupts enable_interrupts refer_system define_service refer_service enter_service context_call left list_existing list_ready list_queue set_hook hook_call open_device refer_device request request_whole wait_ending close_device suspend_devices device_call expected arrive hand_over hand_first messages emptied read_bytes write_bytes accept picked serve_acceptance serve_acceptances serve_ending serve_endings is_with_driver serve_close serve_closes serve_suspension events_sent free_descriptor free_request first_queued at_driver accepted dropped handed asked devices_start block is_last blocks unit cut may_cut arrived entered returned body_returned family_call answered called follow_release follow_each with_releases dispatched followed insert_once with_requests handler_begun due_begun interrupt_begun served_within settle freed_within fallen due_done tick state_after worked counted step sync_runs sync_run entered_2 runs start trace acted ran turn_of done_turn first_serving_2 serve_object state_start digits
refused_on_flags_run = refl

-- Calls on semaphores are refused by the first check that fails; counts go up to 65,535, and a signal that would pass the most is refused also where a waiter would take it.
refused_on_semaphores_script : Script
refused_on_semaphores_script = record {
  devices = [];
  pace = None;
  irqs = [];
  boot = record { body = 1; priority = 10 };
  bodies =
      record {
        name = codes "main";
        kind = kinds.Task;
        labels = [];
        stmts =
            stmts.Call names.TkCreSem (args.List 2048 ∷ args.Number (negsuc 0) ∷ args.Number (pos 0) ∷ []) ∷
            stmts.Call names.TkCreSem (args.List 192 ∷ args.Number (pos 0) ∷ args.Number (pos 1) ∷ []) ∷
            stmts.Call names.TkCreSem (args.List 768 ∷ args.Number (pos 0) ∷ args.Number (pos 1) ∷ []) ∷
            stmts.Call names.TkCreSem (args.List 4096 ∷ args.Number (pos 0) ∷ args.Number (pos 1) ∷ []) ∷
            stmts.Call names.TkCreSem (args.List 0 ∷ args.Number (pos 0) ∷ args.Number (pos 0) ∷ []) ∷
            stmts.Call names.TkCreSem (args.List 0 ∷ args.Number (pos 0) ∷ args.Number (pos 65536) ∷ []) ∷
            stmts.Call names.TkCreSem (args.List 0 ∷ args.Number (negsuc 0) ∷ args.Number (pos 1) ∷ []) ∷
            stmts.Call names.TkCreSem (args.List 0 ∷ args.Number (pos 2) ∷ args.Number (pos 1) ∷ []) ∷
            stmts.Call names.TkCreSem (args.List 0 ∷ args.Number (pos 65536) ∷ args.Number (pos 65535) ∷ []) ∷
            stmts.Call names.TkSigSem (args.Number (pos 0) ∷ args.Number (pos 0) ∷ []) ∷
            stmts.Call names.TkSigSem (args.Number (pos 65) ∷ args.Number (pos 0) ∷ []) ∷
            stmts.Call names.TkSigSem (args.Number (negsuc 0) ∷ args.Number (pos 1) ∷ []) ∷
            stmts.Call names.TkSigSem (args.Number (pos 1) ∷ args.Number (pos 0) ∷ []) ∷
            stmts.Call names.TkSigSem (args.Number (pos 1) ∷ args.Number (pos 65536) ∷ []) ∷
            stmts.Call names.TkWaiSem (args.Number (pos 0) ∷ args.Number (pos 0) ∷ args.Number (negsuc 1) ∷ []) ∷
            stmts.Call names.TkWaiSem (args.Number (pos 65) ∷ args.Number (pos 1) ∷ args.Number (negsuc 0) ∷ []) ∷
            stmts.Call names.TkWaiSem (args.Number (pos 1) ∷ args.Number (pos 0) ∷ args.Number (negsuc 0) ∷ []) ∷
            stmts.Call names.TkWaiSem (args.Number (pos 1) ∷ args.Number (pos 1) ∷ args.Number (negsuc 1) ∷ []) ∷
            stmts.Call names.TkWaiSem (args.Number (pos 1) ∷ args.Number (pos 65536) ∷ args.Number (negsuc 0) ∷ []) ∷
            stmts.Call names.TkRefSem (args.Number (pos 65) ∷ []) ∷
            stmts.Call names.TkRefSem (args.Number (pos 64) ∷ []) ∷
            stmts.Call names.TkDelSem (args.Number (pos 0) ∷ []) ∷
            stmts.Call names.TkDelSem (args.Number (pos 64) ∷ []) ∷
            stmts.Call names.TkCreSem (args.List 354 ∷ args.Number (pos 65534) ∷ args.Number (pos 65535) ∷ []) ∷
            stmts.Call names.TkWaiSem (args.Number (pos 1) ∷ args.Number (pos 65536) ∷ args.Number (negsuc 0) ∷ []) ∷
            stmts.Call names.TkSigSem (args.Number (pos 1) ∷ args.Number (pos 2) ∷ []) ∷
            stmts.Call names.TkSigSem (args.Number (pos 1) ∷ args.Number (pos 65536) ∷ []) ∷
            stmts.Call names.TkSigSem (args.Number (pos 1) ∷ args.Number (pos 1) ∷ []) ∷
            stmts.Call names.TkRefSem (args.Number (pos 1) ∷ []) ∷
            stmts.Call names.TkSigSem (args.Number (pos 1) ∷ args.Number (pos 1) ∷ []) ∷
            stmts.Call names.TkWaiSem (args.Number (pos 1) ∷ args.Number (pos 65535) ∷ args.Number (pos 0) ∷ []) ∷
            stmts.Call names.TkRefSem (args.Number (pos 1) ∷ []) ∷
            stmts.Call names.TkWaiSem (args.Number (pos 1) ∷ args.Number (pos 1) ∷ args.Number (pos 0) ∷ []) ∷
            stmts.Call names.TkSigSem (args.Number (pos 1) ∷ args.Number (pos 65535) ∷ []) ∷
            stmts.Call names.TkSigSem (args.Number (pos 1) ∷ args.Number (pos 2147483647) ∷ []) ∷
            stmts.Call names.TkWaiSem (args.Number (pos 1) ∷ args.Number (pos 1) ∷ args.Number (negsuc 0) ∷ []) ∷
            stmts.Call names.TkCreTsk (args.List 0 ∷ args.Body 2 ∷ args.Number (pos 5) ∷ args.Number (pos 512) ∷ []) ∷
            stmts.Call names.TkStaTsk (args.Number (pos 2) ∷ args.Number (pos 0) ∷ []) ∷
            stmts.Call names.TkSigSem (args.Number (pos 1) ∷ args.Number (pos 2) ∷ []) ∷
            stmts.Call names.TkSigSem (args.Number (pos 1) ∷ args.Number (pos 1) ∷ []) ∷
            stmts.Call names.TkRefSem (args.Number (pos 1) ∷ []) ∷
            [];
      } ∷
      record {
        name = codes "all";
        kind = kinds.Task;
        labels = [];
        stmts =
            stmts.Call names.TkWaiSem (args.Number (pos 1) ∷ args.Number (pos 65535) ∷ args.Number (negsuc 0) ∷ []) ∷
            [];
      } ∷
      [];
}

refused_on_semaphores_entries : List Entry
refused_on_semaphores_entries = []

refused_on_semaphores_lines : List ℕ
refused_on_semaphores_lines =
    codes "0 D 1\n" ++
    codes "1 C 1 tk_cre_sem E_RSATR\n" ++
    codes "2 C 1 tk_cre_sem E_RSATR\n" ++
    codes "3 C 1 tk_cre_sem E_RSATR\n" ++
    codes "4 C 1 tk_cre_sem E_RSATR\n" ++
    codes "5 C 1 tk_cre_sem E_PAR\n" ++
    codes "6 C 1 tk_cre_sem E_PAR\n" ++
    codes "7 C 1 tk_cre_sem E_PAR\n" ++
    codes "8 C 1 tk_cre_sem E_PAR\n" ++
    codes "9 C 1 tk_cre_sem E_PAR\n" ++
    codes "10 C 1 tk_sig_sem E_ID\n" ++
    codes "11 C 1 tk_sig_sem E_ID\n" ++
    codes "12 C 1 tk_sig_sem E_ID\n" ++
    codes "13 C 1 tk_sig_sem E_PAR\n" ++
    codes "14 C 1 tk_sig_sem E_NOEXS\n" ++
    codes "15 C 1 tk_wai_sem E_ID\n" ++
    codes "16 C 1 tk_wai_sem E_ID\n" ++
    codes "17 C 1 tk_wai_sem E_PAR\n" ++
    codes "18 C 1 tk_wai_sem E_PAR\n" ++
    codes "19 C 1 tk_wai_sem E_NOEXS\n" ++
    codes "20 C 1 tk_ref_sem E_ID\n" ++
    codes "21 C 1 tk_ref_sem E_NOEXS\n" ++
    codes "22 C 1 tk_del_sem E_ID\n" ++
    codes "23 C 1 tk_del_sem E_NOEXS\n" ++
    codes "24 C 1 tk_cre_sem 1\n" ++
    codes "25 C 1 tk_wai_sem E_PAR\n" ++
    codes "26 C 1 tk_sig_sem E_QOVR\n" ++
    codes "27 C 1 tk_sig_sem E_QOVR\n" ++
    codes "28 C 1 tk_sig_sem 0\n" ++
    codes "29 C 1 tk_ref_sem 0 65535 0\n" ++
    codes "30 C 1 tk_sig_sem E_QOVR\n" ++
    codes "31 C 1 tk_wai_sem 0\n" ++
    codes "32 C 1 tk_ref_sem 0 0 0\n" ++
    codes "33 C 1 tk_wai_sem E_TMOUT\n" ++
    codes "34 C 1 tk_sig_sem 0\n" ++
    codes "35 C 1 tk_sig_sem E_QOVR\n" ++
    codes "36 C 1 tk_wai_sem 0\n" ++
    codes "37 C 1 tk_cre_tsk 2\n" ++
    codes "38 C 1 tk_sta_tsk 0\n" ++
    codes "38 D 2\n" ++
    codes "39 B 2 tk_wai_sem\n" ++
    codes "39 D 1\n" ++
    codes "40 C 1 tk_sig_sem E_QOVR\n" ++
    codes "41 C 1 tk_sig_sem 0\n" ++
    codes "41 W 2 tk_wai_sem 0\n" ++
    codes "41 D 2\n" ++
    codes "42 C 2 tk_ext_tsk 0\n" ++
    codes "42 D 1\n" ++
    codes "43 C 1 tk_ref_sem 0 0 0\n" ++
    codes "44 C 1 tk_ext_tsk 0\n" ++
    codes "44 D 0\n" ++
    codes "44 END idle\n" ++
    []

refused_on_semaphores_run : text_of_lines (lines_of (trace refused_on_semaphores_script modes.Free 100000 refused_on_semaphores_entries)) ≡ refused_on_semaphores_lines
unfolding refused_on_semaphores_script refused_on_semaphores_entries refused_on_semaphores_lines text_of form_of named made task_call_name sem_flag_call_name mutex_call_name mail_call_name pool_call_name time_call_name context_call_name device_call_name hook_call_name name_of code_of error_text coded error_named attributes_of flag_mode_of open_mode_of suspend_mode_of is_name_byte name_at_most why_text value_text words_of text_of_line text_of_lines fetch give call_before create_sem create_flag end_first delete_sem delete_flag refer_sem refer_flag signal_sem set_flag clear_flag wait_sem wait_flag sem_flag_call serve_sem serve_flag first_served serve_sem_flag sem_trial flag_trial chosen free_task create_task delete_task start_task exit_task terminate_task change_priority rotate_ready get_task refer_task sleep delay wake_up cancel_wakeups release_wait suspend_task resume_task task_call mark_of allowed free_from first_serving serve_box serve_mailboxes serve_buffer serve_buffers post create_box delete_box send_box receive_box refer_box create_buffer delete_buffer send_buffer receive_buffer refer_buffer mail_call create_mutex lock_mutex unlock_mutex refer_mutex delete_mutex mutex_call change_priority_beside task_call_beside chain_has current_of resettle free_last ceiling_allows serve_mutex serve_mutexes create_fixed delete_fixed get_fixed release_fixed refer_fixed create_variable delete_variable get_variable release_variable refer_variable pool_call first_free serve_fixed serve_fixed_pools serve_variable serve_variable_pools set_time get_time get_operating_time create_cyclic start_cyclic stop_cyclic delete_cyclic refer_cyclic create_alarm start_alarm stop_alarm delete_alarm refer_alarm time_call body_of next_due again define_handler disable_dispatch enable_dispatch disable_interrupts enable_interrupts refer_system define_service refer_service enter_service context_call left list_existing list_ready list_queue set_hook hook_call open_device refer_device request request_whole wait_ending close_device suspend_devices device_call expected arrive hand_over hand_first messages emptied read_bytes write_bytes accept picked serve_acceptance serve_acceptances serve_ending serve_endings is_with_driver serve_close serve_closes serve_suspension events_sent free_descriptor free_request first_queued at_driver accepted dropped handed asked devices_start block is_last blocks unit cut may_cut arrived entered returned body_returned family_call answered called follow_release follow_each with_releases dispatched followed insert_once with_requests handler_begun due_begun interrupt_begun served_within settle freed_within fallen due_done tick state_after worked counted step sync_runs sync_run entered_2 runs start trace acted ran turn_of done_turn first_serving_2 serve_object state_start digits
refused_on_semaphores_run = refl
