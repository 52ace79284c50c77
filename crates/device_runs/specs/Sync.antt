-- Runs that were worked out by hand from the rules, as runs/device/sync has them: each a theorem by computation.
use Rattle.std.specs.Prelude.{ℕ, pos, negsuc, List, [], ◌∷◌, ◌++◌, Some, None, codes, ◌≡◌, refl}
use Rattle.std.specs.Fmt.{digits}
use Rattle.tk_types.specs.declared.script.Script.{Script}
use Rattle.tk_types.specs.declared.script.BodyKind.TheVariants as kinds
use Rattle.tk_types.specs.declared.script.Kind.TheVariants as devices
use Rattle.tk_types.specs.declared.script.Stmt.TheVariants as stmts
use Rattle.tk_types.specs.declared.script.Operand.TheVariants as operands
use Rattle.tk_types.specs.declared.script.Operation.TheVariants as operations
use Rattle.tk_types.specs.declared.script.Condition.TheVariants as conditions
use Rattle.tk_types.specs.declared.script.Arg.TheVariants as args
use Rattle.tk_types.specs.declared.call_name.CallName.TheVariants as names
use Rattle.tk_types.specs.declared.line.Entry.{Entry}
use Rattle.tk_types.specs.declared.line.How.TheVariants as hows
use Rattle.tk_types.specs.declared.run.Mode.TheVariants as modes
use Rattle.tk_types.specs.CallNames.{text_of, form_of, named}
use Rattle.tk_types.specs.Calls.{made, task_call_name, sem_flag_call_name, mutex_call_name, mail_call_name, pool_call_name, time_call_name, context_call_name, device_call_name, hook_call_name, name_of}
use Rattle.tk_types.specs.Codes.{code_of, error_text, coded, error_named}
use Rattle.tk_types.specs.Modes.{attributes_of, flag_mode_of, open_mode_of, suspend_mode_of}
use Rattle.tk_types.specs.Names.{is_name_byte, name_at_most}
use Rattle.tk_types.specs.Reasons.{why_text}
use Rattle.tk_model.specs.LineText.{value_text, words_of, text_of_line, text_of_lines}
use Rattle.kernel_model.specs.Bodies.Statements.{fetch, give, call_before}
use Rattle.kernel_model.specs.SemFlags.Calls.{create_sem, create_flag, end_first, delete_sem, delete_flag, refer_sem, refer_flag, signal_sem, set_flag, clear_flag, wait_sem, wait_flag, sem_flag_call}
use Rattle.kernel_model.specs.SemFlags.Tables.{serve_sem, serve_flag, first_served, serve_sem_flag}
use Rattle.kernel_model.specs.SemFlags.Trial.{sem_trial, flag_trial}
use Rattle.kernel_model.specs.Tasks.Base.{chosen, free_task}
use Rattle.kernel_model.specs.Tasks.Calls.{create_task, delete_task, start_task, exit_task, terminate_task, change_priority, rotate_ready, get_task, refer_task, sleep, delay, wake_up, cancel_wakeups, release_wait, suspend_task, resume_task, task_call}
use Rattle.kernel_model.specs.Tasks.Marks.{mark_of, allowed}
use Rattle.kernel_model.specs.Words.Orders.{free_from}
use Rattle.object_model.specs.Servings.{first_serving}
use Rattle.object_model.specs.Mails.Boxes.{serve_box, serve_mailboxes}
use Rattle.object_model.specs.Mails.Buffers.{serve_buffer, serve_buffers, post}
use Rattle.object_model.specs.Mails.Calls.{create_box, delete_box, send_box, receive_box, refer_box, create_buffer, delete_buffer, send_buffer, receive_buffer, refer_buffer, mail_call}
use Rattle.object_model.specs.Mutexes.Calls.{create_mutex, lock_mutex, unlock_mutex, refer_mutex, delete_mutex, mutex_call, change_priority_beside, task_call_beside}
use Rattle.object_model.specs.Mutexes.Priority.{chain_has, current_of, resettle}
use Rattle.object_model.specs.Mutexes.Tables.{free_last, ceiling_allows, serve_mutex, serve_mutexes}
use Rattle.object_model.specs.Pools.Calls.{create_fixed, delete_fixed, get_fixed, release_fixed, refer_fixed, create_variable, delete_variable, get_variable, release_variable, refer_variable, pool_call}
use Rattle.object_model.specs.Pools.Fixed.{first_free, serve_fixed, serve_fixed_pools}
use Rattle.object_model.specs.Pools.Variable.{serve_variable, serve_variable_pools}
use Rattle.context_model.specs.Clocks.Calls.{set_time, get_time, get_operating_time, create_cyclic, start_cyclic, stop_cyclic, delete_cyclic, refer_cyclic, create_alarm, start_alarm, stop_alarm, delete_alarm, refer_alarm, time_call}
use Rattle.context_model.specs.Clocks.Tables.{body_of, next_due, again}
use Rattle.context_model.specs.Contexts.Calls.{define_handler, disable_dispatch, enable_dispatch, disable_interrupts, enable_interrupts, refer_system, define_service, refer_service, enter_service, context_call}
use Rattle.context_model.specs.Contexts.Tables.{left}
use Rattle.context_model.specs.Hooks.Calls.{list_existing, list_ready, list_queue, set_hook, hook_call}
use Rattle.device_model.specs.Devices.Calls.{open_device, refer_device, request, request_whole, wait_ending, close_device, suspend_devices, device_call}
use Rattle.device_model.specs.Devices.Endings.{expected, arrive}
use Rattle.device_model.specs.Devices.Handing.{hand_over, hand_first, messages, emptied}
use Rattle.device_model.specs.Devices.Memory.{read_bytes, write_bytes}
use Rattle.device_model.specs.Devices.Requests.{accept, picked}
use Rattle.device_model.specs.Devices.Servings.{serve_acceptance, serve_acceptances, serve_ending, serve_endings, is_with_driver, serve_close, serve_closes, serve_suspension}
use Rattle.device_model.specs.Devices.Suspension.{events_sent}
use Rattle.device_model.specs.Devices.Tables.{free_descriptor, free_request, first_queued, at_driver, accepted, dropped, handed, asked, devices_start}
use Rattle.device_model.specs.Units.Blocks.{block, is_last, blocks}
use Rattle.device_model.specs.Units.Function.{unit, cut, may_cut}
use Rattle.machine_model.specs.Events.Arrivals.{arrived}
use Rattle.machine_model.specs.Events.Bodies.{entered, returned, body_returned}
use Rattle.machine_model.specs.Events.Calls.{family_call, answered, called}
use Rattle.machine_model.specs.Events.Follow.{follow_release, follow_each, with_releases, dispatched, followed}
use Rattle.machine_model.specs.Events.Handlers.{insert_once, with_requests, handler_begun, due_begun, interrupt_begun}
use Rattle.machine_model.specs.Events.Settle.{served_within, settle, freed_within}
use Rattle.machine_model.specs.Events.Ticks.{fallen, due_done, tick}
use Rattle.machine_model.specs.Runs.Reached.{state_after}
use Rattle.machine_model.specs.Runs.Step.{worked, counted, step}
use Rattle.machine_model.specs.Runs.SyncTrace.{sync_runs, sync_run}
use Rattle.machine_model.specs.Runs.Trace.{lines_of, entered as entered_2, runs, start, trace}
use Rattle.machine_model.specs.Runs.Turns.{acted, ran, turn_of, done_turn}
use Rattle.machine_model.specs.States.Objects.{first_serving as first_serving_2, serve_object}
use Rattle.machine_model.specs.States.State.{state_start}
use Rattle.machine_model.specs.Runs.SyncTrace.{SyncRun}

-- In sync mode no ending is cut off: nobody asks an abort of a request that is with its driver.
cut_script : Script
cut_script = record {
  devices = record { name = codes "a"; kind = devices.Ram 64 } ∷ record { name = codes "b"; kind = devices.Ram 64 } ∷ [];
  pace = None;
  irqs = [];
  boot = record { body = 1; priority = 10 };
  bodies =
      record {
        name = codes "main";
        kind = kinds.Task;
        labels = [];
        stmts =
            stmts.Call names.TkOpnDev (args.Name (codes "a") ∷ args.List 4 ∷ []) ∷
            stmts.Call names.TkOpnDev (args.Name (codes "b") ∷ args.List 4 ∷ []) ∷
            stmts.Call names.TkWriDev (args.Number (pos 2) ∷ args.Number (pos 0) ∷ args.Number (pos 0) ∷ args.Number (pos 1) ∷ args.Number (negsuc 0) ∷ []) ∷
            stmts.Call names.TkSwriDev (args.Number (pos 1) ∷ args.Number (pos 0) ∷ args.Number (pos 0) ∷ args.Number (pos 1) ∷ []) ∷
            stmts.Call names.TkWaiDev (args.Number (pos 2) ∷ args.Number (pos 1) ∷ args.Number (negsuc 0) ∷ []) ∷
            [];
      } ∷
      [];
}

cut_entries : List Entry
cut_entries = record { place = 5; device = 1; request = 2; how = hows.Cut 0 } ∷ []

cut_lines : List ℕ
cut_lines =
    codes "0 D 1\n" ++
    codes "1 C 1 tk_opn_dev 1\n" ++
    codes "2 C 1 tk_opn_dev 2\n" ++
    codes "3 C 1 tk_wri_dev 1\n" ++
    codes "4 B 1 tk_swri_dev\n" ++
    codes "4 D 0\n" ++
    codes "4 END unfit 1\n" ++
    []

cut_run : text_of_lines (lines_of (trace cut_script modes.Sync 100000 cut_entries)) ≡ cut_lines
unfolding cut_script cut_entries cut_lines text_of form_of named made task_call_name sem_flag_call_name mutex_call_name mail_call_name pool_call_name time_call_name context_call_name device_call_name hook_call_name name_of code_of error_text coded error_named attributes_of flag_mode_of open_mode_of suspend_mode_of is_name_byte name_at_most why_text value_text words_of text_of_line text_of_lines fetch give call_before create_sem create_flag end_first delete_sem delete_flag refer_sem refer_flag signal_sem set_flag clear_flag wait_sem wait_flag sem_flag_call serve_sem serve_flag first_served serve_sem_flag sem_trial flag_trial chosen free_task create_task delete_task start_task exit_task terminate_task change_priority rotate_ready get_task refer_task sleep delay wake_up cancel_wakeups release_wait suspend_task resume_task task_call mark_of allowed free_from first_serving serve_box serve_mailboxes serve_buffer serve_buffers post create_box delete_box send_box receive_box refer_box create_buffer delete_buffer send_buffer receive_buffer refer_buffer mail_call create_mutex lock_mutex unlock_mutex refer_mutex delete_mutex mutex_call change_priority_beside task_call_beside chain_has current_of resettle free_last ceiling_allows serve_mutex serve_mutexes create_fixed delete_fixed get_fixed release_fixed refer_fixed create_variable delete_variable get_variable release_variable refer_variable pool_call first_free serve_fixed serve_fixed_pools serve_variable serve_variable_pools set_time get_time get_operating_time create_cyclic start_cyclic stop_cyclic delete_cyclic refer_cyclic create_alarm start_alarm stop_alarm delete_alarm refer_alarm time_call body_of next_due again define_handler disable_dispatch enable_dispatch disable_interrupts enable_interrupts refer_system define_service refer_service enter_service context_call left list_existing list_ready list_queue set_hook hook_call open_device refer_device request request_whole wait_ending close_device suspend_devices device_call expected arrive hand_over hand_first messages emptied read_bytes write_bytes accept picked serve_acceptance serve_acceptances serve_ending serve_endings is_with_driver serve_close serve_closes serve_suspension events_sent free_descriptor free_request first_queued at_driver accepted dropped handed asked devices_start block is_last blocks unit cut may_cut arrived entered returned body_returned family_call answered called follow_release follow_each with_releases dispatched followed insert_once with_requests handler_begun due_begun interrupt_begun served_within settle freed_within fallen due_done tick state_after worked counted step sync_runs sync_run entered_2 runs start trace acted ran turn_of done_turn first_serving_2 serve_object state_start digits
cut_run = refl

-- In sync mode an entry isn't fit at a place that needs no ending; the step of that place isn't done.
entry_before_need_script : Script
entry_before_need_script = record {
  devices = record { name = codes "a"; kind = devices.Ram 64 } ∷ record { name = codes "b"; kind = devices.Ram 64 } ∷ [];
  pace = None;
  irqs = [];
  boot = record { body = 1; priority = 10 };
  bodies =
      record {
        name = codes "main";
        kind = kinds.Task;
        labels = [];
        stmts =
            stmts.Call names.TkOpnDev (args.Name (codes "a") ∷ args.List 4 ∷ []) ∷
            stmts.Call names.TkOpnDev (args.Name (codes "b") ∷ args.List 4 ∷ []) ∷
            stmts.Call names.TkWriDev (args.Number (pos 2) ∷ args.Number (pos 0) ∷ args.Number (pos 0) ∷ args.Number (pos 1) ∷ args.Number (negsuc 0) ∷ []) ∷
            stmts.Call names.TkSwriDev (args.Number (pos 1) ∷ args.Number (pos 0) ∷ args.Number (pos 0) ∷ args.Number (pos 1) ∷ []) ∷
            stmts.Call names.TkWaiDev (args.Number (pos 2) ∷ args.Number (pos 1) ∷ args.Number (negsuc 0) ∷ []) ∷
            [];
      } ∷
      [];
}

entry_before_need_entries : List Entry
entry_before_need_entries = record { place = 4; device = 2; request = 1; how = hows.Done } ∷ []

entry_before_need_lines : List ℕ
entry_before_need_lines =
    codes "0 D 1\n" ++
    codes "1 C 1 tk_opn_dev 1\n" ++
    codes "2 C 1 tk_opn_dev 2\n" ++
    codes "3 C 1 tk_wri_dev 1\n" ++
    codes "3 END unfit 1\n" ++
    []

entry_before_need_run : text_of_lines (lines_of (trace entry_before_need_script modes.Sync 100000 entry_before_need_entries)) ≡ entry_before_need_lines
unfolding entry_before_need_script entry_before_need_entries entry_before_need_lines text_of form_of named made task_call_name sem_flag_call_name mutex_call_name mail_call_name pool_call_name time_call_name context_call_name device_call_name hook_call_name name_of code_of error_text coded error_named attributes_of flag_mode_of open_mode_of suspend_mode_of is_name_byte name_at_most why_text value_text words_of text_of_line text_of_lines fetch give call_before create_sem create_flag end_first delete_sem delete_flag refer_sem refer_flag signal_sem set_flag clear_flag wait_sem wait_flag sem_flag_call serve_sem serve_flag first_served serve_sem_flag sem_trial flag_trial chosen free_task create_task delete_task start_task exit_task terminate_task change_priority rotate_ready get_task refer_task sleep delay wake_up cancel_wakeups release_wait suspend_task resume_task task_call mark_of allowed free_from first_serving serve_box serve_mailboxes serve_buffer serve_buffers post create_box delete_box send_box receive_box refer_box create_buffer delete_buffer send_buffer receive_buffer refer_buffer mail_call create_mutex lock_mutex unlock_mutex refer_mutex delete_mutex mutex_call change_priority_beside task_call_beside chain_has current_of resettle free_last ceiling_allows serve_mutex serve_mutexes create_fixed delete_fixed get_fixed release_fixed refer_fixed create_variable delete_variable get_variable release_variable refer_variable pool_call first_free serve_fixed serve_fixed_pools serve_variable serve_variable_pools set_time get_time get_operating_time create_cyclic start_cyclic stop_cyclic delete_cyclic refer_cyclic create_alarm start_alarm stop_alarm delete_alarm refer_alarm time_call body_of next_due again define_handler disable_dispatch enable_dispatch disable_interrupts enable_interrupts refer_system define_service refer_service enter_service context_call left list_existing list_ready list_queue set_hook hook_call open_device refer_device request request_whole wait_ending close_device suspend_devices device_call expected arrive hand_over hand_first messages emptied read_bytes write_bytes accept picked serve_acceptance serve_acceptances serve_ending serve_endings is_with_driver serve_close serve_closes serve_suspension events_sent free_descriptor free_request first_queued at_driver accepted dropped handed asked devices_start block is_last blocks unit cut may_cut arrived entered returned body_returned family_call answered called follow_release follow_each with_releases dispatched followed insert_once with_requests handler_begun due_begun interrupt_begun served_within settle freed_within fallen due_done tick state_after worked counted step sync_runs sync_run entered_2 runs start trace acted ran turn_of done_turn first_serving_2 serve_object state_start digits
entry_before_need_run = refl

-- In sync mode a second entry at a place isn't fit where the first ending readied a task.
entry_past_need_script : Script
entry_past_need_script = record {
  devices = record { name = codes "a"; kind = devices.Ram 64 } ∷ record { name = codes "b"; kind = devices.Ram 64 } ∷ [];
  pace = None;
  irqs = [];
  boot = record { body = 1; priority = 10 };
  bodies =
      record {
        name = codes "main";
        kind = kinds.Task;
        labels = [];
        stmts =
            stmts.Call names.TkOpnDev (args.Name (codes "a") ∷ args.List 4 ∷ []) ∷
            stmts.Call names.TkOpnDev (args.Name (codes "b") ∷ args.List 4 ∷ []) ∷
            stmts.Call names.TkWriDev (args.Number (pos 2) ∷ args.Number (pos 0) ∷ args.Number (pos 0) ∷ args.Number (pos 1) ∷ args.Number (negsuc 0) ∷ []) ∷
            stmts.Call names.TkSwriDev (args.Number (pos 1) ∷ args.Number (pos 0) ∷ args.Number (pos 0) ∷ args.Number (pos 1) ∷ []) ∷
            stmts.Call names.TkWaiDev (args.Number (pos 2) ∷ args.Number (pos 1) ∷ args.Number (negsuc 0) ∷ []) ∷
            [];
      } ∷
      [];
}

entry_past_need_entries : List Entry
entry_past_need_entries = record { place = 5; device = 1; request = 2; how = hows.Done } ∷ record { place = 5; device = 2; request = 1; how = hows.Done } ∷ []

entry_past_need_lines : List ℕ
entry_past_need_lines =
    codes "0 D 1\n" ++
    codes "1 C 1 tk_opn_dev 1\n" ++
    codes "2 C 1 tk_opn_dev 2\n" ++
    codes "3 C 1 tk_wri_dev 1\n" ++
    codes "4 B 1 tk_swri_dev\n" ++
    codes "4 D 0\n" ++
    codes "5 J 1 2 done 0 1\n" ++
    codes "5 W 1 tk_swri_dev 1\n" ++
    codes "5 D 1\n" ++
    codes "4 END unfit 2\n" ++
    []

entry_past_need_run : text_of_lines (lines_of (trace entry_past_need_script modes.Sync 100000 entry_past_need_entries)) ≡ entry_past_need_lines
unfolding entry_past_need_script entry_past_need_entries entry_past_need_lines text_of form_of named made task_call_name sem_flag_call_name mutex_call_name mail_call_name pool_call_name time_call_name context_call_name device_call_name hook_call_name name_of code_of error_text coded error_named attributes_of flag_mode_of open_mode_of suspend_mode_of is_name_byte name_at_most why_text value_text words_of text_of_line text_of_lines fetch give call_before create_sem create_flag end_first delete_sem delete_flag refer_sem refer_flag signal_sem set_flag clear_flag wait_sem wait_flag sem_flag_call serve_sem serve_flag first_served serve_sem_flag sem_trial flag_trial chosen free_task create_task delete_task start_task exit_task terminate_task change_priority rotate_ready get_task refer_task sleep delay wake_up cancel_wakeups release_wait suspend_task resume_task task_call mark_of allowed free_from first_serving serve_box serve_mailboxes serve_buffer serve_buffers post create_box delete_box send_box receive_box refer_box create_buffer delete_buffer send_buffer receive_buffer refer_buffer mail_call create_mutex lock_mutex unlock_mutex refer_mutex delete_mutex mutex_call change_priority_beside task_call_beside chain_has current_of resettle free_last ceiling_allows serve_mutex serve_mutexes create_fixed delete_fixed get_fixed release_fixed refer_fixed create_variable delete_variable get_variable release_variable refer_variable pool_call first_free serve_fixed serve_fixed_pools serve_variable serve_variable_pools set_time get_time get_operating_time create_cyclic start_cyclic stop_cyclic delete_cyclic refer_cyclic create_alarm start_alarm stop_alarm delete_alarm refer_alarm time_call body_of next_due again define_handler disable_dispatch enable_dispatch disable_interrupts enable_interrupts refer_system define_service refer_service enter_service context_call left list_existing list_ready list_queue set_hook hook_call open_device refer_device request request_whole wait_ending close_device suspend_devices device_call expected arrive hand_over hand_first messages emptied read_bytes write_bytes accept picked serve_acceptance serve_acceptances serve_ending serve_endings is_with_driver serve_close serve_closes serve_suspension events_sent free_descriptor free_request first_queued at_driver accepted dropped handed asked devices_start block is_last blocks unit cut may_cut arrived entered returned body_returned family_call answered called follow_release follow_each with_releases dispatched followed insert_once with_requests handler_begun due_begun interrupt_begun served_within settle freed_within fallen due_done tick state_after worked counted step sync_runs sync_run entered_2 runs start trace acted ran turn_of done_turn first_serving_2 serve_object state_start digits
entry_past_need_run = refl

-- In sync mode a request goes to its driver only when the machine is quiet, one at a time, least device first, and before
-- any idle tick. Where its ending readies a task, that runs first. A suspension
-- and a close wait for no queued request.
least_device_first_script : Script
least_device_first_script = record {
  devices = record { name = codes "a"; kind = devices.Ram 64 } ∷ record { name = codes "b"; kind = devices.Ram 64 } ∷ [];
  pace = None;
  irqs = [];
  boot = record { body = 1; priority = 10 };
  bodies =
      record {
        name = codes "main";
        kind = kinds.Task;
        labels = [];
        stmts =
            stmts.Call names.TkCreTsk (args.List 0 ∷ args.Body 2 ∷ args.Number (pos 5) ∷ args.Number (pos 512) ∷ []) ∷
            stmts.Call names.TkOpnDev (args.Name (codes "a") ∷ args.List 4 ∷ []) ∷
            stmts.Call names.TkOpnDev (args.Name (codes "b") ∷ args.List 4 ∷ []) ∷
            stmts.Call names.TkWriDev (args.Number (pos 2) ∷ args.Number (pos 0) ∷ args.Number (pos 0) ∷ args.Number (pos 1) ∷ args.Number (negsuc 0) ∷ []) ∷
            stmts.Call names.TkReaDev (args.Number (pos 2) ∷ args.Number (pos 0) ∷ args.Number (pos 8) ∷ args.Number (pos 1) ∷ args.Number (negsuc 0) ∷ []) ∷
            stmts.Call names.TkStaTsk (args.Number (pos 2) ∷ args.Number (pos 0) ∷ []) ∷
            stmts.Call names.TkWaiDev (args.Number (pos 1) ∷ args.Number (pos 3) ∷ args.Number (pos 0) ∷ []) ∷
            stmts.Call names.TkReaDev (args.Number (pos 1) ∷ args.Number (pos 0) ∷ args.Number (pos 9) ∷ args.Number (pos 1) ∷ args.Number (negsuc 0) ∷ []) ∷
            stmts.Call names.TkWaiDev (args.Number (pos 2) ∷ args.Number (pos 2) ∷ args.Number (pos 2) ∷ []) ∷
            stmts.Call names.TkWaiDev (args.Number (pos 1) ∷ args.Number (pos 0) ∷ args.Number (pos 0) ∷ []) ∷
            stmts.Call names.TkClsDev (args.Number (pos 1) ∷ []) ∷
            stmts.Call names.TkReaDev (args.Number (pos 2) ∷ args.Number (pos 0) ∷ args.Number (pos 8) ∷ args.Number (pos 1) ∷ args.Number (negsuc 0) ∷ []) ∷
            stmts.Call names.TkSusDev (args.List 1 ∷ []) ∷
            stmts.Call names.TkClsDev (args.Number (pos 2) ∷ []) ∷
            stmts.Call names.TkDlyTsk (args.Number (pos 1) ∷ []) ∷
            [];
      } ∷
      record {
        name = codes "w";
        kind = kinds.Task;
        labels = [];
        stmts =
            stmts.Call names.TkSwriDev (args.Number (pos 1) ∷ args.Number (pos 0) ∷ args.Number (pos 0) ∷ args.Number (pos 1) ∷ []) ∷
            stmts.Call names.TkReaDev (args.Number (pos 1) ∷ args.Number (pos 0) ∷ args.Number (pos 10) ∷ args.Number (pos 1) ∷ args.Number (negsuc 0) ∷ []) ∷
            [];
      } ∷
      [];
}

least_device_first_entries : List Entry
least_device_first_entries = record { place = 11; device = 1; request = 3; how = hows.Done } ∷ record { place = 13; device = 1; request = 4; how = hows.Done } ∷ record { place = 13; device = 1; request = 3; how = hows.Done } ∷ record { place = 13; device = 2; request = 1; how = hows.Done } ∷ record { place = 13; device = 2; request = 2; how = hows.Done } ∷ []

least_device_first_lines : List ℕ
least_device_first_lines =
    codes "0 D 1\n" ++
    codes "1 C 1 tk_cre_tsk 2\n" ++
    codes "2 C 1 tk_opn_dev 1\n" ++
    codes "3 C 1 tk_opn_dev 2\n" ++
    codes "4 C 1 tk_wri_dev 1\n" ++
    codes "5 C 1 tk_rea_dev 2\n" ++
    codes "6 C 1 tk_sta_tsk 0\n" ++
    codes "6 D 2\n" ++
    codes "7 B 2 tk_swri_dev\n" ++
    codes "7 D 1\n" ++
    codes "8 C 1 tk_wai_dev E_OBJ\n" ++
    codes "9 C 1 tk_rea_dev 4\n" ++
    codes "10 B 1 tk_wai_dev\n" ++
    codes "10 D 0\n" ++
    codes "11 J 1 3 done 0 1\n" ++
    codes "11 W 2 tk_swri_dev 1\n" ++
    codes "11 D 2\n" ++
    codes "11 C 2 tk_rea_dev 3\n" ++
    codes "12 C 2 tk_ext_tsk 0\n" ++
    codes "12 D 0\n" ++
    codes "13 J 1 4 done 0 1\n" ++
    codes "13 J 1 3 done 0 1\n" ++
    codes "13 J 2 1 done 0 1\n" ++
    codes "13 J 2 2 done 0 1\n" ++
    codes "13 W 1 tk_wai_dev 2 1 0\n" ++
    codes "13 D 1\n" ++
    codes "13 C 1 tk_wai_dev 4 1 0\n" ++
    codes "14 C 1 tk_cls_dev 0\n" ++
    codes "15 C 1 tk_rea_dev 2\n" ++
    codes "16 C 1 tk_sus_dev 0\n" ++
    codes "17 C 1 tk_cls_dev 0\n" ++
    codes "18 B 1 tk_dly_tsk\n" ++
    codes "18 D 0\n" ++
    codes "19 K 1\n" ++
    codes "20 K 2\n" ++
    codes "20 W 1 tk_dly_tsk 0\n" ++
    codes "20 D 1\n" ++
    codes "21 C 1 tk_ext_tsk 0\n" ++
    codes "21 D 0\n" ++
    codes "21 END idle\n" ++
    []

least_device_first_run : text_of_lines (lines_of (trace least_device_first_script modes.Sync 100000 least_device_first_entries)) ≡ least_device_first_lines
unfolding least_device_first_script least_device_first_entries least_device_first_lines text_of form_of named made task_call_name sem_flag_call_name mutex_call_name mail_call_name pool_call_name time_call_name context_call_name device_call_name hook_call_name name_of code_of error_text coded error_named attributes_of flag_mode_of open_mode_of suspend_mode_of is_name_byte name_at_most why_text value_text words_of text_of_line text_of_lines fetch give call_before create_sem create_flag end_first delete_sem delete_flag refer_sem refer_flag signal_sem set_flag clear_flag wait_sem wait_flag sem_flag_call serve_sem serve_flag first_served serve_sem_flag sem_trial flag_trial chosen free_task create_task delete_task start_task exit_task terminate_task change_priority rotate_ready get_task refer_task sleep delay wake_up cancel_wakeups release_wait suspend_task resume_task task_call mark_of allowed free_from first_serving serve_box serve_mailboxes serve_buffer serve_buffers post create_box delete_box send_box receive_box refer_box create_buffer delete_buffer send_buffer receive_buffer refer_buffer mail_call create_mutex lock_mutex unlock_mutex refer_mutex delete_mutex mutex_call change_priority_beside task_call_beside chain_has current_of resettle free_last ceiling_allows serve_mutex serve_mutexes create_fixed delete_fixed get_fixed release_fixed refer_fixed create_variable delete_variable get_variable release_variable refer_variable pool_call first_free serve_fixed serve_fixed_pools serve_variable serve_variable_pools set_time get_time get_operating_time create_cyclic start_cyclic stop_cyclic delete_cyclic refer_cyclic create_alarm start_alarm stop_alarm delete_alarm refer_alarm time_call body_of next_due again define_handler disable_dispatch enable_dispatch disable_interrupts enable_interrupts refer_system define_service refer_service enter_service context_call left list_existing list_ready list_queue set_hook hook_call open_device refer_device request request_whole wait_ending close_device suspend_devices device_call expected arrive hand_over hand_first messages emptied read_bytes write_bytes accept picked serve_acceptance serve_acceptances serve_ending serve_endings is_with_driver serve_close serve_closes serve_suspension events_sent free_descriptor free_request first_queued at_driver accepted dropped handed asked devices_start block is_last blocks unit cut may_cut arrived entered returned body_returned family_call answered called follow_release follow_each with_releases dispatched followed insert_once with_requests handler_begun due_begun interrupt_begun served_within settle freed_within fallen due_done tick state_after worked counted step sync_runs sync_run entered_2 runs start trace acted ran turn_of done_turn first_serving_2 serve_object state_start digits
least_device_first_run = refl

least_device_first_sync : SyncRun
unfolding least_device_first_script text_of form_of named made task_call_name sem_flag_call_name mutex_call_name mail_call_name pool_call_name time_call_name context_call_name device_call_name hook_call_name name_of code_of error_text coded error_named attributes_of flag_mode_of open_mode_of suspend_mode_of is_name_byte name_at_most why_text value_text words_of text_of_line text_of_lines fetch give call_before create_sem create_flag end_first delete_sem delete_flag refer_sem refer_flag signal_sem set_flag clear_flag wait_sem wait_flag sem_flag_call serve_sem serve_flag first_served serve_sem_flag sem_trial flag_trial chosen free_task create_task delete_task start_task exit_task terminate_task change_priority rotate_ready get_task refer_task sleep delay wake_up cancel_wakeups release_wait suspend_task resume_task task_call mark_of allowed free_from first_serving serve_box serve_mailboxes serve_buffer serve_buffers post create_box delete_box send_box receive_box refer_box create_buffer delete_buffer send_buffer receive_buffer refer_buffer mail_call create_mutex lock_mutex unlock_mutex refer_mutex delete_mutex mutex_call change_priority_beside task_call_beside chain_has current_of resettle free_last ceiling_allows serve_mutex serve_mutexes create_fixed delete_fixed get_fixed release_fixed refer_fixed create_variable delete_variable get_variable release_variable refer_variable pool_call first_free serve_fixed serve_fixed_pools serve_variable serve_variable_pools set_time get_time get_operating_time create_cyclic start_cyclic stop_cyclic delete_cyclic refer_cyclic create_alarm start_alarm stop_alarm delete_alarm refer_alarm time_call body_of next_due again define_handler disable_dispatch enable_dispatch disable_interrupts enable_interrupts refer_system define_service refer_service enter_service context_call left list_existing list_ready list_queue set_hook hook_call open_device refer_device request request_whole wait_ending close_device suspend_devices device_call expected arrive hand_over hand_first messages emptied read_bytes write_bytes accept picked serve_acceptance serve_acceptances serve_ending serve_endings is_with_driver serve_close serve_closes serve_suspension events_sent free_descriptor free_request first_queued at_driver accepted dropped handed asked devices_start block is_last blocks unit cut may_cut arrived entered returned body_returned family_call answered called follow_release follow_each with_releases dispatched followed insert_once with_requests handler_begun due_begun interrupt_begun served_within settle freed_within fallen due_done tick state_after worked counted step sync_runs sync_run entered_2 runs start trace acted ran turn_of done_turn first_serving_2 serve_object state_start digits
least_device_first_sync = sync_run least_device_first_script 100000

least_device_first_sync_run : (text_of_lines (lines_of least_device_first_sync.trace) ≡ least_device_first_lines) × (least_device_first_sync.entries ≡ least_device_first_entries)
unfolding least_device_first_sync least_device_first_script least_device_first_entries least_device_first_lines text_of form_of named made task_call_name sem_flag_call_name mutex_call_name mail_call_name pool_call_name time_call_name context_call_name device_call_name hook_call_name name_of code_of error_text coded error_named attributes_of flag_mode_of open_mode_of suspend_mode_of is_name_byte name_at_most why_text value_text words_of text_of_line text_of_lines fetch give call_before create_sem create_flag end_first delete_sem delete_flag refer_sem refer_flag signal_sem set_flag clear_flag wait_sem wait_flag sem_flag_call serve_sem serve_flag first_served serve_sem_flag sem_trial flag_trial chosen free_task create_task delete_task start_task exit_task terminate_task change_priority rotate_ready get_task refer_task sleep delay wake_up cancel_wakeups release_wait suspend_task resume_task task_call mark_of allowed free_from first_serving serve_box serve_mailboxes serve_buffer serve_buffers post create_box delete_box send_box receive_box refer_box create_buffer delete_buffer send_buffer receive_buffer refer_buffer mail_call create_mutex lock_mutex unlock_mutex refer_mutex delete_mutex mutex_call change_priority_beside task_call_beside chain_has current_of resettle free_last ceiling_allows serve_mutex serve_mutexes create_fixed delete_fixed get_fixed release_fixed refer_fixed create_variable delete_variable get_variable release_variable refer_variable pool_call first_free serve_fixed serve_fixed_pools serve_variable serve_variable_pools set_time get_time get_operating_time create_cyclic start_cyclic stop_cyclic delete_cyclic refer_cyclic create_alarm start_alarm stop_alarm delete_alarm refer_alarm time_call body_of next_due again define_handler disable_dispatch enable_dispatch disable_interrupts enable_interrupts refer_system define_service refer_service enter_service context_call left list_existing list_ready list_queue set_hook hook_call open_device refer_device request request_whole wait_ending close_device suspend_devices device_call expected arrive hand_over hand_first messages emptied read_bytes write_bytes accept picked serve_acceptance serve_acceptances serve_ending serve_endings is_with_driver serve_close serve_closes serve_suspension events_sent free_descriptor free_request first_queued at_driver accepted dropped handed asked devices_start block is_last blocks unit cut may_cut arrived entered returned body_returned family_call answered called follow_release follow_each with_releases dispatched followed insert_once with_requests handler_begun due_begun interrupt_begun served_within settle freed_within fallen due_done tick state_after worked counted step sync_runs sync_run entered_2 runs start trace acted ran turn_of done_turn first_serving_2 serve_object state_start digits
least_device_first_sync_run = (refl, refl)

-- In sync mode an entry isn't fit where the ending of a lesser device is needed.
other_device_script : Script
other_device_script = record {
  devices = record { name = codes "a"; kind = devices.Ram 64 } ∷ record { name = codes "b"; kind = devices.Ram 64 } ∷ [];
  pace = None;
  irqs = [];
  boot = record { body = 1; priority = 10 };
  bodies =
      record {
        name = codes "main";
        kind = kinds.Task;
        labels = [];
        stmts =
            stmts.Call names.TkOpnDev (args.Name (codes "a") ∷ args.List 4 ∷ []) ∷
            stmts.Call names.TkOpnDev (args.Name (codes "b") ∷ args.List 4 ∷ []) ∷
            stmts.Call names.TkWriDev (args.Number (pos 2) ∷ args.Number (pos 0) ∷ args.Number (pos 0) ∷ args.Number (pos 1) ∷ args.Number (negsuc 0) ∷ []) ∷
            stmts.Call names.TkSwriDev (args.Number (pos 1) ∷ args.Number (pos 0) ∷ args.Number (pos 0) ∷ args.Number (pos 1) ∷ []) ∷
            stmts.Call names.TkWaiDev (args.Number (pos 2) ∷ args.Number (pos 1) ∷ args.Number (negsuc 0) ∷ []) ∷
            [];
      } ∷
      [];
}

other_device_entries : List Entry
other_device_entries = record { place = 5; device = 2; request = 1; how = hows.Done } ∷ []

other_device_lines : List ℕ
other_device_lines =
    codes "0 D 1\n" ++
    codes "1 C 1 tk_opn_dev 1\n" ++
    codes "2 C 1 tk_opn_dev 2\n" ++
    codes "3 C 1 tk_wri_dev 1\n" ++
    codes "4 B 1 tk_swri_dev\n" ++
    codes "4 D 0\n" ++
    codes "4 END unfit 1\n" ++
    []

other_device_run : text_of_lines (lines_of (trace other_device_script modes.Sync 100000 other_device_entries)) ≡ other_device_lines
unfolding other_device_script other_device_entries other_device_lines text_of form_of named made task_call_name sem_flag_call_name mutex_call_name mail_call_name pool_call_name time_call_name context_call_name device_call_name hook_call_name name_of code_of error_text coded error_named attributes_of flag_mode_of open_mode_of suspend_mode_of is_name_byte name_at_most why_text value_text words_of text_of_line text_of_lines fetch give call_before create_sem create_flag end_first delete_sem delete_flag refer_sem refer_flag signal_sem set_flag clear_flag wait_sem wait_flag sem_flag_call serve_sem serve_flag first_served serve_sem_flag sem_trial flag_trial chosen free_task create_task delete_task start_task exit_task terminate_task change_priority rotate_ready get_task refer_task sleep delay wake_up cancel_wakeups release_wait suspend_task resume_task task_call mark_of allowed free_from first_serving serve_box serve_mailboxes serve_buffer serve_buffers post create_box delete_box send_box receive_box refer_box create_buffer delete_buffer send_buffer receive_buffer refer_buffer mail_call create_mutex lock_mutex unlock_mutex refer_mutex delete_mutex mutex_call change_priority_beside task_call_beside chain_has current_of resettle free_last ceiling_allows serve_mutex serve_mutexes create_fixed delete_fixed get_fixed release_fixed refer_fixed create_variable delete_variable get_variable release_variable refer_variable pool_call first_free serve_fixed serve_fixed_pools serve_variable serve_variable_pools set_time get_time get_operating_time create_cyclic start_cyclic stop_cyclic delete_cyclic refer_cyclic create_alarm start_alarm stop_alarm delete_alarm refer_alarm time_call body_of next_due again define_handler disable_dispatch enable_dispatch disable_interrupts enable_interrupts refer_system define_service refer_service enter_service context_call left list_existing list_ready list_queue set_hook hook_call open_device refer_device request request_whole wait_ending close_device suspend_devices device_call expected arrive hand_over hand_first messages emptied read_bytes write_bytes accept picked serve_acceptance serve_acceptances serve_ending serve_endings is_with_driver serve_close serve_closes serve_suspension events_sent free_descriptor free_request first_queued at_driver accepted dropped handed asked devices_start block is_last blocks unit cut may_cut arrived entered returned body_returned family_call answered called follow_release follow_each with_releases dispatched followed insert_once with_requests handler_begun due_begun interrupt_begun served_within settle freed_within fallen due_done tick state_after worked counted step sync_runs sync_run entered_2 runs start trace acted ran turn_of done_turn first_serving_2 serve_object state_start digits
other_device_run = refl

-- A run in sync mode whose journal is used up is starved at the next ending that it needs.
starved_script : Script
starved_script = record {
  devices = record { name = codes "a"; kind = devices.Ram 64 } ∷ record { name = codes "b"; kind = devices.Ram 64 } ∷ [];
  pace = None;
  irqs = [];
  boot = record { body = 1; priority = 10 };
  bodies =
      record {
        name = codes "main";
        kind = kinds.Task;
        labels = [];
        stmts =
            stmts.Call names.TkOpnDev (args.Name (codes "a") ∷ args.List 4 ∷ []) ∷
            stmts.Call names.TkOpnDev (args.Name (codes "b") ∷ args.List 4 ∷ []) ∷
            stmts.Call names.TkWriDev (args.Number (pos 2) ∷ args.Number (pos 0) ∷ args.Number (pos 0) ∷ args.Number (pos 1) ∷ args.Number (negsuc 0) ∷ []) ∷
            stmts.Call names.TkSwriDev (args.Number (pos 1) ∷ args.Number (pos 0) ∷ args.Number (pos 0) ∷ args.Number (pos 1) ∷ []) ∷
            stmts.Call names.TkWaiDev (args.Number (pos 2) ∷ args.Number (pos 1) ∷ args.Number (negsuc 0) ∷ []) ∷
            [];
      } ∷
      [];
}

starved_entries : List Entry
starved_entries = record { place = 5; device = 1; request = 2; how = hows.Done } ∷ []

starved_lines : List ℕ
starved_lines =
    codes "0 D 1\n" ++
    codes "1 C 1 tk_opn_dev 1\n" ++
    codes "2 C 1 tk_opn_dev 2\n" ++
    codes "3 C 1 tk_wri_dev 1\n" ++
    codes "4 B 1 tk_swri_dev\n" ++
    codes "4 D 0\n" ++
    codes "5 J 1 2 done 0 1\n" ++
    codes "5 W 1 tk_swri_dev 1\n" ++
    codes "5 D 1\n" ++
    codes "5 B 1 tk_wai_dev\n" ++
    codes "5 D 0\n" ++
    codes "5 END starved\n" ++
    []

starved_run : text_of_lines (lines_of (trace starved_script modes.Sync 100000 starved_entries)) ≡ starved_lines
unfolding starved_script starved_entries starved_lines text_of form_of named made task_call_name sem_flag_call_name mutex_call_name mail_call_name pool_call_name time_call_name context_call_name device_call_name hook_call_name name_of code_of error_text coded error_named attributes_of flag_mode_of open_mode_of suspend_mode_of is_name_byte name_at_most why_text value_text words_of text_of_line text_of_lines fetch give call_before create_sem create_flag end_first delete_sem delete_flag refer_sem refer_flag signal_sem set_flag clear_flag wait_sem wait_flag sem_flag_call serve_sem serve_flag first_served serve_sem_flag sem_trial flag_trial chosen free_task create_task delete_task start_task exit_task terminate_task change_priority rotate_ready get_task refer_task sleep delay wake_up cancel_wakeups release_wait suspend_task resume_task task_call mark_of allowed free_from first_serving serve_box serve_mailboxes serve_buffer serve_buffers post create_box delete_box send_box receive_box refer_box create_buffer delete_buffer send_buffer receive_buffer refer_buffer mail_call create_mutex lock_mutex unlock_mutex refer_mutex delete_mutex mutex_call change_priority_beside task_call_beside chain_has current_of resettle free_last ceiling_allows serve_mutex serve_mutexes create_fixed delete_fixed get_fixed release_fixed refer_fixed create_variable delete_variable get_variable release_variable refer_variable pool_call first_free serve_fixed serve_fixed_pools serve_variable serve_variable_pools set_time get_time get_operating_time create_cyclic start_cyclic stop_cyclic delete_cyclic refer_cyclic create_alarm start_alarm stop_alarm delete_alarm refer_alarm time_call body_of next_due again define_handler disable_dispatch enable_dispatch disable_interrupts enable_interrupts refer_system define_service refer_service enter_service context_call left list_existing list_ready list_queue set_hook hook_call open_device refer_device request request_whole wait_ending close_device suspend_devices device_call expected arrive hand_over hand_first messages emptied read_bytes write_bytes accept picked serve_acceptance serve_acceptances serve_ending serve_endings is_with_driver serve_close serve_closes serve_suspension events_sent free_descriptor free_request first_queued at_driver accepted dropped handed asked devices_start block is_last blocks unit cut may_cut arrived entered returned body_returned family_call answered called follow_release follow_each with_releases dispatched followed insert_once with_requests handler_begun due_begun interrupt_begun served_within settle freed_within fallen due_done tick state_after worked counted step sync_runs sync_run entered_2 runs start trace acted ran turn_of done_turn first_serving_2 serve_object state_start digits
starved_run = refl
