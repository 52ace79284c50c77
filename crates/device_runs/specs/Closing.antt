-- Runs that were worked out by hand from the rules, as runs/device/closing has them: each a theorem by computation.
use Rattle.std.specs.Prelude.{ℕ, pos, negsuc, List, [], ◌∷◌, ◌++◌, Some, None, codes, ◌≡◌, refl}
use Rattle.std.specs.Fmt.{digits}
use Rattle.tk_types.specs.declared.script.Script.{Script}
use Rattle.tk_types.specs.declared.script.BodyKind.TheVariants as kinds
use Rattle.tk_types.specs.declared.script.Kind.TheVariants as devices
use Rattle.tk_types.specs.declared.script.Stmt.TheVariants as stmts
use Rattle.tk_types.specs.declared.script.Operand.TheVariants as operands
use Rattle.tk_types.specs.declared.script.Operation.TheVariants as operations
use Rattle.tk_types.specs.declared.script.Condition.TheVariants as conditions
use Rattle.tk_types.specs.declared.script.Arg.TheVariants as args
use Rattle.tk_types.specs.declared.call_name.CallName.TheVariants as names
use Rattle.tk_types.specs.declared.line.Entry.{Entry}
use Rattle.tk_types.specs.declared.line.How.TheVariants as hows
use Rattle.tk_types.specs.declared.run.Mode.TheVariants as modes
use Rattle.tk_types.specs.CallNames.{text_of, form_of, named}
use Rattle.tk_types.specs.Calls.{made, task_call_name, sem_flag_call_name, mutex_call_name, mail_call_name, pool_call_name, time_call_name, context_call_name, device_call_name, hook_call_name, name_of}
use Rattle.tk_types.specs.Codes.{code_of, error_text, coded, error_named}
use Rattle.tk_types.specs.Modes.{attributes_of, flag_mode_of, open_mode_of, suspend_mode_of}
use Rattle.tk_types.specs.Names.{is_name_byte, name_at_most}
use Rattle.tk_types.specs.Reasons.{why_text}
use Rattle.tk_model.specs.LineText.{value_text, words_of, text_of_line, text_of_lines}
use Rattle.kernel_model.specs.Bodies.Statements.{fetch, give, call_before}
use Rattle.kernel_model.specs.SemFlags.Calls.{create_sem, create_flag, end_first, delete_sem, delete_flag, refer_sem, refer_flag, signal_sem, set_flag, clear_flag, wait_sem, wait_flag, sem_flag_call}
use Rattle.kernel_model.specs.SemFlags.Tables.{serve_sem, serve_flag, first_served, serve_sem_flag}
use Rattle.kernel_model.specs.SemFlags.Trial.{sem_trial, flag_trial}
use Rattle.kernel_model.specs.Tasks.Base.{chosen, free_task}
use Rattle.kernel_model.specs.Tasks.Calls.{create_task, delete_task, start_task, exit_task, terminate_task, change_priority, rotate_ready, get_task, refer_task, sleep, delay, wake_up, cancel_wakeups, release_wait, suspend_task, resume_task, task_call}
use Rattle.kernel_model.specs.Tasks.Marks.{mark_of, allowed}
use Rattle.kernel_model.specs.Words.Orders.{free_from}
use Rattle.object_model.specs.Servings.{first_serving}
use Rattle.object_model.specs.Mails.Boxes.{serve_box, serve_mailboxes}
use Rattle.object_model.specs.Mails.Buffers.{serve_buffer, serve_buffers, post}
use Rattle.object_model.specs.Mails.Calls.{create_box, delete_box, send_box, receive_box, refer_box, create_buffer, delete_buffer, send_buffer, receive_buffer, refer_buffer, mail_call}
use Rattle.object_model.specs.Mutexes.Calls.{create_mutex, lock_mutex, unlock_mutex, refer_mutex, delete_mutex, mutex_call, change_priority_beside, task_call_beside}
use Rattle.object_model.specs.Mutexes.Priority.{chain_has, current_of, resettle}
use Rattle.object_model.specs.Mutexes.Tables.{free_last, ceiling_allows, serve_mutex, serve_mutexes}
use Rattle.object_model.specs.Pools.Calls.{create_fixed, delete_fixed, get_fixed, release_fixed, refer_fixed, create_variable, delete_variable, get_variable, release_variable, refer_variable, pool_call}
use Rattle.object_model.specs.Pools.Fixed.{first_free, serve_fixed, serve_fixed_pools}
use Rattle.object_model.specs.Pools.Variable.{serve_variable, serve_variable_pools}
use Rattle.context_model.specs.Clocks.Calls.{set_time, get_time, get_operating_time, create_cyclic, start_cyclic, stop_cyclic, delete_cyclic, refer_cyclic, create_alarm, start_alarm, stop_alarm, delete_alarm, refer_alarm, time_call}
use Rattle.context_model.specs.Clocks.Tables.{body_of, next_due, again}
use Rattle.context_model.specs.Contexts.Calls.{define_handler, disable_dispatch, enable_dispatch, disable_interrupts, enable_interrupts, refer_system, define_service, refer_service, enter_service, context_call}
use Rattle.context_model.specs.Contexts.Tables.{left}
use Rattle.context_model.specs.Hooks.Calls.{list_existing, list_ready, list_queue, set_hook, hook_call}
use Rattle.device_model.specs.Devices.Calls.{open_device, refer_device, request, request_whole, wait_ending, close_device, suspend_devices, device_call}
use Rattle.device_model.specs.Devices.Endings.{expected, arrive}
use Rattle.device_model.specs.Devices.Handing.{hand_over, hand_first, messages, emptied}
use Rattle.device_model.specs.Devices.Memory.{read_bytes, write_bytes}
use Rattle.device_model.specs.Devices.Requests.{accept, picked}
use Rattle.device_model.specs.Devices.Servings.{serve_acceptance, serve_acceptances, serve_ending, serve_endings, is_with_driver, serve_close, serve_closes, serve_suspension}
use Rattle.device_model.specs.Devices.Suspension.{events_sent}
use Rattle.device_model.specs.Devices.Tables.{free_descriptor, free_request, first_queued, at_driver, accepted, dropped, handed, asked, devices_start}
use Rattle.device_model.specs.Units.Blocks.{block, is_last, blocks}
use Rattle.device_model.specs.Units.Function.{unit, cut, may_cut}
use Rattle.machine_model.specs.Events.Arrivals.{arrived}
use Rattle.machine_model.specs.Events.Bodies.{entered, returned, body_returned}
use Rattle.machine_model.specs.Events.Calls.{family_call, answered, called}
use Rattle.machine_model.specs.Events.Follow.{follow_release, follow_each, with_releases, dispatched, followed}
use Rattle.machine_model.specs.Events.Handlers.{insert_once, with_requests, handler_begun, due_begun, interrupt_begun}
use Rattle.machine_model.specs.Events.Settle.{served_within, settle, freed_within}
use Rattle.machine_model.specs.Events.Ticks.{fallen, due_done, tick}
use Rattle.machine_model.specs.Runs.Reached.{state_after}
use Rattle.machine_model.specs.Runs.Step.{worked, counted, step}
use Rattle.machine_model.specs.Runs.SyncTrace.{sync_runs, sync_run}
use Rattle.machine_model.specs.Runs.Trace.{lines_of, entered as entered_2, runs, start, trace}
use Rattle.machine_model.specs.Runs.Turns.{acted, ran, turn_of, done_turn}
use Rattle.machine_model.specs.States.Objects.{first_serving as first_serving_2, serve_object}
use Rattle.machine_model.specs.States.State.{state_start}

-- A close ends the waits on its descriptor in the order in which they began, not by ID.
close_by_beginning_script : Script
close_by_beginning_script = record {
  devices = record { name = codes "d"; kind = devices.Ram 64 } ∷ [];
  pace = None;
  irqs = [];
  boot = record { body = 1; priority = 10 };
  bodies =
      record {
        name = codes "main";
        kind = kinds.Task;
        labels = [];
        stmts =
            stmts.Call names.TkOpnDev (args.Name (codes "d") ∷ args.List 4 ∷ []) ∷
            stmts.Call names.TkCreTsk (args.List 0 ∷ args.Body 2 ∷ args.Number (pos 5) ∷ args.Number (pos 512) ∷ []) ∷
            stmts.Call names.TkCreTsk (args.List 0 ∷ args.Body 2 ∷ args.Number (pos 5) ∷ args.Number (pos 512) ∷ []) ∷
            stmts.Call names.TkStaTsk (args.Number (pos 3) ∷ args.Number (pos 0) ∷ []) ∷
            stmts.Call names.TkStaTsk (args.Number (pos 2) ∷ args.Number (pos 0) ∷ []) ∷
            stmts.Call names.TkClsDev (args.Number (pos 1) ∷ []) ∷
            [];
      } ∷
      record {
        name = codes "one";
        kind = kinds.Task;
        labels = [];
        stmts =
            stmts.Call names.TkReaDev (args.Number (pos 1) ∷ args.Number (pos 0) ∷ args.Number (pos 0) ∷ args.Number (pos 8) ∷ args.Number (negsuc 0) ∷ []) ∷
            stmts.Call names.TkWaiDev (args.Number (pos 1) ∷ args.Register 0 ∷ args.Number (negsuc 0) ∷ []) ∷
            [];
      } ∷
      [];
}

close_by_beginning_entries : List Entry
close_by_beginning_entries = record { place = 13; device = 1; request = 1; how = hows.Done } ∷ []

close_by_beginning_lines : List ℕ
close_by_beginning_lines =
    codes "0 D 1\n" ++
    codes "1 C 1 tk_opn_dev 1\n" ++
    codes "2 C 1 tk_cre_tsk 2\n" ++
    codes "3 C 1 tk_cre_tsk 3\n" ++
    codes "4 C 1 tk_sta_tsk 0\n" ++
    codes "4 D 3\n" ++
    codes "5 C 3 tk_rea_dev 1\n" ++
    codes "6 B 3 tk_wai_dev\n" ++
    codes "6 D 1\n" ++
    codes "7 C 1 tk_sta_tsk 0\n" ++
    codes "7 D 2\n" ++
    codes "8 C 2 tk_rea_dev 2\n" ++
    codes "9 B 2 tk_wai_dev\n" ++
    codes "9 D 1\n" ++
    codes "10 B 1 tk_cls_dev\n" ++
    codes "10 W 3 tk_wai_dev E_ABORT\n" ++
    codes "10 W 2 tk_wai_dev E_ABORT\n" ++
    codes "10 D 3\n" ++
    codes "11 C 3 tk_ext_tsk 0\n" ++
    codes "11 D 2\n" ++
    codes "12 C 2 tk_ext_tsk 0\n" ++
    codes "12 D 0\n" ++
    codes "13 J 1 1 done 0 8\n" ++
    codes "13 W 1 tk_cls_dev 0\n" ++
    codes "13 D 1\n" ++
    codes "13 C 1 tk_ext_tsk 0\n" ++
    codes "13 D 0\n" ++
    codes "13 END idle\n" ++
    []

close_by_beginning_run : text_of_lines (lines_of (trace close_by_beginning_script modes.Free 100000 close_by_beginning_entries)) ≡ close_by_beginning_lines
unfolding close_by_beginning_script close_by_beginning_entries close_by_beginning_lines text_of form_of named made task_call_name sem_flag_call_name mutex_call_name mail_call_name pool_call_name time_call_name context_call_name device_call_name hook_call_name name_of code_of error_text coded error_named attributes_of flag_mode_of open_mode_of suspend_mode_of is_name_byte name_at_most why_text value_text words_of text_of_line text_of_lines fetch give call_before create_sem create_flag end_first delete_sem delete_flag refer_sem refer_flag signal_sem set_flag clear_flag wait_sem wait_flag sem_flag_call serve_sem serve_flag first_served serve_sem_flag sem_trial flag_trial chosen free_task create_task delete_task start_task exit_task terminate_task change_priority rotate_ready get_task refer_task sleep delay wake_up cancel_wakeups release_wait suspend_task resume_task task_call mark_of allowed free_from first_serving serve_box serve_mailboxes serve_buffer serve_buffers post create_box delete_box send_box receive_box refer_box create_buffer delete_buffer send_buffer receive_buffer refer_buffer mail_call create_mutex lock_mutex unlock_mutex refer_mutex delete_mutex mutex_call change_priority_beside task_call_beside chain_has current_of resettle free_last ceiling_allows serve_mutex serve_mutexes create_fixed delete_fixed get_fixed release_fixed refer_fixed create_variable delete_variable get_variable release_variable refer_variable pool_call first_free serve_fixed serve_fixed_pools serve_variable serve_variable_pools set_time get_time get_operating_time create_cyclic start_cyclic stop_cyclic delete_cyclic refer_cyclic create_alarm start_alarm stop_alarm delete_alarm refer_alarm time_call body_of next_due again define_handler disable_dispatch enable_dispatch disable_interrupts enable_interrupts refer_system define_service refer_service enter_service context_call left list_existing list_ready list_queue set_hook hook_call open_device refer_device request request_whole wait_ending close_device suspend_devices device_call expected arrive hand_over hand_first messages emptied read_bytes write_bytes accept picked serve_acceptance serve_acceptances serve_ending serve_endings is_with_driver serve_close serve_closes serve_suspension events_sent free_descriptor free_request first_queued at_driver accepted dropped handed asked devices_start block is_last blocks unit cut may_cut arrived entered returned body_returned family_call answered called follow_release follow_each with_releases dispatched followed insert_once with_requests handler_begun due_begun interrupt_begun served_within settle freed_within fallen due_done tick state_after worked counted step sync_runs sync_run entered_2 runs start trace acted ran turn_of done_turn first_serving_2 serve_object state_start digits
close_by_beginning_run = refl

-- A close waits for the ending of the request that is with the driver, which is cut off after its first block.
close_cuts_script : Script
close_cuts_script = record {
  devices = record { name = codes "d"; kind = devices.Slow 256 3 } ∷ [];
  pace = None;
  irqs = [];
  boot = record { body = 1; priority = 10 };
  bodies =
      record {
        name = codes "main";
        kind = kinds.Task;
        labels = [];
        stmts =
            stmts.Call names.TkOpnDev (args.Name (codes "d") ∷ args.List 2 ∷ []) ∷
            stmts.Call names.TkWriDev (args.Number (pos 1) ∷ args.Number (pos 0) ∷ args.Number (pos 0) ∷ args.Number (pos 200) ∷ args.Number (negsuc 0) ∷ []) ∷
            stmts.Call names.TkWriDev (args.Number (pos 1) ∷ args.Number (pos 0) ∷ args.Number (pos 0) ∷ args.Number (pos 10) ∷ args.Number (negsuc 0) ∷ []) ∷
            stmts.Call names.TkClsDev (args.Number (pos 1) ∷ []) ∷
            [];
      } ∷
      [];
}

close_cuts_entries : List Entry
close_cuts_entries = record { place = 5; device = 1; request = 1; how = hows.Cut 64 } ∷ []

close_cuts_lines : List ℕ
close_cuts_lines =
    codes "0 D 1\n" ++
    codes "1 C 1 tk_opn_dev 1\n" ++
    codes "2 C 1 tk_wri_dev 1\n" ++
    codes "3 C 1 tk_wri_dev 2\n" ++
    codes "4 B 1 tk_cls_dev\n" ++
    codes "4 D 0\n" ++
    codes "5 J 1 1 cut 64\n" ++
    codes "5 W 1 tk_cls_dev 0\n" ++
    codes "5 D 1\n" ++
    codes "5 C 1 tk_ext_tsk 0\n" ++
    codes "5 D 0\n" ++
    codes "5 END idle\n" ++
    []

close_cuts_run : text_of_lines (lines_of (trace close_cuts_script modes.Free 100000 close_cuts_entries)) ≡ close_cuts_lines
unfolding close_cuts_script close_cuts_entries close_cuts_lines text_of form_of named made task_call_name sem_flag_call_name mutex_call_name mail_call_name pool_call_name time_call_name context_call_name device_call_name hook_call_name name_of code_of error_text coded error_named attributes_of flag_mode_of open_mode_of suspend_mode_of is_name_byte name_at_most why_text value_text words_of text_of_line text_of_lines fetch give call_before create_sem create_flag end_first delete_sem delete_flag refer_sem refer_flag signal_sem set_flag clear_flag wait_sem wait_flag sem_flag_call serve_sem serve_flag first_served serve_sem_flag sem_trial flag_trial chosen free_task create_task delete_task start_task exit_task terminate_task change_priority rotate_ready get_task refer_task sleep delay wake_up cancel_wakeups release_wait suspend_task resume_task task_call mark_of allowed free_from first_serving serve_box serve_mailboxes serve_buffer serve_buffers post create_box delete_box send_box receive_box refer_box create_buffer delete_buffer send_buffer receive_buffer refer_buffer mail_call create_mutex lock_mutex unlock_mutex refer_mutex delete_mutex mutex_call change_priority_beside task_call_beside chain_has current_of resettle free_last ceiling_allows serve_mutex serve_mutexes create_fixed delete_fixed get_fixed release_fixed refer_fixed create_variable delete_variable get_variable release_variable refer_variable pool_call first_free serve_fixed serve_fixed_pools serve_variable serve_variable_pools set_time get_time get_operating_time create_cyclic start_cyclic stop_cyclic delete_cyclic refer_cyclic create_alarm start_alarm stop_alarm delete_alarm refer_alarm time_call body_of next_due again define_handler disable_dispatch enable_dispatch disable_interrupts enable_interrupts refer_system define_service refer_service enter_service context_call left list_existing list_ready list_queue set_hook hook_call open_device refer_device request request_whole wait_ending close_device suspend_devices device_call expected arrive hand_over hand_first messages emptied read_bytes write_bytes accept picked serve_acceptance serve_acceptances serve_ending serve_endings is_with_driver serve_close serve_closes serve_suspension events_sent free_descriptor free_request first_queued at_driver accepted dropped handed asked devices_start block is_last blocks unit cut may_cut arrived entered returned body_returned family_call answered called follow_release follow_each with_releases dispatched followed insert_once with_requests handler_begun due_begun interrupt_begun served_within settle freed_within fallen due_done tick state_after worked counted step sync_runs sync_run entered_2 runs start trace acted ran turn_of done_turn first_serving_2 serve_object state_start digits
close_cuts_run = refl

-- A close waits for the ending of the request that is with the driver; a queued one ends aborted.
close_waits_script : Script
close_waits_script = record {
  devices = record { name = codes "d"; kind = devices.Slow 256 3 } ∷ [];
  pace = None;
  irqs = [];
  boot = record { body = 1; priority = 10 };
  bodies =
      record {
        name = codes "main";
        kind = kinds.Task;
        labels = [];
        stmts =
            stmts.Call names.TkOpnDev (args.Name (codes "d") ∷ args.List 2 ∷ []) ∷
            stmts.Call names.TkWriDev (args.Number (pos 1) ∷ args.Number (pos 0) ∷ args.Number (pos 0) ∷ args.Number (pos 200) ∷ args.Number (negsuc 0) ∷ []) ∷
            stmts.Call names.TkWriDev (args.Number (pos 1) ∷ args.Number (pos 0) ∷ args.Number (pos 0) ∷ args.Number (pos 10) ∷ args.Number (negsuc 0) ∷ []) ∷
            stmts.Call names.TkClsDev (args.Number (pos 1) ∷ []) ∷
            [];
      } ∷
      [];
}

close_waits_entries : List Entry
close_waits_entries = record { place = 5; device = 1; request = 1; how = hows.Done } ∷ []

close_waits_lines : List ℕ
close_waits_lines =
    codes "0 D 1\n" ++
    codes "1 C 1 tk_opn_dev 1\n" ++
    codes "2 C 1 tk_wri_dev 1\n" ++
    codes "3 C 1 tk_wri_dev 2\n" ++
    codes "4 B 1 tk_cls_dev\n" ++
    codes "4 D 0\n" ++
    codes "5 J 1 1 done 0 200\n" ++
    codes "5 W 1 tk_cls_dev 0\n" ++
    codes "5 D 1\n" ++
    codes "5 C 1 tk_ext_tsk 0\n" ++
    codes "5 D 0\n" ++
    codes "5 END idle\n" ++
    []

close_waits_run : text_of_lines (lines_of (trace close_waits_script modes.Free 100000 close_waits_entries)) ≡ close_waits_lines
unfolding close_waits_script close_waits_entries close_waits_lines text_of form_of named made task_call_name sem_flag_call_name mutex_call_name mail_call_name pool_call_name time_call_name context_call_name device_call_name hook_call_name name_of code_of error_text coded error_named attributes_of flag_mode_of open_mode_of suspend_mode_of is_name_byte name_at_most why_text value_text words_of text_of_line text_of_lines fetch give call_before create_sem create_flag end_first delete_sem delete_flag refer_sem refer_flag signal_sem set_flag clear_flag wait_sem wait_flag sem_flag_call serve_sem serve_flag first_served serve_sem_flag sem_trial flag_trial chosen free_task create_task delete_task start_task exit_task terminate_task change_priority rotate_ready get_task refer_task sleep delay wake_up cancel_wakeups release_wait suspend_task resume_task task_call mark_of allowed free_from first_serving serve_box serve_mailboxes serve_buffer serve_buffers post create_box delete_box send_box receive_box refer_box create_buffer delete_buffer send_buffer receive_buffer refer_buffer mail_call create_mutex lock_mutex unlock_mutex refer_mutex delete_mutex mutex_call change_priority_beside task_call_beside chain_has current_of resettle free_last ceiling_allows serve_mutex serve_mutexes create_fixed delete_fixed get_fixed release_fixed refer_fixed create_variable delete_variable get_variable release_variable refer_variable pool_call first_free serve_fixed serve_fixed_pools serve_variable serve_variable_pools set_time get_time get_operating_time create_cyclic start_cyclic stop_cyclic delete_cyclic refer_cyclic create_alarm start_alarm stop_alarm delete_alarm refer_alarm time_call body_of next_due again define_handler disable_dispatch enable_dispatch disable_interrupts enable_interrupts refer_system define_service refer_service enter_service context_call left list_existing list_ready list_queue set_hook hook_call open_device refer_device request request_whole wait_ending close_device suspend_devices device_call expected arrive hand_over hand_first messages emptied read_bytes write_bytes accept picked serve_acceptance serve_acceptances serve_ending serve_endings is_with_driver serve_close serve_closes serve_suspension events_sent free_descriptor free_request first_queued at_driver accepted dropped handed asked devices_start block is_last blocks unit cut may_cut arrived entered returned body_returned family_call answered called follow_release follow_each with_releases dispatched followed insert_once with_requests handler_begun due_begun interrupt_begun served_within settle freed_within fallen due_done tick state_after worked counted step sync_runs sync_run entered_2 runs start trace acted ran turn_of done_turn first_serving_2 serve_object state_start digits
close_waits_run = refl

-- The errors of a close, and what stands while it goes on: the descriptor isn't open for any call, its mode still clashes,
-- its number isn't free, the number of a queued request is. It goes on without the closer, whose wait is ended by
-- tk_rel_wai, and is over at the ending. Only the blocks before the cut were written.
closing_descriptor_script : Script
closing_descriptor_script = record {
  devices = record { name = codes "s"; kind = devices.Slow 256 3 } ∷ [];
  pace = None;
  irqs = record { step = 8; number = 1 } ∷ [];
  boot = record { body = 1; priority = 10 };
  bodies =
      record {
        name = codes "main";
        kind = kinds.Task;
        labels = [];
        stmts =
            stmts.Call names.TkDefInt (args.Number (pos 1) ∷ args.Body 2 ∷ []) ∷
            stmts.Call names.TkCreTsk (args.List 0 ∷ args.Body 3 ∷ args.Number (pos 5) ∷ args.Number (pos 512) ∷ []) ∷
            stmts.Call names.TkOpnDev (args.Name (codes "s") ∷ args.List 18 ∷ []) ∷
            stmts.Call names.TkClsDev (args.Number (pos 33) ∷ []) ∷
            stmts.Call names.TkDisDsp ([]) ∷
            stmts.Call names.TkClsDev (args.Number (pos 2) ∷ []) ∷
            stmts.Call names.TkEnaDsp ([]) ∷
            stmts.Call names.Di ([]) ∷
            stmts.Call names.TkClsDev (args.Number (pos 1) ∷ []) ∷
            stmts.Call names.Ei ([]) ∷
            stmts.Call names.TkClsDev (args.Number (pos 2) ∷ []) ∷
            stmts.Store (operands.Number (pos 63)) (operands.Number (pos 66)) ∷
            stmts.Store (operands.Number (pos 64)) (operands.Number (pos 67)) ∷
            stmts.Call names.TkWriDev (args.Number (pos 1) ∷ args.Number (pos 0) ∷ args.Number (pos 0) ∷ args.Number (pos 200) ∷ args.Number (negsuc 0) ∷ []) ∷
            stmts.Call names.TkWriDev (args.Number (pos 1) ∷ args.Number (pos 0) ∷ args.Number (pos 0) ∷ args.Number (pos 10) ∷ args.Number (negsuc 0) ∷ []) ∷
            stmts.Call names.TkStaTsk (args.Number (pos 2) ∷ args.Number (pos 0) ∷ []) ∷
            stmts.Call names.TkClsDev (args.Number (pos 1) ∷ []) ∷
            stmts.Call names.TkWaiDev (args.Number (pos 1) ∷ args.Number (pos 1) ∷ args.Number (pos 0) ∷ []) ∷
            stmts.Call names.TkSreaDev (args.Number (pos 1) ∷ args.Number (pos 0) ∷ args.Number (pos 0) ∷ args.Number (pos 1) ∷ []) ∷
            stmts.Call names.TkOpnDev (args.Name (codes "s") ∷ args.List 2 ∷ []) ∷
            stmts.Call names.TkOpnDev (args.Name (codes "s") ∷ args.List 1 ∷ []) ∷
            stmts.Call names.TkReaDev (args.Number (pos 2) ∷ args.Number (pos 0) ∷ args.Number (pos 100) ∷ args.Number (pos 70) ∷ args.Number (negsuc 0) ∷ []) ∷
            stmts.Call names.TkRelWai (args.Number (pos 2) ∷ []) ∷
            stmts.Call names.TkClsDev (args.Number (pos 1) ∷ []) ∷
            stmts.Call names.TkOpnDev (args.Name (codes "s") ∷ args.List 1 ∷ []) ∷
            stmts.Call names.TkOpnDev (args.Name (codes "s") ∷ args.List 2 ∷ []) ∷
            stmts.Call names.TkWaiDev (args.Number (pos 2) ∷ args.Number (pos 2) ∷ args.Number (negsuc 0) ∷ []) ∷
            stmts.Load 5 (operands.Number (pos 163)) ∷
            stmts.Show (operands.Register 5) ∷
            stmts.Load 5 (operands.Number (pos 164)) ∷
            stmts.Show (operands.Register 5) ∷
            [];
      } ∷
      record {
        name = codes "h";
        kind = kinds.Hand;
        labels = [];
        stmts =
            stmts.Call names.TkClsDev (args.Number (pos 1) ∷ []) ∷
            [];
      } ∷
      record {
        name = codes "closer";
        kind = kinds.Task;
        labels = [];
        stmts =
            stmts.Call names.TkClsDev (args.Number (pos 1) ∷ []) ∷
            [];
      } ∷
      [];
}

closing_descriptor_entries : List Entry
closing_descriptor_entries = record { place = 31; device = 1; request = 1; how = hows.Cut 64 } ∷ record { place = 33; device = 1; request = 2; how = hows.Done } ∷ []

closing_descriptor_lines : List ℕ
closing_descriptor_lines =
    codes "0 D 1\n" ++
    codes "1 C 1 tk_def_int 0\n" ++
    codes "2 C 1 tk_cre_tsk 2\n" ++
    codes "3 C 1 tk_opn_dev 1\n" ++
    codes "4 C 1 tk_cls_dev E_ID\n" ++
    codes "5 C 1 tk_dis_dsp 0\n" ++
    codes "6 C 1 tk_cls_dev E_CTX\n" ++
    codes "7 C 1 tk_ena_dsp 0\n" ++
    codes "8 I int 1\n" ++
    codes "9 C 0 tk_cls_dev E_CTX\n" ++
    codes "11 C 1 DI 0\n" ++
    codes "12 C 1 tk_cls_dev E_CTX\n" ++
    codes "13 C 1 EI 0\n" ++
    codes "14 C 1 tk_cls_dev E_ID\n" ++
    codes "17 C 1 tk_wri_dev 1\n" ++
    codes "18 C 1 tk_wri_dev 2\n" ++
    codes "19 C 1 tk_sta_tsk 0\n" ++
    codes "19 D 2\n" ++
    codes "20 B 2 tk_cls_dev\n" ++
    codes "20 D 1\n" ++
    codes "21 C 1 tk_cls_dev E_ID\n" ++
    codes "22 C 1 tk_wai_dev E_ID\n" ++
    codes "23 C 1 tk_srea_dev E_ID\n" ++
    codes "24 C 1 tk_opn_dev E_BUSY\n" ++
    codes "25 C 1 tk_opn_dev 2\n" ++
    codes "26 C 1 tk_rea_dev 2\n" ++
    codes "27 C 1 tk_rel_wai 0\n" ++
    codes "27 W 2 tk_cls_dev E_RLWAI\n" ++
    codes "27 D 2\n" ++
    codes "28 C 2 tk_ext_tsk 0\n" ++
    codes "28 D 1\n" ++
    codes "29 C 1 tk_cls_dev E_ID\n" ++
    codes "30 C 1 tk_opn_dev 3\n" ++
    codes "31 J 1 1 cut 64\n" ++
    codes "31 C 1 tk_opn_dev 1\n" ++
    codes "32 B 1 tk_wai_dev\n" ++
    codes "32 D 0\n" ++
    codes "33 J 1 2 done 0 70\n" ++
    codes "33 W 1 tk_wai_dev 2 70 0\n" ++
    codes "33 D 1\n" ++
    codes "34 S 1 66\n" ++
    codes "36 S 1 0\n" ++
    codes "37 C 1 tk_ext_tsk 0\n" ++
    codes "37 D 0\n" ++
    codes "37 END idle\n" ++
    []

closing_descriptor_run : text_of_lines (lines_of (trace closing_descriptor_script modes.Free 100000 closing_descriptor_entries)) ≡ closing_descriptor_lines
unfolding closing_descriptor_script closing_descriptor_entries closing_descriptor_lines text_of form_of named made task_call_name sem_flag_call_name mutex_call_name mail_call_name pool_call_name time_call_name context_call_name device_call_name hook_call_name name_of code_of error_text coded error_named attributes_of flag_mode_of open_mode_of suspend_mode_of is_name_byte name_at_most why_text value_text words_of text_of_line text_of_lines fetch give call_before create_sem create_flag end_first delete_sem delete_flag refer_sem refer_flag signal_sem set_flag clear_flag wait_sem wait_flag sem_flag_call serve_sem serve_flag first_served serve_sem_flag sem_trial flag_trial chosen free_task create_task delete_task start_task exit_task terminate_task change_priority rotate_ready get_task refer_task sleep delay wake_up cancel_wakeups release_wait suspend_task resume_task task_call mark_of allowed free_from first_serving serve_box serve_mailboxes serve_buffer serve_buffers post create_box delete_box send_box receive_box refer_box create_buffer delete_buffer send_buffer receive_buffer refer_buffer mail_call create_mutex lock_mutex unlock_mutex refer_mutex delete_mutex mutex_call change_priority_beside task_call_beside chain_has current_of resettle free_last ceiling_allows serve_mutex serve_mutexes create_fixed delete_fixed get_fixed release_fixed refer_fixed create_variable delete_variable get_variable release_variable refer_variable pool_call first_free serve_fixed serve_fixed_pools serve_variable serve_variable_pools set_time get_time get_operating_time create_cyclic start_cyclic stop_cyclic delete_cyclic refer_cyclic create_alarm start_alarm stop_alarm delete_alarm refer_alarm time_call body_of next_due again define_handler disable_dispatch enable_dispatch disable_interrupts enable_interrupts refer_system define_service refer_service enter_service context_call left list_existing list_ready list_queue set_hook hook_call open_device refer_device request request_whole wait_ending close_device suspend_devices device_call expected arrive hand_over hand_first messages emptied read_bytes write_bytes accept picked serve_acceptance serve_acceptances serve_ending serve_endings is_with_driver serve_close serve_closes serve_suspension events_sent free_descriptor free_request first_queued at_driver accepted dropped handed asked devices_start block is_last blocks unit cut may_cut arrived entered returned body_returned family_call answered called follow_release follow_each with_releases dispatched followed insert_once with_requests handler_begun due_begun interrupt_begun served_within settle freed_within fallen due_done tick state_after worked counted step sync_runs sync_run entered_2 runs start trace acted ran turn_of done_turn first_serving_2 serve_object state_start digits
closing_descriptor_run = refl

-- At the ending that a close waits for its place goes to a caller whose request, for the event buffer, ends as it is
-- accepted: that caller is served before the closer.
ending_before_close_script : Script
ending_before_close_script = record {
  devices = record { name = codes "d"; kind = devices.Ram 64 } ∷ [];
  pace = None;
  irqs = [];
  boot = record { body = 1; priority = 10 };
  bodies =
      record {
        name = codes "main";
        kind = kinds.Task;
        labels = record { name = codes "again"; place = 6 } ∷ [];
        stmts =
            stmts.Call names.TkCreTsk (args.List 0 ∷ args.Body 2 ∷ args.Number (pos 5) ∷ args.Number (pos 512) ∷ []) ∷
            stmts.Call names.TkCreTsk (args.List 0 ∷ args.Body 3 ∷ args.Number (pos 5) ∷ args.Number (pos 512) ∷ []) ∷
            stmts.Call names.TkCreTsk (args.List 0 ∷ args.Body 4 ∷ args.Number (pos 5) ∷ args.Number (pos 512) ∷ []) ∷
            stmts.Call names.TkOpnDev (args.Name (codes "d") ∷ args.List 4 ∷ []) ∷
            stmts.Call names.TkOpnDev (args.Name (codes "d") ∷ args.List 4 ∷ []) ∷
            stmts.Call names.TkReaDev (args.Number (pos 1) ∷ args.Number (pos 0) ∷ args.Number (pos 0) ∷ args.Number (pos 1) ∷ args.Number (negsuc 0) ∷ []) ∷
            stmts.Call names.TkReaDev (args.Number (pos 2) ∷ args.Number (pos 0) ∷ args.Number (pos 0) ∷ args.Number (pos 1) ∷ args.Number (negsuc 0) ∷ []) ∷
            stmts.Call names.TkReaDev (args.Number (pos 2) ∷ args.Number (pos 0) ∷ args.Number (pos 0) ∷ args.Number (pos 1) ∷ args.Number (negsuc 0) ∷ []) ∷
            stmts.Call names.TkReaDev (args.Number (pos 2) ∷ args.Number (pos 0) ∷ args.Number (pos 0) ∷ args.Number (pos 1) ∷ args.Number (negsuc 0) ∷ []) ∷
            stmts.Jump (conditions.NotEqual 0 (operands.Number (pos 16))) 0 ∷
            stmts.Call names.TkStaTsk (args.Number (pos 2) ∷ args.Number (pos 0) ∷ []) ∷
            stmts.Call names.TkStaTsk (args.Number (pos 3) ∷ args.Number (pos 0) ∷ []) ∷
            stmts.Call names.TkTerTsk (args.Number (pos 2) ∷ []) ∷
            stmts.Call names.TkStaTsk (args.Number (pos 4) ∷ args.Number (pos 0) ∷ []) ∷
            stmts.Halt ∷
            [];
      } ∷
      record {
        name = codes "gone";
        kind = kinds.Task;
        labels = [];
        stmts =
            stmts.Call names.TkWriDev (args.Number (pos 1) ∷ args.Number (pos 0) ∷ args.Number (pos 0) ∷ args.Number (pos 1) ∷ args.Number (negsuc 0) ∷ []) ∷
            [];
      } ∷
      record {
        name = codes "e";
        kind = kinds.Task;
        labels = [];
        stmts =
            stmts.Call names.TkSwriDev (args.Number (pos 2) ∷ args.Number (negsuc 0) ∷ args.Number (pos 0) ∷ args.Number (pos 4) ∷ []) ∷
            [];
      } ∷
      record {
        name = codes "cl";
        kind = kinds.Task;
        labels = [];
        stmts =
            stmts.Call names.TkClsDev (args.Number (pos 1) ∷ []) ∷
            [];
      } ∷
      [];
}

ending_before_close_entries : List Entry
ending_before_close_entries = record { place = 34; device = 1; request = 1; how = hows.Done } ∷ []

ending_before_close_lines : List ℕ
ending_before_close_lines =
    codes "0 D 1\n" ++
    codes "1 C 1 tk_cre_tsk 2\n" ++
    codes "2 C 1 tk_cre_tsk 3\n" ++
    codes "3 C 1 tk_cre_tsk 4\n" ++
    codes "4 C 1 tk_opn_dev 1\n" ++
    codes "5 C 1 tk_opn_dev 2\n" ++
    codes "6 C 1 tk_rea_dev 1\n" ++
    codes "7 C 1 tk_rea_dev 2\n" ++
    codes "8 C 1 tk_rea_dev 3\n" ++
    codes "9 C 1 tk_rea_dev 4\n" ++
    codes "11 C 1 tk_rea_dev 5\n" ++
    codes "12 C 1 tk_rea_dev 6\n" ++
    codes "13 C 1 tk_rea_dev 7\n" ++
    codes "15 C 1 tk_rea_dev 8\n" ++
    codes "16 C 1 tk_rea_dev 9\n" ++
    codes "17 C 1 tk_rea_dev 10\n" ++
    codes "19 C 1 tk_rea_dev 11\n" ++
    codes "20 C 1 tk_rea_dev 12\n" ++
    codes "21 C 1 tk_rea_dev 13\n" ++
    codes "23 C 1 tk_rea_dev 14\n" ++
    codes "24 C 1 tk_rea_dev 15\n" ++
    codes "25 C 1 tk_rea_dev 16\n" ++
    codes "27 C 1 tk_sta_tsk 0\n" ++
    codes "27 D 2\n" ++
    codes "28 B 2 tk_wri_dev\n" ++
    codes "28 D 1\n" ++
    codes "29 C 1 tk_sta_tsk 0\n" ++
    codes "29 D 3\n" ++
    codes "30 B 3 tk_swri_dev\n" ++
    codes "30 D 1\n" ++
    codes "31 C 1 tk_ter_tsk 0\n" ++
    codes "32 C 1 tk_sta_tsk 0\n" ++
    codes "32 D 4\n" ++
    codes "33 B 4 tk_cls_dev\n" ++
    codes "33 D 1\n" ++
    codes "34 J 1 1 done 0 1\n" ++
    codes "34 W 3 tk_swri_dev 4\n" ++
    codes "34 W 4 tk_cls_dev 0\n" ++
    codes "34 D 3\n" ++
    codes "34 C 3 tk_ext_tsk 0\n" ++
    codes "34 D 4\n" ++
    codes "35 C 4 tk_ext_tsk 0\n" ++
    codes "35 D 1\n" ++
    codes "36 END halt\n" ++
    []

ending_before_close_run : text_of_lines (lines_of (trace ending_before_close_script modes.Free 100000 ending_before_close_entries)) ≡ ending_before_close_lines
unfolding ending_before_close_script ending_before_close_entries ending_before_close_lines text_of form_of named made task_call_name sem_flag_call_name mutex_call_name mail_call_name pool_call_name time_call_name context_call_name device_call_name hook_call_name name_of code_of error_text coded error_named attributes_of flag_mode_of open_mode_of suspend_mode_of is_name_byte name_at_most why_text value_text words_of text_of_line text_of_lines fetch give call_before create_sem create_flag end_first delete_sem delete_flag refer_sem refer_flag signal_sem set_flag clear_flag wait_sem wait_flag sem_flag_call serve_sem serve_flag first_served serve_sem_flag sem_trial flag_trial chosen free_task create_task delete_task start_task exit_task terminate_task change_priority rotate_ready get_task refer_task sleep delay wake_up cancel_wakeups release_wait suspend_task resume_task task_call mark_of allowed free_from first_serving serve_box serve_mailboxes serve_buffer serve_buffers post create_box delete_box send_box receive_box refer_box create_buffer delete_buffer send_buffer receive_buffer refer_buffer mail_call create_mutex lock_mutex unlock_mutex refer_mutex delete_mutex mutex_call change_priority_beside task_call_beside chain_has current_of resettle free_last ceiling_allows serve_mutex serve_mutexes create_fixed delete_fixed get_fixed release_fixed refer_fixed create_variable delete_variable get_variable release_variable refer_variable pool_call first_free serve_fixed serve_fixed_pools serve_variable serve_variable_pools set_time get_time get_operating_time create_cyclic start_cyclic stop_cyclic delete_cyclic refer_cyclic create_alarm start_alarm stop_alarm delete_alarm refer_alarm time_call body_of next_due again define_handler disable_dispatch enable_dispatch disable_interrupts enable_interrupts refer_system define_service refer_service enter_service context_call left list_existing list_ready list_queue set_hook hook_call open_device refer_device request request_whole wait_ending close_device suspend_devices device_call expected arrive hand_over hand_first messages emptied read_bytes write_bytes accept picked serve_acceptance serve_acceptances serve_ending serve_endings is_with_driver serve_close serve_closes serve_suspension events_sent free_descriptor free_request first_queued at_driver accepted dropped handed asked devices_start block is_last blocks unit cut may_cut arrived entered returned body_returned family_call answered called follow_release follow_each with_releases dispatched followed insert_once with_requests handler_begun due_begun interrupt_begun served_within settle freed_within fallen due_done tick state_after worked counted step sync_runs sync_run entered_2 runs start trace acted ran turn_of done_turn first_serving_2 serve_object state_start digits
ending_before_close_run = refl

-- At the ending that a close waits for its request is dropped: a caller that waits for a place gets that place and that
-- number, and is served before the closer. A terminated caller that waited for a place leaves no request.
place_before_close_script : Script
place_before_close_script = record {
  devices = record { name = codes "d"; kind = devices.Ram 64 } ∷ [];
  pace = None;
  irqs = [];
  boot = record { body = 1; priority = 10 };
  bodies =
      record {
        name = codes "main";
        kind = kinds.Task;
        labels = record { name = codes "again"; place = 6 } ∷ [];
        stmts =
            stmts.Call names.TkCreTsk (args.List 0 ∷ args.Body 2 ∷ args.Number (pos 5) ∷ args.Number (pos 512) ∷ []) ∷
            stmts.Call names.TkCreTsk (args.List 0 ∷ args.Body 3 ∷ args.Number (pos 5) ∷ args.Number (pos 512) ∷ []) ∷
            stmts.Call names.TkCreTsk (args.List 0 ∷ args.Body 4 ∷ args.Number (pos 5) ∷ args.Number (pos 512) ∷ []) ∷
            stmts.Call names.TkOpnDev (args.Name (codes "d") ∷ args.List 4 ∷ []) ∷
            stmts.Call names.TkOpnDev (args.Name (codes "d") ∷ args.List 4 ∷ []) ∷
            stmts.Call names.TkReaDev (args.Number (pos 1) ∷ args.Number (pos 0) ∷ args.Number (pos 0) ∷ args.Number (pos 1) ∷ args.Number (negsuc 0) ∷ []) ∷
            stmts.Call names.TkReaDev (args.Number (pos 2) ∷ args.Number (pos 0) ∷ args.Number (pos 0) ∷ args.Number (pos 1) ∷ args.Number (negsuc 0) ∷ []) ∷
            stmts.Call names.TkReaDev (args.Number (pos 2) ∷ args.Number (pos 0) ∷ args.Number (pos 0) ∷ args.Number (pos 1) ∷ args.Number (negsuc 0) ∷ []) ∷
            stmts.Call names.TkReaDev (args.Number (pos 2) ∷ args.Number (pos 0) ∷ args.Number (pos 0) ∷ args.Number (pos 1) ∷ args.Number (negsuc 0) ∷ []) ∷
            stmts.Jump (conditions.NotEqual 0 (operands.Number (pos 16))) 0 ∷
            stmts.Call names.TkStaTsk (args.Number (pos 2) ∷ args.Number (pos 0) ∷ []) ∷
            stmts.Call names.TkStaTsk (args.Number (pos 3) ∷ args.Number (pos 0) ∷ []) ∷
            stmts.Call names.TkTerTsk (args.Number (pos 2) ∷ []) ∷
            stmts.Call names.TkStaTsk (args.Number (pos 4) ∷ args.Number (pos 0) ∷ []) ∷
            stmts.Halt ∷
            [];
      } ∷
      record {
        name = codes "gone";
        kind = kinds.Task;
        labels = [];
        stmts =
            stmts.Call names.TkWriDev (args.Number (pos 1) ∷ args.Number (pos 0) ∷ args.Number (pos 0) ∷ args.Number (pos 1) ∷ args.Number (negsuc 0) ∷ []) ∷
            [];
      } ∷
      record {
        name = codes "e";
        kind = kinds.Task;
        labels = [];
        stmts =
            stmts.Call names.TkReaDev (args.Number (pos 2) ∷ args.Number (pos 0) ∷ args.Number (pos 0) ∷ args.Number (pos 1) ∷ args.Number (negsuc 0) ∷ []) ∷
            [];
      } ∷
      record {
        name = codes "cl";
        kind = kinds.Task;
        labels = [];
        stmts =
            stmts.Call names.TkClsDev (args.Number (pos 1) ∷ []) ∷
            [];
      } ∷
      [];
}

place_before_close_entries : List Entry
place_before_close_entries = record { place = 34; device = 1; request = 1; how = hows.Done } ∷ []

place_before_close_lines : List ℕ
place_before_close_lines =
    codes "0 D 1\n" ++
    codes "1 C 1 tk_cre_tsk 2\n" ++
    codes "2 C 1 tk_cre_tsk 3\n" ++
    codes "3 C 1 tk_cre_tsk 4\n" ++
    codes "4 C 1 tk_opn_dev 1\n" ++
    codes "5 C 1 tk_opn_dev 2\n" ++
    codes "6 C 1 tk_rea_dev 1\n" ++
    codes "7 C 1 tk_rea_dev 2\n" ++
    codes "8 C 1 tk_rea_dev 3\n" ++
    codes "9 C 1 tk_rea_dev 4\n" ++
    codes "11 C 1 tk_rea_dev 5\n" ++
    codes "12 C 1 tk_rea_dev 6\n" ++
    codes "13 C 1 tk_rea_dev 7\n" ++
    codes "15 C 1 tk_rea_dev 8\n" ++
    codes "16 C 1 tk_rea_dev 9\n" ++
    codes "17 C 1 tk_rea_dev 10\n" ++
    codes "19 C 1 tk_rea_dev 11\n" ++
    codes "20 C 1 tk_rea_dev 12\n" ++
    codes "21 C 1 tk_rea_dev 13\n" ++
    codes "23 C 1 tk_rea_dev 14\n" ++
    codes "24 C 1 tk_rea_dev 15\n" ++
    codes "25 C 1 tk_rea_dev 16\n" ++
    codes "27 C 1 tk_sta_tsk 0\n" ++
    codes "27 D 2\n" ++
    codes "28 B 2 tk_wri_dev\n" ++
    codes "28 D 1\n" ++
    codes "29 C 1 tk_sta_tsk 0\n" ++
    codes "29 D 3\n" ++
    codes "30 B 3 tk_rea_dev\n" ++
    codes "30 D 1\n" ++
    codes "31 C 1 tk_ter_tsk 0\n" ++
    codes "32 C 1 tk_sta_tsk 0\n" ++
    codes "32 D 4\n" ++
    codes "33 B 4 tk_cls_dev\n" ++
    codes "33 D 1\n" ++
    codes "34 J 1 1 done 0 1\n" ++
    codes "34 W 3 tk_rea_dev 1\n" ++
    codes "34 W 4 tk_cls_dev 0\n" ++
    codes "34 D 3\n" ++
    codes "34 C 3 tk_ext_tsk 0\n" ++
    codes "34 D 4\n" ++
    codes "35 C 4 tk_ext_tsk 0\n" ++
    codes "35 D 1\n" ++
    codes "36 END halt\n" ++
    []

place_before_close_run : text_of_lines (lines_of (trace place_before_close_script modes.Free 100000 place_before_close_entries)) ≡ place_before_close_lines
unfolding place_before_close_script place_before_close_entries place_before_close_lines text_of form_of named made task_call_name sem_flag_call_name mutex_call_name mail_call_name pool_call_name time_call_name context_call_name device_call_name hook_call_name name_of code_of error_text coded error_named attributes_of flag_mode_of open_mode_of suspend_mode_of is_name_byte name_at_most why_text value_text words_of text_of_line text_of_lines fetch give call_before create_sem create_flag end_first delete_sem delete_flag refer_sem refer_flag signal_sem set_flag clear_flag wait_sem wait_flag sem_flag_call serve_sem serve_flag first_served serve_sem_flag sem_trial flag_trial chosen free_task create_task delete_task start_task exit_task terminate_task change_priority rotate_ready get_task refer_task sleep delay wake_up cancel_wakeups release_wait suspend_task resume_task task_call mark_of allowed free_from first_serving serve_box serve_mailboxes serve_buffer serve_buffers post create_box delete_box send_box receive_box refer_box create_buffer delete_buffer send_buffer receive_buffer refer_buffer mail_call create_mutex lock_mutex unlock_mutex refer_mutex delete_mutex mutex_call change_priority_beside task_call_beside chain_has current_of resettle free_last ceiling_allows serve_mutex serve_mutexes create_fixed delete_fixed get_fixed release_fixed refer_fixed create_variable delete_variable get_variable release_variable refer_variable pool_call first_free serve_fixed serve_fixed_pools serve_variable serve_variable_pools set_time get_time get_operating_time create_cyclic start_cyclic stop_cyclic delete_cyclic refer_cyclic create_alarm start_alarm stop_alarm delete_alarm refer_alarm time_call body_of next_due again define_handler disable_dispatch enable_dispatch disable_interrupts enable_interrupts refer_system define_service refer_service enter_service context_call left list_existing list_ready list_queue set_hook hook_call open_device refer_device request request_whole wait_ending close_device suspend_devices device_call expected arrive hand_over hand_first messages emptied read_bytes write_bytes accept picked serve_acceptance serve_acceptances serve_ending serve_endings is_with_driver serve_close serve_closes serve_suspension events_sent free_descriptor free_request first_queued at_driver accepted dropped handed asked devices_start block is_last blocks unit cut may_cut arrived entered returned body_returned family_call answered called follow_release follow_each with_releases dispatched followed insert_once with_requests handler_begun due_begun interrupt_begun served_within settle freed_within fallen due_done tick state_after worked counted step sync_runs sync_run entered_2 runs start trace acted ran turn_of done_turn first_serving_2 serve_object state_start digits
place_before_close_run = refl

-- Two closes go on at once. That of a terminated closer is over at its ending, and the first block of its read lands; that
-- of a waiting closer ends its wait at its own. A request of a closed descriptor leaves its number free.
terminated_closer_script : Script
terminated_closer_script = record {
  devices = record { name = codes "a"; kind = devices.Ram 256 } ∷ record { name = codes "b"; kind = devices.Ram 64 } ∷ [];
  pace = None;
  irqs = [];
  boot = record { body = 1; priority = 10 };
  bodies =
      record {
        name = codes "main";
        kind = kinds.Task;
        labels = [];
        stmts =
            stmts.Call names.TkCreTsk (args.List 0 ∷ args.Body 2 ∷ args.Number (pos 5) ∷ args.Number (pos 512) ∷ []) ∷
            stmts.Call names.TkCreTsk (args.List 0 ∷ args.Body 3 ∷ args.Number (pos 4) ∷ args.Number (pos 512) ∷ []) ∷
            stmts.Call names.TkOpnDev (args.Name (codes "a") ∷ args.List 4 ∷ []) ∷
            stmts.Call names.TkOpnDev (args.Name (codes "b") ∷ args.List 4 ∷ []) ∷
            stmts.Store (operands.Number (pos 0)) (operands.Number (pos 9)) ∷
            stmts.Store (operands.Number (pos 64)) (operands.Number (pos 9)) ∷
            stmts.Call names.TkReaDev (args.Number (pos 1) ∷ args.Number (pos 0) ∷ args.Number (pos 0) ∷ args.Number (pos 200) ∷ args.Number (negsuc 0) ∷ []) ∷
            stmts.Call names.TkWriDev (args.Number (pos 2) ∷ args.Number (pos 0) ∷ args.Number (pos 64) ∷ args.Number (pos 1) ∷ args.Number (negsuc 0) ∷ []) ∷
            stmts.Call names.TkStaTsk (args.Number (pos 2) ∷ args.Number (pos 0) ∷ []) ∷
            stmts.Call names.TkStaTsk (args.Number (pos 3) ∷ args.Number (pos 0) ∷ []) ∷
            stmts.Call names.TkTerTsk (args.Number (pos 2) ∷ []) ∷
            stmts.Call names.TkOpnDev (args.Name (codes "a") ∷ args.List 1 ∷ []) ∷
            stmts.Load 5 (operands.Number (pos 0)) ∷
            stmts.Show (operands.Register 5) ∷
            stmts.Load 5 (operands.Number (pos 0)) ∷
            stmts.Show (operands.Register 5) ∷
            stmts.Load 5 (operands.Number (pos 64)) ∷
            stmts.Show (operands.Register 5) ∷
            stmts.Call names.TkOpnDev (args.Name (codes "a") ∷ args.List 1 ∷ []) ∷
            stmts.Call names.TkReaDev (args.Number (pos 1) ∷ args.Number (negsuc 0) ∷ args.Number (pos 0) ∷ args.Number (pos 0) ∷ args.Number (pos 0) ∷ []) ∷
            [];
      } ∷
      record {
        name = codes "one";
        kind = kinds.Task;
        labels = [];
        stmts =
            stmts.Call names.TkClsDev (args.Number (pos 1) ∷ []) ∷
            [];
      } ∷
      record {
        name = codes "two";
        kind = kinds.Task;
        labels = [];
        stmts =
            stmts.Call names.TkClsDev (args.Number (pos 2) ∷ []) ∷
            stmts.Call names.TkOpnDev (args.Name (codes "b") ∷ args.List 1 ∷ []) ∷
            [];
      } ∷
      [];
}

terminated_closer_entries : List Entry
terminated_closer_entries = record { place = 17; device = 1; request = 1; how = hows.Cut 64 } ∷ record { place = 24; device = 2; request = 2; how = hows.Done } ∷ []

terminated_closer_lines : List ℕ
terminated_closer_lines =
    codes "0 D 1\n" ++
    codes "1 C 1 tk_cre_tsk 2\n" ++
    codes "2 C 1 tk_cre_tsk 3\n" ++
    codes "3 C 1 tk_opn_dev 1\n" ++
    codes "4 C 1 tk_opn_dev 2\n" ++
    codes "7 C 1 tk_rea_dev 1\n" ++
    codes "8 C 1 tk_wri_dev 2\n" ++
    codes "9 C 1 tk_sta_tsk 0\n" ++
    codes "9 D 2\n" ++
    codes "10 B 2 tk_cls_dev\n" ++
    codes "10 D 1\n" ++
    codes "11 C 1 tk_sta_tsk 0\n" ++
    codes "11 D 3\n" ++
    codes "12 B 3 tk_cls_dev\n" ++
    codes "12 D 1\n" ++
    codes "13 C 1 tk_ter_tsk 0\n" ++
    codes "14 C 1 tk_opn_dev 3\n" ++
    codes "16 S 1 9\n" ++
    codes "17 J 1 1 cut 64\n" ++
    codes "18 S 1 0\n" ++
    codes "20 S 1 9\n" ++
    codes "21 C 1 tk_opn_dev 1\n" ++
    codes "22 C 1 tk_rea_dev 1\n" ++
    codes "23 C 1 tk_ext_tsk 0\n" ++
    codes "23 D 0\n" ++
    codes "24 J 2 2 done 0 1\n" ++
    codes "24 W 3 tk_cls_dev 0\n" ++
    codes "24 D 3\n" ++
    codes "24 C 3 tk_opn_dev 2\n" ++
    codes "25 C 3 tk_ext_tsk 0\n" ++
    codes "25 D 0\n" ++
    codes "25 END idle\n" ++
    []

terminated_closer_run : text_of_lines (lines_of (trace terminated_closer_script modes.Free 100000 terminated_closer_entries)) ≡ terminated_closer_lines
unfolding terminated_closer_script terminated_closer_entries terminated_closer_lines text_of form_of named made task_call_name sem_flag_call_name mutex_call_name mail_call_name pool_call_name time_call_name context_call_name device_call_name hook_call_name name_of code_of error_text coded error_named attributes_of flag_mode_of open_mode_of suspend_mode_of is_name_byte name_at_most why_text value_text words_of text_of_line text_of_lines fetch give call_before create_sem create_flag end_first delete_sem delete_flag refer_sem refer_flag signal_sem set_flag clear_flag wait_sem wait_flag sem_flag_call serve_sem serve_flag first_served serve_sem_flag sem_trial flag_trial chosen free_task create_task delete_task start_task exit_task terminate_task change_priority rotate_ready get_task refer_task sleep delay wake_up cancel_wakeups release_wait suspend_task resume_task task_call mark_of allowed free_from first_serving serve_box serve_mailboxes serve_buffer serve_buffers post create_box delete_box send_box receive_box refer_box create_buffer delete_buffer send_buffer receive_buffer refer_buffer mail_call create_mutex lock_mutex unlock_mutex refer_mutex delete_mutex mutex_call change_priority_beside task_call_beside chain_has current_of resettle free_last ceiling_allows serve_mutex serve_mutexes create_fixed delete_fixed get_fixed release_fixed refer_fixed create_variable delete_variable get_variable release_variable refer_variable pool_call first_free serve_fixed serve_fixed_pools serve_variable serve_variable_pools set_time get_time get_operating_time create_cyclic start_cyclic stop_cyclic delete_cyclic refer_cyclic create_alarm start_alarm stop_alarm delete_alarm refer_alarm time_call body_of next_due again define_handler disable_dispatch enable_dispatch disable_interrupts enable_interrupts refer_system define_service refer_service enter_service context_call left list_existing list_ready list_queue set_hook hook_call open_device refer_device request request_whole wait_ending close_device suspend_devices device_call expected arrive hand_over hand_first messages emptied read_bytes write_bytes accept picked serve_acceptance serve_acceptances serve_ending serve_endings is_with_driver serve_close serve_closes serve_suspension events_sent free_descriptor free_request first_queued at_driver accepted dropped handed asked devices_start block is_last blocks unit cut may_cut arrived entered returned body_returned family_call answered called follow_release follow_each with_releases dispatched followed insert_once with_requests handler_begun due_begun interrupt_begun served_within settle freed_within fallen due_done tick state_after worked counted step sync_runs sync_run entered_2 runs start trace acted ran turn_of done_turn first_serving_2 serve_object state_start digits
terminated_closer_run = refl

-- A close ends the waits on its descriptor, for a place or for an ending, in the order in which they began, whatever the
-- priorities. Queued and ended requests are dropped, so one that waits on another descriptor finds its place at once.
waits_end_aborted_script : Script
waits_end_aborted_script = record {
  devices = record { name = codes "d"; kind = devices.Ram 64 } ∷ [];
  pace = None;
  irqs = [];
  boot = record { body = 1; priority = 10 };
  bodies =
      record {
        name = codes "main";
        kind = kinds.Task;
        labels = record { name = codes "again"; place = 8 } ∷ [];
        stmts =
            stmts.Call names.TkCreTsk (args.List 0 ∷ args.Body 2 ∷ args.Number (pos 9) ∷ args.Number (pos 512) ∷ []) ∷
            stmts.Call names.TkCreTsk (args.List 0 ∷ args.Body 3 ∷ args.Number (pos 8) ∷ args.Number (pos 512) ∷ []) ∷
            stmts.Call names.TkCreTsk (args.List 0 ∷ args.Body 4 ∷ args.Number (pos 8) ∷ args.Number (pos 512) ∷ []) ∷
            stmts.Call names.TkCreTsk (args.List 0 ∷ args.Body 5 ∷ args.Number (pos 7) ∷ args.Number (pos 512) ∷ []) ∷
            stmts.Call names.TkOpnDev (args.Name (codes "d") ∷ args.List 4 ∷ []) ∷
            stmts.Call names.TkOpnDev (args.Name (codes "d") ∷ args.List 4 ∷ []) ∷
            stmts.Call names.TkReaDev (args.Number (pos 2) ∷ args.Number (pos 0) ∷ args.Number (pos 0) ∷ args.Number (pos 1) ∷ args.Number (negsuc 0) ∷ []) ∷
            stmts.Call names.TkStaTsk (args.Number (pos 2) ∷ args.Number (pos 0) ∷ []) ∷
            stmts.Call names.TkReaDev (args.Number (pos 1) ∷ args.Number (pos 0) ∷ args.Number (pos 0) ∷ args.Number (pos 1) ∷ args.Number (negsuc 0) ∷ []) ∷
            stmts.Call names.TkReaDev (args.Number (pos 1) ∷ args.Number (pos 0) ∷ args.Number (pos 0) ∷ args.Number (pos 1) ∷ args.Number (negsuc 0) ∷ []) ∷
            stmts.Call names.TkReaDev (args.Number (pos 1) ∷ args.Number (pos 0) ∷ args.Number (pos 0) ∷ args.Number (pos 1) ∷ args.Number (negsuc 0) ∷ []) ∷
            stmts.Call names.TkReaDev (args.Number (pos 1) ∷ args.Number (pos 0) ∷ args.Number (pos 0) ∷ args.Number (pos 1) ∷ args.Number (negsuc 0) ∷ []) ∷
            stmts.Call names.TkReaDev (args.Number (pos 1) ∷ args.Number (pos 0) ∷ args.Number (pos 0) ∷ args.Number (pos 1) ∷ args.Number (negsuc 0) ∷ []) ∷
            stmts.Call names.TkReaDev (args.Number (pos 1) ∷ args.Number (pos 0) ∷ args.Number (pos 0) ∷ args.Number (pos 1) ∷ args.Number (negsuc 0) ∷ []) ∷
            stmts.Call names.TkReaDev (args.Number (pos 1) ∷ args.Number (pos 0) ∷ args.Number (pos 0) ∷ args.Number (pos 1) ∷ args.Number (negsuc 0) ∷ []) ∷
            stmts.Jump (conditions.NotEqual 0 (operands.Number (pos 16))) 0 ∷
            stmts.Call names.TkStaTsk (args.Number (pos 3) ∷ args.Number (pos 0) ∷ []) ∷
            stmts.Call names.TkStaTsk (args.Number (pos 4) ∷ args.Number (pos 0) ∷ []) ∷
            stmts.Call names.TkStaTsk (args.Number (pos 5) ∷ args.Number (pos 0) ∷ []) ∷
            stmts.Call names.TkClsDev (args.Number (pos 1) ∷ []) ∷
            stmts.Call names.TkOpnDev (args.Name (codes "d") ∷ args.List 1 ∷ []) ∷
            stmts.Call names.TkWaiDev (args.Number (pos 1) ∷ args.Number (pos 0) ∷ args.Number (pos 0) ∷ []) ∷
            stmts.Call names.TkWaiDev (args.Number (pos 2) ∷ args.Number (pos 2) ∷ args.Number (negsuc 0) ∷ []) ∷
            stmts.Call names.TkClsDev (args.Number (pos 2) ∷ []) ∷
            stmts.Call names.TkReaDev (args.Number (pos 1) ∷ args.Number (negsuc 0) ∷ args.Number (pos 0) ∷ args.Number (pos 0) ∷ args.Number (pos 0) ∷ []) ∷
            [];
      } ∷
      record {
        name = codes "b";
        kind = kinds.Task;
        labels = [];
        stmts =
            stmts.Call names.TkSreaDev (args.Number (pos 1) ∷ args.Number (pos 0) ∷ args.Number (pos 0) ∷ args.Number (pos 1) ∷ []) ∷
            [];
      } ∷
      record {
        name = codes "c";
        kind = kinds.Task;
        labels = [];
        stmts =
            stmts.Call names.TkWriDev (args.Number (pos 1) ∷ args.Number (pos 0) ∷ args.Number (pos 0) ∷ args.Number (pos 1) ∷ args.Number (negsuc 0) ∷ []) ∷
            [];
      } ∷
      record {
        name = codes "e";
        kind = kinds.Task;
        labels = [];
        stmts =
            stmts.Call names.TkReaDev (args.Number (pos 2) ∷ args.Number (pos 0) ∷ args.Number (pos 0) ∷ args.Number (pos 1) ∷ args.Number (negsuc 0) ∷ []) ∷
            [];
      } ∷
      record {
        name = codes "a";
        kind = kinds.Task;
        labels = [];
        stmts =
            stmts.Call names.TkWaiDev (args.Number (pos 1) ∷ args.Number (pos 3) ∷ args.Number (negsuc 0) ∷ []) ∷
            stmts.Show (operands.Register 0) ∷
            [];
      } ∷
      [];
}

waits_end_aborted_entries : List Entry
waits_end_aborted_entries = record { place = 41; device = 1; request = 1; how = hows.Done } ∷ record { place = 41; device = 1; request = 2; how = hows.Done } ∷ []

waits_end_aborted_lines : List ℕ
waits_end_aborted_lines =
    codes "0 D 1\n" ++
    codes "1 C 1 tk_cre_tsk 2\n" ++
    codes "2 C 1 tk_cre_tsk 3\n" ++
    codes "3 C 1 tk_cre_tsk 4\n" ++
    codes "4 C 1 tk_cre_tsk 5\n" ++
    codes "5 C 1 tk_opn_dev 1\n" ++
    codes "6 C 1 tk_opn_dev 2\n" ++
    codes "7 C 1 tk_rea_dev 1\n" ++
    codes "8 C 1 tk_sta_tsk 0\n" ++
    codes "8 D 2\n" ++
    codes "9 B 2 tk_srea_dev\n" ++
    codes "9 D 1\n" ++
    codes "10 C 1 tk_rea_dev 3\n" ++
    codes "11 C 1 tk_rea_dev 4\n" ++
    codes "12 C 1 tk_rea_dev 5\n" ++
    codes "13 C 1 tk_rea_dev 6\n" ++
    codes "14 C 1 tk_rea_dev 7\n" ++
    codes "15 C 1 tk_rea_dev 8\n" ++
    codes "16 C 1 tk_rea_dev 9\n" ++
    codes "18 C 1 tk_rea_dev 10\n" ++
    codes "19 C 1 tk_rea_dev 11\n" ++
    codes "20 C 1 tk_rea_dev 12\n" ++
    codes "21 C 1 tk_rea_dev 13\n" ++
    codes "22 C 1 tk_rea_dev 14\n" ++
    codes "23 C 1 tk_rea_dev 15\n" ++
    codes "24 C 1 tk_rea_dev 16\n" ++
    codes "26 C 1 tk_sta_tsk 0\n" ++
    codes "26 D 3\n" ++
    codes "27 B 3 tk_wri_dev\n" ++
    codes "27 D 1\n" ++
    codes "28 C 1 tk_sta_tsk 0\n" ++
    codes "28 D 4\n" ++
    codes "29 B 4 tk_rea_dev\n" ++
    codes "29 D 1\n" ++
    codes "30 C 1 tk_sta_tsk 0\n" ++
    codes "30 D 5\n" ++
    codes "31 B 5 tk_wai_dev\n" ++
    codes "31 D 1\n" ++
    codes "32 C 1 tk_cls_dev 0\n" ++
    codes "32 W 2 tk_srea_dev E_ABORT\n" ++
    codes "32 W 3 tk_wri_dev E_ABORT\n" ++
    codes "32 W 5 tk_wai_dev E_ABORT\n" ++
    codes "32 W 4 tk_rea_dev 2\n" ++
    codes "32 D 5\n" ++
    codes "33 S 5 -66\n" ++
    codes "34 C 5 tk_ext_tsk 0\n" ++
    codes "34 D 3\n" ++
    codes "35 C 3 tk_ext_tsk 0\n" ++
    codes "35 D 4\n" ++
    codes "36 C 4 tk_ext_tsk 0\n" ++
    codes "36 D 2\n" ++
    codes "37 C 2 tk_ext_tsk 0\n" ++
    codes "37 D 1\n" ++
    codes "38 C 1 tk_opn_dev 1\n" ++
    codes "39 C 1 tk_wai_dev E_NOEXS\n" ++
    codes "40 B 1 tk_wai_dev\n" ++
    codes "40 D 0\n" ++
    codes "41 J 1 1 done 0 1\n" ++
    codes "41 J 1 2 done 0 1\n" ++
    codes "41 W 1 tk_wai_dev 2 1 0\n" ++
    codes "41 D 1\n" ++
    codes "41 C 1 tk_cls_dev 0\n" ++
    codes "42 C 1 tk_rea_dev 1\n" ++
    codes "43 C 1 tk_ext_tsk 0\n" ++
    codes "43 D 0\n" ++
    codes "43 END idle\n" ++
    []

waits_end_aborted_run : text_of_lines (lines_of (trace waits_end_aborted_script modes.Free 100000 waits_end_aborted_entries)) ≡ waits_end_aborted_lines
unfolding waits_end_aborted_script waits_end_aborted_entries waits_end_aborted_lines text_of form_of named made task_call_name sem_flag_call_name mutex_call_name mail_call_name pool_call_name time_call_name context_call_name device_call_name hook_call_name name_of code_of error_text coded error_named attributes_of flag_mode_of open_mode_of suspend_mode_of is_name_byte name_at_most why_text value_text words_of text_of_line text_of_lines fetch give call_before create_sem create_flag end_first delete_sem delete_flag refer_sem refer_flag signal_sem set_flag clear_flag wait_sem wait_flag sem_flag_call serve_sem serve_flag first_served serve_sem_flag sem_trial flag_trial chosen free_task create_task delete_task start_task exit_task terminate_task change_priority rotate_ready get_task refer_task sleep delay wake_up cancel_wakeups release_wait suspend_task resume_task task_call mark_of allowed free_from first_serving serve_box serve_mailboxes serve_buffer serve_buffers post create_box delete_box send_box receive_box refer_box create_buffer delete_buffer send_buffer receive_buffer refer_buffer mail_call create_mutex lock_mutex unlock_mutex refer_mutex delete_mutex mutex_call change_priority_beside task_call_beside chain_has current_of resettle free_last ceiling_allows serve_mutex serve_mutexes create_fixed delete_fixed get_fixed release_fixed refer_fixed create_variable delete_variable get_variable release_variable refer_variable pool_call first_free serve_fixed serve_fixed_pools serve_variable serve_variable_pools set_time get_time get_operating_time create_cyclic start_cyclic stop_cyclic delete_cyclic refer_cyclic create_alarm start_alarm stop_alarm delete_alarm refer_alarm time_call body_of next_due again define_handler disable_dispatch enable_dispatch disable_interrupts enable_interrupts refer_system define_service refer_service enter_service context_call left list_existing list_ready list_queue set_hook hook_call open_device refer_device request request_whole wait_ending close_device suspend_devices device_call expected arrive hand_over hand_first messages emptied read_bytes write_bytes accept picked serve_acceptance serve_acceptances serve_ending serve_endings is_with_driver serve_close serve_closes serve_suspension events_sent free_descriptor free_request first_queued at_driver accepted dropped handed asked devices_start block is_last blocks unit cut may_cut arrived entered returned body_returned family_call answered called follow_release follow_each with_releases dispatched followed insert_once with_requests handler_begun due_begun interrupt_begun served_within settle freed_within fallen due_done tick state_after worked counted step sync_runs sync_run entered_2 runs start trace acted ran turn_of done_turn first_serving_2 serve_object state_start digits
waits_end_aborted_run = refl
