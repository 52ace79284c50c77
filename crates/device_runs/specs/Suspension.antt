-- Runs that were worked out by hand from the rules, as runs/device/suspension has them: each a theorem by computation.
use Rattle.std.specs.Prelude.{ℕ, pos, negsuc, List, [], ◌∷◌, ◌++◌, Some, None, codes, ◌≡◌, refl}
use Rattle.std.specs.Fmt.{digits}
use Rattle.tk_types.specs.declared.script.Script.{Script}
use Rattle.tk_types.specs.declared.script.BodyKind.TheVariants as kinds
use Rattle.tk_types.specs.declared.script.Kind.TheVariants as devices
use Rattle.tk_types.specs.declared.script.Stmt.TheVariants as stmts
use Rattle.tk_types.specs.declared.script.Operand.TheVariants as operands
use Rattle.tk_types.specs.declared.script.Operation.TheVariants as operations
use Rattle.tk_types.specs.declared.script.Condition.TheVariants as conditions
use Rattle.tk_types.specs.declared.script.Arg.TheVariants as args
use Rattle.tk_types.specs.declared.call_name.CallName.TheVariants as names
use Rattle.tk_types.specs.declared.line.Entry.{Entry}
use Rattle.tk_types.specs.declared.line.How.TheVariants as hows
use Rattle.tk_types.specs.declared.run.Mode.TheVariants as modes
use Rattle.tk_types.specs.CallNames.{text_of, form_of, named}
use Rattle.tk_types.specs.Calls.{made, task_call_name, sem_flag_call_name, mutex_call_name, mail_call_name, pool_call_name, time_call_name, context_call_name, device_call_name, hook_call_name, name_of}
use Rattle.tk_types.specs.Codes.{code_of, error_text, coded, error_named}
use Rattle.tk_types.specs.Modes.{attributes_of, flag_mode_of, open_mode_of, suspend_mode_of}
use Rattle.tk_types.specs.Names.{is_name_byte, name_at_most}
use Rattle.tk_types.specs.Reasons.{why_text}
use Rattle.tk_model.specs.LineText.{value_text, words_of, text_of_line, text_of_lines}
use Rattle.kernel_model.specs.Bodies.Statements.{fetch, give, call_before}
use Rattle.kernel_model.specs.SemFlags.Calls.{create_sem, create_flag, end_first, delete_sem, delete_flag, refer_sem, refer_flag, signal_sem, set_flag, clear_flag, wait_sem, wait_flag, sem_flag_call}
use Rattle.kernel_model.specs.SemFlags.Tables.{serve_sem, serve_flag, first_served, serve_sem_flag}
use Rattle.kernel_model.specs.SemFlags.Trial.{sem_trial, flag_trial}
use Rattle.kernel_model.specs.Tasks.Base.{chosen, free_task}
use Rattle.kernel_model.specs.Tasks.Calls.{create_task, delete_task, start_task, exit_task, terminate_task, change_priority, rotate_ready, get_task, refer_task, sleep, delay, wake_up, cancel_wakeups, release_wait, suspend_task, resume_task, task_call}
use Rattle.kernel_model.specs.Tasks.Marks.{mark_of, allowed}
use Rattle.kernel_model.specs.Words.Orders.{free_from}
use Rattle.object_model.specs.Servings.{first_serving}
use Rattle.object_model.specs.Mails.Boxes.{serve_box, serve_mailboxes}
use Rattle.object_model.specs.Mails.Buffers.{serve_buffer, serve_buffers, post}
use Rattle.object_model.specs.Mails.Calls.{create_box, delete_box, send_box, receive_box, refer_box, create_buffer, delete_buffer, send_buffer, receive_buffer, refer_buffer, mail_call}
use Rattle.object_model.specs.Mutexes.Calls.{create_mutex, lock_mutex, unlock_mutex, refer_mutex, delete_mutex, mutex_call, change_priority_beside, task_call_beside}
use Rattle.object_model.specs.Mutexes.Priority.{chain_has, current_of, resettle}
use Rattle.object_model.specs.Mutexes.Tables.{free_last, ceiling_allows, serve_mutex, serve_mutexes}
use Rattle.object_model.specs.Pools.Calls.{create_fixed, delete_fixed, get_fixed, release_fixed, refer_fixed, create_variable, delete_variable, get_variable, release_variable, refer_variable, pool_call}
use Rattle.object_model.specs.Pools.Fixed.{first_free, serve_fixed, serve_fixed_pools}
use Rattle.object_model.specs.Pools.Variable.{serve_variable, serve_variable_pools}
use Rattle.context_model.specs.Clocks.Calls.{set_time, get_time, get_operating_time, create_cyclic, start_cyclic, stop_cyclic, delete_cyclic, refer_cyclic, create_alarm, start_alarm, stop_alarm, delete_alarm, refer_alarm, time_call}
use Rattle.context_model.specs.Clocks.Tables.{body_of, next_due, again}
use Rattle.context_model.specs.Contexts.Calls.{define_handler, disable_dispatch, enable_dispatch, disable_interrupts, enable_interrupts, refer_system, define_service, refer_service, enter_service, context_call}
use Rattle.context_model.specs.Contexts.Tables.{left}
use Rattle.context_model.specs.Hooks.Calls.{list_existing, list_ready, list_queue, set_hook, hook_call}
use Rattle.device_model.specs.Devices.Calls.{open_device, refer_device, request, request_whole, wait_ending, close_device, suspend_devices, device_call}
use Rattle.device_model.specs.Devices.Endings.{expected, arrive}
use Rattle.device_model.specs.Devices.Handing.{hand_over, hand_first, messages, emptied}
use Rattle.device_model.specs.Devices.Memory.{read_bytes, write_bytes}
use Rattle.device_model.specs.Devices.Requests.{accept, picked}
use Rattle.device_model.specs.Devices.Servings.{serve_acceptance, serve_acceptances, serve_ending, serve_endings, is_with_driver, serve_close, serve_closes, serve_suspension}
use Rattle.device_model.specs.Devices.Suspension.{events_sent}
use Rattle.device_model.specs.Devices.Tables.{free_descriptor, free_request, first_queued, at_driver, accepted, dropped, handed, asked, devices_start}
use Rattle.device_model.specs.Units.Blocks.{block, is_last, blocks}
use Rattle.device_model.specs.Units.Function.{unit, cut, may_cut}
use Rattle.machine_model.specs.Events.Arrivals.{arrived}
use Rattle.machine_model.specs.Events.Bodies.{entered, returned, body_returned}
use Rattle.machine_model.specs.Events.Calls.{family_call, answered, called}
use Rattle.machine_model.specs.Events.Follow.{follow_release, follow_each, with_releases, dispatched, followed}
use Rattle.machine_model.specs.Events.Handlers.{insert_once, with_requests, handler_begun, due_begun, interrupt_begun}
use Rattle.machine_model.specs.Events.Settle.{served_within, settle, freed_within}
use Rattle.machine_model.specs.Events.Ticks.{fallen, due_done, tick}
use Rattle.machine_model.specs.Runs.Reached.{state_after}
use Rattle.machine_model.specs.Runs.Step.{worked, counted, step}
use Rattle.machine_model.specs.Runs.SyncTrace.{sync_runs, sync_run}
use Rattle.machine_model.specs.Runs.Trace.{lines_of, entered as entered_2, runs, start, trace}
use Rattle.machine_model.specs.Runs.Turns.{acted, ran, turn_of, done_turn}
use Rattle.machine_model.specs.States.Objects.{first_serving as first_serving_2, serve_object}
use Rattle.machine_model.specs.States.State.{state_start}

-- An event goes to a waiting receiver or into its buffer. It is dropped where the buffer takes no message of its length,
-- where it is full, where nobody receives, and behind a waiting sender even where there is room.
dropped_events_script : Script
dropped_events_script = record {
  devices = record { name = codes "a"; kind = devices.Ram 64 } ∷ record { name = codes "b"; kind = devices.Ram 64 } ∷ record { name = codes "c"; kind = devices.Ram 64 } ∷ record { name = codes "f"; kind = devices.Ram 64 } ∷ [];
  pace = None;
  irqs = [];
  boot = record { body = 1; priority = 10 };
  bodies =
      record {
        name = codes "main";
        kind = kinds.Task;
        labels = record { name = codes "next"; place = 10 } ∷ [];
        stmts =
            stmts.Call names.TkCreMbf (args.List 0 ∷ args.Number (pos 0) ∷ args.Number (pos 12) ∷ []) ∷
            stmts.Call names.TkCreMbf (args.List 0 ∷ args.Number (pos 64) ∷ args.Number (pos 8) ∷ []) ∷
            stmts.Call names.TkCreMbf (args.List 0 ∷ args.Number (pos 20) ∷ args.Number (pos 12) ∷ []) ∷
            stmts.Call names.TkCreMbf (args.List 0 ∷ args.Number (pos 40) ∷ args.Number (pos 20) ∷ []) ∷
            stmts.Call names.TkCreTsk (args.List 0 ∷ args.Body 2 ∷ args.Number (pos 5) ∷ args.Number (pos 512) ∷ []) ∷
            stmts.Call names.TkCreTsk (args.List 0 ∷ args.Body 3 ∷ args.Number (pos 4) ∷ args.Number (pos 512) ∷ []) ∷
            stmts.Call names.TkOpnDev (args.Name (codes "a") ∷ args.List 2 ∷ []) ∷
            stmts.Call names.TkOpnDev (args.Name (codes "b") ∷ args.List 2 ∷ []) ∷
            stmts.Call names.TkOpnDev (args.Name (codes "c") ∷ args.List 2 ∷ []) ∷
            stmts.Call names.TkOpnDev (args.Name (codes "f") ∷ args.List 2 ∷ []) ∷
            stmts.Compute operations.Add 5 (operands.Number (pos 1)) ∷
            stmts.Store (operands.Number (pos 0)) (operands.Register 5) ∷
            stmts.Call names.TkSwriDev (args.Register 5 ∷ args.Number (negsuc 0) ∷ args.Number (pos 0) ∷ args.Number (pos 4) ∷ []) ∷
            stmts.Jump (conditions.Less 5 (operands.Number (pos 4))) 0 ∷
            stmts.Call names.TkSndMbf (args.Number (pos 4) ∷ args.Number (pos 0) ∷ args.Number (pos 20) ∷ args.Number (pos 0) ∷ []) ∷
            stmts.Call names.TkStaTsk (args.Number (pos 2) ∷ args.Number (pos 0) ∷ []) ∷
            stmts.Call names.TkStaTsk (args.Number (pos 3) ∷ args.Number (pos 0) ∷ []) ∷
            stmts.Call names.TkSusDev (args.List 1 ∷ []) ∷
            stmts.Call names.TkRefMbf (args.Number (pos 1) ∷ []) ∷
            stmts.Call names.TkRefMbf (args.Number (pos 2) ∷ []) ∷
            stmts.Call names.TkRefMbf (args.Number (pos 3) ∷ []) ∷
            stmts.Call names.TkRefMbf (args.Number (pos 4) ∷ []) ∷
            stmts.Call names.TkRcvMbf (args.Number (pos 3) ∷ args.Number (pos 200) ∷ args.Number (pos 0) ∷ []) ∷
            stmts.Load 5 (operands.Number (pos 204)) ∷
            stmts.Show (operands.Register 5) ∷
            [];
      } ∷
      record {
        name = codes "snd";
        kind = kinds.Task;
        labels = [];
        stmts =
            stmts.Call names.TkSndMbf (args.Number (pos 4) ∷ args.Number (pos 0) ∷ args.Number (pos 16) ∷ args.Number (negsuc 0) ∷ []) ∷
            [];
      } ∷
      record {
        name = codes "rx";
        kind = kinds.Task;
        labels = [];
        stmts =
            stmts.Call names.TkRcvMbf (args.Number (pos 1) ∷ args.Number (pos 100) ∷ args.Number (negsuc 0) ∷ []) ∷
            stmts.Load 5 (operands.Number (pos 100)) ∷
            stmts.Show (operands.Register 5) ∷
            stmts.Load 5 (operands.Number (pos 104)) ∷
            stmts.Show (operands.Register 5) ∷
            [];
      } ∷
      [];
}

dropped_events_entries : List Entry
dropped_events_entries = []

dropped_events_lines : List ℕ
dropped_events_lines =
    codes "0 D 1\n" ++
    codes "1 C 1 tk_cre_mbf 1\n" ++
    codes "2 C 1 tk_cre_mbf 2\n" ++
    codes "3 C 1 tk_cre_mbf 3\n" ++
    codes "4 C 1 tk_cre_mbf 4\n" ++
    codes "5 C 1 tk_cre_tsk 2\n" ++
    codes "6 C 1 tk_cre_tsk 3\n" ++
    codes "7 C 1 tk_opn_dev 1\n" ++
    codes "8 C 1 tk_opn_dev 2\n" ++
    codes "9 C 1 tk_opn_dev 3\n" ++
    codes "10 C 1 tk_opn_dev 4\n" ++
    codes "13 C 1 tk_swri_dev 4\n" ++
    codes "17 C 1 tk_swri_dev 4\n" ++
    codes "21 C 1 tk_swri_dev 4\n" ++
    codes "25 C 1 tk_swri_dev 4\n" ++
    codes "27 C 1 tk_snd_mbf 0\n" ++
    codes "28 C 1 tk_sta_tsk 0\n" ++
    codes "28 D 2\n" ++
    codes "29 B 2 tk_snd_mbf\n" ++
    codes "29 D 1\n" ++
    codes "30 C 1 tk_sta_tsk 0\n" ++
    codes "30 D 3\n" ++
    codes "31 B 3 tk_rcv_mbf\n" ++
    codes "31 D 1\n" ++
    codes "32 C 1 tk_sus_dev 0\n" ++
    codes "32 W 3 tk_rcv_mbf 12\n" ++
    codes "32 D 3\n" ++
    codes "34 S 3 1\n" ++
    codes "36 S 3 1\n" ++
    codes "37 C 3 tk_ext_tsk 0\n" ++
    codes "37 D 1\n" ++
    codes "38 C 1 tk_ref_mbf 0 0 0 0 0\n" ++
    codes "39 C 1 tk_ref_mbf 0 0 0 64 0\n" ++
    codes "40 C 1 tk_ref_mbf 0 0 0 4 12\n" ++
    codes "41 C 1 tk_ref_mbf 0 0 2 16 20\n" ++
    codes "42 C 1 tk_rcv_mbf 12\n" ++
    codes "44 S 1 3\n" ++
    codes "45 C 1 tk_ext_tsk 0\n" ++
    codes "45 D 0\n" ++
    codes "45 END idle\n" ++
    []

dropped_events_run : text_of_lines (lines_of (trace dropped_events_script modes.Free 100000 dropped_events_entries)) ≡ dropped_events_lines
unfolding dropped_events_script dropped_events_entries dropped_events_lines text_of form_of named made task_call_name sem_flag_call_name mutex_call_name mail_call_name pool_call_name time_call_name context_call_name device_call_name hook_call_name name_of code_of error_text coded error_named attributes_of flag_mode_of open_mode_of suspend_mode_of is_name_byte name_at_most why_text value_text words_of text_of_line text_of_lines fetch give call_before create_sem create_flag end_first delete_sem delete_flag refer_sem refer_flag signal_sem set_flag clear_flag wait_sem wait_flag sem_flag_call serve_sem serve_flag first_served serve_sem_flag sem_trial flag_trial chosen free_task create_task delete_task start_task exit_task terminate_task change_priority rotate_ready get_task refer_task sleep delay wake_up cancel_wakeups release_wait suspend_task resume_task task_call mark_of allowed free_from first_serving serve_box serve_mailboxes serve_buffer serve_buffers post create_box delete_box send_box receive_box refer_box create_buffer delete_buffer send_buffer receive_buffer refer_buffer mail_call create_mutex lock_mutex unlock_mutex refer_mutex delete_mutex mutex_call change_priority_beside task_call_beside chain_has current_of resettle free_last ceiling_allows serve_mutex serve_mutexes create_fixed delete_fixed get_fixed release_fixed refer_fixed create_variable delete_variable get_variable release_variable refer_variable pool_call first_free serve_fixed serve_fixed_pools serve_variable serve_variable_pools set_time get_time get_operating_time create_cyclic start_cyclic stop_cyclic delete_cyclic refer_cyclic create_alarm start_alarm stop_alarm delete_alarm refer_alarm time_call body_of next_due again define_handler disable_dispatch enable_dispatch disable_interrupts enable_interrupts refer_system define_service refer_service enter_service context_call left list_existing list_ready list_queue set_hook hook_call open_device refer_device request request_whole wait_ending close_device suspend_devices device_call expected arrive hand_over hand_first messages emptied read_bytes write_bytes accept picked serve_acceptance serve_acceptances serve_ending serve_endings is_with_driver serve_close serve_closes serve_suspension events_sent free_descriptor free_request first_queued at_driver accepted dropped handed asked devices_start block is_last blocks unit cut may_cut arrived entered returned body_returned family_call answered called follow_release follow_each with_releases dispatched followed insert_once with_requests handler_begun due_begun interrupt_begun served_within settle freed_within fallen due_done tick state_after worked counted step sync_runs sync_run entered_2 runs start trace acted ran turn_of done_turn first_serving_2 serve_object state_start digits
dropped_events_run = refl

-- A suspension sends its events to the event buffer of a device.
event_sent_script : Script
event_sent_script = record {
  devices = record { name = codes "d"; kind = devices.Ram 64 } ∷ [];
  pace = None;
  irqs = [];
  boot = record { body = 1; priority = 10 };
  bodies =
      record {
        name = codes "main";
        kind = kinds.Task;
        labels = [];
        stmts =
            stmts.Call names.TkCreMbf (args.List 0 ∷ args.Number (pos 64) ∷ args.Number (pos 12) ∷ []) ∷
            stmts.Call names.TkOpnDev (args.Name (codes "d") ∷ args.List 4 ∷ []) ∷
            stmts.Store (operands.Number (pos 0)) (operands.Number (pos 1)) ∷
            stmts.Call names.TkSwriDev (args.Number (pos 1) ∷ args.Number (negsuc 0) ∷ args.Number (pos 0) ∷ args.Number (pos 4) ∷ []) ∷
            stmts.Call names.TkSusDev (args.List 1 ∷ []) ∷
            stmts.Call names.TkRcvMbf (args.Number (pos 1) ∷ args.Number (pos 100) ∷ args.Number (pos 0) ∷ []) ∷
            stmts.Load 3 (operands.Number (pos 104)) ∷
            stmts.Show (operands.Register 3) ∷
            [];
      } ∷
      [];
}

event_sent_entries : List Entry
event_sent_entries = []

event_sent_lines : List ℕ
event_sent_lines =
    codes "0 D 1\n" ++
    codes "1 C 1 tk_cre_mbf 1\n" ++
    codes "2 C 1 tk_opn_dev 1\n" ++
    codes "4 C 1 tk_swri_dev 4\n" ++
    codes "5 C 1 tk_sus_dev 0\n" ++
    codes "6 C 1 tk_rcv_mbf 12\n" ++
    codes "8 S 1 1\n" ++
    codes "9 C 1 tk_ext_tsk 0\n" ++
    codes "9 D 0\n" ++
    codes "9 END idle\n" ++
    []

event_sent_run : text_of_lines (lines_of (trace event_sent_script modes.Free 100000 event_sent_entries)) ≡ event_sent_lines
unfolding event_sent_script event_sent_entries event_sent_lines text_of form_of named made task_call_name sem_flag_call_name mutex_call_name mail_call_name pool_call_name time_call_name context_call_name device_call_name hook_call_name name_of code_of error_text coded error_named attributes_of flag_mode_of open_mode_of suspend_mode_of is_name_byte name_at_most why_text value_text words_of text_of_line text_of_lines fetch give call_before create_sem create_flag end_first delete_sem delete_flag refer_sem refer_flag signal_sem set_flag clear_flag wait_sem wait_flag sem_flag_call serve_sem serve_flag first_served serve_sem_flag sem_trial flag_trial chosen free_task create_task delete_task start_task exit_task terminate_task change_priority rotate_ready get_task refer_task sleep delay wake_up cancel_wakeups release_wait suspend_task resume_task task_call mark_of allowed free_from first_serving serve_box serve_mailboxes serve_buffer serve_buffers post create_box delete_box send_box receive_box refer_box create_buffer delete_buffer send_buffer receive_buffer refer_buffer mail_call create_mutex lock_mutex unlock_mutex refer_mutex delete_mutex mutex_call change_priority_beside task_call_beside chain_has current_of resettle free_last ceiling_allows serve_mutex serve_mutexes create_fixed delete_fixed get_fixed release_fixed refer_fixed create_variable delete_variable get_variable release_variable refer_variable pool_call first_free serve_fixed serve_fixed_pools serve_variable serve_variable_pools set_time get_time get_operating_time create_cyclic start_cyclic stop_cyclic delete_cyclic refer_cyclic create_alarm start_alarm stop_alarm delete_alarm refer_alarm time_call body_of next_due again define_handler disable_dispatch enable_dispatch disable_interrupts enable_interrupts refer_system define_service refer_service enter_service context_call left list_existing list_ready list_queue set_hook hook_call open_device refer_device request request_whole wait_ending close_device suspend_devices device_call expected arrive hand_over hand_first messages emptied read_bytes write_bytes accept picked serve_acceptance serve_acceptances serve_ending serve_endings is_with_driver serve_close serve_closes serve_suspension events_sent free_descriptor free_request first_queued at_driver accepted dropped handed asked devices_start block is_last blocks unit cut may_cut arrived entered returned body_returned family_call answered called follow_release follow_each with_releases dispatched followed insert_once with_requests handler_begun due_begun interrupt_begun served_within settle freed_within fallen due_done tick state_after worked counted step sync_runs sync_run entered_2 runs start trace acted ran turn_of done_turn first_serving_2 serve_object state_start digits
event_sent_run = refl

-- A suspension whose wait ends by tk_rel_wai, or with its task, sends no event. Then the requests that were held back are
-- handed over at once. A request for the event buffer needs no driver and isn't held back.
given_up_script : Script
given_up_script = record {
  devices = record { name = codes "a"; kind = devices.Ram 64 } ∷ record { name = codes "b"; kind = devices.Ram 64 } ∷ [];
  pace = None;
  irqs = [];
  boot = record { body = 1; priority = 10 };
  bodies =
      record {
        name = codes "main";
        kind = kinds.Task;
        labels = [];
        stmts =
            stmts.Call names.TkCreMbf (args.List 0 ∷ args.Number (pos 64) ∷ args.Number (pos 12) ∷ []) ∷
            stmts.Call names.TkCreTsk (args.List 0 ∷ args.Body 2 ∷ args.Number (pos 5) ∷ args.Number (pos 512) ∷ []) ∷
            stmts.Call names.TkOpnDev (args.Name (codes "a") ∷ args.List 4 ∷ []) ∷
            stmts.Call names.TkOpnDev (args.Name (codes "b") ∷ args.List 4 ∷ []) ∷
            stmts.Store (operands.Number (pos 0)) (operands.Number (pos 1)) ∷
            stmts.Call names.TkSwriDev (args.Number (pos 2) ∷ args.Number (negsuc 0) ∷ args.Number (pos 0) ∷ args.Number (pos 4) ∷ []) ∷
            stmts.Call names.TkSusDev (args.List 2 ∷ []) ∷
            stmts.Call names.TkReaDev (args.Number (pos 1) ∷ args.Number (pos 0) ∷ args.Number (pos 100) ∷ args.Number (pos 1) ∷ args.Number (negsuc 0) ∷ []) ∷
            stmts.Call names.TkStaTsk (args.Number (pos 2) ∷ args.Number (pos 0) ∷ []) ∷
            stmts.Call names.TkReaDev (args.Number (pos 2) ∷ args.Number (pos 0) ∷ args.Number (pos 100) ∷ args.Number (pos 1) ∷ args.Number (negsuc 0) ∷ []) ∷
            stmts.Call names.TkSreaDev (args.Number (pos 2) ∷ args.Number (negsuc 0) ∷ args.Number (pos 104) ∷ args.Number (pos 4) ∷ []) ∷
            stmts.Call names.TkRelWai (args.Number (pos 2) ∷ []) ∷
            stmts.Call names.TkTerTsk (args.Number (pos 2) ∷ []) ∷
            stmts.Call names.TkReaDev (args.Number (pos 2) ∷ args.Number (pos 0) ∷ args.Number (pos 100) ∷ args.Number (pos 1) ∷ args.Number (negsuc 0) ∷ []) ∷
            stmts.Call names.TkRefMbf (args.Number (pos 1) ∷ []) ∷
            stmts.Call names.TkWaiDev (args.Number (pos 1) ∷ args.Number (pos 1) ∷ args.Number (negsuc 0) ∷ []) ∷
            [];
      } ∷
      record {
        name = codes "sus";
        kind = kinds.Task;
        labels = [];
        stmts =
            stmts.Call names.TkSusDev (args.List 1 ∷ []) ∷
            stmts.Call names.TkSusDev (args.List 17 ∷ []) ∷
            stmts.Call names.TkSusDev (args.List 17 ∷ []) ∷
            [];
      } ∷
      [];
}

given_up_entries : List Entry
given_up_entries = record { place = 15; device = 2; request = 2; how = hows.Done } ∷ record { place = 18; device = 2; request = 3; how = hows.Done } ∷ record { place = 20; device = 1; request = 1; how = hows.Done } ∷ []

given_up_lines : List ℕ
given_up_lines =
    codes "0 D 1\n" ++
    codes "1 C 1 tk_cre_mbf 1\n" ++
    codes "2 C 1 tk_cre_tsk 2\n" ++
    codes "3 C 1 tk_opn_dev 1\n" ++
    codes "4 C 1 tk_opn_dev 2\n" ++
    codes "6 C 1 tk_swri_dev 4\n" ++
    codes "7 C 1 tk_sus_dev 1\n" ++
    codes "8 C 1 tk_rea_dev 1\n" ++
    codes "9 C 1 tk_sta_tsk 0\n" ++
    codes "9 D 2\n" ++
    codes "10 C 2 tk_sus_dev E_BUSY\n" ++
    codes "11 B 2 tk_sus_dev\n" ++
    codes "11 D 1\n" ++
    codes "12 C 1 tk_rea_dev 2\n" ++
    codes "13 C 1 tk_srea_dev 4\n" ++
    codes "14 C 1 tk_rel_wai 0\n" ++
    codes "14 W 2 tk_sus_dev E_RLWAI\n" ++
    codes "14 D 2\n" ++
    codes "15 J 2 2 done 0 1\n" ++
    codes "15 B 2 tk_sus_dev\n" ++
    codes "15 D 1\n" ++
    codes "16 C 1 tk_ter_tsk 0\n" ++
    codes "17 C 1 tk_rea_dev 3\n" ++
    codes "18 J 2 3 done 0 1\n" ++
    codes "18 C 1 tk_ref_mbf 0 0 0 64 0\n" ++
    codes "19 B 1 tk_wai_dev\n" ++
    codes "19 D 0\n" ++
    codes "20 J 1 1 done 0 1\n" ++
    codes "20 W 1 tk_wai_dev 1 1 0\n" ++
    codes "20 D 1\n" ++
    codes "20 C 1 tk_ext_tsk 0\n" ++
    codes "20 D 0\n" ++
    codes "20 END idle\n" ++
    []

given_up_run : text_of_lines (lines_of (trace given_up_script modes.Free 100000 given_up_entries)) ≡ given_up_lines
unfolding given_up_script given_up_entries given_up_lines text_of form_of named made task_call_name sem_flag_call_name mutex_call_name mail_call_name pool_call_name time_call_name context_call_name device_call_name hook_call_name name_of code_of error_text coded error_named attributes_of flag_mode_of open_mode_of suspend_mode_of is_name_byte name_at_most why_text value_text words_of text_of_line text_of_lines fetch give call_before create_sem create_flag end_first delete_sem delete_flag refer_sem refer_flag signal_sem set_flag clear_flag wait_sem wait_flag sem_flag_call serve_sem serve_flag first_served serve_sem_flag sem_trial flag_trial chosen free_task create_task delete_task start_task exit_task terminate_task change_priority rotate_ready get_task refer_task sleep delay wake_up cancel_wakeups release_wait suspend_task resume_task task_call mark_of allowed free_from first_serving serve_box serve_mailboxes serve_buffer serve_buffers post create_box delete_box send_box receive_box refer_box create_buffer delete_buffer send_buffer receive_buffer refer_buffer mail_call create_mutex lock_mutex unlock_mutex refer_mutex delete_mutex mutex_call change_priority_beside task_call_beside chain_has current_of resettle free_last ceiling_allows serve_mutex serve_mutexes create_fixed delete_fixed get_fixed release_fixed refer_fixed create_variable delete_variable get_variable release_variable refer_variable pool_call first_free serve_fixed serve_fixed_pools serve_variable serve_variable_pools set_time get_time get_operating_time create_cyclic start_cyclic stop_cyclic delete_cyclic refer_cyclic create_alarm start_alarm stop_alarm delete_alarm refer_alarm time_call body_of next_due again define_handler disable_dispatch enable_dispatch disable_interrupts enable_interrupts refer_system define_service refer_service enter_service context_call left list_existing list_ready list_queue set_hook hook_call open_device refer_device request request_whole wait_ending close_device suspend_devices device_call expected arrive hand_over hand_first messages emptied read_bytes write_bytes accept picked serve_acceptance serve_acceptances serve_ending serve_endings is_with_driver serve_close serve_closes serve_suspension events_sent free_descriptor free_request first_queued at_driver accepted dropped handed asked devices_start block is_last blocks unit cut may_cut arrived entered returned body_returned family_call answered called follow_release follow_each with_releases dispatched followed insert_once with_requests handler_begun due_begun interrupt_begun served_within settle freed_within fallen due_done tick state_after worked counted step sync_runs sync_run entered_2 runs start trace acted ran turn_of done_turn first_serving_2 serve_object state_start digits
given_up_run = refl

-- The errors of tk_sus_dev in their order, and its count: each mode answers it. A suspension is busy while it is disabled,
-- but not a forced one.
refused_script : Script
refused_script = record {
  devices = record { name = codes "a"; kind = devices.Ram 64 } ∷ [];
  pace = None;
  irqs = record { step = 17; number = 1 } ∷ [];
  boot = record { body = 1; priority = 10 };
  bodies =
      record {
        name = codes "main";
        kind = kinds.Task;
        labels = [];
        stmts =
            stmts.Call names.TkDefInt (args.Number (pos 1) ∷ args.Body 2 ∷ []) ∷
            stmts.Call names.TkSusDev (args.List 0 ∷ []) ∷
            stmts.Call names.TkSusDev (args.List 9 ∷ []) ∷
            stmts.Call names.TkSusDev (args.List 16 ∷ []) ∷
            stmts.Call names.TkSusDev (args.List 18 ∷ []) ∷
            stmts.Call names.TkSusDev (args.List 4 ∷ []) ∷
            stmts.Call names.TkSusDev (args.List 2 ∷ []) ∷
            stmts.Call names.TkSusDev (args.List 2 ∷ []) ∷
            stmts.Call names.TkSusDev (args.List 8 ∷ []) ∷
            stmts.Call names.TkSusDev (args.List 1 ∷ []) ∷
            stmts.Call names.TkSusDev (args.List 17 ∷ []) ∷
            stmts.Call names.TkSusDev (args.List 4 ∷ []) ∷
            stmts.Call names.TkDisDsp ([]) ∷
            stmts.Call names.TkSusDev (args.List 0 ∷ []) ∷
            stmts.Call names.TkSusDev (args.List 1 ∷ []) ∷
            stmts.Call names.TkEnaDsp ([]) ∷
            stmts.Call names.Di ([]) ∷
            stmts.Call names.TkSusDev (args.List 8 ∷ []) ∷
            stmts.Call names.Ei ([]) ∷
            stmts.Call names.TkSusDev (args.List 4 ∷ []) ∷
            stmts.Call names.TkSusDev (args.List 1 ∷ []) ∷
            [];
      } ∷
      record {
        name = codes "h";
        kind = kinds.Hand;
        labels = [];
        stmts =
            stmts.Call names.TkSusDev (args.List 4 ∷ []) ∷
            [];
      } ∷
      [];
}

refused_entries : List Entry
refused_entries = []

refused_lines : List ℕ
refused_lines =
    codes "0 D 1\n" ++
    codes "1 C 1 tk_def_int 0\n" ++
    codes "2 C 1 tk_sus_dev E_PAR\n" ++
    codes "3 C 1 tk_sus_dev E_PAR\n" ++
    codes "4 C 1 tk_sus_dev E_PAR\n" ++
    codes "5 C 1 tk_sus_dev E_PAR\n" ++
    codes "6 C 1 tk_sus_dev 0\n" ++
    codes "7 C 1 tk_sus_dev 1\n" ++
    codes "8 C 1 tk_sus_dev 2\n" ++
    codes "9 C 1 tk_sus_dev 2\n" ++
    codes "10 C 1 tk_sus_dev E_BUSY\n" ++
    codes "11 C 1 tk_sus_dev 2\n" ++
    codes "12 C 1 tk_sus_dev 1\n" ++
    codes "13 C 1 tk_dis_dsp 0\n" ++
    codes "14 C 1 tk_sus_dev E_PAR\n" ++
    codes "15 C 1 tk_sus_dev E_CTX\n" ++
    codes "16 C 1 tk_ena_dsp 0\n" ++
    codes "17 I int 1\n" ++
    codes "18 C 0 tk_sus_dev E_CTX\n" ++
    codes "20 C 1 DI 0\n" ++
    codes "21 C 1 tk_sus_dev E_CTX\n" ++
    codes "22 C 1 EI 0\n" ++
    codes "23 C 1 tk_sus_dev 0\n" ++
    codes "24 C 1 tk_sus_dev 0\n" ++
    codes "25 C 1 tk_ext_tsk 0\n" ++
    codes "25 D 0\n" ++
    codes "25 END idle\n" ++
    []

refused_run : text_of_lines (lines_of (trace refused_script modes.Free 100000 refused_entries)) ≡ refused_lines
unfolding refused_script refused_entries refused_lines text_of form_of named made task_call_name sem_flag_call_name mutex_call_name mail_call_name pool_call_name time_call_name context_call_name device_call_name hook_call_name name_of code_of error_text coded error_named attributes_of flag_mode_of open_mode_of suspend_mode_of is_name_byte name_at_most why_text value_text words_of text_of_line text_of_lines fetch give call_before create_sem create_flag end_first delete_sem delete_flag refer_sem refer_flag signal_sem set_flag clear_flag wait_sem wait_flag sem_flag_call serve_sem serve_flag first_served serve_sem_flag sem_trial flag_trial chosen free_task create_task delete_task start_task exit_task terminate_task change_priority rotate_ready get_task refer_task sleep delay wake_up cancel_wakeups release_wait suspend_task resume_task task_call mark_of allowed free_from first_serving serve_box serve_mailboxes serve_buffer serve_buffers post create_box delete_box send_box receive_box refer_box create_buffer delete_buffer send_buffer receive_buffer refer_buffer mail_call create_mutex lock_mutex unlock_mutex refer_mutex delete_mutex mutex_call change_priority_beside task_call_beside chain_has current_of resettle free_last ceiling_allows serve_mutex serve_mutexes create_fixed delete_fixed get_fixed release_fixed refer_fixed create_variable delete_variable get_variable release_variable refer_variable pool_call first_free serve_fixed serve_fixed_pools serve_variable serve_variable_pools set_time get_time get_operating_time create_cyclic start_cyclic stop_cyclic delete_cyclic refer_cyclic create_alarm start_alarm stop_alarm delete_alarm refer_alarm time_call body_of next_due again define_handler disable_dispatch enable_dispatch disable_interrupts enable_interrupts refer_system define_service refer_service enter_service context_call left list_existing list_ready list_queue set_hook hook_call open_device refer_device request request_whole wait_ending close_device suspend_devices device_call expected arrive hand_over hand_first messages emptied read_bytes write_bytes accept picked serve_acceptance serve_acceptances serve_ending serve_endings is_with_driver serve_close serve_closes serve_suspension events_sent free_descriptor free_request first_queued at_driver accepted dropped handed asked devices_start block is_last blocks unit cut may_cut arrived entered returned body_returned family_call answered called follow_release follow_each with_releases dispatched followed insert_once with_requests handler_begun due_begun interrupt_begun served_within settle freed_within fallen due_done tick state_after worked counted step sync_runs sync_run entered_2 runs start trace acted ran turn_of done_turn first_serving_2 serve_object state_start digits
refused_run = refl

-- A suspension waits until no request is with a driver; meanwhile none is handed over, and another suspension is busy, also
-- a forced one. At the ending the close is served first, then the suspension, then who takes its events: first event 1
-- to the devices from the last to the first, then event 2 from the first to the last.
waits_for_drivers_script : Script
waits_for_drivers_script = record {
  devices = record { name = codes "a"; kind = devices.Ram 64 } ∷ record { name = codes "b"; kind = devices.Ram 64 } ∷ [];
  pace = None;
  irqs = [];
  boot = record { body = 1; priority = 10 };
  bodies =
      record {
        name = codes "main";
        kind = kinds.Task;
        labels = [];
        stmts =
            stmts.Call names.TkCreMbf (args.List 0 ∷ args.Number (pos 64) ∷ args.Number (pos 12) ∷ []) ∷
            stmts.Call names.TkCreTsk (args.List 0 ∷ args.Body 2 ∷ args.Number (pos 5) ∷ args.Number (pos 512) ∷ []) ∷
            stmts.Call names.TkCreTsk (args.List 0 ∷ args.Body 3 ∷ args.Number (pos 4) ∷ args.Number (pos 512) ∷ []) ∷
            stmts.Call names.TkCreTsk (args.List 0 ∷ args.Body 4 ∷ args.Number (pos 6) ∷ args.Number (pos 512) ∷ []) ∷
            stmts.Call names.TkOpnDev (args.Name (codes "a") ∷ args.List 4 ∷ []) ∷
            stmts.Call names.TkOpnDev (args.Name (codes "b") ∷ args.List 4 ∷ []) ∷
            stmts.Store (operands.Number (pos 0)) (operands.Number (pos 1)) ∷
            stmts.Call names.TkSwriDev (args.Number (pos 1) ∷ args.Number (negsuc 0) ∷ args.Number (pos 0) ∷ args.Number (pos 4) ∷ []) ∷
            stmts.Call names.TkSwriDev (args.Number (pos 2) ∷ args.Number (negsuc 0) ∷ args.Number (pos 0) ∷ args.Number (pos 4) ∷ []) ∷
            stmts.Call names.TkReaDev (args.Number (pos 1) ∷ args.Number (pos 0) ∷ args.Number (pos 100) ∷ args.Number (pos 1) ∷ args.Number (negsuc 0) ∷ []) ∷
            stmts.Call names.TkReaDev (args.Number (pos 1) ∷ args.Number (pos 0) ∷ args.Number (pos 100) ∷ args.Number (pos 1) ∷ args.Number (negsuc 0) ∷ []) ∷
            stmts.Call names.TkStaTsk (args.Number (pos 3) ∷ args.Number (pos 0) ∷ []) ∷
            stmts.Call names.TkStaTsk (args.Number (pos 2) ∷ args.Number (pos 0) ∷ []) ∷
            stmts.Call names.TkSusDev (args.List 17 ∷ []) ∷
            stmts.Call names.TkSusDev (args.List 2 ∷ []) ∷
            stmts.Call names.TkReaDev (args.Number (pos 2) ∷ args.Number (pos 0) ∷ args.Number (pos 100) ∷ args.Number (pos 1) ∷ args.Number (negsuc 0) ∷ []) ∷
            stmts.Call names.TkStaTsk (args.Number (pos 4) ∷ args.Number (pos 0) ∷ []) ∷
            stmts.Call names.TkWaiDev (args.Number (pos 2) ∷ args.Number (pos 3) ∷ args.Number (negsuc 0) ∷ []) ∷
            [];
      } ∷
      record {
        name = codes "sus";
        kind = kinds.Task;
        labels = [];
        stmts =
            stmts.Call names.TkSusDev (args.List 1 ∷ []) ∷
            [];
      } ∷
      record {
        name = codes "rx";
        kind = kinds.Task;
        labels = [];
        stmts =
            stmts.Call names.TkRcvMbf (args.Number (pos 1) ∷ args.Number (pos 200) ∷ args.Number (negsuc 0) ∷ []) ∷
            stmts.Call names.TkRcvMbf (args.Number (pos 1) ∷ args.Number (pos 212) ∷ args.Number (negsuc 0) ∷ []) ∷
            stmts.Call names.TkRcvMbf (args.Number (pos 1) ∷ args.Number (pos 224) ∷ args.Number (negsuc 0) ∷ []) ∷
            stmts.Call names.TkRcvMbf (args.Number (pos 1) ∷ args.Number (pos 236) ∷ args.Number (pos 0) ∷ []) ∷
            stmts.Load 5 (operands.Number (pos 200)) ∷
            stmts.Show (operands.Register 5) ∷
            stmts.Load 5 (operands.Number (pos 204)) ∷
            stmts.Show (operands.Register 5) ∷
            stmts.Load 5 (operands.Number (pos 212)) ∷
            stmts.Show (operands.Register 5) ∷
            stmts.Load 5 (operands.Number (pos 216)) ∷
            stmts.Show (operands.Register 5) ∷
            stmts.Load 5 (operands.Number (pos 224)) ∷
            stmts.Show (operands.Register 5) ∷
            stmts.Load 5 (operands.Number (pos 228)) ∷
            stmts.Show (operands.Register 5) ∷
            stmts.Load 5 (operands.Number (pos 236)) ∷
            stmts.Show (operands.Register 5) ∷
            stmts.Load 5 (operands.Number (pos 240)) ∷
            stmts.Show (operands.Register 5) ∷
            [];
      } ∷
      record {
        name = codes "cl";
        kind = kinds.Task;
        labels = [];
        stmts =
            stmts.Call names.TkClsDev (args.Number (pos 1) ∷ []) ∷
            [];
      } ∷
      [];
}

waits_for_drivers_entries : List Entry
waits_for_drivers_entries = record { place = 21; device = 1; request = 1; how = hows.Cut 0 } ∷ record { place = 44; device = 2; request = 3; how = hows.Done } ∷ []

waits_for_drivers_lines : List ℕ
waits_for_drivers_lines =
    codes "0 D 1\n" ++
    codes "1 C 1 tk_cre_mbf 1\n" ++
    codes "2 C 1 tk_cre_tsk 2\n" ++
    codes "3 C 1 tk_cre_tsk 3\n" ++
    codes "4 C 1 tk_cre_tsk 4\n" ++
    codes "5 C 1 tk_opn_dev 1\n" ++
    codes "6 C 1 tk_opn_dev 2\n" ++
    codes "8 C 1 tk_swri_dev 4\n" ++
    codes "9 C 1 tk_swri_dev 4\n" ++
    codes "10 C 1 tk_rea_dev 1\n" ++
    codes "11 C 1 tk_rea_dev 2\n" ++
    codes "12 C 1 tk_sta_tsk 0\n" ++
    codes "12 D 3\n" ++
    codes "13 B 3 tk_rcv_mbf\n" ++
    codes "13 D 1\n" ++
    codes "14 C 1 tk_sta_tsk 0\n" ++
    codes "14 D 2\n" ++
    codes "15 B 2 tk_sus_dev\n" ++
    codes "15 D 1\n" ++
    codes "16 C 1 tk_sus_dev E_BUSY\n" ++
    codes "17 C 1 tk_sus_dev 1\n" ++
    codes "18 C 1 tk_rea_dev 3\n" ++
    codes "19 C 1 tk_sta_tsk 0\n" ++
    codes "19 D 4\n" ++
    codes "20 B 4 tk_cls_dev\n" ++
    codes "20 D 1\n" ++
    codes "21 J 1 1 cut 0\n" ++
    codes "21 W 4 tk_cls_dev 0\n" ++
    codes "21 W 2 tk_sus_dev 1\n" ++
    codes "21 W 3 tk_rcv_mbf 12\n" ++
    codes "21 D 3\n" ++
    codes "21 C 3 tk_rcv_mbf 12\n" ++
    codes "22 C 3 tk_rcv_mbf 12\n" ++
    codes "23 C 3 tk_rcv_mbf 12\n" ++
    codes "25 S 3 1\n" ++
    codes "27 S 3 2\n" ++
    codes "29 S 3 1\n" ++
    codes "31 S 3 1\n" ++
    codes "33 S 3 2\n" ++
    codes "35 S 3 1\n" ++
    codes "37 S 3 2\n" ++
    codes "39 S 3 2\n" ++
    codes "40 C 3 tk_ext_tsk 0\n" ++
    codes "40 D 2\n" ++
    codes "41 C 2 tk_ext_tsk 0\n" ++
    codes "41 D 4\n" ++
    codes "42 C 4 tk_ext_tsk 0\n" ++
    codes "42 D 1\n" ++
    codes "43 B 1 tk_wai_dev\n" ++
    codes "43 D 0\n" ++
    codes "44 J 2 3 done 0 1\n" ++
    codes "44 W 1 tk_wai_dev 3 1 0\n" ++
    codes "44 D 1\n" ++
    codes "44 C 1 tk_ext_tsk 0\n" ++
    codes "44 D 0\n" ++
    codes "44 END idle\n" ++
    []

waits_for_drivers_run : text_of_lines (lines_of (trace waits_for_drivers_script modes.Free 100000 waits_for_drivers_entries)) ≡ waits_for_drivers_lines
unfolding waits_for_drivers_script waits_for_drivers_entries waits_for_drivers_lines text_of form_of named made task_call_name sem_flag_call_name mutex_call_name mail_call_name pool_call_name time_call_name context_call_name device_call_name hook_call_name name_of code_of error_text coded error_named attributes_of flag_mode_of open_mode_of suspend_mode_of is_name_byte name_at_most why_text value_text words_of text_of_line text_of_lines fetch give call_before create_sem create_flag end_first delete_sem delete_flag refer_sem refer_flag signal_sem set_flag clear_flag wait_sem wait_flag sem_flag_call serve_sem serve_flag first_served serve_sem_flag sem_trial flag_trial chosen free_task create_task delete_task start_task exit_task terminate_task change_priority rotate_ready get_task refer_task sleep delay wake_up cancel_wakeups release_wait suspend_task resume_task task_call mark_of allowed free_from first_serving serve_box serve_mailboxes serve_buffer serve_buffers post create_box delete_box send_box receive_box refer_box create_buffer delete_buffer send_buffer receive_buffer refer_buffer mail_call create_mutex lock_mutex unlock_mutex refer_mutex delete_mutex mutex_call change_priority_beside task_call_beside chain_has current_of resettle free_last ceiling_allows serve_mutex serve_mutexes create_fixed delete_fixed get_fixed release_fixed refer_fixed create_variable delete_variable get_variable release_variable refer_variable pool_call first_free serve_fixed serve_fixed_pools serve_variable serve_variable_pools set_time get_time get_operating_time create_cyclic start_cyclic stop_cyclic delete_cyclic refer_cyclic create_alarm start_alarm stop_alarm delete_alarm refer_alarm time_call body_of next_due again define_handler disable_dispatch enable_dispatch disable_interrupts enable_interrupts refer_system define_service refer_service enter_service context_call left list_existing list_ready list_queue set_hook hook_call open_device refer_device request request_whole wait_ending close_device suspend_devices device_call expected arrive hand_over hand_first messages emptied read_bytes write_bytes accept picked serve_acceptance serve_acceptances serve_ending serve_endings is_with_driver serve_close serve_closes serve_suspension events_sent free_descriptor free_request first_queued at_driver accepted dropped handed asked devices_start block is_last blocks unit cut may_cut arrived entered returned body_returned family_call answered called follow_release follow_each with_releases dispatched followed insert_once with_requests handler_begun due_begun interrupt_begun served_within settle freed_within fallen due_done tick state_after worked counted step sync_runs sync_run entered_2 runs start trace acted ran turn_of done_turn first_serving_2 serve_object state_start digits
waits_for_drivers_run = refl
