-- Runs that were worked out by hand from the rules, as runs/object/buffers has them: each a theorem by computation.
use Rattle.std.specs.Prelude.{ℕ, pos, negsuc, List, [], ◌∷◌, ◌++◌, Some, None, codes, ◌≡◌, refl}
use Rattle.std.specs.Fmt.{digits}
use Rattle.tk_types.specs.declared.script.Script.{Script}
use Rattle.tk_types.specs.declared.script.BodyKind.TheVariants as kinds
use Rattle.tk_types.specs.declared.script.Kind.TheVariants as devices
use Rattle.tk_types.specs.declared.script.Stmt.TheVariants as stmts
use Rattle.tk_types.specs.declared.script.Operand.TheVariants as operands
use Rattle.tk_types.specs.declared.script.Operation.TheVariants as operations
use Rattle.tk_types.specs.declared.script.Condition.TheVariants as conditions
use Rattle.tk_types.specs.declared.script.Arg.TheVariants as args
use Rattle.tk_types.specs.declared.call_name.CallName.TheVariants as names
use Rattle.tk_types.specs.declared.line.Entry.{Entry}
use Rattle.tk_types.specs.declared.line.How.TheVariants as hows
use Rattle.tk_types.specs.declared.run.Mode.TheVariants as modes
use Rattle.tk_types.specs.CallNames.{text_of, form_of, named}
use Rattle.tk_types.specs.Calls.{made, task_call_name, sem_flag_call_name, mutex_call_name, mail_call_name, pool_call_name, time_call_name, context_call_name, device_call_name, hook_call_name, name_of}
use Rattle.tk_types.specs.Codes.{code_of, error_text, coded, error_named}
use Rattle.tk_types.specs.Modes.{attributes_of, flag_mode_of, open_mode_of, suspend_mode_of}
use Rattle.tk_types.specs.Names.{is_name_byte, name_at_most}
use Rattle.tk_types.specs.Reasons.{why_text}
use Rattle.tk_model.specs.LineText.{value_text, words_of, text_of_line, text_of_lines}
use Rattle.kernel_model.specs.Bodies.Statements.{fetch, give, call_before}
use Rattle.kernel_model.specs.SemFlags.Calls.{create_sem, create_flag, end_first, delete_sem, delete_flag, refer_sem, refer_flag, signal_sem, set_flag, clear_flag, wait_sem, wait_flag, sem_flag_call}
use Rattle.kernel_model.specs.SemFlags.Tables.{serve_sem, serve_flag, first_served, serve_sem_flag}
use Rattle.kernel_model.specs.SemFlags.Trial.{sem_trial, flag_trial}
use Rattle.kernel_model.specs.Tasks.Base.{chosen, free_task}
use Rattle.kernel_model.specs.Tasks.Calls.{create_task, delete_task, start_task, exit_task, terminate_task, change_priority, rotate_ready, get_task, refer_task, sleep, delay, wake_up, cancel_wakeups, release_wait, suspend_task, resume_task, task_call}
use Rattle.kernel_model.specs.Tasks.Marks.{mark_of, allowed}
use Rattle.kernel_model.specs.Words.Orders.{free_from}
use Rattle.object_model.specs.Servings.{first_serving}
use Rattle.object_model.specs.Mails.Boxes.{serve_box, serve_mailboxes}
use Rattle.object_model.specs.Mails.Buffers.{serve_buffer, serve_buffers, post}
use Rattle.object_model.specs.Mails.Calls.{create_box, delete_box, send_box, receive_box, refer_box, create_buffer, delete_buffer, send_buffer, receive_buffer, refer_buffer, mail_call}
use Rattle.object_model.specs.Mutexes.Calls.{create_mutex, lock_mutex, unlock_mutex, refer_mutex, delete_mutex, mutex_call, change_priority_beside, task_call_beside}
use Rattle.object_model.specs.Mutexes.Priority.{chain_has, current_of, resettle}
use Rattle.object_model.specs.Mutexes.Tables.{free_last, ceiling_allows, serve_mutex, serve_mutexes}
use Rattle.object_model.specs.Pools.Calls.{create_fixed, delete_fixed, get_fixed, release_fixed, refer_fixed, create_variable, delete_variable, get_variable, release_variable, refer_variable, pool_call}
use Rattle.object_model.specs.Pools.Fixed.{first_free, serve_fixed, serve_fixed_pools}
use Rattle.object_model.specs.Pools.Variable.{serve_variable, serve_variable_pools}
use Rattle.context_model.specs.Clocks.Calls.{set_time, get_time, get_operating_time, create_cyclic, start_cyclic, stop_cyclic, delete_cyclic, refer_cyclic, create_alarm, start_alarm, stop_alarm, delete_alarm, refer_alarm, time_call}
use Rattle.context_model.specs.Clocks.Tables.{body_of, next_due, again}
use Rattle.context_model.specs.Contexts.Calls.{define_handler, disable_dispatch, enable_dispatch, disable_interrupts, enable_interrupts, refer_system, define_service, refer_service, enter_service, context_call}
use Rattle.context_model.specs.Contexts.Tables.{left}
use Rattle.context_model.specs.Hooks.Calls.{list_existing, list_ready, list_queue, set_hook, hook_call}
use Rattle.device_model.specs.Devices.Calls.{open_device, refer_device, request, request_whole, wait_ending, close_device, suspend_devices, device_call}
use Rattle.device_model.specs.Devices.Endings.{expected, arrive}
use Rattle.device_model.specs.Devices.Handing.{hand_over, hand_first, messages, emptied}
use Rattle.device_model.specs.Devices.Memory.{read_bytes, write_bytes}
use Rattle.device_model.specs.Devices.Requests.{accept, picked}
use Rattle.device_model.specs.Devices.Servings.{serve_acceptance, serve_acceptances, serve_ending, serve_endings, is_with_driver, serve_close, serve_closes, serve_suspension}
use Rattle.device_model.specs.Devices.Suspension.{events_sent}
use Rattle.device_model.specs.Devices.Tables.{free_descriptor, free_request, first_queued, at_driver, accepted, dropped, handed, asked, devices_start}
use Rattle.device_model.specs.Units.Blocks.{block, is_last, blocks}
use Rattle.device_model.specs.Units.Function.{unit, cut, may_cut}
use Rattle.machine_model.specs.Events.Arrivals.{arrived}
use Rattle.machine_model.specs.Events.Bodies.{entered, returned, body_returned}
use Rattle.machine_model.specs.Events.Calls.{family_call, answered, called}
use Rattle.machine_model.specs.Events.Follow.{follow_release, follow_each, with_releases, dispatched, followed}
use Rattle.machine_model.specs.Events.Handlers.{insert_once, with_requests, handler_begun, due_begun, interrupt_begun}
use Rattle.machine_model.specs.Events.Settle.{served_within, settle, freed_within}
use Rattle.machine_model.specs.Events.Ticks.{fallen, due_done, tick}
use Rattle.machine_model.specs.Runs.Reached.{state_after}
use Rattle.machine_model.specs.Runs.Step.{worked, counted, step}
use Rattle.machine_model.specs.Runs.SyncTrace.{sync_runs, sync_run}
use Rattle.machine_model.specs.Runs.Trace.{lines_of, entered as entered_2, runs, start, trace}
use Rattle.machine_model.specs.Runs.Turns.{acted, ran, turn_of, done_turn}
use Rattle.machine_model.specs.States.Objects.{first_serving as first_serving_2, serve_object}
use Rattle.machine_model.specs.States.State.{state_start}

-- A buffer without bytes: a send is over at once without a receiver, and goes to one that waits.
direct_message_script : Script
direct_message_script = record {
  devices = [];
  pace = None;
  irqs = [];
  boot = record { body = 1; priority = 10 };
  bodies =
      record {
        name = codes "main";
        kind = kinds.Task;
        labels = [];
        stmts =
            stmts.Call names.TkCreMbf (args.List 0 ∷ args.Number (pos 0) ∷ args.Number (pos 8) ∷ []) ∷
            stmts.Call names.TkCreTsk (args.List 0 ∷ args.Body 2 ∷ args.Number (pos 5) ∷ args.Number (pos 512) ∷ []) ∷
            stmts.Call names.TkSndMbf (args.Number (pos 1) ∷ args.Number (pos 0) ∷ args.Number (pos 8) ∷ args.Number (pos 0) ∷ []) ∷
            stmts.Call names.TkStaTsk (args.Number (pos 2) ∷ args.Number (pos 0) ∷ []) ∷
            stmts.Store (operands.Number (pos 0)) (operands.Number (pos 65)) ∷
            stmts.Call names.TkSndMbf (args.Number (pos 1) ∷ args.Number (pos 0) ∷ args.Number (pos 8) ∷ args.Number (negsuc 0) ∷ []) ∷
            stmts.Call names.TkSndMbf (args.Number (pos 1) ∷ args.Number (pos 0) ∷ args.Number (pos 9) ∷ args.Number (negsuc 0) ∷ []) ∷
            stmts.Call names.TkSndMbf (args.Number (pos 1) ∷ args.Number (pos 0) ∷ args.Number (pos 0) ∷ args.Number (negsuc 0) ∷ []) ∷
            [];
      } ∷
      record {
        name = codes "rx";
        kind = kinds.Task;
        labels = [];
        stmts =
            stmts.Call names.TkRcvMbf (args.Number (pos 1) ∷ args.Number (pos 100) ∷ args.Number (negsuc 0) ∷ []) ∷
            stmts.Load 3 (operands.Number (pos 100)) ∷
            stmts.Show (operands.Register 3) ∷
            [];
      } ∷
      [];
}

direct_message_entries : List Entry
direct_message_entries = []

direct_message_lines : List ℕ
direct_message_lines =
    codes "0 D 1\n" ++
    codes "1 C 1 tk_cre_mbf 1\n" ++
    codes "2 C 1 tk_cre_tsk 2\n" ++
    codes "3 C 1 tk_snd_mbf E_TMOUT\n" ++
    codes "4 C 1 tk_sta_tsk 0\n" ++
    codes "4 D 2\n" ++
    codes "5 B 2 tk_rcv_mbf\n" ++
    codes "5 D 1\n" ++
    codes "7 C 1 tk_snd_mbf 0\n" ++
    codes "7 W 2 tk_rcv_mbf 8\n" ++
    codes "7 D 2\n" ++
    codes "9 S 2 65\n" ++
    codes "10 C 2 tk_ext_tsk 0\n" ++
    codes "10 D 1\n" ++
    codes "11 C 1 tk_snd_mbf E_PAR\n" ++
    codes "12 C 1 tk_snd_mbf E_PAR\n" ++
    codes "13 C 1 tk_ext_tsk 0\n" ++
    codes "13 D 0\n" ++
    codes "13 END idle\n" ++
    []

direct_message_run : text_of_lines (lines_of (trace direct_message_script modes.Free 100000 direct_message_entries)) ≡ direct_message_lines
unfolding direct_message_script direct_message_entries direct_message_lines text_of form_of named made task_call_name sem_flag_call_name mutex_call_name mail_call_name pool_call_name time_call_name context_call_name device_call_name hook_call_name name_of code_of error_text coded error_named attributes_of flag_mode_of open_mode_of suspend_mode_of is_name_byte name_at_most why_text value_text words_of text_of_line text_of_lines fetch give call_before create_sem create_flag end_first delete_sem delete_flag refer_sem refer_flag signal_sem set_flag clear_flag wait_sem wait_flag sem_flag_call serve_sem serve_flag first_served serve_sem_flag sem_trial flag_trial chosen free_task create_task delete_task start_task exit_task terminate_task change_priority rotate_ready get_task refer_task sleep delay wake_up cancel_wakeups release_wait suspend_task resume_task task_call mark_of allowed free_from first_serving serve_box serve_mailboxes serve_buffer serve_buffers post create_box delete_box send_box receive_box refer_box create_buffer delete_buffer send_buffer receive_buffer refer_buffer mail_call create_mutex lock_mutex unlock_mutex refer_mutex delete_mutex mutex_call change_priority_beside task_call_beside chain_has current_of resettle free_last ceiling_allows serve_mutex serve_mutexes create_fixed delete_fixed get_fixed release_fixed refer_fixed create_variable delete_variable get_variable release_variable refer_variable pool_call first_free serve_fixed serve_fixed_pools serve_variable serve_variable_pools set_time get_time get_operating_time create_cyclic start_cyclic stop_cyclic delete_cyclic refer_cyclic create_alarm start_alarm stop_alarm delete_alarm refer_alarm time_call body_of next_due again define_handler disable_dispatch enable_dispatch disable_interrupts enable_interrupts refer_system define_service refer_service enter_service context_call left list_existing list_ready list_queue set_hook hook_call open_device refer_device request request_whole wait_ending close_device suspend_devices device_call expected arrive hand_over hand_first messages emptied read_bytes write_bytes accept picked serve_acceptance serve_acceptances serve_ending serve_endings is_with_driver serve_close serve_closes serve_suspension events_sent free_descriptor free_request first_queued at_driver accepted dropped handed asked devices_start block is_last blocks unit cut may_cut arrived entered returned body_returned family_call answered called follow_release follow_each with_releases dispatched followed insert_once with_requests handler_begun due_begun interrupt_begun served_within settle freed_within fallen due_done tick state_after worked counted step sync_runs sync_run entered_2 runs start trace acted ran turn_of done_turn first_serving_2 serve_object state_start digits
direct_message_run = refl

-- The errors of the calls on message buffers in their order: a length that isn't 1 to the greatest, and an address that
-- leaves no room for the greatest message, are seen only once the buffer is known.
every_error_script : Script
every_error_script = record {
  devices = [];
  pace = None;
  irqs = [];
  boot = record { body = 1; priority = 10 };
  bodies =
      record {
        name = codes "main";
        kind = kinds.Task;
        labels = [];
        stmts =
            stmts.Call names.TkCreMbf (args.List 4096 ∷ args.Number (pos 16) ∷ args.Number (pos 0) ∷ []) ∷
            stmts.Call names.TkCreMbf (args.List 192 ∷ args.Number (pos 16) ∷ args.Number (pos 8) ∷ []) ∷
            stmts.Call names.TkCreMbf (args.List 0 ∷ args.Number (pos 16) ∷ args.Number (pos 0) ∷ []) ∷
            stmts.Call names.TkCreMbf (args.List 0 ∷ args.Number (pos 0) ∷ args.Number (pos 65533) ∷ []) ∷
            stmts.Call names.TkCreMbf (args.List 0 ∷ args.Number (pos 11) ∷ args.Number (pos 8) ∷ []) ∷
            stmts.Call names.TkCreMbf (args.List 0 ∷ args.Number (pos 15) ∷ args.Number (pos 9) ∷ []) ∷
            stmts.Call names.TkCreMbf (args.List 0 ∷ args.Number (pos 65537) ∷ args.Number (pos 8) ∷ []) ∷
            stmts.Call names.TkCreMbf (args.List 0 ∷ args.Number (negsuc 0) ∷ args.Number (pos 8) ∷ []) ∷
            stmts.Call names.TkCreMbf (args.List 0 ∷ args.Number (pos 16) ∷ args.Number (pos 9) ∷ []) ∷
            stmts.Call names.TkSndMbf (args.Number (pos 0) ∷ args.Number (negsuc 0) ∷ args.Number (pos 9) ∷ args.Number (negsuc 0) ∷ []) ∷
            stmts.Call names.TkSndMbf (args.Number (pos 2) ∷ args.Number (pos 65530) ∷ args.Number (pos 7) ∷ args.Number (negsuc 0) ∷ []) ∷
            stmts.Call names.TkSndMbf (args.Number (pos 2) ∷ args.Number (pos 0) ∷ args.Number (negsuc 0) ∷ args.Number (negsuc 0) ∷ []) ∷
            stmts.Call names.TkSndMbf (args.Number (pos 2) ∷ args.Number (pos 0) ∷ args.Number (pos 0) ∷ args.Number (negsuc 1) ∷ []) ∷
            stmts.Call names.TkSndMbf (args.Number (pos 2) ∷ args.Number (pos 65536) ∷ args.Number (pos 0) ∷ args.Number (negsuc 0) ∷ []) ∷
            stmts.Call names.TkSndMbf (args.Number (pos 1) ∷ args.Number (pos 65536) ∷ args.Number (pos 0) ∷ args.Number (negsuc 0) ∷ []) ∷
            stmts.Call names.TkSndMbf (args.Number (pos 1) ∷ args.Number (pos 0) ∷ args.Number (pos 10) ∷ args.Number (negsuc 0) ∷ []) ∷
            stmts.Call names.TkSndMbf (args.Number (pos 1) ∷ args.Number (pos 65527) ∷ args.Number (pos 9) ∷ args.Number (pos 0) ∷ []) ∷
            stmts.Call names.TkRcvMbf (args.Number (pos 0) ∷ args.Number (pos 65537) ∷ args.Number (negsuc 0) ∷ []) ∷
            stmts.Call names.TkRcvMbf (args.Number (pos 2) ∷ args.Number (pos 65537) ∷ args.Number (negsuc 0) ∷ []) ∷
            stmts.Call names.TkRcvMbf (args.Number (pos 2) ∷ args.Number (pos 65536) ∷ args.Number (negsuc 1) ∷ []) ∷
            stmts.Call names.TkRcvMbf (args.Number (pos 2) ∷ args.Number (pos 65536) ∷ args.Number (negsuc 0) ∷ []) ∷
            stmts.Call names.TkRcvMbf (args.Number (pos 1) ∷ args.Number (pos 65528) ∷ args.Number (negsuc 0) ∷ []) ∷
            stmts.Call names.TkRcvMbf (args.Number (pos 1) ∷ args.Number (pos 65527) ∷ args.Number (negsuc 0) ∷ []) ∷
            stmts.Call names.TkRefMbf (args.Number (pos 1) ∷ []) ∷
            stmts.Call names.TkRcvMbf (args.Number (pos 1) ∷ args.Number (pos 0) ∷ args.Number (pos 0) ∷ []) ∷
            stmts.Call names.TkSndMbf (args.Number (pos 1) ∷ args.Number (pos 0) ∷ args.Number (pos 9) ∷ args.Number (pos 0) ∷ []) ∷
            stmts.Call names.TkSndMbf (args.Number (pos 1) ∷ args.Number (pos 0) ∷ args.Number (pos 1) ∷ args.Number (pos 0) ∷ []) ∷
            stmts.Call names.TkRefMbf (args.Number (pos 1) ∷ []) ∷
            stmts.Call names.TkRefMbf (args.Number (pos 65) ∷ []) ∷
            stmts.Call names.TkRefMbf (args.Number (pos 2) ∷ []) ∷
            stmts.Call names.TkDelMbf (args.Number (pos 0) ∷ []) ∷
            stmts.Call names.TkDelMbf (args.Number (pos 2) ∷ []) ∷
            stmts.Call names.TkDelMbf (args.Number (pos 1) ∷ []) ∷
            stmts.Call names.TkCreMbf (args.List 0 ∷ args.Number (pos 0) ∷ args.Number (pos 65532) ∷ []) ∷
            stmts.Call names.TkRcvMbf (args.Number (pos 1) ∷ args.Number (pos 5) ∷ args.Number (pos 0) ∷ []) ∷
            stmts.Call names.TkRefMbf (args.Number (pos 1) ∷ []) ∷
            [];
      } ∷
      [];
}

every_error_entries : List Entry
every_error_entries = []

every_error_lines : List ℕ
every_error_lines =
    codes "0 D 1\n" ++
    codes "1 C 1 tk_cre_mbf E_RSATR\n" ++
    codes "2 C 1 tk_cre_mbf E_RSATR\n" ++
    codes "3 C 1 tk_cre_mbf E_PAR\n" ++
    codes "4 C 1 tk_cre_mbf E_PAR\n" ++
    codes "5 C 1 tk_cre_mbf E_PAR\n" ++
    codes "6 C 1 tk_cre_mbf E_PAR\n" ++
    codes "7 C 1 tk_cre_mbf E_PAR\n" ++
    codes "8 C 1 tk_cre_mbf E_PAR\n" ++
    codes "9 C 1 tk_cre_mbf 1\n" ++
    codes "10 C 1 tk_snd_mbf E_ID\n" ++
    codes "11 C 1 tk_snd_mbf E_PAR\n" ++
    codes "12 C 1 tk_snd_mbf E_PAR\n" ++
    codes "13 C 1 tk_snd_mbf E_PAR\n" ++
    codes "14 C 1 tk_snd_mbf E_NOEXS\n" ++
    codes "15 C 1 tk_snd_mbf E_PAR\n" ++
    codes "16 C 1 tk_snd_mbf E_PAR\n" ++
    codes "17 C 1 tk_snd_mbf 0\n" ++
    codes "18 C 1 tk_rcv_mbf E_ID\n" ++
    codes "19 C 1 tk_rcv_mbf E_PAR\n" ++
    codes "20 C 1 tk_rcv_mbf E_PAR\n" ++
    codes "21 C 1 tk_rcv_mbf E_NOEXS\n" ++
    codes "22 C 1 tk_rcv_mbf E_PAR\n" ++
    codes "23 C 1 tk_rcv_mbf 9\n" ++
    codes "24 C 1 tk_ref_mbf 0 0 0 16 0\n" ++
    codes "25 C 1 tk_rcv_mbf E_TMOUT\n" ++
    codes "26 C 1 tk_snd_mbf 0\n" ++
    codes "27 C 1 tk_snd_mbf E_TMOUT\n" ++
    codes "28 C 1 tk_ref_mbf 0 0 0 0 9\n" ++
    codes "29 C 1 tk_ref_mbf E_ID\n" ++
    codes "30 C 1 tk_ref_mbf E_NOEXS\n" ++
    codes "31 C 1 tk_del_mbf E_ID\n" ++
    codes "32 C 1 tk_del_mbf E_NOEXS\n" ++
    codes "33 C 1 tk_del_mbf 0\n" ++
    codes "34 C 1 tk_cre_mbf 1\n" ++
    codes "35 C 1 tk_rcv_mbf E_PAR\n" ++
    codes "36 C 1 tk_ref_mbf 0 0 0 0 0\n" ++
    codes "37 C 1 tk_ext_tsk 0\n" ++
    codes "37 D 0\n" ++
    codes "37 END idle\n" ++
    []

every_error_run : text_of_lines (lines_of (trace every_error_script modes.Free 100000 every_error_entries)) ≡ every_error_lines
unfolding every_error_script every_error_entries every_error_lines text_of form_of named made task_call_name sem_flag_call_name mutex_call_name mail_call_name pool_call_name time_call_name context_call_name device_call_name hook_call_name name_of code_of error_text coded error_named attributes_of flag_mode_of open_mode_of suspend_mode_of is_name_byte name_at_most why_text value_text words_of text_of_line text_of_lines fetch give call_before create_sem create_flag end_first delete_sem delete_flag refer_sem refer_flag signal_sem set_flag clear_flag wait_sem wait_flag sem_flag_call serve_sem serve_flag first_served serve_sem_flag sem_trial flag_trial chosen free_task create_task delete_task start_task exit_task terminate_task change_priority rotate_ready get_task refer_task sleep delay wake_up cancel_wakeups release_wait suspend_task resume_task task_call mark_of allowed free_from first_serving serve_box serve_mailboxes serve_buffer serve_buffers post create_box delete_box send_box receive_box refer_box create_buffer delete_buffer send_buffer receive_buffer refer_buffer mail_call create_mutex lock_mutex unlock_mutex refer_mutex delete_mutex mutex_call change_priority_beside task_call_beside chain_has current_of resettle free_last ceiling_allows serve_mutex serve_mutexes create_fixed delete_fixed get_fixed release_fixed refer_fixed create_variable delete_variable get_variable release_variable refer_variable pool_call first_free serve_fixed serve_fixed_pools serve_variable serve_variable_pools set_time get_time get_operating_time create_cyclic start_cyclic stop_cyclic delete_cyclic refer_cyclic create_alarm start_alarm stop_alarm delete_alarm refer_alarm time_call body_of next_due again define_handler disable_dispatch enable_dispatch disable_interrupts enable_interrupts refer_system define_service refer_service enter_service context_call left list_existing list_ready list_queue set_hook hook_call open_device refer_device request request_whole wait_ending close_device suspend_devices device_call expected arrive hand_over hand_first messages emptied read_bytes write_bytes accept picked serve_acceptance serve_acceptances serve_ending serve_endings is_with_driver serve_close serve_closes serve_suspension events_sent free_descriptor free_request first_queued at_driver accepted dropped handed asked devices_start block is_last blocks unit cut may_cut arrived entered returned body_returned family_call answered called follow_release follow_each with_releases dispatched followed insert_once with_requests handler_begun due_begun interrupt_begun served_within settle freed_within fallen due_done tick state_after worked counted step sync_runs sync_run entered_2 runs start trace acted ran turn_of done_turn first_serving_2 serve_object state_start digits
every_error_run = refl

-- A buffer without bytes hands a waiting sender's message to a receiver that calls; receivers stand as they began,
-- also where senders stand by priority; their waits end by release, termination, time-out and deletion.
receivers_script : Script
receivers_script = record {
  devices = [];
  pace = None;
  irqs = [];
  boot = record { body = 1; priority = 50 };
  bodies =
      record {
        name = codes "main";
        kind = kinds.Task;
        labels = [];
        stmts =
            stmts.Call names.TkCreMbf (args.List 128 ∷ args.Number (pos 0) ∷ args.Number (pos 8) ∷ []) ∷
            stmts.Call names.TkCreTsk (args.List 0 ∷ args.Body 2 ∷ args.Number (pos 30) ∷ args.Number (pos 512) ∷ []) ∷
            stmts.Call names.TkCreTsk (args.List 0 ∷ args.Body 2 ∷ args.Number (pos 20) ∷ args.Number (pos 512) ∷ []) ∷
            stmts.Call names.TkCreTsk (args.List 0 ∷ args.Body 3 ∷ args.Number (pos 40) ∷ args.Number (pos 512) ∷ []) ∷
            stmts.Call names.TkStaTsk (args.Number (pos 4) ∷ args.Number (pos 0) ∷ []) ∷
            stmts.Call names.TkRefMbf (args.Number (pos 1) ∷ []) ∷
            stmts.Call names.TkRcvMbf (args.Number (pos 1) ∷ args.Number (pos 100) ∷ args.Number (pos 0) ∷ []) ∷
            stmts.Call names.TkStaTsk (args.Number (pos 2) ∷ args.Number (pos 200) ∷ []) ∷
            stmts.Call names.TkStaTsk (args.Number (pos 3) ∷ args.Number (pos 300) ∷ []) ∷
            stmts.Call names.TkRefMbf (args.Number (pos 1) ∷ []) ∷
            stmts.Call names.TkSndMbf (args.Number (pos 1) ∷ args.Number (pos 0) ∷ args.Number (pos 8) ∷ args.Number (negsuc 0) ∷ []) ∷
            stmts.Call names.TkRelWai (args.Number (pos 3) ∷ []) ∷
            stmts.Call names.TkTerTsk (args.Number (pos 2) ∷ []) ∷
            stmts.Call names.TkDlyTsk (args.Number (pos 2) ∷ []) ∷
            stmts.Call names.TkStaTsk (args.Number (pos 2) ∷ args.Number (pos 200) ∷ []) ∷
            stmts.Call names.TkStaTsk (args.Number (pos 3) ∷ args.Number (pos 300) ∷ []) ∷
            stmts.Call names.TkDelMbf (args.Number (pos 1) ∷ []) ∷
            stmts.Call names.TkCreMbf (args.List 0 ∷ args.Number (pos 12) ∷ args.Number (pos 8) ∷ []) ∷
            stmts.Call names.TkStaTsk (args.Number (pos 2) ∷ args.Number (pos 200) ∷ []) ∷
            stmts.Call names.TkSndMbf (args.Number (pos 1) ∷ args.Number (pos 0) ∷ args.Number (pos 8) ∷ args.Number (pos 0) ∷ []) ∷
            stmts.Call names.TkRefMbf (args.Number (pos 1) ∷ []) ∷
            stmts.Halt ∷
            [];
      } ∷
      record {
        name = codes "rx";
        kind = kinds.Task;
        labels = [];
        stmts =
            stmts.Call names.TkRcvMbf (args.Number (pos 1) ∷ args.Register 1 ∷ args.Number (negsuc 0) ∷ []) ∷
            stmts.Call names.TkRcvMbf (args.Number (pos 1) ∷ args.Register 1 ∷ args.Number (pos 1) ∷ []) ∷
            [];
      } ∷
      record {
        name = codes "tx";
        kind = kinds.Task;
        labels = [];
        stmts =
            stmts.Call names.TkSndMbf (args.Number (pos 1) ∷ args.Number (pos 0) ∷ args.Number (pos 3) ∷ args.Number (negsuc 0) ∷ []) ∷
            [];
      } ∷
      [];
}

receivers_entries : List Entry
receivers_entries = []

receivers_lines : List ℕ
receivers_lines =
    codes "0 D 1\n" ++
    codes "1 C 1 tk_cre_mbf 1\n" ++
    codes "2 C 1 tk_cre_tsk 2\n" ++
    codes "3 C 1 tk_cre_tsk 3\n" ++
    codes "4 C 1 tk_cre_tsk 4\n" ++
    codes "5 C 1 tk_sta_tsk 0\n" ++
    codes "5 D 4\n" ++
    codes "6 B 4 tk_snd_mbf\n" ++
    codes "6 D 1\n" ++
    codes "7 C 1 tk_ref_mbf 0 0 4 0 0\n" ++
    codes "8 C 1 tk_rcv_mbf 3\n" ++
    codes "8 W 4 tk_snd_mbf 0\n" ++
    codes "8 D 4\n" ++
    codes "9 C 4 tk_ext_tsk 0\n" ++
    codes "9 D 1\n" ++
    codes "10 C 1 tk_sta_tsk 0\n" ++
    codes "10 D 2\n" ++
    codes "11 B 2 tk_rcv_mbf\n" ++
    codes "11 D 1\n" ++
    codes "12 C 1 tk_sta_tsk 0\n" ++
    codes "12 D 3\n" ++
    codes "13 B 3 tk_rcv_mbf\n" ++
    codes "13 D 1\n" ++
    codes "14 C 1 tk_ref_mbf 0 2 0 0 0\n" ++
    codes "15 C 1 tk_snd_mbf 0\n" ++
    codes "15 W 2 tk_rcv_mbf 8\n" ++
    codes "15 D 2\n" ++
    codes "16 B 2 tk_rcv_mbf\n" ++
    codes "16 D 1\n" ++
    codes "17 C 1 tk_rel_wai 0\n" ++
    codes "17 W 3 tk_rcv_mbf E_RLWAI\n" ++
    codes "17 D 3\n" ++
    codes "18 B 3 tk_rcv_mbf\n" ++
    codes "18 D 1\n" ++
    codes "19 C 1 tk_ter_tsk 0\n" ++
    codes "20 B 1 tk_dly_tsk\n" ++
    codes "20 D 0\n" ++
    codes "21 K 1\n" ++
    codes "22 K 2\n" ++
    codes "22 W 3 tk_rcv_mbf E_TMOUT\n" ++
    codes "22 D 3\n" ++
    codes "23 C 3 tk_ext_tsk 0\n" ++
    codes "23 D 0\n" ++
    codes "24 K 3\n" ++
    codes "24 W 1 tk_dly_tsk 0\n" ++
    codes "24 D 1\n" ++
    codes "25 C 1 tk_sta_tsk 0\n" ++
    codes "25 D 2\n" ++
    codes "26 B 2 tk_rcv_mbf\n" ++
    codes "26 D 1\n" ++
    codes "27 C 1 tk_sta_tsk 0\n" ++
    codes "27 D 3\n" ++
    codes "28 B 3 tk_rcv_mbf\n" ++
    codes "28 D 1\n" ++
    codes "29 C 1 tk_del_mbf 0\n" ++
    codes "29 W 2 tk_rcv_mbf E_DLT\n" ++
    codes "29 W 3 tk_rcv_mbf E_DLT\n" ++
    codes "29 D 3\n" ++
    codes "30 C 3 tk_rcv_mbf E_NOEXS\n" ++
    codes "31 C 3 tk_ext_tsk 0\n" ++
    codes "31 D 2\n" ++
    codes "32 C 2 tk_rcv_mbf E_NOEXS\n" ++
    codes "33 C 2 tk_ext_tsk 0\n" ++
    codes "33 D 1\n" ++
    codes "34 C 1 tk_cre_mbf 1\n" ++
    codes "35 C 1 tk_sta_tsk 0\n" ++
    codes "35 D 2\n" ++
    codes "36 B 2 tk_rcv_mbf\n" ++
    codes "36 D 1\n" ++
    codes "37 C 1 tk_snd_mbf 0\n" ++
    codes "37 W 2 tk_rcv_mbf 8\n" ++
    codes "37 D 2\n" ++
    codes "38 B 2 tk_rcv_mbf\n" ++
    codes "38 D 1\n" ++
    codes "39 C 1 tk_ref_mbf 0 2 0 12 0\n" ++
    codes "40 END halt\n" ++
    []

receivers_run : text_of_lines (lines_of (trace receivers_script modes.Free 100000 receivers_entries)) ≡ receivers_lines
unfolding receivers_script receivers_entries receivers_lines text_of form_of named made task_call_name sem_flag_call_name mutex_call_name mail_call_name pool_call_name time_call_name context_call_name device_call_name hook_call_name name_of code_of error_text coded error_named attributes_of flag_mode_of open_mode_of suspend_mode_of is_name_byte name_at_most why_text value_text words_of text_of_line text_of_lines fetch give call_before create_sem create_flag end_first delete_sem delete_flag refer_sem refer_flag signal_sem set_flag clear_flag wait_sem wait_flag sem_flag_call serve_sem serve_flag first_served serve_sem_flag sem_trial flag_trial chosen free_task create_task delete_task start_task exit_task terminate_task change_priority rotate_ready get_task refer_task sleep delay wake_up cancel_wakeups release_wait suspend_task resume_task task_call mark_of allowed free_from first_serving serve_box serve_mailboxes serve_buffer serve_buffers post create_box delete_box send_box receive_box refer_box create_buffer delete_buffer send_buffer receive_buffer refer_buffer mail_call create_mutex lock_mutex unlock_mutex refer_mutex delete_mutex mutex_call change_priority_beside task_call_beside chain_has current_of resettle free_last ceiling_allows serve_mutex serve_mutexes create_fixed delete_fixed get_fixed release_fixed refer_fixed create_variable delete_variable get_variable release_variable refer_variable pool_call first_free serve_fixed serve_fixed_pools serve_variable serve_variable_pools set_time get_time get_operating_time create_cyclic start_cyclic stop_cyclic delete_cyclic refer_cyclic create_alarm start_alarm stop_alarm delete_alarm refer_alarm time_call body_of next_due again define_handler disable_dispatch enable_dispatch disable_interrupts enable_interrupts refer_system define_service refer_service enter_service context_call left list_existing list_ready list_queue set_hook hook_call open_device refer_device request request_whole wait_ending close_device suspend_devices device_call expected arrive hand_over hand_first messages emptied read_bytes write_bytes accept picked serve_acceptance serve_acceptances serve_ending serve_endings is_with_driver serve_close serve_closes serve_suspension events_sent free_descriptor free_request first_queued at_driver accepted dropped handed asked devices_start block is_last blocks unit cut may_cut arrived entered returned body_returned family_call answered called follow_release follow_each with_releases dispatched followed insert_once with_requests handler_begun due_begun interrupt_begun served_within settle freed_within fallen due_done tick state_after worked counted step sync_runs sync_run entered_2 runs start trace acted ran turn_of done_turn first_serving_2 serve_object state_start digits
receivers_run = refl

-- Messages go round the space of a buffer, each with 4 bytes and its length rounded up; a sender's bytes are those at
-- its call, senders go in as they began to wait, and a receipt writes no byte beyond the message.
round_the_space_script : Script
round_the_space_script = record {
  devices = [];
  pace = None;
  irqs = [];
  boot = record { body = 1; priority = 10 };
  bodies =
      record {
        name = codes "main";
        kind = kinds.Task;
        labels = [];
        stmts =
            stmts.Call names.TkCreMbf (args.List 0 ∷ args.Number (pos 20) ∷ args.Number (pos 6) ∷ []) ∷
            stmts.Call names.TkCreTsk (args.List 0 ∷ args.Body 2 ∷ args.Number (pos 5) ∷ args.Number (pos 512) ∷ []) ∷
            stmts.Call names.TkCreTsk (args.List 0 ∷ args.Body 2 ∷ args.Number (pos 3) ∷ args.Number (pos 512) ∷ []) ∷
            stmts.Store (operands.Number (pos 0)) (operands.Number (pos 201)) ∷
            stmts.Store (operands.Number (pos 1)) (operands.Number (pos 202)) ∷
            stmts.Store (operands.Number (pos 2)) (operands.Number (pos 203)) ∷
            stmts.Store (operands.Number (pos 3)) (operands.Number (pos 204)) ∷
            stmts.Store (operands.Number (pos 4)) (operands.Number (pos 461)) ∷
            stmts.Store (operands.Number (pos 5)) (operands.Number (pos 206)) ∷
            stmts.Call names.TkSndMbf (args.Number (pos 1) ∷ args.Number (pos 0) ∷ args.Number (pos 5) ∷ args.Number (negsuc 0) ∷ []) ∷
            stmts.Call names.TkRefMbf (args.Number (pos 1) ∷ []) ∷
            stmts.Call names.TkSndMbf (args.Number (pos 1) ∷ args.Number (pos 1) ∷ args.Number (pos 3) ∷ args.Number (negsuc 0) ∷ []) ∷
            stmts.Call names.TkStaTsk (args.Number (pos 2) ∷ args.Number (pos 6) ∷ []) ∷
            stmts.Call names.TkStaTsk (args.Number (pos 3) ∷ args.Number (pos 1) ∷ []) ∷
            stmts.Store (operands.Number (pos 0)) (operands.Number (pos 99)) ∷
            stmts.Call names.TkRefMbf (args.Number (pos 1) ∷ []) ∷
            stmts.Call names.TkRcvMbf (args.Number (pos 1) ∷ args.Number (pos 100) ∷ args.Number (negsuc 0) ∷ []) ∷
            stmts.Load 3 (operands.Number (pos 100)) ∷
            stmts.Show (operands.Register 3) ∷
            stmts.Load 3 (operands.Number (pos 104)) ∷
            stmts.Show (operands.Register 3) ∷
            stmts.Call names.TkRcvMbf (args.Number (pos 1) ∷ args.Number (pos 102) ∷ args.Number (negsuc 0) ∷ []) ∷
            stmts.Load 3 (operands.Number (pos 104)) ∷
            stmts.Show (operands.Register 3) ∷
            stmts.Call names.TkRcvMbf (args.Number (pos 1) ∷ args.Number (pos 200) ∷ args.Number (negsuc 0) ∷ []) ∷
            stmts.Load 3 (operands.Number (pos 200)) ∷
            stmts.Show (operands.Register 3) ∷
            stmts.Load 3 (operands.Number (pos 201)) ∷
            stmts.Show (operands.Register 3) ∷
            stmts.Load 3 (operands.Number (pos 202)) ∷
            stmts.Show (operands.Register 3) ∷
            stmts.Load 3 (operands.Number (pos 203)) ∷
            stmts.Show (operands.Register 3) ∷
            stmts.Load 3 (operands.Number (pos 204)) ∷
            stmts.Show (operands.Register 3) ∷
            stmts.Load 3 (operands.Number (pos 205)) ∷
            stmts.Show (operands.Register 3) ∷
            stmts.Call names.TkRcvMbf (args.Number (pos 1) ∷ args.Number (pos 201) ∷ args.Number (pos 0) ∷ []) ∷
            stmts.Load 3 (operands.Number (pos 201)) ∷
            stmts.Show (operands.Register 3) ∷
            stmts.Load 3 (operands.Number (pos 202)) ∷
            stmts.Show (operands.Register 3) ∷
            stmts.Call names.TkRefMbf (args.Number (pos 1) ∷ []) ∷
            [];
      } ∷
      record {
        name = codes "tx";
        kind = kinds.Task;
        labels = [];
        stmts =
            stmts.Call names.TkSndMbf (args.Number (pos 1) ∷ args.Number (pos 0) ∷ args.Register 1 ∷ args.Number (negsuc 0) ∷ []) ∷
            [];
      } ∷
      [];
}

round_the_space_entries : List Entry
round_the_space_entries = []

round_the_space_lines : List ℕ
round_the_space_lines =
    codes "0 D 1\n" ++
    codes "1 C 1 tk_cre_mbf 1\n" ++
    codes "2 C 1 tk_cre_tsk 2\n" ++
    codes "3 C 1 tk_cre_tsk 3\n" ++
    codes "10 C 1 tk_snd_mbf 0\n" ++
    codes "11 C 1 tk_ref_mbf 0 0 0 8 5\n" ++
    codes "12 C 1 tk_snd_mbf 0\n" ++
    codes "13 C 1 tk_sta_tsk 0\n" ++
    codes "13 D 2\n" ++
    codes "14 B 2 tk_snd_mbf\n" ++
    codes "14 D 1\n" ++
    codes "15 C 1 tk_sta_tsk 0\n" ++
    codes "15 D 3\n" ++
    codes "16 B 3 tk_snd_mbf\n" ++
    codes "16 D 1\n" ++
    codes "18 C 1 tk_ref_mbf 0 0 2 0 5\n" ++
    codes "19 C 1 tk_rcv_mbf 5\n" ++
    codes "19 W 2 tk_snd_mbf 0\n" ++
    codes "19 D 2\n" ++
    codes "20 C 2 tk_ext_tsk 0\n" ++
    codes "20 D 1\n" ++
    codes "22 S 1 201\n" ++
    codes "24 S 1 205\n" ++
    codes "25 C 1 tk_rcv_mbf 3\n" ++
    codes "25 W 3 tk_snd_mbf 0\n" ++
    codes "25 D 3\n" ++
    codes "26 C 3 tk_ext_tsk 0\n" ++
    codes "26 D 1\n" ++
    codes "28 S 1 204\n" ++
    codes "29 C 1 tk_rcv_mbf 6\n" ++
    codes "31 S 1 201\n" ++
    codes "33 S 1 202\n" ++
    codes "35 S 1 203\n" ++
    codes "37 S 1 204\n" ++
    codes "39 S 1 205\n" ++
    codes "41 S 1 206\n" ++
    codes "42 C 1 tk_rcv_mbf 1\n" ++
    codes "44 S 1 201\n" ++
    codes "46 S 1 203\n" ++
    codes "47 C 1 tk_ref_mbf 0 0 0 20 0\n" ++
    codes "48 C 1 tk_ext_tsk 0\n" ++
    codes "48 D 0\n" ++
    codes "48 END idle\n" ++
    []

round_the_space_run : text_of_lines (lines_of (trace round_the_space_script modes.Free 100000 round_the_space_entries)) ≡ round_the_space_lines
unfolding round_the_space_script round_the_space_entries round_the_space_lines text_of form_of named made task_call_name sem_flag_call_name mutex_call_name mail_call_name pool_call_name time_call_name context_call_name device_call_name hook_call_name name_of code_of error_text coded error_named attributes_of flag_mode_of open_mode_of suspend_mode_of is_name_byte name_at_most why_text value_text words_of text_of_line text_of_lines fetch give call_before create_sem create_flag end_first delete_sem delete_flag refer_sem refer_flag signal_sem set_flag clear_flag wait_sem wait_flag sem_flag_call serve_sem serve_flag first_served serve_sem_flag sem_trial flag_trial chosen free_task create_task delete_task start_task exit_task terminate_task change_priority rotate_ready get_task refer_task sleep delay wake_up cancel_wakeups release_wait suspend_task resume_task task_call mark_of allowed free_from first_serving serve_box serve_mailboxes serve_buffer serve_buffers post create_box delete_box send_box receive_box refer_box create_buffer delete_buffer send_buffer receive_buffer refer_buffer mail_call create_mutex lock_mutex unlock_mutex refer_mutex delete_mutex mutex_call change_priority_beside task_call_beside chain_has current_of resettle free_last ceiling_allows serve_mutex serve_mutexes create_fixed delete_fixed get_fixed release_fixed refer_fixed create_variable delete_variable get_variable release_variable refer_variable pool_call first_free serve_fixed serve_fixed_pools serve_variable serve_variable_pools set_time get_time get_operating_time create_cyclic start_cyclic stop_cyclic delete_cyclic refer_cyclic create_alarm start_alarm stop_alarm delete_alarm refer_alarm time_call body_of next_due again define_handler disable_dispatch enable_dispatch disable_interrupts enable_interrupts refer_system define_service refer_service enter_service context_call left list_existing list_ready list_queue set_hook hook_call open_device refer_device request request_whole wait_ending close_device suspend_devices device_call expected arrive hand_over hand_first messages emptied read_bytes write_bytes accept picked serve_acceptance serve_acceptances serve_ending serve_endings is_with_driver serve_close serve_closes serve_suspension events_sent free_descriptor free_request first_queued at_driver accepted dropped handed asked devices_start block is_last blocks unit cut may_cut arrived entered returned body_returned family_call answered called follow_release follow_each with_releases dispatched followed insert_once with_requests handler_begun due_begun interrupt_begun served_within settle freed_within fallen due_done tick state_after worked counted step sync_runs sync_run entered_2 runs start trace acted ran turn_of done_turn first_serving_2 serve_object state_start digits
round_the_space_run = refl

-- A sender whose message doesn't fit keeps those behind it waiting, until its time-out or termination, while one above
-- it goes in at once; a receipt lets in as many as fit, by priority, and release and deletion end the waits of the
-- others.
senders_script : Script
senders_script = record {
  devices = [];
  pace = None;
  irqs = [];
  boot = record { body = 1; priority = 50 };
  bodies =
      record {
        name = codes "main";
        kind = kinds.Task;
        labels = [];
        stmts =
            stmts.Call names.TkCreMbf (args.List 128 ∷ args.Number (pos 20) ∷ args.Number (pos 12) ∷ []) ∷
            stmts.Call names.TkCreTsk (args.List 0 ∷ args.Body 2 ∷ args.Number (pos 30) ∷ args.Number (pos 512) ∷ []) ∷
            stmts.Call names.TkCreTsk (args.List 0 ∷ args.Body 2 ∷ args.Number (pos 20) ∷ args.Number (pos 512) ∷ []) ∷
            stmts.Call names.TkCreTsk (args.List 0 ∷ args.Body 2 ∷ args.Number (pos 40) ∷ args.Number (pos 512) ∷ []) ∷
            stmts.Call names.TkSndMbf (args.Number (pos 1) ∷ args.Number (pos 0) ∷ args.Number (pos 12) ∷ args.Number (negsuc 0) ∷ []) ∷
            stmts.Call names.TkStaTsk (args.Number (pos 4) ∷ args.Number (pos 9) ∷ []) ∷
            stmts.Call names.TkStaTsk (args.Number (pos 2) ∷ args.Number (pos 1) ∷ []) ∷
            stmts.Call names.TkStaTsk (args.Number (pos 3) ∷ args.Number (pos 2) ∷ []) ∷
            stmts.Call names.TkRefMbf (args.Number (pos 1) ∷ []) ∷
            stmts.Call names.TkRcvMbf (args.Number (pos 1) ∷ args.Number (pos 100) ∷ args.Number (negsuc 0) ∷ []) ∷
            stmts.Call names.TkRefMbf (args.Number (pos 1) ∷ []) ∷
            stmts.Call names.TkRcvMbf (args.Number (pos 1) ∷ args.Number (pos 100) ∷ args.Number (negsuc 0) ∷ []) ∷
            stmts.Call names.TkStaTsk (args.Number (pos 3) ∷ args.Number (pos 1) ∷ []) ∷
            stmts.Call names.TkRcvMbf (args.Number (pos 1) ∷ args.Number (pos 100) ∷ args.Number (negsuc 0) ∷ []) ∷
            stmts.Call names.TkSndMbf (args.Number (pos 1) ∷ args.Number (pos 0) ∷ args.Number (pos 1) ∷ args.Number (pos 0) ∷ []) ∷
            stmts.Call names.TkChgPri (args.Number (pos 4) ∷ args.Number (pos 10) ∷ []) ∷
            stmts.Call names.TkStaTsk (args.Number (pos 2) ∷ args.Number (pos 1) ∷ []) ∷
            stmts.Call names.TkRefMbf (args.Number (pos 1) ∷ []) ∷
            stmts.Call names.TkDlyTsk (args.Number (pos 2) ∷ []) ∷
            stmts.Call names.TkRefMbf (args.Number (pos 1) ∷ []) ∷
            stmts.Call names.TkStaTsk (args.Number (pos 3) ∷ args.Number (pos 12) ∷ []) ∷
            stmts.Call names.TkStaTsk (args.Number (pos 2) ∷ args.Number (pos 8) ∷ []) ∷
            stmts.Call names.TkStaTsk (args.Number (pos 4) ∷ args.Number (pos 8) ∷ []) ∷
            stmts.Call names.TkRcvMbf (args.Number (pos 1) ∷ args.Number (pos 100) ∷ args.Number (negsuc 0) ∷ []) ∷
            stmts.Call names.TkTerTsk (args.Number (pos 3) ∷ []) ∷
            stmts.Call names.TkRelWai (args.Number (pos 4) ∷ []) ∷
            stmts.Call names.TkStaTsk (args.Number (pos 4) ∷ args.Number (pos 3) ∷ []) ∷
            stmts.Call names.TkStaTsk (args.Number (pos 3) ∷ args.Number (pos 3) ∷ []) ∷
            stmts.Call names.TkDelMbf (args.Number (pos 1) ∷ []) ∷
            [];
      } ∷
      record {
        name = codes "tx";
        kind = kinds.Task;
        labels = [];
        stmts =
            stmts.Call names.TkSndMbf (args.Number (pos 1) ∷ args.Number (pos 0) ∷ args.Register 1 ∷ args.Number (pos 1) ∷ []) ∷
            [];
      } ∷
      [];
}

senders_entries : List Entry
senders_entries = []

senders_lines : List ℕ
senders_lines =
    codes "0 D 1\n" ++
    codes "1 C 1 tk_cre_mbf 1\n" ++
    codes "2 C 1 tk_cre_tsk 2\n" ++
    codes "3 C 1 tk_cre_tsk 3\n" ++
    codes "4 C 1 tk_cre_tsk 4\n" ++
    codes "5 C 1 tk_snd_mbf 0\n" ++
    codes "6 C 1 tk_sta_tsk 0\n" ++
    codes "6 D 4\n" ++
    codes "7 B 4 tk_snd_mbf\n" ++
    codes "7 D 1\n" ++
    codes "8 C 1 tk_sta_tsk 0\n" ++
    codes "8 D 2\n" ++
    codes "9 B 2 tk_snd_mbf\n" ++
    codes "9 D 1\n" ++
    codes "10 C 1 tk_sta_tsk 0\n" ++
    codes "10 D 3\n" ++
    codes "11 B 3 tk_snd_mbf\n" ++
    codes "11 D 1\n" ++
    codes "12 C 1 tk_ref_mbf 0 0 3 4 12\n" ++
    codes "13 C 1 tk_rcv_mbf 12\n" ++
    codes "13 W 3 tk_snd_mbf 0\n" ++
    codes "13 W 2 tk_snd_mbf 0\n" ++
    codes "13 D 3\n" ++
    codes "14 C 3 tk_ext_tsk 0\n" ++
    codes "14 D 2\n" ++
    codes "15 C 2 tk_ext_tsk 0\n" ++
    codes "15 D 1\n" ++
    codes "16 C 1 tk_ref_mbf 0 0 4 4 2\n" ++
    codes "17 C 1 tk_rcv_mbf 2\n" ++
    codes "18 C 1 tk_sta_tsk 0\n" ++
    codes "18 D 3\n" ++
    codes "19 C 3 tk_snd_mbf 0\n" ++
    codes "20 C 3 tk_ext_tsk 0\n" ++
    codes "20 D 1\n" ++
    codes "21 C 1 tk_rcv_mbf 1\n" ++
    codes "22 C 1 tk_snd_mbf E_TMOUT\n" ++
    codes "23 C 1 tk_chg_pri 0\n" ++
    codes "24 C 1 tk_sta_tsk 0\n" ++
    codes "24 D 2\n" ++
    codes "25 B 2 tk_snd_mbf\n" ++
    codes "25 D 1\n" ++
    codes "26 C 1 tk_ref_mbf 0 0 4 12 1\n" ++
    codes "27 B 1 tk_dly_tsk\n" ++
    codes "27 D 0\n" ++
    codes "28 K 1\n" ++
    codes "29 K 2\n" ++
    codes "29 W 4 tk_snd_mbf E_TMOUT\n" ++
    codes "29 W 2 tk_snd_mbf 0\n" ++
    codes "29 D 4\n" ++
    codes "30 C 4 tk_ext_tsk 0\n" ++
    codes "30 D 2\n" ++
    codes "31 C 2 tk_ext_tsk 0\n" ++
    codes "31 D 0\n" ++
    codes "32 K 3\n" ++
    codes "32 W 1 tk_dly_tsk 0\n" ++
    codes "32 D 1\n" ++
    codes "33 C 1 tk_ref_mbf 0 0 0 4 1\n" ++
    codes "34 C 1 tk_sta_tsk 0\n" ++
    codes "34 D 3\n" ++
    codes "35 B 3 tk_snd_mbf\n" ++
    codes "35 D 1\n" ++
    codes "36 C 1 tk_sta_tsk 0\n" ++
    codes "36 D 2\n" ++
    codes "37 B 2 tk_snd_mbf\n" ++
    codes "37 D 1\n" ++
    codes "38 C 1 tk_sta_tsk 0\n" ++
    codes "38 D 4\n" ++
    codes "39 B 4 tk_snd_mbf\n" ++
    codes "39 D 1\n" ++
    codes "40 C 1 tk_rcv_mbf 1\n" ++
    codes "41 C 1 tk_ter_tsk 0\n" ++
    codes "41 W 2 tk_snd_mbf 0\n" ++
    codes "41 D 2\n" ++
    codes "42 C 2 tk_ext_tsk 0\n" ++
    codes "42 D 1\n" ++
    codes "43 C 1 tk_rel_wai 0\n" ++
    codes "43 W 4 tk_snd_mbf E_RLWAI\n" ++
    codes "43 D 4\n" ++
    codes "44 C 4 tk_ext_tsk 0\n" ++
    codes "44 D 1\n" ++
    codes "45 C 1 tk_sta_tsk 0\n" ++
    codes "45 D 4\n" ++
    codes "46 B 4 tk_snd_mbf\n" ++
    codes "46 D 1\n" ++
    codes "47 C 1 tk_sta_tsk 0\n" ++
    codes "47 D 3\n" ++
    codes "48 B 3 tk_snd_mbf\n" ++
    codes "48 D 1\n" ++
    codes "49 C 1 tk_del_mbf 0\n" ++
    codes "49 W 3 tk_snd_mbf E_DLT\n" ++
    codes "49 W 4 tk_snd_mbf E_DLT\n" ++
    codes "49 D 3\n" ++
    codes "50 C 3 tk_ext_tsk 0\n" ++
    codes "50 D 4\n" ++
    codes "51 C 4 tk_ext_tsk 0\n" ++
    codes "51 D 1\n" ++
    codes "52 C 1 tk_ext_tsk 0\n" ++
    codes "52 D 0\n" ++
    codes "52 END idle\n" ++
    []

senders_run : text_of_lines (lines_of (trace senders_script modes.Free 100000 senders_entries)) ≡ senders_lines
unfolding senders_script senders_entries senders_lines text_of form_of named made task_call_name sem_flag_call_name mutex_call_name mail_call_name pool_call_name time_call_name context_call_name device_call_name hook_call_name name_of code_of error_text coded error_named attributes_of flag_mode_of open_mode_of suspend_mode_of is_name_byte name_at_most why_text value_text words_of text_of_line text_of_lines fetch give call_before create_sem create_flag end_first delete_sem delete_flag refer_sem refer_flag signal_sem set_flag clear_flag wait_sem wait_flag sem_flag_call serve_sem serve_flag first_served serve_sem_flag sem_trial flag_trial chosen free_task create_task delete_task start_task exit_task terminate_task change_priority rotate_ready get_task refer_task sleep delay wake_up cancel_wakeups release_wait suspend_task resume_task task_call mark_of allowed free_from first_serving serve_box serve_mailboxes serve_buffer serve_buffers post create_box delete_box send_box receive_box refer_box create_buffer delete_buffer send_buffer receive_buffer refer_buffer mail_call create_mutex lock_mutex unlock_mutex refer_mutex delete_mutex mutex_call change_priority_beside task_call_beside chain_has current_of resettle free_last ceiling_allows serve_mutex serve_mutexes create_fixed delete_fixed get_fixed release_fixed refer_fixed create_variable delete_variable get_variable release_variable refer_variable pool_call first_free serve_fixed serve_fixed_pools serve_variable serve_variable_pools set_time get_time get_operating_time create_cyclic start_cyclic stop_cyclic delete_cyclic refer_cyclic create_alarm start_alarm stop_alarm delete_alarm refer_alarm time_call body_of next_due again define_handler disable_dispatch enable_dispatch disable_interrupts enable_interrupts refer_system define_service refer_service enter_service context_call left list_existing list_ready list_queue set_hook hook_call open_device refer_device request request_whole wait_ending close_device suspend_devices device_call expected arrive hand_over hand_first messages emptied read_bytes write_bytes accept picked serve_acceptance serve_acceptances serve_ending serve_endings is_with_driver serve_close serve_closes serve_suspension events_sent free_descriptor free_request first_queued at_driver accepted dropped handed asked devices_start block is_last blocks unit cut may_cut arrived entered returned body_returned family_call answered called follow_release follow_each with_releases dispatched followed insert_once with_requests handler_begun due_begun interrupt_begun served_within settle freed_within fallen due_done tick state_after worked counted step sync_runs sync_run entered_2 runs start trace acted ran turn_of done_turn first_serving_2 serve_object state_start digits
senders_run = refl
