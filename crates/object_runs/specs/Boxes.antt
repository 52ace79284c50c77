-- Runs that were worked out by hand from the rules, as runs/object/boxes has them: each a theorem by computation.
use Rattle.std.specs.Prelude.{ℕ, pos, negsuc, List, [], ◌∷◌, ◌++◌, Some, None, codes, ◌≡◌, refl}
use Rattle.std.specs.Fmt.{digits}
use Rattle.tk_types.specs.declared.script.Script.{Script}
use Rattle.tk_types.specs.declared.script.BodyKind.TheVariants as kinds
use Rattle.tk_types.specs.declared.script.Kind.TheVariants as devices
use Rattle.tk_types.specs.declared.script.Stmt.TheVariants as stmts
use Rattle.tk_types.specs.declared.script.Operand.TheVariants as operands
use Rattle.tk_types.specs.declared.script.Operation.TheVariants as operations
use Rattle.tk_types.specs.declared.script.Condition.TheVariants as conditions
use Rattle.tk_types.specs.declared.script.Arg.TheVariants as args
use Rattle.tk_types.specs.declared.call_name.CallName.TheVariants as names
use Rattle.tk_types.specs.declared.line.Entry.{Entry}
use Rattle.tk_types.specs.declared.line.How.TheVariants as hows
use Rattle.tk_types.specs.declared.run.Mode.TheVariants as modes
use Rattle.tk_types.specs.CallNames.{text_of, form_of, named}
use Rattle.tk_types.specs.Calls.{made, task_call_name, sem_flag_call_name, mutex_call_name, mail_call_name, pool_call_name, time_call_name, context_call_name, device_call_name, hook_call_name, name_of}
use Rattle.tk_types.specs.Codes.{code_of, error_text, coded, error_named}
use Rattle.tk_types.specs.Modes.{attributes_of, flag_mode_of, open_mode_of, suspend_mode_of}
use Rattle.tk_types.specs.Names.{is_name_byte, name_at_most}
use Rattle.tk_types.specs.Reasons.{why_text}
use Rattle.tk_model.specs.LineText.{value_text, words_of, text_of_line, text_of_lines}
use Rattle.kernel_model.specs.Bodies.Statements.{fetch, give, call_before}
use Rattle.kernel_model.specs.SemFlags.Calls.{create_sem, create_flag, end_first, delete_sem, delete_flag, refer_sem, refer_flag, signal_sem, set_flag, clear_flag, wait_sem, wait_flag, sem_flag_call}
use Rattle.kernel_model.specs.SemFlags.Tables.{serve_sem, serve_flag, first_served, serve_sem_flag}
use Rattle.kernel_model.specs.SemFlags.Trial.{sem_trial, flag_trial}
use Rattle.kernel_model.specs.Tasks.Base.{chosen, free_task}
use Rattle.kernel_model.specs.Tasks.Calls.{create_task, delete_task, start_task, exit_task, terminate_task, change_priority, rotate_ready, get_task, refer_task, sleep, delay, wake_up, cancel_wakeups, release_wait, suspend_task, resume_task, task_call}
use Rattle.kernel_model.specs.Tasks.Marks.{mark_of, allowed}
use Rattle.kernel_model.specs.Words.Orders.{free_from}
use Rattle.object_model.specs.Servings.{first_serving}
use Rattle.object_model.specs.Mails.Boxes.{serve_box, serve_mailboxes}
use Rattle.object_model.specs.Mails.Buffers.{serve_buffer, serve_buffers, post}
use Rattle.object_model.specs.Mails.Calls.{create_box, delete_box, send_box, receive_box, refer_box, create_buffer, delete_buffer, send_buffer, receive_buffer, refer_buffer, mail_call}
use Rattle.object_model.specs.Mutexes.Calls.{create_mutex, lock_mutex, unlock_mutex, refer_mutex, delete_mutex, mutex_call, change_priority_beside, task_call_beside}
use Rattle.object_model.specs.Mutexes.Priority.{chain_has, current_of, resettle}
use Rattle.object_model.specs.Mutexes.Tables.{free_last, ceiling_allows, serve_mutex, serve_mutexes}
use Rattle.object_model.specs.Pools.Calls.{create_fixed, delete_fixed, get_fixed, release_fixed, refer_fixed, create_variable, delete_variable, get_variable, release_variable, refer_variable, pool_call}
use Rattle.object_model.specs.Pools.Fixed.{first_free, serve_fixed, serve_fixed_pools}
use Rattle.object_model.specs.Pools.Variable.{serve_variable, serve_variable_pools}
use Rattle.context_model.specs.Clocks.Calls.{set_time, get_time, get_operating_time, create_cyclic, start_cyclic, stop_cyclic, delete_cyclic, refer_cyclic, create_alarm, start_alarm, stop_alarm, delete_alarm, refer_alarm, time_call}
use Rattle.context_model.specs.Clocks.Tables.{body_of, next_due, again}
use Rattle.context_model.specs.Contexts.Calls.{define_handler, disable_dispatch, enable_dispatch, disable_interrupts, enable_interrupts, refer_system, define_service, refer_service, enter_service, context_call}
use Rattle.context_model.specs.Contexts.Tables.{left}
use Rattle.context_model.specs.Hooks.Calls.{list_existing, list_ready, list_queue, set_hook, hook_call}
use Rattle.device_model.specs.Devices.Calls.{open_device, refer_device, request, request_whole, wait_ending, close_device, suspend_devices, device_call}
use Rattle.device_model.specs.Devices.Endings.{expected, arrive}
use Rattle.device_model.specs.Devices.Handing.{hand_over, hand_first, messages, emptied}
use Rattle.device_model.specs.Devices.Memory.{read_bytes, write_bytes}
use Rattle.device_model.specs.Devices.Requests.{accept, picked}
use Rattle.device_model.specs.Devices.Servings.{serve_acceptance, serve_acceptances, serve_ending, serve_endings, is_with_driver, serve_close, serve_closes, serve_suspension}
use Rattle.device_model.specs.Devices.Suspension.{events_sent}
use Rattle.device_model.specs.Devices.Tables.{free_descriptor, free_request, first_queued, at_driver, accepted, dropped, handed, asked, devices_start}
use Rattle.device_model.specs.Units.Blocks.{block, is_last, blocks}
use Rattle.device_model.specs.Units.Function.{unit, cut, may_cut}
use Rattle.machine_model.specs.Events.Arrivals.{arrived}
use Rattle.machine_model.specs.Events.Bodies.{entered, returned, body_returned}
use Rattle.machine_model.specs.Events.Calls.{family_call, answered, called}
use Rattle.machine_model.specs.Events.Follow.{follow_release, follow_each, with_releases, dispatched, followed}
use Rattle.machine_model.specs.Events.Handlers.{insert_once, with_requests, handler_begun, due_begun, interrupt_begun}
use Rattle.machine_model.specs.Events.Settle.{served_within, settle, freed_within}
use Rattle.machine_model.specs.Events.Ticks.{fallen, due_done, tick}
use Rattle.machine_model.specs.Runs.Reached.{state_after}
use Rattle.machine_model.specs.Runs.Step.{worked, counted, step}
use Rattle.machine_model.specs.Runs.SyncTrace.{sync_runs, sync_run}
use Rattle.machine_model.specs.Runs.Trace.{lines_of, entered as entered_2, runs, start, trace}
use Rattle.machine_model.specs.Runs.Turns.{acted, ran, turn_of, done_turn}
use Rattle.machine_model.specs.States.Objects.{first_serving as first_serving_2, serve_object}
use Rattle.machine_model.specs.States.State.{state_start}

-- Messages by their priority, a wrong one, and the blocks of a fixed pool.
by_priority_script : Script
by_priority_script = record {
  devices = [];
  pace = None;
  irqs = [];
  boot = record { body = 1; priority = 10 };
  bodies =
      record {
        name = codes "main";
        kind = kinds.Task;
        labels = [];
        stmts =
            stmts.Call names.TkCreMbx (args.List 8192 ∷ []) ∷
            stmts.Call names.TkSndMbx (args.Number (pos 1) ∷ args.Number (pos 5) ∷ args.Number (pos 100) ∷ []) ∷
            stmts.Call names.TkSndMbx (args.Number (pos 1) ∷ args.Number (pos 2) ∷ args.Number (pos 200) ∷ []) ∷
            stmts.Call names.TkRcvMbx (args.Number (pos 1) ∷ args.Number (pos 0) ∷ []) ∷
            stmts.Call names.TkSndMbx (args.Number (pos 1) ∷ args.Number (pos 0) ∷ args.Number (pos 7) ∷ []) ∷
            stmts.Call names.TkCreMpf (args.List 0 ∷ args.Number (pos 2) ∷ args.Number (pos 16) ∷ []) ∷
            stmts.Call names.TkGetMpf (args.Number (pos 1) ∷ args.Number (pos 0) ∷ []) ∷
            stmts.Call names.TkGetMpf (args.Number (pos 1) ∷ args.Number (pos 0) ∷ []) ∷
            stmts.Call names.TkGetMpf (args.Number (pos 1) ∷ args.Number (pos 0) ∷ []) ∷
            stmts.Call names.TkRelMpf (args.Number (pos 1) ∷ args.Number (pos 1) ∷ []) ∷
            stmts.Call names.TkGetMpf (args.Number (pos 1) ∷ args.Number (pos 0) ∷ []) ∷
            stmts.Call names.TkRelMpf (args.Number (pos 1) ∷ args.Number (pos 3) ∷ []) ∷
            [];
      } ∷
      [];
}

by_priority_entries : List Entry
by_priority_entries = []

by_priority_lines : List ℕ
by_priority_lines =
    codes "0 D 1\n" ++
    codes "1 C 1 tk_cre_mbx 1\n" ++
    codes "2 C 1 tk_snd_mbx 0\n" ++
    codes "3 C 1 tk_snd_mbx 0\n" ++
    codes "4 C 1 tk_rcv_mbx 0 2 200\n" ++
    codes "5 C 1 tk_snd_mbx E_PAR\n" ++
    codes "6 C 1 tk_cre_mpf 1\n" ++
    codes "7 C 1 tk_get_mpf 1\n" ++
    codes "8 C 1 tk_get_mpf 2\n" ++
    codes "9 C 1 tk_get_mpf E_TMOUT\n" ++
    codes "10 C 1 tk_rel_mpf 0\n" ++
    codes "11 C 1 tk_get_mpf 1\n" ++
    codes "12 C 1 tk_rel_mpf E_PAR\n" ++
    codes "13 C 1 tk_ext_tsk 0\n" ++
    codes "13 D 0\n" ++
    codes "13 END idle\n" ++
    []

by_priority_run : text_of_lines (lines_of (trace by_priority_script modes.Free 100000 by_priority_entries)) ≡ by_priority_lines
unfolding by_priority_script by_priority_entries by_priority_lines text_of form_of named made task_call_name sem_flag_call_name mutex_call_name mail_call_name pool_call_name time_call_name context_call_name device_call_name hook_call_name name_of code_of error_text coded error_named attributes_of flag_mode_of open_mode_of suspend_mode_of is_name_byte name_at_most why_text value_text words_of text_of_line text_of_lines fetch give call_before create_sem create_flag end_first delete_sem delete_flag refer_sem refer_flag signal_sem set_flag clear_flag wait_sem wait_flag sem_flag_call serve_sem serve_flag first_served serve_sem_flag sem_trial flag_trial chosen free_task create_task delete_task start_task exit_task terminate_task change_priority rotate_ready get_task refer_task sleep delay wake_up cancel_wakeups release_wait suspend_task resume_task task_call mark_of allowed free_from first_serving serve_box serve_mailboxes serve_buffer serve_buffers post create_box delete_box send_box receive_box refer_box create_buffer delete_buffer send_buffer receive_buffer refer_buffer mail_call create_mutex lock_mutex unlock_mutex refer_mutex delete_mutex mutex_call change_priority_beside task_call_beside chain_has current_of resettle free_last ceiling_allows serve_mutex serve_mutexes create_fixed delete_fixed get_fixed release_fixed refer_fixed create_variable delete_variable get_variable release_variable refer_variable pool_call first_free serve_fixed serve_fixed_pools serve_variable serve_variable_pools set_time get_time get_operating_time create_cyclic start_cyclic stop_cyclic delete_cyclic refer_cyclic create_alarm start_alarm stop_alarm delete_alarm refer_alarm time_call body_of next_due again define_handler disable_dispatch enable_dispatch disable_interrupts enable_interrupts refer_system define_service refer_service enter_service context_call left list_existing list_ready list_queue set_hook hook_call open_device refer_device request request_whole wait_ending close_device suspend_devices device_call expected arrive hand_over hand_first messages emptied read_bytes write_bytes accept picked serve_acceptance serve_acceptances serve_ending serve_endings is_with_driver serve_close serve_closes serve_suspension events_sent free_descriptor free_request first_queued at_driver accepted dropped handed asked devices_start block is_last blocks unit cut may_cut arrived entered returned body_returned family_call answered called follow_release follow_each with_releases dispatched followed insert_once with_requests handler_begun due_begun interrupt_begun served_within settle freed_within fallen due_done tick state_after worked counted step sync_runs sync_run entered_2 runs start trace acted ran turn_of done_turn first_serving_2 serve_object state_start digits
by_priority_run = refl

-- A message counts 16 bytes while it lies in a box, and a send at the limit is refused also while a receiver waits;
-- receipt and deletion give bytes back, as does the deletion of a buffer, a pool and a task.
bytes_given_back_script : Script
bytes_given_back_script = record {
  devices = [];
  pace = None;
  irqs = [];
  boot = record { body = 1; priority = 10 };
  bodies =
      record {
        name = codes "main";
        kind = kinds.Task;
        labels = [];
        stmts =
            stmts.Call names.TkCreMbx (args.List 0 ∷ []) ∷
            stmts.Call names.TkCreMbx (args.List 0 ∷ []) ∷
            stmts.Call names.TkCreTsk (args.List 0 ∷ args.Body 2 ∷ args.Number (pos 5) ∷ args.Number (pos 512) ∷ []) ∷
            stmts.Call names.TkCreTsk (args.List 0 ∷ args.Body 2 ∷ args.Number (pos 5) ∷ args.Number (pos 1046993) ∷ []) ∷
            stmts.Call names.TkSndMbx (args.Number (pos 1) ∷ args.Number (pos 1) ∷ args.Number (pos 1) ∷ []) ∷
            stmts.Call names.TkSndMbx (args.Number (pos 1) ∷ args.Number (pos 1) ∷ args.Number (pos 2) ∷ []) ∷
            stmts.Call names.TkSndMbx (args.Number (pos 1) ∷ args.Number (pos 1) ∷ args.Number (pos 3) ∷ []) ∷
            stmts.Call names.TkStaTsk (args.Number (pos 2) ∷ args.Number (pos 0) ∷ []) ∷
            stmts.Call names.TkSndMbx (args.Number (pos 2) ∷ args.Number (pos 1) ∷ args.Number (pos 4) ∷ []) ∷
            stmts.Call names.TkCreMpl (args.List 0 ∷ args.Number (pos 9) ∷ []) ∷
            stmts.Call names.TkCreMpl (args.List 0 ∷ args.Number (pos 8) ∷ []) ∷
            stmts.Call names.TkRcvMbx (args.Number (pos 1) ∷ args.Number (pos 0) ∷ []) ∷
            stmts.Call names.TkSndMbx (args.Number (pos 2) ∷ args.Number (pos 1) ∷ args.Number (pos 5) ∷ []) ∷
            stmts.Call names.TkSndMbx (args.Number (pos 1) ∷ args.Number (pos 1) ∷ args.Number (pos 6) ∷ []) ∷
            stmts.Call names.TkSndMbx (args.Number (pos 1) ∷ args.Number (pos 1) ∷ args.Number (pos 7) ∷ []) ∷
            stmts.Call names.TkDelMbx (args.Number (pos 1) ∷ []) ∷
            stmts.Call names.TkSndMbx (args.Number (pos 1) ∷ args.Number (pos 1) ∷ args.Number (pos 8) ∷ []) ∷
            stmts.Call names.TkSndMbx (args.Number (pos 2) ∷ args.Number (pos 1) ∷ args.Number (pos 8) ∷ []) ∷
            stmts.Call names.TkSndMbx (args.Number (pos 2) ∷ args.Number (pos 1) ∷ args.Number (pos 9) ∷ []) ∷
            stmts.Call names.TkSndMbx (args.Number (pos 2) ∷ args.Number (pos 1) ∷ args.Number (pos 10) ∷ []) ∷
            stmts.Call names.TkCreMbf (args.List 0 ∷ args.Number (pos 8) ∷ args.Number (pos 1) ∷ []) ∷
            stmts.Call names.TkCreMbf (args.List 0 ∷ args.Number (pos 0) ∷ args.Number (pos 8) ∷ []) ∷
            stmts.Call names.TkCreMpf (args.List 0 ∷ args.Number (pos 2) ∷ args.Number (pos 4) ∷ []) ∷
            stmts.Call names.TkCreMpf (args.List 0 ∷ args.Number (pos 7) ∷ args.Number (pos 1) ∷ []) ∷
            stmts.Call names.TkCreMpf (args.List 0 ∷ args.Number (pos 1) ∷ args.Number (pos 1) ∷ []) ∷
            stmts.Call names.TkDelMpl (args.Number (pos 1) ∷ []) ∷
            stmts.Call names.TkCreMbf (args.List 0 ∷ args.Number (pos 8) ∷ args.Number (pos 1) ∷ []) ∷
            stmts.Call names.TkSndMbf (args.Number (pos 2) ∷ args.Number (pos 0) ∷ args.Number (pos 1) ∷ args.Number (pos 0) ∷ []) ∷
            stmts.Call names.TkDelMpf (args.Number (pos 1) ∷ []) ∷
            stmts.Call names.TkDelMbf (args.Number (pos 2) ∷ []) ∷
            stmts.Call names.TkCreMbf (args.List 0 ∷ args.Number (pos 16) ∷ args.Number (pos 12) ∷ []) ∷
            stmts.Call names.TkCreMbf (args.List 0 ∷ args.Number (pos 15) ∷ args.Number (pos 8) ∷ []) ∷
            stmts.Call names.TkSndMbx (args.Number (pos 2) ∷ args.Number (pos 1) ∷ args.Number (pos 11) ∷ []) ∷
            stmts.Call names.TkDelTsk (args.Number (pos 3) ∷ []) ∷
            stmts.Call names.TkSndMbx (args.Number (pos 2) ∷ args.Number (pos 1) ∷ args.Number (pos 11) ∷ []) ∷
            [];
      } ∷
      record {
        name = codes "rx";
        kind = kinds.Task;
        labels = [];
        stmts =
            stmts.Call names.TkRcvMbx (args.Number (pos 2) ∷ args.Number (negsuc 0) ∷ []) ∷
            [];
      } ∷
      [];
}

bytes_given_back_entries : List Entry
bytes_given_back_entries = []

bytes_given_back_lines : List ℕ
bytes_given_back_lines =
    codes "0 D 1\n" ++
    codes "1 C 1 tk_cre_mbx 1\n" ++
    codes "2 C 1 tk_cre_mbx 2\n" ++
    codes "3 C 1 tk_cre_tsk 2\n" ++
    codes "4 C 1 tk_cre_tsk 3\n" ++
    codes "5 C 1 tk_snd_mbx 0\n" ++
    codes "6 C 1 tk_snd_mbx 0\n" ++
    codes "7 C 1 tk_snd_mbx E_NOMEM\n" ++
    codes "8 C 1 tk_sta_tsk 0\n" ++
    codes "8 D 2\n" ++
    codes "9 B 2 tk_rcv_mbx\n" ++
    codes "9 D 1\n" ++
    codes "10 C 1 tk_snd_mbx E_NOMEM\n" ++
    codes "11 C 1 tk_cre_mpl E_NOMEM\n" ++
    codes "12 C 1 tk_cre_mpl 1\n" ++
    codes "13 C 1 tk_rcv_mbx 0 1 1\n" ++
    codes "14 C 1 tk_snd_mbx 0\n" ++
    codes "14 W 2 tk_rcv_mbx 0 1 5\n" ++
    codes "14 D 2\n" ++
    codes "15 C 2 tk_ext_tsk 0\n" ++
    codes "15 D 1\n" ++
    codes "16 C 1 tk_snd_mbx 0\n" ++
    codes "17 C 1 tk_snd_mbx E_NOMEM\n" ++
    codes "18 C 1 tk_del_mbx 0\n" ++
    codes "19 C 1 tk_snd_mbx E_NOEXS\n" ++
    codes "20 C 1 tk_snd_mbx 0\n" ++
    codes "21 C 1 tk_snd_mbx 0\n" ++
    codes "22 C 1 tk_snd_mbx E_NOMEM\n" ++
    codes "23 C 1 tk_cre_mbf E_NOMEM\n" ++
    codes "24 C 1 tk_cre_mbf 1\n" ++
    codes "25 C 1 tk_cre_mpf E_NOMEM\n" ++
    codes "26 C 1 tk_cre_mpf 1\n" ++
    codes "27 C 1 tk_cre_mpf E_NOMEM\n" ++
    codes "28 C 1 tk_del_mpl 0\n" ++
    codes "29 C 1 tk_cre_mbf 2\n" ++
    codes "30 C 1 tk_snd_mbf 0\n" ++
    codes "31 C 1 tk_del_mpf 0\n" ++
    codes "32 C 1 tk_del_mbf 0\n" ++
    codes "33 C 1 tk_cre_mbf E_NOMEM\n" ++
    codes "34 C 1 tk_cre_mbf 2\n" ++
    codes "35 C 1 tk_snd_mbx E_NOMEM\n" ++
    codes "36 C 1 tk_del_tsk 0\n" ++
    codes "37 C 1 tk_snd_mbx 0\n" ++
    codes "38 C 1 tk_ext_tsk 0\n" ++
    codes "38 D 0\n" ++
    codes "38 END idle\n" ++
    []

bytes_given_back_run : text_of_lines (lines_of (trace bytes_given_back_script modes.Free 100000 bytes_given_back_entries)) ≡ bytes_given_back_lines
unfolding bytes_given_back_script bytes_given_back_entries bytes_given_back_lines text_of form_of named made task_call_name sem_flag_call_name mutex_call_name mail_call_name pool_call_name time_call_name context_call_name device_call_name hook_call_name name_of code_of error_text coded error_named attributes_of flag_mode_of open_mode_of suspend_mode_of is_name_byte name_at_most why_text value_text words_of text_of_line text_of_lines fetch give call_before create_sem create_flag end_first delete_sem delete_flag refer_sem refer_flag signal_sem set_flag clear_flag wait_sem wait_flag sem_flag_call serve_sem serve_flag first_served serve_sem_flag sem_trial flag_trial chosen free_task create_task delete_task start_task exit_task terminate_task change_priority rotate_ready get_task refer_task sleep delay wake_up cancel_wakeups release_wait suspend_task resume_task task_call mark_of allowed free_from first_serving serve_box serve_mailboxes serve_buffer serve_buffers post create_box delete_box send_box receive_box refer_box create_buffer delete_buffer send_buffer receive_buffer refer_buffer mail_call create_mutex lock_mutex unlock_mutex refer_mutex delete_mutex mutex_call change_priority_beside task_call_beside chain_has current_of resettle free_last ceiling_allows serve_mutex serve_mutexes create_fixed delete_fixed get_fixed release_fixed refer_fixed create_variable delete_variable get_variable release_variable refer_variable pool_call first_free serve_fixed serve_fixed_pools serve_variable serve_variable_pools set_time get_time get_operating_time create_cyclic start_cyclic stop_cyclic delete_cyclic refer_cyclic create_alarm start_alarm stop_alarm delete_alarm refer_alarm time_call body_of next_due again define_handler disable_dispatch enable_dispatch disable_interrupts enable_interrupts refer_system define_service refer_service enter_service context_call left list_existing list_ready list_queue set_hook hook_call open_device refer_device request request_whole wait_ending close_device suspend_devices device_call expected arrive hand_over hand_first messages emptied read_bytes write_bytes accept picked serve_acceptance serve_acceptances serve_ending serve_endings is_with_driver serve_close serve_closes serve_suspension events_sent free_descriptor free_request first_queued at_driver accepted dropped handed asked devices_start block is_last blocks unit cut may_cut arrived entered returned body_returned family_call answered called follow_release follow_each with_releases dispatched followed insert_once with_requests handler_begun due_begun interrupt_begun served_within settle freed_within fallen due_done tick state_after worked counted step sync_runs sync_run entered_2 runs start trace acted ran turn_of done_turn first_serving_2 serve_object state_start digits
bytes_given_back_run = refl

-- Messages of one priority are handed out as they were sent, whatever their values.
equal_messages_as_sent_script : Script
equal_messages_as_sent_script = record {
  devices = [];
  pace = None;
  irqs = [];
  boot = record { body = 1; priority = 10 };
  bodies =
      record {
        name = codes "main";
        kind = kinds.Task;
        labels = [];
        stmts =
            stmts.Call names.TkCreMbx (args.List 8192 ∷ []) ∷
            stmts.Call names.TkSndMbx (args.Number (pos 1) ∷ args.Number (pos 3) ∷ args.Number (pos 9) ∷ []) ∷
            stmts.Call names.TkSndMbx (args.Number (pos 1) ∷ args.Number (pos 3) ∷ args.Number (pos 2) ∷ []) ∷
            stmts.Call names.TkSndMbx (args.Number (pos 1) ∷ args.Number (pos 1) ∷ args.Number (pos 5) ∷ []) ∷
            stmts.Call names.TkRcvMbx (args.Number (pos 1) ∷ args.Number (pos 0) ∷ []) ∷
            stmts.Call names.TkRcvMbx (args.Number (pos 1) ∷ args.Number (pos 0) ∷ []) ∷
            stmts.Call names.TkRcvMbx (args.Number (pos 1) ∷ args.Number (pos 0) ∷ []) ∷
            [];
      } ∷
      [];
}

equal_messages_as_sent_entries : List Entry
equal_messages_as_sent_entries = []

equal_messages_as_sent_lines : List ℕ
equal_messages_as_sent_lines =
    codes "0 D 1\n" ++
    codes "1 C 1 tk_cre_mbx 1\n" ++
    codes "2 C 1 tk_snd_mbx 0\n" ++
    codes "3 C 1 tk_snd_mbx 0\n" ++
    codes "4 C 1 tk_snd_mbx 0\n" ++
    codes "5 C 1 tk_rcv_mbx 0 1 5\n" ++
    codes "6 C 1 tk_rcv_mbx 0 3 9\n" ++
    codes "7 C 1 tk_rcv_mbx 0 3 2\n" ++
    codes "8 C 1 tk_ext_tsk 0\n" ++
    codes "8 D 0\n" ++
    codes "8 END idle\n" ++
    []

equal_messages_as_sent_run : text_of_lines (lines_of (trace equal_messages_as_sent_script modes.Free 100000 equal_messages_as_sent_entries)) ≡ equal_messages_as_sent_lines
unfolding equal_messages_as_sent_script equal_messages_as_sent_entries equal_messages_as_sent_lines text_of form_of named made task_call_name sem_flag_call_name mutex_call_name mail_call_name pool_call_name time_call_name context_call_name device_call_name hook_call_name name_of code_of error_text coded error_named attributes_of flag_mode_of open_mode_of suspend_mode_of is_name_byte name_at_most why_text value_text words_of text_of_line text_of_lines fetch give call_before create_sem create_flag end_first delete_sem delete_flag refer_sem refer_flag signal_sem set_flag clear_flag wait_sem wait_flag sem_flag_call serve_sem serve_flag first_served serve_sem_flag sem_trial flag_trial chosen free_task create_task delete_task start_task exit_task terminate_task change_priority rotate_ready get_task refer_task sleep delay wake_up cancel_wakeups release_wait suspend_task resume_task task_call mark_of allowed free_from first_serving serve_box serve_mailboxes serve_buffer serve_buffers post create_box delete_box send_box receive_box refer_box create_buffer delete_buffer send_buffer receive_buffer refer_buffer mail_call create_mutex lock_mutex unlock_mutex refer_mutex delete_mutex mutex_call change_priority_beside task_call_beside chain_has current_of resettle free_last ceiling_allows serve_mutex serve_mutexes create_fixed delete_fixed get_fixed release_fixed refer_fixed create_variable delete_variable get_variable release_variable refer_variable pool_call first_free serve_fixed serve_fixed_pools serve_variable serve_variable_pools set_time get_time get_operating_time create_cyclic start_cyclic stop_cyclic delete_cyclic refer_cyclic create_alarm start_alarm stop_alarm delete_alarm refer_alarm time_call body_of next_due again define_handler disable_dispatch enable_dispatch disable_interrupts enable_interrupts refer_system define_service refer_service enter_service context_call left list_existing list_ready list_queue set_hook hook_call open_device refer_device request request_whole wait_ending close_device suspend_devices device_call expected arrive hand_over hand_first messages emptied read_bytes write_bytes accept picked serve_acceptance serve_acceptances serve_ending serve_endings is_with_driver serve_close serve_closes serve_suspension events_sent free_descriptor free_request first_queued at_driver accepted dropped handed asked devices_start block is_last blocks unit cut may_cut arrived entered returned body_returned family_call answered called follow_release follow_each with_releases dispatched followed insert_once with_requests handler_begun due_begun interrupt_begun served_within settle freed_within fallen due_done tick state_after worked counted step sync_runs sync_run entered_2 runs start trace acted ran turn_of done_turn first_serving_2 serve_object state_start digits
equal_messages_as_sent_run = refl

-- The errors of the calls on mailboxes in their order; a box by priority hands out the least number first and equals
-- as they came, another box all as they came.
orders_and_errors_script : Script
orders_and_errors_script = record {
  devices = [];
  pace = None;
  irqs = [];
  boot = record { body = 1; priority = 10 };
  bodies =
      record {
        name = codes "main";
        kind = kinds.Task;
        labels = [];
        stmts =
            stmts.Call names.TkCreMbx (args.List 16384 ∷ []) ∷
            stmts.Call names.TkCreMbx (args.List 192 ∷ []) ∷
            stmts.Call names.TkCreMbx (args.List 12288 ∷ []) ∷
            stmts.Call names.TkCreMbx (args.List 8320 ∷ []) ∷
            stmts.Call names.TkCreMbx (args.List 0 ∷ []) ∷
            stmts.Call names.TkSndMbx (args.Number (pos 0) ∷ args.Number (pos 0) ∷ args.Number (pos 1) ∷ []) ∷
            stmts.Call names.TkSndMbx (args.Number (pos 3) ∷ args.Number (pos 0) ∷ args.Number (pos 1) ∷ []) ∷
            stmts.Call names.TkSndMbx (args.Number (pos 3) ∷ args.Number (pos 1) ∷ args.Number (negsuc 0) ∷ []) ∷
            stmts.Call names.TkSndMbx (args.Number (pos 3) ∷ args.Number (pos 1) ∷ args.Number (pos 1) ∷ []) ∷
            stmts.Call names.TkRcvMbx (args.Number (pos 65) ∷ args.Number (negsuc 1) ∷ []) ∷
            stmts.Call names.TkRcvMbx (args.Number (pos 3) ∷ args.Number (negsuc 1) ∷ []) ∷
            stmts.Call names.TkRcvMbx (args.Number (pos 3) ∷ args.Number (pos 0) ∷ []) ∷
            stmts.Call names.TkRcvMbx (args.Number (pos 1) ∷ args.Number (pos 0) ∷ []) ∷
            stmts.Call names.TkSndMbx (args.Number (pos 1) ∷ args.Number (pos 7) ∷ args.Number (pos 100) ∷ []) ∷
            stmts.Call names.TkSndMbx (args.Number (pos 1) ∷ args.Number (pos 3) ∷ args.Number (pos 200) ∷ []) ∷
            stmts.Call names.TkSndMbx (args.Number (pos 1) ∷ args.Number (pos 7) ∷ args.Number (pos 101) ∷ []) ∷
            stmts.Call names.TkSndMbx (args.Number (pos 1) ∷ args.Number (pos 3) ∷ args.Number (pos 201) ∷ []) ∷
            stmts.Call names.TkSndMbx (args.Number (pos 1) ∷ args.Number (pos 2147483647) ∷ args.Number (pos 0) ∷ []) ∷
            stmts.Call names.TkRefMbx (args.Number (pos 1) ∷ []) ∷
            stmts.Call names.TkRcvMbx (args.Number (pos 1) ∷ args.Number (pos 0) ∷ []) ∷
            stmts.Call names.TkRcvMbx (args.Number (pos 1) ∷ args.Number (pos 0) ∷ []) ∷
            stmts.Call names.TkSndMbx (args.Number (pos 1) ∷ args.Number (pos 8) ∷ args.Number (pos 102) ∷ []) ∷
            stmts.Call names.TkRcvMbx (args.Number (pos 1) ∷ args.Number (pos 0) ∷ []) ∷
            stmts.Call names.TkRcvMbx (args.Number (pos 1) ∷ args.Number (pos 0) ∷ []) ∷
            stmts.Call names.TkRcvMbx (args.Number (pos 1) ∷ args.Number (pos 0) ∷ []) ∷
            stmts.Call names.TkRcvMbx (args.Number (pos 1) ∷ args.Number (pos 0) ∷ []) ∷
            stmts.Call names.TkSndMbx (args.Number (pos 2) ∷ args.Number (pos 9) ∷ args.Number (pos 1) ∷ []) ∷
            stmts.Call names.TkSndMbx (args.Number (pos 2) ∷ args.Number (pos 1) ∷ args.Number (pos 2) ∷ []) ∷
            stmts.Call names.TkRcvMbx (args.Number (pos 2) ∷ args.Number (pos 0) ∷ []) ∷
            stmts.Call names.TkRcvMbx (args.Number (pos 2) ∷ args.Number (negsuc 0) ∷ []) ∷
            stmts.Call names.TkRefMbx (args.Number (pos 2) ∷ []) ∷
            stmts.Call names.TkRefMbx (args.Number (pos 0) ∷ []) ∷
            stmts.Call names.TkRefMbx (args.Number (pos 3) ∷ []) ∷
            stmts.Call names.TkDelMbx (args.Number (pos 65) ∷ []) ∷
            stmts.Call names.TkDelMbx (args.Number (pos 3) ∷ []) ∷
            stmts.Call names.TkDelMbx (args.Number (pos 1) ∷ []) ∷
            stmts.Call names.TkSndMbx (args.Number (pos 1) ∷ args.Number (pos 1) ∷ args.Number (pos 1) ∷ []) ∷
            stmts.Call names.TkCreMbx (args.List 1 ∷ []) ∷
            [];
      } ∷
      [];
}

orders_and_errors_entries : List Entry
orders_and_errors_entries = []

orders_and_errors_lines : List ℕ
orders_and_errors_lines =
    codes "0 D 1\n" ++
    codes "1 C 1 tk_cre_mbx E_RSATR\n" ++
    codes "2 C 1 tk_cre_mbx E_RSATR\n" ++
    codes "3 C 1 tk_cre_mbx E_RSATR\n" ++
    codes "4 C 1 tk_cre_mbx 1\n" ++
    codes "5 C 1 tk_cre_mbx 2\n" ++
    codes "6 C 1 tk_snd_mbx E_ID\n" ++
    codes "7 C 1 tk_snd_mbx E_PAR\n" ++
    codes "8 C 1 tk_snd_mbx E_PAR\n" ++
    codes "9 C 1 tk_snd_mbx E_NOEXS\n" ++
    codes "10 C 1 tk_rcv_mbx E_ID\n" ++
    codes "11 C 1 tk_rcv_mbx E_PAR\n" ++
    codes "12 C 1 tk_rcv_mbx E_NOEXS\n" ++
    codes "13 C 1 tk_rcv_mbx E_TMOUT\n" ++
    codes "14 C 1 tk_snd_mbx 0\n" ++
    codes "15 C 1 tk_snd_mbx 0\n" ++
    codes "16 C 1 tk_snd_mbx 0\n" ++
    codes "17 C 1 tk_snd_mbx 0\n" ++
    codes "18 C 1 tk_snd_mbx 0\n" ++
    codes "19 C 1 tk_ref_mbx 0 5 0\n" ++
    codes "20 C 1 tk_rcv_mbx 0 3 200\n" ++
    codes "21 C 1 tk_rcv_mbx 0 3 201\n" ++
    codes "22 C 1 tk_snd_mbx 0\n" ++
    codes "23 C 1 tk_rcv_mbx 0 7 100\n" ++
    codes "24 C 1 tk_rcv_mbx 0 7 101\n" ++
    codes "25 C 1 tk_rcv_mbx 0 8 102\n" ++
    codes "26 C 1 tk_rcv_mbx 0 2147483647 0\n" ++
    codes "27 C 1 tk_snd_mbx 0\n" ++
    codes "28 C 1 tk_snd_mbx 0\n" ++
    codes "29 C 1 tk_rcv_mbx 0 9 1\n" ++
    codes "30 C 1 tk_rcv_mbx 0 1 2\n" ++
    codes "31 C 1 tk_ref_mbx 0 0 0\n" ++
    codes "32 C 1 tk_ref_mbx E_ID\n" ++
    codes "33 C 1 tk_ref_mbx E_NOEXS\n" ++
    codes "34 C 1 tk_del_mbx E_ID\n" ++
    codes "35 C 1 tk_del_mbx E_NOEXS\n" ++
    codes "36 C 1 tk_del_mbx 0\n" ++
    codes "37 C 1 tk_snd_mbx E_NOEXS\n" ++
    codes "38 C 1 tk_cre_mbx 1\n" ++
    codes "39 C 1 tk_ext_tsk 0\n" ++
    codes "39 D 0\n" ++
    codes "39 END idle\n" ++
    []

orders_and_errors_run : text_of_lines (lines_of (trace orders_and_errors_script modes.Free 100000 orders_and_errors_entries)) ≡ orders_and_errors_lines
unfolding orders_and_errors_script orders_and_errors_entries orders_and_errors_lines text_of form_of named made task_call_name sem_flag_call_name mutex_call_name mail_call_name pool_call_name time_call_name context_call_name device_call_name hook_call_name name_of code_of error_text coded error_named attributes_of flag_mode_of open_mode_of suspend_mode_of is_name_byte name_at_most why_text value_text words_of text_of_line text_of_lines fetch give call_before create_sem create_flag end_first delete_sem delete_flag refer_sem refer_flag signal_sem set_flag clear_flag wait_sem wait_flag sem_flag_call serve_sem serve_flag first_served serve_sem_flag sem_trial flag_trial chosen free_task create_task delete_task start_task exit_task terminate_task change_priority rotate_ready get_task refer_task sleep delay wake_up cancel_wakeups release_wait suspend_task resume_task task_call mark_of allowed free_from first_serving serve_box serve_mailboxes serve_buffer serve_buffers post create_box delete_box send_box receive_box refer_box create_buffer delete_buffer send_buffer receive_buffer refer_buffer mail_call create_mutex lock_mutex unlock_mutex refer_mutex delete_mutex mutex_call change_priority_beside task_call_beside chain_has current_of resettle free_last ceiling_allows serve_mutex serve_mutexes create_fixed delete_fixed get_fixed release_fixed refer_fixed create_variable delete_variable get_variable release_variable refer_variable pool_call first_free serve_fixed serve_fixed_pools serve_variable serve_variable_pools set_time get_time get_operating_time create_cyclic start_cyclic stop_cyclic delete_cyclic refer_cyclic create_alarm start_alarm stop_alarm delete_alarm refer_alarm time_call body_of next_due again define_handler disable_dispatch enable_dispatch disable_interrupts enable_interrupts refer_system define_service refer_service enter_service context_call left list_existing list_ready list_queue set_hook hook_call open_device refer_device request request_whole wait_ending close_device suspend_devices device_call expected arrive hand_over hand_first messages emptied read_bytes write_bytes accept picked serve_acceptance serve_acceptances serve_ending serve_endings is_with_driver serve_close serve_closes serve_suspension events_sent free_descriptor free_request first_queued at_driver accepted dropped handed asked devices_start block is_last blocks unit cut may_cut arrived entered returned body_returned family_call answered called follow_release follow_each with_releases dispatched followed insert_once with_requests handler_begun due_begun interrupt_begun served_within settle freed_within fallen due_done tick state_after worked counted step sync_runs sync_run entered_2 runs start trace acted ran turn_of done_turn first_serving_2 serve_object state_start digits
orders_and_errors_run = refl

-- The waits of receivers: a send ends the first one's, by priority or as they began; others end by release,
-- termination, deletion and time-out, without fields, so that the registers behind r0 keep what they held.
receivers_script : Script
receivers_script = record {
  devices = [];
  pace = None;
  irqs = [];
  boot = record { body = 1; priority = 50 };
  bodies =
      record {
        name = codes "main";
        kind = kinds.Task;
        labels = [];
        stmts =
            stmts.Call names.TkCreMbx (args.List 128 ∷ []) ∷
            stmts.Call names.TkCreTsk (args.List 0 ∷ args.Body 2 ∷ args.Number (pos 30) ∷ args.Number (pos 512) ∷ []) ∷
            stmts.Call names.TkCreTsk (args.List 0 ∷ args.Body 2 ∷ args.Number (pos 20) ∷ args.Number (pos 512) ∷ []) ∷
            stmts.Call names.TkCreTsk (args.List 0 ∷ args.Body 2 ∷ args.Number (pos 20) ∷ args.Number (pos 512) ∷ []) ∷
            stmts.Call names.TkStaTsk (args.Number (pos 2) ∷ args.Number (pos 0) ∷ []) ∷
            stmts.Call names.TkStaTsk (args.Number (pos 3) ∷ args.Number (pos 0) ∷ []) ∷
            stmts.Call names.TkStaTsk (args.Number (pos 4) ∷ args.Number (pos 0) ∷ []) ∷
            stmts.Call names.TkRefMbx (args.Number (pos 1) ∷ []) ∷
            stmts.Call names.TkSndMbx (args.Number (pos 1) ∷ args.Number (pos 5) ∷ args.Number (pos 77) ∷ []) ∷
            stmts.Call names.TkSndMbx (args.Number (pos 1) ∷ args.Number (pos 9) ∷ args.Number (pos 78) ∷ []) ∷
            stmts.Call names.TkRelWai (args.Number (pos 3) ∷ []) ∷
            stmts.Call names.TkTerTsk (args.Number (pos 4) ∷ []) ∷
            stmts.Call names.TkRefMbx (args.Number (pos 1) ∷ []) ∷
            stmts.Call names.TkDelMbx (args.Number (pos 1) ∷ []) ∷
            stmts.Call names.TkCreMbx (args.List 64 ∷ []) ∷
            stmts.Call names.TkStaTsk (args.Number (pos 2) ∷ args.Number (pos 0) ∷ []) ∷
            stmts.Call names.TkStaTsk (args.Number (pos 3) ∷ args.Number (pos 0) ∷ []) ∷
            stmts.Call names.TkSndMbx (args.Number (pos 1) ∷ args.Number (pos 1) ∷ args.Number (pos 1) ∷ []) ∷
            stmts.Call names.TkCreMbx (args.List 0 ∷ []) ∷
            stmts.Call names.TkRcvMbx (args.Number (pos 2) ∷ args.Number (pos 1) ∷ []) ∷
            [];
      } ∷
      record {
        name = codes "rx";
        kind = kinds.Task;
        labels = [];
        stmts =
            stmts.Call names.TkRcvMbx (args.Number (pos 1) ∷ args.Number (negsuc 0) ∷ []) ∷
            stmts.Show (operands.Register 2) ∷
            stmts.Call names.TkRcvMbx (args.Number (pos 1) ∷ args.Number (negsuc 0) ∷ []) ∷
            stmts.Show (operands.Register 0) ∷
            stmts.Show (operands.Register 2) ∷
            [];
      } ∷
      [];
}

receivers_entries : List Entry
receivers_entries = []

receivers_lines : List ℕ
receivers_lines =
    codes "0 D 1\n" ++
    codes "1 C 1 tk_cre_mbx 1\n" ++
    codes "2 C 1 tk_cre_tsk 2\n" ++
    codes "3 C 1 tk_cre_tsk 3\n" ++
    codes "4 C 1 tk_cre_tsk 4\n" ++
    codes "5 C 1 tk_sta_tsk 0\n" ++
    codes "5 D 2\n" ++
    codes "6 B 2 tk_rcv_mbx\n" ++
    codes "6 D 1\n" ++
    codes "7 C 1 tk_sta_tsk 0\n" ++
    codes "7 D 3\n" ++
    codes "8 B 3 tk_rcv_mbx\n" ++
    codes "8 D 1\n" ++
    codes "9 C 1 tk_sta_tsk 0\n" ++
    codes "9 D 4\n" ++
    codes "10 B 4 tk_rcv_mbx\n" ++
    codes "10 D 1\n" ++
    codes "11 C 1 tk_ref_mbx 0 0 3\n" ++
    codes "12 C 1 tk_snd_mbx 0\n" ++
    codes "12 W 3 tk_rcv_mbx 0 5 77\n" ++
    codes "12 D 3\n" ++
    codes "13 S 3 77\n" ++
    codes "14 B 3 tk_rcv_mbx\n" ++
    codes "14 D 1\n" ++
    codes "15 C 1 tk_snd_mbx 0\n" ++
    codes "15 W 4 tk_rcv_mbx 0 9 78\n" ++
    codes "15 D 4\n" ++
    codes "16 S 4 78\n" ++
    codes "17 B 4 tk_rcv_mbx\n" ++
    codes "17 D 1\n" ++
    codes "18 C 1 tk_rel_wai 0\n" ++
    codes "18 W 3 tk_rcv_mbx E_RLWAI\n" ++
    codes "18 D 3\n" ++
    codes "19 S 3 -49\n" ++
    codes "20 S 3 77\n" ++
    codes "21 C 3 tk_ext_tsk 0\n" ++
    codes "21 D 1\n" ++
    codes "22 C 1 tk_ter_tsk 0\n" ++
    codes "23 C 1 tk_ref_mbx 0 0 2\n" ++
    codes "24 C 1 tk_del_mbx 0\n" ++
    codes "24 W 2 tk_rcv_mbx E_DLT\n" ++
    codes "24 D 2\n" ++
    codes "25 S 2 0\n" ++
    codes "26 C 2 tk_rcv_mbx E_NOEXS\n" ++
    codes "27 S 2 -42\n" ++
    codes "28 S 2 0\n" ++
    codes "29 C 2 tk_ext_tsk 0\n" ++
    codes "29 D 1\n" ++
    codes "30 C 1 tk_cre_mbx 1\n" ++
    codes "31 C 1 tk_sta_tsk 0\n" ++
    codes "31 D 2\n" ++
    codes "32 B 2 tk_rcv_mbx\n" ++
    codes "32 D 1\n" ++
    codes "33 C 1 tk_sta_tsk 0\n" ++
    codes "33 D 3\n" ++
    codes "34 B 3 tk_rcv_mbx\n" ++
    codes "34 D 1\n" ++
    codes "35 C 1 tk_snd_mbx 0\n" ++
    codes "35 W 2 tk_rcv_mbx 0 1 1\n" ++
    codes "35 D 2\n" ++
    codes "36 S 2 1\n" ++
    codes "37 B 2 tk_rcv_mbx\n" ++
    codes "37 D 1\n" ++
    codes "38 C 1 tk_cre_mbx 2\n" ++
    codes "39 B 1 tk_rcv_mbx\n" ++
    codes "39 D 0\n" ++
    codes "40 K 1\n" ++
    codes "41 K 2\n" ++
    codes "41 W 1 tk_rcv_mbx E_TMOUT\n" ++
    codes "41 D 1\n" ++
    codes "42 C 1 tk_ext_tsk 0\n" ++
    codes "42 D 0\n" ++
    codes "42 END idle\n" ++
    []

receivers_run : text_of_lines (lines_of (trace receivers_script modes.Free 100000 receivers_entries)) ≡ receivers_lines
unfolding receivers_script receivers_entries receivers_lines text_of form_of named made task_call_name sem_flag_call_name mutex_call_name mail_call_name pool_call_name time_call_name context_call_name device_call_name hook_call_name name_of code_of error_text coded error_named attributes_of flag_mode_of open_mode_of suspend_mode_of is_name_byte name_at_most why_text value_text words_of text_of_line text_of_lines fetch give call_before create_sem create_flag end_first delete_sem delete_flag refer_sem refer_flag signal_sem set_flag clear_flag wait_sem wait_flag sem_flag_call serve_sem serve_flag first_served serve_sem_flag sem_trial flag_trial chosen free_task create_task delete_task start_task exit_task terminate_task change_priority rotate_ready get_task refer_task sleep delay wake_up cancel_wakeups release_wait suspend_task resume_task task_call mark_of allowed free_from first_serving serve_box serve_mailboxes serve_buffer serve_buffers post create_box delete_box send_box receive_box refer_box create_buffer delete_buffer send_buffer receive_buffer refer_buffer mail_call create_mutex lock_mutex unlock_mutex refer_mutex delete_mutex mutex_call change_priority_beside task_call_beside chain_has current_of resettle free_last ceiling_allows serve_mutex serve_mutexes create_fixed delete_fixed get_fixed release_fixed refer_fixed create_variable delete_variable get_variable release_variable refer_variable pool_call first_free serve_fixed serve_fixed_pools serve_variable serve_variable_pools set_time get_time get_operating_time create_cyclic start_cyclic stop_cyclic delete_cyclic refer_cyclic create_alarm start_alarm stop_alarm delete_alarm refer_alarm time_call body_of next_due again define_handler disable_dispatch enable_dispatch disable_interrupts enable_interrupts refer_system define_service refer_service enter_service context_call left list_existing list_ready list_queue set_hook hook_call open_device refer_device request request_whole wait_ending close_device suspend_devices device_call expected arrive hand_over hand_first messages emptied read_bytes write_bytes accept picked serve_acceptance serve_acceptances serve_ending serve_endings is_with_driver serve_close serve_closes serve_suspension events_sent free_descriptor free_request first_queued at_driver accepted dropped handed asked devices_start block is_last blocks unit cut may_cut arrived entered returned body_returned family_call answered called follow_release follow_each with_releases dispatched followed insert_once with_requests handler_begun due_begun interrupt_begun served_within settle freed_within fallen due_done tick state_after worked counted step sync_runs sync_run entered_2 runs start trace acted ran turn_of done_turn first_serving_2 serve_object state_start digits
receivers_run = refl
