-- Runs that were worked out by hand from the rules, as runs/context/hooks has them: each a theorem by computation.
use Rattle.std.specs.Prelude.{ℕ, pos, negsuc, List, [], ◌∷◌, ◌++◌, Some, None, codes, ◌≡◌, refl}
use Rattle.std.specs.Fmt.{digits}
use Rattle.tk_types.specs.declared.script.Script.{Script}
use Rattle.tk_types.specs.declared.script.BodyKind.TheVariants as kinds
use Rattle.tk_types.specs.declared.script.Kind.TheVariants as devices
use Rattle.tk_types.specs.declared.script.Stmt.TheVariants as stmts
use Rattle.tk_types.specs.declared.script.Operand.TheVariants as operands
use Rattle.tk_types.specs.declared.script.Operation.TheVariants as operations
use Rattle.tk_types.specs.declared.script.Condition.TheVariants as conditions
use Rattle.tk_types.specs.declared.script.Arg.TheVariants as args
use Rattle.tk_types.specs.declared.call_name.CallName.TheVariants as names
use Rattle.tk_types.specs.declared.line.Entry.{Entry}
use Rattle.tk_types.specs.declared.line.How.TheVariants as hows
use Rattle.tk_types.specs.declared.run.Mode.TheVariants as modes
use Rattle.tk_types.specs.CallNames.{text_of, form_of, named}
use Rattle.tk_types.specs.Calls.{made, task_call_name, sem_flag_call_name, mutex_call_name, mail_call_name, pool_call_name, time_call_name, context_call_name, device_call_name, hook_call_name, name_of}
use Rattle.tk_types.specs.Codes.{code_of, error_text, coded, error_named}
use Rattle.tk_types.specs.Modes.{attributes_of, flag_mode_of, open_mode_of, suspend_mode_of}
use Rattle.tk_types.specs.Names.{is_name_byte, name_at_most}
use Rattle.tk_types.specs.Reasons.{why_text}
use Rattle.tk_model.specs.LineText.{value_text, words_of, text_of_line, text_of_lines}
use Rattle.kernel_model.specs.Bodies.Statements.{fetch, give, call_before}
use Rattle.kernel_model.specs.SemFlags.Calls.{create_sem, create_flag, end_first, delete_sem, delete_flag, refer_sem, refer_flag, signal_sem, set_flag, clear_flag, wait_sem, wait_flag, sem_flag_call}
use Rattle.kernel_model.specs.SemFlags.Tables.{serve_sem, serve_flag, first_served, serve_sem_flag}
use Rattle.kernel_model.specs.SemFlags.Trial.{sem_trial, flag_trial}
use Rattle.kernel_model.specs.Tasks.Base.{chosen, free_task}
use Rattle.kernel_model.specs.Tasks.Calls.{create_task, delete_task, start_task, exit_task, terminate_task, change_priority, rotate_ready, get_task, refer_task, sleep, delay, wake_up, cancel_wakeups, release_wait, suspend_task, resume_task, task_call}
use Rattle.kernel_model.specs.Tasks.Marks.{mark_of, allowed}
use Rattle.kernel_model.specs.Words.Orders.{free_from}
use Rattle.object_model.specs.Servings.{first_serving}
use Rattle.object_model.specs.Mails.Boxes.{serve_box, serve_mailboxes}
use Rattle.object_model.specs.Mails.Buffers.{serve_buffer, serve_buffers, post}
use Rattle.object_model.specs.Mails.Calls.{create_box, delete_box, send_box, receive_box, refer_box, create_buffer, delete_buffer, send_buffer, receive_buffer, refer_buffer, mail_call}
use Rattle.object_model.specs.Mutexes.Calls.{create_mutex, lock_mutex, unlock_mutex, refer_mutex, delete_mutex, mutex_call, change_priority_beside, task_call_beside}
use Rattle.object_model.specs.Mutexes.Priority.{chain_has, current_of, resettle}
use Rattle.object_model.specs.Mutexes.Tables.{free_last, ceiling_allows, serve_mutex, serve_mutexes}
use Rattle.object_model.specs.Pools.Calls.{create_fixed, delete_fixed, get_fixed, release_fixed, refer_fixed, create_variable, delete_variable, get_variable, release_variable, refer_variable, pool_call}
use Rattle.object_model.specs.Pools.Fixed.{first_free, serve_fixed, serve_fixed_pools}
use Rattle.object_model.specs.Pools.Variable.{serve_variable, serve_variable_pools}
use Rattle.context_model.specs.Clocks.Calls.{set_time, get_time, get_operating_time, create_cyclic, start_cyclic, stop_cyclic, delete_cyclic, refer_cyclic, create_alarm, start_alarm, stop_alarm, delete_alarm, refer_alarm, time_call}
use Rattle.context_model.specs.Clocks.Tables.{body_of, next_due, again}
use Rattle.context_model.specs.Contexts.Calls.{define_handler, disable_dispatch, enable_dispatch, disable_interrupts, enable_interrupts, refer_system, define_service, refer_service, enter_service, context_call}
use Rattle.context_model.specs.Contexts.Tables.{left}
use Rattle.context_model.specs.Hooks.Calls.{list_existing, list_ready, list_queue, set_hook, hook_call}
use Rattle.device_model.specs.Devices.Calls.{open_device, refer_device, request, request_whole, wait_ending, close_device, suspend_devices, device_call}
use Rattle.device_model.specs.Devices.Endings.{expected, arrive}
use Rattle.device_model.specs.Devices.Handing.{hand_over, hand_first, messages, emptied}
use Rattle.device_model.specs.Devices.Memory.{read_bytes, write_bytes}
use Rattle.device_model.specs.Devices.Requests.{accept, picked}
use Rattle.device_model.specs.Devices.Servings.{serve_acceptance, serve_acceptances, serve_ending, serve_endings, is_with_driver, serve_close, serve_closes, serve_suspension}
use Rattle.device_model.specs.Devices.Suspension.{events_sent}
use Rattle.device_model.specs.Devices.Tables.{free_descriptor, free_request, first_queued, at_driver, accepted, dropped, handed, asked, devices_start}
use Rattle.device_model.specs.Units.Blocks.{block, is_last, blocks}
use Rattle.device_model.specs.Units.Function.{unit, cut, may_cut}
use Rattle.machine_model.specs.Events.Arrivals.{arrived}
use Rattle.machine_model.specs.Events.Bodies.{entered, returned, body_returned}
use Rattle.machine_model.specs.Events.Calls.{family_call, answered, called}
use Rattle.machine_model.specs.Events.Follow.{follow_release, follow_each, with_releases, dispatched, followed}
use Rattle.machine_model.specs.Events.Handlers.{insert_once, with_requests, handler_begun, due_begun, interrupt_begun}
use Rattle.machine_model.specs.Events.Settle.{served_within, settle, freed_within}
use Rattle.machine_model.specs.Events.Ticks.{fallen, due_done, tick}
use Rattle.machine_model.specs.Runs.Reached.{state_after}
use Rattle.machine_model.specs.Runs.Step.{worked, counted, step}
use Rattle.machine_model.specs.Runs.SyncTrace.{sync_runs, sync_run}
use Rattle.machine_model.specs.Runs.Trace.{lines_of, entered as entered_2, runs, start, trace}
use Rattle.machine_model.specs.Runs.Turns.{acted, ran, turn_of, done_turn}
use Rattle.machine_model.specs.States.Objects.{first_serving as first_serving_2, serve_object}
use Rattle.machine_model.specs.States.State.{state_start}

-- A mailbox, a pool, an alarm, and the hook on dispatches.
dispatch_hook_script : Script
dispatch_hook_script = record {
  devices = [];
  pace = None;
  irqs = [];
  boot = record { body = 1; priority = 10 };
  bodies =
      record {
        name = codes "main";
        kind = kinds.Task;
        labels = [];
        stmts =
            stmts.Call names.TkCreMbx (args.List 8192 ∷ []) ∷
            stmts.Call names.TkSndMbx (args.Number (pos 1) ∷ args.Number (pos 5) ∷ args.Number (pos 100) ∷ []) ∷
            stmts.Call names.TkSndMbx (args.Number (pos 1) ∷ args.Number (pos 2) ∷ args.Number (pos 200) ∷ []) ∷
            stmts.Call names.TkRcvMbx (args.Number (pos 1) ∷ args.Number (pos 0) ∷ []) ∷
            stmts.Call names.TkSndMbx (args.Number (pos 1) ∷ args.Number (pos 0) ∷ args.Number (pos 7) ∷ []) ∷
            stmts.Call names.TkCreMpf (args.List 0 ∷ args.Number (pos 2) ∷ args.Number (pos 16) ∷ []) ∷
            stmts.Call names.TkGetMpf (args.Number (pos 1) ∷ args.Number (pos 0) ∷ []) ∷
            stmts.Call names.TkGetMpf (args.Number (pos 1) ∷ args.Number (pos 0) ∷ []) ∷
            stmts.Call names.TkGetMpf (args.Number (pos 1) ∷ args.Number (pos 0) ∷ []) ∷
            stmts.Call names.TkRelMpf (args.Number (pos 1) ∷ args.Number (pos 1) ∷ []) ∷
            stmts.Call names.TkGetMpf (args.Number (pos 1) ∷ args.Number (pos 0) ∷ []) ∷
            stmts.Call names.TkRelMpf (args.Number (pos 1) ∷ args.Number (pos 3) ∷ []) ∷
            stmts.Call names.TkCreAlm (args.List 0 ∷ args.Body 2 ∷ []) ∷
            stmts.Call names.TkStaAlm (args.Number (pos 1) ∷ args.Number (pos 1) ∷ []) ∷
            stmts.Call names.TdLstMpf (args.Number (pos 0) ∷ args.Number (pos 4) ∷ []) ∷
            stmts.Call names.TdHokDsp (args.Number (pos 1) ∷ []) ∷
            [];
      } ∷
      record {
        name = codes "bell";
        kind = kinds.Hand;
        labels = [];
        stmts =
            stmts.Say (codes "ring") ∷
            [];
      } ∷
      [];
}

dispatch_hook_entries : List Entry
dispatch_hook_entries = []

dispatch_hook_lines : List ℕ
dispatch_hook_lines =
    codes "0 D 1\n" ++
    codes "1 C 1 tk_cre_mbx 1\n" ++
    codes "2 C 1 tk_snd_mbx 0\n" ++
    codes "3 C 1 tk_snd_mbx 0\n" ++
    codes "4 C 1 tk_rcv_mbx 0 2 200\n" ++
    codes "5 C 1 tk_snd_mbx E_PAR\n" ++
    codes "6 C 1 tk_cre_mpf 1\n" ++
    codes "7 C 1 tk_get_mpf 1\n" ++
    codes "8 C 1 tk_get_mpf 2\n" ++
    codes "9 C 1 tk_get_mpf E_TMOUT\n" ++
    codes "10 C 1 tk_rel_mpf 0\n" ++
    codes "11 C 1 tk_get_mpf 1\n" ++
    codes "12 C 1 tk_rel_mpf E_PAR\n" ++
    codes "13 C 1 tk_cre_alm 1\n" ++
    codes "14 C 1 tk_sta_alm 0\n" ++
    codes "15 C 1 td_lst_mpf 1\n" ++
    codes "16 C 1 td_hok_dsp 0\n" ++
    codes "17 C 1 tk_ext_tsk 0\n" ++
    codes "17 O dsp 0\n" ++
    codes "17 D 0\n" ++
    codes "18 K 1\n" ++
    codes "19 K 2\n" ++
    codes "20 I alm 1\n" ++
    codes "21 S 0 ring\n" ++
    codes "22 END idle\n" ++
    []

dispatch_hook_run : text_of_lines (lines_of (trace dispatch_hook_script modes.Free 100000 dispatch_hook_entries)) ≡ dispatch_hook_lines
unfolding dispatch_hook_script dispatch_hook_entries dispatch_hook_lines text_of form_of named made task_call_name sem_flag_call_name mutex_call_name mail_call_name pool_call_name time_call_name context_call_name device_call_name hook_call_name name_of code_of error_text coded error_named attributes_of flag_mode_of open_mode_of suspend_mode_of is_name_byte name_at_most why_text value_text words_of text_of_line text_of_lines fetch give call_before create_sem create_flag end_first delete_sem delete_flag refer_sem refer_flag signal_sem set_flag clear_flag wait_sem wait_flag sem_flag_call serve_sem serve_flag first_served serve_sem_flag sem_trial flag_trial chosen free_task create_task delete_task start_task exit_task terminate_task change_priority rotate_ready get_task refer_task sleep delay wake_up cancel_wakeups release_wait suspend_task resume_task task_call mark_of allowed free_from first_serving serve_box serve_mailboxes serve_buffer serve_buffers post create_box delete_box send_box receive_box refer_box create_buffer delete_buffer send_buffer receive_buffer refer_buffer mail_call create_mutex lock_mutex unlock_mutex refer_mutex delete_mutex mutex_call change_priority_beside task_call_beside chain_has current_of resettle free_last ceiling_allows serve_mutex serve_mutexes create_fixed delete_fixed get_fixed release_fixed refer_fixed create_variable delete_variable get_variable release_variable refer_variable pool_call first_free serve_fixed serve_fixed_pools serve_variable serve_variable_pools set_time get_time get_operating_time create_cyclic start_cyclic stop_cyclic delete_cyclic refer_cyclic create_alarm start_alarm stop_alarm delete_alarm refer_alarm time_call body_of next_due again define_handler disable_dispatch enable_dispatch disable_interrupts enable_interrupts refer_system define_service refer_service enter_service context_call left list_existing list_ready list_queue set_hook hook_call open_device refer_device request request_whole wait_ending close_device suspend_devices device_call expected arrive hand_over hand_first messages emptied read_bytes write_bytes accept picked serve_acceptance serve_acceptances serve_ending serve_endings is_with_driver serve_close serve_closes serve_suspension events_sent free_descriptor free_request first_queued at_driver accepted dropped handed asked devices_start block is_last blocks unit cut may_cut arrived entered returned body_returned family_call answered called follow_release follow_each with_releases dispatched followed insert_once with_requests handler_begun due_begun interrupt_begun served_within settle freed_within fallen due_done tick state_after worked counted step sync_runs sync_run entered_2 runs start trace acted ran turn_of done_turn first_serving_2 serve_object state_start digits
dispatch_hook_run = refl

-- The hooks on starts and on dispatches count as they stand when the line comes, so a handler decides on the next one's start and on
-- the dispatch at its own end. A service that takes the hook on calls off returns without it.
hooks_set_by_handlers_script : Script
hooks_set_by_handlers_script = record {
  devices = [];
  pace = None;
  irqs = [];
  boot = record { body = 1; priority = 10 };
  bodies =
      record {
        name = codes "main";
        kind = kinds.Task;
        labels = [];
        stmts =
            stmts.Call names.TkCreCyc (args.List 65536 ∷ args.Body 2 ∷ args.Number (pos 5) ∷ args.Number (pos 0) ∷ []) ∷
            stmts.Call names.TkCreAlm (args.List 0 ∷ args.Body 3 ∷ []) ∷
            stmts.Call names.TkStaAlm (args.Number (pos 1) ∷ args.Number (pos 0) ∷ []) ∷
            stmts.Call names.TkDefSsy (args.Number (pos 1) ∷ args.Body 4 ∷ []) ∷
            stmts.Call names.TdHokInt (args.Number (pos 1) ∷ []) ∷
            stmts.Call names.TdHokSvc (args.Number (pos 1) ∷ []) ∷
            stmts.Call names.Svc (args.Number (pos 1) ∷ args.Number (pos 0) ∷ []) ∷
            stmts.Call names.TkDlyTsk (args.Number (pos 1) ∷ []) ∷
            stmts.Call names.TdHokDsp (args.Number (pos 0) ∷ []) ∷
            stmts.Call names.TkDelAlm (args.Number (pos 1) ∷ []) ∷
            [];
      } ∷
      record {
        name = codes "c";
        kind = kinds.Hand;
        labels = [];
        stmts =
            stmts.Call names.TdHokInt (args.Number (pos 0) ∷ []) ∷
            stmts.Call names.TdHokDsp (args.Number (pos 1) ∷ []) ∷
            [];
      } ∷
      record {
        name = codes "a";
        kind = kinds.Hand;
        labels = [];
        stmts =
            stmts.Call names.TdHokInt (args.Number (pos 1) ∷ []) ∷
            stmts.Call names.TkStaAlm (args.Number (pos 1) ∷ args.Number (pos 0) ∷ []) ∷
            stmts.Call names.TkStpCyc (args.Number (pos 1) ∷ []) ∷
            [];
      } ∷
      record {
        name = codes "s";
        kind = kinds.Svc;
        labels = [];
        stmts =
            stmts.Call names.TdHokSvc (args.Number (pos 0) ∷ []) ∷
            stmts.Return (operands.Number (pos 9)) ∷
            [];
      } ∷
      [];
}

hooks_set_by_handlers_entries : List Entry
hooks_set_by_handlers_entries = []

hooks_set_by_handlers_lines : List ℕ
hooks_set_by_handlers_lines =
    codes "0 D 1\n" ++
    codes "1 C 1 tk_cre_cyc 1\n" ++
    codes "2 C 1 tk_cre_alm 1\n" ++
    codes "3 C 1 tk_sta_alm 0\n" ++
    codes "4 C 1 tk_def_ssy 0\n" ++
    codes "5 C 1 td_hok_int 0\n" ++
    codes "6 C 1 td_hok_svc 0\n" ++
    codes "8 O svc 1 td_hok_svc\n" ++
    codes "8 C 1 td_hok_svc 0\n" ++
    codes "9 C 1 svc 9\n" ++
    codes "10 B 1 tk_dly_tsk\n" ++
    codes "10 D 0\n" ++
    codes "11 K 1\n" ++
    codes "12 O int cyc 1\n" ++
    codes "12 I cyc 1\n" ++
    codes "13 C 0 td_hok_int 0\n" ++
    codes "14 C 0 td_hok_dsp 0\n" ++
    codes "16 I alm 1\n" ++
    codes "17 C 0 td_hok_int 0\n" ++
    codes "18 C 0 tk_sta_alm 0\n" ++
    codes "19 C 0 tk_stp_cyc 0\n" ++
    codes "21 K 2\n" ++
    codes "21 W 1 tk_dly_tsk 0\n" ++
    codes "22 O int alm 1\n" ++
    codes "22 I alm 1\n" ++
    codes "23 C 0 td_hok_int 0\n" ++
    codes "24 C 0 tk_sta_alm 0\n" ++
    codes "25 C 0 tk_stp_cyc 0\n" ++
    codes "26 O dsp 1\n" ++
    codes "26 D 1\n" ++
    codes "27 C 1 td_hok_dsp 0\n" ++
    codes "28 C 1 tk_del_alm 0\n" ++
    codes "29 C 1 tk_ext_tsk 0\n" ++
    codes "29 D 0\n" ++
    codes "29 END idle\n" ++
    []

hooks_set_by_handlers_run : text_of_lines (lines_of (trace hooks_set_by_handlers_script modes.Free 100000 hooks_set_by_handlers_entries)) ≡ hooks_set_by_handlers_lines
unfolding hooks_set_by_handlers_script hooks_set_by_handlers_entries hooks_set_by_handlers_lines text_of form_of named made task_call_name sem_flag_call_name mutex_call_name mail_call_name pool_call_name time_call_name context_call_name device_call_name hook_call_name name_of code_of error_text coded error_named attributes_of flag_mode_of open_mode_of suspend_mode_of is_name_byte name_at_most why_text value_text words_of text_of_line text_of_lines fetch give call_before create_sem create_flag end_first delete_sem delete_flag refer_sem refer_flag signal_sem set_flag clear_flag wait_sem wait_flag sem_flag_call serve_sem serve_flag first_served serve_sem_flag sem_trial flag_trial chosen free_task create_task delete_task start_task exit_task terminate_task change_priority rotate_ready get_task refer_task sleep delay wake_up cancel_wakeups release_wait suspend_task resume_task task_call mark_of allowed free_from first_serving serve_box serve_mailboxes serve_buffer serve_buffers post create_box delete_box send_box receive_box refer_box create_buffer delete_buffer send_buffer receive_buffer refer_buffer mail_call create_mutex lock_mutex unlock_mutex refer_mutex delete_mutex mutex_call change_priority_beside task_call_beside chain_has current_of resettle free_last ceiling_allows serve_mutex serve_mutexes create_fixed delete_fixed get_fixed release_fixed refer_fixed create_variable delete_variable get_variable release_variable refer_variable pool_call first_free serve_fixed serve_fixed_pools serve_variable serve_variable_pools set_time get_time get_operating_time create_cyclic start_cyclic stop_cyclic delete_cyclic refer_cyclic create_alarm start_alarm stop_alarm delete_alarm refer_alarm time_call body_of next_due again define_handler disable_dispatch enable_dispatch disable_interrupts enable_interrupts refer_system define_service refer_service enter_service context_call left list_existing list_ready list_queue set_hook hook_call open_device refer_device request request_whole wait_ending close_device suspend_devices device_call expected arrive hand_over hand_first messages emptied read_bytes write_bytes accept picked serve_acceptance serve_acceptances serve_ending serve_endings is_with_driver serve_close serve_closes serve_suspension events_sent free_descriptor free_request first_queued at_driver accepted dropped handed asked devices_start block is_last blocks unit cut may_cut arrived entered returned body_returned family_call answered called follow_release follow_each with_releases dispatched followed insert_once with_requests handler_begun due_begun interrupt_begun served_within settle freed_within fallen due_done tick state_after worked counted step sync_runs sync_run entered_2 runs start trace acted ran turn_of done_turn first_serving_2 serve_object state_start digits
hooks_set_by_handlers_run = refl

-- The hook on calls stands before their lines; what was set before a call decides on its own line.
service_hook_script : Script
service_hook_script = record {
  devices = [];
  pace = None;
  irqs = [];
  boot = record { body = 1; priority = 10 };
  bodies =
      record {
        name = codes "main";
        kind = kinds.Task;
        labels = [];
        stmts =
            stmts.Call names.TdHokSvc (args.Number (pos 1) ∷ []) ∷
            stmts.Call names.TkGetTid ([]) ∷
            stmts.Call names.TdHokSvc (args.Number (pos 0) ∷ []) ∷
            stmts.Call names.TkGetTid ([]) ∷
            [];
      } ∷
      [];
}

service_hook_entries : List Entry
service_hook_entries = []

service_hook_lines : List ℕ
service_hook_lines =
    codes "0 D 1\n" ++
    codes "1 C 1 td_hok_svc 0\n" ++
    codes "2 O svc 1 tk_get_tid\n" ++
    codes "2 C 1 tk_get_tid 1\n" ++
    codes "3 O svc 1 td_hok_svc\n" ++
    codes "3 C 1 td_hok_svc 0\n" ++
    codes "4 C 1 tk_get_tid 1\n" ++
    codes "5 C 1 tk_ext_tsk 0\n" ++
    codes "5 D 0\n" ++
    codes "5 END idle\n" ++
    []

service_hook_run : text_of_lines (lines_of (trace service_hook_script modes.Free 100000 service_hook_entries)) ≡ service_hook_lines
unfolding service_hook_script service_hook_entries service_hook_lines text_of form_of named made task_call_name sem_flag_call_name mutex_call_name mail_call_name pool_call_name time_call_name context_call_name device_call_name hook_call_name name_of code_of error_text coded error_named attributes_of flag_mode_of open_mode_of suspend_mode_of is_name_byte name_at_most why_text value_text words_of text_of_line text_of_lines fetch give call_before create_sem create_flag end_first delete_sem delete_flag refer_sem refer_flag signal_sem set_flag clear_flag wait_sem wait_flag sem_flag_call serve_sem serve_flag first_served serve_sem_flag sem_trial flag_trial chosen free_task create_task delete_task start_task exit_task terminate_task change_priority rotate_ready get_task refer_task sleep delay wake_up cancel_wakeups release_wait suspend_task resume_task task_call mark_of allowed free_from first_serving serve_box serve_mailboxes serve_buffer serve_buffers post create_box delete_box send_box receive_box refer_box create_buffer delete_buffer send_buffer receive_buffer refer_buffer mail_call create_mutex lock_mutex unlock_mutex refer_mutex delete_mutex mutex_call change_priority_beside task_call_beside chain_has current_of resettle free_last ceiling_allows serve_mutex serve_mutexes create_fixed delete_fixed get_fixed release_fixed refer_fixed create_variable delete_variable get_variable release_variable refer_variable pool_call first_free serve_fixed serve_fixed_pools serve_variable serve_variable_pools set_time get_time get_operating_time create_cyclic start_cyclic stop_cyclic delete_cyclic refer_cyclic create_alarm start_alarm stop_alarm delete_alarm refer_alarm time_call body_of next_due again define_handler disable_dispatch enable_dispatch disable_interrupts enable_interrupts refer_system define_service refer_service enter_service context_call left list_existing list_ready list_queue set_hook hook_call open_device refer_device request request_whole wait_ending close_device suspend_devices device_call expected arrive hand_over hand_first messages emptied read_bytes write_bytes accept picked serve_acceptance serve_acceptances serve_ending serve_endings is_with_driver serve_close serve_closes serve_suspension events_sent free_descriptor free_request first_queued at_driver accepted dropped handed asked devices_start block is_last blocks unit cut may_cut arrived entered returned body_returned family_call answered called follow_release follow_each with_releases dispatched followed insert_once with_requests handler_begun due_begun interrupt_begun served_within settle freed_within fallen due_done tick state_after worked counted step sync_runs sync_run entered_2 runs start trace acted ran turn_of done_turn first_serving_2 serve_object state_start digits
service_hook_run = refl

-- The hooks on calls, dispatches and starts of handlers stand directly before their lines, also where a call is refused or waits; the
-- entry of a service and the end of a wait have none. A hook that a service sets stands before the line of its return, and wrong values
-- are refused.
three_hooks_script : Script
three_hooks_script = record {
  devices = [];
  pace = None;
  irqs = record { step = 16; number = 1 } ∷ [];
  boot = record { body = 1; priority = 10 };
  bodies =
      record {
        name = codes "main";
        kind = kinds.Task;
        labels = [];
        stmts =
            stmts.Call names.TkDefInt (args.Number (pos 1) ∷ args.Body 4 ∷ []) ∷
            stmts.Call names.TkDefSsy (args.Number (pos 1) ∷ args.Body 3 ∷ []) ∷
            stmts.Call names.TkCreTsk (args.List 0 ∷ args.Body 2 ∷ args.Number (pos 5) ∷ args.Number (pos 512) ∷ []) ∷
            stmts.Call names.TdHokSvc (args.Number (pos 2) ∷ []) ∷
            stmts.Call names.TdHokDsp (args.Number (negsuc 0) ∷ []) ∷
            stmts.Call names.TdHokInt (args.Number (pos 2) ∷ []) ∷
            stmts.Call names.TdHokDsp (args.Number (pos 1) ∷ []) ∷
            stmts.Call names.TdHokSvc (args.Number (pos 1) ∷ []) ∷
            stmts.Call names.TkStaTsk (args.Number (pos 2) ∷ args.Number (pos 0) ∷ []) ∷
            stmts.Call names.Svc (args.Number (pos 1) ∷ args.Number (pos 0) ∷ []) ∷
            stmts.Call names.TkSlpTsk (args.Number (pos 0) ∷ []) ∷
            [];
      } ∷
      record {
        name = codes "high";
        kind = kinds.Task;
        labels = [];
        stmts =
            stmts.Call names.TkSlpTsk (args.Number (pos 1) ∷ []) ∷
            [];
      } ∷
      record {
        name = codes "s";
        kind = kinds.Svc;
        labels = [];
        stmts =
            stmts.Call names.TdHokSvc (args.Number (pos 0) ∷ []) ∷
            stmts.Call names.TdHokInt (args.Number (pos 1) ∷ []) ∷
            stmts.Call names.TdHokSvc (args.Number (pos 1) ∷ []) ∷
            stmts.Return (operands.Number (pos 3)) ∷
            [];
      } ∷
      record {
        name = codes "h";
        kind = kinds.Hand;
        labels = [];
        stmts =
            stmts.Call names.TdHokInt (args.Number (pos 0) ∷ []) ∷
            stmts.Call names.TkSlpTsk (args.Number (pos 0) ∷ []) ∷
            [];
      } ∷
      [];
}

three_hooks_entries : List Entry
three_hooks_entries = []

three_hooks_lines : List ℕ
three_hooks_lines =
    codes "0 D 1\n" ++
    codes "1 C 1 tk_def_int 0\n" ++
    codes "2 C 1 tk_def_ssy 0\n" ++
    codes "3 C 1 tk_cre_tsk 2\n" ++
    codes "4 C 1 td_hok_svc E_PAR\n" ++
    codes "5 C 1 td_hok_dsp E_PAR\n" ++
    codes "6 C 1 td_hok_int E_PAR\n" ++
    codes "7 C 1 td_hok_dsp 0\n" ++
    codes "8 C 1 td_hok_svc 0\n" ++
    codes "9 O svc 1 tk_sta_tsk\n" ++
    codes "9 C 1 tk_sta_tsk 0\n" ++
    codes "9 O dsp 2\n" ++
    codes "9 D 2\n" ++
    codes "10 O svc 2 tk_slp_tsk\n" ++
    codes "10 B 2 tk_slp_tsk\n" ++
    codes "10 O dsp 1\n" ++
    codes "10 D 1\n" ++
    codes "12 O svc 1 td_hok_svc\n" ++
    codes "12 C 1 td_hok_svc 0\n" ++
    codes "13 C 1 td_hok_int 0\n" ++
    codes "14 C 1 td_hok_svc 0\n" ++
    codes "15 O svc 1 svc\n" ++
    codes "15 C 1 svc 3\n" ++
    codes "16 O int int 1\n" ++
    codes "16 I int 1\n" ++
    codes "17 O svc 0 td_hok_int\n" ++
    codes "17 C 0 td_hok_int 0\n" ++
    codes "18 O svc 0 tk_slp_tsk\n" ++
    codes "18 C 0 tk_slp_tsk E_CTX\n" ++
    codes "20 O svc 1 tk_slp_tsk\n" ++
    codes "20 C 1 tk_slp_tsk E_TMOUT\n" ++
    codes "21 O svc 1 tk_ext_tsk\n" ++
    codes "21 C 1 tk_ext_tsk 0\n" ++
    codes "21 O dsp 0\n" ++
    codes "21 D 0\n" ++
    codes "22 K 1\n" ++
    codes "23 K 2\n" ++
    codes "23 W 2 tk_slp_tsk E_TMOUT\n" ++
    codes "23 O dsp 2\n" ++
    codes "23 D 2\n" ++
    codes "24 O svc 2 tk_ext_tsk\n" ++
    codes "24 C 2 tk_ext_tsk 0\n" ++
    codes "24 O dsp 0\n" ++
    codes "24 D 0\n" ++
    codes "24 END idle\n" ++
    []

three_hooks_run : text_of_lines (lines_of (trace three_hooks_script modes.Free 100000 three_hooks_entries)) ≡ three_hooks_lines
unfolding three_hooks_script three_hooks_entries three_hooks_lines text_of form_of named made task_call_name sem_flag_call_name mutex_call_name mail_call_name pool_call_name time_call_name context_call_name device_call_name hook_call_name name_of code_of error_text coded error_named attributes_of flag_mode_of open_mode_of suspend_mode_of is_name_byte name_at_most why_text value_text words_of text_of_line text_of_lines fetch give call_before create_sem create_flag end_first delete_sem delete_flag refer_sem refer_flag signal_sem set_flag clear_flag wait_sem wait_flag sem_flag_call serve_sem serve_flag first_served serve_sem_flag sem_trial flag_trial chosen free_task create_task delete_task start_task exit_task terminate_task change_priority rotate_ready get_task refer_task sleep delay wake_up cancel_wakeups release_wait suspend_task resume_task task_call mark_of allowed free_from first_serving serve_box serve_mailboxes serve_buffer serve_buffers post create_box delete_box send_box receive_box refer_box create_buffer delete_buffer send_buffer receive_buffer refer_buffer mail_call create_mutex lock_mutex unlock_mutex refer_mutex delete_mutex mutex_call change_priority_beside task_call_beside chain_has current_of resettle free_last ceiling_allows serve_mutex serve_mutexes create_fixed delete_fixed get_fixed release_fixed refer_fixed create_variable delete_variable get_variable release_variable refer_variable pool_call first_free serve_fixed serve_fixed_pools serve_variable serve_variable_pools set_time get_time get_operating_time create_cyclic start_cyclic stop_cyclic delete_cyclic refer_cyclic create_alarm start_alarm stop_alarm delete_alarm refer_alarm time_call body_of next_due again define_handler disable_dispatch enable_dispatch disable_interrupts enable_interrupts refer_system define_service refer_service enter_service context_call left list_existing list_ready list_queue set_hook hook_call open_device refer_device request request_whole wait_ending close_device suspend_devices device_call expected arrive hand_over hand_first messages emptied read_bytes write_bytes accept picked serve_acceptance serve_acceptances serve_ending serve_endings is_with_driver serve_close serve_closes serve_suspension events_sent free_descriptor free_request first_queued at_driver accepted dropped handed asked devices_start block is_last blocks unit cut may_cut arrived entered returned body_returned family_call answered called follow_release follow_each with_releases dispatched followed insert_once with_requests handler_begun due_begun interrupt_begun served_within settle freed_within fallen due_done tick state_after worked counted step sync_runs sync_run entered_2 runs start trace acted ran turn_of done_turn first_serving_2 serve_object state_start digits
three_hooks_run = refl
