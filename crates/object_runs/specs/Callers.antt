-- Runs that were worked out by hand from the rules, as runs/object/callers has them: each a theorem by computation.
use Rattle.std.specs.Prelude.{ℕ, pos, negsuc, List, [], ◌∷◌, ◌++◌, Some, None, codes, ◌≡◌, refl}
use Rattle.std.specs.Fmt.{digits}
use Rattle.tk_types.specs.declared.script.Script.{Script}
use Rattle.tk_types.specs.declared.script.BodyKind.TheVariants as kinds
use Rattle.tk_types.specs.declared.script.Kind.TheVariants as devices
use Rattle.tk_types.specs.declared.script.Stmt.TheVariants as stmts
use Rattle.tk_types.specs.declared.script.Operand.TheVariants as operands
use Rattle.tk_types.specs.declared.script.Operation.TheVariants as operations
use Rattle.tk_types.specs.declared.script.Condition.TheVariants as conditions
use Rattle.tk_types.specs.declared.script.Arg.TheVariants as args
use Rattle.tk_types.specs.declared.call_name.CallName.TheVariants as names
use Rattle.tk_types.specs.declared.line.Entry.{Entry}
use Rattle.tk_types.specs.declared.line.How.TheVariants as hows
use Rattle.tk_types.specs.declared.run.Mode.TheVariants as modes
use Rattle.tk_types.specs.CallNames.{text_of, form_of, named}
use Rattle.tk_types.specs.Calls.{made, task_call_name, sem_flag_call_name, mutex_call_name, mail_call_name, pool_call_name, time_call_name, context_call_name, device_call_name, hook_call_name, name_of}
use Rattle.tk_types.specs.Codes.{code_of, error_text, coded, error_named}
use Rattle.tk_types.specs.Modes.{attributes_of, flag_mode_of, open_mode_of, suspend_mode_of}
use Rattle.tk_types.specs.Names.{is_name_byte, name_at_most}
use Rattle.tk_types.specs.Reasons.{why_text}
use Rattle.tk_model.specs.LineText.{value_text, words_of, text_of_line, text_of_lines}
use Rattle.kernel_model.specs.Bodies.Statements.{fetch, give, call_before}
use Rattle.kernel_model.specs.SemFlags.Calls.{create_sem, create_flag, end_first, delete_sem, delete_flag, refer_sem, refer_flag, signal_sem, set_flag, clear_flag, wait_sem, wait_flag, sem_flag_call}
use Rattle.kernel_model.specs.SemFlags.Tables.{serve_sem, serve_flag, first_served, serve_sem_flag}
use Rattle.kernel_model.specs.SemFlags.Trial.{sem_trial, flag_trial}
use Rattle.kernel_model.specs.Tasks.Base.{chosen, free_task}
use Rattle.kernel_model.specs.Tasks.Calls.{create_task, delete_task, start_task, exit_task, terminate_task, change_priority, rotate_ready, get_task, refer_task, sleep, delay, wake_up, cancel_wakeups, release_wait, suspend_task, resume_task, task_call}
use Rattle.kernel_model.specs.Tasks.Marks.{mark_of, allowed}
use Rattle.kernel_model.specs.Words.Orders.{free_from}
use Rattle.object_model.specs.Servings.{first_serving}
use Rattle.object_model.specs.Mails.Boxes.{serve_box, serve_mailboxes}
use Rattle.object_model.specs.Mails.Buffers.{serve_buffer, serve_buffers, post}
use Rattle.object_model.specs.Mails.Calls.{create_box, delete_box, send_box, receive_box, refer_box, create_buffer, delete_buffer, send_buffer, receive_buffer, refer_buffer, mail_call}
use Rattle.object_model.specs.Mutexes.Calls.{create_mutex, lock_mutex, unlock_mutex, refer_mutex, delete_mutex, mutex_call, change_priority_beside, task_call_beside}
use Rattle.object_model.specs.Mutexes.Priority.{chain_has, current_of, resettle}
use Rattle.object_model.specs.Mutexes.Tables.{free_last, ceiling_allows, serve_mutex, serve_mutexes}
use Rattle.object_model.specs.Pools.Calls.{create_fixed, delete_fixed, get_fixed, release_fixed, refer_fixed, create_variable, delete_variable, get_variable, release_variable, refer_variable, pool_call}
use Rattle.object_model.specs.Pools.Fixed.{first_free, serve_fixed, serve_fixed_pools}
use Rattle.object_model.specs.Pools.Variable.{serve_variable, serve_variable_pools}
use Rattle.context_model.specs.Clocks.Calls.{set_time, get_time, get_operating_time, create_cyclic, start_cyclic, stop_cyclic, delete_cyclic, refer_cyclic, create_alarm, start_alarm, stop_alarm, delete_alarm, refer_alarm, time_call}
use Rattle.context_model.specs.Clocks.Tables.{body_of, next_due, again}
use Rattle.context_model.specs.Contexts.Calls.{define_handler, disable_dispatch, enable_dispatch, disable_interrupts, enable_interrupts, refer_system, define_service, refer_service, enter_service, context_call}
use Rattle.context_model.specs.Contexts.Tables.{left}
use Rattle.context_model.specs.Hooks.Calls.{list_existing, list_ready, list_queue, set_hook, hook_call}
use Rattle.device_model.specs.Devices.Calls.{open_device, refer_device, request, request_whole, wait_ending, close_device, suspend_devices, device_call}
use Rattle.device_model.specs.Devices.Endings.{expected, arrive}
use Rattle.device_model.specs.Devices.Handing.{hand_over, hand_first, messages, emptied}
use Rattle.device_model.specs.Devices.Memory.{read_bytes, write_bytes}
use Rattle.device_model.specs.Devices.Requests.{accept, picked}
use Rattle.device_model.specs.Devices.Servings.{serve_acceptance, serve_acceptances, serve_ending, serve_endings, is_with_driver, serve_close, serve_closes, serve_suspension}
use Rattle.device_model.specs.Devices.Suspension.{events_sent}
use Rattle.device_model.specs.Devices.Tables.{free_descriptor, free_request, first_queued, at_driver, accepted, dropped, handed, asked, devices_start}
use Rattle.device_model.specs.Units.Blocks.{block, is_last, blocks}
use Rattle.device_model.specs.Units.Function.{unit, cut, may_cut}
use Rattle.machine_model.specs.Events.Arrivals.{arrived}
use Rattle.machine_model.specs.Events.Bodies.{entered, returned, body_returned}
use Rattle.machine_model.specs.Events.Calls.{family_call, answered, called}
use Rattle.machine_model.specs.Events.Follow.{follow_release, follow_each, with_releases, dispatched, followed}
use Rattle.machine_model.specs.Events.Handlers.{insert_once, with_requests, handler_begun, due_begun, interrupt_begun}
use Rattle.machine_model.specs.Events.Settle.{served_within, settle, freed_within}
use Rattle.machine_model.specs.Events.Ticks.{fallen, due_done, tick}
use Rattle.machine_model.specs.Runs.Reached.{state_after}
use Rattle.machine_model.specs.Runs.Step.{worked, counted, step}
use Rattle.machine_model.specs.Runs.SyncTrace.{sync_runs, sync_run}
use Rattle.machine_model.specs.Runs.Trace.{lines_of, entered as entered_2, runs, start, trace}
use Rattle.machine_model.specs.Runs.Turns.{acted, ran, turn_of, done_turn}
use Rattle.machine_model.specs.States.Objects.{first_serving as first_serving_2, serve_object}
use Rattle.machine_model.specs.States.State.{state_start}

-- A caller that is served at once, or isn't without waiting, keeps its place before its equals, also where its call releases
-- one of them, which stands last.
places_kept_script : Script
places_kept_script = record {
  devices = [];
  pace = None;
  irqs = [];
  boot = record { body = 1; priority = 10 };
  bodies =
      record {
        name = codes "main";
        kind = kinds.Task;
        labels = [];
        stmts =
            stmts.Call names.TkCreMtx (args.List 0 ∷ args.Number (pos 0) ∷ []) ∷
            stmts.Call names.TkCreMbx (args.List 0 ∷ []) ∷
            stmts.Call names.TkCreMbf (args.List 0 ∷ args.Number (pos 12) ∷ args.Number (pos 8) ∷ []) ∷
            stmts.Call names.TkCreMpf (args.List 0 ∷ args.Number (pos 1) ∷ args.Number (pos 1) ∷ []) ∷
            stmts.Call names.TkCreMpl (args.List 0 ∷ args.Number (pos 8) ∷ []) ∷
            stmts.Call names.TkCreTsk (args.List 0 ∷ args.Body 2 ∷ args.Number (pos 10) ∷ args.Number (pos 512) ∷ []) ∷
            stmts.Call names.TkCreTsk (args.List 0 ∷ args.Body 3 ∷ args.Number (pos 10) ∷ args.Number (pos 512) ∷ []) ∷
            stmts.Call names.TkSndMbf (args.Number (pos 1) ∷ args.Number (pos 0) ∷ args.Number (pos 8) ∷ args.Number (negsuc 0) ∷ []) ∷
            stmts.Call names.TkSndMbx (args.Number (pos 1) ∷ args.Number (pos 1) ∷ args.Number (pos 1) ∷ []) ∷
            stmts.Call names.TkStaTsk (args.Number (pos 2) ∷ args.Number (pos 0) ∷ []) ∷
            stmts.Call names.TkRotRdq (args.Number (pos 10) ∷ []) ∷
            stmts.Call names.TkStaTsk (args.Number (pos 3) ∷ args.Number (pos 0) ∷ []) ∷
            stmts.Call names.TkLocMtx (args.Number (pos 1) ∷ args.Number (negsuc 0) ∷ []) ∷
            stmts.Call names.TkRcvMbx (args.Number (pos 1) ∷ args.Number (negsuc 0) ∷ []) ∷
            stmts.Call names.TkRcvMbx (args.Number (pos 1) ∷ args.Number (pos 0) ∷ []) ∷
            stmts.Call names.TkGetMpf (args.Number (pos 1) ∷ args.Number (negsuc 0) ∷ []) ∷
            stmts.Call names.TkGetMpf (args.Number (pos 1) ∷ args.Number (pos 0) ∷ []) ∷
            stmts.Call names.TkGetMpl (args.Number (pos 1) ∷ args.Number (pos 8) ∷ args.Number (negsuc 0) ∷ []) ∷
            stmts.Call names.TkGetMpl (args.Number (pos 1) ∷ args.Number (pos 8) ∷ args.Number (pos 0) ∷ []) ∷
            stmts.Call names.TkRcvMbf (args.Number (pos 1) ∷ args.Number (pos 100) ∷ args.Number (negsuc 0) ∷ []) ∷
            stmts.Call names.TkSndMbf (args.Number (pos 1) ∷ args.Number (pos 0) ∷ args.Number (pos 8) ∷ args.Number (pos 0) ∷ []) ∷
            stmts.Call names.TkRcvMbf (args.Number (pos 1) ∷ args.Number (pos 100) ∷ args.Number (negsuc 0) ∷ []) ∷
            stmts.Call names.TkSndMbf (args.Number (pos 1) ∷ args.Number (pos 0) ∷ args.Number (pos 8) ∷ args.Number (negsuc 0) ∷ []) ∷
            stmts.Call names.TkRcvMbf (args.Number (pos 1) ∷ args.Number (pos 100) ∷ args.Number (negsuc 0) ∷ []) ∷
            stmts.Call names.TkRcvMbf (args.Number (pos 1) ∷ args.Number (pos 100) ∷ args.Number (negsuc 0) ∷ []) ∷
            [];
      } ∷
      record {
        name = codes "tx";
        kind = kinds.Task;
        labels = [];
        stmts =
            stmts.Call names.TkSndMbf (args.Number (pos 1) ∷ args.Number (pos 0) ∷ args.Number (pos 8) ∷ args.Number (negsuc 0) ∷ []) ∷
            stmts.Say (codes "tx") ∷
            [];
      } ∷
      record {
        name = codes "peer";
        kind = kinds.Task;
        labels = [];
        stmts =
            stmts.Call names.TkSndMbf (args.Number (pos 1) ∷ args.Number (pos 0) ∷ args.Number (pos 4) ∷ args.Number (negsuc 0) ∷ []) ∷
            [];
      } ∷
      [];
}

places_kept_entries : List Entry
places_kept_entries = []

places_kept_lines : List ℕ
places_kept_lines =
    codes "0 D 1\n" ++
    codes "1 C 1 tk_cre_mtx 1\n" ++
    codes "2 C 1 tk_cre_mbx 1\n" ++
    codes "3 C 1 tk_cre_mbf 1\n" ++
    codes "4 C 1 tk_cre_mpf 1\n" ++
    codes "5 C 1 tk_cre_mpl 1\n" ++
    codes "6 C 1 tk_cre_tsk 2\n" ++
    codes "7 C 1 tk_cre_tsk 3\n" ++
    codes "8 C 1 tk_snd_mbf 0\n" ++
    codes "9 C 1 tk_snd_mbx 0\n" ++
    codes "10 C 1 tk_sta_tsk 0\n" ++
    codes "11 C 1 tk_rot_rdq 0\n" ++
    codes "11 D 2\n" ++
    codes "12 B 2 tk_snd_mbf\n" ++
    codes "12 D 1\n" ++
    codes "13 C 1 tk_sta_tsk 0\n" ++
    codes "14 C 1 tk_loc_mtx 0\n" ++
    codes "15 C 1 tk_rcv_mbx 0 1 1\n" ++
    codes "16 C 1 tk_rcv_mbx E_TMOUT\n" ++
    codes "17 C 1 tk_get_mpf 1\n" ++
    codes "18 C 1 tk_get_mpf E_TMOUT\n" ++
    codes "19 C 1 tk_get_mpl 0\n" ++
    codes "20 C 1 tk_get_mpl E_TMOUT\n" ++
    codes "21 C 1 tk_rcv_mbf 8\n" ++
    codes "21 W 2 tk_snd_mbf 0\n" ++
    codes "22 C 1 tk_snd_mbf E_TMOUT\n" ++
    codes "23 C 1 tk_rcv_mbf 8\n" ++
    codes "24 C 1 tk_snd_mbf 0\n" ++
    codes "25 C 1 tk_rcv_mbf 8\n" ++
    codes "26 B 1 tk_rcv_mbf\n" ++
    codes "26 D 3\n" ++
    codes "27 C 3 tk_snd_mbf 0\n" ++
    codes "27 W 1 tk_rcv_mbf 4\n" ++
    codes "28 C 3 tk_ext_tsk 0\n" ++
    codes "28 D 2\n" ++
    codes "29 S 2 tx\n" ++
    codes "30 C 2 tk_ext_tsk 0\n" ++
    codes "30 D 1\n" ++
    codes "31 C 1 tk_ext_tsk 0\n" ++
    codes "31 D 0\n" ++
    codes "31 END idle\n" ++
    []

places_kept_run : text_of_lines (lines_of (trace places_kept_script modes.Free 100000 places_kept_entries)) ≡ places_kept_lines
unfolding places_kept_script places_kept_entries places_kept_lines text_of form_of named made task_call_name sem_flag_call_name mutex_call_name mail_call_name pool_call_name time_call_name context_call_name device_call_name hook_call_name name_of code_of error_text coded error_named attributes_of flag_mode_of open_mode_of suspend_mode_of is_name_byte name_at_most why_text value_text words_of text_of_line text_of_lines fetch give call_before create_sem create_flag end_first delete_sem delete_flag refer_sem refer_flag signal_sem set_flag clear_flag wait_sem wait_flag sem_flag_call serve_sem serve_flag first_served serve_sem_flag sem_trial flag_trial chosen free_task create_task delete_task start_task exit_task terminate_task change_priority rotate_ready get_task refer_task sleep delay wake_up cancel_wakeups release_wait suspend_task resume_task task_call mark_of allowed free_from first_serving serve_box serve_mailboxes serve_buffer serve_buffers post create_box delete_box send_box receive_box refer_box create_buffer delete_buffer send_buffer receive_buffer refer_buffer mail_call create_mutex lock_mutex unlock_mutex refer_mutex delete_mutex mutex_call change_priority_beside task_call_beside chain_has current_of resettle free_last ceiling_allows serve_mutex serve_mutexes create_fixed delete_fixed get_fixed release_fixed refer_fixed create_variable delete_variable get_variable release_variable refer_variable pool_call first_free serve_fixed serve_fixed_pools serve_variable serve_variable_pools set_time get_time get_operating_time create_cyclic start_cyclic stop_cyclic delete_cyclic refer_cyclic create_alarm start_alarm stop_alarm delete_alarm refer_alarm time_call body_of next_due again define_handler disable_dispatch enable_dispatch disable_interrupts enable_interrupts refer_system define_service refer_service enter_service context_call left list_existing list_ready list_queue set_hook hook_call open_device refer_device request request_whole wait_ending close_device suspend_devices device_call expected arrive hand_over hand_first messages emptied read_bytes write_bytes accept picked serve_acceptance serve_acceptances serve_ending serve_endings is_with_driver serve_close serve_closes serve_suspension events_sent free_descriptor free_request first_queued at_driver accepted dropped handed asked devices_start block is_last blocks unit cut may_cut arrived entered returned body_returned family_call answered called follow_release follow_each with_releases dispatched followed insert_once with_requests handler_begun due_begun interrupt_begun served_within settle freed_within fallen due_done tick state_after worked counted step sync_runs sync_run entered_2 runs start trace acted ran turn_of done_turn first_serving_2 serve_object state_start digits
places_kept_run = refl

-- The six calls that may wait are refused under DI, from a handler and while dispatch is disabled, behind their first
-- errors and before the object is looked for; an unlock is refused in a handler alone, and a handler's send ends a
-- wait.
refused_by_context_script : Script
refused_by_context_script = record {
  devices = [];
  pace = None;
  irqs = record { step = 14; number = 1 } ∷ [];
  boot = record { body = 1; priority = 10 };
  bodies =
      record {
        name = codes "main";
        kind = kinds.Task;
        labels = [];
        stmts =
            stmts.Call names.TkCreMtx (args.List 0 ∷ args.Number (pos 0) ∷ []) ∷
            stmts.Call names.TkCreMbx (args.List 0 ∷ []) ∷
            stmts.Call names.TkCreMbf (args.List 0 ∷ args.Number (pos 64) ∷ args.Number (pos 8) ∷ []) ∷
            stmts.Call names.TkCreMpf (args.List 0 ∷ args.Number (pos 2) ∷ args.Number (pos 16) ∷ []) ∷
            stmts.Call names.TkCreMpl (args.List 0 ∷ args.Number (pos 64) ∷ []) ∷
            stmts.Call names.TkDefInt (args.Number (pos 1) ∷ args.Body 3 ∷ []) ∷
            stmts.Call names.TkCreTsk (args.List 0 ∷ args.Body 2 ∷ args.Number (pos 5) ∷ args.Number (pos 512) ∷ []) ∷
            stmts.Call names.TkStaTsk (args.Number (pos 2) ∷ args.Number (pos 0) ∷ []) ∷
            stmts.Call names.TkLocMtx (args.Number (pos 1) ∷ args.Number (negsuc 0) ∷ []) ∷
            stmts.Call names.TkGetMpf (args.Number (pos 1) ∷ args.Number (pos 0) ∷ []) ∷
            stmts.Call names.Di ([]) ∷
            stmts.Call names.TkLocMtx (args.Number (pos 0) ∷ args.Number (negsuc 0) ∷ []) ∷
            stmts.Call names.TkLocMtx (args.Number (pos 2) ∷ args.Number (negsuc 1) ∷ []) ∷
            stmts.Call names.TkLocMtx (args.Number (pos 2) ∷ args.Number (negsuc 0) ∷ []) ∷
            stmts.Call names.TkRcvMbx (args.Number (pos 2) ∷ args.Number (pos 0) ∷ []) ∷
            stmts.Call names.TkSndMbf (args.Number (pos 2) ∷ args.Number (pos 0) ∷ args.Number (pos 0) ∷ args.Number (pos 0) ∷ []) ∷
            stmts.Call names.TkRcvMbf (args.Number (pos 2) ∷ args.Number (pos 0) ∷ args.Number (pos 0) ∷ []) ∷
            stmts.Call names.TkGetMpf (args.Number (pos 2) ∷ args.Number (pos 0) ∷ []) ∷
            stmts.Call names.TkGetMpl (args.Number (pos 2) ∷ args.Number (pos 8) ∷ args.Number (pos 0) ∷ []) ∷
            stmts.Call names.TkUnlMtx (args.Number (pos 1) ∷ []) ∷
            stmts.Call names.TkRelMpf (args.Number (pos 1) ∷ args.Number (pos 1) ∷ []) ∷
            stmts.Call names.Ei ([]) ∷
            stmts.Call names.TkDisDsp ([]) ∷
            stmts.Call names.TkLocMtx (args.Number (pos 1) ∷ args.Number (pos 0) ∷ []) ∷
            stmts.Call names.TkRcvMbx (args.Number (pos 1) ∷ args.Number (pos 0) ∷ []) ∷
            stmts.Call names.TkSndMbf (args.Number (pos 1) ∷ args.Number (pos 0) ∷ args.Number (pos 8) ∷ args.Number (pos 0) ∷ []) ∷
            stmts.Call names.TkRcvMbf (args.Number (pos 1) ∷ args.Number (pos 0) ∷ args.Number (pos 0) ∷ []) ∷
            stmts.Call names.TkGetMpf (args.Number (pos 1) ∷ args.Number (pos 0) ∷ []) ∷
            stmts.Call names.TkGetMpl (args.Number (pos 1) ∷ args.Number (pos 8) ∷ args.Number (pos 0) ∷ []) ∷
            stmts.Call names.TkSndMbx (args.Number (pos 1) ∷ args.Number (pos 1) ∷ args.Number (pos 1) ∷ []) ∷
            stmts.Call names.TkEnaDsp ([]) ∷
            stmts.Call names.TkRcvMbx (args.Number (pos 1) ∷ args.Number (pos 0) ∷ []) ∷
            [];
      } ∷
      record {
        name = codes "rx";
        kind = kinds.Task;
        labels = [];
        stmts =
            stmts.Call names.TkRcvMbx (args.Number (pos 1) ∷ args.Number (negsuc 0) ∷ []) ∷
            stmts.Show (operands.Register 2) ∷
            [];
      } ∷
      record {
        name = codes "h";
        kind = kinds.Hand;
        labels = [];
        stmts =
            stmts.Call names.TkUnlMtx (args.Number (pos 2) ∷ []) ∷
            stmts.Call names.TkLocMtx (args.Number (pos 1) ∷ args.Number (pos 0) ∷ []) ∷
            stmts.Call names.TkRcvMbx (args.Number (pos 1) ∷ args.Number (pos 0) ∷ []) ∷
            stmts.Call names.TkSndMbf (args.Number (pos 1) ∷ args.Number (pos 0) ∷ args.Number (pos 8) ∷ args.Number (pos 0) ∷ []) ∷
            stmts.Call names.TkRcvMbf (args.Number (pos 1) ∷ args.Number (pos 0) ∷ args.Number (pos 0) ∷ []) ∷
            stmts.Call names.TkGetMpf (args.Number (pos 1) ∷ args.Number (pos 0) ∷ []) ∷
            stmts.Call names.TkGetMpl (args.Number (pos 1) ∷ args.Number (pos 8) ∷ args.Number (pos 0) ∷ []) ∷
            stmts.Call names.TkRefMtx (args.Number (pos 1) ∷ []) ∷
            stmts.Call names.TkSndMbx (args.Number (pos 1) ∷ args.Number (pos 3) ∷ args.Number (pos 4) ∷ []) ∷
            stmts.Call names.TkDelMpl (args.Number (pos 1) ∷ []) ∷
            stmts.Call names.TkCreMtx (args.List 32768 ∷ args.Number (pos 9) ∷ []) ∷
            [];
      } ∷
      [];
}

refused_by_context_entries : List Entry
refused_by_context_entries = []

refused_by_context_lines : List ℕ
refused_by_context_lines =
    codes "0 D 1\n" ++
    codes "1 C 1 tk_cre_mtx 1\n" ++
    codes "2 C 1 tk_cre_mbx 1\n" ++
    codes "3 C 1 tk_cre_mbf 1\n" ++
    codes "4 C 1 tk_cre_mpf 1\n" ++
    codes "5 C 1 tk_cre_mpl 1\n" ++
    codes "6 C 1 tk_def_int 0\n" ++
    codes "7 C 1 tk_cre_tsk 2\n" ++
    codes "8 C 1 tk_sta_tsk 0\n" ++
    codes "8 D 2\n" ++
    codes "9 B 2 tk_rcv_mbx\n" ++
    codes "9 D 1\n" ++
    codes "10 C 1 tk_loc_mtx 0\n" ++
    codes "11 C 1 tk_get_mpf 1\n" ++
    codes "12 C 1 DI 0\n" ++
    codes "13 C 1 tk_loc_mtx E_ID\n" ++
    codes "14 C 1 tk_loc_mtx E_PAR\n" ++
    codes "15 C 1 tk_loc_mtx E_CTX\n" ++
    codes "16 C 1 tk_rcv_mbx E_CTX\n" ++
    codes "17 C 1 tk_snd_mbf E_CTX\n" ++
    codes "18 C 1 tk_rcv_mbf E_CTX\n" ++
    codes "19 C 1 tk_get_mpf E_CTX\n" ++
    codes "20 C 1 tk_get_mpl E_CTX\n" ++
    codes "21 C 1 tk_unl_mtx 0\n" ++
    codes "22 C 1 tk_rel_mpf 0\n" ++
    codes "23 C 1 EI 0\n" ++
    codes "24 I int 1\n" ++
    codes "25 C 0 tk_unl_mtx E_CTX\n" ++
    codes "26 C 0 tk_loc_mtx E_CTX\n" ++
    codes "27 C 0 tk_rcv_mbx E_CTX\n" ++
    codes "28 C 0 tk_snd_mbf E_CTX\n" ++
    codes "29 C 0 tk_rcv_mbf E_CTX\n" ++
    codes "30 C 0 tk_get_mpf E_CTX\n" ++
    codes "31 C 0 tk_get_mpl E_CTX\n" ++
    codes "32 C 0 tk_ref_mtx 0 0 0\n" ++
    codes "33 C 0 tk_snd_mbx 0\n" ++
    codes "33 W 2 tk_rcv_mbx 0 3 4\n" ++
    codes "34 C 0 tk_del_mpl 0\n" ++
    codes "35 C 0 tk_cre_mtx 2\n" ++
    codes "36 D 2\n" ++
    codes "37 S 2 4\n" ++
    codes "38 C 2 tk_ext_tsk 0\n" ++
    codes "38 D 1\n" ++
    codes "39 C 1 tk_dis_dsp 0\n" ++
    codes "40 C 1 tk_loc_mtx E_CTX\n" ++
    codes "41 C 1 tk_rcv_mbx E_CTX\n" ++
    codes "42 C 1 tk_snd_mbf E_CTX\n" ++
    codes "43 C 1 tk_rcv_mbf E_CTX\n" ++
    codes "44 C 1 tk_get_mpf E_CTX\n" ++
    codes "45 C 1 tk_get_mpl E_CTX\n" ++
    codes "46 C 1 tk_snd_mbx 0\n" ++
    codes "47 C 1 tk_ena_dsp 0\n" ++
    codes "48 C 1 tk_rcv_mbx 0 1 1\n" ++
    codes "49 C 1 tk_ext_tsk 0\n" ++
    codes "49 D 0\n" ++
    codes "49 END idle\n" ++
    []

refused_by_context_run : text_of_lines (lines_of (trace refused_by_context_script modes.Free 100000 refused_by_context_entries)) ≡ refused_by_context_lines
unfolding refused_by_context_script refused_by_context_entries refused_by_context_lines text_of form_of named made task_call_name sem_flag_call_name mutex_call_name mail_call_name pool_call_name time_call_name context_call_name device_call_name hook_call_name name_of code_of error_text coded error_named attributes_of flag_mode_of open_mode_of suspend_mode_of is_name_byte name_at_most why_text value_text words_of text_of_line text_of_lines fetch give call_before create_sem create_flag end_first delete_sem delete_flag refer_sem refer_flag signal_sem set_flag clear_flag wait_sem wait_flag sem_flag_call serve_sem serve_flag first_served serve_sem_flag sem_trial flag_trial chosen free_task create_task delete_task start_task exit_task terminate_task change_priority rotate_ready get_task refer_task sleep delay wake_up cancel_wakeups release_wait suspend_task resume_task task_call mark_of allowed free_from first_serving serve_box serve_mailboxes serve_buffer serve_buffers post create_box delete_box send_box receive_box refer_box create_buffer delete_buffer send_buffer receive_buffer refer_buffer mail_call create_mutex lock_mutex unlock_mutex refer_mutex delete_mutex mutex_call change_priority_beside task_call_beside chain_has current_of resettle free_last ceiling_allows serve_mutex serve_mutexes create_fixed delete_fixed get_fixed release_fixed refer_fixed create_variable delete_variable get_variable release_variable refer_variable pool_call first_free serve_fixed serve_fixed_pools serve_variable serve_variable_pools set_time get_time get_operating_time create_cyclic start_cyclic stop_cyclic delete_cyclic refer_cyclic create_alarm start_alarm stop_alarm delete_alarm refer_alarm time_call body_of next_due again define_handler disable_dispatch enable_dispatch disable_interrupts enable_interrupts refer_system define_service refer_service enter_service context_call left list_existing list_ready list_queue set_hook hook_call open_device refer_device request request_whole wait_ending close_device suspend_devices device_call expected arrive hand_over hand_first messages emptied read_bytes write_bytes accept picked serve_acceptance serve_acceptances serve_ending serve_endings is_with_driver serve_close serve_closes serve_suspension events_sent free_descriptor free_request first_queued at_driver accepted dropped handed asked devices_start block is_last blocks unit cut may_cut arrived entered returned body_returned family_call answered called follow_release follow_each with_releases dispatched followed insert_once with_requests handler_begun due_begun interrupt_begun served_within settle freed_within fallen due_done tick state_after worked counted step sync_runs sync_run entered_2 runs start trace acted ran turn_of done_turn first_serving_2 serve_object state_start digits
refused_by_context_run = refl
