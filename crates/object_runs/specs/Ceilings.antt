-- Runs that were worked out by hand from the rules, as runs/object/ceilings has them: each a theorem by computation.
use Rattle.std.specs.Prelude.{ℕ, pos, negsuc, List, [], ◌∷◌, ◌++◌, Some, None, codes, ◌≡◌, refl}
use Rattle.std.specs.Fmt.{digits}
use Rattle.tk_types.specs.declared.script.Script.{Script}
use Rattle.tk_types.specs.declared.script.BodyKind.TheVariants as kinds
use Rattle.tk_types.specs.declared.script.Kind.TheVariants as devices
use Rattle.tk_types.specs.declared.script.Stmt.TheVariants as stmts
use Rattle.tk_types.specs.declared.script.Operand.TheVariants as operands
use Rattle.tk_types.specs.declared.script.Operation.TheVariants as operations
use Rattle.tk_types.specs.declared.script.Condition.TheVariants as conditions
use Rattle.tk_types.specs.declared.script.Arg.TheVariants as args
use Rattle.tk_types.specs.declared.call_name.CallName.TheVariants as names
use Rattle.tk_types.specs.declared.line.Entry.{Entry}
use Rattle.tk_types.specs.declared.line.How.TheVariants as hows
use Rattle.tk_types.specs.declared.run.Mode.TheVariants as modes
use Rattle.tk_types.specs.CallNames.{text_of, form_of, named}
use Rattle.tk_types.specs.Calls.{made, task_call_name, sem_flag_call_name, mutex_call_name, mail_call_name, pool_call_name, time_call_name, context_call_name, device_call_name, hook_call_name, name_of}
use Rattle.tk_types.specs.Codes.{code_of, error_text, coded, error_named}
use Rattle.tk_types.specs.Modes.{attributes_of, flag_mode_of, open_mode_of, suspend_mode_of}
use Rattle.tk_types.specs.Names.{is_name_byte, name_at_most}
use Rattle.tk_types.specs.Reasons.{why_text}
use Rattle.tk_model.specs.LineText.{value_text, words_of, text_of_line, text_of_lines}
use Rattle.kernel_model.specs.Bodies.Statements.{fetch, give, call_before}
use Rattle.kernel_model.specs.SemFlags.Calls.{create_sem, create_flag, end_first, delete_sem, delete_flag, refer_sem, refer_flag, signal_sem, set_flag, clear_flag, wait_sem, wait_flag, sem_flag_call}
use Rattle.kernel_model.specs.SemFlags.Tables.{serve_sem, serve_flag, first_served, serve_sem_flag}
use Rattle.kernel_model.specs.SemFlags.Trial.{sem_trial, flag_trial}
use Rattle.kernel_model.specs.Tasks.Base.{chosen, free_task}
use Rattle.kernel_model.specs.Tasks.Calls.{create_task, delete_task, start_task, exit_task, terminate_task, change_priority, rotate_ready, get_task, refer_task, sleep, delay, wake_up, cancel_wakeups, release_wait, suspend_task, resume_task, task_call}
use Rattle.kernel_model.specs.Tasks.Marks.{mark_of, allowed}
use Rattle.kernel_model.specs.Words.Orders.{free_from}
use Rattle.object_model.specs.Servings.{first_serving}
use Rattle.object_model.specs.Mails.Boxes.{serve_box, serve_mailboxes}
use Rattle.object_model.specs.Mails.Buffers.{serve_buffer, serve_buffers, post}
use Rattle.object_model.specs.Mails.Calls.{create_box, delete_box, send_box, receive_box, refer_box, create_buffer, delete_buffer, send_buffer, receive_buffer, refer_buffer, mail_call}
use Rattle.object_model.specs.Mutexes.Calls.{create_mutex, lock_mutex, unlock_mutex, refer_mutex, delete_mutex, mutex_call, change_priority_beside, task_call_beside}
use Rattle.object_model.specs.Mutexes.Priority.{chain_has, current_of, resettle}
use Rattle.object_model.specs.Mutexes.Tables.{free_last, ceiling_allows, serve_mutex, serve_mutexes}
use Rattle.object_model.specs.Pools.Calls.{create_fixed, delete_fixed, get_fixed, release_fixed, refer_fixed, create_variable, delete_variable, get_variable, release_variable, refer_variable, pool_call}
use Rattle.object_model.specs.Pools.Fixed.{first_free, serve_fixed, serve_fixed_pools}
use Rattle.object_model.specs.Pools.Variable.{serve_variable, serve_variable_pools}
use Rattle.context_model.specs.Clocks.Calls.{set_time, get_time, get_operating_time, create_cyclic, start_cyclic, stop_cyclic, delete_cyclic, refer_cyclic, create_alarm, start_alarm, stop_alarm, delete_alarm, refer_alarm, time_call}
use Rattle.context_model.specs.Clocks.Tables.{body_of, next_due, again}
use Rattle.context_model.specs.Contexts.Calls.{define_handler, disable_dispatch, enable_dispatch, disable_interrupts, enable_interrupts, refer_system, define_service, refer_service, enter_service, context_call}
use Rattle.context_model.specs.Contexts.Tables.{left}
use Rattle.context_model.specs.Hooks.Calls.{list_existing, list_ready, list_queue, set_hook, hook_call}
use Rattle.device_model.specs.Devices.Calls.{open_device, refer_device, request, request_whole, wait_ending, close_device, suspend_devices, device_call}
use Rattle.device_model.specs.Devices.Endings.{expected, arrive}
use Rattle.device_model.specs.Devices.Handing.{hand_over, hand_first, messages, emptied}
use Rattle.device_model.specs.Devices.Memory.{read_bytes, write_bytes}
use Rattle.device_model.specs.Devices.Requests.{accept, picked}
use Rattle.device_model.specs.Devices.Servings.{serve_acceptance, serve_acceptances, serve_ending, serve_endings, is_with_driver, serve_close, serve_closes, serve_suspension}
use Rattle.device_model.specs.Devices.Suspension.{events_sent}
use Rattle.device_model.specs.Devices.Tables.{free_descriptor, free_request, first_queued, at_driver, accepted, dropped, handed, asked, devices_start}
use Rattle.device_model.specs.Units.Blocks.{block, is_last, blocks}
use Rattle.device_model.specs.Units.Function.{unit, cut, may_cut}
use Rattle.machine_model.specs.Events.Arrivals.{arrived}
use Rattle.machine_model.specs.Events.Bodies.{entered, returned, body_returned}
use Rattle.machine_model.specs.Events.Calls.{family_call, answered, called}
use Rattle.machine_model.specs.Events.Follow.{follow_release, follow_each, with_releases, dispatched, followed}
use Rattle.machine_model.specs.Events.Handlers.{insert_once, with_requests, handler_begun, due_begun, interrupt_begun}
use Rattle.machine_model.specs.Events.Settle.{served_within, settle, freed_within}
use Rattle.machine_model.specs.Events.Ticks.{fallen, due_done, tick}
use Rattle.machine_model.specs.Runs.Reached.{state_after}
use Rattle.machine_model.specs.Runs.Step.{worked, counted, step}
use Rattle.machine_model.specs.Runs.SyncTrace.{sync_runs, sync_run}
use Rattle.machine_model.specs.Runs.Trace.{lines_of, entered as entered_2, runs, start, trace}
use Rattle.machine_model.specs.Runs.Turns.{acted, ran, turn_of, done_turn}
use Rattle.machine_model.specs.States.Objects.{first_serving as first_serving_2, serve_object}
use Rattle.machine_model.specs.States.State.{state_start}

-- No base is set above a ceiling that its task holds or waits for, also not to the initial priority by 0; a waiter
-- isn't raised by a ceiling, and takes its place among equals when the mutex becomes its own.
bases_and_ceilings_script : Script
bases_and_ceilings_script = record {
  devices = [];
  pace = None;
  irqs = [];
  boot = record { body = 1; priority = 50 };
  bodies =
      record {
        name = codes "main";
        kind = kinds.Task;
        labels = [];
        stmts =
            stmts.Call names.TkCreMtx (args.List 32768 ∷ args.Number (pos 20) ∷ []) ∷
            stmts.Call names.TkCreTsk (args.List 0 ∷ args.Body 2 ∷ args.Number (pos 40) ∷ args.Number (pos 512) ∷ []) ∷
            stmts.Call names.TkCreTsk (args.List 0 ∷ args.Body 3 ∷ args.Number (pos 10) ∷ args.Number (pos 512) ∷ []) ∷
            stmts.Call names.TkCreTsk (args.List 0 ∷ args.Body 4 ∷ args.Number (pos 20) ∷ args.Number (pos 512) ∷ []) ∷
            stmts.Call names.TkStaTsk (args.Number (pos 2) ∷ args.Number (pos 0) ∷ []) ∷
            stmts.Call names.TkStaTsk (args.Number (pos 3) ∷ args.Number (pos 0) ∷ []) ∷
            stmts.Call names.TkRefMtx (args.Number (pos 1) ∷ []) ∷
            stmts.Call names.TkChgPri (args.Number (pos 3) ∷ args.Number (pos 19) ∷ []) ∷
            stmts.Call names.TkChgPri (args.Number (pos 3) ∷ args.Number (pos 0) ∷ []) ∷
            stmts.Call names.TkChgPri (args.Number (pos 3) ∷ args.Number (pos 20) ∷ []) ∷
            stmts.Call names.TkChgPri (args.Number (pos 3) ∷ args.Number (pos 30) ∷ []) ∷
            stmts.Call names.TkRefTsk (args.Number (pos 3) ∷ []) ∷
            stmts.Call names.TkChgPri (args.Number (pos 2) ∷ args.Number (pos 19) ∷ []) ∷
            stmts.Call names.TkChgPri (args.Number (pos 2) ∷ args.Number (pos 0) ∷ []) ∷
            stmts.Call names.TkRefTsk (args.Number (pos 2) ∷ []) ∷
            stmts.Call names.TkWupTsk (args.Number (pos 2) ∷ []) ∷
            [];
      } ∷
      record {
        name = codes "o";
        kind = kinds.Task;
        labels = [];
        stmts =
            stmts.Call names.TkLocMtx (args.Number (pos 1) ∷ args.Number (negsuc 0) ∷ []) ∷
            stmts.Call names.TkSlpTsk (args.Number (negsuc 0) ∷ []) ∷
            stmts.Call names.TkStaTsk (args.Number (pos 4) ∷ args.Number (pos 0) ∷ []) ∷
            stmts.Call names.TkUnlMtx (args.Number (pos 1) ∷ []) ∷
            [];
      } ∷
      record {
        name = codes "w";
        kind = kinds.Task;
        labels = [];
        stmts =
            stmts.Call names.TkLocMtx (args.Number (pos 1) ∷ args.Number (negsuc 0) ∷ []) ∷
            stmts.Call names.TkChgPri (args.Number (pos 0) ∷ args.Number (pos 30) ∷ []) ∷
            stmts.Call names.TkLocMtx (args.Number (pos 1) ∷ args.Number (negsuc 0) ∷ []) ∷
            stmts.Call names.TkRefTsk (args.Number (pos 0) ∷ []) ∷
            stmts.Call names.TkChgPri (args.Number (pos 0) ∷ args.Number (pos 0) ∷ []) ∷
            stmts.Call names.TkUnlMtx (args.Number (pos 1) ∷ []) ∷
            stmts.Call names.TkChgPri (args.Number (pos 0) ∷ args.Number (pos 0) ∷ []) ∷
            stmts.Call names.TkLocMtx (args.Number (pos 1) ∷ args.Number (pos 0) ∷ []) ∷
            [];
      } ∷
      record {
        name = codes "x";
        kind = kinds.Task;
        labels = [];
        stmts =
            [];
      } ∷
      [];
}

bases_and_ceilings_entries : List Entry
bases_and_ceilings_entries = []

bases_and_ceilings_lines : List ℕ
bases_and_ceilings_lines =
    codes "0 D 1\n" ++
    codes "1 C 1 tk_cre_mtx 1\n" ++
    codes "2 C 1 tk_cre_tsk 2\n" ++
    codes "3 C 1 tk_cre_tsk 3\n" ++
    codes "4 C 1 tk_cre_tsk 4\n" ++
    codes "5 C 1 tk_sta_tsk 0\n" ++
    codes "5 D 2\n" ++
    codes "6 C 2 tk_loc_mtx 0\n" ++
    codes "7 B 2 tk_slp_tsk\n" ++
    codes "7 D 1\n" ++
    codes "8 C 1 tk_sta_tsk 0\n" ++
    codes "8 D 3\n" ++
    codes "9 C 3 tk_loc_mtx E_ILUSE\n" ++
    codes "10 C 3 tk_chg_pri 0\n" ++
    codes "11 B 3 tk_loc_mtx\n" ++
    codes "11 D 1\n" ++
    codes "12 C 1 tk_ref_mtx 0 2 3\n" ++
    codes "13 C 1 tk_chg_pri E_ILUSE\n" ++
    codes "14 C 1 tk_chg_pri E_ILUSE\n" ++
    codes "15 C 1 tk_chg_pri 0\n" ++
    codes "16 C 1 tk_chg_pri 0\n" ++
    codes "17 C 1 tk_ref_tsk 0 3 30 30 0 0\n" ++
    codes "18 C 1 tk_chg_pri E_ILUSE\n" ++
    codes "19 C 1 tk_chg_pri 0\n" ++
    codes "20 C 1 tk_ref_tsk 0 3 20 40 0 0\n" ++
    codes "21 C 1 tk_wup_tsk 0\n" ++
    codes "21 W 2 tk_slp_tsk 0\n" ++
    codes "21 D 2\n" ++
    codes "22 C 2 tk_sta_tsk 0\n" ++
    codes "23 C 2 tk_unl_mtx 0\n" ++
    codes "23 W 3 tk_loc_mtx 0\n" ++
    codes "23 D 4\n" ++
    codes "24 C 4 tk_ext_tsk 0\n" ++
    codes "24 D 3\n" ++
    codes "25 C 3 tk_ref_tsk 0 1 20 30 0 0\n" ++
    codes "26 C 3 tk_chg_pri E_ILUSE\n" ++
    codes "27 C 3 tk_unl_mtx 0\n" ++
    codes "28 C 3 tk_chg_pri 0\n" ++
    codes "29 C 3 tk_loc_mtx E_ILUSE\n" ++
    codes "30 C 3 tk_ext_tsk 0\n" ++
    codes "30 D 2\n" ++
    codes "31 C 2 tk_ext_tsk 0\n" ++
    codes "31 D 1\n" ++
    codes "32 C 1 tk_ext_tsk 0\n" ++
    codes "32 D 0\n" ++
    codes "32 END idle\n" ++
    []

bases_and_ceilings_run : text_of_lines (lines_of (trace bases_and_ceilings_script modes.Free 100000 bases_and_ceilings_entries)) ≡ bases_and_ceilings_lines
unfolding bases_and_ceilings_script bases_and_ceilings_entries bases_and_ceilings_lines text_of form_of named made task_call_name sem_flag_call_name mutex_call_name mail_call_name pool_call_name time_call_name context_call_name device_call_name hook_call_name name_of code_of error_text coded error_named attributes_of flag_mode_of open_mode_of suspend_mode_of is_name_byte name_at_most why_text value_text words_of text_of_line text_of_lines fetch give call_before create_sem create_flag end_first delete_sem delete_flag refer_sem refer_flag signal_sem set_flag clear_flag wait_sem wait_flag sem_flag_call serve_sem serve_flag first_served serve_sem_flag sem_trial flag_trial chosen free_task create_task delete_task start_task exit_task terminate_task change_priority rotate_ready get_task refer_task sleep delay wake_up cancel_wakeups release_wait suspend_task resume_task task_call mark_of allowed free_from first_serving serve_box serve_mailboxes serve_buffer serve_buffers post create_box delete_box send_box receive_box refer_box create_buffer delete_buffer send_buffer receive_buffer refer_buffer mail_call create_mutex lock_mutex unlock_mutex refer_mutex delete_mutex mutex_call change_priority_beside task_call_beside chain_has current_of resettle free_last ceiling_allows serve_mutex serve_mutexes create_fixed delete_fixed get_fixed release_fixed refer_fixed create_variable delete_variable get_variable release_variable refer_variable pool_call first_free serve_fixed serve_fixed_pools serve_variable serve_variable_pools set_time get_time get_operating_time create_cyclic start_cyclic stop_cyclic delete_cyclic refer_cyclic create_alarm start_alarm stop_alarm delete_alarm refer_alarm time_call body_of next_due again define_handler disable_dispatch enable_dispatch disable_interrupts enable_interrupts refer_system define_service refer_service enter_service context_call left list_existing list_ready list_queue set_hook hook_call open_device refer_device request request_whole wait_ending close_device suspend_devices device_call expected arrive hand_over hand_first messages emptied read_bytes write_bytes accept picked serve_acceptance serve_acceptances serve_ending serve_endings is_with_driver serve_close serve_closes serve_suspension events_sent free_descriptor free_request first_queued at_driver accepted dropped handed asked devices_start block is_last blocks unit cut may_cut arrived entered returned body_returned family_call answered called follow_release follow_each with_releases dispatched followed insert_once with_requests handler_begun due_begun interrupt_begun served_within settle freed_within fallen due_done tick state_after worked counted step sync_runs sync_run entered_2 runs start trace acted ran turn_of done_turn first_serving_2 serve_object state_start digits
bases_and_ceilings_run = refl

-- Of two ceilings that are held the higher one counts, also where it was locked first.
lower_ceiling_locked_last_script : Script
lower_ceiling_locked_last_script = record {
  devices = [];
  pace = None;
  irqs = [];
  boot = record { body = 1; priority = 50 };
  bodies =
      record {
        name = codes "main";
        kind = kinds.Task;
        labels = [];
        stmts =
            stmts.Call names.TkCreMtx (args.List 32768 ∷ args.Number (pos 10) ∷ []) ∷
            stmts.Call names.TkCreMtx (args.List 32768 ∷ args.Number (pos 20) ∷ []) ∷
            stmts.Call names.TkLocMtx (args.Number (pos 1) ∷ args.Number (negsuc 0) ∷ []) ∷
            stmts.Call names.TkLocMtx (args.Number (pos 2) ∷ args.Number (negsuc 0) ∷ []) ∷
            stmts.Call names.TkRefTsk (args.Number (pos 0) ∷ []) ∷
            stmts.Call names.TkUnlMtx (args.Number (pos 2) ∷ []) ∷
            stmts.Call names.TkRefTsk (args.Number (pos 0) ∷ []) ∷
            [];
      } ∷
      [];
}

lower_ceiling_locked_last_entries : List Entry
lower_ceiling_locked_last_entries = []

lower_ceiling_locked_last_lines : List ℕ
lower_ceiling_locked_last_lines =
    codes "0 D 1\n" ++
    codes "1 C 1 tk_cre_mtx 1\n" ++
    codes "2 C 1 tk_cre_mtx 2\n" ++
    codes "3 C 1 tk_loc_mtx 0\n" ++
    codes "4 C 1 tk_loc_mtx 0\n" ++
    codes "5 C 1 tk_ref_tsk 0 1 10 50 0 0\n" ++
    codes "6 C 1 tk_unl_mtx 0\n" ++
    codes "7 C 1 tk_ref_tsk 0 1 10 50 0 0\n" ++
    codes "8 C 1 tk_ext_tsk 0\n" ++
    codes "8 D 0\n" ++
    codes "8 END idle\n" ++
    []

lower_ceiling_locked_last_run : text_of_lines (lines_of (trace lower_ceiling_locked_last_script modes.Free 100000 lower_ceiling_locked_last_entries)) ≡ lower_ceiling_locked_last_lines
unfolding lower_ceiling_locked_last_script lower_ceiling_locked_last_entries lower_ceiling_locked_last_lines text_of form_of named made task_call_name sem_flag_call_name mutex_call_name mail_call_name pool_call_name time_call_name context_call_name device_call_name hook_call_name name_of code_of error_text coded error_named attributes_of flag_mode_of open_mode_of suspend_mode_of is_name_byte name_at_most why_text value_text words_of text_of_line text_of_lines fetch give call_before create_sem create_flag end_first delete_sem delete_flag refer_sem refer_flag signal_sem set_flag clear_flag wait_sem wait_flag sem_flag_call serve_sem serve_flag first_served serve_sem_flag sem_trial flag_trial chosen free_task create_task delete_task start_task exit_task terminate_task change_priority rotate_ready get_task refer_task sleep delay wake_up cancel_wakeups release_wait suspend_task resume_task task_call mark_of allowed free_from first_serving serve_box serve_mailboxes serve_buffer serve_buffers post create_box delete_box send_box receive_box refer_box create_buffer delete_buffer send_buffer receive_buffer refer_buffer mail_call create_mutex lock_mutex unlock_mutex refer_mutex delete_mutex mutex_call change_priority_beside task_call_beside chain_has current_of resettle free_last ceiling_allows serve_mutex serve_mutexes create_fixed delete_fixed get_fixed release_fixed refer_fixed create_variable delete_variable get_variable release_variable refer_variable pool_call first_free serve_fixed serve_fixed_pools serve_variable serve_variable_pools set_time get_time get_operating_time create_cyclic start_cyclic stop_cyclic delete_cyclic refer_cyclic create_alarm start_alarm stop_alarm delete_alarm refer_alarm time_call body_of next_due again define_handler disable_dispatch enable_dispatch disable_interrupts enable_interrupts refer_system define_service refer_service enter_service context_call left list_existing list_ready list_queue set_hook hook_call open_device refer_device request request_whole wait_ending close_device suspend_devices device_call expected arrive hand_over hand_first messages emptied read_bytes write_bytes accept picked serve_acceptance serve_acceptances serve_ending serve_endings is_with_driver serve_close serve_closes serve_suspension events_sent free_descriptor free_request first_queued at_driver accepted dropped handed asked devices_start block is_last blocks unit cut may_cut arrived entered returned body_returned family_call answered called follow_release follow_each with_releases dispatched followed insert_once with_requests handler_begun due_begun interrupt_begun served_within settle freed_within fallen due_done tick state_after worked counted step sync_runs sync_run entered_2 runs start trace acted ran turn_of done_turn first_serving_2 serve_object state_start digits
lower_ceiling_locked_last_run = refl

-- A ceiling raises its owner at once; where the priority stays, also under another base, the owner keeps its place
-- among equals, and where an unlock lowers it, to the other ceiling that is held or to the base, it stands behind
-- them.
places_among_equals_script : Script
places_among_equals_script = record {
  devices = [];
  pace = None;
  irqs = [];
  boot = record { body = 1; priority = 30 };
  bodies =
      record {
        name = codes "main";
        kind = kinds.Task;
        labels = [];
        stmts =
            stmts.Call names.TkCreMtx (args.List 32768 ∷ args.Number (pos 20) ∷ []) ∷
            stmts.Call names.TkCreMtx (args.List 32768 ∷ args.Number (pos 30) ∷ []) ∷
            stmts.Call names.TkCreMtx (args.List 32768 ∷ args.Number (pos 10) ∷ []) ∷
            stmts.Call names.TkCreTsk (args.List 0 ∷ args.Body 2 ∷ args.Number (pos 30) ∷ args.Number (pos 512) ∷ []) ∷
            stmts.Call names.TkCreTsk (args.List 0 ∷ args.Body 3 ∷ args.Number (pos 20) ∷ args.Number (pos 512) ∷ []) ∷
            stmts.Call names.TkStaTsk (args.Number (pos 2) ∷ args.Number (pos 0) ∷ []) ∷
            stmts.Call names.TkLocMtx (args.Number (pos 2) ∷ args.Number (negsuc 0) ∷ []) ∷
            stmts.Call names.TkUnlMtx (args.Number (pos 2) ∷ []) ∷
            stmts.Call names.TkLocMtx (args.Number (pos 1) ∷ args.Number (negsuc 0) ∷ []) ∷
            stmts.Call names.TkStaTsk (args.Number (pos 3) ∷ args.Number (pos 0) ∷ []) ∷
            stmts.Call names.TkChgPri (args.Number (pos 0) ∷ args.Number (pos 40) ∷ []) ∷
            stmts.Call names.TkRefTsk (args.Number (pos 0) ∷ []) ∷
            stmts.Call names.TkLocMtx (args.Number (pos 3) ∷ args.Number (negsuc 0) ∷ []) ∷
            stmts.Call names.TkRefTsk (args.Number (pos 0) ∷ []) ∷
            stmts.Call names.TkUnlMtx (args.Number (pos 3) ∷ []) ∷
            stmts.Call names.TkStaTsk (args.Number (pos 3) ∷ args.Number (pos 0) ∷ []) ∷
            stmts.Call names.TkChgPri (args.Number (pos 0) ∷ args.Number (pos 20) ∷ []) ∷
            stmts.Call names.TkChgPri (args.Number (pos 0) ∷ args.Number (pos 30) ∷ []) ∷
            stmts.Call names.TkUnlMtx (args.Number (pos 1) ∷ []) ∷
            [];
      } ∷
      record {
        name = codes "peer";
        kind = kinds.Task;
        labels = [];
        stmts =
            stmts.Say (codes "peer") ∷
            [];
      } ∷
      record {
        name = codes "high";
        kind = kinds.Task;
        labels = [];
        stmts =
            stmts.Say (codes "high") ∷
            [];
      } ∷
      [];
}

places_among_equals_entries : List Entry
places_among_equals_entries = []

places_among_equals_lines : List ℕ
places_among_equals_lines =
    codes "0 D 1\n" ++
    codes "1 C 1 tk_cre_mtx 1\n" ++
    codes "2 C 1 tk_cre_mtx 2\n" ++
    codes "3 C 1 tk_cre_mtx 3\n" ++
    codes "4 C 1 tk_cre_tsk 2\n" ++
    codes "5 C 1 tk_cre_tsk 3\n" ++
    codes "6 C 1 tk_sta_tsk 0\n" ++
    codes "7 C 1 tk_loc_mtx 0\n" ++
    codes "8 C 1 tk_unl_mtx 0\n" ++
    codes "9 C 1 tk_loc_mtx 0\n" ++
    codes "10 C 1 tk_sta_tsk 0\n" ++
    codes "11 C 1 tk_chg_pri 0\n" ++
    codes "12 C 1 tk_ref_tsk 0 1 20 40 0 0\n" ++
    codes "13 C 1 tk_loc_mtx 0\n" ++
    codes "14 C 1 tk_ref_tsk 0 1 10 40 0 0\n" ++
    codes "15 C 1 tk_unl_mtx 0\n" ++
    codes "15 D 3\n" ++
    codes "16 S 3 high\n" ++
    codes "17 C 3 tk_ext_tsk 0\n" ++
    codes "17 D 1\n" ++
    codes "18 C 1 tk_sta_tsk 0\n" ++
    codes "19 C 1 tk_chg_pri 0\n" ++
    codes "19 D 3\n" ++
    codes "20 S 3 high\n" ++
    codes "21 C 3 tk_ext_tsk 0\n" ++
    codes "21 D 1\n" ++
    codes "22 C 1 tk_chg_pri 0\n" ++
    codes "23 C 1 tk_unl_mtx 0\n" ++
    codes "23 D 2\n" ++
    codes "24 S 2 peer\n" ++
    codes "25 C 2 tk_ext_tsk 0\n" ++
    codes "25 D 1\n" ++
    codes "26 C 1 tk_ext_tsk 0\n" ++
    codes "26 D 0\n" ++
    codes "26 END idle\n" ++
    []

places_among_equals_run : text_of_lines (lines_of (trace places_among_equals_script modes.Free 100000 places_among_equals_entries)) ≡ places_among_equals_lines
unfolding places_among_equals_script places_among_equals_entries places_among_equals_lines text_of form_of named made task_call_name sem_flag_call_name mutex_call_name mail_call_name pool_call_name time_call_name context_call_name device_call_name hook_call_name name_of code_of error_text coded error_named attributes_of flag_mode_of open_mode_of suspend_mode_of is_name_byte name_at_most why_text value_text words_of text_of_line text_of_lines fetch give call_before create_sem create_flag end_first delete_sem delete_flag refer_sem refer_flag signal_sem set_flag clear_flag wait_sem wait_flag sem_flag_call serve_sem serve_flag first_served serve_sem_flag sem_trial flag_trial chosen free_task create_task delete_task start_task exit_task terminate_task change_priority rotate_ready get_task refer_task sleep delay wake_up cancel_wakeups release_wait suspend_task resume_task task_call mark_of allowed free_from first_serving serve_box serve_mailboxes serve_buffer serve_buffers post create_box delete_box send_box receive_box refer_box create_buffer delete_buffer send_buffer receive_buffer refer_buffer mail_call create_mutex lock_mutex unlock_mutex refer_mutex delete_mutex mutex_call change_priority_beside task_call_beside chain_has current_of resettle free_last ceiling_allows serve_mutex serve_mutexes create_fixed delete_fixed get_fixed release_fixed refer_fixed create_variable delete_variable get_variable release_variable refer_variable pool_call first_free serve_fixed serve_fixed_pools serve_variable serve_variable_pools set_time get_time get_operating_time create_cyclic start_cyclic stop_cyclic delete_cyclic refer_cyclic create_alarm start_alarm stop_alarm delete_alarm refer_alarm time_call body_of next_due again define_handler disable_dispatch enable_dispatch disable_interrupts enable_interrupts refer_system define_service refer_service enter_service context_call left list_existing list_ready list_queue set_hook hook_call open_device refer_device request request_whole wait_ending close_device suspend_devices device_call expected arrive hand_over hand_first messages emptied read_bytes write_bytes accept picked serve_acceptance serve_acceptances serve_ending serve_endings is_with_driver serve_close serve_closes serve_suspension events_sent free_descriptor free_request first_queued at_driver accepted dropped handed asked devices_start block is_last blocks unit cut may_cut arrived entered returned body_returned family_call answered called follow_release follow_each with_releases dispatched followed insert_once with_requests handler_begun due_begun interrupt_begun served_within settle freed_within fallen due_done tick state_after worked counted step sync_runs sync_run entered_2 runs start trace acted ran turn_of done_turn first_serving_2 serve_object state_start digits
places_among_equals_run = refl
