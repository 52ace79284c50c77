-- Runs that were worked out by hand from the rules, as runs/object/owners has them: each a theorem by computation.
use Rattle.std.specs.Prelude.{ℕ, pos, negsuc, List, [], ◌∷◌, ◌++◌, Some, None, codes, ◌≡◌, refl}
use Rattle.std.specs.Fmt.{digits}
use Rattle.tk_types.specs.declared.script.Script.{Script}
use Rattle.tk_types.specs.declared.script.BodyKind.TheVariants as kinds
use Rattle.tk_types.specs.declared.script.Kind.TheVariants as devices
use Rattle.tk_types.specs.declared.script.Stmt.TheVariants as stmts
use Rattle.tk_types.specs.declared.script.Operand.TheVariants as operands
use Rattle.tk_types.specs.declared.script.Operation.TheVariants as operations
use Rattle.tk_types.specs.declared.script.Condition.TheVariants as conditions
use Rattle.tk_types.specs.declared.script.Arg.TheVariants as args
use Rattle.tk_types.specs.declared.call_name.CallName.TheVariants as names
use Rattle.tk_types.specs.declared.line.Entry.{Entry}
use Rattle.tk_types.specs.declared.line.How.TheVariants as hows
use Rattle.tk_types.specs.declared.run.Mode.TheVariants as modes
use Rattle.tk_types.specs.CallNames.{text_of, form_of, named}
use Rattle.tk_types.specs.Calls.{made, task_call_name, sem_flag_call_name, mutex_call_name, mail_call_name, pool_call_name, time_call_name, context_call_name, device_call_name, hook_call_name, name_of}
use Rattle.tk_types.specs.Codes.{code_of, error_text, coded, error_named}
use Rattle.tk_types.specs.Modes.{attributes_of, flag_mode_of, open_mode_of, suspend_mode_of}
use Rattle.tk_types.specs.Names.{is_name_byte, name_at_most}
use Rattle.tk_types.specs.Reasons.{why_text}
use Rattle.tk_model.specs.LineText.{value_text, words_of, text_of_line, text_of_lines}
use Rattle.kernel_model.specs.Bodies.Statements.{fetch, give, call_before}
use Rattle.kernel_model.specs.SemFlags.Calls.{create_sem, create_flag, end_first, delete_sem, delete_flag, refer_sem, refer_flag, signal_sem, set_flag, clear_flag, wait_sem, wait_flag, sem_flag_call}
use Rattle.kernel_model.specs.SemFlags.Tables.{serve_sem, serve_flag, first_served, serve_sem_flag}
use Rattle.kernel_model.specs.SemFlags.Trial.{sem_trial, flag_trial}
use Rattle.kernel_model.specs.Tasks.Base.{chosen, free_task}
use Rattle.kernel_model.specs.Tasks.Calls.{create_task, delete_task, start_task, exit_task, terminate_task, change_priority, rotate_ready, get_task, refer_task, sleep, delay, wake_up, cancel_wakeups, release_wait, suspend_task, resume_task, task_call}
use Rattle.kernel_model.specs.Tasks.Marks.{mark_of, allowed}
use Rattle.kernel_model.specs.Words.Orders.{free_from}
use Rattle.object_model.specs.Servings.{first_serving}
use Rattle.object_model.specs.Mails.Boxes.{serve_box, serve_mailboxes}
use Rattle.object_model.specs.Mails.Buffers.{serve_buffer, serve_buffers, post}
use Rattle.object_model.specs.Mails.Calls.{create_box, delete_box, send_box, receive_box, refer_box, create_buffer, delete_buffer, send_buffer, receive_buffer, refer_buffer, mail_call}
use Rattle.object_model.specs.Mutexes.Calls.{create_mutex, lock_mutex, unlock_mutex, refer_mutex, delete_mutex, mutex_call, change_priority_beside, task_call_beside}
use Rattle.object_model.specs.Mutexes.Priority.{chain_has, current_of, resettle}
use Rattle.object_model.specs.Mutexes.Tables.{free_last, ceiling_allows, serve_mutex, serve_mutexes}
use Rattle.object_model.specs.Pools.Calls.{create_fixed, delete_fixed, get_fixed, release_fixed, refer_fixed, create_variable, delete_variable, get_variable, release_variable, refer_variable, pool_call}
use Rattle.object_model.specs.Pools.Fixed.{first_free, serve_fixed, serve_fixed_pools}
use Rattle.object_model.specs.Pools.Variable.{serve_variable, serve_variable_pools}
use Rattle.context_model.specs.Clocks.Calls.{set_time, get_time, get_operating_time, create_cyclic, start_cyclic, stop_cyclic, delete_cyclic, refer_cyclic, create_alarm, start_alarm, stop_alarm, delete_alarm, refer_alarm, time_call}
use Rattle.context_model.specs.Clocks.Tables.{body_of, next_due, again}
use Rattle.context_model.specs.Contexts.Calls.{define_handler, disable_dispatch, enable_dispatch, disable_interrupts, enable_interrupts, refer_system, define_service, refer_service, enter_service, context_call}
use Rattle.context_model.specs.Contexts.Tables.{left}
use Rattle.context_model.specs.Hooks.Calls.{list_existing, list_ready, list_queue, set_hook, hook_call}
use Rattle.device_model.specs.Devices.Calls.{open_device, refer_device, request, request_whole, wait_ending, close_device, suspend_devices, device_call}
use Rattle.device_model.specs.Devices.Endings.{expected, arrive}
use Rattle.device_model.specs.Devices.Handing.{hand_over, hand_first, messages, emptied}
use Rattle.device_model.specs.Devices.Memory.{read_bytes, write_bytes}
use Rattle.device_model.specs.Devices.Requests.{accept, picked}
use Rattle.device_model.specs.Devices.Servings.{serve_acceptance, serve_acceptances, serve_ending, serve_endings, is_with_driver, serve_close, serve_closes, serve_suspension}
use Rattle.device_model.specs.Devices.Suspension.{events_sent}
use Rattle.device_model.specs.Devices.Tables.{free_descriptor, free_request, first_queued, at_driver, accepted, dropped, handed, asked, devices_start}
use Rattle.device_model.specs.Units.Blocks.{block, is_last, blocks}
use Rattle.device_model.specs.Units.Function.{unit, cut, may_cut}
use Rattle.machine_model.specs.Events.Arrivals.{arrived}
use Rattle.machine_model.specs.Events.Bodies.{entered, returned, body_returned}
use Rattle.machine_model.specs.Events.Calls.{family_call, answered, called}
use Rattle.machine_model.specs.Events.Follow.{follow_release, follow_each, with_releases, dispatched, followed}
use Rattle.machine_model.specs.Events.Handlers.{insert_once, with_requests, handler_begun, due_begun, interrupt_begun}
use Rattle.machine_model.specs.Events.Settle.{served_within, settle, freed_within}
use Rattle.machine_model.specs.Events.Ticks.{fallen, due_done, tick}
use Rattle.machine_model.specs.Runs.Reached.{state_after}
use Rattle.machine_model.specs.Runs.Step.{worked, counted, step}
use Rattle.machine_model.specs.Runs.SyncTrace.{sync_runs, sync_run}
use Rattle.machine_model.specs.Runs.Trace.{lines_of, entered as entered_2, runs, start, trace}
use Rattle.machine_model.specs.Runs.Turns.{acted, ran, turn_of, done_turn}
use Rattle.machine_model.specs.States.Objects.{first_serving as first_serving_2, serve_object}
use Rattle.machine_model.specs.States.State.{state_start}

-- The deletion of a mutex takes it from its owner, which has its own priority again, and ends the waits in their
-- order: as they began, or by priority, where a changed priority, or the same one set again, stands behind its equals.
deleted_mutexes_script : Script
deleted_mutexes_script = record {
  devices = [];
  pace = None;
  irqs = [];
  boot = record { body = 1; priority = 50 };
  bodies =
      record {
        name = codes "main";
        kind = kinds.Task;
        labels = [];
        stmts =
            stmts.Call names.TkCreMtx (args.List 64 ∷ args.Number (pos 0) ∷ []) ∷
            stmts.Call names.TkCreMtx (args.List 16384 ∷ args.Number (pos 0) ∷ []) ∷
            stmts.Call names.TkLocMtx (args.Number (pos 1) ∷ args.Number (negsuc 0) ∷ []) ∷
            stmts.Call names.TkLocMtx (args.Number (pos 2) ∷ args.Number (negsuc 0) ∷ []) ∷
            stmts.Call names.TkCreTsk (args.List 0 ∷ args.Body 2 ∷ args.Number (pos 30) ∷ args.Number (pos 512) ∷ []) ∷
            stmts.Call names.TkCreTsk (args.List 0 ∷ args.Body 2 ∷ args.Number (pos 20) ∷ args.Number (pos 512) ∷ []) ∷
            stmts.Call names.TkCreTsk (args.List 0 ∷ args.Body 3 ∷ args.Number (pos 30) ∷ args.Number (pos 512) ∷ []) ∷
            stmts.Call names.TkCreTsk (args.List 0 ∷ args.Body 3 ∷ args.Number (pos 20) ∷ args.Number (pos 512) ∷ []) ∷
            stmts.Call names.TkStaTsk (args.Number (pos 2) ∷ args.Number (pos 0) ∷ []) ∷
            stmts.Call names.TkStaTsk (args.Number (pos 3) ∷ args.Number (pos 0) ∷ []) ∷
            stmts.Call names.TkDelMtx (args.Number (pos 1) ∷ []) ∷
            stmts.Call names.TkStaTsk (args.Number (pos 4) ∷ args.Number (pos 0) ∷ []) ∷
            stmts.Call names.TkStaTsk (args.Number (pos 5) ∷ args.Number (pos 0) ∷ []) ∷
            stmts.Call names.TkRefMtx (args.Number (pos 2) ∷ []) ∷
            stmts.Call names.TkChgPri (args.Number (pos 4) ∷ args.Number (pos 20) ∷ []) ∷
            stmts.Call names.TkRefMtx (args.Number (pos 2) ∷ []) ∷
            stmts.Call names.TkChgPri (args.Number (pos 5) ∷ args.Number (pos 20) ∷ []) ∷
            stmts.Call names.TkRefMtx (args.Number (pos 2) ∷ []) ∷
            stmts.Call names.TkRefTsk (args.Number (pos 0) ∷ []) ∷
            stmts.Call names.TkDelMtx (args.Number (pos 2) ∷ []) ∷
            stmts.Call names.TkUnlMtx (args.Number (pos 2) ∷ []) ∷
            [];
      } ∷
      record {
        name = codes "first";
        kind = kinds.Task;
        labels = [];
        stmts =
            stmts.Call names.TkLocMtx (args.Number (pos 1) ∷ args.Number (negsuc 0) ∷ []) ∷
            [];
      } ∷
      record {
        name = codes "second";
        kind = kinds.Task;
        labels = [];
        stmts =
            stmts.Call names.TkLocMtx (args.Number (pos 2) ∷ args.Number (negsuc 0) ∷ []) ∷
            stmts.Call names.TkRefTsk (args.Number (pos 1) ∷ []) ∷
            [];
      } ∷
      [];
}

deleted_mutexes_entries : List Entry
deleted_mutexes_entries = []

deleted_mutexes_lines : List ℕ
deleted_mutexes_lines =
    codes "0 D 1\n" ++
    codes "1 C 1 tk_cre_mtx 1\n" ++
    codes "2 C 1 tk_cre_mtx 2\n" ++
    codes "3 C 1 tk_loc_mtx 0\n" ++
    codes "4 C 1 tk_loc_mtx 0\n" ++
    codes "5 C 1 tk_cre_tsk 2\n" ++
    codes "6 C 1 tk_cre_tsk 3\n" ++
    codes "7 C 1 tk_cre_tsk 4\n" ++
    codes "8 C 1 tk_cre_tsk 5\n" ++
    codes "9 C 1 tk_sta_tsk 0\n" ++
    codes "9 D 2\n" ++
    codes "10 B 2 tk_loc_mtx\n" ++
    codes "10 D 1\n" ++
    codes "11 C 1 tk_sta_tsk 0\n" ++
    codes "11 D 3\n" ++
    codes "12 B 3 tk_loc_mtx\n" ++
    codes "12 D 1\n" ++
    codes "13 C 1 tk_del_mtx 0\n" ++
    codes "13 W 2 tk_loc_mtx E_DLT\n" ++
    codes "13 W 3 tk_loc_mtx E_DLT\n" ++
    codes "13 D 3\n" ++
    codes "14 C 3 tk_ext_tsk 0\n" ++
    codes "14 D 2\n" ++
    codes "15 C 2 tk_ext_tsk 0\n" ++
    codes "15 D 1\n" ++
    codes "16 C 1 tk_sta_tsk 0\n" ++
    codes "16 D 4\n" ++
    codes "17 B 4 tk_loc_mtx\n" ++
    codes "17 D 1\n" ++
    codes "18 C 1 tk_sta_tsk 0\n" ++
    codes "18 D 5\n" ++
    codes "19 B 5 tk_loc_mtx\n" ++
    codes "19 D 1\n" ++
    codes "20 C 1 tk_ref_mtx 0 1 5\n" ++
    codes "21 C 1 tk_chg_pri 0\n" ++
    codes "22 C 1 tk_ref_mtx 0 1 5\n" ++
    codes "23 C 1 tk_chg_pri 0\n" ++
    codes "24 C 1 tk_ref_mtx 0 1 4\n" ++
    codes "25 C 1 tk_ref_tsk 0 1 20 50 0 0\n" ++
    codes "26 C 1 tk_del_mtx 0\n" ++
    codes "26 W 4 tk_loc_mtx E_DLT\n" ++
    codes "26 W 5 tk_loc_mtx E_DLT\n" ++
    codes "26 D 4\n" ++
    codes "27 C 4 tk_ref_tsk 0 2 50 50 0 0\n" ++
    codes "28 C 4 tk_ext_tsk 0\n" ++
    codes "28 D 5\n" ++
    codes "29 C 5 tk_ref_tsk 0 2 50 50 0 0\n" ++
    codes "30 C 5 tk_ext_tsk 0\n" ++
    codes "30 D 1\n" ++
    codes "31 C 1 tk_unl_mtx E_NOEXS\n" ++
    codes "32 C 1 tk_ext_tsk 0\n" ++
    codes "32 D 0\n" ++
    codes "32 END idle\n" ++
    []

deleted_mutexes_run : text_of_lines (lines_of (trace deleted_mutexes_script modes.Free 100000 deleted_mutexes_entries)) ≡ deleted_mutexes_lines
unfolding deleted_mutexes_script deleted_mutexes_entries deleted_mutexes_lines text_of form_of named made task_call_name sem_flag_call_name mutex_call_name mail_call_name pool_call_name time_call_name context_call_name device_call_name hook_call_name name_of code_of error_text coded error_named attributes_of flag_mode_of open_mode_of suspend_mode_of is_name_byte name_at_most why_text value_text words_of text_of_line text_of_lines fetch give call_before create_sem create_flag end_first delete_sem delete_flag refer_sem refer_flag signal_sem set_flag clear_flag wait_sem wait_flag sem_flag_call serve_sem serve_flag first_served serve_sem_flag sem_trial flag_trial chosen free_task create_task delete_task start_task exit_task terminate_task change_priority rotate_ready get_task refer_task sleep delay wake_up cancel_wakeups release_wait suspend_task resume_task task_call mark_of allowed free_from first_serving serve_box serve_mailboxes serve_buffer serve_buffers post create_box delete_box send_box receive_box refer_box create_buffer delete_buffer send_buffer receive_buffer refer_buffer mail_call create_mutex lock_mutex unlock_mutex refer_mutex delete_mutex mutex_call change_priority_beside task_call_beside chain_has current_of resettle free_last ceiling_allows serve_mutex serve_mutexes create_fixed delete_fixed get_fixed release_fixed refer_fixed create_variable delete_variable get_variable release_variable refer_variable pool_call first_free serve_fixed serve_fixed_pools serve_variable serve_variable_pools set_time get_time get_operating_time create_cyclic start_cyclic stop_cyclic delete_cyclic refer_cyclic create_alarm start_alarm stop_alarm delete_alarm refer_alarm time_call body_of next_due again define_handler disable_dispatch enable_dispatch disable_interrupts enable_interrupts refer_system define_service refer_service enter_service context_call left list_existing list_ready list_queue set_hook hook_call open_device refer_device request request_whole wait_ending close_device suspend_devices device_call expected arrive hand_over hand_first messages emptied read_bytes write_bytes accept picked serve_acceptance serve_acceptances serve_ending serve_endings is_with_driver serve_close serve_closes serve_suspension events_sent free_descriptor free_request first_queued at_driver accepted dropped handed asked devices_start block is_last blocks unit cut may_cut arrived entered returned body_returned family_call answered called follow_release follow_each with_releases dispatched followed insert_once with_requests handler_begun due_begun interrupt_begun served_within settle freed_within fallen due_done tick state_after worked counted step sync_runs sync_run entered_2 runs start trace acted ran turn_of done_turn first_serving_2 serve_object state_start digits
deleted_mutexes_run = refl

-- A task that is terminated loses the mutex that it locked last first, and its waiter is released before the next is
-- freed; an owner that ends and is deleted hands its mutex on, and its ID is free.
ended_owners_script : Script
ended_owners_script = record {
  devices = [];
  pace = None;
  irqs = [];
  boot = record { body = 1; priority = 50 };
  bodies =
      record {
        name = codes "main";
        kind = kinds.Task;
        labels = [];
        stmts =
            stmts.Call names.TkCreMtx (args.List 16384 ∷ args.Number (pos 0) ∷ []) ∷
            stmts.Call names.TkCreMtx (args.List 16384 ∷ args.Number (pos 0) ∷ []) ∷
            stmts.Call names.TkCreTsk (args.List 0 ∷ args.Body 2 ∷ args.Number (pos 40) ∷ args.Number (pos 512) ∷ []) ∷
            stmts.Call names.TkCreTsk (args.List 0 ∷ args.Body 3 ∷ args.Number (pos 30) ∷ args.Number (pos 512) ∷ []) ∷
            stmts.Call names.TkCreTsk (args.List 0 ∷ args.Body 4 ∷ args.Number (pos 30) ∷ args.Number (pos 512) ∷ []) ∷
            stmts.Call names.TkCreTsk (args.List 0 ∷ args.Body 5 ∷ args.Number (pos 35) ∷ args.Number (pos 512) ∷ []) ∷
            stmts.Call names.TkStaTsk (args.Number (pos 2) ∷ args.Number (pos 0) ∷ []) ∷
            stmts.Call names.TkStaTsk (args.Number (pos 3) ∷ args.Number (pos 0) ∷ []) ∷
            stmts.Call names.TkStaTsk (args.Number (pos 4) ∷ args.Number (pos 0) ∷ []) ∷
            stmts.Call names.TkStaTsk (args.Number (pos 5) ∷ args.Number (pos 0) ∷ []) ∷
            stmts.Call names.TkChgPri (args.Number (pos 2) ∷ args.Number (pos 45) ∷ []) ∷
            stmts.Call names.TkRefTsk (args.Number (pos 2) ∷ []) ∷
            stmts.Call names.TkTerTsk (args.Number (pos 2) ∷ []) ∷
            stmts.Call names.TkRefMtx (args.Number (pos 1) ∷ []) ∷
            stmts.Call names.TkRefMtx (args.Number (pos 2) ∷ []) ∷
            [];
      } ∷
      record {
        name = codes "holder";
        kind = kinds.Task;
        labels = [];
        stmts =
            stmts.Call names.TkLocMtx (args.Number (pos 1) ∷ args.Number (negsuc 0) ∷ []) ∷
            stmts.Call names.TkLocMtx (args.Number (pos 2) ∷ args.Number (negsuc 0) ∷ []) ∷
            stmts.Call names.TkSlpTsk (args.Number (negsuc 0) ∷ []) ∷
            [];
      } ∷
      record {
        name = codes "one";
        kind = kinds.Task;
        labels = [];
        stmts =
            stmts.Call names.TkLocMtx (args.Number (pos 1) ∷ args.Number (negsuc 0) ∷ []) ∷
            stmts.Call names.TkRefTsk (args.Number (pos 4) ∷ []) ∷
            stmts.Call names.TkCreTsk (args.List 0 ∷ args.Body 5 ∷ args.Number (pos 30) ∷ args.Number (pos 512) ∷ []) ∷
            [];
      } ∷
      record {
        name = codes "two";
        kind = kinds.Task;
        labels = [];
        stmts =
            stmts.Call names.TkLocMtx (args.Number (pos 2) ∷ args.Number (negsuc 0) ∷ []) ∷
            stmts.Call names.TkRefMtx (args.Number (pos 2) ∷ []) ∷
            stmts.Call names.TkRefMtx (args.Number (pos 1) ∷ []) ∷
            stmts.Call names.TkRefTsk (args.Number (pos 2) ∷ []) ∷
            stmts.Call names.TkExdTsk ([]) ∷
            [];
      } ∷
      record {
        name = codes "more";
        kind = kinds.Task;
        labels = [];
        stmts =
            stmts.Call names.TkLocMtx (args.Number (pos 2) ∷ args.Number (negsuc 0) ∷ []) ∷
            [];
      } ∷
      [];
}

ended_owners_entries : List Entry
ended_owners_entries = []

ended_owners_lines : List ℕ
ended_owners_lines =
    codes "0 D 1\n" ++
    codes "1 C 1 tk_cre_mtx 1\n" ++
    codes "2 C 1 tk_cre_mtx 2\n" ++
    codes "3 C 1 tk_cre_tsk 2\n" ++
    codes "4 C 1 tk_cre_tsk 3\n" ++
    codes "5 C 1 tk_cre_tsk 4\n" ++
    codes "6 C 1 tk_cre_tsk 5\n" ++
    codes "7 C 1 tk_sta_tsk 0\n" ++
    codes "7 D 2\n" ++
    codes "8 C 2 tk_loc_mtx 0\n" ++
    codes "9 C 2 tk_loc_mtx 0\n" ++
    codes "10 B 2 tk_slp_tsk\n" ++
    codes "10 D 1\n" ++
    codes "11 C 1 tk_sta_tsk 0\n" ++
    codes "11 D 3\n" ++
    codes "12 B 3 tk_loc_mtx\n" ++
    codes "12 D 1\n" ++
    codes "13 C 1 tk_sta_tsk 0\n" ++
    codes "13 D 4\n" ++
    codes "14 B 4 tk_loc_mtx\n" ++
    codes "14 D 1\n" ++
    codes "15 C 1 tk_sta_tsk 0\n" ++
    codes "15 D 5\n" ++
    codes "16 B 5 tk_loc_mtx\n" ++
    codes "16 D 1\n" ++
    codes "17 C 1 tk_chg_pri 0\n" ++
    codes "18 C 1 tk_ref_tsk 0 3 30 45 0 0\n" ++
    codes "19 C 1 tk_ter_tsk 0\n" ++
    codes "19 W 4 tk_loc_mtx 0\n" ++
    codes "19 W 3 tk_loc_mtx 0\n" ++
    codes "19 D 4\n" ++
    codes "20 C 4 tk_ref_mtx 0 4 5\n" ++
    codes "21 C 4 tk_ref_mtx 0 3 0\n" ++
    codes "22 C 4 tk_ref_tsk 0 6 40 40 0 0\n" ++
    codes "23 C 4 tk_exd_tsk 0\n" ++
    codes "23 W 5 tk_loc_mtx 0\n" ++
    codes "23 D 3\n" ++
    codes "24 C 3 tk_ref_tsk E_NOEXS\n" ++
    codes "25 C 3 tk_cre_tsk 4\n" ++
    codes "26 C 3 tk_ext_tsk 0\n" ++
    codes "26 D 5\n" ++
    codes "27 C 5 tk_ext_tsk 0\n" ++
    codes "27 D 1\n" ++
    codes "28 C 1 tk_ref_mtx 0 0 0\n" ++
    codes "29 C 1 tk_ref_mtx 0 0 0\n" ++
    codes "30 C 1 tk_ext_tsk 0\n" ++
    codes "30 D 0\n" ++
    codes "30 END idle\n" ++
    []

ended_owners_run : text_of_lines (lines_of (trace ended_owners_script modes.Free 100000 ended_owners_entries)) ≡ ended_owners_lines
unfolding ended_owners_script ended_owners_entries ended_owners_lines text_of form_of named made task_call_name sem_flag_call_name mutex_call_name mail_call_name pool_call_name time_call_name context_call_name device_call_name hook_call_name name_of code_of error_text coded error_named attributes_of flag_mode_of open_mode_of suspend_mode_of is_name_byte name_at_most why_text value_text words_of text_of_line text_of_lines fetch give call_before create_sem create_flag end_first delete_sem delete_flag refer_sem refer_flag signal_sem set_flag clear_flag wait_sem wait_flag sem_flag_call serve_sem serve_flag first_served serve_sem_flag sem_trial flag_trial chosen free_task create_task delete_task start_task exit_task terminate_task change_priority rotate_ready get_task refer_task sleep delay wake_up cancel_wakeups release_wait suspend_task resume_task task_call mark_of allowed free_from first_serving serve_box serve_mailboxes serve_buffer serve_buffers post create_box delete_box send_box receive_box refer_box create_buffer delete_buffer send_buffer receive_buffer refer_buffer mail_call create_mutex lock_mutex unlock_mutex refer_mutex delete_mutex mutex_call change_priority_beside task_call_beside chain_has current_of resettle free_last ceiling_allows serve_mutex serve_mutexes create_fixed delete_fixed get_fixed release_fixed refer_fixed create_variable delete_variable get_variable release_variable refer_variable pool_call first_free serve_fixed serve_fixed_pools serve_variable serve_variable_pools set_time get_time get_operating_time create_cyclic start_cyclic stop_cyclic delete_cyclic refer_cyclic create_alarm start_alarm stop_alarm delete_alarm refer_alarm time_call body_of next_due again define_handler disable_dispatch enable_dispatch disable_interrupts enable_interrupts refer_system define_service refer_service enter_service context_call left list_existing list_ready list_queue set_hook hook_call open_device refer_device request request_whole wait_ending close_device suspend_devices device_call expected arrive hand_over hand_first messages emptied read_bytes write_bytes accept picked serve_acceptance serve_acceptances serve_ending serve_endings is_with_driver serve_close serve_closes serve_suspension events_sent free_descriptor free_request first_queued at_driver accepted dropped handed asked devices_start block is_last blocks unit cut may_cut arrived entered returned body_returned family_call answered called follow_release follow_each with_releases dispatched followed insert_once with_requests handler_begun due_begun interrupt_begun served_within settle freed_within fallen due_done tick state_after worked counted step sync_runs sync_run entered_2 runs start trace acted ran turn_of done_turn first_serving_2 serve_object state_start digits
ended_owners_run = refl

-- A task is ended that owns a mutex and is the first waiter of a pool, then of a message buffer. Its mutex is freed before anything
-- settles, so the waiter of the mutex is served before those of the pool and the buffer, which could be served without the freeing.
freed_before_all_settles_script : Script
freed_before_all_settles_script = record {
  devices = [];
  pace = None;
  irqs = [];
  boot = record { body = 1; priority = 20 };
  bodies =
      record {
        name = codes "main";
        kind = kinds.Task;
        labels = [];
        stmts =
            stmts.Call names.TkCreMtx (args.List 16384 ∷ args.Number (pos 0) ∷ []) ∷
            stmts.Call names.TkCreMpl (args.List 64 ∷ args.Number (pos 32) ∷ []) ∷
            stmts.Call names.TkCreMbf (args.List 0 ∷ args.Number (pos 16) ∷ args.Number (pos 8) ∷ []) ∷
            stmts.Call names.TkGetMpl (args.Number (pos 1) ∷ args.Number (pos 16) ∷ args.Number (pos 0) ∷ []) ∷
            stmts.Call names.TkSndMbf (args.Number (pos 1) ∷ args.Number (pos 0) ∷ args.Number (pos 4) ∷ args.Number (pos 0) ∷ []) ∷
            stmts.Call names.TkCreTsk (args.List 0 ∷ args.Body 2 ∷ args.Number (pos 10) ∷ args.Number (pos 512) ∷ []) ∷
            stmts.Call names.TkCreTsk (args.List 0 ∷ args.Body 3 ∷ args.Number (pos 12) ∷ args.Number (pos 512) ∷ []) ∷
            stmts.Call names.TkCreTsk (args.List 0 ∷ args.Body 4 ∷ args.Number (pos 8) ∷ args.Number (pos 512) ∷ []) ∷
            stmts.Call names.TkCreTsk (args.List 0 ∷ args.Body 5 ∷ args.Number (pos 11) ∷ args.Number (pos 512) ∷ []) ∷
            stmts.Call names.TkCreTsk (args.List 0 ∷ args.Body 6 ∷ args.Number (pos 9) ∷ args.Number (pos 512) ∷ []) ∷
            stmts.Call names.TkStaTsk (args.Number (pos 2) ∷ args.Number (pos 0) ∷ []) ∷
            stmts.Call names.TkStaTsk (args.Number (pos 3) ∷ args.Number (pos 0) ∷ []) ∷
            stmts.Call names.TkStaTsk (args.Number (pos 4) ∷ args.Number (pos 0) ∷ []) ∷
            stmts.Call names.TkTerTsk (args.Number (pos 2) ∷ []) ∷
            stmts.Call names.TkRefMpl (args.Number (pos 1) ∷ []) ∷
            stmts.Call names.TkStaTsk (args.Number (pos 5) ∷ args.Number (pos 0) ∷ []) ∷
            stmts.Call names.TkStaTsk (args.Number (pos 3) ∷ args.Number (pos 0) ∷ []) ∷
            stmts.Call names.TkStaTsk (args.Number (pos 6) ∷ args.Number (pos 0) ∷ []) ∷
            stmts.Call names.TkTerTsk (args.Number (pos 5) ∷ []) ∷
            stmts.Call names.TkRefMbf (args.Number (pos 1) ∷ []) ∷
            stmts.Call names.TkStaTsk (args.Number (pos 5) ∷ args.Number (pos 0) ∷ []) ∷
            stmts.Call names.TkTerTsk (args.Number (pos 5) ∷ []) ∷
            [];
      } ∷
      record {
        name = codes "own";
        kind = kinds.Task;
        labels = [];
        stmts =
            stmts.Call names.TkLocMtx (args.Number (pos 1) ∷ args.Number (negsuc 0) ∷ []) ∷
            stmts.Call names.TkGetMpl (args.Number (pos 1) ∷ args.Number (pos 24) ∷ args.Number (negsuc 0) ∷ []) ∷
            [];
      } ∷
      record {
        name = codes "two";
        kind = kinds.Task;
        labels = [];
        stmts =
            stmts.Call names.TkLocMtx (args.Number (pos 1) ∷ args.Number (negsuc 0) ∷ []) ∷
            stmts.Call names.TkUnlMtx (args.Number (pos 1) ∷ []) ∷
            [];
      } ∷
      record {
        name = codes "small";
        kind = kinds.Task;
        labels = [];
        stmts =
            stmts.Call names.TkGetMpl (args.Number (pos 1) ∷ args.Number (pos 8) ∷ args.Number (negsuc 0) ∷ []) ∷
            [];
      } ∷
      record {
        name = codes "ownb";
        kind = kinds.Task;
        labels = [];
        stmts =
            stmts.Call names.TkLocMtx (args.Number (pos 1) ∷ args.Number (negsuc 0) ∷ []) ∷
            stmts.Call names.TkSndMbf (args.Number (pos 1) ∷ args.Number (pos 0) ∷ args.Number (pos 8) ∷ args.Number (negsuc 0) ∷ []) ∷
            [];
      } ∷
      record {
        name = codes "smallb";
        kind = kinds.Task;
        labels = [];
        stmts =
            stmts.Call names.TkSndMbf (args.Number (pos 1) ∷ args.Number (pos 0) ∷ args.Number (pos 4) ∷ args.Number (negsuc 0) ∷ []) ∷
            [];
      } ∷
      [];
}

freed_before_all_settles_entries : List Entry
freed_before_all_settles_entries = []

freed_before_all_settles_lines : List ℕ
freed_before_all_settles_lines =
    codes "0 D 1\n" ++
    codes "1 C 1 tk_cre_mtx 1\n" ++
    codes "2 C 1 tk_cre_mpl 1\n" ++
    codes "3 C 1 tk_cre_mbf 1\n" ++
    codes "4 C 1 tk_get_mpl 0\n" ++
    codes "5 C 1 tk_snd_mbf 0\n" ++
    codes "6 C 1 tk_cre_tsk 2\n" ++
    codes "7 C 1 tk_cre_tsk 3\n" ++
    codes "8 C 1 tk_cre_tsk 4\n" ++
    codes "9 C 1 tk_cre_tsk 5\n" ++
    codes "10 C 1 tk_cre_tsk 6\n" ++
    codes "11 C 1 tk_sta_tsk 0\n" ++
    codes "11 D 2\n" ++
    codes "12 C 2 tk_loc_mtx 0\n" ++
    codes "13 B 2 tk_get_mpl\n" ++
    codes "13 D 1\n" ++
    codes "14 C 1 tk_sta_tsk 0\n" ++
    codes "14 D 3\n" ++
    codes "15 B 3 tk_loc_mtx\n" ++
    codes "15 D 1\n" ++
    codes "16 C 1 tk_sta_tsk 0\n" ++
    codes "16 D 4\n" ++
    codes "17 B 4 tk_get_mpl\n" ++
    codes "17 D 1\n" ++
    codes "18 C 1 tk_ter_tsk 0\n" ++
    codes "18 W 3 tk_loc_mtx 0\n" ++
    codes "18 W 4 tk_get_mpl 16\n" ++
    codes "18 D 4\n" ++
    codes "19 C 4 tk_ext_tsk 0\n" ++
    codes "19 D 3\n" ++
    codes "20 C 3 tk_unl_mtx 0\n" ++
    codes "21 C 3 tk_ext_tsk 0\n" ++
    codes "21 D 1\n" ++
    codes "22 C 1 tk_ref_mpl 0 8 8 0\n" ++
    codes "23 C 1 tk_sta_tsk 0\n" ++
    codes "23 D 5\n" ++
    codes "24 C 5 tk_loc_mtx 0\n" ++
    codes "25 B 5 tk_snd_mbf\n" ++
    codes "25 D 1\n" ++
    codes "26 C 1 tk_sta_tsk 0\n" ++
    codes "26 D 3\n" ++
    codes "27 B 3 tk_loc_mtx\n" ++
    codes "27 D 1\n" ++
    codes "28 C 1 tk_sta_tsk 0\n" ++
    codes "28 D 6\n" ++
    codes "29 B 6 tk_snd_mbf\n" ++
    codes "29 D 1\n" ++
    codes "30 C 1 tk_ter_tsk 0\n" ++
    codes "30 W 3 tk_loc_mtx 0\n" ++
    codes "30 W 6 tk_snd_mbf 0\n" ++
    codes "30 D 6\n" ++
    codes "31 C 6 tk_ext_tsk 0\n" ++
    codes "31 D 3\n" ++
    codes "32 C 3 tk_unl_mtx 0\n" ++
    codes "33 C 3 tk_ext_tsk 0\n" ++
    codes "33 D 1\n" ++
    codes "34 C 1 tk_ref_mbf 0 0 0 0 4\n" ++
    codes "35 C 1 tk_sta_tsk 0\n" ++
    codes "35 D 5\n" ++
    codes "36 C 5 tk_loc_mtx 0\n" ++
    codes "37 B 5 tk_snd_mbf\n" ++
    codes "37 D 1\n" ++
    codes "38 C 1 tk_ter_tsk 0\n" ++
    codes "39 C 1 tk_ext_tsk 0\n" ++
    codes "39 D 0\n" ++
    codes "39 END idle\n" ++
    []

freed_before_all_settles_run : text_of_lines (lines_of (trace freed_before_all_settles_script modes.Free 100000 freed_before_all_settles_entries)) ≡ freed_before_all_settles_lines
unfolding freed_before_all_settles_script freed_before_all_settles_entries freed_before_all_settles_lines text_of form_of named made task_call_name sem_flag_call_name mutex_call_name mail_call_name pool_call_name time_call_name context_call_name device_call_name hook_call_name name_of code_of error_text coded error_named attributes_of flag_mode_of open_mode_of suspend_mode_of is_name_byte name_at_most why_text value_text words_of text_of_line text_of_lines fetch give call_before create_sem create_flag end_first delete_sem delete_flag refer_sem refer_flag signal_sem set_flag clear_flag wait_sem wait_flag sem_flag_call serve_sem serve_flag first_served serve_sem_flag sem_trial flag_trial chosen free_task create_task delete_task start_task exit_task terminate_task change_priority rotate_ready get_task refer_task sleep delay wake_up cancel_wakeups release_wait suspend_task resume_task task_call mark_of allowed free_from first_serving serve_box serve_mailboxes serve_buffer serve_buffers post create_box delete_box send_box receive_box refer_box create_buffer delete_buffer send_buffer receive_buffer refer_buffer mail_call create_mutex lock_mutex unlock_mutex refer_mutex delete_mutex mutex_call change_priority_beside task_call_beside chain_has current_of resettle free_last ceiling_allows serve_mutex serve_mutexes create_fixed delete_fixed get_fixed release_fixed refer_fixed create_variable delete_variable get_variable release_variable refer_variable pool_call first_free serve_fixed serve_fixed_pools serve_variable serve_variable_pools set_time get_time get_operating_time create_cyclic start_cyclic stop_cyclic delete_cyclic refer_cyclic create_alarm start_alarm stop_alarm delete_alarm refer_alarm time_call body_of next_due again define_handler disable_dispatch enable_dispatch disable_interrupts enable_interrupts refer_system define_service refer_service enter_service context_call left list_existing list_ready list_queue set_hook hook_call open_device refer_device request request_whole wait_ending close_device suspend_devices device_call expected arrive hand_over hand_first messages emptied read_bytes write_bytes accept picked serve_acceptance serve_acceptances serve_ending serve_endings is_with_driver serve_close serve_closes serve_suspension events_sent free_descriptor free_request first_queued at_driver accepted dropped handed asked devices_start block is_last blocks unit cut may_cut arrived entered returned body_returned family_call answered called follow_release follow_each with_releases dispatched followed insert_once with_requests handler_begun due_begun interrupt_begun served_within settle freed_within fallen due_done tick state_after worked counted step sync_runs sync_run entered_2 runs start trace acted ran turn_of done_turn first_serving_2 serve_object state_start digits
freed_before_all_settles_run = refl

-- An owner's priority follows its waiter's; release, time-out and termination of the waiter lower it to the ceiling
-- that it holds, behind its equals, while a lock that doesn't wait leaves its place.
lowered_owner_script : Script
lowered_owner_script = record {
  devices = [];
  pace = None;
  irqs = [];
  boot = record { body = 1; priority = 50 };
  bodies =
      record {
        name = codes "main";
        kind = kinds.Task;
        labels = [];
        stmts =
            stmts.Call names.TkCreMtx (args.List 16384 ∷ args.Number (pos 0) ∷ []) ∷
            stmts.Call names.TkCreMtx (args.List 32768 ∷ args.Number (pos 40) ∷ []) ∷
            stmts.Call names.TkCreTsk (args.List 0 ∷ args.Body 2 ∷ args.Number (pos 10) ∷ args.Number (pos 512) ∷ []) ∷
            stmts.Call names.TkCreTsk (args.List 0 ∷ args.Body 3 ∷ args.Number (pos 40) ∷ args.Number (pos 512) ∷ []) ∷
            stmts.Call names.TkLocMtx (args.Number (pos 1) ∷ args.Number (negsuc 0) ∷ []) ∷
            stmts.Call names.TkLocMtx (args.Number (pos 2) ∷ args.Number (negsuc 0) ∷ []) ∷
            stmts.Call names.TkStaTsk (args.Number (pos 3) ∷ args.Number (pos 0) ∷ []) ∷
            stmts.Call names.TkStaTsk (args.Number (pos 2) ∷ args.Number (pos 0) ∷ []) ∷
            stmts.Call names.TkWupTsk (args.Number (pos 2) ∷ []) ∷
            stmts.Call names.TkRefTsk (args.Number (pos 0) ∷ []) ∷
            stmts.Call names.TkChgPri (args.Number (pos 2) ∷ args.Number (pos 20) ∷ []) ∷
            stmts.Call names.TkRefTsk (args.Number (pos 0) ∷ []) ∷
            stmts.Call names.TkRelWai (args.Number (pos 2) ∷ []) ∷
            stmts.Call names.TkWupTsk (args.Number (pos 2) ∷ []) ∷
            stmts.Call names.TkSlpTsk (args.Number (negsuc 0) ∷ []) ∷
            stmts.Call names.TkWupTsk (args.Number (pos 3) ∷ []) ∷
            stmts.Call names.TkTerTsk (args.Number (pos 2) ∷ []) ∷
            stmts.Call names.TkUnlMtx (args.Number (pos 2) ∷ []) ∷
            stmts.Call names.TkRefTsk (args.Number (pos 0) ∷ []) ∷
            [];
      } ∷
      record {
        name = codes "w";
        kind = kinds.Task;
        labels = [];
        stmts =
            stmts.Call names.TkLocMtx (args.Number (pos 1) ∷ args.Number (pos 0) ∷ []) ∷
            stmts.Call names.TkSlpTsk (args.Number (negsuc 0) ∷ []) ∷
            stmts.Call names.TkLocMtx (args.Number (pos 1) ∷ args.Number (negsuc 0) ∷ []) ∷
            stmts.Call names.TkRefTsk (args.Number (pos 1) ∷ []) ∷
            stmts.Call names.TkSlpTsk (args.Number (negsuc 0) ∷ []) ∷
            stmts.Call names.TkLocMtx (args.Number (pos 1) ∷ args.Number (pos 1) ∷ []) ∷
            stmts.Call names.TkRefTsk (args.Number (pos 1) ∷ []) ∷
            stmts.Call names.TkWupTsk (args.Number (pos 1) ∷ []) ∷
            stmts.Call names.TkLocMtx (args.Number (pos 1) ∷ args.Number (negsuc 0) ∷ []) ∷
            [];
      } ∷
      record {
        name = codes "peer";
        kind = kinds.Task;
        labels = [];
        stmts =
            stmts.Say (codes "peer") ∷
            stmts.Call names.TkSlpTsk (args.Number (negsuc 0) ∷ []) ∷
            [];
      } ∷
      [];
}

lowered_owner_entries : List Entry
lowered_owner_entries = []

lowered_owner_lines : List ℕ
lowered_owner_lines =
    codes "0 D 1\n" ++
    codes "1 C 1 tk_cre_mtx 1\n" ++
    codes "2 C 1 tk_cre_mtx 2\n" ++
    codes "3 C 1 tk_cre_tsk 2\n" ++
    codes "4 C 1 tk_cre_tsk 3\n" ++
    codes "5 C 1 tk_loc_mtx 0\n" ++
    codes "6 C 1 tk_loc_mtx 0\n" ++
    codes "7 C 1 tk_sta_tsk 0\n" ++
    codes "8 C 1 tk_sta_tsk 0\n" ++
    codes "8 D 2\n" ++
    codes "9 C 2 tk_loc_mtx E_TMOUT\n" ++
    codes "10 B 2 tk_slp_tsk\n" ++
    codes "10 D 1\n" ++
    codes "11 C 1 tk_wup_tsk 0\n" ++
    codes "11 W 2 tk_slp_tsk 0\n" ++
    codes "11 D 2\n" ++
    codes "12 B 2 tk_loc_mtx\n" ++
    codes "12 D 1\n" ++
    codes "13 C 1 tk_ref_tsk 0 1 10 50 0 0\n" ++
    codes "14 C 1 tk_chg_pri 0\n" ++
    codes "15 C 1 tk_ref_tsk 0 1 20 50 0 0\n" ++
    codes "16 C 1 tk_rel_wai 0\n" ++
    codes "16 W 2 tk_loc_mtx E_RLWAI\n" ++
    codes "16 D 2\n" ++
    codes "17 C 2 tk_ref_tsk 0 2 40 50 0 0\n" ++
    codes "18 B 2 tk_slp_tsk\n" ++
    codes "18 D 3\n" ++
    codes "19 S 3 peer\n" ++
    codes "20 B 3 tk_slp_tsk\n" ++
    codes "20 D 1\n" ++
    codes "21 C 1 tk_wup_tsk 0\n" ++
    codes "21 W 2 tk_slp_tsk 0\n" ++
    codes "21 D 2\n" ++
    codes "22 B 2 tk_loc_mtx\n" ++
    codes "22 D 1\n" ++
    codes "23 B 1 tk_slp_tsk\n" ++
    codes "23 D 0\n" ++
    codes "24 K 1\n" ++
    codes "25 K 2\n" ++
    codes "25 W 2 tk_loc_mtx E_TMOUT\n" ++
    codes "25 D 2\n" ++
    codes "26 C 2 tk_ref_tsk 0 3 40 50 0 0\n" ++
    codes "27 C 2 tk_wup_tsk 0\n" ++
    codes "27 W 1 tk_slp_tsk 0\n" ++
    codes "28 B 2 tk_loc_mtx\n" ++
    codes "28 D 1\n" ++
    codes "29 C 1 tk_wup_tsk 0\n" ++
    codes "29 W 3 tk_slp_tsk 0\n" ++
    codes "30 C 1 tk_ter_tsk 0\n" ++
    codes "30 D 3\n" ++
    codes "31 C 3 tk_ext_tsk 0\n" ++
    codes "31 D 1\n" ++
    codes "32 C 1 tk_unl_mtx 0\n" ++
    codes "33 C 1 tk_ref_tsk 0 1 50 50 0 0\n" ++
    codes "34 C 1 tk_ext_tsk 0\n" ++
    codes "34 D 0\n" ++
    codes "34 END idle\n" ++
    []

lowered_owner_run : text_of_lines (lines_of (trace lowered_owner_script modes.Free 100000 lowered_owner_entries)) ≡ lowered_owner_lines
unfolding lowered_owner_script lowered_owner_entries lowered_owner_lines text_of form_of named made task_call_name sem_flag_call_name mutex_call_name mail_call_name pool_call_name time_call_name context_call_name device_call_name hook_call_name name_of code_of error_text coded error_named attributes_of flag_mode_of open_mode_of suspend_mode_of is_name_byte name_at_most why_text value_text words_of text_of_line text_of_lines fetch give call_before create_sem create_flag end_first delete_sem delete_flag refer_sem refer_flag signal_sem set_flag clear_flag wait_sem wait_flag sem_flag_call serve_sem serve_flag first_served serve_sem_flag sem_trial flag_trial chosen free_task create_task delete_task start_task exit_task terminate_task change_priority rotate_ready get_task refer_task sleep delay wake_up cancel_wakeups release_wait suspend_task resume_task task_call mark_of allowed free_from first_serving serve_box serve_mailboxes serve_buffer serve_buffers post create_box delete_box send_box receive_box refer_box create_buffer delete_buffer send_buffer receive_buffer refer_buffer mail_call create_mutex lock_mutex unlock_mutex refer_mutex delete_mutex mutex_call change_priority_beside task_call_beside chain_has current_of resettle free_last ceiling_allows serve_mutex serve_mutexes create_fixed delete_fixed get_fixed release_fixed refer_fixed create_variable delete_variable get_variable release_variable refer_variable pool_call first_free serve_fixed serve_fixed_pools serve_variable serve_variable_pools set_time get_time get_operating_time create_cyclic start_cyclic stop_cyclic delete_cyclic refer_cyclic create_alarm start_alarm stop_alarm delete_alarm refer_alarm time_call body_of next_due again define_handler disable_dispatch enable_dispatch disable_interrupts enable_interrupts refer_system define_service refer_service enter_service context_call left list_existing list_ready list_queue set_hook hook_call open_device refer_device request request_whole wait_ending close_device suspend_devices device_call expected arrive hand_over hand_first messages emptied read_bytes write_bytes accept picked serve_acceptance serve_acceptances serve_ending serve_endings is_with_driver serve_close serve_closes serve_suspension events_sent free_descriptor free_request first_queued at_driver accepted dropped handed asked devices_start block is_last blocks unit cut may_cut arrived entered returned body_returned family_call answered called follow_release follow_each with_releases dispatched followed insert_once with_requests handler_begun due_begun interrupt_begun served_within settle freed_within fallen due_done tick state_after worked counted step sync_runs sync_run entered_2 runs start trace acted ran turn_of done_turn first_serving_2 serve_object state_start digits
lowered_owner_run = refl

-- A task is terminated that is the first waiter of a semaphore and owns a mutex: then a waiter of each can be served, and
-- the semaphore's comes first, though the other one has the higher priority.
semaphore_before_mutex_script : Script
semaphore_before_mutex_script = record {
  devices = [];
  pace = None;
  irqs = [];
  boot = record { body = 1; priority = 50 };
  bodies =
      record {
        name = codes "main";
        kind = kinds.Task;
        labels = [];
        stmts =
            stmts.Call names.TkCreSem (args.List 0 ∷ args.Number (pos 2) ∷ args.Number (pos 9) ∷ []) ∷
            stmts.Call names.TkCreMtx (args.List 0 ∷ args.Number (pos 0) ∷ []) ∷
            stmts.Call names.TkCreTsk (args.List 0 ∷ args.Body 2 ∷ args.Number (pos 40) ∷ args.Number (pos 512) ∷ []) ∷
            stmts.Call names.TkCreTsk (args.List 0 ∷ args.Body 3 ∷ args.Number (pos 30) ∷ args.Number (pos 512) ∷ []) ∷
            stmts.Call names.TkCreTsk (args.List 0 ∷ args.Body 4 ∷ args.Number (pos 20) ∷ args.Number (pos 512) ∷ []) ∷
            stmts.Call names.TkStaTsk (args.Number (pos 2) ∷ args.Number (pos 0) ∷ []) ∷
            stmts.Call names.TkStaTsk (args.Number (pos 3) ∷ args.Number (pos 0) ∷ []) ∷
            stmts.Call names.TkStaTsk (args.Number (pos 4) ∷ args.Number (pos 0) ∷ []) ∷
            stmts.Call names.TkTerTsk (args.Number (pos 2) ∷ []) ∷
            [];
      } ∷
      record {
        name = codes "owner";
        kind = kinds.Task;
        labels = [];
        stmts =
            stmts.Call names.TkLocMtx (args.Number (pos 1) ∷ args.Number (negsuc 0) ∷ []) ∷
            stmts.Call names.TkWaiSem (args.Number (pos 1) ∷ args.Number (pos 3) ∷ args.Number (negsuc 0) ∷ []) ∷
            [];
      } ∷
      record {
        name = codes "taker";
        kind = kinds.Task;
        labels = [];
        stmts =
            stmts.Call names.TkWaiSem (args.Number (pos 1) ∷ args.Number (pos 1) ∷ args.Number (negsuc 0) ∷ []) ∷
            [];
      } ∷
      record {
        name = codes "locker";
        kind = kinds.Task;
        labels = [];
        stmts =
            stmts.Call names.TkLocMtx (args.Number (pos 1) ∷ args.Number (negsuc 0) ∷ []) ∷
            [];
      } ∷
      [];
}

semaphore_before_mutex_entries : List Entry
semaphore_before_mutex_entries = []

semaphore_before_mutex_lines : List ℕ
semaphore_before_mutex_lines =
    codes "0 D 1\n" ++
    codes "1 C 1 tk_cre_sem 1\n" ++
    codes "2 C 1 tk_cre_mtx 1\n" ++
    codes "3 C 1 tk_cre_tsk 2\n" ++
    codes "4 C 1 tk_cre_tsk 3\n" ++
    codes "5 C 1 tk_cre_tsk 4\n" ++
    codes "6 C 1 tk_sta_tsk 0\n" ++
    codes "6 D 2\n" ++
    codes "7 C 2 tk_loc_mtx 0\n" ++
    codes "8 B 2 tk_wai_sem\n" ++
    codes "8 D 1\n" ++
    codes "9 C 1 tk_sta_tsk 0\n" ++
    codes "9 D 3\n" ++
    codes "10 B 3 tk_wai_sem\n" ++
    codes "10 D 1\n" ++
    codes "11 C 1 tk_sta_tsk 0\n" ++
    codes "11 D 4\n" ++
    codes "12 B 4 tk_loc_mtx\n" ++
    codes "12 D 1\n" ++
    codes "13 C 1 tk_ter_tsk 0\n" ++
    codes "13 W 3 tk_wai_sem 0\n" ++
    codes "13 W 4 tk_loc_mtx 0\n" ++
    codes "13 D 4\n" ++
    codes "14 C 4 tk_ext_tsk 0\n" ++
    codes "14 D 3\n" ++
    codes "15 C 3 tk_ext_tsk 0\n" ++
    codes "15 D 1\n" ++
    codes "16 C 1 tk_ext_tsk 0\n" ++
    codes "16 D 0\n" ++
    codes "16 END idle\n" ++
    []

semaphore_before_mutex_run : text_of_lines (lines_of (trace semaphore_before_mutex_script modes.Free 100000 semaphore_before_mutex_entries)) ≡ semaphore_before_mutex_lines
unfolding semaphore_before_mutex_script semaphore_before_mutex_entries semaphore_before_mutex_lines text_of form_of named made task_call_name sem_flag_call_name mutex_call_name mail_call_name pool_call_name time_call_name context_call_name device_call_name hook_call_name name_of code_of error_text coded error_named attributes_of flag_mode_of open_mode_of suspend_mode_of is_name_byte name_at_most why_text value_text words_of text_of_line text_of_lines fetch give call_before create_sem create_flag end_first delete_sem delete_flag refer_sem refer_flag signal_sem set_flag clear_flag wait_sem wait_flag sem_flag_call serve_sem serve_flag first_served serve_sem_flag sem_trial flag_trial chosen free_task create_task delete_task start_task exit_task terminate_task change_priority rotate_ready get_task refer_task sleep delay wake_up cancel_wakeups release_wait suspend_task resume_task task_call mark_of allowed free_from first_serving serve_box serve_mailboxes serve_buffer serve_buffers post create_box delete_box send_box receive_box refer_box create_buffer delete_buffer send_buffer receive_buffer refer_buffer mail_call create_mutex lock_mutex unlock_mutex refer_mutex delete_mutex mutex_call change_priority_beside task_call_beside chain_has current_of resettle free_last ceiling_allows serve_mutex serve_mutexes create_fixed delete_fixed get_fixed release_fixed refer_fixed create_variable delete_variable get_variable release_variable refer_variable pool_call first_free serve_fixed serve_fixed_pools serve_variable serve_variable_pools set_time get_time get_operating_time create_cyclic start_cyclic stop_cyclic delete_cyclic refer_cyclic create_alarm start_alarm stop_alarm delete_alarm refer_alarm time_call body_of next_due again define_handler disable_dispatch enable_dispatch disable_interrupts enable_interrupts refer_system define_service refer_service enter_service context_call left list_existing list_ready list_queue set_hook hook_call open_device refer_device request request_whole wait_ending close_device suspend_devices device_call expected arrive hand_over hand_first messages emptied read_bytes write_bytes accept picked serve_acceptance serve_acceptances serve_ending serve_endings is_with_driver serve_close serve_closes serve_suspension events_sent free_descriptor free_request first_queued at_driver accepted dropped handed asked devices_start block is_last blocks unit cut may_cut arrived entered returned body_returned family_call answered called follow_release follow_each with_releases dispatched followed insert_once with_requests handler_begun due_begun interrupt_begun served_within settle freed_within fallen due_done tick state_after worked counted step sync_runs sync_run entered_2 runs start trace acted ran turn_of done_turn first_serving_2 serve_object state_start digits
semaphore_before_mutex_run = refl

-- An owner has the highest priority of all that wait for its mutexes, a suspended one among them; an unlock leaves it
-- that of the others, and a suspended waiter owns what it is given, under the priority of its own waiter.
what_is_left_script : Script
what_is_left_script = record {
  devices = [];
  pace = None;
  irqs = [];
  boot = record { body = 1; priority = 50 };
  bodies =
      record {
        name = codes "main";
        kind = kinds.Task;
        labels = [];
        stmts =
            stmts.Call names.TkCreMtx (args.List 16384 ∷ args.Number (pos 0) ∷ []) ∷
            stmts.Call names.TkCreMtx (args.List 16384 ∷ args.Number (pos 0) ∷ []) ∷
            stmts.Call names.TkCreTsk (args.List 0 ∷ args.Body 2 ∷ args.Number (pos 30) ∷ args.Number (pos 512) ∷ []) ∷
            stmts.Call names.TkCreTsk (args.List 0 ∷ args.Body 3 ∷ args.Number (pos 25) ∷ args.Number (pos 512) ∷ []) ∷
            stmts.Call names.TkCreTsk (args.List 0 ∷ args.Body 3 ∷ args.Number (pos 20) ∷ args.Number (pos 512) ∷ []) ∷
            stmts.Call names.TkLocMtx (args.Number (pos 1) ∷ args.Number (negsuc 0) ∷ []) ∷
            stmts.Call names.TkLocMtx (args.Number (pos 2) ∷ args.Number (negsuc 0) ∷ []) ∷
            stmts.Call names.TkStaTsk (args.Number (pos 2) ∷ args.Number (pos 0) ∷ []) ∷
            stmts.Call names.TkStaTsk (args.Number (pos 3) ∷ args.Number (pos 0) ∷ []) ∷
            stmts.Call names.TkStaTsk (args.Number (pos 4) ∷ args.Number (pos 0) ∷ []) ∷
            stmts.Call names.TkRefTsk (args.Number (pos 0) ∷ []) ∷
            stmts.Call names.TkSusTsk (args.Number (pos 4) ∷ []) ∷
            stmts.Call names.TkRefTsk (args.Number (pos 0) ∷ []) ∷
            stmts.Call names.TkUnlMtx (args.Number (pos 2) ∷ []) ∷
            stmts.Call names.TkRefTsk (args.Number (pos 4) ∷ []) ∷
            stmts.Call names.TkRefMtx (args.Number (pos 2) ∷ []) ∷
            stmts.Call names.TkRefTsk (args.Number (pos 0) ∷ []) ∷
            stmts.Call names.TkChgPri (args.Number (pos 4) ∷ args.Number (pos 60) ∷ []) ∷
            stmts.Call names.TkRefTsk (args.Number (pos 4) ∷ []) ∷
            stmts.Call names.TkRsmTsk (args.Number (pos 4) ∷ []) ∷
            stmts.Call names.TkUnlMtx (args.Number (pos 1) ∷ []) ∷
            [];
      } ∷
      record {
        name = codes "p";
        kind = kinds.Task;
        labels = [];
        stmts =
            stmts.Call names.TkLocMtx (args.Number (pos 1) ∷ args.Number (negsuc 0) ∷ []) ∷
            stmts.Call names.TkRefTsk (args.Number (pos 1) ∷ []) ∷
            [];
      } ∷
      record {
        name = codes "q";
        kind = kinds.Task;
        labels = [];
        stmts =
            stmts.Call names.TkLocMtx (args.Number (pos 2) ∷ args.Number (negsuc 0) ∷ []) ∷
            stmts.Call names.TkRefTsk (args.Number (pos 1) ∷ []) ∷
            [];
      } ∷
      [];
}

what_is_left_entries : List Entry
what_is_left_entries = []

what_is_left_lines : List ℕ
what_is_left_lines =
    codes "0 D 1\n" ++
    codes "1 C 1 tk_cre_mtx 1\n" ++
    codes "2 C 1 tk_cre_mtx 2\n" ++
    codes "3 C 1 tk_cre_tsk 2\n" ++
    codes "4 C 1 tk_cre_tsk 3\n" ++
    codes "5 C 1 tk_cre_tsk 4\n" ++
    codes "6 C 1 tk_loc_mtx 0\n" ++
    codes "7 C 1 tk_loc_mtx 0\n" ++
    codes "8 C 1 tk_sta_tsk 0\n" ++
    codes "8 D 2\n" ++
    codes "9 B 2 tk_loc_mtx\n" ++
    codes "9 D 1\n" ++
    codes "10 C 1 tk_sta_tsk 0\n" ++
    codes "10 D 3\n" ++
    codes "11 B 3 tk_loc_mtx\n" ++
    codes "11 D 1\n" ++
    codes "12 C 1 tk_sta_tsk 0\n" ++
    codes "12 D 4\n" ++
    codes "13 B 4 tk_loc_mtx\n" ++
    codes "13 D 1\n" ++
    codes "14 C 1 tk_ref_tsk 0 1 20 50 0 0\n" ++
    codes "15 C 1 tk_sus_tsk 0\n" ++
    codes "16 C 1 tk_ref_tsk 0 1 20 50 0 0\n" ++
    codes "17 C 1 tk_unl_mtx 0\n" ++
    codes "17 W 4 tk_loc_mtx 0\n" ++
    codes "18 C 1 tk_ref_tsk 0 4 20 20 0 1\n" ++
    codes "19 C 1 tk_ref_mtx 0 4 3\n" ++
    codes "20 C 1 tk_ref_tsk 0 1 30 50 0 0\n" ++
    codes "21 C 1 tk_chg_pri 0\n" ++
    codes "22 C 1 tk_ref_tsk 0 4 25 60 0 1\n" ++
    codes "23 C 1 tk_rsm_tsk 0\n" ++
    codes "23 D 4\n" ++
    codes "24 C 4 tk_ref_tsk 0 2 30 50 0 0\n" ++
    codes "25 C 4 tk_ext_tsk 0\n" ++
    codes "25 W 3 tk_loc_mtx 0\n" ++
    codes "25 D 3\n" ++
    codes "26 C 3 tk_ref_tsk 0 2 30 50 0 0\n" ++
    codes "27 C 3 tk_ext_tsk 0\n" ++
    codes "27 D 1\n" ++
    codes "28 C 1 tk_unl_mtx 0\n" ++
    codes "28 W 2 tk_loc_mtx 0\n" ++
    codes "28 D 2\n" ++
    codes "29 C 2 tk_ref_tsk 0 2 50 50 0 0\n" ++
    codes "30 C 2 tk_ext_tsk 0\n" ++
    codes "30 D 1\n" ++
    codes "31 C 1 tk_ext_tsk 0\n" ++
    codes "31 D 0\n" ++
    codes "31 END idle\n" ++
    []

what_is_left_run : text_of_lines (lines_of (trace what_is_left_script modes.Free 100000 what_is_left_entries)) ≡ what_is_left_lines
unfolding what_is_left_script what_is_left_entries what_is_left_lines text_of form_of named made task_call_name sem_flag_call_name mutex_call_name mail_call_name pool_call_name time_call_name context_call_name device_call_name hook_call_name name_of code_of error_text coded error_named attributes_of flag_mode_of open_mode_of suspend_mode_of is_name_byte name_at_most why_text value_text words_of text_of_line text_of_lines fetch give call_before create_sem create_flag end_first delete_sem delete_flag refer_sem refer_flag signal_sem set_flag clear_flag wait_sem wait_flag sem_flag_call serve_sem serve_flag first_served serve_sem_flag sem_trial flag_trial chosen free_task create_task delete_task start_task exit_task terminate_task change_priority rotate_ready get_task refer_task sleep delay wake_up cancel_wakeups release_wait suspend_task resume_task task_call mark_of allowed free_from first_serving serve_box serve_mailboxes serve_buffer serve_buffers post create_box delete_box send_box receive_box refer_box create_buffer delete_buffer send_buffer receive_buffer refer_buffer mail_call create_mutex lock_mutex unlock_mutex refer_mutex delete_mutex mutex_call change_priority_beside task_call_beside chain_has current_of resettle free_last ceiling_allows serve_mutex serve_mutexes create_fixed delete_fixed get_fixed release_fixed refer_fixed create_variable delete_variable get_variable release_variable refer_variable pool_call first_free serve_fixed serve_fixed_pools serve_variable serve_variable_pools set_time get_time get_operating_time create_cyclic start_cyclic stop_cyclic delete_cyclic refer_cyclic create_alarm start_alarm stop_alarm delete_alarm refer_alarm time_call body_of next_due again define_handler disable_dispatch enable_dispatch disable_interrupts enable_interrupts refer_system define_service refer_service enter_service context_call left list_existing list_ready list_queue set_hook hook_call open_device refer_device request request_whole wait_ending close_device suspend_devices device_call expected arrive hand_over hand_first messages emptied read_bytes write_bytes accept picked serve_acceptance serve_acceptances serve_ending serve_endings is_with_driver serve_close serve_closes serve_suspension events_sent free_descriptor free_request first_queued at_driver accepted dropped handed asked devices_start block is_last blocks unit cut may_cut arrived entered returned body_returned family_call answered called follow_release follow_each with_releases dispatched followed insert_once with_requests handler_begun due_begun interrupt_begun served_within settle freed_within fallen due_done tick state_after worked counted step sync_runs sync_run entered_2 runs start trace acted ran turn_of done_turn first_serving_2 serve_object state_start digits
what_is_left_run = refl
