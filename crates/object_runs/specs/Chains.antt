-- Runs that were worked out by hand from the rules, as runs/object/chains has them: each a theorem by computation.
use Rattle.std.specs.Prelude.{ℕ, pos, negsuc, List, [], ◌∷◌, ◌++◌, Some, None, codes, ◌≡◌, refl}
use Rattle.std.specs.Fmt.{digits}
use Rattle.tk_types.specs.declared.script.Script.{Script}
use Rattle.tk_types.specs.declared.script.BodyKind.TheVariants as kinds
use Rattle.tk_types.specs.declared.script.Kind.TheVariants as devices
use Rattle.tk_types.specs.declared.script.Stmt.TheVariants as stmts
use Rattle.tk_types.specs.declared.script.Operand.TheVariants as operands
use Rattle.tk_types.specs.declared.script.Operation.TheVariants as operations
use Rattle.tk_types.specs.declared.script.Condition.TheVariants as conditions
use Rattle.tk_types.specs.declared.script.Arg.TheVariants as args
use Rattle.tk_types.specs.declared.call_name.CallName.TheVariants as names
use Rattle.tk_types.specs.declared.line.Entry.{Entry}
use Rattle.tk_types.specs.declared.line.How.TheVariants as hows
use Rattle.tk_types.specs.declared.run.Mode.TheVariants as modes
use Rattle.tk_types.specs.CallNames.{text_of, form_of, named}
use Rattle.tk_types.specs.Calls.{made, task_call_name, sem_flag_call_name, mutex_call_name, mail_call_name, pool_call_name, time_call_name, context_call_name, device_call_name, hook_call_name, name_of}
use Rattle.tk_types.specs.Codes.{code_of, error_text, coded, error_named}
use Rattle.tk_types.specs.Modes.{attributes_of, flag_mode_of, open_mode_of, suspend_mode_of}
use Rattle.tk_types.specs.Names.{is_name_byte, name_at_most}
use Rattle.tk_types.specs.Reasons.{why_text}
use Rattle.tk_model.specs.LineText.{value_text, words_of, text_of_line, text_of_lines}
use Rattle.kernel_model.specs.Bodies.Statements.{fetch, give, call_before}
use Rattle.kernel_model.specs.SemFlags.Calls.{create_sem, create_flag, end_first, delete_sem, delete_flag, refer_sem, refer_flag, signal_sem, set_flag, clear_flag, wait_sem, wait_flag, sem_flag_call}
use Rattle.kernel_model.specs.SemFlags.Tables.{serve_sem, serve_flag, first_served, serve_sem_flag}
use Rattle.kernel_model.specs.SemFlags.Trial.{sem_trial, flag_trial}
use Rattle.kernel_model.specs.Tasks.Base.{chosen, free_task}
use Rattle.kernel_model.specs.Tasks.Calls.{create_task, delete_task, start_task, exit_task, terminate_task, change_priority, rotate_ready, get_task, refer_task, sleep, delay, wake_up, cancel_wakeups, release_wait, suspend_task, resume_task, task_call}
use Rattle.kernel_model.specs.Tasks.Marks.{mark_of, allowed}
use Rattle.kernel_model.specs.Words.Orders.{free_from}
use Rattle.object_model.specs.Servings.{first_serving}
use Rattle.object_model.specs.Mails.Boxes.{serve_box, serve_mailboxes}
use Rattle.object_model.specs.Mails.Buffers.{serve_buffer, serve_buffers, post}
use Rattle.object_model.specs.Mails.Calls.{create_box, delete_box, send_box, receive_box, refer_box, create_buffer, delete_buffer, send_buffer, receive_buffer, refer_buffer, mail_call}
use Rattle.object_model.specs.Mutexes.Calls.{create_mutex, lock_mutex, unlock_mutex, refer_mutex, delete_mutex, mutex_call, change_priority_beside, task_call_beside}
use Rattle.object_model.specs.Mutexes.Priority.{chain_has, current_of, resettle}
use Rattle.object_model.specs.Mutexes.Tables.{free_last, ceiling_allows, serve_mutex, serve_mutexes}
use Rattle.object_model.specs.Pools.Calls.{create_fixed, delete_fixed, get_fixed, release_fixed, refer_fixed, create_variable, delete_variable, get_variable, release_variable, refer_variable, pool_call}
use Rattle.object_model.specs.Pools.Fixed.{first_free, serve_fixed, serve_fixed_pools}
use Rattle.object_model.specs.Pools.Variable.{serve_variable, serve_variable_pools}
use Rattle.context_model.specs.Clocks.Calls.{set_time, get_time, get_operating_time, create_cyclic, start_cyclic, stop_cyclic, delete_cyclic, refer_cyclic, create_alarm, start_alarm, stop_alarm, delete_alarm, refer_alarm, time_call}
use Rattle.context_model.specs.Clocks.Tables.{body_of, next_due, again}
use Rattle.context_model.specs.Contexts.Calls.{define_handler, disable_dispatch, enable_dispatch, disable_interrupts, enable_interrupts, refer_system, define_service, refer_service, enter_service, context_call}
use Rattle.context_model.specs.Contexts.Tables.{left}
use Rattle.context_model.specs.Hooks.Calls.{list_existing, list_ready, list_queue, set_hook, hook_call}
use Rattle.device_model.specs.Devices.Calls.{open_device, refer_device, request, request_whole, wait_ending, close_device, suspend_devices, device_call}
use Rattle.device_model.specs.Devices.Endings.{expected, arrive}
use Rattle.device_model.specs.Devices.Handing.{hand_over, hand_first, messages, emptied}
use Rattle.device_model.specs.Devices.Memory.{read_bytes, write_bytes}
use Rattle.device_model.specs.Devices.Requests.{accept, picked}
use Rattle.device_model.specs.Devices.Servings.{serve_acceptance, serve_acceptances, serve_ending, serve_endings, is_with_driver, serve_close, serve_closes, serve_suspension}
use Rattle.device_model.specs.Devices.Suspension.{events_sent}
use Rattle.device_model.specs.Devices.Tables.{free_descriptor, free_request, first_queued, at_driver, accepted, dropped, handed, asked, devices_start}
use Rattle.device_model.specs.Units.Blocks.{block, is_last, blocks}
use Rattle.device_model.specs.Units.Function.{unit, cut, may_cut}
use Rattle.machine_model.specs.Events.Arrivals.{arrived}
use Rattle.machine_model.specs.Events.Bodies.{entered, returned, body_returned}
use Rattle.machine_model.specs.Events.Calls.{family_call, answered, called}
use Rattle.machine_model.specs.Events.Follow.{follow_release, follow_each, with_releases, dispatched, followed}
use Rattle.machine_model.specs.Events.Handlers.{insert_once, with_requests, handler_begun, due_begun, interrupt_begun}
use Rattle.machine_model.specs.Events.Settle.{served_within, settle, freed_within}
use Rattle.machine_model.specs.Events.Ticks.{fallen, due_done, tick}
use Rattle.machine_model.specs.Runs.Reached.{state_after}
use Rattle.machine_model.specs.Runs.Step.{worked, counted, step}
use Rattle.machine_model.specs.Runs.SyncTrace.{sync_runs, sync_run}
use Rattle.machine_model.specs.Runs.Trace.{lines_of, entered as entered_2, runs, start, trace}
use Rattle.machine_model.specs.Runs.Turns.{acted, ran, turn_of, done_turn}
use Rattle.machine_model.specs.States.Objects.{first_serving as first_serving_2, serve_object}
use Rattle.machine_model.specs.States.State.{state_start}

-- A chain of four mutexes hands the highest priority down to its last owner, also in the queue where that one waits,
-- and stops at a mutex without inheritance; a time-out in its middle lowers those behind it, each to what is left for
-- it.
chain_of_four_script : Script
chain_of_four_script = record {
  devices = [];
  pace = None;
  irqs = [];
  boot = record { body = 1; priority = 50 };
  bodies =
      record {
        name = codes "main";
        kind = kinds.Task;
        labels = [];
        stmts =
            stmts.Call names.TkCreMtx (args.List 16384 ∷ args.Number (pos 0) ∷ []) ∷
            stmts.Call names.TkCreMtx (args.List 16384 ∷ args.Number (pos 0) ∷ []) ∷
            stmts.Call names.TkCreMtx (args.List 16384 ∷ args.Number (pos 0) ∷ []) ∷
            stmts.Call names.TkCreMtx (args.List 16384 ∷ args.Number (pos 0) ∷ []) ∷
            stmts.Call names.TkCreMtx (args.List 128 ∷ args.Number (pos 0) ∷ []) ∷
            stmts.Call names.TkLocMtx (args.Number (pos 5) ∷ args.Number (negsuc 0) ∷ []) ∷
            stmts.Call names.TkCreTsk (args.List 0 ∷ args.Body 2 ∷ args.Number (pos 40) ∷ args.Number (pos 512) ∷ []) ∷
            stmts.Call names.TkCreTsk (args.List 0 ∷ args.Body 3 ∷ args.Number (pos 30) ∷ args.Number (pos 512) ∷ []) ∷
            stmts.Call names.TkCreTsk (args.List 0 ∷ args.Body 4 ∷ args.Number (pos 20) ∷ args.Number (pos 512) ∷ []) ∷
            stmts.Call names.TkCreTsk (args.List 0 ∷ args.Body 5 ∷ args.Number (pos 10) ∷ args.Number (pos 512) ∷ []) ∷
            stmts.Call names.TkCreTsk (args.List 0 ∷ args.Body 6 ∷ args.Number (pos 5) ∷ args.Number (pos 512) ∷ []) ∷
            stmts.Call names.TkCreTsk (args.List 0 ∷ args.Body 7 ∷ args.Number (pos 25) ∷ args.Number (pos 512) ∷ []) ∷
            stmts.Call names.TkStaTsk (args.Number (pos 2) ∷ args.Number (pos 0) ∷ []) ∷
            stmts.Call names.TkStaTsk (args.Number (pos 3) ∷ args.Number (pos 0) ∷ []) ∷
            stmts.Call names.TkStaTsk (args.Number (pos 4) ∷ args.Number (pos 0) ∷ []) ∷
            stmts.Call names.TkStaTsk (args.Number (pos 5) ∷ args.Number (pos 0) ∷ []) ∷
            stmts.Call names.TkStaTsk (args.Number (pos 6) ∷ args.Number (pos 0) ∷ []) ∷
            stmts.Call names.TkStaTsk (args.Number (pos 7) ∷ args.Number (pos 0) ∷ []) ∷
            stmts.Call names.TkRefTsk (args.Number (pos 0) ∷ []) ∷
            stmts.Call names.TkRefTsk (args.Number (pos 2) ∷ []) ∷
            stmts.Call names.TkRefTsk (args.Number (pos 4) ∷ []) ∷
            stmts.Call names.TkRefMtx (args.Number (pos 5) ∷ []) ∷
            stmts.Call names.TkDlyTsk (args.Number (pos 2) ∷ []) ∷
            stmts.Call names.TkUnlMtx (args.Number (pos 5) ∷ []) ∷
            [];
      } ∷
      record {
        name = codes "a";
        kind = kinds.Task;
        labels = [];
        stmts =
            stmts.Call names.TkLocMtx (args.Number (pos 1) ∷ args.Number (negsuc 0) ∷ []) ∷
            stmts.Call names.TkLocMtx (args.Number (pos 5) ∷ args.Number (negsuc 0) ∷ []) ∷
            [];
      } ∷
      record {
        name = codes "b";
        kind = kinds.Task;
        labels = [];
        stmts =
            stmts.Call names.TkLocMtx (args.Number (pos 2) ∷ args.Number (negsuc 0) ∷ []) ∷
            stmts.Call names.TkLocMtx (args.Number (pos 1) ∷ args.Number (negsuc 0) ∷ []) ∷
            [];
      } ∷
      record {
        name = codes "c";
        kind = kinds.Task;
        labels = [];
        stmts =
            stmts.Call names.TkLocMtx (args.Number (pos 3) ∷ args.Number (negsuc 0) ∷ []) ∷
            stmts.Call names.TkLocMtx (args.Number (pos 2) ∷ args.Number (pos 1) ∷ []) ∷
            stmts.Call names.TkRefTsk (args.Number (pos 0) ∷ []) ∷
            stmts.Call names.TkRefTsk (args.Number (pos 2) ∷ []) ∷
            stmts.Call names.TkRefTsk (args.Number (pos 3) ∷ []) ∷
            stmts.Call names.TkRefMtx (args.Number (pos 5) ∷ []) ∷
            stmts.Call names.TkUnlMtx (args.Number (pos 3) ∷ []) ∷
            [];
      } ∷
      record {
        name = codes "d";
        kind = kinds.Task;
        labels = [];
        stmts =
            stmts.Call names.TkLocMtx (args.Number (pos 4) ∷ args.Number (negsuc 0) ∷ []) ∷
            stmts.Call names.TkLocMtx (args.Number (pos 3) ∷ args.Number (negsuc 0) ∷ []) ∷
            stmts.Call names.TkUnlMtx (args.Number (pos 4) ∷ []) ∷
            stmts.Call names.TkRefTsk (args.Number (pos 0) ∷ []) ∷
            [];
      } ∷
      record {
        name = codes "e";
        kind = kinds.Task;
        labels = [];
        stmts =
            stmts.Call names.TkLocMtx (args.Number (pos 4) ∷ args.Number (negsuc 0) ∷ []) ∷
            [];
      } ∷
      record {
        name = codes "z";
        kind = kinds.Task;
        labels = [];
        stmts =
            stmts.Call names.TkLocMtx (args.Number (pos 5) ∷ args.Number (negsuc 0) ∷ []) ∷
            [];
      } ∷
      [];
}

chain_of_four_entries : List Entry
chain_of_four_entries = []

chain_of_four_lines : List ℕ
chain_of_four_lines =
    codes "0 D 1\n" ++
    codes "1 C 1 tk_cre_mtx 1\n" ++
    codes "2 C 1 tk_cre_mtx 2\n" ++
    codes "3 C 1 tk_cre_mtx 3\n" ++
    codes "4 C 1 tk_cre_mtx 4\n" ++
    codes "5 C 1 tk_cre_mtx 5\n" ++
    codes "6 C 1 tk_loc_mtx 0\n" ++
    codes "7 C 1 tk_cre_tsk 2\n" ++
    codes "8 C 1 tk_cre_tsk 3\n" ++
    codes "9 C 1 tk_cre_tsk 4\n" ++
    codes "10 C 1 tk_cre_tsk 5\n" ++
    codes "11 C 1 tk_cre_tsk 6\n" ++
    codes "12 C 1 tk_cre_tsk 7\n" ++
    codes "13 C 1 tk_sta_tsk 0\n" ++
    codes "13 D 2\n" ++
    codes "14 C 2 tk_loc_mtx 0\n" ++
    codes "15 B 2 tk_loc_mtx\n" ++
    codes "15 D 1\n" ++
    codes "16 C 1 tk_sta_tsk 0\n" ++
    codes "16 D 3\n" ++
    codes "17 C 3 tk_loc_mtx 0\n" ++
    codes "18 B 3 tk_loc_mtx\n" ++
    codes "18 D 1\n" ++
    codes "19 C 1 tk_sta_tsk 0\n" ++
    codes "19 D 4\n" ++
    codes "20 C 4 tk_loc_mtx 0\n" ++
    codes "21 B 4 tk_loc_mtx\n" ++
    codes "21 D 1\n" ++
    codes "22 C 1 tk_sta_tsk 0\n" ++
    codes "22 D 5\n" ++
    codes "23 C 5 tk_loc_mtx 0\n" ++
    codes "24 B 5 tk_loc_mtx\n" ++
    codes "24 D 1\n" ++
    codes "25 C 1 tk_sta_tsk 0\n" ++
    codes "25 D 6\n" ++
    codes "26 B 6 tk_loc_mtx\n" ++
    codes "26 D 1\n" ++
    codes "27 C 1 tk_sta_tsk 0\n" ++
    codes "27 D 7\n" ++
    codes "28 B 7 tk_loc_mtx\n" ++
    codes "28 D 1\n" ++
    codes "29 C 1 tk_ref_tsk 0 1 50 50 0 0\n" ++
    codes "30 C 1 tk_ref_tsk 0 3 5 40 0 0\n" ++
    codes "31 C 1 tk_ref_tsk 0 3 5 20 0 0\n" ++
    codes "32 C 1 tk_ref_mtx 0 1 2\n" ++
    codes "33 B 1 tk_dly_tsk\n" ++
    codes "33 D 0\n" ++
    codes "34 K 1\n" ++
    codes "35 K 2\n" ++
    codes "35 W 4 tk_loc_mtx E_TMOUT\n" ++
    codes "35 D 4\n" ++
    codes "36 C 4 tk_ref_tsk 0 1 5 20 0 0\n" ++
    codes "37 C 4 tk_ref_tsk 0 3 30 40 0 0\n" ++
    codes "38 C 4 tk_ref_tsk 0 3 30 30 0 0\n" ++
    codes "39 C 4 tk_ref_mtx 0 1 7\n" ++
    codes "40 C 4 tk_unl_mtx 0\n" ++
    codes "40 W 5 tk_loc_mtx 0\n" ++
    codes "40 D 5\n" ++
    codes "41 C 5 tk_unl_mtx 0\n" ++
    codes "41 W 6 tk_loc_mtx 0\n" ++
    codes "41 D 6\n" ++
    codes "42 C 6 tk_ext_tsk 0\n" ++
    codes "42 D 5\n" ++
    codes "43 C 5 tk_ref_tsk 0 1 10 10 0 0\n" ++
    codes "44 C 5 tk_ext_tsk 0\n" ++
    codes "44 D 4\n" ++
    codes "45 C 4 tk_ext_tsk 0\n" ++
    codes "45 D 0\n" ++
    codes "46 K 3\n" ++
    codes "46 W 1 tk_dly_tsk 0\n" ++
    codes "46 D 1\n" ++
    codes "47 C 1 tk_unl_mtx 0\n" ++
    codes "47 W 7 tk_loc_mtx 0\n" ++
    codes "47 D 7\n" ++
    codes "48 C 7 tk_ext_tsk 0\n" ++
    codes "48 W 2 tk_loc_mtx 0\n" ++
    codes "48 D 2\n" ++
    codes "49 C 2 tk_ext_tsk 0\n" ++
    codes "49 W 3 tk_loc_mtx 0\n" ++
    codes "49 D 3\n" ++
    codes "50 C 3 tk_ext_tsk 0\n" ++
    codes "50 D 1\n" ++
    codes "51 C 1 tk_ext_tsk 0\n" ++
    codes "51 D 0\n" ++
    codes "51 END idle\n" ++
    []

chain_of_four_run : text_of_lines (lines_of (trace chain_of_four_script modes.Free 100000 chain_of_four_entries)) ≡ chain_of_four_lines
unfolding chain_of_four_script chain_of_four_entries chain_of_four_lines text_of form_of named made task_call_name sem_flag_call_name mutex_call_name mail_call_name pool_call_name time_call_name context_call_name device_call_name hook_call_name name_of code_of error_text coded error_named attributes_of flag_mode_of open_mode_of suspend_mode_of is_name_byte name_at_most why_text value_text words_of text_of_line text_of_lines fetch give call_before create_sem create_flag end_first delete_sem delete_flag refer_sem refer_flag signal_sem set_flag clear_flag wait_sem wait_flag sem_flag_call serve_sem serve_flag first_served serve_sem_flag sem_trial flag_trial chosen free_task create_task delete_task start_task exit_task terminate_task change_priority rotate_ready get_task refer_task sleep delay wake_up cancel_wakeups release_wait suspend_task resume_task task_call mark_of allowed free_from first_serving serve_box serve_mailboxes serve_buffer serve_buffers post create_box delete_box send_box receive_box refer_box create_buffer delete_buffer send_buffer receive_buffer refer_buffer mail_call create_mutex lock_mutex unlock_mutex refer_mutex delete_mutex mutex_call change_priority_beside task_call_beside chain_has current_of resettle free_last ceiling_allows serve_mutex serve_mutexes create_fixed delete_fixed get_fixed release_fixed refer_fixed create_variable delete_variable get_variable release_variable refer_variable pool_call first_free serve_fixed serve_fixed_pools serve_variable serve_variable_pools set_time get_time get_operating_time create_cyclic start_cyclic stop_cyclic delete_cyclic refer_cyclic create_alarm start_alarm stop_alarm delete_alarm refer_alarm time_call body_of next_due again define_handler disable_dispatch enable_dispatch disable_interrupts enable_interrupts refer_system define_service refer_service enter_service context_call left list_existing list_ready list_queue set_hook hook_call open_device refer_device request request_whole wait_ending close_device suspend_devices device_call expected arrive hand_over hand_first messages emptied read_bytes write_bytes accept picked serve_acceptance serve_acceptances serve_ending serve_endings is_with_driver serve_close serve_closes serve_suspension events_sent free_descriptor free_request first_queued at_driver accepted dropped handed asked devices_start block is_last blocks unit cut may_cut arrived entered returned body_returned family_call answered called follow_release follow_each with_releases dispatched followed insert_once with_requests handler_begun due_begun interrupt_begun served_within settle freed_within fallen due_done tick state_after worked counted step sync_runs sync_run entered_2 runs start trace acted ran turn_of done_turn first_serving_2 serve_object state_start digits
chain_of_four_run = refl

-- A task that waits for a mutex raises its owner, which waits itself and is served since it stands first now; a lock
-- that doesn't wait leaves all of that as it was.
raised_and_served_script : Script
raised_and_served_script = record {
  devices = [];
  pace = None;
  irqs = [];
  boot = record { body = 1; priority = 50 };
  bodies =
      record {
        name = codes "main";
        kind = kinds.Task;
        labels = [];
        stmts =
            stmts.Call names.TkCreMtx (args.List 16384 ∷ args.Number (pos 0) ∷ []) ∷
            stmts.Call names.TkCreMpl (args.List 128 ∷ args.Number (pos 16) ∷ []) ∷
            stmts.Call names.TkCreTsk (args.List 0 ∷ args.Body 2 ∷ args.Number (pos 30) ∷ args.Number (pos 512) ∷ []) ∷
            stmts.Call names.TkCreTsk (args.List 0 ∷ args.Body 3 ∷ args.Number (pos 20) ∷ args.Number (pos 512) ∷ []) ∷
            stmts.Call names.TkCreTsk (args.List 0 ∷ args.Body 4 ∷ args.Number (pos 10) ∷ args.Number (pos 512) ∷ []) ∷
            stmts.Call names.TkGetMpl (args.Number (pos 1) ∷ args.Number (pos 8) ∷ args.Number (negsuc 0) ∷ []) ∷
            stmts.Call names.TkStaTsk (args.Number (pos 3) ∷ args.Number (pos 0) ∷ []) ∷
            stmts.Call names.TkStaTsk (args.Number (pos 2) ∷ args.Number (pos 0) ∷ []) ∷
            stmts.Call names.TkRefMpl (args.Number (pos 1) ∷ []) ∷
            stmts.Call names.TkStaTsk (args.Number (pos 4) ∷ args.Number (pos 0) ∷ []) ∷
            stmts.Call names.TkRelMpl (args.Number (pos 1) ∷ args.Number (pos 0) ∷ []) ∷
            stmts.Call names.TkRelMpl (args.Number (pos 1) ∷ args.Number (pos 8) ∷ []) ∷
            [];
      } ∷
      record {
        name = codes "o";
        kind = kinds.Task;
        labels = [];
        stmts =
            stmts.Call names.TkLocMtx (args.Number (pos 1) ∷ args.Number (negsuc 0) ∷ []) ∷
            stmts.Call names.TkGetMpl (args.Number (pos 1) ∷ args.Number (pos 8) ∷ args.Number (negsuc 0) ∷ []) ∷
            stmts.Call names.TkRefTsk (args.Number (pos 0) ∷ []) ∷
            stmts.Call names.TkUnlMtx (args.Number (pos 1) ∷ []) ∷
            [];
      } ∷
      record {
        name = codes "h";
        kind = kinds.Task;
        labels = [];
        stmts =
            stmts.Call names.TkGetMpl (args.Number (pos 1) ∷ args.Number (pos 16) ∷ args.Number (negsuc 0) ∷ []) ∷
            [];
      } ∷
      record {
        name = codes "w";
        kind = kinds.Task;
        labels = [];
        stmts =
            stmts.Call names.TkLocMtx (args.Number (pos 1) ∷ args.Number (pos 0) ∷ []) ∷
            stmts.Call names.TkRefMpl (args.Number (pos 1) ∷ []) ∷
            stmts.Call names.TkRefTsk (args.Number (pos 2) ∷ []) ∷
            stmts.Call names.TkLocMtx (args.Number (pos 1) ∷ args.Number (negsuc 0) ∷ []) ∷
            [];
      } ∷
      [];
}

raised_and_served_entries : List Entry
raised_and_served_entries = []

raised_and_served_lines : List ℕ
raised_and_served_lines =
    codes "0 D 1\n" ++
    codes "1 C 1 tk_cre_mtx 1\n" ++
    codes "2 C 1 tk_cre_mpl 1\n" ++
    codes "3 C 1 tk_cre_tsk 2\n" ++
    codes "4 C 1 tk_cre_tsk 3\n" ++
    codes "5 C 1 tk_cre_tsk 4\n" ++
    codes "6 C 1 tk_get_mpl 0\n" ++
    codes "7 C 1 tk_sta_tsk 0\n" ++
    codes "7 D 3\n" ++
    codes "8 B 3 tk_get_mpl\n" ++
    codes "8 D 1\n" ++
    codes "9 C 1 tk_sta_tsk 0\n" ++
    codes "9 D 2\n" ++
    codes "10 C 2 tk_loc_mtx 0\n" ++
    codes "11 B 2 tk_get_mpl\n" ++
    codes "11 D 1\n" ++
    codes "12 C 1 tk_ref_mpl 0 8 8 3\n" ++
    codes "13 C 1 tk_sta_tsk 0\n" ++
    codes "13 D 4\n" ++
    codes "14 C 4 tk_loc_mtx E_TMOUT\n" ++
    codes "15 C 4 tk_ref_mpl 0 8 8 3\n" ++
    codes "16 C 4 tk_ref_tsk 0 3 30 30 0 0\n" ++
    codes "17 B 4 tk_loc_mtx\n" ++
    codes "17 W 2 tk_get_mpl 8\n" ++
    codes "17 D 2\n" ++
    codes "18 C 2 tk_ref_tsk 0 1 10 30 0 0\n" ++
    codes "19 C 2 tk_unl_mtx 0\n" ++
    codes "19 W 4 tk_loc_mtx 0\n" ++
    codes "19 D 4\n" ++
    codes "20 C 4 tk_ext_tsk 0\n" ++
    codes "20 D 2\n" ++
    codes "21 C 2 tk_ext_tsk 0\n" ++
    codes "21 D 1\n" ++
    codes "22 C 1 tk_rel_mpl 0\n" ++
    codes "23 C 1 tk_rel_mpl 0\n" ++
    codes "23 W 3 tk_get_mpl 0\n" ++
    codes "23 D 3\n" ++
    codes "24 C 3 tk_ext_tsk 0\n" ++
    codes "24 D 1\n" ++
    codes "25 C 1 tk_ext_tsk 0\n" ++
    codes "25 D 0\n" ++
    codes "25 END idle\n" ++
    []

raised_and_served_run : text_of_lines (lines_of (trace raised_and_served_script modes.Free 100000 raised_and_served_entries)) ≡ raised_and_served_lines
unfolding raised_and_served_script raised_and_served_entries raised_and_served_lines text_of form_of named made task_call_name sem_flag_call_name mutex_call_name mail_call_name pool_call_name time_call_name context_call_name device_call_name hook_call_name name_of code_of error_text coded error_named attributes_of flag_mode_of open_mode_of suspend_mode_of is_name_byte name_at_most why_text value_text words_of text_of_line text_of_lines fetch give call_before create_sem create_flag end_first delete_sem delete_flag refer_sem refer_flag signal_sem set_flag clear_flag wait_sem wait_flag sem_flag_call serve_sem serve_flag first_served serve_sem_flag sem_trial flag_trial chosen free_task create_task delete_task start_task exit_task terminate_task change_priority rotate_ready get_task refer_task sleep delay wake_up cancel_wakeups release_wait suspend_task resume_task task_call mark_of allowed free_from first_serving serve_box serve_mailboxes serve_buffer serve_buffers post create_box delete_box send_box receive_box refer_box create_buffer delete_buffer send_buffer receive_buffer refer_buffer mail_call create_mutex lock_mutex unlock_mutex refer_mutex delete_mutex mutex_call change_priority_beside task_call_beside chain_has current_of resettle free_last ceiling_allows serve_mutex serve_mutexes create_fixed delete_fixed get_fixed release_fixed refer_fixed create_variable delete_variable get_variable release_variable refer_variable pool_call first_free serve_fixed serve_fixed_pools serve_variable serve_variable_pools set_time get_time get_operating_time create_cyclic start_cyclic stop_cyclic delete_cyclic refer_cyclic create_alarm start_alarm stop_alarm delete_alarm refer_alarm time_call body_of next_due again define_handler disable_dispatch enable_dispatch disable_interrupts enable_interrupts refer_system define_service refer_service enter_service context_call left list_existing list_ready list_queue set_hook hook_call open_device refer_device request request_whole wait_ending close_device suspend_devices device_call expected arrive hand_over hand_first messages emptied read_bytes write_bytes accept picked serve_acceptance serve_acceptances serve_ending serve_endings is_with_driver serve_close serve_closes serve_suspension events_sent free_descriptor free_request first_queued at_driver accepted dropped handed asked devices_start block is_last blocks unit cut may_cut arrived entered returned body_returned family_call answered called follow_release follow_each with_releases dispatched followed insert_once with_requests handler_begun due_begun interrupt_begun served_within settle freed_within fallen due_done tick state_after worked counted step sync_runs sync_run entered_2 runs start trace acted ran turn_of done_turn first_serving_2 serve_object state_start digits
raised_and_served_run = refl
