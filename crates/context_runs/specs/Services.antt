-- Runs that were worked out by hand from the rules, as runs/context/services has them: each a theorem by computation.
use Rattle.std.specs.Prelude.{ℕ, pos, negsuc, List, [], ◌∷◌, ◌++◌, Some, None, codes, ◌≡◌, refl}
use Rattle.std.specs.Fmt.{digits}
use Rattle.tk_types.specs.declared.script.Script.{Script}
use Rattle.tk_types.specs.declared.script.BodyKind.TheVariants as kinds
use Rattle.tk_types.specs.declared.script.Kind.TheVariants as devices
use Rattle.tk_types.specs.declared.script.Stmt.TheVariants as stmts
use Rattle.tk_types.specs.declared.script.Operand.TheVariants as operands
use Rattle.tk_types.specs.declared.script.Operation.TheVariants as operations
use Rattle.tk_types.specs.declared.script.Condition.TheVariants as conditions
use Rattle.tk_types.specs.declared.script.Arg.TheVariants as args
use Rattle.tk_types.specs.declared.call_name.CallName.TheVariants as names
use Rattle.tk_types.specs.declared.line.Entry.{Entry}
use Rattle.tk_types.specs.declared.line.How.TheVariants as hows
use Rattle.tk_types.specs.declared.run.Mode.TheVariants as modes
use Rattle.tk_types.specs.CallNames.{text_of, form_of, named}
use Rattle.tk_types.specs.Calls.{made, task_call_name, sem_flag_call_name, mutex_call_name, mail_call_name, pool_call_name, time_call_name, context_call_name, device_call_name, hook_call_name, name_of}
use Rattle.tk_types.specs.Codes.{code_of, error_text, coded, error_named}
use Rattle.tk_types.specs.Modes.{attributes_of, flag_mode_of, open_mode_of, suspend_mode_of}
use Rattle.tk_types.specs.Names.{is_name_byte, name_at_most}
use Rattle.tk_types.specs.Reasons.{why_text}
use Rattle.tk_model.specs.LineText.{value_text, words_of, text_of_line, text_of_lines}
use Rattle.kernel_model.specs.Bodies.Statements.{fetch, give, call_before}
use Rattle.kernel_model.specs.SemFlags.Calls.{create_sem, create_flag, end_first, delete_sem, delete_flag, refer_sem, refer_flag, signal_sem, set_flag, clear_flag, wait_sem, wait_flag, sem_flag_call}
use Rattle.kernel_model.specs.SemFlags.Tables.{serve_sem, serve_flag, first_served, serve_sem_flag}
use Rattle.kernel_model.specs.SemFlags.Trial.{sem_trial, flag_trial}
use Rattle.kernel_model.specs.Tasks.Base.{chosen, free_task}
use Rattle.kernel_model.specs.Tasks.Calls.{create_task, delete_task, start_task, exit_task, terminate_task, change_priority, rotate_ready, get_task, refer_task, sleep, delay, wake_up, cancel_wakeups, release_wait, suspend_task, resume_task, task_call}
use Rattle.kernel_model.specs.Tasks.Marks.{mark_of, allowed}
use Rattle.kernel_model.specs.Words.Orders.{free_from}
use Rattle.object_model.specs.Servings.{first_serving}
use Rattle.object_model.specs.Mails.Boxes.{serve_box, serve_mailboxes}
use Rattle.object_model.specs.Mails.Buffers.{serve_buffer, serve_buffers, post}
use Rattle.object_model.specs.Mails.Calls.{create_box, delete_box, send_box, receive_box, refer_box, create_buffer, delete_buffer, send_buffer, receive_buffer, refer_buffer, mail_call}
use Rattle.object_model.specs.Mutexes.Calls.{create_mutex, lock_mutex, unlock_mutex, refer_mutex, delete_mutex, mutex_call, change_priority_beside, task_call_beside}
use Rattle.object_model.specs.Mutexes.Priority.{chain_has, current_of, resettle}
use Rattle.object_model.specs.Mutexes.Tables.{free_last, ceiling_allows, serve_mutex, serve_mutexes}
use Rattle.object_model.specs.Pools.Calls.{create_fixed, delete_fixed, get_fixed, release_fixed, refer_fixed, create_variable, delete_variable, get_variable, release_variable, refer_variable, pool_call}
use Rattle.object_model.specs.Pools.Fixed.{first_free, serve_fixed, serve_fixed_pools}
use Rattle.object_model.specs.Pools.Variable.{serve_variable, serve_variable_pools}
use Rattle.context_model.specs.Clocks.Calls.{set_time, get_time, get_operating_time, create_cyclic, start_cyclic, stop_cyclic, delete_cyclic, refer_cyclic, create_alarm, start_alarm, stop_alarm, delete_alarm, refer_alarm, time_call}
use Rattle.context_model.specs.Clocks.Tables.{body_of, next_due, again}
use Rattle.context_model.specs.Contexts.Calls.{define_handler, disable_dispatch, enable_dispatch, disable_interrupts, enable_interrupts, refer_system, define_service, refer_service, enter_service, context_call}
use Rattle.context_model.specs.Contexts.Tables.{left}
use Rattle.context_model.specs.Hooks.Calls.{list_existing, list_ready, list_queue, set_hook, hook_call}
use Rattle.device_model.specs.Devices.Calls.{open_device, refer_device, request, request_whole, wait_ending, close_device, suspend_devices, device_call}
use Rattle.device_model.specs.Devices.Endings.{expected, arrive}
use Rattle.device_model.specs.Devices.Handing.{hand_over, hand_first, messages, emptied}
use Rattle.device_model.specs.Devices.Memory.{read_bytes, write_bytes}
use Rattle.device_model.specs.Devices.Requests.{accept, picked}
use Rattle.device_model.specs.Devices.Servings.{serve_acceptance, serve_acceptances, serve_ending, serve_endings, is_with_driver, serve_close, serve_closes, serve_suspension}
use Rattle.device_model.specs.Devices.Suspension.{events_sent}
use Rattle.device_model.specs.Devices.Tables.{free_descriptor, free_request, first_queued, at_driver, accepted, dropped, handed, asked, devices_start}
use Rattle.device_model.specs.Units.Blocks.{block, is_last, blocks}
use Rattle.device_model.specs.Units.Function.{unit, cut, may_cut}
use Rattle.machine_model.specs.Events.Arrivals.{arrived}
use Rattle.machine_model.specs.Events.Bodies.{entered, returned, body_returned}
use Rattle.machine_model.specs.Events.Calls.{family_call, answered, called}
use Rattle.machine_model.specs.Events.Follow.{follow_release, follow_each, with_releases, dispatched, followed}
use Rattle.machine_model.specs.Events.Handlers.{insert_once, with_requests, handler_begun, due_begun, interrupt_begun}
use Rattle.machine_model.specs.Events.Settle.{served_within, settle, freed_within}
use Rattle.machine_model.specs.Events.Ticks.{fallen, due_done, tick}
use Rattle.machine_model.specs.Runs.Reached.{state_after}
use Rattle.machine_model.specs.Runs.Step.{worked, counted, step}
use Rattle.machine_model.specs.Runs.SyncTrace.{sync_runs, sync_run}
use Rattle.machine_model.specs.Runs.Trace.{lines_of, entered as entered_2, runs, start, trace}
use Rattle.machine_model.specs.Runs.Turns.{acted, ran, turn_of, done_turn}
use Rattle.machine_model.specs.States.Objects.{first_serving as first_serving_2, serve_object}
use Rattle.machine_model.specs.States.State.{state_start}

-- A wait of a service ends for the service: by its time-out, by a wake-up, by a release. A task that is terminated inside nested services
-- starts anew in its body, and may nest eight of them again.
ended_inside_script : Script
ended_inside_script = record {
  devices = [];
  pace = None;
  irqs = [];
  boot = record { body = 1; priority = 10 };
  bodies =
      record {
        name = codes "main";
        kind = kinds.Task;
        labels = [];
        stmts =
            stmts.Call names.TkCreTsk (args.List 0 ∷ args.Body 2 ∷ args.Number (pos 5) ∷ args.Number (pos 512) ∷ []) ∷
            stmts.Call names.TkDefSsy (args.Number (pos 1) ∷ args.Body 3 ∷ []) ∷
            stmts.Call names.TkDefSsy (args.Number (pos 2) ∷ args.Body 4 ∷ []) ∷
            stmts.Call names.TkStaTsk (args.Number (pos 2) ∷ args.Number (pos 1) ∷ []) ∷
            stmts.Call names.TkDlyTsk (args.Number (pos 3) ∷ []) ∷
            stmts.Call names.TkTerTsk (args.Number (pos 2) ∷ []) ∷
            stmts.Call names.TkRefTsk (args.Number (pos 2) ∷ []) ∷
            stmts.Call names.TkStaTsk (args.Number (pos 2) ∷ args.Number (pos 0) ∷ []) ∷
            stmts.Call names.TkWupTsk (args.Number (pos 2) ∷ []) ∷
            stmts.Call names.TkRelWai (args.Number (pos 2) ∷ []) ∷
            stmts.Call names.TkTerTsk (args.Number (pos 2) ∷ []) ∷
            stmts.Call names.TkDelTsk (args.Number (pos 2) ∷ []) ∷
            [];
      } ∷
      record {
        name = codes "work";
        kind = kinds.Task;
        labels = record { name = codes "down"; place = 2 } ∷ [];
        stmts =
            stmts.Jump (conditions.Equal 1 (operands.Number (pos 0))) 0 ∷
            stmts.Call names.Svc (args.Number (pos 1) ∷ args.Number (pos 2) ∷ []) ∷
            stmts.Call names.Svc (args.Number (pos 2) ∷ args.Number (pos 0) ∷ []) ∷
            [];
      } ∷
      record {
        name = codes "nap";
        kind = kinds.Svc;
        labels = [];
        stmts =
            stmts.Call names.TkSlpTsk (args.Register 1 ∷ []) ∷
            stmts.Return (operands.Register 0) ∷
            [];
      } ∷
      record {
        name = codes "deep";
        kind = kinds.Svc;
        labels = [];
        stmts =
            stmts.Call names.Svc (args.Number (pos 2) ∷ args.Number (pos 0) ∷ []) ∷
            stmts.Call names.TkSlpTsk (args.Number (negsuc 0) ∷ []) ∷
            stmts.Return (operands.Register 0) ∷
            [];
      } ∷
      [];
}

ended_inside_entries : List Entry
ended_inside_entries = []

ended_inside_lines : List ℕ
ended_inside_lines =
    codes "0 D 1\n" ++
    codes "1 C 1 tk_cre_tsk 2\n" ++
    codes "2 C 1 tk_def_ssy 0\n" ++
    codes "3 C 1 tk_def_ssy 0\n" ++
    codes "4 C 1 tk_sta_tsk 0\n" ++
    codes "4 D 2\n" ++
    codes "7 B 2 tk_slp_tsk\n" ++
    codes "7 D 1\n" ++
    codes "8 B 1 tk_dly_tsk\n" ++
    codes "8 D 0\n" ++
    codes "9 K 1\n" ++
    codes "10 K 2\n" ++
    codes "11 K 3\n" ++
    codes "11 W 2 tk_slp_tsk E_TMOUT\n" ++
    codes "11 D 2\n" ++
    codes "12 C 2 svc E_TMOUT\n" ++
    codes "21 C 2 svc E_LIMIT\n" ++
    codes "22 B 2 tk_slp_tsk\n" ++
    codes "22 D 0\n" ++
    codes "23 K 4\n" ++
    codes "23 W 1 tk_dly_tsk 0\n" ++
    codes "23 D 1\n" ++
    codes "24 C 1 tk_ter_tsk 0\n" ++
    codes "25 C 1 tk_ref_tsk 0 6 5 5 0 0\n" ++
    codes "26 C 1 tk_sta_tsk 0\n" ++
    codes "26 D 2\n" ++
    codes "36 C 2 svc E_LIMIT\n" ++
    codes "37 B 2 tk_slp_tsk\n" ++
    codes "37 D 1\n" ++
    codes "38 C 1 tk_wup_tsk 0\n" ++
    codes "38 W 2 tk_slp_tsk 0\n" ++
    codes "38 D 2\n" ++
    codes "39 C 2 svc 0\n" ++
    codes "40 B 2 tk_slp_tsk\n" ++
    codes "40 D 1\n" ++
    codes "41 C 1 tk_rel_wai 0\n" ++
    codes "41 W 2 tk_slp_tsk E_RLWAI\n" ++
    codes "41 D 2\n" ++
    codes "42 C 2 svc E_RLWAI\n" ++
    codes "43 B 2 tk_slp_tsk\n" ++
    codes "43 D 1\n" ++
    codes "44 C 1 tk_ter_tsk 0\n" ++
    codes "45 C 1 tk_del_tsk 0\n" ++
    codes "46 C 1 tk_ext_tsk 0\n" ++
    codes "46 D 0\n" ++
    codes "46 END idle\n" ++
    []

ended_inside_run : text_of_lines (lines_of (trace ended_inside_script modes.Free 100000 ended_inside_entries)) ≡ ended_inside_lines
unfolding ended_inside_script ended_inside_entries ended_inside_lines text_of form_of named made task_call_name sem_flag_call_name mutex_call_name mail_call_name pool_call_name time_call_name context_call_name device_call_name hook_call_name name_of code_of error_text coded error_named attributes_of flag_mode_of open_mode_of suspend_mode_of is_name_byte name_at_most why_text value_text words_of text_of_line text_of_lines fetch give call_before create_sem create_flag end_first delete_sem delete_flag refer_sem refer_flag signal_sem set_flag clear_flag wait_sem wait_flag sem_flag_call serve_sem serve_flag first_served serve_sem_flag sem_trial flag_trial chosen free_task create_task delete_task start_task exit_task terminate_task change_priority rotate_ready get_task refer_task sleep delay wake_up cancel_wakeups release_wait suspend_task resume_task task_call mark_of allowed free_from first_serving serve_box serve_mailboxes serve_buffer serve_buffers post create_box delete_box send_box receive_box refer_box create_buffer delete_buffer send_buffer receive_buffer refer_buffer mail_call create_mutex lock_mutex unlock_mutex refer_mutex delete_mutex mutex_call change_priority_beside task_call_beside chain_has current_of resettle free_last ceiling_allows serve_mutex serve_mutexes create_fixed delete_fixed get_fixed release_fixed refer_fixed create_variable delete_variable get_variable release_variable refer_variable pool_call first_free serve_fixed serve_fixed_pools serve_variable serve_variable_pools set_time get_time get_operating_time create_cyclic start_cyclic stop_cyclic delete_cyclic refer_cyclic create_alarm start_alarm stop_alarm delete_alarm refer_alarm time_call body_of next_due again define_handler disable_dispatch enable_dispatch disable_interrupts enable_interrupts refer_system define_service refer_service enter_service context_call left list_existing list_ready list_queue set_hook hook_call open_device refer_device request request_whole wait_ending close_device suspend_devices device_call expected arrive hand_over hand_first messages emptied read_bytes write_bytes accept picked serve_acceptance serve_acceptances serve_ending serve_endings is_with_driver serve_close serve_closes serve_suspension events_sent free_descriptor free_request first_queued at_driver accepted dropped handed asked devices_start block is_last blocks unit cut may_cut arrived entered returned body_returned family_call answered called follow_release follow_each with_releases dispatched followed insert_once with_requests handler_begun due_begun interrupt_begun served_within settle freed_within fallen due_done tick state_after worked counted step sync_runs sync_run entered_2 runs start trace acted ran turn_of done_turn first_serving_2 serve_object state_start digits
ended_inside_run = refl

-- A number from 0 on that isn't defined is no service; a wrong number comes before the context, and the context before a missing
-- service. A service that undefines itself runs on, and its value is answered.
errors_script : Script
errors_script = record {
  devices = [];
  pace = None;
  irqs = record { step = 22; number = 1 } ∷ [];
  boot = record { body = 1; priority = 10 };
  bodies =
      record {
        name = codes "main";
        kind = kinds.Task;
        labels = [];
        stmts =
            stmts.Call names.TkDefInt (args.Number (pos 1) ∷ args.Body 3 ∷ []) ∷
            stmts.Call names.TkDefSsy (args.Number (pos 0) ∷ args.Body 2 ∷ []) ∷
            stmts.Call names.TkDefSsy (args.Number (pos 256) ∷ args.Body 0 ∷ []) ∷
            stmts.Call names.TkDefSsy (args.Number (negsuc 0) ∷ args.Body 2 ∷ []) ∷
            stmts.Call names.TkDefSsy (args.Number (pos 1) ∷ args.Body 0 ∷ []) ∷
            stmts.Call names.TkRefSsy (args.Number (pos 0) ∷ []) ∷
            stmts.Call names.TkRefSsy (args.Number (pos 256) ∷ []) ∷
            stmts.Call names.TkRefSsy (args.Number (pos 1) ∷ []) ∷
            stmts.Call names.TkDefSsy (args.Number (pos 1) ∷ args.Body 2 ∷ []) ∷
            stmts.Call names.TkDefSsy (args.Number (pos 1) ∷ args.Body 2 ∷ []) ∷
            stmts.Call names.TkRefSsy (args.Number (pos 1) ∷ []) ∷
            stmts.Call names.Svc (args.Number (negsuc 0) ∷ args.Number (pos 0) ∷ []) ∷
            stmts.Call names.Svc (args.Number (pos 1) ∷ args.Number (negsuc 0) ∷ []) ∷
            stmts.Call names.Svc (args.Number (pos 0) ∷ args.Number (pos 0) ∷ []) ∷
            stmts.Call names.Svc (args.Number (pos 256) ∷ args.Number (pos 0) ∷ []) ∷
            stmts.Call names.Svc (args.Number (pos 1) ∷ args.Number (pos 7) ∷ []) ∷
            stmts.Call names.Svc (args.Number (pos 1) ∷ args.Number (pos 7) ∷ []) ∷
            stmts.Call names.TkExtTsk ([]) ∷
            [];
      } ∷
      record {
        name = codes "s";
        kind = kinds.Svc;
        labels = [];
        stmts =
            stmts.Call names.TkDefSsy (args.Number (pos 1) ∷ args.Body 0 ∷ []) ∷
            stmts.Call names.TkRefSsy (args.Number (pos 1) ∷ []) ∷
            stmts.Return (operands.Register 1) ∷
            [];
      } ∷
      record {
        name = codes "h";
        kind = kinds.Hand;
        labels = [];
        stmts =
            stmts.Call names.Svc (args.Number (negsuc 0) ∷ args.Number (pos 0) ∷ []) ∷
            stmts.Call names.Svc (args.Number (pos 1) ∷ args.Number (negsuc 0) ∷ []) ∷
            stmts.Call names.Svc (args.Number (pos 256) ∷ args.Number (pos 0) ∷ []) ∷
            stmts.Call names.TkDefSsy (args.Number (pos 1) ∷ args.Body 2 ∷ []) ∷
            stmts.Call names.TkRefSsy (args.Number (pos 1) ∷ []) ∷
            stmts.Call names.TkDefSsy (args.Number (pos 1) ∷ args.Body 2 ∷ []) ∷
            stmts.Call names.TkDefSsy (args.Number (pos 1) ∷ args.Body 0 ∷ []) ∷
            stmts.Call names.TkDefSsy (args.Number (pos 1) ∷ args.Body 0 ∷ []) ∷
            [];
      } ∷
      [];
}

errors_entries : List Entry
errors_entries = []

errors_lines : List ℕ
errors_lines =
    codes "0 D 1\n" ++
    codes "1 C 1 tk_def_int 0\n" ++
    codes "2 C 1 tk_def_ssy E_ID\n" ++
    codes "3 C 1 tk_def_ssy E_ID\n" ++
    codes "4 C 1 tk_def_ssy E_ID\n" ++
    codes "5 C 1 tk_def_ssy E_NOEXS\n" ++
    codes "6 C 1 tk_ref_ssy E_ID\n" ++
    codes "7 C 1 tk_ref_ssy E_ID\n" ++
    codes "8 C 1 tk_ref_ssy E_NOEXS\n" ++
    codes "9 C 1 tk_def_ssy 0\n" ++
    codes "10 C 1 tk_def_ssy E_OBJ\n" ++
    codes "11 C 1 tk_ref_ssy 0\n" ++
    codes "12 C 1 svc E_PAR\n" ++
    codes "13 C 1 svc E_PAR\n" ++
    codes "14 C 1 svc E_RSFN\n" ++
    codes "15 C 1 svc E_RSFN\n" ++
    codes "17 C 1 tk_def_ssy 0\n" ++
    codes "18 C 1 tk_ref_ssy E_NOEXS\n" ++
    codes "19 C 1 svc 7\n" ++
    codes "20 C 1 svc E_RSFN\n" ++
    codes "21 C 1 tk_ext_tsk 0\n" ++
    codes "21 D 0\n" ++
    codes "22 I int 1\n" ++
    codes "23 C 0 svc E_PAR\n" ++
    codes "24 C 0 svc E_PAR\n" ++
    codes "25 C 0 svc E_CTX\n" ++
    codes "26 C 0 tk_def_ssy 0\n" ++
    codes "27 C 0 tk_ref_ssy 0\n" ++
    codes "28 C 0 tk_def_ssy E_OBJ\n" ++
    codes "29 C 0 tk_def_ssy 0\n" ++
    codes "30 C 0 tk_def_ssy E_NOEXS\n" ++
    codes "31 END idle\n" ++
    []

errors_run : text_of_lines (lines_of (trace errors_script modes.Free 100000 errors_entries)) ≡ errors_lines
unfolding errors_script errors_entries errors_lines text_of form_of named made task_call_name sem_flag_call_name mutex_call_name mail_call_name pool_call_name time_call_name context_call_name device_call_name hook_call_name name_of code_of error_text coded error_named attributes_of flag_mode_of open_mode_of suspend_mode_of is_name_byte name_at_most why_text value_text words_of text_of_line text_of_lines fetch give call_before create_sem create_flag end_first delete_sem delete_flag refer_sem refer_flag signal_sem set_flag clear_flag wait_sem wait_flag sem_flag_call serve_sem serve_flag first_served serve_sem_flag sem_trial flag_trial chosen free_task create_task delete_task start_task exit_task terminate_task change_priority rotate_ready get_task refer_task sleep delay wake_up cancel_wakeups release_wait suspend_task resume_task task_call mark_of allowed free_from first_serving serve_box serve_mailboxes serve_buffer serve_buffers post create_box delete_box send_box receive_box refer_box create_buffer delete_buffer send_buffer receive_buffer refer_buffer mail_call create_mutex lock_mutex unlock_mutex refer_mutex delete_mutex mutex_call change_priority_beside task_call_beside chain_has current_of resettle free_last ceiling_allows serve_mutex serve_mutexes create_fixed delete_fixed get_fixed release_fixed refer_fixed create_variable delete_variable get_variable release_variable refer_variable pool_call first_free serve_fixed serve_fixed_pools serve_variable serve_variable_pools set_time get_time get_operating_time create_cyclic start_cyclic stop_cyclic delete_cyclic refer_cyclic create_alarm start_alarm stop_alarm delete_alarm refer_alarm time_call body_of next_due again define_handler disable_dispatch enable_dispatch disable_interrupts enable_interrupts refer_system define_service refer_service enter_service context_call left list_existing list_ready list_queue set_hook hook_call open_device refer_device request request_whole wait_ending close_device suspend_devices device_call expected arrive hand_over hand_first messages emptied read_bytes write_bytes accept picked serve_acceptance serve_acceptances serve_ending serve_endings is_with_driver serve_close serve_closes serve_suspension events_sent free_descriptor free_request first_queued at_driver accepted dropped handed asked devices_start block is_last blocks unit cut may_cut arrived entered returned body_returned family_call answered called follow_release follow_each with_releases dispatched followed insert_once with_requests handler_begun due_begun interrupt_begun served_within settle freed_within fallen due_done tick state_after worked counted step sync_runs sync_run entered_2 runs start trace acted ran turn_of done_turn first_serving_2 serve_object state_start digits
errors_run = refl

-- A service calls itself: the ninth nesting is refused, in every one of them.
ninth_nesting_script : Script
ninth_nesting_script = record {
  devices = [];
  pace = None;
  irqs = [];
  boot = record { body = 1; priority = 10 };
  bodies =
      record {
        name = codes "main";
        kind = kinds.Task;
        labels = [];
        stmts =
            stmts.Call names.Svc (args.Number (pos 1) ∷ args.Number (pos 7) ∷ []) ∷
            stmts.Call names.TkDefSsy (args.Number (pos 1) ∷ args.Body 2 ∷ []) ∷
            stmts.Call names.Svc (args.Number (pos 1) ∷ args.Number (pos 0) ∷ []) ∷
            [];
      } ∷
      record {
        name = codes "deep";
        kind = kinds.Svc;
        labels = [];
        stmts =
            stmts.Call names.Svc (args.Number (pos 1) ∷ args.Number (pos 0) ∷ []) ∷
            stmts.Return (operands.Register 0) ∷
            [];
      } ∷
      [];
}

ninth_nesting_entries : List Entry
ninth_nesting_entries = []

ninth_nesting_lines : List ℕ
ninth_nesting_lines =
    codes "0 D 1\n" ++
    codes "1 C 1 svc E_RSFN\n" ++
    codes "2 C 1 tk_def_ssy 0\n" ++
    codes "11 C 1 svc E_LIMIT\n" ++
    codes "12 C 1 svc E_LIMIT\n" ++
    codes "13 C 1 svc E_LIMIT\n" ++
    codes "14 C 1 svc E_LIMIT\n" ++
    codes "15 C 1 svc E_LIMIT\n" ++
    codes "16 C 1 svc E_LIMIT\n" ++
    codes "17 C 1 svc E_LIMIT\n" ++
    codes "18 C 1 svc E_LIMIT\n" ++
    codes "19 C 1 svc E_LIMIT\n" ++
    codes "20 C 1 tk_ext_tsk 0\n" ++
    codes "20 D 0\n" ++
    codes "20 END idle\n" ++
    []

ninth_nesting_run : text_of_lines (lines_of (trace ninth_nesting_script modes.Free 100000 ninth_nesting_entries)) ≡ ninth_nesting_lines
unfolding ninth_nesting_script ninth_nesting_entries ninth_nesting_lines text_of form_of named made task_call_name sem_flag_call_name mutex_call_name mail_call_name pool_call_name time_call_name context_call_name device_call_name hook_call_name name_of code_of error_text coded error_named attributes_of flag_mode_of open_mode_of suspend_mode_of is_name_byte name_at_most why_text value_text words_of text_of_line text_of_lines fetch give call_before create_sem create_flag end_first delete_sem delete_flag refer_sem refer_flag signal_sem set_flag clear_flag wait_sem wait_flag sem_flag_call serve_sem serve_flag first_served serve_sem_flag sem_trial flag_trial chosen free_task create_task delete_task start_task exit_task terminate_task change_priority rotate_ready get_task refer_task sleep delay wake_up cancel_wakeups release_wait suspend_task resume_task task_call mark_of allowed free_from first_serving serve_box serve_mailboxes serve_buffer serve_buffers post create_box delete_box send_box receive_box refer_box create_buffer delete_buffer send_buffer receive_buffer refer_buffer mail_call create_mutex lock_mutex unlock_mutex refer_mutex delete_mutex mutex_call change_priority_beside task_call_beside chain_has current_of resettle free_last ceiling_allows serve_mutex serve_mutexes create_fixed delete_fixed get_fixed release_fixed refer_fixed create_variable delete_variable get_variable release_variable refer_variable pool_call first_free serve_fixed serve_fixed_pools serve_variable serve_variable_pools set_time get_time get_operating_time create_cyclic start_cyclic stop_cyclic delete_cyclic refer_cyclic create_alarm start_alarm stop_alarm delete_alarm refer_alarm time_call body_of next_due again define_handler disable_dispatch enable_dispatch disable_interrupts enable_interrupts refer_system define_service refer_service enter_service context_call left list_existing list_ready list_queue set_hook hook_call open_device refer_device request request_whole wait_ending close_device suspend_devices device_call expected arrive hand_over hand_first messages emptied read_bytes write_bytes accept picked serve_acceptance serve_acceptances serve_ending serve_endings is_with_driver serve_close serve_closes serve_suspension events_sent free_descriptor free_request first_queued at_driver accepted dropped handed asked devices_start block is_last blocks unit cut may_cut arrived entered returned body_returned family_call answered called follow_release follow_each with_releases dispatched followed insert_once with_requests handler_begun due_begun interrupt_begun served_within settle freed_within fallen due_done tick state_after worked counted step sync_runs sync_run entered_2 runs start trace acted ran turn_of done_turn first_serving_2 serve_object state_start digits
ninth_nesting_run = refl

-- A service runs in the name of its caller, with registers of its own that hold its argument and the caller's ID, and may call another.
-- What it returns is the call's answer; a negative number is shown by an error's name where there is one, also one that no call answers.
values_and_frames_script : Script
values_and_frames_script = record {
  devices = [];
  pace = None;
  irqs = [];
  boot = record { body = 1; priority = 10 };
  bodies =
      record {
        name = codes "main";
        kind = kinds.Task;
        labels = [];
        stmts =
            stmts.Call names.TkDefSsy (args.Number (pos 1) ∷ args.Body 2 ∷ []) ∷
            stmts.Call names.TkDefSsy (args.Number (pos 255) ∷ args.Body 3 ∷ []) ∷
            stmts.Compute operations.Set 5 (operands.Number (pos 7)) ∷
            stmts.Call names.Svc (args.Number (pos 1) ∷ args.Number (pos 4) ∷ []) ∷
            stmts.Show (operands.Register 0) ∷
            stmts.Show (operands.Register 5) ∷
            stmts.Call names.Svc (args.Number (pos 255) ∷ args.Number (pos 0) ∷ []) ∷
            [];
      } ∷
      record {
        name = codes "sum";
        kind = kinds.Svc;
        labels = [];
        stmts =
            stmts.Show (operands.Register 1) ∷
            stmts.Show (operands.Register 2) ∷
            stmts.Show (operands.Register 5) ∷
            stmts.Compute operations.Add 1 (operands.Number (pos 3)) ∷
            stmts.Call names.Svc (args.Number (pos 255) ∷ args.Register 1 ∷ []) ∷
            stmts.Show (operands.Register 0) ∷
            stmts.Compute operations.Sub 0 (operands.Number (pos 100)) ∷
            stmts.Return (operands.Register 0) ∷
            [];
      } ∷
      record {
        name = codes "neg";
        kind = kinds.Svc;
        labels = [];
        stmts =
            stmts.Show (operands.Register 1) ∷
            stmts.Show (operands.Register 2) ∷
            stmts.Return (operands.Number (negsuc 51)) ∷
            [];
      } ∷
      [];
}

values_and_frames_entries : List Entry
values_and_frames_entries = []

values_and_frames_lines : List ℕ
values_and_frames_lines =
    codes "0 D 1\n" ++
    codes "1 C 1 tk_def_ssy 0\n" ++
    codes "2 C 1 tk_def_ssy 0\n" ++
    codes "5 S 1 4\n" ++
    codes "6 S 1 1\n" ++
    codes "7 S 1 0\n" ++
    codes "10 S 1 7\n" ++
    codes "11 S 1 1\n" ++
    codes "12 C 1 svc E_DISWAI\n" ++
    codes "13 S 1 -52\n" ++
    codes "15 C 1 svc -152\n" ++
    codes "16 S 1 -152\n" ++
    codes "17 S 1 7\n" ++
    codes "19 S 1 0\n" ++
    codes "20 S 1 1\n" ++
    codes "21 C 1 svc E_DISWAI\n" ++
    codes "22 C 1 tk_ext_tsk 0\n" ++
    codes "22 D 0\n" ++
    codes "22 END idle\n" ++
    []

values_and_frames_run : text_of_lines (lines_of (trace values_and_frames_script modes.Free 100000 values_and_frames_entries)) ≡ values_and_frames_lines
unfolding values_and_frames_script values_and_frames_entries values_and_frames_lines text_of form_of named made task_call_name sem_flag_call_name mutex_call_name mail_call_name pool_call_name time_call_name context_call_name device_call_name hook_call_name name_of code_of error_text coded error_named attributes_of flag_mode_of open_mode_of suspend_mode_of is_name_byte name_at_most why_text value_text words_of text_of_line text_of_lines fetch give call_before create_sem create_flag end_first delete_sem delete_flag refer_sem refer_flag signal_sem set_flag clear_flag wait_sem wait_flag sem_flag_call serve_sem serve_flag first_served serve_sem_flag sem_trial flag_trial chosen free_task create_task delete_task start_task exit_task terminate_task change_priority rotate_ready get_task refer_task sleep delay wake_up cancel_wakeups release_wait suspend_task resume_task task_call mark_of allowed free_from first_serving serve_box serve_mailboxes serve_buffer serve_buffers post create_box delete_box send_box receive_box refer_box create_buffer delete_buffer send_buffer receive_buffer refer_buffer mail_call create_mutex lock_mutex unlock_mutex refer_mutex delete_mutex mutex_call change_priority_beside task_call_beside chain_has current_of resettle free_last ceiling_allows serve_mutex serve_mutexes create_fixed delete_fixed get_fixed release_fixed refer_fixed create_variable delete_variable get_variable release_variable refer_variable pool_call first_free serve_fixed serve_fixed_pools serve_variable serve_variable_pools set_time get_time get_operating_time create_cyclic start_cyclic stop_cyclic delete_cyclic refer_cyclic create_alarm start_alarm stop_alarm delete_alarm refer_alarm time_call body_of next_due again define_handler disable_dispatch enable_dispatch disable_interrupts enable_interrupts refer_system define_service refer_service enter_service context_call left list_existing list_ready list_queue set_hook hook_call open_device refer_device request request_whole wait_ending close_device suspend_devices device_call expected arrive hand_over hand_first messages emptied read_bytes write_bytes accept picked serve_acceptance serve_acceptances serve_ending serve_endings is_with_driver serve_close serve_closes serve_suspension events_sent free_descriptor free_request first_queued at_driver accepted dropped handed asked devices_start block is_last blocks unit cut may_cut arrived entered returned body_returned family_call answered called follow_release follow_each with_releases dispatched followed insert_once with_requests handler_begun due_begun interrupt_begun served_within settle freed_within fallen due_done tick state_after worked counted step sync_runs sync_run entered_2 runs start trace acted ran turn_of done_turn first_serving_2 serve_object state_start digits
values_and_frames_run = refl
