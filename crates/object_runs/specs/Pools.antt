-- Runs that were worked out by hand from the rules, as runs/object/pools has them: each a theorem by computation.
use Rattle.std.specs.Prelude.{ℕ, pos, negsuc, List, [], ◌∷◌, ◌++◌, Some, None, codes, ◌≡◌, refl}
use Rattle.std.specs.Fmt.{digits}
use Rattle.tk_types.specs.declared.script.Script.{Script}
use Rattle.tk_types.specs.declared.script.BodyKind.TheVariants as kinds
use Rattle.tk_types.specs.declared.script.Kind.TheVariants as devices
use Rattle.tk_types.specs.declared.script.Stmt.TheVariants as stmts
use Rattle.tk_types.specs.declared.script.Operand.TheVariants as operands
use Rattle.tk_types.specs.declared.script.Operation.TheVariants as operations
use Rattle.tk_types.specs.declared.script.Condition.TheVariants as conditions
use Rattle.tk_types.specs.declared.script.Arg.TheVariants as args
use Rattle.tk_types.specs.declared.call_name.CallName.TheVariants as names
use Rattle.tk_types.specs.declared.line.Entry.{Entry}
use Rattle.tk_types.specs.declared.line.How.TheVariants as hows
use Rattle.tk_types.specs.declared.run.Mode.TheVariants as modes
use Rattle.tk_types.specs.CallNames.{text_of, form_of, named}
use Rattle.tk_types.specs.Calls.{made, task_call_name, sem_flag_call_name, mutex_call_name, mail_call_name, pool_call_name, time_call_name, context_call_name, device_call_name, hook_call_name, name_of}
use Rattle.tk_types.specs.Codes.{code_of, error_text, coded, error_named}
use Rattle.tk_types.specs.Modes.{attributes_of, flag_mode_of, open_mode_of, suspend_mode_of}
use Rattle.tk_types.specs.Names.{is_name_byte, name_at_most}
use Rattle.tk_types.specs.Reasons.{why_text}
use Rattle.tk_model.specs.LineText.{value_text, words_of, text_of_line, text_of_lines}
use Rattle.kernel_model.specs.Bodies.Statements.{fetch, give, call_before}
use Rattle.kernel_model.specs.SemFlags.Calls.{create_sem, create_flag, end_first, delete_sem, delete_flag, refer_sem, refer_flag, signal_sem, set_flag, clear_flag, wait_sem, wait_flag, sem_flag_call}
use Rattle.kernel_model.specs.SemFlags.Tables.{serve_sem, serve_flag, first_served, serve_sem_flag}
use Rattle.kernel_model.specs.SemFlags.Trial.{sem_trial, flag_trial}
use Rattle.kernel_model.specs.Tasks.Base.{chosen, free_task}
use Rattle.kernel_model.specs.Tasks.Calls.{create_task, delete_task, start_task, exit_task, terminate_task, change_priority, rotate_ready, get_task, refer_task, sleep, delay, wake_up, cancel_wakeups, release_wait, suspend_task, resume_task, task_call}
use Rattle.kernel_model.specs.Tasks.Marks.{mark_of, allowed}
use Rattle.kernel_model.specs.Words.Orders.{free_from}
use Rattle.object_model.specs.Servings.{first_serving}
use Rattle.object_model.specs.Mails.Boxes.{serve_box, serve_mailboxes}
use Rattle.object_model.specs.Mails.Buffers.{serve_buffer, serve_buffers, post}
use Rattle.object_model.specs.Mails.Calls.{create_box, delete_box, send_box, receive_box, refer_box, create_buffer, delete_buffer, send_buffer, receive_buffer, refer_buffer, mail_call}
use Rattle.object_model.specs.Mutexes.Calls.{create_mutex, lock_mutex, unlock_mutex, refer_mutex, delete_mutex, mutex_call, change_priority_beside, task_call_beside}
use Rattle.object_model.specs.Mutexes.Priority.{chain_has, current_of, resettle}
use Rattle.object_model.specs.Mutexes.Tables.{free_last, ceiling_allows, serve_mutex, serve_mutexes}
use Rattle.object_model.specs.Pools.Calls.{create_fixed, delete_fixed, get_fixed, release_fixed, refer_fixed, create_variable, delete_variable, get_variable, release_variable, refer_variable, pool_call}
use Rattle.object_model.specs.Pools.Fixed.{first_free, serve_fixed, serve_fixed_pools}
use Rattle.object_model.specs.Pools.Variable.{serve_variable, serve_variable_pools}
use Rattle.context_model.specs.Clocks.Calls.{set_time, get_time, get_operating_time, create_cyclic, start_cyclic, stop_cyclic, delete_cyclic, refer_cyclic, create_alarm, start_alarm, stop_alarm, delete_alarm, refer_alarm, time_call}
use Rattle.context_model.specs.Clocks.Tables.{body_of, next_due, again}
use Rattle.context_model.specs.Contexts.Calls.{define_handler, disable_dispatch, enable_dispatch, disable_interrupts, enable_interrupts, refer_system, define_service, refer_service, enter_service, context_call}
use Rattle.context_model.specs.Contexts.Tables.{left}
use Rattle.context_model.specs.Hooks.Calls.{list_existing, list_ready, list_queue, set_hook, hook_call}
use Rattle.device_model.specs.Devices.Calls.{open_device, refer_device, request, request_whole, wait_ending, close_device, suspend_devices, device_call}
use Rattle.device_model.specs.Devices.Endings.{expected, arrive}
use Rattle.device_model.specs.Devices.Handing.{hand_over, hand_first, messages, emptied}
use Rattle.device_model.specs.Devices.Memory.{read_bytes, write_bytes}
use Rattle.device_model.specs.Devices.Requests.{accept, picked}
use Rattle.device_model.specs.Devices.Servings.{serve_acceptance, serve_acceptances, serve_ending, serve_endings, is_with_driver, serve_close, serve_closes, serve_suspension}
use Rattle.device_model.specs.Devices.Suspension.{events_sent}
use Rattle.device_model.specs.Devices.Tables.{free_descriptor, free_request, first_queued, at_driver, accepted, dropped, handed, asked, devices_start}
use Rattle.device_model.specs.Units.Blocks.{block, is_last, blocks}
use Rattle.device_model.specs.Units.Function.{unit, cut, may_cut}
use Rattle.machine_model.specs.Events.Arrivals.{arrived}
use Rattle.machine_model.specs.Events.Bodies.{entered, returned, body_returned}
use Rattle.machine_model.specs.Events.Calls.{family_call, answered, called}
use Rattle.machine_model.specs.Events.Follow.{follow_release, follow_each, with_releases, dispatched, followed}
use Rattle.machine_model.specs.Events.Handlers.{insert_once, with_requests, handler_begun, due_begun, interrupt_begun}
use Rattle.machine_model.specs.Events.Settle.{served_within, settle, freed_within}
use Rattle.machine_model.specs.Events.Ticks.{fallen, due_done, tick}
use Rattle.machine_model.specs.Runs.Reached.{state_after}
use Rattle.machine_model.specs.Runs.Step.{worked, counted, step}
use Rattle.machine_model.specs.Runs.SyncTrace.{sync_runs, sync_run}
use Rattle.machine_model.specs.Runs.Trace.{lines_of, entered as entered_2, runs, start, trace}
use Rattle.machine_model.specs.Runs.Turns.{acted, ran, turn_of, done_turn}
use Rattle.machine_model.specs.States.Objects.{first_serving as first_serving_2, serve_object}
use Rattle.machine_model.specs.States.State.{state_start}

-- The errors of the calls on pools in their order; the least free number or offset is given, sizes are rounded up to
-- 8, the largest gap is shown, and a block is taken back once.
every_error_script : Script
every_error_script = record {
  devices = [];
  pace = None;
  irqs = [];
  boot = record { body = 1; priority = 10 };
  bodies =
      record {
        name = codes "main";
        kind = kinds.Task;
        labels = [];
        stmts =
            stmts.Call names.TkCreMpf (args.List 8192 ∷ args.Number (pos 0) ∷ args.Number (pos 1) ∷ []) ∷
            stmts.Call names.TkCreMpf (args.List 192 ∷ args.Number (pos 2) ∷ args.Number (pos 8) ∷ []) ∷
            stmts.Call names.TkCreMpf (args.List 0 ∷ args.Number (pos 0) ∷ args.Number (pos 8) ∷ []) ∷
            stmts.Call names.TkCreMpf (args.List 0 ∷ args.Number (pos 1025) ∷ args.Number (pos 1) ∷ []) ∷
            stmts.Call names.TkCreMpf (args.List 0 ∷ args.Number (pos 1) ∷ args.Number (pos 0) ∷ []) ∷
            stmts.Call names.TkCreMpf (args.List 0 ∷ args.Number (pos 1) ∷ args.Number (pos 65537) ∷ []) ∷
            stmts.Call names.TkCreMpf (args.List 0 ∷ args.Number (pos 1024) ∷ args.Number (pos 65536) ∷ []) ∷
            stmts.Call names.TkCreMpf (args.List 0 ∷ args.Number (pos 3) ∷ args.Number (pos 16) ∷ []) ∷
            stmts.Call names.TkGetMpf (args.Number (pos 0) ∷ args.Number (negsuc 1) ∷ []) ∷
            stmts.Call names.TkGetMpf (args.Number (pos 2) ∷ args.Number (negsuc 1) ∷ []) ∷
            stmts.Call names.TkGetMpf (args.Number (pos 2) ∷ args.Number (negsuc 0) ∷ []) ∷
            stmts.Call names.TkGetMpf (args.Number (pos 1) ∷ args.Number (pos 0) ∷ []) ∷
            stmts.Call names.TkGetMpf (args.Number (pos 1) ∷ args.Number (pos 0) ∷ []) ∷
            stmts.Call names.TkGetMpf (args.Number (pos 1) ∷ args.Number (pos 0) ∷ []) ∷
            stmts.Call names.TkRelMpf (args.Number (pos 0) ∷ args.Number (negsuc 0) ∷ []) ∷
            stmts.Call names.TkRelMpf (args.Number (pos 2) ∷ args.Number (negsuc 0) ∷ []) ∷
            stmts.Call names.TkRelMpf (args.Number (pos 2) ∷ args.Number (pos 1) ∷ []) ∷
            stmts.Call names.TkRelMpf (args.Number (pos 1) ∷ args.Number (pos 0) ∷ []) ∷
            stmts.Call names.TkRelMpf (args.Number (pos 1) ∷ args.Number (pos 4) ∷ []) ∷
            stmts.Call names.TkRelMpf (args.Number (pos 1) ∷ args.Number (pos 3) ∷ []) ∷
            stmts.Call names.TkRelMpf (args.Number (pos 1) ∷ args.Number (pos 3) ∷ []) ∷
            stmts.Call names.TkRelMpf (args.Number (pos 1) ∷ args.Number (pos 1) ∷ []) ∷
            stmts.Call names.TkGetMpf (args.Number (pos 1) ∷ args.Number (pos 0) ∷ []) ∷
            stmts.Call names.TkRefMpf (args.Number (pos 1) ∷ []) ∷
            stmts.Call names.TkRefMpf (args.Number (pos 65) ∷ []) ∷
            stmts.Call names.TkRefMpf (args.Number (pos 2) ∷ []) ∷
            stmts.Call names.TkDelMpf (args.Number (pos 0) ∷ []) ∷
            stmts.Call names.TkDelMpf (args.Number (pos 2) ∷ []) ∷
            stmts.Call names.TkCreMpl (args.List 512 ∷ args.Number (pos 64) ∷ []) ∷
            stmts.Call names.TkCreMpl (args.List 192 ∷ args.Number (pos 7) ∷ []) ∷
            stmts.Call names.TkCreMpl (args.List 0 ∷ args.Number (pos 7) ∷ []) ∷
            stmts.Call names.TkCreMpl (args.List 0 ∷ args.Number (pos 65537) ∷ []) ∷
            stmts.Call names.TkCreMpl (args.List 0 ∷ args.Number (pos 57) ∷ []) ∷
            stmts.Call names.TkRefMpl (args.Number (pos 1) ∷ []) ∷
            stmts.Call names.TkGetMpl (args.Number (pos 0) ∷ args.Number (pos 0) ∷ args.Number (negsuc 0) ∷ []) ∷
            stmts.Call names.TkGetMpl (args.Number (pos 2) ∷ args.Number (pos 0) ∷ args.Number (negsuc 0) ∷ []) ∷
            stmts.Call names.TkGetMpl (args.Number (pos 2) ∷ args.Number (pos 8) ∷ args.Number (negsuc 1) ∷ []) ∷
            stmts.Call names.TkGetMpl (args.Number (pos 2) ∷ args.Number (pos 65) ∷ args.Number (negsuc 0) ∷ []) ∷
            stmts.Call names.TkGetMpl (args.Number (pos 1) ∷ args.Number (pos 65) ∷ args.Number (negsuc 0) ∷ []) ∷
            stmts.Call names.TkGetMpl (args.Number (pos 1) ∷ args.Number (pos 2147483647) ∷ args.Number (negsuc 0) ∷ []) ∷
            stmts.Call names.TkGetMpl (args.Number (pos 1) ∷ args.Number (pos 1) ∷ args.Number (negsuc 0) ∷ []) ∷
            stmts.Call names.TkGetMpl (args.Number (pos 1) ∷ args.Number (pos 9) ∷ args.Number (negsuc 0) ∷ []) ∷
            stmts.Call names.TkGetMpl (args.Number (pos 1) ∷ args.Number (pos 8) ∷ args.Number (negsuc 0) ∷ []) ∷
            stmts.Call names.TkGetMpl (args.Number (pos 1) ∷ args.Number (pos 17) ∷ args.Number (negsuc 0) ∷ []) ∷
            stmts.Call names.TkRefMpl (args.Number (pos 1) ∷ []) ∷
            stmts.Call names.TkRelMpl (args.Number (pos 1) ∷ args.Number (pos 8) ∷ []) ∷
            stmts.Call names.TkRelMpl (args.Number (pos 1) ∷ args.Number (pos 32) ∷ []) ∷
            stmts.Call names.TkRefMpl (args.Number (pos 1) ∷ []) ∷
            stmts.Call names.TkGetMpl (args.Number (pos 1) ∷ args.Number (pos 33) ∷ args.Number (pos 0) ∷ []) ∷
            stmts.Call names.TkGetMpl (args.Number (pos 1) ∷ args.Number (pos 25) ∷ args.Number (pos 0) ∷ []) ∷
            stmts.Call names.TkGetMpl (args.Number (pos 1) ∷ args.Number (pos 16) ∷ args.Number (pos 0) ∷ []) ∷
            stmts.Call names.TkRelMpl (args.Number (pos 1) ∷ args.Number (pos 8) ∷ []) ∷
            stmts.Call names.TkRelMpl (args.Number (pos 1) ∷ args.Number (pos 8) ∷ []) ∷
            stmts.Call names.TkRelMpl (args.Number (pos 1) ∷ args.Number (pos 33) ∷ []) ∷
            stmts.Call names.TkRelMpl (args.Number (pos 65) ∷ args.Number (negsuc 7) ∷ []) ∷
            stmts.Call names.TkRelMpl (args.Number (pos 2) ∷ args.Number (negsuc 7) ∷ []) ∷
            stmts.Call names.TkRelMpl (args.Number (pos 2) ∷ args.Number (pos 8) ∷ []) ∷
            stmts.Call names.TkRefMpl (args.Number (pos 0) ∷ []) ∷
            stmts.Call names.TkRefMpl (args.Number (pos 2) ∷ []) ∷
            stmts.Call names.TkDelMpl (args.Number (pos 65) ∷ []) ∷
            stmts.Call names.TkDelMpl (args.Number (pos 2) ∷ []) ∷
            stmts.Call names.TkDelMpl (args.Number (pos 1) ∷ []) ∷
            stmts.Call names.TkCreMpl (args.List 0 ∷ args.Number (pos 65529) ∷ []) ∷
            stmts.Call names.TkGetMpl (args.Number (pos 1) ∷ args.Number (pos 65536) ∷ args.Number (negsuc 0) ∷ []) ∷
            [];
      } ∷
      [];
}

every_error_entries : List Entry
every_error_entries = []

every_error_lines : List ℕ
every_error_lines =
    codes "0 D 1\n" ++
    codes "1 C 1 tk_cre_mpf E_RSATR\n" ++
    codes "2 C 1 tk_cre_mpf E_RSATR\n" ++
    codes "3 C 1 tk_cre_mpf E_PAR\n" ++
    codes "4 C 1 tk_cre_mpf E_PAR\n" ++
    codes "5 C 1 tk_cre_mpf E_PAR\n" ++
    codes "6 C 1 tk_cre_mpf E_PAR\n" ++
    codes "7 C 1 tk_cre_mpf E_NOMEM\n" ++
    codes "8 C 1 tk_cre_mpf 1\n" ++
    codes "9 C 1 tk_get_mpf E_ID\n" ++
    codes "10 C 1 tk_get_mpf E_PAR\n" ++
    codes "11 C 1 tk_get_mpf E_NOEXS\n" ++
    codes "12 C 1 tk_get_mpf 1\n" ++
    codes "13 C 1 tk_get_mpf 2\n" ++
    codes "14 C 1 tk_get_mpf 3\n" ++
    codes "15 C 1 tk_rel_mpf E_ID\n" ++
    codes "16 C 1 tk_rel_mpf E_PAR\n" ++
    codes "17 C 1 tk_rel_mpf E_NOEXS\n" ++
    codes "18 C 1 tk_rel_mpf E_PAR\n" ++
    codes "19 C 1 tk_rel_mpf E_PAR\n" ++
    codes "20 C 1 tk_rel_mpf 0\n" ++
    codes "21 C 1 tk_rel_mpf E_PAR\n" ++
    codes "22 C 1 tk_rel_mpf 0\n" ++
    codes "23 C 1 tk_get_mpf 1\n" ++
    codes "24 C 1 tk_ref_mpf 0 1 0\n" ++
    codes "25 C 1 tk_ref_mpf E_ID\n" ++
    codes "26 C 1 tk_ref_mpf E_NOEXS\n" ++
    codes "27 C 1 tk_del_mpf E_ID\n" ++
    codes "28 C 1 tk_del_mpf E_NOEXS\n" ++
    codes "29 C 1 tk_cre_mpl E_RSATR\n" ++
    codes "30 C 1 tk_cre_mpl E_RSATR\n" ++
    codes "31 C 1 tk_cre_mpl E_PAR\n" ++
    codes "32 C 1 tk_cre_mpl E_PAR\n" ++
    codes "33 C 1 tk_cre_mpl 1\n" ++
    codes "34 C 1 tk_ref_mpl 0 64 64 0\n" ++
    codes "35 C 1 tk_get_mpl E_ID\n" ++
    codes "36 C 1 tk_get_mpl E_PAR\n" ++
    codes "37 C 1 tk_get_mpl E_PAR\n" ++
    codes "38 C 1 tk_get_mpl E_NOEXS\n" ++
    codes "39 C 1 tk_get_mpl E_PAR\n" ++
    codes "40 C 1 tk_get_mpl E_PAR\n" ++
    codes "41 C 1 tk_get_mpl 0\n" ++
    codes "42 C 1 tk_get_mpl 8\n" ++
    codes "43 C 1 tk_get_mpl 24\n" ++
    codes "44 C 1 tk_get_mpl 32\n" ++
    codes "45 C 1 tk_ref_mpl 0 8 8 0\n" ++
    codes "46 C 1 tk_rel_mpl 0\n" ++
    codes "47 C 1 tk_rel_mpl 0\n" ++
    codes "48 C 1 tk_ref_mpl 0 48 32 0\n" ++
    codes "49 C 1 tk_get_mpl E_TMOUT\n" ++
    codes "50 C 1 tk_get_mpl 32\n" ++
    codes "51 C 1 tk_get_mpl 8\n" ++
    codes "52 C 1 tk_rel_mpl 0\n" ++
    codes "53 C 1 tk_rel_mpl E_PAR\n" ++
    codes "54 C 1 tk_rel_mpl E_PAR\n" ++
    codes "55 C 1 tk_rel_mpl E_ID\n" ++
    codes "56 C 1 tk_rel_mpl E_PAR\n" ++
    codes "57 C 1 tk_rel_mpl E_NOEXS\n" ++
    codes "58 C 1 tk_ref_mpl E_ID\n" ++
    codes "59 C 1 tk_ref_mpl E_NOEXS\n" ++
    codes "60 C 1 tk_del_mpl E_ID\n" ++
    codes "61 C 1 tk_del_mpl E_NOEXS\n" ++
    codes "62 C 1 tk_del_mpl 0\n" ++
    codes "63 C 1 tk_cre_mpl 1\n" ++
    codes "64 C 1 tk_get_mpl 0\n" ++
    codes "65 C 1 tk_ext_tsk 0\n" ++
    codes "65 D 0\n" ++
    codes "65 END idle\n" ++
    []

every_error_run : text_of_lines (lines_of (trace every_error_script modes.Free 100000 every_error_entries)) ≡ every_error_lines
unfolding every_error_script every_error_entries every_error_lines text_of form_of named made task_call_name sem_flag_call_name mutex_call_name mail_call_name pool_call_name time_call_name context_call_name device_call_name hook_call_name name_of code_of error_text coded error_named attributes_of flag_mode_of open_mode_of suspend_mode_of is_name_byte name_at_most why_text value_text words_of text_of_line text_of_lines fetch give call_before create_sem create_flag end_first delete_sem delete_flag refer_sem refer_flag signal_sem set_flag clear_flag wait_sem wait_flag sem_flag_call serve_sem serve_flag first_served serve_sem_flag sem_trial flag_trial chosen free_task create_task delete_task start_task exit_task terminate_task change_priority rotate_ready get_task refer_task sleep delay wake_up cancel_wakeups release_wait suspend_task resume_task task_call mark_of allowed free_from first_serving serve_box serve_mailboxes serve_buffer serve_buffers post create_box delete_box send_box receive_box refer_box create_buffer delete_buffer send_buffer receive_buffer refer_buffer mail_call create_mutex lock_mutex unlock_mutex refer_mutex delete_mutex mutex_call change_priority_beside task_call_beside chain_has current_of resettle free_last ceiling_allows serve_mutex serve_mutexes create_fixed delete_fixed get_fixed release_fixed refer_fixed create_variable delete_variable get_variable release_variable refer_variable pool_call first_free serve_fixed serve_fixed_pools serve_variable serve_variable_pools set_time get_time get_operating_time create_cyclic start_cyclic stop_cyclic delete_cyclic refer_cyclic create_alarm start_alarm stop_alarm delete_alarm refer_alarm time_call body_of next_due again define_handler disable_dispatch enable_dispatch disable_interrupts enable_interrupts refer_system define_service refer_service enter_service context_call left list_existing list_ready list_queue set_hook hook_call open_device refer_device request request_whole wait_ending close_device suspend_devices device_call expected arrive hand_over hand_first messages emptied read_bytes write_bytes accept picked serve_acceptance serve_acceptances serve_ending serve_endings is_with_driver serve_close serve_closes serve_suspension events_sent free_descriptor free_request first_queued at_driver accepted dropped handed asked devices_start block is_last blocks unit cut may_cut arrived entered returned body_returned family_call answered called follow_release follow_each with_releases dispatched followed insert_once with_requests handler_begun due_begun interrupt_begun served_within settle freed_within fallen due_done tick state_after worked counted step sync_runs sync_run entered_2 runs start trace acted ran turn_of done_turn first_serving_2 serve_object state_start digits
every_error_run = refl

-- The first waiter by priority, whose size has no room, keeps those behind it waiting, until its time-out, its release
-- or a waiter's new priority lets another stand first, which is served at once, even in the tick of its own time-out.
first_without_room_script : Script
first_without_room_script = record {
  devices = [];
  pace = None;
  irqs = [];
  boot = record { body = 1; priority = 50 };
  bodies =
      record {
        name = codes "main";
        kind = kinds.Task;
        labels = [];
        stmts =
            stmts.Call names.TkCreMpl (args.List 128 ∷ args.Number (pos 64) ∷ []) ∷
            stmts.Call names.TkCreTsk (args.List 0 ∷ args.Body 2 ∷ args.Number (pos 30) ∷ args.Number (pos 512) ∷ []) ∷
            stmts.Call names.TkCreTsk (args.List 0 ∷ args.Body 2 ∷ args.Number (pos 20) ∷ args.Number (pos 512) ∷ []) ∷
            stmts.Call names.TkCreTsk (args.List 0 ∷ args.Body 2 ∷ args.Number (pos 40) ∷ args.Number (pos 512) ∷ []) ∷
            stmts.Call names.TkGetMpl (args.Number (pos 1) ∷ args.Number (pos 24) ∷ args.Number (negsuc 0) ∷ []) ∷
            stmts.Call names.TkGetMpl (args.Number (pos 1) ∷ args.Number (pos 16) ∷ args.Number (negsuc 0) ∷ []) ∷
            stmts.Call names.TkGetMpl (args.Number (pos 1) ∷ args.Number (pos 10) ∷ args.Number (negsuc 0) ∷ []) ∷
            stmts.Call names.TkStaTsk (args.Number (pos 4) ∷ args.Number (pos 16) ∷ []) ∷
            stmts.Call names.TkStaTsk (args.Number (pos 3) ∷ args.Number (pos 33) ∷ []) ∷
            stmts.Call names.TkStaTsk (args.Number (pos 2) ∷ args.Number (pos 8) ∷ []) ∷
            stmts.Call names.TkRefMpl (args.Number (pos 1) ∷ []) ∷
            stmts.Call names.TkGetMpl (args.Number (pos 1) ∷ args.Number (pos 8) ∷ args.Number (pos 0) ∷ []) ∷
            stmts.Call names.TkRelMpl (args.Number (pos 1) ∷ args.Number (pos 24) ∷ []) ∷
            stmts.Call names.TkRefMpl (args.Number (pos 1) ∷ []) ∷
            stmts.Call names.TkDlyTsk (args.Number (pos 2) ∷ []) ∷
            stmts.Call names.TkRefMpl (args.Number (pos 1) ∷ []) ∷
            stmts.Call names.TkStaTsk (args.Number (pos 3) ∷ args.Number (pos 64) ∷ []) ∷
            stmts.Call names.TkStaTsk (args.Number (pos 4) ∷ args.Number (pos 8) ∷ []) ∷
            stmts.Call names.TkChgPri (args.Number (pos 4) ∷ args.Number (pos 10) ∷ []) ∷
            stmts.Call names.TkStaTsk (args.Number (pos 2) ∷ args.Number (pos 3) ∷ []) ∷
            stmts.Call names.TkRelWai (args.Number (pos 3) ∷ []) ∷
            stmts.Call names.TkRefMpl (args.Number (pos 1) ∷ []) ∷
            stmts.Call names.TkStaTsk (args.Number (pos 2) ∷ args.Number (pos 1) ∷ []) ∷
            stmts.Call names.TkStaTsk (args.Number (pos 3) ∷ args.Number (pos 1) ∷ []) ∷
            stmts.Call names.TkRelMpl (args.Number (pos 1) ∷ args.Number (pos 0) ∷ []) ∷
            stmts.Call names.TkStaTsk (args.Number (pos 2) ∷ args.Number (pos 9) ∷ []) ∷
            stmts.Call names.TkStaTsk (args.Number (pos 3) ∷ args.Number (pos 9) ∷ []) ∷
            stmts.Call names.TkDelMpl (args.Number (pos 1) ∷ []) ∷
            [];
      } ∷
      record {
        name = codes "g";
        kind = kinds.Task;
        labels = [];
        stmts =
            stmts.Call names.TkGetMpl (args.Number (pos 1) ∷ args.Register 1 ∷ args.Number (pos 1) ∷ []) ∷
            [];
      } ∷
      [];
}

first_without_room_entries : List Entry
first_without_room_entries = []

first_without_room_lines : List ℕ
first_without_room_lines =
    codes "0 D 1\n" ++
    codes "1 C 1 tk_cre_mpl 1\n" ++
    codes "2 C 1 tk_cre_tsk 2\n" ++
    codes "3 C 1 tk_cre_tsk 3\n" ++
    codes "4 C 1 tk_cre_tsk 4\n" ++
    codes "5 C 1 tk_get_mpl 0\n" ++
    codes "6 C 1 tk_get_mpl 24\n" ++
    codes "7 C 1 tk_get_mpl 40\n" ++
    codes "8 C 1 tk_sta_tsk 0\n" ++
    codes "8 D 4\n" ++
    codes "9 B 4 tk_get_mpl\n" ++
    codes "9 D 1\n" ++
    codes "10 C 1 tk_sta_tsk 0\n" ++
    codes "10 D 3\n" ++
    codes "11 B 3 tk_get_mpl\n" ++
    codes "11 D 1\n" ++
    codes "12 C 1 tk_sta_tsk 0\n" ++
    codes "12 D 2\n" ++
    codes "13 B 2 tk_get_mpl\n" ++
    codes "13 D 1\n" ++
    codes "14 C 1 tk_ref_mpl 0 8 8 3\n" ++
    codes "15 C 1 tk_get_mpl E_TMOUT\n" ++
    codes "16 C 1 tk_rel_mpl 0\n" ++
    codes "17 C 1 tk_ref_mpl 0 24 16 3\n" ++
    codes "18 B 1 tk_dly_tsk\n" ++
    codes "18 D 0\n" ++
    codes "19 K 1\n" ++
    codes "20 K 2\n" ++
    codes "20 W 4 tk_get_mpl E_TMOUT\n" ++
    codes "20 W 3 tk_get_mpl E_TMOUT\n" ++
    codes "20 W 2 tk_get_mpl 24\n" ++
    codes "20 D 3\n" ++
    codes "21 C 3 tk_ext_tsk 0\n" ++
    codes "21 D 2\n" ++
    codes "22 C 2 tk_ext_tsk 0\n" ++
    codes "22 D 4\n" ++
    codes "23 C 4 tk_ext_tsk 0\n" ++
    codes "23 D 0\n" ++
    codes "24 K 3\n" ++
    codes "24 W 1 tk_dly_tsk 0\n" ++
    codes "24 D 1\n" ++
    codes "25 C 1 tk_ref_mpl 0 16 8 0\n" ++
    codes "26 C 1 tk_sta_tsk 0\n" ++
    codes "26 D 3\n" ++
    codes "27 B 3 tk_get_mpl\n" ++
    codes "27 D 1\n" ++
    codes "28 C 1 tk_sta_tsk 0\n" ++
    codes "28 D 4\n" ++
    codes "29 B 4 tk_get_mpl\n" ++
    codes "29 D 1\n" ++
    codes "30 C 1 tk_chg_pri 0\n" ++
    codes "30 W 4 tk_get_mpl 32\n" ++
    codes "30 D 4\n" ++
    codes "31 C 4 tk_ext_tsk 0\n" ++
    codes "31 D 1\n" ++
    codes "32 C 1 tk_sta_tsk 0\n" ++
    codes "32 D 2\n" ++
    codes "33 B 2 tk_get_mpl\n" ++
    codes "33 D 1\n" ++
    codes "34 C 1 tk_rel_wai 0\n" ++
    codes "34 W 3 tk_get_mpl E_RLWAI\n" ++
    codes "34 W 2 tk_get_mpl 56\n" ++
    codes "34 D 3\n" ++
    codes "35 C 3 tk_ext_tsk 0\n" ++
    codes "35 D 2\n" ++
    codes "36 C 2 tk_ext_tsk 0\n" ++
    codes "36 D 1\n" ++
    codes "37 C 1 tk_ref_mpl 0 0 0 0\n" ++
    codes "38 C 1 tk_sta_tsk 0\n" ++
    codes "38 D 2\n" ++
    codes "39 B 2 tk_get_mpl\n" ++
    codes "39 D 1\n" ++
    codes "40 C 1 tk_sta_tsk 0\n" ++
    codes "40 D 3\n" ++
    codes "41 B 3 tk_get_mpl\n" ++
    codes "41 D 1\n" ++
    codes "42 C 1 tk_rel_mpl 0\n" ++
    codes "42 W 3 tk_get_mpl 0\n" ++
    codes "42 W 2 tk_get_mpl 8\n" ++
    codes "42 D 3\n" ++
    codes "43 C 3 tk_ext_tsk 0\n" ++
    codes "43 D 2\n" ++
    codes "44 C 2 tk_ext_tsk 0\n" ++
    codes "44 D 1\n" ++
    codes "45 C 1 tk_sta_tsk 0\n" ++
    codes "45 D 2\n" ++
    codes "46 B 2 tk_get_mpl\n" ++
    codes "46 D 1\n" ++
    codes "47 C 1 tk_sta_tsk 0\n" ++
    codes "47 D 3\n" ++
    codes "48 B 3 tk_get_mpl\n" ++
    codes "48 D 1\n" ++
    codes "49 C 1 tk_del_mpl 0\n" ++
    codes "49 W 3 tk_get_mpl E_DLT\n" ++
    codes "49 W 2 tk_get_mpl E_DLT\n" ++
    codes "49 D 3\n" ++
    codes "50 C 3 tk_ext_tsk 0\n" ++
    codes "50 D 2\n" ++
    codes "51 C 2 tk_ext_tsk 0\n" ++
    codes "51 D 1\n" ++
    codes "52 C 1 tk_ext_tsk 0\n" ++
    codes "52 D 0\n" ++
    codes "52 END idle\n" ++
    []

first_without_room_run : text_of_lines (lines_of (trace first_without_room_script modes.Free 100000 first_without_room_entries)) ≡ first_without_room_lines
unfolding first_without_room_script first_without_room_entries first_without_room_lines text_of form_of named made task_call_name sem_flag_call_name mutex_call_name mail_call_name pool_call_name time_call_name context_call_name device_call_name hook_call_name name_of code_of error_text coded error_named attributes_of flag_mode_of open_mode_of suspend_mode_of is_name_byte name_at_most why_text value_text words_of text_of_line text_of_lines fetch give call_before create_sem create_flag end_first delete_sem delete_flag refer_sem refer_flag signal_sem set_flag clear_flag wait_sem wait_flag sem_flag_call serve_sem serve_flag first_served serve_sem_flag sem_trial flag_trial chosen free_task create_task delete_task start_task exit_task terminate_task change_priority rotate_ready get_task refer_task sleep delay wake_up cancel_wakeups release_wait suspend_task resume_task task_call mark_of allowed free_from first_serving serve_box serve_mailboxes serve_buffer serve_buffers post create_box delete_box send_box receive_box refer_box create_buffer delete_buffer send_buffer receive_buffer refer_buffer mail_call create_mutex lock_mutex unlock_mutex refer_mutex delete_mutex mutex_call change_priority_beside task_call_beside chain_has current_of resettle free_last ceiling_allows serve_mutex serve_mutexes create_fixed delete_fixed get_fixed release_fixed refer_fixed create_variable delete_variable get_variable release_variable refer_variable pool_call first_free serve_fixed serve_fixed_pools serve_variable serve_variable_pools set_time get_time get_operating_time create_cyclic start_cyclic stop_cyclic delete_cyclic refer_cyclic create_alarm start_alarm stop_alarm delete_alarm refer_alarm time_call body_of next_due again define_handler disable_dispatch enable_dispatch disable_interrupts enable_interrupts refer_system define_service refer_service enter_service context_call left list_existing list_ready list_queue set_hook hook_call open_device refer_device request request_whole wait_ending close_device suspend_devices device_call expected arrive hand_over hand_first messages emptied read_bytes write_bytes accept picked serve_acceptance serve_acceptances serve_ending serve_endings is_with_driver serve_close serve_closes serve_suspension events_sent free_descriptor free_request first_queued at_driver accepted dropped handed asked devices_start block is_last blocks unit cut may_cut arrived entered returned body_returned family_call answered called follow_release follow_each with_releases dispatched followed insert_once with_requests handler_begun due_begun interrupt_begun served_within settle freed_within fallen due_done tick state_after worked counted step sync_runs sync_run entered_2 runs start trace acted ran turn_of done_turn first_serving_2 serve_object state_start digits
first_without_room_run = refl

-- A variable pool gives the least offset where a size fits, and takes back what begins there.
least_gap_script : Script
least_gap_script = record {
  devices = [];
  pace = None;
  irqs = [];
  boot = record { body = 1; priority = 10 };
  bodies =
      record {
        name = codes "main";
        kind = kinds.Task;
        labels = [];
        stmts =
            stmts.Call names.TkCreMpl (args.List 0 ∷ args.Number (pos 64) ∷ []) ∷
            stmts.Call names.TkGetMpl (args.Number (pos 1) ∷ args.Number (pos 16) ∷ args.Number (pos 0) ∷ []) ∷
            stmts.Call names.TkGetMpl (args.Number (pos 1) ∷ args.Number (pos 17) ∷ args.Number (pos 0) ∷ []) ∷
            stmts.Call names.TkGetMpl (args.Number (pos 1) ∷ args.Number (pos 24) ∷ args.Number (pos 0) ∷ []) ∷
            stmts.Call names.TkRelMpl (args.Number (pos 1) ∷ args.Number (pos 16) ∷ []) ∷
            stmts.Call names.TkGetMpl (args.Number (pos 1) ∷ args.Number (pos 25) ∷ args.Number (pos 0) ∷ []) ∷
            stmts.Call names.TkGetMpl (args.Number (pos 1) ∷ args.Number (pos 18) ∷ args.Number (pos 0) ∷ []) ∷
            stmts.Call names.TkRelMpl (args.Number (pos 1) ∷ args.Number (pos 16) ∷ []) ∷
            stmts.Call names.TkRelMpl (args.Number (pos 1) ∷ args.Number (pos 16) ∷ []) ∷
            [];
      } ∷
      [];
}

least_gap_entries : List Entry
least_gap_entries = []

least_gap_lines : List ℕ
least_gap_lines =
    codes "0 D 1\n" ++
    codes "1 C 1 tk_cre_mpl 1\n" ++
    codes "2 C 1 tk_get_mpl 0\n" ++
    codes "3 C 1 tk_get_mpl 16\n" ++
    codes "4 C 1 tk_get_mpl 40\n" ++
    codes "5 C 1 tk_rel_mpl 0\n" ++
    codes "6 C 1 tk_get_mpl E_TMOUT\n" ++
    codes "7 C 1 tk_get_mpl 16\n" ++
    codes "8 C 1 tk_rel_mpl 0\n" ++
    codes "9 C 1 tk_rel_mpl E_PAR\n" ++
    codes "10 C 1 tk_ext_tsk 0\n" ++
    codes "10 D 0\n" ++
    codes "10 END idle\n" ++
    []

least_gap_run : text_of_lines (lines_of (trace least_gap_script modes.Free 100000 least_gap_entries)) ≡ least_gap_lines
unfolding least_gap_script least_gap_entries least_gap_lines text_of form_of named made task_call_name sem_flag_call_name mutex_call_name mail_call_name pool_call_name time_call_name context_call_name device_call_name hook_call_name name_of code_of error_text coded error_named attributes_of flag_mode_of open_mode_of suspend_mode_of is_name_byte name_at_most why_text value_text words_of text_of_line text_of_lines fetch give call_before create_sem create_flag end_first delete_sem delete_flag refer_sem refer_flag signal_sem set_flag clear_flag wait_sem wait_flag sem_flag_call serve_sem serve_flag first_served serve_sem_flag sem_trial flag_trial chosen free_task create_task delete_task start_task exit_task terminate_task change_priority rotate_ready get_task refer_task sleep delay wake_up cancel_wakeups release_wait suspend_task resume_task task_call mark_of allowed free_from first_serving serve_box serve_mailboxes serve_buffer serve_buffers post create_box delete_box send_box receive_box refer_box create_buffer delete_buffer send_buffer receive_buffer refer_buffer mail_call create_mutex lock_mutex unlock_mutex refer_mutex delete_mutex mutex_call change_priority_beside task_call_beside chain_has current_of resettle free_last ceiling_allows serve_mutex serve_mutexes create_fixed delete_fixed get_fixed release_fixed refer_fixed create_variable delete_variable get_variable release_variable refer_variable pool_call first_free serve_fixed serve_fixed_pools serve_variable serve_variable_pools set_time get_time get_operating_time create_cyclic start_cyclic stop_cyclic delete_cyclic refer_cyclic create_alarm start_alarm stop_alarm delete_alarm refer_alarm time_call body_of next_due again define_handler disable_dispatch enable_dispatch disable_interrupts enable_interrupts refer_system define_service refer_service enter_service context_call left list_existing list_ready list_queue set_hook hook_call open_device refer_device request request_whole wait_ending close_device suspend_devices device_call expected arrive hand_over hand_first messages emptied read_bytes write_bytes accept picked serve_acceptance serve_acceptances serve_ending serve_endings is_with_driver serve_close serve_closes serve_suspension events_sent free_descriptor free_request first_queued at_driver accepted dropped handed asked devices_start block is_last blocks unit cut may_cut arrived entered returned body_returned family_call answered called follow_release follow_each with_releases dispatched followed insert_once with_requests handler_begun due_begun interrupt_begun served_within settle freed_within fallen due_done tick state_after worked counted step sync_runs sync_run entered_2 runs start trace acted ran turn_of done_turn first_serving_2 serve_object state_start digits
least_gap_run = refl

-- Pools take simulated memory up to its last byte.
memory_used_up_script : Script
memory_used_up_script = record {
  devices = [];
  pace = None;
  irqs = [];
  boot = record { body = 1; priority = 10 };
  bodies =
      record {
        name = codes "main";
        kind = kinds.Task;
        labels = record { name = codes "again"; place = 1 } ∷ [];
        stmts =
            stmts.Compute operations.Set 5 (operands.Number (pos 0)) ∷
            stmts.Call names.TkCreMpl (args.List 0 ∷ args.Number (pos 65536) ∷ []) ∷
            stmts.Compute operations.Add 5 (operands.Number (pos 1)) ∷
            stmts.Jump (conditions.Less 5 (operands.Number (pos 16))) 0 ∷
            stmts.Call names.TkCreMpl (args.List 0 ∷ args.Number (pos 64512) ∷ []) ∷
            stmts.Call names.TkCreMpl (args.List 0 ∷ args.Number (pos 8) ∷ []) ∷
            [];
      } ∷
      [];
}

memory_used_up_entries : List Entry
memory_used_up_entries = []

memory_used_up_lines : List ℕ
memory_used_up_lines =
    codes "0 D 1\n" ++
    codes "2 C 1 tk_cre_mpl 1\n" ++
    codes "5 C 1 tk_cre_mpl 2\n" ++
    codes "8 C 1 tk_cre_mpl 3\n" ++
    codes "11 C 1 tk_cre_mpl 4\n" ++
    codes "14 C 1 tk_cre_mpl 5\n" ++
    codes "17 C 1 tk_cre_mpl 6\n" ++
    codes "20 C 1 tk_cre_mpl 7\n" ++
    codes "23 C 1 tk_cre_mpl 8\n" ++
    codes "26 C 1 tk_cre_mpl 9\n" ++
    codes "29 C 1 tk_cre_mpl 10\n" ++
    codes "32 C 1 tk_cre_mpl 11\n" ++
    codes "35 C 1 tk_cre_mpl 12\n" ++
    codes "38 C 1 tk_cre_mpl 13\n" ++
    codes "41 C 1 tk_cre_mpl 14\n" ++
    codes "44 C 1 tk_cre_mpl 15\n" ++
    codes "47 C 1 tk_cre_mpl E_NOMEM\n" ++
    codes "50 C 1 tk_cre_mpl 16\n" ++
    codes "51 C 1 tk_cre_mpl E_NOMEM\n" ++
    codes "52 C 1 tk_ext_tsk 0\n" ++
    codes "52 D 0\n" ++
    codes "52 END idle\n" ++
    []

memory_used_up_run : text_of_lines (lines_of (trace memory_used_up_script modes.Free 100000 memory_used_up_entries)) ≡ memory_used_up_lines
unfolding memory_used_up_script memory_used_up_entries memory_used_up_lines text_of form_of named made task_call_name sem_flag_call_name mutex_call_name mail_call_name pool_call_name time_call_name context_call_name device_call_name hook_call_name name_of code_of error_text coded error_named attributes_of flag_mode_of open_mode_of suspend_mode_of is_name_byte name_at_most why_text value_text words_of text_of_line text_of_lines fetch give call_before create_sem create_flag end_first delete_sem delete_flag refer_sem refer_flag signal_sem set_flag clear_flag wait_sem wait_flag sem_flag_call serve_sem serve_flag first_served serve_sem_flag sem_trial flag_trial chosen free_task create_task delete_task start_task exit_task terminate_task change_priority rotate_ready get_task refer_task sleep delay wake_up cancel_wakeups release_wait suspend_task resume_task task_call mark_of allowed free_from first_serving serve_box serve_mailboxes serve_buffer serve_buffers post create_box delete_box send_box receive_box refer_box create_buffer delete_buffer send_buffer receive_buffer refer_buffer mail_call create_mutex lock_mutex unlock_mutex refer_mutex delete_mutex mutex_call change_priority_beside task_call_beside chain_has current_of resettle free_last ceiling_allows serve_mutex serve_mutexes create_fixed delete_fixed get_fixed release_fixed refer_fixed create_variable delete_variable get_variable release_variable refer_variable pool_call first_free serve_fixed serve_fixed_pools serve_variable serve_variable_pools set_time get_time get_operating_time create_cyclic start_cyclic stop_cyclic delete_cyclic refer_cyclic create_alarm start_alarm stop_alarm delete_alarm refer_alarm time_call body_of next_due again define_handler disable_dispatch enable_dispatch disable_interrupts enable_interrupts refer_system define_service refer_service enter_service context_call left list_existing list_ready list_queue set_hook hook_call open_device refer_device request request_whole wait_ending close_device suspend_devices device_call expected arrive hand_over hand_first messages emptied read_bytes write_bytes accept picked serve_acceptance serve_acceptances serve_ending serve_endings is_with_driver serve_close serve_closes serve_suspension events_sent free_descriptor free_request first_queued at_driver accepted dropped handed asked devices_start block is_last blocks unit cut may_cut arrived entered returned body_returned family_call answered called follow_release follow_each with_releases dispatched followed insert_once with_requests handler_begun due_begun interrupt_begun served_within settle freed_within fallen due_done tick state_after worked counted step sync_runs sync_run entered_2 runs start trace acted ran turn_of done_turn first_serving_2 serve_object state_start digits
memory_used_up_run = refl

-- A block that is given back goes to the first waiter by priority; the waits of others end by release, deletion in that
-- order, and time-out, and a block stays out though the task that took it has ended.
waiters_for_blocks_script : Script
waiters_for_blocks_script = record {
  devices = [];
  pace = None;
  irqs = [];
  boot = record { body = 1; priority = 50 };
  bodies =
      record {
        name = codes "main";
        kind = kinds.Task;
        labels = [];
        stmts =
            stmts.Call names.TkCreMpf (args.List 128 ∷ args.Number (pos 2) ∷ args.Number (pos 16) ∷ []) ∷
            stmts.Call names.TkCreTsk (args.List 0 ∷ args.Body 2 ∷ args.Number (pos 30) ∷ args.Number (pos 512) ∷ []) ∷
            stmts.Call names.TkCreTsk (args.List 0 ∷ args.Body 2 ∷ args.Number (pos 20) ∷ args.Number (pos 512) ∷ []) ∷
            stmts.Call names.TkCreTsk (args.List 0 ∷ args.Body 2 ∷ args.Number (pos 20) ∷ args.Number (pos 512) ∷ []) ∷
            stmts.Call names.TkGetMpf (args.Number (pos 1) ∷ args.Number (negsuc 0) ∷ []) ∷
            stmts.Call names.TkGetMpf (args.Number (pos 1) ∷ args.Number (negsuc 0) ∷ []) ∷
            stmts.Call names.TkStaTsk (args.Number (pos 2) ∷ args.Number (pos 0) ∷ []) ∷
            stmts.Call names.TkStaTsk (args.Number (pos 3) ∷ args.Number (pos 0) ∷ []) ∷
            stmts.Call names.TkStaTsk (args.Number (pos 4) ∷ args.Number (pos 0) ∷ []) ∷
            stmts.Call names.TkRefMpf (args.Number (pos 1) ∷ []) ∷
            stmts.Call names.TkRelMpf (args.Number (pos 1) ∷ args.Number (pos 2) ∷ []) ∷
            stmts.Call names.TkRefMpf (args.Number (pos 1) ∷ []) ∷
            stmts.Call names.TkRelWai (args.Number (pos 4) ∷ []) ∷
            stmts.Call names.TkStaTsk (args.Number (pos 3) ∷ args.Number (pos 0) ∷ []) ∷
            stmts.Call names.TkTerTsk (args.Number (pos 3) ∷ []) ∷
            stmts.Call names.TkStaTsk (args.Number (pos 4) ∷ args.Number (pos 0) ∷ []) ∷
            stmts.Call names.TkDelMpf (args.Number (pos 1) ∷ []) ∷
            stmts.Call names.TkCreMpf (args.List 0 ∷ args.Number (pos 1) ∷ args.Number (pos 1) ∷ []) ∷
            stmts.Call names.TkGetMpf (args.Number (pos 1) ∷ args.Number (pos 1) ∷ []) ∷
            stmts.Call names.TkGetMpf (args.Number (pos 1) ∷ args.Number (pos 1) ∷ []) ∷
            [];
      } ∷
      record {
        name = codes "g";
        kind = kinds.Task;
        labels = [];
        stmts =
            stmts.Call names.TkGetMpf (args.Number (pos 1) ∷ args.Number (negsuc 0) ∷ []) ∷
            stmts.Call names.TkRelMpf (args.Number (pos 1) ∷ args.Register 0 ∷ []) ∷
            stmts.Call names.TkGetMpf (args.Number (pos 1) ∷ args.Number (pos 1) ∷ []) ∷
            [];
      } ∷
      [];
}

waiters_for_blocks_entries : List Entry
waiters_for_blocks_entries = []

waiters_for_blocks_lines : List ℕ
waiters_for_blocks_lines =
    codes "0 D 1\n" ++
    codes "1 C 1 tk_cre_mpf 1\n" ++
    codes "2 C 1 tk_cre_tsk 2\n" ++
    codes "3 C 1 tk_cre_tsk 3\n" ++
    codes "4 C 1 tk_cre_tsk 4\n" ++
    codes "5 C 1 tk_get_mpf 1\n" ++
    codes "6 C 1 tk_get_mpf 2\n" ++
    codes "7 C 1 tk_sta_tsk 0\n" ++
    codes "7 D 2\n" ++
    codes "8 B 2 tk_get_mpf\n" ++
    codes "8 D 1\n" ++
    codes "9 C 1 tk_sta_tsk 0\n" ++
    codes "9 D 3\n" ++
    codes "10 B 3 tk_get_mpf\n" ++
    codes "10 D 1\n" ++
    codes "11 C 1 tk_sta_tsk 0\n" ++
    codes "11 D 4\n" ++
    codes "12 B 4 tk_get_mpf\n" ++
    codes "12 D 1\n" ++
    codes "13 C 1 tk_ref_mpf 0 0 3\n" ++
    codes "14 C 1 tk_rel_mpf 0\n" ++
    codes "14 W 3 tk_get_mpf 2\n" ++
    codes "14 D 3\n" ++
    codes "15 C 3 tk_rel_mpf 0\n" ++
    codes "15 W 4 tk_get_mpf 2\n" ++
    codes "16 B 3 tk_get_mpf\n" ++
    codes "16 D 4\n" ++
    codes "17 C 4 tk_rel_mpf 0\n" ++
    codes "17 W 3 tk_get_mpf 2\n" ++
    codes "18 B 4 tk_get_mpf\n" ++
    codes "18 D 3\n" ++
    codes "19 C 3 tk_ext_tsk 0\n" ++
    codes "19 D 1\n" ++
    codes "20 C 1 tk_ref_mpf 0 0 4\n" ++
    codes "21 C 1 tk_rel_wai 0\n" ++
    codes "21 W 4 tk_get_mpf E_RLWAI\n" ++
    codes "21 D 4\n" ++
    codes "22 C 4 tk_ext_tsk 0\n" ++
    codes "22 D 1\n" ++
    codes "23 C 1 tk_sta_tsk 0\n" ++
    codes "23 D 3\n" ++
    codes "24 B 3 tk_get_mpf\n" ++
    codes "24 D 1\n" ++
    codes "25 C 1 tk_ter_tsk 0\n" ++
    codes "26 C 1 tk_sta_tsk 0\n" ++
    codes "26 D 4\n" ++
    codes "27 B 4 tk_get_mpf\n" ++
    codes "27 D 1\n" ++
    codes "28 C 1 tk_del_mpf 0\n" ++
    codes "28 W 4 tk_get_mpf E_DLT\n" ++
    codes "28 W 2 tk_get_mpf E_DLT\n" ++
    codes "28 D 4\n" ++
    codes "29 C 4 tk_rel_mpf E_PAR\n" ++
    codes "30 C 4 tk_get_mpf E_NOEXS\n" ++
    codes "31 C 4 tk_ext_tsk 0\n" ++
    codes "31 D 2\n" ++
    codes "32 C 2 tk_rel_mpf E_PAR\n" ++
    codes "33 C 2 tk_get_mpf E_NOEXS\n" ++
    codes "34 C 2 tk_ext_tsk 0\n" ++
    codes "34 D 1\n" ++
    codes "35 C 1 tk_cre_mpf 1\n" ++
    codes "36 C 1 tk_get_mpf 1\n" ++
    codes "37 B 1 tk_get_mpf\n" ++
    codes "37 D 0\n" ++
    codes "38 K 1\n" ++
    codes "39 K 2\n" ++
    codes "39 W 1 tk_get_mpf E_TMOUT\n" ++
    codes "39 D 1\n" ++
    codes "40 C 1 tk_ext_tsk 0\n" ++
    codes "40 D 0\n" ++
    codes "40 END idle\n" ++
    []

waiters_for_blocks_run : text_of_lines (lines_of (trace waiters_for_blocks_script modes.Free 100000 waiters_for_blocks_entries)) ≡ waiters_for_blocks_lines
unfolding waiters_for_blocks_script waiters_for_blocks_entries waiters_for_blocks_lines text_of form_of named made task_call_name sem_flag_call_name mutex_call_name mail_call_name pool_call_name time_call_name context_call_name device_call_name hook_call_name name_of code_of error_text coded error_named attributes_of flag_mode_of open_mode_of suspend_mode_of is_name_byte name_at_most why_text value_text words_of text_of_line text_of_lines fetch give call_before create_sem create_flag end_first delete_sem delete_flag refer_sem refer_flag signal_sem set_flag clear_flag wait_sem wait_flag sem_flag_call serve_sem serve_flag first_served serve_sem_flag sem_trial flag_trial chosen free_task create_task delete_task start_task exit_task terminate_task change_priority rotate_ready get_task refer_task sleep delay wake_up cancel_wakeups release_wait suspend_task resume_task task_call mark_of allowed free_from first_serving serve_box serve_mailboxes serve_buffer serve_buffers post create_box delete_box send_box receive_box refer_box create_buffer delete_buffer send_buffer receive_buffer refer_buffer mail_call create_mutex lock_mutex unlock_mutex refer_mutex delete_mutex mutex_call change_priority_beside task_call_beside chain_has current_of resettle free_last ceiling_allows serve_mutex serve_mutexes create_fixed delete_fixed get_fixed release_fixed refer_fixed create_variable delete_variable get_variable release_variable refer_variable pool_call first_free serve_fixed serve_fixed_pools serve_variable serve_variable_pools set_time get_time get_operating_time create_cyclic start_cyclic stop_cyclic delete_cyclic refer_cyclic create_alarm start_alarm stop_alarm delete_alarm refer_alarm time_call body_of next_due again define_handler disable_dispatch enable_dispatch disable_interrupts enable_interrupts refer_system define_service refer_service enter_service context_call left list_existing list_ready list_queue set_hook hook_call open_device refer_device request request_whole wait_ending close_device suspend_devices device_call expected arrive hand_over hand_first messages emptied read_bytes write_bytes accept picked serve_acceptance serve_acceptances serve_ending serve_endings is_with_driver serve_close serve_closes serve_suspension events_sent free_descriptor free_request first_queued at_driver accepted dropped handed asked devices_start block is_last blocks unit cut may_cut arrived entered returned body_returned family_call answered called follow_release follow_each with_releases dispatched followed insert_once with_requests handler_begun due_begun interrupt_begun served_within settle freed_within fallen due_done tick state_after worked counted step sync_runs sync_run entered_2 runs start trace acted ran turn_of done_turn first_serving_2 serve_object state_start digits
waiters_for_blocks_run = refl
