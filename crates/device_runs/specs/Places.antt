-- Runs that were worked out by hand from the rules, as runs/device/places has them: each a theorem by computation.
use Rattle.std.specs.Prelude.{ℕ, pos, negsuc, List, [], ◌∷◌, ◌++◌, Some, None, codes, ◌≡◌, refl}
use Rattle.std.specs.Fmt.{digits}
use Rattle.tk_types.specs.declared.script.Script.{Script}
use Rattle.tk_types.specs.declared.script.BodyKind.TheVariants as kinds
use Rattle.tk_types.specs.declared.script.Kind.TheVariants as devices
use Rattle.tk_types.specs.declared.script.Stmt.TheVariants as stmts
use Rattle.tk_types.specs.declared.script.Operand.TheVariants as operands
use Rattle.tk_types.specs.declared.script.Operation.TheVariants as operations
use Rattle.tk_types.specs.declared.script.Condition.TheVariants as conditions
use Rattle.tk_types.specs.declared.script.Arg.TheVariants as args
use Rattle.tk_types.specs.declared.call_name.CallName.TheVariants as names
use Rattle.tk_types.specs.declared.line.Entry.{Entry}
use Rattle.tk_types.specs.declared.line.How.TheVariants as hows
use Rattle.tk_types.specs.declared.run.Mode.TheVariants as modes
use Rattle.tk_types.specs.CallNames.{text_of, form_of, named}
use Rattle.tk_types.specs.Calls.{made, task_call_name, sem_flag_call_name, mutex_call_name, mail_call_name, pool_call_name, time_call_name, context_call_name, device_call_name, hook_call_name, name_of}
use Rattle.tk_types.specs.Codes.{code_of, error_text, coded, error_named}
use Rattle.tk_types.specs.Modes.{attributes_of, flag_mode_of, open_mode_of, suspend_mode_of}
use Rattle.tk_types.specs.Names.{is_name_byte, name_at_most}
use Rattle.tk_types.specs.Reasons.{why_text}
use Rattle.tk_model.specs.LineText.{value_text, words_of, text_of_line, text_of_lines}
use Rattle.kernel_model.specs.Bodies.Statements.{fetch, give, call_before}
use Rattle.kernel_model.specs.SemFlags.Calls.{create_sem, create_flag, end_first, delete_sem, delete_flag, refer_sem, refer_flag, signal_sem, set_flag, clear_flag, wait_sem, wait_flag, sem_flag_call}
use Rattle.kernel_model.specs.SemFlags.Tables.{serve_sem, serve_flag, first_served, serve_sem_flag}
use Rattle.kernel_model.specs.SemFlags.Trial.{sem_trial, flag_trial}
use Rattle.kernel_model.specs.Tasks.Base.{chosen, free_task}
use Rattle.kernel_model.specs.Tasks.Calls.{create_task, delete_task, start_task, exit_task, terminate_task, change_priority, rotate_ready, get_task, refer_task, sleep, delay, wake_up, cancel_wakeups, release_wait, suspend_task, resume_task, task_call}
use Rattle.kernel_model.specs.Tasks.Marks.{mark_of, allowed}
use Rattle.kernel_model.specs.Words.Orders.{free_from}
use Rattle.object_model.specs.Servings.{first_serving}
use Rattle.object_model.specs.Mails.Boxes.{serve_box, serve_mailboxes}
use Rattle.object_model.specs.Mails.Buffers.{serve_buffer, serve_buffers, post}
use Rattle.object_model.specs.Mails.Calls.{create_box, delete_box, send_box, receive_box, refer_box, create_buffer, delete_buffer, send_buffer, receive_buffer, refer_buffer, mail_call}
use Rattle.object_model.specs.Mutexes.Calls.{create_mutex, lock_mutex, unlock_mutex, refer_mutex, delete_mutex, mutex_call, change_priority_beside, task_call_beside}
use Rattle.object_model.specs.Mutexes.Priority.{chain_has, current_of, resettle}
use Rattle.object_model.specs.Mutexes.Tables.{free_last, ceiling_allows, serve_mutex, serve_mutexes}
use Rattle.object_model.specs.Pools.Calls.{create_fixed, delete_fixed, get_fixed, release_fixed, refer_fixed, create_variable, delete_variable, get_variable, release_variable, refer_variable, pool_call}
use Rattle.object_model.specs.Pools.Fixed.{first_free, serve_fixed, serve_fixed_pools}
use Rattle.object_model.specs.Pools.Variable.{serve_variable, serve_variable_pools}
use Rattle.context_model.specs.Clocks.Calls.{set_time, get_time, get_operating_time, create_cyclic, start_cyclic, stop_cyclic, delete_cyclic, refer_cyclic, create_alarm, start_alarm, stop_alarm, delete_alarm, refer_alarm, time_call}
use Rattle.context_model.specs.Clocks.Tables.{body_of, next_due, again}
use Rattle.context_model.specs.Contexts.Calls.{define_handler, disable_dispatch, enable_dispatch, disable_interrupts, enable_interrupts, refer_system, define_service, refer_service, enter_service, context_call}
use Rattle.context_model.specs.Contexts.Tables.{left}
use Rattle.context_model.specs.Hooks.Calls.{list_existing, list_ready, list_queue, set_hook, hook_call}
use Rattle.device_model.specs.Devices.Calls.{open_device, refer_device, request, request_whole, wait_ending, close_device, suspend_devices, device_call}
use Rattle.device_model.specs.Devices.Endings.{expected, arrive}
use Rattle.device_model.specs.Devices.Handing.{hand_over, hand_first, messages, emptied}
use Rattle.device_model.specs.Devices.Memory.{read_bytes, write_bytes}
use Rattle.device_model.specs.Devices.Requests.{accept, picked}
use Rattle.device_model.specs.Devices.Servings.{serve_acceptance, serve_acceptances, serve_ending, serve_endings, is_with_driver, serve_close, serve_closes, serve_suspension}
use Rattle.device_model.specs.Devices.Suspension.{events_sent}
use Rattle.device_model.specs.Devices.Tables.{free_descriptor, free_request, first_queued, at_driver, accepted, dropped, handed, asked, devices_start}
use Rattle.device_model.specs.Units.Blocks.{block, is_last, blocks}
use Rattle.device_model.specs.Units.Function.{unit, cut, may_cut}
use Rattle.machine_model.specs.Events.Arrivals.{arrived}
use Rattle.machine_model.specs.Events.Bodies.{entered, returned, body_returned}
use Rattle.machine_model.specs.Events.Calls.{family_call, answered, called}
use Rattle.machine_model.specs.Events.Follow.{follow_release, follow_each, with_releases, dispatched, followed}
use Rattle.machine_model.specs.Events.Handlers.{insert_once, with_requests, handler_begun, due_begun, interrupt_begun}
use Rattle.machine_model.specs.Events.Settle.{served_within, settle, freed_within}
use Rattle.machine_model.specs.Events.Ticks.{fallen, due_done, tick}
use Rattle.machine_model.specs.Runs.Reached.{state_after}
use Rattle.machine_model.specs.Runs.Step.{worked, counted, step}
use Rattle.machine_model.specs.Runs.SyncTrace.{sync_runs, sync_run}
use Rattle.machine_model.specs.Runs.Trace.{lines_of, entered as entered_2, runs, start, trace}
use Rattle.machine_model.specs.Runs.Turns.{acted, ran, turn_of, done_turn}
use Rattle.machine_model.specs.States.Objects.{first_serving as first_serving_2, serve_object}
use Rattle.machine_model.specs.States.State.{state_start}

-- A device takes sixteen unfinished requests; the next one finds no place.
seventeenth_request_script : Script
seventeenth_request_script = record {
  devices = record { name = codes "d"; kind = devices.Ram 64 } ∷ [];
  pace = None;
  irqs = [];
  boot = record { body = 1; priority = 10 };
  bodies =
      record {
        name = codes "main";
        kind = kinds.Task;
        labels = record { name = codes "again"; place = 2 } ∷ [];
        stmts =
            stmts.Call names.TkOpnDev (args.Name (codes "d") ∷ args.List 1 ∷ []) ∷
            stmts.Compute operations.Set 5 (operands.Number (pos 0)) ∷
            stmts.Call names.TkReaDev (args.Number (pos 1) ∷ args.Number (pos 0) ∷ args.Number (pos 0) ∷ args.Number (pos 4) ∷ args.Number (pos 0) ∷ []) ∷
            stmts.Compute operations.Add 5 (operands.Number (pos 1)) ∷
            stmts.Jump (conditions.Less 5 (operands.Number (pos 17))) 0 ∷
            stmts.Halt ∷
            [];
      } ∷
      [];
}

seventeenth_request_entries : List Entry
seventeenth_request_entries = []

seventeenth_request_lines : List ℕ
seventeenth_request_lines =
    codes "0 D 1\n" ++
    codes "1 C 1 tk_opn_dev 1\n" ++
    codes "3 C 1 tk_rea_dev 1\n" ++
    codes "6 C 1 tk_rea_dev 2\n" ++
    codes "9 C 1 tk_rea_dev 3\n" ++
    codes "12 C 1 tk_rea_dev 4\n" ++
    codes "15 C 1 tk_rea_dev 5\n" ++
    codes "18 C 1 tk_rea_dev 6\n" ++
    codes "21 C 1 tk_rea_dev 7\n" ++
    codes "24 C 1 tk_rea_dev 8\n" ++
    codes "27 C 1 tk_rea_dev 9\n" ++
    codes "30 C 1 tk_rea_dev 10\n" ++
    codes "33 C 1 tk_rea_dev 11\n" ++
    codes "36 C 1 tk_rea_dev 12\n" ++
    codes "39 C 1 tk_rea_dev 13\n" ++
    codes "42 C 1 tk_rea_dev 14\n" ++
    codes "45 C 1 tk_rea_dev 15\n" ++
    codes "48 C 1 tk_rea_dev 16\n" ++
    codes "51 C 1 tk_rea_dev E_TMOUT\n" ++
    codes "54 END halt\n" ++
    []

seventeenth_request_run : text_of_lines (lines_of (trace seventeenth_request_script modes.Free 100000 seventeenth_request_entries)) ≡ seventeenth_request_lines
unfolding seventeenth_request_script seventeenth_request_entries seventeenth_request_lines text_of form_of named made task_call_name sem_flag_call_name mutex_call_name mail_call_name pool_call_name time_call_name context_call_name device_call_name hook_call_name name_of code_of error_text coded error_named attributes_of flag_mode_of open_mode_of suspend_mode_of is_name_byte name_at_most why_text value_text words_of text_of_line text_of_lines fetch give call_before create_sem create_flag end_first delete_sem delete_flag refer_sem refer_flag signal_sem set_flag clear_flag wait_sem wait_flag sem_flag_call serve_sem serve_flag first_served serve_sem_flag sem_trial flag_trial chosen free_task create_task delete_task start_task exit_task terminate_task change_priority rotate_ready get_task refer_task sleep delay wake_up cancel_wakeups release_wait suspend_task resume_task task_call mark_of allowed free_from first_serving serve_box serve_mailboxes serve_buffer serve_buffers post create_box delete_box send_box receive_box refer_box create_buffer delete_buffer send_buffer receive_buffer refer_buffer mail_call create_mutex lock_mutex unlock_mutex refer_mutex delete_mutex mutex_call change_priority_beside task_call_beside chain_has current_of resettle free_last ceiling_allows serve_mutex serve_mutexes create_fixed delete_fixed get_fixed release_fixed refer_fixed create_variable delete_variable get_variable release_variable refer_variable pool_call first_free serve_fixed serve_fixed_pools serve_variable serve_variable_pools set_time get_time get_operating_time create_cyclic start_cyclic stop_cyclic delete_cyclic refer_cyclic create_alarm start_alarm stop_alarm delete_alarm refer_alarm time_call body_of next_due again define_handler disable_dispatch enable_dispatch disable_interrupts enable_interrupts refer_system define_service refer_service enter_service context_call left list_existing list_ready list_queue set_hook hook_call open_device refer_device request request_whole wait_ending close_device suspend_devices device_call expected arrive hand_over hand_first messages emptied read_bytes write_bytes accept picked serve_acceptance serve_acceptances serve_ending serve_endings is_with_driver serve_close serve_closes serve_suspension events_sent free_descriptor free_request first_queued at_driver accepted dropped handed asked devices_start block is_last blocks unit cut may_cut arrived entered returned body_returned family_call answered called follow_release follow_each with_releases dispatched followed insert_once with_requests handler_begun due_begun interrupt_begun served_within settle freed_within fallen due_done tick state_after worked counted step sync_runs sync_run entered_2 runs start trace acted ran turn_of done_turn first_serving_2 serve_object state_start digits
seventeenth_request_run = refl

-- Sixty-four requests are taken, ended ones that nobody claimed among them. The limit comes behind access and the wait of
-- another for any. A caller that waits for its place and then meets the limit ends with it, before an ending is claimed.
-- A wait for a place ends at its limit and by tk_rel_wai, too, and leaves no request.
sixty_four_script : Script
sixty_four_script = record {
  devices = record { name = codes "a"; kind = devices.Ram 64 } ∷ record { name = codes "b"; kind = devices.Ram 64 } ∷ [];
  pace = None;
  irqs = [];
  boot = record { body = 1; priority = 10 };
  bodies =
      record {
        name = codes "main";
        kind = kinds.Task;
        labels = record { name = codes "again"; place = 6 } ∷ record { name = codes "more"; place = 17 } ∷ [];
        stmts =
            stmts.Call names.TkCreTsk (args.List 0 ∷ args.Body 2 ∷ args.Number (pos 5) ∷ args.Number (pos 512) ∷ []) ∷
            stmts.Call names.TkCreTsk (args.List 0 ∷ args.Body 3 ∷ args.Number (pos 5) ∷ args.Number (pos 512) ∷ []) ∷
            stmts.Call names.TkCreTsk (args.List 0 ∷ args.Body 4 ∷ args.Number (pos 5) ∷ args.Number (pos 512) ∷ []) ∷
            stmts.Call names.TkCreTsk (args.List 0 ∷ args.Body 5 ∷ args.Number (pos 5) ∷ args.Number (pos 512) ∷ []) ∷
            stmts.Call names.TkOpnDev (args.Name (codes "a") ∷ args.List 1 ∷ []) ∷
            stmts.Call names.TkOpnDev (args.Name (codes "b") ∷ args.List 1 ∷ []) ∷
            stmts.Call names.TkReaDev (args.Number (pos 1) ∷ args.Number (pos 0) ∷ args.Number (pos 0) ∷ args.Number (pos 1) ∷ args.Number (negsuc 0) ∷ []) ∷
            stmts.Call names.TkReaDev (args.Number (pos 1) ∷ args.Number (pos 0) ∷ args.Number (pos 0) ∷ args.Number (pos 1) ∷ args.Number (negsuc 0) ∷ []) ∷
            stmts.Call names.TkReaDev (args.Number (pos 1) ∷ args.Number (pos 0) ∷ args.Number (pos 0) ∷ args.Number (pos 1) ∷ args.Number (negsuc 0) ∷ []) ∷
            stmts.Call names.TkReaDev (args.Number (pos 1) ∷ args.Number (pos 0) ∷ args.Number (pos 0) ∷ args.Number (pos 1) ∷ args.Number (negsuc 0) ∷ []) ∷
            stmts.Jump (conditions.NotEqual 0 (operands.Number (pos 16))) 0 ∷
            stmts.Call names.TkStaTsk (args.Number (pos 2) ∷ args.Number (pos 0) ∷ []) ∷
            stmts.Call names.TkStaTsk (args.Number (pos 3) ∷ args.Number (pos 0) ∷ []) ∷
            stmts.Call names.TkStaTsk (args.Number (pos 4) ∷ args.Number (pos 0) ∷ []) ∷
            stmts.Call names.TkDlyTsk (args.Number (pos 1) ∷ []) ∷
            stmts.Call names.TkRelWai (args.Number (pos 3) ∷ []) ∷
            stmts.Call names.TkStaTsk (args.Number (pos 5) ∷ args.Number (pos 0) ∷ []) ∷
            stmts.Call names.TkReaDev (args.Number (pos 2) ∷ args.Number (negsuc 0) ∷ args.Number (pos 0) ∷ args.Number (pos 0) ∷ args.Number (negsuc 0) ∷ []) ∷
            stmts.Call names.TkReaDev (args.Number (pos 2) ∷ args.Number (negsuc 0) ∷ args.Number (pos 0) ∷ args.Number (pos 0) ∷ args.Number (negsuc 0) ∷ []) ∷
            stmts.Call names.TkReaDev (args.Number (pos 2) ∷ args.Number (negsuc 0) ∷ args.Number (pos 0) ∷ args.Number (pos 0) ∷ args.Number (negsuc 0) ∷ []) ∷
            stmts.Call names.TkReaDev (args.Number (pos 2) ∷ args.Number (negsuc 0) ∷ args.Number (pos 0) ∷ args.Number (pos 0) ∷ args.Number (negsuc 0) ∷ []) ∷
            stmts.Call names.TkReaDev (args.Number (pos 2) ∷ args.Number (negsuc 0) ∷ args.Number (pos 0) ∷ args.Number (pos 0) ∷ args.Number (negsuc 0) ∷ []) ∷
            stmts.Call names.TkReaDev (args.Number (pos 2) ∷ args.Number (negsuc 0) ∷ args.Number (pos 0) ∷ args.Number (pos 0) ∷ args.Number (negsuc 0) ∷ []) ∷
            stmts.Call names.TkReaDev (args.Number (pos 2) ∷ args.Number (negsuc 0) ∷ args.Number (pos 0) ∷ args.Number (pos 0) ∷ args.Number (negsuc 0) ∷ []) ∷
            stmts.Call names.TkReaDev (args.Number (pos 2) ∷ args.Number (negsuc 0) ∷ args.Number (pos 0) ∷ args.Number (pos 0) ∷ args.Number (negsuc 0) ∷ []) ∷
            stmts.Jump (conditions.NotEqual 0 (operands.Number (pos 64))) 1 ∷
            stmts.Call names.TkSwriDev (args.Number (pos 1) ∷ args.Number (pos 0) ∷ args.Number (pos 0) ∷ args.Number (pos 1) ∷ []) ∷
            stmts.Call names.TkSreaDev (args.Number (pos 1) ∷ args.Number (pos 0) ∷ args.Number (pos 0) ∷ args.Number (pos 1) ∷ []) ∷
            stmts.Call names.TkReaDev (args.Number (pos 2) ∷ args.Number (negsuc 0) ∷ args.Number (pos 0) ∷ args.Number (pos 0) ∷ args.Number (pos 0) ∷ []) ∷
            stmts.Call names.TkSreaDev (args.Number (pos 2) ∷ args.Number (pos 0) ∷ args.Number (pos 0) ∷ args.Number (pos 1) ∷ []) ∷
            stmts.Call names.TkReaDev (args.Number (pos 1) ∷ args.Number (pos 0) ∷ args.Number (pos 0) ∷ args.Number (pos 1) ∷ args.Number (pos 0) ∷ []) ∷
            stmts.Call names.TkReaDev (args.Number (pos 1) ∷ args.Number (pos 0) ∷ args.Number (pos 0) ∷ args.Number (pos 1) ∷ args.Number (pos 0) ∷ []) ∷
            stmts.Halt ∷
            [];
      } ∷
      record {
        name = codes "late";
        kind = kinds.Task;
        labels = [];
        stmts =
            stmts.Call names.TkReaDev (args.Number (pos 1) ∷ args.Number (pos 0) ∷ args.Number (pos 0) ∷ args.Number (pos 1) ∷ args.Number (pos 1) ∷ []) ∷
            [];
      } ∷
      record {
        name = codes "freed";
        kind = kinds.Task;
        labels = [];
        stmts =
            stmts.Call names.TkSreaDev (args.Number (pos 1) ∷ args.Number (pos 0) ∷ args.Number (pos 0) ∷ args.Number (pos 1) ∷ []) ∷
            [];
      } ∷
      record {
        name = codes "full";
        kind = kinds.Task;
        labels = [];
        stmts =
            stmts.Call names.TkReaDev (args.Number (pos 1) ∷ args.Number (pos 0) ∷ args.Number (pos 0) ∷ args.Number (pos 1) ∷ args.Number (negsuc 0) ∷ []) ∷
            [];
      } ∷
      record {
        name = codes "any";
        kind = kinds.Task;
        labels = [];
        stmts =
            stmts.Call names.TkWaiDev (args.Number (pos 1) ∷ args.Number (pos 0) ∷ args.Number (negsuc 0) ∷ []) ∷
            [];
      } ∷
      [];
}

sixty_four_entries : List Entry
sixty_four_entries = record { place = 100; device = 1; request = 1; how = hows.Done } ∷ []

sixty_four_lines : List ℕ
sixty_four_lines =
    codes "0 D 1\n" ++
    codes "1 C 1 tk_cre_tsk 2\n" ++
    codes "2 C 1 tk_cre_tsk 3\n" ++
    codes "3 C 1 tk_cre_tsk 4\n" ++
    codes "4 C 1 tk_cre_tsk 5\n" ++
    codes "5 C 1 tk_opn_dev 1\n" ++
    codes "6 C 1 tk_opn_dev 2\n" ++
    codes "7 C 1 tk_rea_dev 1\n" ++
    codes "8 C 1 tk_rea_dev 2\n" ++
    codes "9 C 1 tk_rea_dev 3\n" ++
    codes "10 C 1 tk_rea_dev 4\n" ++
    codes "12 C 1 tk_rea_dev 5\n" ++
    codes "13 C 1 tk_rea_dev 6\n" ++
    codes "14 C 1 tk_rea_dev 7\n" ++
    codes "15 C 1 tk_rea_dev 8\n" ++
    codes "17 C 1 tk_rea_dev 9\n" ++
    codes "18 C 1 tk_rea_dev 10\n" ++
    codes "19 C 1 tk_rea_dev 11\n" ++
    codes "20 C 1 tk_rea_dev 12\n" ++
    codes "22 C 1 tk_rea_dev 13\n" ++
    codes "23 C 1 tk_rea_dev 14\n" ++
    codes "24 C 1 tk_rea_dev 15\n" ++
    codes "25 C 1 tk_rea_dev 16\n" ++
    codes "27 C 1 tk_sta_tsk 0\n" ++
    codes "27 D 2\n" ++
    codes "28 B 2 tk_rea_dev\n" ++
    codes "28 D 1\n" ++
    codes "29 C 1 tk_sta_tsk 0\n" ++
    codes "29 D 3\n" ++
    codes "30 B 3 tk_srea_dev\n" ++
    codes "30 D 1\n" ++
    codes "31 C 1 tk_sta_tsk 0\n" ++
    codes "31 D 4\n" ++
    codes "32 B 4 tk_rea_dev\n" ++
    codes "32 D 1\n" ++
    codes "33 B 1 tk_dly_tsk\n" ++
    codes "33 D 0\n" ++
    codes "34 K 1\n" ++
    codes "35 K 2\n" ++
    codes "35 W 2 tk_rea_dev E_TMOUT\n" ++
    codes "35 W 1 tk_dly_tsk 0\n" ++
    codes "35 D 2\n" ++
    codes "36 C 2 tk_ext_tsk 0\n" ++
    codes "36 D 1\n" ++
    codes "37 C 1 tk_rel_wai 0\n" ++
    codes "37 W 3 tk_srea_dev E_RLWAI\n" ++
    codes "37 D 3\n" ++
    codes "38 C 3 tk_ext_tsk 0\n" ++
    codes "38 D 1\n" ++
    codes "39 C 1 tk_sta_tsk 0\n" ++
    codes "39 D 5\n" ++
    codes "40 B 5 tk_wai_dev\n" ++
    codes "40 D 1\n" ++
    codes "41 C 1 tk_rea_dev 17\n" ++
    codes "42 C 1 tk_rea_dev 18\n" ++
    codes "43 C 1 tk_rea_dev 19\n" ++
    codes "44 C 1 tk_rea_dev 20\n" ++
    codes "45 C 1 tk_rea_dev 21\n" ++
    codes "46 C 1 tk_rea_dev 22\n" ++
    codes "47 C 1 tk_rea_dev 23\n" ++
    codes "48 C 1 tk_rea_dev 24\n" ++
    codes "50 C 1 tk_rea_dev 25\n" ++
    codes "51 C 1 tk_rea_dev 26\n" ++
    codes "52 C 1 tk_rea_dev 27\n" ++
    codes "53 C 1 tk_rea_dev 28\n" ++
    codes "54 C 1 tk_rea_dev 29\n" ++
    codes "55 C 1 tk_rea_dev 30\n" ++
    codes "56 C 1 tk_rea_dev 31\n" ++
    codes "57 C 1 tk_rea_dev 32\n" ++
    codes "59 C 1 tk_rea_dev 33\n" ++
    codes "60 C 1 tk_rea_dev 34\n" ++
    codes "61 C 1 tk_rea_dev 35\n" ++
    codes "62 C 1 tk_rea_dev 36\n" ++
    codes "63 C 1 tk_rea_dev 37\n" ++
    codes "64 C 1 tk_rea_dev 38\n" ++
    codes "65 C 1 tk_rea_dev 39\n" ++
    codes "66 C 1 tk_rea_dev 40\n" ++
    codes "68 C 1 tk_rea_dev 41\n" ++
    codes "69 C 1 tk_rea_dev 42\n" ++
    codes "70 C 1 tk_rea_dev 43\n" ++
    codes "71 C 1 tk_rea_dev 44\n" ++
    codes "72 C 1 tk_rea_dev 45\n" ++
    codes "73 C 1 tk_rea_dev 46\n" ++
    codes "74 C 1 tk_rea_dev 47\n" ++
    codes "75 C 1 tk_rea_dev 48\n" ++
    codes "77 C 1 tk_rea_dev 49\n" ++
    codes "78 C 1 tk_rea_dev 50\n" ++
    codes "79 C 1 tk_rea_dev 51\n" ++
    codes "80 C 1 tk_rea_dev 52\n" ++
    codes "81 C 1 tk_rea_dev 53\n" ++
    codes "82 C 1 tk_rea_dev 54\n" ++
    codes "83 C 1 tk_rea_dev 55\n" ++
    codes "84 C 1 tk_rea_dev 56\n" ++
    codes "86 C 1 tk_rea_dev 57\n" ++
    codes "87 C 1 tk_rea_dev 58\n" ++
    codes "88 C 1 tk_rea_dev 59\n" ++
    codes "89 C 1 tk_rea_dev 60\n" ++
    codes "90 C 1 tk_rea_dev 61\n" ++
    codes "91 C 1 tk_rea_dev 62\n" ++
    codes "92 C 1 tk_rea_dev 63\n" ++
    codes "93 C 1 tk_rea_dev 64\n" ++
    codes "95 C 1 tk_swri_dev E_OACV\n" ++
    codes "96 C 1 tk_srea_dev E_OBJ\n" ++
    codes "97 C 1 tk_rea_dev E_LIMIT\n" ++
    codes "98 C 1 tk_srea_dev E_LIMIT\n" ++
    codes "99 C 1 tk_rea_dev E_LIMIT\n" ++
    codes "100 J 1 1 done 0 1\n" ++
    codes "100 W 4 tk_rea_dev E_LIMIT\n" ++
    codes "100 W 5 tk_wai_dev 1 1 0\n" ++
    codes "100 D 4\n" ++
    codes "100 C 4 tk_ext_tsk 0\n" ++
    codes "100 D 5\n" ++
    codes "101 C 5 tk_ext_tsk 0\n" ++
    codes "101 D 1\n" ++
    codes "102 C 1 tk_rea_dev 1\n" ++
    codes "103 END halt\n" ++
    []

sixty_four_run : text_of_lines (lines_of (trace sixty_four_script modes.Free 100000 sixty_four_entries)) ≡ sixty_four_lines
unfolding sixty_four_script sixty_four_entries sixty_four_lines text_of form_of named made task_call_name sem_flag_call_name mutex_call_name mail_call_name pool_call_name time_call_name context_call_name device_call_name hook_call_name name_of code_of error_text coded error_named attributes_of flag_mode_of open_mode_of suspend_mode_of is_name_byte name_at_most why_text value_text words_of text_of_line text_of_lines fetch give call_before create_sem create_flag end_first delete_sem delete_flag refer_sem refer_flag signal_sem set_flag clear_flag wait_sem wait_flag sem_flag_call serve_sem serve_flag first_served serve_sem_flag sem_trial flag_trial chosen free_task create_task delete_task start_task exit_task terminate_task change_priority rotate_ready get_task refer_task sleep delay wake_up cancel_wakeups release_wait suspend_task resume_task task_call mark_of allowed free_from first_serving serve_box serve_mailboxes serve_buffer serve_buffers post create_box delete_box send_box receive_box refer_box create_buffer delete_buffer send_buffer receive_buffer refer_buffer mail_call create_mutex lock_mutex unlock_mutex refer_mutex delete_mutex mutex_call change_priority_beside task_call_beside chain_has current_of resettle free_last ceiling_allows serve_mutex serve_mutexes create_fixed delete_fixed get_fixed release_fixed refer_fixed create_variable delete_variable get_variable release_variable refer_variable pool_call first_free serve_fixed serve_fixed_pools serve_variable serve_variable_pools set_time get_time get_operating_time create_cyclic start_cyclic stop_cyclic delete_cyclic refer_cyclic create_alarm start_alarm stop_alarm delete_alarm refer_alarm time_call body_of next_due again define_handler disable_dispatch enable_dispatch disable_interrupts enable_interrupts refer_system define_service refer_service enter_service context_call left list_existing list_ready list_queue set_hook hook_call open_device refer_device request request_whole wait_ending close_device suspend_devices device_call expected arrive hand_over hand_first messages emptied read_bytes write_bytes accept picked serve_acceptance serve_acceptances serve_ending serve_endings is_with_driver serve_close serve_closes serve_suspension events_sent free_descriptor free_request first_queued at_driver accepted dropped handed asked devices_start block is_last blocks unit cut may_cut arrived entered returned body_returned family_call answered called follow_release follow_each with_releases dispatched followed insert_once with_requests handler_begun due_begun interrupt_begun served_within settle freed_within fallen due_done tick state_after worked counted step sync_runs sync_run entered_2 runs start trace acted ran turn_of done_turn first_serving_2 serve_object state_start digits
sixty_four_run = refl

-- Where a device has sixteen unfinished requests, further callers wait in their order, whatever their priorities; they have
-- no request yet. The data to write are those at the acceptance. A request for the event buffer waits, too, and takes no
-- place: the next caller is accepted with it, before its ending is claimed.
waits_for_a_place_script : Script
waits_for_a_place_script = record {
  devices = record { name = codes "d"; kind = devices.Ram 64 } ∷ [];
  pace = None;
  irqs = [];
  boot = record { body = 1; priority = 10 };
  bodies =
      record {
        name = codes "main";
        kind = kinds.Task;
        labels = record { name = codes "again"; place = 5 } ∷ [];
        stmts =
            stmts.Call names.TkCreTsk (args.List 0 ∷ args.Body 2 ∷ args.Number (pos 5) ∷ args.Number (pos 512) ∷ []) ∷
            stmts.Call names.TkCreTsk (args.List 0 ∷ args.Body 3 ∷ args.Number (pos 4) ∷ args.Number (pos 512) ∷ []) ∷
            stmts.Call names.TkCreTsk (args.List 0 ∷ args.Body 4 ∷ args.Number (pos 3) ∷ args.Number (pos 512) ∷ []) ∷
            stmts.Call names.TkOpnDev (args.Name (codes "d") ∷ args.List 4 ∷ []) ∷
            stmts.Call names.TkOpnDev (args.Name (codes "d") ∷ args.List 1 ∷ []) ∷
            stmts.Call names.TkReaDev (args.Number (pos 1) ∷ args.Number (pos 0) ∷ args.Number (pos 8) ∷ args.Number (pos 1) ∷ args.Number (negsuc 0) ∷ []) ∷
            stmts.Call names.TkReaDev (args.Number (pos 1) ∷ args.Number (pos 0) ∷ args.Number (pos 8) ∷ args.Number (pos 1) ∷ args.Number (negsuc 0) ∷ []) ∷
            stmts.Call names.TkReaDev (args.Number (pos 1) ∷ args.Number (pos 0) ∷ args.Number (pos 8) ∷ args.Number (pos 1) ∷ args.Number (negsuc 0) ∷ []) ∷
            stmts.Call names.TkReaDev (args.Number (pos 1) ∷ args.Number (pos 0) ∷ args.Number (pos 8) ∷ args.Number (pos 1) ∷ args.Number (negsuc 0) ∷ []) ∷
            stmts.Jump (conditions.NotEqual 0 (operands.Number (pos 16))) 0 ∷
            stmts.Store (operands.Number (pos 0)) (operands.Number (pos 65)) ∷
            stmts.Call names.TkStaTsk (args.Number (pos 2) ∷ args.Number (pos 0) ∷ []) ∷
            stmts.Call names.TkStaTsk (args.Number (pos 3) ∷ args.Number (pos 0) ∷ []) ∷
            stmts.Call names.TkStaTsk (args.Number (pos 4) ∷ args.Number (pos 0) ∷ []) ∷
            stmts.Call names.TkWaiDev (args.Number (pos 1) ∷ args.Number (pos 0) ∷ args.Number (pos 0) ∷ []) ∷
            stmts.Call names.TkWaiDev (args.Number (pos 2) ∷ args.Number (pos 0) ∷ args.Number (pos 0) ∷ []) ∷
            stmts.Store (operands.Number (pos 0)) (operands.Number (pos 66)) ∷
            stmts.Call names.TkReaDev (args.Number (pos 1) ∷ args.Number (pos 0) ∷ args.Number (pos 8) ∷ args.Number (pos 1) ∷ args.Number (pos 0) ∷ []) ∷
            stmts.Call names.TkWaiDev (args.Number (pos 1) ∷ args.Number (pos 1) ∷ args.Number (pos 0) ∷ []) ∷
            stmts.Call names.TkWaiDev (args.Number (pos 2) ∷ args.Number (pos 19) ∷ args.Number (pos 0) ∷ []) ∷
            [];
      } ∷
      record {
        name = codes "wr";
        kind = kinds.Task;
        labels = [];
        stmts =
            stmts.Call names.TkWriDev (args.Number (pos 1) ∷ args.Number (pos 0) ∷ args.Number (pos 0) ∷ args.Number (pos 1) ∷ args.Number (negsuc 0) ∷ []) ∷
            [];
      } ∷
      record {
        name = codes "ev";
        kind = kinds.Task;
        labels = [];
        stmts =
            stmts.Call names.TkSreaDev (args.Number (pos 1) ∷ args.Number (negsuc 0) ∷ args.Number (pos 40) ∷ args.Number (pos 4) ∷ []) ∷
            [];
      } ∷
      record {
        name = codes "sy";
        kind = kinds.Task;
        labels = [];
        stmts =
            stmts.Call names.TkSreaDev (args.Number (pos 2) ∷ args.Number (pos 0) ∷ args.Number (pos 50) ∷ args.Number (pos 1) ∷ []) ∷
            stmts.Load 5 (operands.Number (pos 50)) ∷
            stmts.Show (operands.Register 5) ∷
            [];
      } ∷
      [];
}

waits_for_a_place_entries : List Entry
waits_for_a_place_entries = record { place = 36; device = 1; request = 1; how = hows.Done } ∷ record { place = 37; device = 1; request = 2; how = hows.Done } ∷ record { place = 42; device = 1; request = 3; how = hows.Done } ∷ record { place = 42; device = 1; request = 4; how = hows.Done } ∷ record { place = 42; device = 1; request = 5; how = hows.Done } ∷ record { place = 42; device = 1; request = 6; how = hows.Done } ∷ record { place = 42; device = 1; request = 7; how = hows.Done } ∷ record { place = 42; device = 1; request = 8; how = hows.Done } ∷ record { place = 42; device = 1; request = 9; how = hows.Done } ∷ record { place = 42; device = 1; request = 10; how = hows.Done } ∷ record { place = 42; device = 1; request = 11; how = hows.Done } ∷ record { place = 42; device = 1; request = 12; how = hows.Done } ∷ record { place = 42; device = 1; request = 13; how = hows.Done } ∷ record { place = 42; device = 1; request = 14; how = hows.Done } ∷ record { place = 42; device = 1; request = 15; how = hows.Done } ∷ record { place = 42; device = 1; request = 16; how = hows.Done } ∷ record { place = 42; device = 1; request = 17; how = hows.Done } ∷ record { place = 42; device = 1; request = 19; how = hows.Done } ∷ []

waits_for_a_place_lines : List ℕ
waits_for_a_place_lines =
    codes "0 D 1\n" ++
    codes "1 C 1 tk_cre_tsk 2\n" ++
    codes "2 C 1 tk_cre_tsk 3\n" ++
    codes "3 C 1 tk_cre_tsk 4\n" ++
    codes "4 C 1 tk_opn_dev 1\n" ++
    codes "5 C 1 tk_opn_dev 2\n" ++
    codes "6 C 1 tk_rea_dev 1\n" ++
    codes "7 C 1 tk_rea_dev 2\n" ++
    codes "8 C 1 tk_rea_dev 3\n" ++
    codes "9 C 1 tk_rea_dev 4\n" ++
    codes "11 C 1 tk_rea_dev 5\n" ++
    codes "12 C 1 tk_rea_dev 6\n" ++
    codes "13 C 1 tk_rea_dev 7\n" ++
    codes "14 C 1 tk_rea_dev 8\n" ++
    codes "16 C 1 tk_rea_dev 9\n" ++
    codes "17 C 1 tk_rea_dev 10\n" ++
    codes "18 C 1 tk_rea_dev 11\n" ++
    codes "19 C 1 tk_rea_dev 12\n" ++
    codes "21 C 1 tk_rea_dev 13\n" ++
    codes "22 C 1 tk_rea_dev 14\n" ++
    codes "23 C 1 tk_rea_dev 15\n" ++
    codes "24 C 1 tk_rea_dev 16\n" ++
    codes "27 C 1 tk_sta_tsk 0\n" ++
    codes "27 D 2\n" ++
    codes "28 B 2 tk_wri_dev\n" ++
    codes "28 D 1\n" ++
    codes "29 C 1 tk_sta_tsk 0\n" ++
    codes "29 D 3\n" ++
    codes "30 B 3 tk_srea_dev\n" ++
    codes "30 D 1\n" ++
    codes "31 C 1 tk_sta_tsk 0\n" ++
    codes "31 D 4\n" ++
    codes "32 B 4 tk_srea_dev\n" ++
    codes "32 D 1\n" ++
    codes "33 C 1 tk_wai_dev E_OBJ\n" ++
    codes "34 C 1 tk_wai_dev E_NOEXS\n" ++
    codes "36 J 1 1 done 0 1\n" ++
    codes "36 W 2 tk_wri_dev 17\n" ++
    codes "36 D 2\n" ++
    codes "36 C 2 tk_ext_tsk 0\n" ++
    codes "36 D 1\n" ++
    codes "37 J 1 2 done 0 1\n" ++
    codes "37 W 3 tk_srea_dev 4\n" ++
    codes "37 D 3\n" ++
    codes "37 C 3 tk_ext_tsk 0\n" ++
    codes "37 D 1\n" ++
    codes "38 C 1 tk_rea_dev E_TMOUT\n" ++
    codes "39 C 1 tk_wai_dev 1 1 0\n" ++
    codes "40 C 1 tk_wai_dev E_OBJ\n" ++
    codes "41 C 1 tk_ext_tsk 0\n" ++
    codes "41 D 0\n" ++
    codes "42 J 1 3 done 0 1\n" ++
    codes "42 J 1 4 done 0 1\n" ++
    codes "42 J 1 5 done 0 1\n" ++
    codes "42 J 1 6 done 0 1\n" ++
    codes "42 J 1 7 done 0 1\n" ++
    codes "42 J 1 8 done 0 1\n" ++
    codes "42 J 1 9 done 0 1\n" ++
    codes "42 J 1 10 done 0 1\n" ++
    codes "42 J 1 11 done 0 1\n" ++
    codes "42 J 1 12 done 0 1\n" ++
    codes "42 J 1 13 done 0 1\n" ++
    codes "42 J 1 14 done 0 1\n" ++
    codes "42 J 1 15 done 0 1\n" ++
    codes "42 J 1 16 done 0 1\n" ++
    codes "42 J 1 17 done 0 1\n" ++
    codes "42 J 1 19 done 0 1\n" ++
    codes "42 W 4 tk_srea_dev 1\n" ++
    codes "42 D 4\n" ++
    codes "43 S 4 66\n" ++
    codes "44 C 4 tk_ext_tsk 0\n" ++
    codes "44 D 0\n" ++
    codes "44 END idle\n" ++
    []

waits_for_a_place_run : text_of_lines (lines_of (trace waits_for_a_place_script modes.Free 100000 waits_for_a_place_entries)) ≡ waits_for_a_place_lines
unfolding waits_for_a_place_script waits_for_a_place_entries waits_for_a_place_lines text_of form_of named made task_call_name sem_flag_call_name mutex_call_name mail_call_name pool_call_name time_call_name context_call_name device_call_name hook_call_name name_of code_of error_text coded error_named attributes_of flag_mode_of open_mode_of suspend_mode_of is_name_byte name_at_most why_text value_text words_of text_of_line text_of_lines fetch give call_before create_sem create_flag end_first delete_sem delete_flag refer_sem refer_flag signal_sem set_flag clear_flag wait_sem wait_flag sem_flag_call serve_sem serve_flag first_served serve_sem_flag sem_trial flag_trial chosen free_task create_task delete_task start_task exit_task terminate_task change_priority rotate_ready get_task refer_task sleep delay wake_up cancel_wakeups release_wait suspend_task resume_task task_call mark_of allowed free_from first_serving serve_box serve_mailboxes serve_buffer serve_buffers post create_box delete_box send_box receive_box refer_box create_buffer delete_buffer send_buffer receive_buffer refer_buffer mail_call create_mutex lock_mutex unlock_mutex refer_mutex delete_mutex mutex_call change_priority_beside task_call_beside chain_has current_of resettle free_last ceiling_allows serve_mutex serve_mutexes create_fixed delete_fixed get_fixed release_fixed refer_fixed create_variable delete_variable get_variable release_variable refer_variable pool_call first_free serve_fixed serve_fixed_pools serve_variable serve_variable_pools set_time get_time get_operating_time create_cyclic start_cyclic stop_cyclic delete_cyclic refer_cyclic create_alarm start_alarm stop_alarm delete_alarm refer_alarm time_call body_of next_due again define_handler disable_dispatch enable_dispatch disable_interrupts enable_interrupts refer_system define_service refer_service enter_service context_call left list_existing list_ready list_queue set_hook hook_call open_device refer_device request request_whole wait_ending close_device suspend_devices device_call expected arrive hand_over hand_first messages emptied read_bytes write_bytes accept picked serve_acceptance serve_acceptances serve_ending serve_endings is_with_driver serve_close serve_closes serve_suspension events_sent free_descriptor free_request first_queued at_driver accepted dropped handed asked devices_start block is_last blocks unit cut may_cut arrived entered returned body_returned family_call answered called follow_release follow_each with_releases dispatched followed insert_once with_requests handler_begun due_begun interrupt_begun served_within settle freed_within fallen due_done tick state_after worked counted step sync_runs sync_run entered_2 runs start trace acted ran turn_of done_turn first_serving_2 serve_object state_start digits
waits_for_a_place_run = refl
