-- Runs that were worked out by hand from the rules, as runs/device/requests has them: each a theorem by computation.
use Rattle.std.specs.Prelude.{ℕ, pos, negsuc, List, [], ◌∷◌, ◌++◌, Some, None, codes, ◌≡◌, refl}
use Rattle.std.specs.Fmt.{digits}
use Rattle.tk_types.specs.declared.script.Script.{Script}
use Rattle.tk_types.specs.declared.script.BodyKind.TheVariants as kinds
use Rattle.tk_types.specs.declared.script.Kind.TheVariants as devices
use Rattle.tk_types.specs.declared.script.Stmt.TheVariants as stmts
use Rattle.tk_types.specs.declared.script.Operand.TheVariants as operands
use Rattle.tk_types.specs.declared.script.Operation.TheVariants as operations
use Rattle.tk_types.specs.declared.script.Condition.TheVariants as conditions
use Rattle.tk_types.specs.declared.script.Arg.TheVariants as args
use Rattle.tk_types.specs.declared.call_name.CallName.TheVariants as names
use Rattle.tk_types.specs.declared.line.Entry.{Entry}
use Rattle.tk_types.specs.declared.line.How.TheVariants as hows
use Rattle.tk_types.specs.declared.run.Mode.TheVariants as modes
use Rattle.tk_types.specs.CallNames.{text_of, form_of, named}
use Rattle.tk_types.specs.Calls.{made, task_call_name, sem_flag_call_name, mutex_call_name, mail_call_name, pool_call_name, time_call_name, context_call_name, device_call_name, hook_call_name, name_of}
use Rattle.tk_types.specs.Codes.{code_of, error_text, coded, error_named}
use Rattle.tk_types.specs.Modes.{attributes_of, flag_mode_of, open_mode_of, suspend_mode_of}
use Rattle.tk_types.specs.Names.{is_name_byte, name_at_most}
use Rattle.tk_types.specs.Reasons.{why_text}
use Rattle.tk_model.specs.LineText.{value_text, words_of, text_of_line, text_of_lines}
use Rattle.kernel_model.specs.Bodies.Statements.{fetch, give, call_before}
use Rattle.kernel_model.specs.SemFlags.Calls.{create_sem, create_flag, end_first, delete_sem, delete_flag, refer_sem, refer_flag, signal_sem, set_flag, clear_flag, wait_sem, wait_flag, sem_flag_call}
use Rattle.kernel_model.specs.SemFlags.Tables.{serve_sem, serve_flag, first_served, serve_sem_flag}
use Rattle.kernel_model.specs.SemFlags.Trial.{sem_trial, flag_trial}
use Rattle.kernel_model.specs.Tasks.Base.{chosen, free_task}
use Rattle.kernel_model.specs.Tasks.Calls.{create_task, delete_task, start_task, exit_task, terminate_task, change_priority, rotate_ready, get_task, refer_task, sleep, delay, wake_up, cancel_wakeups, release_wait, suspend_task, resume_task, task_call}
use Rattle.kernel_model.specs.Tasks.Marks.{mark_of, allowed}
use Rattle.kernel_model.specs.Words.Orders.{free_from}
use Rattle.object_model.specs.Servings.{first_serving}
use Rattle.object_model.specs.Mails.Boxes.{serve_box, serve_mailboxes}
use Rattle.object_model.specs.Mails.Buffers.{serve_buffer, serve_buffers, post}
use Rattle.object_model.specs.Mails.Calls.{create_box, delete_box, send_box, receive_box, refer_box, create_buffer, delete_buffer, send_buffer, receive_buffer, refer_buffer, mail_call}
use Rattle.object_model.specs.Mutexes.Calls.{create_mutex, lock_mutex, unlock_mutex, refer_mutex, delete_mutex, mutex_call, change_priority_beside, task_call_beside}
use Rattle.object_model.specs.Mutexes.Priority.{chain_has, current_of, resettle}
use Rattle.object_model.specs.Mutexes.Tables.{free_last, ceiling_allows, serve_mutex, serve_mutexes}
use Rattle.object_model.specs.Pools.Calls.{create_fixed, delete_fixed, get_fixed, release_fixed, refer_fixed, create_variable, delete_variable, get_variable, release_variable, refer_variable, pool_call}
use Rattle.object_model.specs.Pools.Fixed.{first_free, serve_fixed, serve_fixed_pools}
use Rattle.object_model.specs.Pools.Variable.{serve_variable, serve_variable_pools}
use Rattle.context_model.specs.Clocks.Calls.{set_time, get_time, get_operating_time, create_cyclic, start_cyclic, stop_cyclic, delete_cyclic, refer_cyclic, create_alarm, start_alarm, stop_alarm, delete_alarm, refer_alarm, time_call}
use Rattle.context_model.specs.Clocks.Tables.{body_of, next_due, again}
use Rattle.context_model.specs.Contexts.Calls.{define_handler, disable_dispatch, enable_dispatch, disable_interrupts, enable_interrupts, refer_system, define_service, refer_service, enter_service, context_call}
use Rattle.context_model.specs.Contexts.Tables.{left}
use Rattle.context_model.specs.Hooks.Calls.{list_existing, list_ready, list_queue, set_hook, hook_call}
use Rattle.device_model.specs.Devices.Calls.{open_device, refer_device, request, request_whole, wait_ending, close_device, suspend_devices, device_call}
use Rattle.device_model.specs.Devices.Endings.{expected, arrive}
use Rattle.device_model.specs.Devices.Handing.{hand_over, hand_first, messages, emptied}
use Rattle.device_model.specs.Devices.Memory.{read_bytes, write_bytes}
use Rattle.device_model.specs.Devices.Requests.{accept, picked}
use Rattle.device_model.specs.Devices.Servings.{serve_acceptance, serve_acceptances, serve_ending, serve_endings, is_with_driver, serve_close, serve_closes, serve_suspension}
use Rattle.device_model.specs.Devices.Suspension.{events_sent}
use Rattle.device_model.specs.Devices.Tables.{free_descriptor, free_request, first_queued, at_driver, accepted, dropped, handed, asked, devices_start}
use Rattle.device_model.specs.Units.Blocks.{block, is_last, blocks}
use Rattle.device_model.specs.Units.Function.{unit, cut, may_cut}
use Rattle.machine_model.specs.Events.Arrivals.{arrived}
use Rattle.machine_model.specs.Events.Bodies.{entered, returned, body_returned}
use Rattle.machine_model.specs.Events.Calls.{family_call, answered, called}
use Rattle.machine_model.specs.Events.Follow.{follow_release, follow_each, with_releases, dispatched, followed}
use Rattle.machine_model.specs.Events.Handlers.{insert_once, with_requests, handler_begun, due_begun, interrupt_begun}
use Rattle.machine_model.specs.Events.Settle.{served_within, settle, freed_within}
use Rattle.machine_model.specs.Events.Ticks.{fallen, due_done, tick}
use Rattle.machine_model.specs.Runs.Reached.{state_after}
use Rattle.machine_model.specs.Runs.Step.{worked, counted, step}
use Rattle.machine_model.specs.Runs.SyncTrace.{sync_runs, sync_run}
use Rattle.machine_model.specs.Runs.Trace.{lines_of, entered as entered_2, runs, start, trace}
use Rattle.machine_model.specs.Runs.Turns.{acted, ran, turn_of, done_turn}
use Rattle.machine_model.specs.States.Objects.{first_serving as first_serving_2, serve_object}
use Rattle.machine_model.specs.States.State.{state_start}

-- A request takes the least free number, which is free again at its claim. A claim for any takes the earliest ended one,
-- whatever its number. Data to write are those at the acceptance; data read land at the ending.
claims_script : Script
claims_script = record {
  devices = record { name = codes "d"; kind = devices.Ram 64 } ∷ [];
  pace = None;
  irqs = [];
  boot = record { body = 1; priority = 10 };
  bodies =
      record {
        name = codes "main";
        kind = kinds.Task;
        labels = [];
        stmts =
            stmts.Call names.TkOpnDev (args.Name (codes "d") ∷ args.List 4 ∷ []) ∷
            stmts.Store (operands.Number (pos 0)) (operands.Number (pos 65)) ∷
            stmts.Call names.TkWriDev (args.Number (pos 1) ∷ args.Number (pos 0) ∷ args.Number (pos 0) ∷ args.Number (pos 1) ∷ args.Number (negsuc 0) ∷ []) ∷
            stmts.Store (operands.Number (pos 0)) (operands.Number (pos 66)) ∷
            stmts.Call names.TkWriDev (args.Number (pos 1) ∷ args.Number (pos 1) ∷ args.Number (pos 0) ∷ args.Number (pos 1) ∷ args.Number (negsuc 0) ∷ []) ∷
            stmts.Store (operands.Number (pos 0)) (operands.Number (pos 67)) ∷
            stmts.Call names.TkReaDev (args.Number (pos 1) ∷ args.Number (pos 0) ∷ args.Number (pos 8) ∷ args.Number (pos 2) ∷ args.Number (negsuc 0) ∷ []) ∷
            stmts.Call names.TkReaDev (args.Number (pos 1) ∷ args.Number (negsuc 0) ∷ args.Number (pos 16) ∷ args.Number (pos 4) ∷ args.Number (negsuc 0) ∷ []) ∷
            stmts.Call names.TkWaiDev (args.Number (pos 1) ∷ args.Number (pos 0) ∷ args.Number (negsuc 0) ∷ []) ∷
            stmts.Call names.TkWaiDev (args.Number (pos 1) ∷ args.Number (pos 1) ∷ args.Number (negsuc 0) ∷ []) ∷
            stmts.Call names.TkReaDev (args.Number (pos 1) ∷ args.Number (pos 0) ∷ args.Number (pos 12) ∷ args.Number (pos 1) ∷ args.Number (negsuc 0) ∷ []) ∷
            stmts.Call names.TkReaDev (args.Number (pos 1) ∷ args.Number (pos 64) ∷ args.Number (pos 13) ∷ args.Number (pos 1) ∷ args.Number (negsuc 0) ∷ []) ∷
            stmts.Call names.TkWaiDev (args.Number (pos 1) ∷ args.Number (pos 3) ∷ args.Number (pos 0) ∷ []) ∷
            stmts.Load 5 (operands.Number (pos 9)) ∷
            stmts.Show (operands.Register 5) ∷
            stmts.Load 5 (operands.Number (pos 9)) ∷
            stmts.Show (operands.Register 5) ∷
            stmts.Call names.TkWaiDev (args.Number (pos 1) ∷ args.Number (pos 4) ∷ args.Number (pos 0) ∷ []) ∷
            stmts.Call names.TkWaiDev (args.Number (pos 1) ∷ args.Number (pos 0) ∷ args.Number (pos 0) ∷ []) ∷
            stmts.Call names.TkWaiDev (args.Number (pos 1) ∷ args.Number (pos 0) ∷ args.Number (pos 0) ∷ []) ∷
            stmts.Call names.TkWaiDev (args.Number (pos 1) ∷ args.Number (pos 0) ∷ args.Number (pos 0) ∷ []) ∷
            stmts.Call names.TkWaiDev (args.Number (pos 1) ∷ args.Number (pos 0) ∷ args.Number (pos 0) ∷ []) ∷
            stmts.Load 5 (operands.Number (pos 8)) ∷
            stmts.Show (operands.Register 5) ∷
            [];
      } ∷
      [];
}

claims_entries : List Entry
claims_entries = record { place = 10; device = 1; request = 1; how = hows.Done } ∷ record { place = 16; device = 1; request = 2; how = hows.Done } ∷ record { place = 16; device = 1; request = 3; how = hows.Done } ∷ record { place = 16; device = 1; request = 1; how = hows.Done } ∷ record { place = 16; device = 1; request = 4; how = hows.Done } ∷ []

claims_lines : List ℕ
claims_lines =
    codes "0 D 1\n" ++
    codes "1 C 1 tk_opn_dev 1\n" ++
    codes "3 C 1 tk_wri_dev 1\n" ++
    codes "5 C 1 tk_wri_dev 2\n" ++
    codes "7 C 1 tk_rea_dev 3\n" ++
    codes "8 C 1 tk_rea_dev 4\n" ++
    codes "9 C 1 tk_wai_dev 4 4 0\n" ++
    codes "10 J 1 1 done 0 1\n" ++
    codes "10 C 1 tk_wai_dev 1 1 0\n" ++
    codes "11 C 1 tk_rea_dev 1\n" ++
    codes "12 C 1 tk_rea_dev 4\n" ++
    codes "13 C 1 tk_wai_dev E_TMOUT\n" ++
    codes "15 S 1 0\n" ++
    codes "16 J 1 2 done 0 1\n" ++
    codes "16 J 1 3 done 0 2\n" ++
    codes "16 J 1 1 done 0 1\n" ++
    codes "16 J 1 4 done E_PAR 0\n" ++
    codes "17 S 1 66\n" ++
    codes "18 C 1 tk_wai_dev 4 0 -17\n" ++
    codes "19 C 1 tk_wai_dev 2 1 0\n" ++
    codes "20 C 1 tk_wai_dev 3 2 0\n" ++
    codes "21 C 1 tk_wai_dev 1 1 0\n" ++
    codes "22 C 1 tk_wai_dev E_NOEXS\n" ++
    codes "24 S 1 65\n" ++
    codes "25 C 1 tk_ext_tsk 0\n" ++
    codes "25 D 0\n" ++
    codes "25 END idle\n" ++
    []

claims_run : text_of_lines (lines_of (trace claims_script modes.Free 100000 claims_entries)) ≡ claims_lines
unfolding claims_script claims_entries claims_lines text_of form_of named made task_call_name sem_flag_call_name mutex_call_name mail_call_name pool_call_name time_call_name context_call_name device_call_name hook_call_name name_of code_of error_text coded error_named attributes_of flag_mode_of open_mode_of suspend_mode_of is_name_byte name_at_most why_text value_text words_of text_of_line text_of_lines fetch give call_before create_sem create_flag end_first delete_sem delete_flag refer_sem refer_flag signal_sem set_flag clear_flag wait_sem wait_flag sem_flag_call serve_sem serve_flag first_served serve_sem_flag sem_trial flag_trial chosen free_task create_task delete_task start_task exit_task terminate_task change_priority rotate_ready get_task refer_task sleep delay wake_up cancel_wakeups release_wait suspend_task resume_task task_call mark_of allowed free_from first_serving serve_box serve_mailboxes serve_buffer serve_buffers post create_box delete_box send_box receive_box refer_box create_buffer delete_buffer send_buffer receive_buffer refer_buffer mail_call create_mutex lock_mutex unlock_mutex refer_mutex delete_mutex mutex_call change_priority_beside task_call_beside chain_has current_of resettle free_last ceiling_allows serve_mutex serve_mutexes create_fixed delete_fixed get_fixed release_fixed refer_fixed create_variable delete_variable get_variable release_variable refer_variable pool_call first_free serve_fixed serve_fixed_pools serve_variable serve_variable_pools set_time get_time get_operating_time create_cyclic start_cyclic stop_cyclic delete_cyclic refer_cyclic create_alarm start_alarm stop_alarm delete_alarm refer_alarm time_call body_of next_due again define_handler disable_dispatch enable_dispatch disable_interrupts enable_interrupts refer_system define_service refer_service enter_service context_call left list_existing list_ready list_queue set_hook hook_call open_device refer_device request request_whole wait_ending close_device suspend_devices device_call expected arrive hand_over hand_first messages emptied read_bytes write_bytes accept picked serve_acceptance serve_acceptances serve_ending serve_endings is_with_driver serve_close serve_closes serve_suspension events_sent free_descriptor free_request first_queued at_driver accepted dropped handed asked devices_start block is_last blocks unit cut may_cut arrived entered returned body_returned family_call answered called follow_release follow_each with_releases dispatched followed insert_once with_requests handler_begun due_begun interrupt_begun served_within settle freed_within fallen due_done tick state_after worked counted step sync_runs sync_run entered_2 runs start trace acted ran turn_of done_turn first_serving_2 serve_object state_start digits
claims_run = refl

-- The errors of a claim in their order. It is refused where another task waits for that request or for any of the
-- descriptor; one for any also where a task waits in a call that reads or writes and waits. These calls are refused where
-- a task waits for any. What other descriptors do doesn't count.
refused_claims_script : Script
refused_claims_script = record {
  devices = record { name = codes "d"; kind = devices.Ram 64 } ∷ [];
  pace = None;
  irqs = [];
  boot = record { body = 1; priority = 10 };
  bodies =
      record {
        name = codes "main";
        kind = kinds.Task;
        labels = [];
        stmts =
            stmts.Call names.TkCreTsk (args.List 0 ∷ args.Body 2 ∷ args.Number (pos 5) ∷ args.Number (pos 512) ∷ []) ∷
            stmts.Call names.TkCreTsk (args.List 0 ∷ args.Body 3 ∷ args.Number (pos 5) ∷ args.Number (pos 512) ∷ []) ∷
            stmts.Call names.TkOpnDev (args.Name (codes "d") ∷ args.List 1 ∷ []) ∷
            stmts.Call names.TkOpnDev (args.Name (codes "d") ∷ args.List 4 ∷ []) ∷
            stmts.Call names.TkWaiDev (args.Number (pos 0) ∷ args.Number (pos 65) ∷ args.Number (negsuc 1) ∷ []) ∷
            stmts.Call names.TkWaiDev (args.Number (pos 3) ∷ args.Number (pos 65) ∷ args.Number (negsuc 1) ∷ []) ∷
            stmts.Call names.TkWaiDev (args.Number (pos 3) ∷ args.Number (pos 64) ∷ args.Number (negsuc 1) ∷ []) ∷
            stmts.Call names.TkDisDsp ([]) ∷
            stmts.Call names.TkWaiDev (args.Number (pos 3) ∷ args.Number (pos 64) ∷ args.Number (pos 0) ∷ []) ∷
            stmts.Call names.TkEnaDsp ([]) ∷
            stmts.Call names.TkWaiDev (args.Number (pos 3) ∷ args.Number (pos 64) ∷ args.Number (pos 0) ∷ []) ∷
            stmts.Call names.TkWaiDev (args.Number (pos 1) ∷ args.Number (pos 1) ∷ args.Number (pos 0) ∷ []) ∷
            stmts.Call names.TkWaiDev (args.Number (pos 1) ∷ args.Number (pos 0) ∷ args.Number (pos 0) ∷ []) ∷
            stmts.Call names.TkReaDev (args.Number (pos 1) ∷ args.Number (pos 0) ∷ args.Number (pos 0) ∷ args.Number (pos 4) ∷ args.Number (negsuc 0) ∷ []) ∷
            stmts.Call names.TkWaiDev (args.Number (pos 2) ∷ args.Number (pos 1) ∷ args.Number (pos 0) ∷ []) ∷
            stmts.Call names.TkWaiDev (args.Number (pos 2) ∷ args.Number (pos 0) ∷ args.Number (negsuc 0) ∷ []) ∷
            stmts.Call names.TkStaTsk (args.Number (pos 2) ∷ args.Number (pos 0) ∷ []) ∷
            stmts.Call names.TkWaiDev (args.Number (pos 1) ∷ args.Number (pos 1) ∷ args.Number (pos 0) ∷ []) ∷
            stmts.Call names.TkWaiDev (args.Number (pos 1) ∷ args.Number (pos 0) ∷ args.Number (pos 0) ∷ []) ∷
            stmts.Call names.TkSreaDev (args.Number (pos 1) ∷ args.Number (pos 0) ∷ args.Number (pos 0) ∷ args.Number (pos 4) ∷ []) ∷
            stmts.Call names.TkSwriDev (args.Number (pos 1) ∷ args.Number (pos 0) ∷ args.Number (pos 0) ∷ args.Number (pos 4) ∷ []) ∷
            stmts.Call names.TkReaDev (args.Number (pos 1) ∷ args.Number (pos 0) ∷ args.Number (pos 8) ∷ args.Number (pos 4) ∷ args.Number (pos 0) ∷ []) ∷
            stmts.Call names.TkWaiDev (args.Number (pos 1) ∷ args.Number (pos 9) ∷ args.Number (pos 0) ∷ []) ∷
            stmts.Call names.TkStaTsk (args.Number (pos 3) ∷ args.Number (pos 0) ∷ []) ∷
            stmts.Call names.TkWaiDev (args.Number (pos 1) ∷ args.Number (pos 1) ∷ args.Number (pos 0) ∷ []) ∷
            stmts.Call names.TkWaiDev (args.Number (pos 1) ∷ args.Number (pos 0) ∷ args.Number (pos 0) ∷ []) ∷
            stmts.Call names.TkWaiDev (args.Number (pos 1) ∷ args.Number (pos 2) ∷ args.Number (pos 0) ∷ []) ∷
            stmts.Call names.TkSwriDev (args.Number (pos 2) ∷ args.Number (pos 0) ∷ args.Number (pos 0) ∷ args.Number (pos 4) ∷ []) ∷
            stmts.Call names.TkWaiDev (args.Number (pos 1) ∷ args.Number (pos 0) ∷ args.Number (pos 0) ∷ []) ∷
            [];
      } ∷
      record {
        name = codes "any";
        kind = kinds.Task;
        labels = [];
        stmts =
            stmts.Call names.TkWaiDev (args.Number (pos 1) ∷ args.Number (pos 0) ∷ args.Number (negsuc 0) ∷ []) ∷
            [];
      } ∷
      record {
        name = codes "reads";
        kind = kinds.Task;
        labels = [];
        stmts =
            stmts.Call names.TkSreaDev (args.Number (pos 1) ∷ args.Number (pos 0) ∷ args.Number (pos 16) ∷ args.Number (pos 4) ∷ []) ∷
            [];
      } ∷
      [];
}

refused_claims_entries : List Entry
refused_claims_entries = record { place = 25; device = 1; request = 1; how = hows.Done } ∷ record { place = 32; device = 1; request = 2; how = hows.Done } ∷ record { place = 32; device = 1; request = 1; how = hows.Done } ∷ record { place = 33; device = 1; request = 3; how = hows.Done } ∷ []

refused_claims_lines : List ℕ
refused_claims_lines =
    codes "0 D 1\n" ++
    codes "1 C 1 tk_cre_tsk 2\n" ++
    codes "2 C 1 tk_cre_tsk 3\n" ++
    codes "3 C 1 tk_opn_dev 1\n" ++
    codes "4 C 1 tk_opn_dev 2\n" ++
    codes "5 C 1 tk_wai_dev E_ID\n" ++
    codes "6 C 1 tk_wai_dev E_ID\n" ++
    codes "7 C 1 tk_wai_dev E_PAR\n" ++
    codes "8 C 1 tk_dis_dsp 0\n" ++
    codes "9 C 1 tk_wai_dev E_CTX\n" ++
    codes "10 C 1 tk_ena_dsp 0\n" ++
    codes "11 C 1 tk_wai_dev E_ID\n" ++
    codes "12 C 1 tk_wai_dev E_ID\n" ++
    codes "13 C 1 tk_wai_dev E_NOEXS\n" ++
    codes "14 C 1 tk_rea_dev 1\n" ++
    codes "15 C 1 tk_wai_dev E_ID\n" ++
    codes "16 C 1 tk_wai_dev E_NOEXS\n" ++
    codes "17 C 1 tk_sta_tsk 0\n" ++
    codes "17 D 2\n" ++
    codes "18 B 2 tk_wai_dev\n" ++
    codes "18 D 1\n" ++
    codes "19 C 1 tk_wai_dev E_OBJ\n" ++
    codes "20 C 1 tk_wai_dev E_OBJ\n" ++
    codes "21 C 1 tk_srea_dev E_OBJ\n" ++
    codes "22 C 1 tk_swri_dev E_OACV\n" ++
    codes "23 C 1 tk_rea_dev 2\n" ++
    codes "24 C 1 tk_wai_dev E_ID\n" ++
    codes "25 J 1 1 done 0 4\n" ++
    codes "25 W 2 tk_wai_dev 1 4 0\n" ++
    codes "25 D 2\n" ++
    codes "25 C 2 tk_ext_tsk 0\n" ++
    codes "25 D 1\n" ++
    codes "26 C 1 tk_sta_tsk 0\n" ++
    codes "26 D 3\n" ++
    codes "27 B 3 tk_srea_dev\n" ++
    codes "27 D 1\n" ++
    codes "28 C 1 tk_wai_dev E_OBJ\n" ++
    codes "29 C 1 tk_wai_dev E_OBJ\n" ++
    codes "30 C 1 tk_wai_dev E_TMOUT\n" ++
    codes "31 B 1 tk_swri_dev\n" ++
    codes "31 D 0\n" ++
    codes "32 J 1 2 done 0 4\n" ++
    codes "32 J 1 1 done 0 4\n" ++
    codes "32 W 3 tk_srea_dev 4\n" ++
    codes "32 D 3\n" ++
    codes "32 C 3 tk_ext_tsk 0\n" ++
    codes "32 D 0\n" ++
    codes "33 J 1 3 done 0 4\n" ++
    codes "33 W 1 tk_swri_dev 4\n" ++
    codes "33 D 1\n" ++
    codes "33 C 1 tk_wai_dev 2 4 0\n" ++
    codes "34 C 1 tk_ext_tsk 0\n" ++
    codes "34 D 0\n" ++
    codes "34 END idle\n" ++
    []

refused_claims_run : text_of_lines (lines_of (trace refused_claims_script modes.Free 100000 refused_claims_entries)) ≡ refused_claims_lines
unfolding refused_claims_script refused_claims_entries refused_claims_lines text_of form_of named made task_call_name sem_flag_call_name mutex_call_name mail_call_name pool_call_name time_call_name context_call_name device_call_name hook_call_name name_of code_of error_text coded error_named attributes_of flag_mode_of open_mode_of suspend_mode_of is_name_byte name_at_most why_text value_text words_of text_of_line text_of_lines fetch give call_before create_sem create_flag end_first delete_sem delete_flag refer_sem refer_flag signal_sem set_flag clear_flag wait_sem wait_flag sem_flag_call serve_sem serve_flag first_served serve_sem_flag sem_trial flag_trial chosen free_task create_task delete_task start_task exit_task terminate_task change_priority rotate_ready get_task refer_task sleep delay wake_up cancel_wakeups release_wait suspend_task resume_task task_call mark_of allowed free_from first_serving serve_box serve_mailboxes serve_buffer serve_buffers post create_box delete_box send_box receive_box refer_box create_buffer delete_buffer send_buffer receive_buffer refer_buffer mail_call create_mutex lock_mutex unlock_mutex refer_mutex delete_mutex mutex_call change_priority_beside task_call_beside chain_has current_of resettle free_last ceiling_allows serve_mutex serve_mutexes create_fixed delete_fixed get_fixed release_fixed refer_fixed create_variable delete_variable get_variable release_variable refer_variable pool_call first_free serve_fixed serve_fixed_pools serve_variable serve_variable_pools set_time get_time get_operating_time create_cyclic start_cyclic stop_cyclic delete_cyclic refer_cyclic create_alarm start_alarm stop_alarm delete_alarm refer_alarm time_call body_of next_due again define_handler disable_dispatch enable_dispatch disable_interrupts enable_interrupts refer_system define_service refer_service enter_service context_call left list_existing list_ready list_queue set_hook hook_call open_device refer_device request request_whole wait_ending close_device suspend_devices device_call expected arrive hand_over hand_first messages emptied read_bytes write_bytes accept picked serve_acceptance serve_acceptances serve_ending serve_endings is_with_driver serve_close serve_closes serve_suspension events_sent free_descriptor free_request first_queued at_driver accepted dropped handed asked devices_start block is_last blocks unit cut may_cut arrived entered returned body_returned family_call answered called follow_release follow_each with_releases dispatched followed insert_once with_requests handler_begun due_begun interrupt_begun served_within settle freed_within fallen due_done tick state_after worked counted step sync_runs sync_run entered_2 runs start trace acted ran turn_of done_turn first_serving_2 serve_object state_start digits
refused_claims_run = refl

-- The errors of the four calls that make a request, in their order: a number that is no descriptor's, another number out of
-- its range, the context, a descriptor that isn't open, an access that it doesn't have.
refused_requests_script : Script
refused_requests_script = record {
  devices = record { name = codes "d"; kind = devices.Ram 64 } ∷ [];
  pace = None;
  irqs = record { step = 19; number = 1 } ∷ [];
  boot = record { body = 1; priority = 10 };
  bodies =
      record {
        name = codes "main";
        kind = kinds.Task;
        labels = [];
        stmts =
            stmts.Call names.TkDefInt (args.Number (pos 1) ∷ args.Body 2 ∷ []) ∷
            stmts.Call names.TkOpnDev (args.Name (codes "d") ∷ args.List 1 ∷ []) ∷
            stmts.Call names.TkOpnDev (args.Name (codes "d") ∷ args.List 2 ∷ []) ∷
            stmts.Call names.TkReaDev (args.Number (pos 0) ∷ args.Number (negsuc 1) ∷ args.Number (pos 0) ∷ args.Number (pos 8) ∷ args.Number (negsuc 0) ∷ []) ∷
            stmts.Call names.TkWriDev (args.Number (pos 33) ∷ args.Number (pos 0) ∷ args.Number (pos 65529) ∷ args.Number (pos 8) ∷ args.Number (negsuc 1) ∷ []) ∷
            stmts.Call names.TkReaDev (args.Number (pos 3) ∷ args.Number (negsuc 1) ∷ args.Number (pos 0) ∷ args.Number (pos 8) ∷ args.Number (negsuc 0) ∷ []) ∷
            stmts.Call names.TkWriDev (args.Number (pos 3) ∷ args.Number (pos 0) ∷ args.Number (pos 65529) ∷ args.Number (pos 8) ∷ args.Number (negsuc 0) ∷ []) ∷
            stmts.Call names.TkSreaDev (args.Number (pos 3) ∷ args.Number (pos 0) ∷ args.Number (pos 0) ∷ args.Number (negsuc 0) ∷ []) ∷
            stmts.Call names.TkSwriDev (args.Number (pos 3) ∷ args.Number (pos 0) ∷ args.Number (negsuc 0) ∷ args.Number (pos 1) ∷ []) ∷
            stmts.Call names.TkReaDev (args.Number (pos 3) ∷ args.Number (pos 0) ∷ args.Number (pos 0) ∷ args.Number (pos 4) ∷ args.Number (negsuc 1) ∷ []) ∷
            stmts.Call names.Di ([]) ∷
            stmts.Call names.TkReaDev (args.Number (pos 3) ∷ args.Number (pos 0) ∷ args.Number (pos 0) ∷ args.Number (pos 4) ∷ args.Number (pos 0) ∷ []) ∷
            stmts.Call names.TkSwriDev (args.Number (pos 1) ∷ args.Number (pos 0) ∷ args.Number (pos 0) ∷ args.Number (pos 4) ∷ []) ∷
            stmts.Call names.Ei ([]) ∷
            stmts.Call names.TkDisDsp ([]) ∷
            stmts.Call names.TkWriDev (args.Number (pos 3) ∷ args.Number (pos 0) ∷ args.Number (pos 0) ∷ args.Number (pos 4) ∷ args.Number (negsuc 0) ∷ []) ∷
            stmts.Call names.TkSreaDev (args.Number (pos 3) ∷ args.Number (pos 0) ∷ args.Number (pos 0) ∷ args.Number (pos 4) ∷ []) ∷
            stmts.Call names.TkEnaDsp ([]) ∷
            stmts.Call names.TkReaDev (args.Number (pos 3) ∷ args.Number (pos 0) ∷ args.Number (pos 0) ∷ args.Number (pos 4) ∷ args.Number (pos 0) ∷ []) ∷
            stmts.Call names.TkSwriDev (args.Number (pos 3) ∷ args.Number (negsuc 0) ∷ args.Number (pos 0) ∷ args.Number (pos 4) ∷ []) ∷
            stmts.Call names.TkReaDev (args.Number (pos 2) ∷ args.Number (pos 0) ∷ args.Number (pos 0) ∷ args.Number (pos 4) ∷ args.Number (negsuc 0) ∷ []) ∷
            stmts.Call names.TkWriDev (args.Number (pos 1) ∷ args.Number (negsuc 0) ∷ args.Number (pos 0) ∷ args.Number (pos 4) ∷ args.Number (pos 0) ∷ []) ∷
            stmts.Call names.TkSreaDev (args.Number (pos 2) ∷ args.Number (pos 0) ∷ args.Number (pos 0) ∷ args.Number (pos 4) ∷ []) ∷
            stmts.Call names.TkSwriDev (args.Number (pos 1) ∷ args.Number (pos 0) ∷ args.Number (pos 0) ∷ args.Number (pos 4) ∷ []) ∷
            stmts.Call names.TkSreaDev (args.Number (pos 1) ∷ args.Number (negsuc 0) ∷ args.Number (pos 65536) ∷ args.Number (pos 0) ∷ []) ∷
            [];
      } ∷
      record {
        name = codes "h";
        kind = kinds.Hand;
        labels = [];
        stmts =
            stmts.Call names.TkWriDev (args.Number (pos 1) ∷ args.Number (negsuc 1) ∷ args.Number (pos 0) ∷ args.Number (pos 4) ∷ args.Number (pos 0) ∷ []) ∷
            stmts.Call names.TkReaDev (args.Number (pos 3) ∷ args.Number (pos 0) ∷ args.Number (pos 0) ∷ args.Number (pos 4) ∷ args.Number (pos 0) ∷ []) ∷
            stmts.Call names.TkSreaDev (args.Number (pos 1) ∷ args.Number (pos 0) ∷ args.Number (pos 0) ∷ args.Number (pos 4) ∷ []) ∷
            stmts.Call names.TkWaiDev (args.Number (pos 3) ∷ args.Number (pos 1) ∷ args.Number (pos 0) ∷ []) ∷
            [];
      } ∷
      [];
}

refused_requests_entries : List Entry
refused_requests_entries = []

refused_requests_lines : List ℕ
refused_requests_lines =
    codes "0 D 1\n" ++
    codes "1 C 1 tk_def_int 0\n" ++
    codes "2 C 1 tk_opn_dev 1\n" ++
    codes "3 C 1 tk_opn_dev 2\n" ++
    codes "4 C 1 tk_rea_dev E_ID\n" ++
    codes "5 C 1 tk_wri_dev E_ID\n" ++
    codes "6 C 1 tk_rea_dev E_PAR\n" ++
    codes "7 C 1 tk_wri_dev E_PAR\n" ++
    codes "8 C 1 tk_srea_dev E_PAR\n" ++
    codes "9 C 1 tk_swri_dev E_PAR\n" ++
    codes "10 C 1 tk_rea_dev E_PAR\n" ++
    codes "11 C 1 DI 0\n" ++
    codes "12 C 1 tk_rea_dev E_CTX\n" ++
    codes "13 C 1 tk_swri_dev E_CTX\n" ++
    codes "14 C 1 EI 0\n" ++
    codes "15 C 1 tk_dis_dsp 0\n" ++
    codes "16 C 1 tk_wri_dev E_CTX\n" ++
    codes "17 C 1 tk_srea_dev E_CTX\n" ++
    codes "18 C 1 tk_ena_dsp 0\n" ++
    codes "19 I int 1\n" ++
    codes "20 C 0 tk_wri_dev E_PAR\n" ++
    codes "21 C 0 tk_rea_dev E_CTX\n" ++
    codes "22 C 0 tk_srea_dev E_CTX\n" ++
    codes "23 C 0 tk_wai_dev E_CTX\n" ++
    codes "25 C 1 tk_rea_dev E_ID\n" ++
    codes "26 C 1 tk_swri_dev E_ID\n" ++
    codes "27 C 1 tk_rea_dev E_OACV\n" ++
    codes "28 C 1 tk_wri_dev E_OACV\n" ++
    codes "29 C 1 tk_srea_dev E_OACV\n" ++
    codes "30 C 1 tk_swri_dev E_OACV\n" ++
    codes "31 C 1 tk_srea_dev 4\n" ++
    codes "32 C 1 tk_ext_tsk 0\n" ++
    codes "32 D 0\n" ++
    codes "32 END idle\n" ++
    []

refused_requests_run : text_of_lines (lines_of (trace refused_requests_script modes.Free 100000 refused_requests_entries)) ≡ refused_requests_lines
unfolding refused_requests_script refused_requests_entries refused_requests_lines text_of form_of named made task_call_name sem_flag_call_name mutex_call_name mail_call_name pool_call_name time_call_name context_call_name device_call_name hook_call_name name_of code_of error_text coded error_named attributes_of flag_mode_of open_mode_of suspend_mode_of is_name_byte name_at_most why_text value_text words_of text_of_line text_of_lines fetch give call_before create_sem create_flag end_first delete_sem delete_flag refer_sem refer_flag signal_sem set_flag clear_flag wait_sem wait_flag sem_flag_call serve_sem serve_flag first_served serve_sem_flag sem_trial flag_trial chosen free_task create_task delete_task start_task exit_task terminate_task change_priority rotate_ready get_task refer_task sleep delay wake_up cancel_wakeups release_wait suspend_task resume_task task_call mark_of allowed free_from first_serving serve_box serve_mailboxes serve_buffer serve_buffers post create_box delete_box send_box receive_box refer_box create_buffer delete_buffer send_buffer receive_buffer refer_buffer mail_call create_mutex lock_mutex unlock_mutex refer_mutex delete_mutex mutex_call change_priority_beside task_call_beside chain_has current_of resettle free_last ceiling_allows serve_mutex serve_mutexes create_fixed delete_fixed get_fixed release_fixed refer_fixed create_variable delete_variable get_variable release_variable refer_variable pool_call first_free serve_fixed serve_fixed_pools serve_variable serve_variable_pools set_time get_time get_operating_time create_cyclic start_cyclic stop_cyclic delete_cyclic refer_cyclic create_alarm start_alarm stop_alarm delete_alarm refer_alarm time_call body_of next_due again define_handler disable_dispatch enable_dispatch disable_interrupts enable_interrupts refer_system define_service refer_service enter_service context_call left list_existing list_ready list_queue set_hook hook_call open_device refer_device request request_whole wait_ending close_device suspend_devices device_call expected arrive hand_over hand_first messages emptied read_bytes write_bytes accept picked serve_acceptance serve_acceptances serve_ending serve_endings is_with_driver serve_close serve_closes serve_suspension events_sent free_descriptor free_request first_queued at_driver accepted dropped handed asked devices_start block is_last blocks unit cut may_cut arrived entered returned body_returned family_call answered called follow_release follow_each with_releases dispatched followed insert_once with_requests handler_begun due_begun interrupt_begun served_within settle freed_within fallen due_done tick state_after worked counted step sync_runs sync_run entered_2 runs start trace acted ran turn_of done_turn first_serving_2 serve_object state_start digits
refused_requests_run = refl

-- Endings of two devices arrive in the other order, and are claimed one after the other.
swapped_endings_script : Script
swapped_endings_script = record {
  devices = record { name = codes "a"; kind = devices.Ram 64 } ∷ record { name = codes "b"; kind = devices.Ram 64 } ∷ [];
  pace = None;
  irqs = [];
  boot = record { body = 1; priority = 10 };
  bodies =
      record {
        name = codes "main";
        kind = kinds.Task;
        labels = [];
        stmts =
            stmts.Call names.TkOpnDev (args.Name (codes "a") ∷ args.List 4 ∷ []) ∷
            stmts.Call names.TkOpnDev (args.Name (codes "b") ∷ args.List 4 ∷ []) ∷
            stmts.Call names.TkWriDev (args.Number (pos 1) ∷ args.Number (pos 0) ∷ args.Number (pos 0) ∷ args.Number (pos 8) ∷ args.Number (negsuc 0) ∷ []) ∷
            stmts.Call names.TkWriDev (args.Number (pos 2) ∷ args.Number (pos 0) ∷ args.Number (pos 0) ∷ args.Number (pos 8) ∷ args.Number (negsuc 0) ∷ []) ∷
            stmts.Call names.TkWaiDev (args.Number (pos 2) ∷ args.Number (pos 2) ∷ args.Number (negsuc 0) ∷ []) ∷
            stmts.Call names.TkWaiDev (args.Number (pos 1) ∷ args.Number (pos 1) ∷ args.Number (negsuc 0) ∷ []) ∷
            [];
      } ∷
      [];
}

swapped_endings_entries : List Entry
swapped_endings_entries = record { place = 6; device = 2; request = 2; how = hows.Done } ∷ record { place = 7; device = 1; request = 1; how = hows.Done } ∷ []

swapped_endings_lines : List ℕ
swapped_endings_lines =
    codes "0 D 1\n" ++
    codes "1 C 1 tk_opn_dev 1\n" ++
    codes "2 C 1 tk_opn_dev 2\n" ++
    codes "3 C 1 tk_wri_dev 1\n" ++
    codes "4 C 1 tk_wri_dev 2\n" ++
    codes "5 B 1 tk_wai_dev\n" ++
    codes "5 D 0\n" ++
    codes "6 J 2 2 done 0 8\n" ++
    codes "6 W 1 tk_wai_dev 2 8 0\n" ++
    codes "6 D 1\n" ++
    codes "6 B 1 tk_wai_dev\n" ++
    codes "6 D 0\n" ++
    codes "7 J 1 1 done 0 8\n" ++
    codes "7 W 1 tk_wai_dev 1 8 0\n" ++
    codes "7 D 1\n" ++
    codes "7 C 1 tk_ext_tsk 0\n" ++
    codes "7 D 0\n" ++
    codes "7 END idle\n" ++
    []

swapped_endings_run : text_of_lines (lines_of (trace swapped_endings_script modes.Free 100000 swapped_endings_entries)) ≡ swapped_endings_lines
unfolding swapped_endings_script swapped_endings_entries swapped_endings_lines text_of form_of named made task_call_name sem_flag_call_name mutex_call_name mail_call_name pool_call_name time_call_name context_call_name device_call_name hook_call_name name_of code_of error_text coded error_named attributes_of flag_mode_of open_mode_of suspend_mode_of is_name_byte name_at_most why_text value_text words_of text_of_line text_of_lines fetch give call_before create_sem create_flag end_first delete_sem delete_flag refer_sem refer_flag signal_sem set_flag clear_flag wait_sem wait_flag sem_flag_call serve_sem serve_flag first_served serve_sem_flag sem_trial flag_trial chosen free_task create_task delete_task start_task exit_task terminate_task change_priority rotate_ready get_task refer_task sleep delay wake_up cancel_wakeups release_wait suspend_task resume_task task_call mark_of allowed free_from first_serving serve_box serve_mailboxes serve_buffer serve_buffers post create_box delete_box send_box receive_box refer_box create_buffer delete_buffer send_buffer receive_buffer refer_buffer mail_call create_mutex lock_mutex unlock_mutex refer_mutex delete_mutex mutex_call change_priority_beside task_call_beside chain_has current_of resettle free_last ceiling_allows serve_mutex serve_mutexes create_fixed delete_fixed get_fixed release_fixed refer_fixed create_variable delete_variable get_variable release_variable refer_variable pool_call first_free serve_fixed serve_fixed_pools serve_variable serve_variable_pools set_time get_time get_operating_time create_cyclic start_cyclic stop_cyclic delete_cyclic refer_cyclic create_alarm start_alarm stop_alarm delete_alarm refer_alarm time_call body_of next_due again define_handler disable_dispatch enable_dispatch disable_interrupts enable_interrupts refer_system define_service refer_service enter_service context_call left list_existing list_ready list_queue set_hook hook_call open_device refer_device request request_whole wait_ending close_device suspend_devices device_call expected arrive hand_over hand_first messages emptied read_bytes write_bytes accept picked serve_acceptance serve_acceptances serve_ending serve_endings is_with_driver serve_close serve_closes serve_suspension events_sent free_descriptor free_request first_queued at_driver accepted dropped handed asked devices_start block is_last blocks unit cut may_cut arrived entered returned body_returned family_call answered called follow_release follow_each with_releases dispatched followed insert_once with_requests handler_begun due_begun interrupt_begun served_within settle freed_within fallen due_done tick state_after worked counted step sync_runs sync_run entered_2 runs start trace acted ran turn_of done_turn first_serving_2 serve_object state_start digits
swapped_endings_run = refl

-- A wait for any ending is refused while a task waits for one.
wait_for_any_refused_script : Script
wait_for_any_refused_script = record {
  devices = record { name = codes "d"; kind = devices.Ram 64 } ∷ [];
  pace = None;
  irqs = [];
  boot = record { body = 1; priority = 10 };
  bodies =
      record {
        name = codes "main";
        kind = kinds.Task;
        labels = [];
        stmts =
            stmts.Call names.TkCreTsk (args.List 0 ∷ args.Body 2 ∷ args.Number (pos 5) ∷ args.Number (pos 512) ∷ []) ∷
            stmts.Call names.TkOpnDev (args.Name (codes "d") ∷ args.List 1 ∷ []) ∷
            stmts.Call names.TkReaDev (args.Number (pos 1) ∷ args.Number (pos 0) ∷ args.Number (pos 0) ∷ args.Number (pos 8) ∷ args.Number (negsuc 0) ∷ []) ∷
            stmts.Call names.TkWaiDev (args.Number (pos 1) ∷ args.Number (pos 1) ∷ args.Number (pos 0) ∷ []) ∷
            stmts.Call names.TkStaTsk (args.Number (pos 2) ∷ args.Number (pos 0) ∷ []) ∷
            stmts.Call names.TkWaiDev (args.Number (pos 1) ∷ args.Number (pos 0) ∷ args.Number (negsuc 0) ∷ []) ∷
            stmts.Call names.TkExtTsk ([]) ∷
            [];
      } ∷
      record {
        name = codes "wt";
        kind = kinds.Task;
        labels = [];
        stmts =
            stmts.Call names.TkWaiDev (args.Number (pos 1) ∷ args.Number (pos 1) ∷ args.Number (negsuc 0) ∷ []) ∷
            [];
      } ∷
      [];
}

wait_for_any_refused_entries : List Entry
wait_for_any_refused_entries = record { place = 9; device = 1; request = 1; how = hows.Done } ∷ []

wait_for_any_refused_lines : List ℕ
wait_for_any_refused_lines =
    codes "0 D 1\n" ++
    codes "1 C 1 tk_cre_tsk 2\n" ++
    codes "2 C 1 tk_opn_dev 1\n" ++
    codes "3 C 1 tk_rea_dev 1\n" ++
    codes "4 C 1 tk_wai_dev E_TMOUT\n" ++
    codes "5 C 1 tk_sta_tsk 0\n" ++
    codes "5 D 2\n" ++
    codes "6 B 2 tk_wai_dev\n" ++
    codes "6 D 1\n" ++
    codes "7 C 1 tk_wai_dev E_OBJ\n" ++
    codes "8 C 1 tk_ext_tsk 0\n" ++
    codes "8 D 0\n" ++
    codes "9 J 1 1 done 0 8\n" ++
    codes "9 W 2 tk_wai_dev 1 8 0\n" ++
    codes "9 D 2\n" ++
    codes "9 C 2 tk_ext_tsk 0\n" ++
    codes "9 D 0\n" ++
    codes "9 END idle\n" ++
    []

wait_for_any_refused_run : text_of_lines (lines_of (trace wait_for_any_refused_script modes.Free 100000 wait_for_any_refused_entries)) ≡ wait_for_any_refused_lines
unfolding wait_for_any_refused_script wait_for_any_refused_entries wait_for_any_refused_lines text_of form_of named made task_call_name sem_flag_call_name mutex_call_name mail_call_name pool_call_name time_call_name context_call_name device_call_name hook_call_name name_of code_of error_text coded error_named attributes_of flag_mode_of open_mode_of suspend_mode_of is_name_byte name_at_most why_text value_text words_of text_of_line text_of_lines fetch give call_before create_sem create_flag end_first delete_sem delete_flag refer_sem refer_flag signal_sem set_flag clear_flag wait_sem wait_flag sem_flag_call serve_sem serve_flag first_served serve_sem_flag sem_trial flag_trial chosen free_task create_task delete_task start_task exit_task terminate_task change_priority rotate_ready get_task refer_task sleep delay wake_up cancel_wakeups release_wait suspend_task resume_task task_call mark_of allowed free_from first_serving serve_box serve_mailboxes serve_buffer serve_buffers post create_box delete_box send_box receive_box refer_box create_buffer delete_buffer send_buffer receive_buffer refer_buffer mail_call create_mutex lock_mutex unlock_mutex refer_mutex delete_mutex mutex_call change_priority_beside task_call_beside chain_has current_of resettle free_last ceiling_allows serve_mutex serve_mutexes create_fixed delete_fixed get_fixed release_fixed refer_fixed create_variable delete_variable get_variable release_variable refer_variable pool_call first_free serve_fixed serve_fixed_pools serve_variable serve_variable_pools set_time get_time get_operating_time create_cyclic start_cyclic stop_cyclic delete_cyclic refer_cyclic create_alarm start_alarm stop_alarm delete_alarm refer_alarm time_call body_of next_due again define_handler disable_dispatch enable_dispatch disable_interrupts enable_interrupts refer_system define_service refer_service enter_service context_call left list_existing list_ready list_queue set_hook hook_call open_device refer_device request request_whole wait_ending close_device suspend_devices device_call expected arrive hand_over hand_first messages emptied read_bytes write_bytes accept picked serve_acceptance serve_acceptances serve_ending serve_endings is_with_driver serve_close serve_closes serve_suspension events_sent free_descriptor free_request first_queued at_driver accepted dropped handed asked devices_start block is_last blocks unit cut may_cut arrived entered returned body_returned family_call answered called follow_release follow_each with_releases dispatched followed insert_once with_requests handler_begun due_begun interrupt_begun served_within settle freed_within fallen due_done tick state_after worked counted step sync_runs sync_run entered_2 runs start trace acted ran turn_of done_turn first_serving_2 serve_object state_start digits
wait_for_any_refused_run = refl

-- A wait for an ending ends at its limit, by tk_rel_wai, and with its task's end. The request goes on each time: it ends,
-- and whoever claims it gets it.
waits_end_script : Script
waits_end_script = record {
  devices = record { name = codes "s"; kind = devices.Slow 256 9 } ∷ [];
  pace = None;
  irqs = [];
  boot = record { body = 1; priority = 10 };
  bodies =
      record {
        name = codes "main";
        kind = kinds.Task;
        labels = [];
        stmts =
            stmts.Call names.TkCreTsk (args.List 0 ∷ args.Body 2 ∷ args.Number (pos 5) ∷ args.Number (pos 512) ∷ []) ∷
            stmts.Call names.TkCreTsk (args.List 0 ∷ args.Body 3 ∷ args.Number (pos 5) ∷ args.Number (pos 512) ∷ []) ∷
            stmts.Call names.TkCreTsk (args.List 0 ∷ args.Body 4 ∷ args.Number (pos 5) ∷ args.Number (pos 512) ∷ []) ∷
            stmts.Call names.TkOpnDev (args.Name (codes "s") ∷ args.List 4 ∷ []) ∷
            stmts.Call names.TkReaDev (args.Number (pos 1) ∷ args.Number (pos 0) ∷ args.Number (pos 50) ∷ args.Number (pos 4) ∷ args.Number (negsuc 0) ∷ []) ∷
            stmts.Call names.TkStaTsk (args.Number (pos 2) ∷ args.Number (pos 0) ∷ []) ∷
            stmts.Call names.TkStaTsk (args.Number (pos 3) ∷ args.Number (pos 0) ∷ []) ∷
            stmts.Call names.TkStaTsk (args.Number (pos 4) ∷ args.Number (pos 0) ∷ []) ∷
            stmts.Call names.TkRelWai (args.Number (pos 3) ∷ []) ∷
            stmts.Call names.TkTerTsk (args.Number (pos 4) ∷ []) ∷
            stmts.Call names.TkWaiDev (args.Number (pos 1) ∷ args.Number (pos 2) ∷ args.Number (pos 0) ∷ []) ∷
            stmts.Call names.TkWaiDev (args.Number (pos 1) ∷ args.Number (pos 3) ∷ args.Number (negsuc 0) ∷ []) ∷
            stmts.Call names.TkWaiDev (args.Number (pos 1) ∷ args.Number (pos 0) ∷ args.Number (pos 0) ∷ []) ∷
            [];
      } ∷
      record {
        name = codes "late";
        kind = kinds.Task;
        labels = [];
        stmts =
            stmts.Call names.TkWaiDev (args.Number (pos 1) ∷ args.Number (pos 1) ∷ args.Number (pos 1) ∷ []) ∷
            stmts.Call names.TkWaiDev (args.Number (pos 1) ∷ args.Number (pos 1) ∷ args.Number (negsuc 0) ∷ []) ∷
            [];
      } ∷
      record {
        name = codes "freed";
        kind = kinds.Task;
        labels = [];
        stmts =
            stmts.Call names.TkSreaDev (args.Number (pos 1) ∷ args.Number (pos 0) ∷ args.Number (pos 100) ∷ args.Number (pos 4) ∷ []) ∷
            [];
      } ∷
      record {
        name = codes "gone";
        kind = kinds.Task;
        labels = [];
        stmts =
            stmts.Call names.TkSwriDev (args.Number (pos 1) ∷ args.Number (pos 0) ∷ args.Number (pos 0) ∷ args.Number (pos 4) ∷ []) ∷
            [];
      } ∷
      [];
}

waits_end_entries : List Entry
waits_end_entries = record { place = 20; device = 1; request = 1; how = hows.Done } ∷ record { place = 21; device = 1; request = 2; how = hows.Done } ∷ record { place = 21; device = 1; request = 3; how = hows.Done } ∷ []

waits_end_lines : List ℕ
waits_end_lines =
    codes "0 D 1\n" ++
    codes "1 C 1 tk_cre_tsk 2\n" ++
    codes "2 C 1 tk_cre_tsk 3\n" ++
    codes "3 C 1 tk_cre_tsk 4\n" ++
    codes "4 C 1 tk_opn_dev 1\n" ++
    codes "5 C 1 tk_rea_dev 1\n" ++
    codes "6 C 1 tk_sta_tsk 0\n" ++
    codes "6 D 2\n" ++
    codes "7 B 2 tk_wai_dev\n" ++
    codes "7 D 1\n" ++
    codes "8 C 1 tk_sta_tsk 0\n" ++
    codes "8 D 3\n" ++
    codes "9 B 3 tk_srea_dev\n" ++
    codes "9 D 1\n" ++
    codes "10 C 1 tk_sta_tsk 0\n" ++
    codes "10 D 4\n" ++
    codes "11 B 4 tk_swri_dev\n" ++
    codes "11 D 1\n" ++
    codes "12 C 1 tk_rel_wai 0\n" ++
    codes "12 W 3 tk_srea_dev E_RLWAI\n" ++
    codes "12 D 3\n" ++
    codes "13 C 3 tk_ext_tsk 0\n" ++
    codes "13 D 1\n" ++
    codes "14 C 1 tk_ter_tsk 0\n" ++
    codes "15 C 1 tk_wai_dev E_TMOUT\n" ++
    codes "16 B 1 tk_wai_dev\n" ++
    codes "16 D 0\n" ++
    codes "17 K 1\n" ++
    codes "18 K 2\n" ++
    codes "18 W 2 tk_wai_dev E_TMOUT\n" ++
    codes "18 D 2\n" ++
    codes "19 B 2 tk_wai_dev\n" ++
    codes "19 D 0\n" ++
    codes "20 J 1 1 done 0 4\n" ++
    codes "20 W 2 tk_wai_dev 1 4 0\n" ++
    codes "20 D 2\n" ++
    codes "20 C 2 tk_ext_tsk 0\n" ++
    codes "20 D 0\n" ++
    codes "21 J 1 2 done 0 4\n" ++
    codes "21 J 1 3 done 0 4\n" ++
    codes "21 W 1 tk_wai_dev 3 4 0\n" ++
    codes "21 D 1\n" ++
    codes "21 C 1 tk_wai_dev 2 4 0\n" ++
    codes "22 C 1 tk_ext_tsk 0\n" ++
    codes "22 D 0\n" ++
    codes "22 END idle\n" ++
    []

waits_end_run : text_of_lines (lines_of (trace waits_end_script modes.Free 100000 waits_end_entries)) ≡ waits_end_lines
unfolding waits_end_script waits_end_entries waits_end_lines text_of form_of named made task_call_name sem_flag_call_name mutex_call_name mail_call_name pool_call_name time_call_name context_call_name device_call_name hook_call_name name_of code_of error_text coded error_named attributes_of flag_mode_of open_mode_of suspend_mode_of is_name_byte name_at_most why_text value_text words_of text_of_line text_of_lines fetch give call_before create_sem create_flag end_first delete_sem delete_flag refer_sem refer_flag signal_sem set_flag clear_flag wait_sem wait_flag sem_flag_call serve_sem serve_flag first_served serve_sem_flag sem_trial flag_trial chosen free_task create_task delete_task start_task exit_task terminate_task change_priority rotate_ready get_task refer_task sleep delay wake_up cancel_wakeups release_wait suspend_task resume_task task_call mark_of allowed free_from first_serving serve_box serve_mailboxes serve_buffer serve_buffers post create_box delete_box send_box receive_box refer_box create_buffer delete_buffer send_buffer receive_buffer refer_buffer mail_call create_mutex lock_mutex unlock_mutex refer_mutex delete_mutex mutex_call change_priority_beside task_call_beside chain_has current_of resettle free_last ceiling_allows serve_mutex serve_mutexes create_fixed delete_fixed get_fixed release_fixed refer_fixed create_variable delete_variable get_variable release_variable refer_variable pool_call first_free serve_fixed serve_fixed_pools serve_variable serve_variable_pools set_time get_time get_operating_time create_cyclic start_cyclic stop_cyclic delete_cyclic refer_cyclic create_alarm start_alarm stop_alarm delete_alarm refer_alarm time_call body_of next_due again define_handler disable_dispatch enable_dispatch disable_interrupts enable_interrupts refer_system define_service refer_service enter_service context_call left list_existing list_ready list_queue set_hook hook_call open_device refer_device request request_whole wait_ending close_device suspend_devices device_call expected arrive hand_over hand_first messages emptied read_bytes write_bytes accept picked serve_acceptance serve_acceptances serve_ending serve_endings is_with_driver serve_close serve_closes serve_suspension events_sent free_descriptor free_request first_queued at_driver accepted dropped handed asked devices_start block is_last blocks unit cut may_cut arrived entered returned body_returned family_call answered called follow_release follow_each with_releases dispatched followed insert_once with_requests handler_begun due_begun interrupt_begun served_within settle freed_within fallen due_done tick state_after worked counted step sync_runs sync_run entered_2 runs start trace acted ran turn_of done_turn first_serving_2 serve_object state_start digits
waits_end_run = refl
