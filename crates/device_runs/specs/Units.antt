-- Runs that were worked out by hand from the rules, as runs/device/units has them: each a theorem by computation.
use Rattle.std.specs.Prelude.{ℕ, pos, negsuc, List, [], ◌∷◌, ◌++◌, Some, None, codes, ◌≡◌, refl}
use Rattle.std.specs.Fmt.{digits}
use Rattle.tk_types.specs.declared.script.Script.{Script}
use Rattle.tk_types.specs.declared.script.BodyKind.TheVariants as kinds
use Rattle.tk_types.specs.declared.script.Kind.TheVariants as devices
use Rattle.tk_types.specs.declared.script.Stmt.TheVariants as stmts
use Rattle.tk_types.specs.declared.script.Operand.TheVariants as operands
use Rattle.tk_types.specs.declared.script.Operation.TheVariants as operations
use Rattle.tk_types.specs.declared.script.Condition.TheVariants as conditions
use Rattle.tk_types.specs.declared.script.Arg.TheVariants as args
use Rattle.tk_types.specs.declared.call_name.CallName.TheVariants as names
use Rattle.tk_types.specs.declared.line.Entry.{Entry}
use Rattle.tk_types.specs.declared.line.How.TheVariants as hows
use Rattle.tk_types.specs.declared.run.Mode.TheVariants as modes
use Rattle.tk_types.specs.CallNames.{text_of, form_of, named}
use Rattle.tk_types.specs.Calls.{made, task_call_name, sem_flag_call_name, mutex_call_name, mail_call_name, pool_call_name, time_call_name, context_call_name, device_call_name, hook_call_name, name_of}
use Rattle.tk_types.specs.Codes.{code_of, error_text, coded, error_named}
use Rattle.tk_types.specs.Modes.{attributes_of, flag_mode_of, open_mode_of, suspend_mode_of}
use Rattle.tk_types.specs.Names.{is_name_byte, name_at_most}
use Rattle.tk_types.specs.Reasons.{why_text}
use Rattle.tk_model.specs.LineText.{value_text, words_of, text_of_line, text_of_lines}
use Rattle.kernel_model.specs.Bodies.Statements.{fetch, give, call_before}
use Rattle.kernel_model.specs.SemFlags.Calls.{create_sem, create_flag, end_first, delete_sem, delete_flag, refer_sem, refer_flag, signal_sem, set_flag, clear_flag, wait_sem, wait_flag, sem_flag_call}
use Rattle.kernel_model.specs.SemFlags.Tables.{serve_sem, serve_flag, first_served, serve_sem_flag}
use Rattle.kernel_model.specs.SemFlags.Trial.{sem_trial, flag_trial}
use Rattle.kernel_model.specs.Tasks.Base.{chosen, free_task}
use Rattle.kernel_model.specs.Tasks.Calls.{create_task, delete_task, start_task, exit_task, terminate_task, change_priority, rotate_ready, get_task, refer_task, sleep, delay, wake_up, cancel_wakeups, release_wait, suspend_task, resume_task, task_call}
use Rattle.kernel_model.specs.Tasks.Marks.{mark_of, allowed}
use Rattle.kernel_model.specs.Words.Orders.{free_from}
use Rattle.object_model.specs.Servings.{first_serving}
use Rattle.object_model.specs.Mails.Boxes.{serve_box, serve_mailboxes}
use Rattle.object_model.specs.Mails.Buffers.{serve_buffer, serve_buffers, post}
use Rattle.object_model.specs.Mails.Calls.{create_box, delete_box, send_box, receive_box, refer_box, create_buffer, delete_buffer, send_buffer, receive_buffer, refer_buffer, mail_call}
use Rattle.object_model.specs.Mutexes.Calls.{create_mutex, lock_mutex, unlock_mutex, refer_mutex, delete_mutex, mutex_call, change_priority_beside, task_call_beside}
use Rattle.object_model.specs.Mutexes.Priority.{chain_has, current_of, resettle}
use Rattle.object_model.specs.Mutexes.Tables.{free_last, ceiling_allows, serve_mutex, serve_mutexes}
use Rattle.object_model.specs.Pools.Calls.{create_fixed, delete_fixed, get_fixed, release_fixed, refer_fixed, create_variable, delete_variable, get_variable, release_variable, refer_variable, pool_call}
use Rattle.object_model.specs.Pools.Fixed.{first_free, serve_fixed, serve_fixed_pools}
use Rattle.object_model.specs.Pools.Variable.{serve_variable, serve_variable_pools}
use Rattle.context_model.specs.Clocks.Calls.{set_time, get_time, get_operating_time, create_cyclic, start_cyclic, stop_cyclic, delete_cyclic, refer_cyclic, create_alarm, start_alarm, stop_alarm, delete_alarm, refer_alarm, time_call}
use Rattle.context_model.specs.Clocks.Tables.{body_of, next_due, again}
use Rattle.context_model.specs.Contexts.Calls.{define_handler, disable_dispatch, enable_dispatch, disable_interrupts, enable_interrupts, refer_system, define_service, refer_service, enter_service, context_call}
use Rattle.context_model.specs.Contexts.Tables.{left}
use Rattle.context_model.specs.Hooks.Calls.{list_existing, list_ready, list_queue, set_hook, hook_call}
use Rattle.device_model.specs.Devices.Calls.{open_device, refer_device, request, request_whole, wait_ending, close_device, suspend_devices, device_call}
use Rattle.device_model.specs.Devices.Endings.{expected, arrive}
use Rattle.device_model.specs.Devices.Handing.{hand_over, hand_first, messages, emptied}
use Rattle.device_model.specs.Devices.Memory.{read_bytes, write_bytes}
use Rattle.device_model.specs.Devices.Requests.{accept, picked}
use Rattle.device_model.specs.Devices.Servings.{serve_acceptance, serve_acceptances, serve_ending, serve_endings, is_with_driver, serve_close, serve_closes, serve_suspension}
use Rattle.device_model.specs.Devices.Suspension.{events_sent}
use Rattle.device_model.specs.Devices.Tables.{free_descriptor, free_request, first_queued, at_driver, accepted, dropped, handed, asked, devices_start}
use Rattle.device_model.specs.Units.Blocks.{block, is_last, blocks}
use Rattle.device_model.specs.Units.Function.{unit, cut, may_cut}
use Rattle.machine_model.specs.Events.Arrivals.{arrived}
use Rattle.machine_model.specs.Events.Bodies.{entered, returned, body_returned}
use Rattle.machine_model.specs.Events.Calls.{family_call, answered, called}
use Rattle.machine_model.specs.Events.Follow.{follow_release, follow_each, with_releases, dispatched, followed}
use Rattle.machine_model.specs.Events.Handlers.{insert_once, with_requests, handler_begun, due_begun, interrupt_begun}
use Rattle.machine_model.specs.Events.Settle.{served_within, settle, freed_within}
use Rattle.machine_model.specs.Events.Ticks.{fallen, due_done, tick}
use Rattle.machine_model.specs.Runs.Reached.{state_after}
use Rattle.machine_model.specs.Runs.Step.{worked, counted, step}
use Rattle.machine_model.specs.Runs.SyncTrace.{sync_runs, sync_run}
use Rattle.machine_model.specs.Runs.Trace.{lines_of, entered as entered_2, runs, start, trace}
use Rattle.machine_model.specs.Runs.Turns.{acted, ran, turn_of, done_turn}
use Rattle.machine_model.specs.States.Objects.{first_serving as first_serving_2, serve_object}
use Rattle.machine_model.specs.States.State.{state_start}
use Rattle.machine_model.specs.Runs.SyncTrace.{SyncRun}

-- A cut request moved its first blocks alone: a log grew by them. One that would have failed, or lies past the end, or has
-- size 0 moved nothing and is cut at 0.
cuts_script : Script
cuts_script = record {
  devices = record { name = codes "l"; kind = devices.Log } ∷ record { name = codes "f"; kind = devices.Flaky 64 2 } ∷ record { name = codes "r"; kind = devices.Ram 100 } ∷ [];
  pace = None;
  irqs = [];
  boot = record { body = 1; priority = 10 };
  bodies =
      record {
        name = codes "main";
        kind = kinds.Task;
        labels = [];
        stmts =
            stmts.Call names.TkOpnDev (args.Name (codes "l") ∷ args.List 4 ∷ []) ∷
            stmts.Call names.TkWriDev (args.Number (pos 1) ∷ args.Number (pos 0) ∷ args.Number (pos 0) ∷ args.Number (pos 65) ∷ args.Number (negsuc 0) ∷ []) ∷
            stmts.Call names.TkClsDev (args.Number (pos 1) ∷ []) ∷
            stmts.Call names.TkOpnDev (args.Name (codes "l") ∷ args.List 4 ∷ []) ∷
            stmts.Call names.TkWriDev (args.Number (pos 1) ∷ args.Number (pos 0) ∷ args.Number (pos 0) ∷ args.Number (pos 0) ∷ args.Number (negsuc 0) ∷ []) ∷
            stmts.Call names.TkClsDev (args.Number (pos 1) ∷ []) ∷
            stmts.Call names.TkOpnDev (args.Name (codes "l") ∷ args.List 4 ∷ []) ∷
            stmts.Call names.TkSreaDev (args.Number (pos 1) ∷ args.Number (pos 0) ∷ args.Number (pos 1000) ∷ args.Number (pos 0) ∷ []) ∷
            stmts.Call names.TkOpnDev (args.Name (codes "f") ∷ args.List 4 ∷ []) ∷
            stmts.Store (operands.Number (pos 0)) (operands.Number (pos 7)) ∷
            stmts.Call names.TkSwriDev (args.Number (pos 2) ∷ args.Number (pos 0) ∷ args.Number (pos 0) ∷ args.Number (pos 1) ∷ []) ∷
            stmts.Call names.TkReaDev (args.Number (pos 2) ∷ args.Number (pos 0) ∷ args.Number (pos 500) ∷ args.Number (pos 4) ∷ args.Number (negsuc 0) ∷ []) ∷
            stmts.Call names.TkClsDev (args.Number (pos 2) ∷ []) ∷
            stmts.Call names.TkOpnDev (args.Name (codes "f") ∷ args.List 4 ∷ []) ∷
            stmts.Call names.TkSreaDev (args.Number (pos 2) ∷ args.Number (pos 0) ∷ args.Number (pos 500) ∷ args.Number (pos 1) ∷ []) ∷
            stmts.Load 5 (operands.Number (pos 500)) ∷
            stmts.Show (operands.Register 5) ∷
            stmts.Call names.TkOpnDev (args.Name (codes "r") ∷ args.List 4 ∷ []) ∷
            stmts.Call names.TkWriDev (args.Number (pos 3) ∷ args.Number (pos 100) ∷ args.Number (pos 0) ∷ args.Number (pos 70) ∷ args.Number (negsuc 0) ∷ []) ∷
            stmts.Call names.TkClsDev (args.Number (pos 3) ∷ []) ∷
            [];
      } ∷
      [];
}

cuts_entries : List Entry
cuts_entries = record { place = 4; device = 1; request = 1; how = hows.Cut 64 } ∷ record { place = 7; device = 1; request = 1; how = hows.Cut 0 } ∷ record { place = 9; device = 1; request = 1; how = hows.Done } ∷ record { place = 12; device = 2; request = 1; how = hows.Done } ∷ record { place = 14; device = 2; request = 1; how = hows.Cut 0 } ∷ record { place = 16; device = 2; request = 1; how = hows.Done } ∷ record { place = 21; device = 3; request = 1; how = hows.Cut 0 } ∷ []

cuts_lines : List ℕ
cuts_lines =
    codes "0 D 1\n" ++
    codes "1 C 1 tk_opn_dev 1\n" ++
    codes "2 C 1 tk_wri_dev 1\n" ++
    codes "3 B 1 tk_cls_dev\n" ++
    codes "3 D 0\n" ++
    codes "4 J 1 1 cut 64\n" ++
    codes "4 W 1 tk_cls_dev 0\n" ++
    codes "4 D 1\n" ++
    codes "4 C 1 tk_opn_dev 1\n" ++
    codes "5 C 1 tk_wri_dev 1\n" ++
    codes "6 B 1 tk_cls_dev\n" ++
    codes "6 D 0\n" ++
    codes "7 J 1 1 cut 0\n" ++
    codes "7 W 1 tk_cls_dev 0\n" ++
    codes "7 D 1\n" ++
    codes "7 C 1 tk_opn_dev 1\n" ++
    codes "8 B 1 tk_srea_dev\n" ++
    codes "8 D 0\n" ++
    codes "9 J 1 1 done 0 64\n" ++
    codes "9 W 1 tk_srea_dev 64\n" ++
    codes "9 D 1\n" ++
    codes "9 C 1 tk_opn_dev 2\n" ++
    codes "11 B 1 tk_swri_dev\n" ++
    codes "11 D 0\n" ++
    codes "12 J 2 1 done 0 1\n" ++
    codes "12 W 1 tk_swri_dev 1\n" ++
    codes "12 D 1\n" ++
    codes "12 C 1 tk_rea_dev 1\n" ++
    codes "13 B 1 tk_cls_dev\n" ++
    codes "13 D 0\n" ++
    codes "14 J 2 1 cut 0\n" ++
    codes "14 W 1 tk_cls_dev 0\n" ++
    codes "14 D 1\n" ++
    codes "14 C 1 tk_opn_dev 2\n" ++
    codes "15 B 1 tk_srea_dev\n" ++
    codes "15 D 0\n" ++
    codes "16 J 2 1 done 0 1\n" ++
    codes "16 W 1 tk_srea_dev 1\n" ++
    codes "16 D 1\n" ++
    codes "17 S 1 7\n" ++
    codes "18 C 1 tk_opn_dev 3\n" ++
    codes "19 C 1 tk_wri_dev 1\n" ++
    codes "20 B 1 tk_cls_dev\n" ++
    codes "20 D 0\n" ++
    codes "21 J 3 1 cut 0\n" ++
    codes "21 W 1 tk_cls_dev 0\n" ++
    codes "21 D 1\n" ++
    codes "21 C 1 tk_ext_tsk 0\n" ++
    codes "21 D 0\n" ++
    codes "21 END idle\n" ++
    []

cuts_run : text_of_lines (lines_of (trace cuts_script modes.Free 100000 cuts_entries)) ≡ cuts_lines
unfolding cuts_script cuts_entries cuts_lines text_of form_of named made task_call_name sem_flag_call_name mutex_call_name mail_call_name pool_call_name time_call_name context_call_name device_call_name hook_call_name name_of code_of error_text coded error_named attributes_of flag_mode_of open_mode_of suspend_mode_of is_name_byte name_at_most why_text value_text words_of text_of_line text_of_lines fetch give call_before create_sem create_flag end_first delete_sem delete_flag refer_sem refer_flag signal_sem set_flag clear_flag wait_sem wait_flag sem_flag_call serve_sem serve_flag first_served serve_sem_flag sem_trial flag_trial chosen free_task create_task delete_task start_task exit_task terminate_task change_priority rotate_ready get_task refer_task sleep delay wake_up cancel_wakeups release_wait suspend_task resume_task task_call mark_of allowed free_from first_serving serve_box serve_mailboxes serve_buffer serve_buffers post create_box delete_box send_box receive_box refer_box create_buffer delete_buffer send_buffer receive_buffer refer_buffer mail_call create_mutex lock_mutex unlock_mutex refer_mutex delete_mutex mutex_call change_priority_beside task_call_beside chain_has current_of resettle free_last ceiling_allows serve_mutex serve_mutexes create_fixed delete_fixed get_fixed release_fixed refer_fixed create_variable delete_variable get_variable release_variable refer_variable pool_call first_free serve_fixed serve_fixed_pools serve_variable serve_variable_pools set_time get_time get_operating_time create_cyclic start_cyclic stop_cyclic delete_cyclic refer_cyclic create_alarm start_alarm stop_alarm delete_alarm refer_alarm time_call body_of next_due again define_handler disable_dispatch enable_dispatch disable_interrupts enable_interrupts refer_system define_service refer_service enter_service context_call left list_existing list_ready list_queue set_hook hook_call open_device refer_device request request_whole wait_ending close_device suspend_devices device_call expected arrive hand_over hand_first messages emptied read_bytes write_bytes accept picked serve_acceptance serve_acceptances serve_ending serve_endings is_with_driver serve_close serve_closes serve_suspension events_sent free_descriptor free_request first_queued at_driver accepted dropped handed asked devices_start block is_last blocks unit cut may_cut arrived entered returned body_returned family_call answered called follow_release follow_each with_releases dispatched followed insert_once with_requests handler_begun due_begun interrupt_begun served_within settle freed_within fallen due_done tick state_after worked counted step sync_runs sync_run entered_2 runs start trace acted ran turn_of done_turn first_serving_2 serve_object state_start digits
cuts_run = refl

-- A request with start -1 reads or writes the event buffer of its device and ends where it is accepted. Its size is 4, or
-- 0 to ask for the size; the number written is 0 or that of a buffer. The number stays when its buffer is deleted.
event_buffers_script : Script
event_buffers_script = record {
  devices = record { name = codes "d"; kind = devices.Ram 64 } ∷ record { name = codes "e"; kind = devices.Ram 64 } ∷ [];
  pace = None;
  irqs = [];
  boot = record { body = 1; priority = 10 };
  bodies =
      record {
        name = codes "main";
        kind = kinds.Task;
        labels = [];
        stmts =
            stmts.Call names.TkCreMbf (args.List 0 ∷ args.Number (pos 64) ∷ args.Number (pos 12) ∷ []) ∷
            stmts.Call names.TkOpnDev (args.Name (codes "d") ∷ args.List 4 ∷ []) ∷
            stmts.Call names.TkOpnDev (args.Name (codes "e") ∷ args.List 1 ∷ []) ∷
            stmts.Store (operands.Number (pos 100)) (operands.Number (pos 9)) ∷
            stmts.Call names.TkSreaDev (args.Number (pos 1) ∷ args.Number (negsuc 0) ∷ args.Number (pos 100) ∷ args.Number (pos 4) ∷ []) ∷
            stmts.Load 5 (operands.Number (pos 100)) ∷
            stmts.Show (operands.Register 5) ∷
            stmts.Store (operands.Number (pos 0)) (operands.Number (pos 1)) ∷
            stmts.Call names.TkSwriDev (args.Number (pos 1) ∷ args.Number (negsuc 0) ∷ args.Number (pos 0) ∷ args.Number (pos 4) ∷ []) ∷
            stmts.Call names.TkSreaDev (args.Number (pos 1) ∷ args.Number (negsuc 0) ∷ args.Number (pos 100) ∷ args.Number (pos 4) ∷ []) ∷
            stmts.Load 5 (operands.Number (pos 100)) ∷
            stmts.Show (operands.Register 5) ∷
            stmts.Call names.TkSreaDev (args.Number (pos 2) ∷ args.Number (negsuc 0) ∷ args.Number (pos 100) ∷ args.Number (pos 4) ∷ []) ∷
            stmts.Load 5 (operands.Number (pos 100)) ∷
            stmts.Show (operands.Register 5) ∷
            stmts.Store (operands.Number (pos 1)) (operands.Number (pos 1)) ∷
            stmts.Call names.TkSwriDev (args.Number (pos 1) ∷ args.Number (negsuc 0) ∷ args.Number (pos 0) ∷ args.Number (pos 4) ∷ []) ∷
            stmts.Call names.TkSwriDev (args.Number (pos 1) ∷ args.Number (negsuc 0) ∷ args.Number (pos 0) ∷ args.Number (pos 5) ∷ []) ∷
            stmts.Call names.TkSreaDev (args.Number (pos 1) ∷ args.Number (negsuc 0) ∷ args.Number (pos 100) ∷ args.Number (pos 3) ∷ []) ∷
            stmts.Call names.TkSwriDev (args.Number (pos 1) ∷ args.Number (negsuc 0) ∷ args.Number (pos 100) ∷ args.Number (pos 0) ∷ []) ∷
            stmts.Call names.TkReaDev (args.Number (pos 1) ∷ args.Number (negsuc 0) ∷ args.Number (pos 0) ∷ args.Number (pos 2) ∷ args.Number (negsuc 0) ∷ []) ∷
            stmts.Call names.TkWriDev (args.Number (pos 1) ∷ args.Number (negsuc 0) ∷ args.Number (pos 0) ∷ args.Number (pos 4) ∷ args.Number (negsuc 0) ∷ []) ∷
            stmts.Call names.TkWaiDev (args.Number (pos 1) ∷ args.Number (pos 2) ∷ args.Number (pos 0) ∷ []) ∷
            stmts.Call names.TkWaiDev (args.Number (pos 1) ∷ args.Number (pos 0) ∷ args.Number (pos 0) ∷ []) ∷
            stmts.Call names.TkDelMbf (args.Number (pos 1) ∷ []) ∷
            stmts.Call names.TkSreaDev (args.Number (pos 1) ∷ args.Number (negsuc 0) ∷ args.Number (pos 100) ∷ args.Number (pos 4) ∷ []) ∷
            stmts.Load 5 (operands.Number (pos 100)) ∷
            stmts.Show (operands.Register 5) ∷
            stmts.Store (operands.Number (pos 1)) (operands.Number (pos 0)) ∷
            stmts.Call names.TkSwriDev (args.Number (pos 1) ∷ args.Number (negsuc 0) ∷ args.Number (pos 0) ∷ args.Number (pos 4) ∷ []) ∷
            stmts.Store (operands.Number (pos 0)) (operands.Number (pos 0)) ∷
            stmts.Call names.TkSwriDev (args.Number (pos 1) ∷ args.Number (negsuc 0) ∷ args.Number (pos 0) ∷ args.Number (pos 4) ∷ []) ∷
            stmts.Call names.TkSreaDev (args.Number (pos 1) ∷ args.Number (negsuc 0) ∷ args.Number (pos 100) ∷ args.Number (pos 4) ∷ []) ∷
            stmts.Load 5 (operands.Number (pos 100)) ∷
            stmts.Show (operands.Register 5) ∷
            [];
      } ∷
      [];
}

event_buffers_entries : List Entry
event_buffers_entries = []

event_buffers_lines : List ℕ
event_buffers_lines =
    codes "0 D 1\n" ++
    codes "1 C 1 tk_cre_mbf 1\n" ++
    codes "2 C 1 tk_opn_dev 1\n" ++
    codes "3 C 1 tk_opn_dev 2\n" ++
    codes "5 C 1 tk_srea_dev 4\n" ++
    codes "7 S 1 0\n" ++
    codes "9 C 1 tk_swri_dev 4\n" ++
    codes "10 C 1 tk_srea_dev 4\n" ++
    codes "12 S 1 1\n" ++
    codes "13 C 1 tk_srea_dev 4\n" ++
    codes "15 S 1 0\n" ++
    codes "17 C 1 tk_swri_dev E_NOEXS\n" ++
    codes "18 C 1 tk_swri_dev E_PAR\n" ++
    codes "19 C 1 tk_srea_dev E_PAR\n" ++
    codes "20 C 1 tk_swri_dev 4\n" ++
    codes "21 C 1 tk_rea_dev 1\n" ++
    codes "22 C 1 tk_wri_dev 2\n" ++
    codes "23 C 1 tk_wai_dev 2 0 -42\n" ++
    codes "24 C 1 tk_wai_dev 1 0 -17\n" ++
    codes "25 C 1 tk_del_mbf 0\n" ++
    codes "26 C 1 tk_srea_dev 4\n" ++
    codes "28 S 1 1\n" ++
    codes "30 C 1 tk_swri_dev E_NOEXS\n" ++
    codes "32 C 1 tk_swri_dev 4\n" ++
    codes "33 C 1 tk_srea_dev 4\n" ++
    codes "35 S 1 0\n" ++
    codes "36 C 1 tk_ext_tsk 0\n" ++
    codes "36 D 0\n" ++
    codes "36 END idle\n" ++
    []

event_buffers_run : text_of_lines (lines_of (trace event_buffers_script modes.Free 100000 event_buffers_entries)) ≡ event_buffers_lines
unfolding event_buffers_script event_buffers_entries event_buffers_lines text_of form_of named made task_call_name sem_flag_call_name mutex_call_name mail_call_name pool_call_name time_call_name context_call_name device_call_name hook_call_name name_of code_of error_text coded error_named attributes_of flag_mode_of open_mode_of suspend_mode_of is_name_byte name_at_most why_text value_text words_of text_of_line text_of_lines fetch give call_before create_sem create_flag end_first delete_sem delete_flag refer_sem refer_flag signal_sem set_flag clear_flag wait_sem wait_flag sem_flag_call serve_sem serve_flag first_served serve_sem_flag sem_trial flag_trial chosen free_task create_task delete_task start_task exit_task terminate_task change_priority rotate_ready get_task refer_task sleep delay wake_up cancel_wakeups release_wait suspend_task resume_task task_call mark_of allowed free_from first_serving serve_box serve_mailboxes serve_buffer serve_buffers post create_box delete_box send_box receive_box refer_box create_buffer delete_buffer send_buffer receive_buffer refer_buffer mail_call create_mutex lock_mutex unlock_mutex refer_mutex delete_mutex mutex_call change_priority_beside task_call_beside chain_has current_of resettle free_last ceiling_allows serve_mutex serve_mutexes create_fixed delete_fixed get_fixed release_fixed refer_fixed create_variable delete_variable get_variable release_variable refer_variable pool_call first_free serve_fixed serve_fixed_pools serve_variable serve_variable_pools set_time get_time get_operating_time create_cyclic start_cyclic stop_cyclic delete_cyclic refer_cyclic create_alarm start_alarm stop_alarm delete_alarm refer_alarm time_call body_of next_due again define_handler disable_dispatch enable_dispatch disable_interrupts enable_interrupts refer_system define_service refer_service enter_service context_call left list_existing list_ready list_queue set_hook hook_call open_device refer_device request request_whole wait_ending close_device suspend_devices device_call expected arrive hand_over hand_first messages emptied read_bytes write_bytes accept picked serve_acceptance serve_acceptances serve_ending serve_endings is_with_driver serve_close serve_closes serve_suspension events_sent free_descriptor free_request first_queued at_driver accepted dropped handed asked devices_start block is_last blocks unit cut may_cut arrived entered returned body_returned family_call answered called follow_release follow_each with_releases dispatched followed insert_once with_requests handler_begun due_begun interrupt_begun served_within settle freed_within fallen due_done tick state_after worked counted step sync_runs sync_run entered_2 runs start trace acted ran turn_of done_turn first_serving_2 serve_object state_start digits
event_buffers_run = refl

-- Each third request of the flaky memory fails and leaves the bytes; one that was cut off and one past the end count, one
-- of size 0 doesn't. Where the third lies past the end, too, it ends as a failed one.
flaky_script : Script
flaky_script = record {
  devices = record { name = codes "f"; kind = devices.Flaky 64 3 } ∷ [];
  pace = None;
  irqs = [];
  boot = record { body = 1; priority = 10 };
  bodies =
      record {
        name = codes "main";
        kind = kinds.Task;
        labels = [];
        stmts =
            stmts.Call names.TkOpnDev (args.Name (codes "f") ∷ args.List 4 ∷ []) ∷
            stmts.Store (operands.Number (pos 0)) (operands.Number (pos 65)) ∷
            stmts.Call names.TkSwriDev (args.Number (pos 1) ∷ args.Number (pos 0) ∷ args.Number (pos 0) ∷ args.Number (pos 4) ∷ []) ∷
            stmts.Call names.TkSreaDev (args.Number (pos 1) ∷ args.Number (pos 0) ∷ args.Number (pos 8) ∷ args.Number (pos 0) ∷ []) ∷
            stmts.Store (operands.Number (pos 0)) (operands.Number (pos 66)) ∷
            stmts.Call names.TkWriDev (args.Number (pos 1) ∷ args.Number (pos 0) ∷ args.Number (pos 0) ∷ args.Number (pos 4) ∷ args.Number (negsuc 0) ∷ []) ∷
            stmts.Call names.TkClsDev (args.Number (pos 1) ∷ []) ∷
            stmts.Call names.TkOpnDev (args.Name (codes "f") ∷ args.List 4 ∷ []) ∷
            stmts.Call names.TkSwriDev (args.Number (pos 1) ∷ args.Number (pos 0) ∷ args.Number (pos 0) ∷ args.Number (pos 4) ∷ []) ∷
            stmts.Call names.TkSreaDev (args.Number (pos 1) ∷ args.Number (pos 0) ∷ args.Number (pos 100) ∷ args.Number (pos 1) ∷ []) ∷
            stmts.Load 5 (operands.Number (pos 100)) ∷
            stmts.Show (operands.Register 5) ∷
            stmts.Call names.TkSreaDev (args.Number (pos 1) ∷ args.Number (pos 64) ∷ args.Number (pos 100) ∷ args.Number (pos 4) ∷ []) ∷
            stmts.Call names.TkSreaDev (args.Number (pos 1) ∷ args.Number (pos 64) ∷ args.Number (pos 100) ∷ args.Number (pos 4) ∷ []) ∷
            [];
      } ∷
      [];
}

flaky_entries : List Entry
flaky_entries = record { place = 4; device = 1; request = 1; how = hows.Done } ∷ record { place = 5; device = 1; request = 1; how = hows.Done } ∷ record { place = 8; device = 1; request = 1; how = hows.Cut 0 } ∷ record { place = 10; device = 1; request = 1; how = hows.Done } ∷ record { place = 11; device = 1; request = 1; how = hows.Done } ∷ record { place = 14; device = 1; request = 1; how = hows.Done } ∷ record { place = 15; device = 1; request = 1; how = hows.Done } ∷ []

flaky_lines : List ℕ
flaky_lines =
    codes "0 D 1\n" ++
    codes "1 C 1 tk_opn_dev 1\n" ++
    codes "3 B 1 tk_swri_dev\n" ++
    codes "3 D 0\n" ++
    codes "4 J 1 1 done 0 4\n" ++
    codes "4 W 1 tk_swri_dev 4\n" ++
    codes "4 D 1\n" ++
    codes "4 B 1 tk_srea_dev\n" ++
    codes "4 D 0\n" ++
    codes "5 J 1 1 done 0 64\n" ++
    codes "5 W 1 tk_srea_dev 64\n" ++
    codes "5 D 1\n" ++
    codes "6 C 1 tk_wri_dev 1\n" ++
    codes "7 B 1 tk_cls_dev\n" ++
    codes "7 D 0\n" ++
    codes "8 J 1 1 cut 0\n" ++
    codes "8 W 1 tk_cls_dev 0\n" ++
    codes "8 D 1\n" ++
    codes "8 C 1 tk_opn_dev 1\n" ++
    codes "9 B 1 tk_swri_dev\n" ++
    codes "9 D 0\n" ++
    codes "10 J 1 1 done E_IO 0\n" ++
    codes "10 W 1 tk_swri_dev E_IO\n" ++
    codes "10 D 1\n" ++
    codes "10 B 1 tk_srea_dev\n" ++
    codes "10 D 0\n" ++
    codes "11 J 1 1 done 0 1\n" ++
    codes "11 W 1 tk_srea_dev 1\n" ++
    codes "11 D 1\n" ++
    codes "12 S 1 65\n" ++
    codes "13 B 1 tk_srea_dev\n" ++
    codes "13 D 0\n" ++
    codes "14 J 1 1 done E_PAR 0\n" ++
    codes "14 W 1 tk_srea_dev E_PAR\n" ++
    codes "14 D 1\n" ++
    codes "14 B 1 tk_srea_dev\n" ++
    codes "14 D 0\n" ++
    codes "15 J 1 1 done E_IO 0\n" ++
    codes "15 W 1 tk_srea_dev E_IO\n" ++
    codes "15 D 1\n" ++
    codes "15 C 1 tk_ext_tsk 0\n" ++
    codes "15 D 0\n" ++
    codes "15 END idle\n" ++
    []

flaky_run : text_of_lines (lines_of (trace flaky_script modes.Free 100000 flaky_entries)) ≡ flaky_lines
unfolding flaky_script flaky_entries flaky_lines text_of form_of named made task_call_name sem_flag_call_name mutex_call_name mail_call_name pool_call_name time_call_name context_call_name device_call_name hook_call_name name_of code_of error_text coded error_named attributes_of flag_mode_of open_mode_of suspend_mode_of is_name_byte name_at_most why_text value_text words_of text_of_line text_of_lines fetch give call_before create_sem create_flag end_first delete_sem delete_flag refer_sem refer_flag signal_sem set_flag clear_flag wait_sem wait_flag sem_flag_call serve_sem serve_flag first_served serve_sem_flag sem_trial flag_trial chosen free_task create_task delete_task start_task exit_task terminate_task change_priority rotate_ready get_task refer_task sleep delay wake_up cancel_wakeups release_wait suspend_task resume_task task_call mark_of allowed free_from first_serving serve_box serve_mailboxes serve_buffer serve_buffers post create_box delete_box send_box receive_box refer_box create_buffer delete_buffer send_buffer receive_buffer refer_buffer mail_call create_mutex lock_mutex unlock_mutex refer_mutex delete_mutex mutex_call change_priority_beside task_call_beside chain_has current_of resettle free_last ceiling_allows serve_mutex serve_mutexes create_fixed delete_fixed get_fixed release_fixed refer_fixed create_variable delete_variable get_variable release_variable refer_variable pool_call first_free serve_fixed serve_fixed_pools serve_variable serve_variable_pools set_time get_time get_operating_time create_cyclic start_cyclic stop_cyclic delete_cyclic refer_cyclic create_alarm start_alarm stop_alarm delete_alarm refer_alarm time_call body_of next_due again define_handler disable_dispatch enable_dispatch disable_interrupts enable_interrupts refer_system define_service refer_service enter_service context_call left list_existing list_ready list_queue set_hook hook_call open_device refer_device request request_whole wait_ending close_device suspend_devices device_call expected arrive hand_over hand_first messages emptied read_bytes write_bytes accept picked serve_acceptance serve_acceptances serve_ending serve_endings is_with_driver serve_close serve_closes serve_suspension events_sent free_descriptor free_request first_queued at_driver accepted dropped handed asked devices_start block is_last blocks unit cut may_cut arrived entered returned body_returned family_call answered called follow_release follow_each with_releases dispatched followed insert_once with_requests handler_begun due_begun interrupt_begun served_within settle freed_within fallen due_done tick state_after worked counted step sync_runs sync_run entered_2 runs start trace acted ran turn_of done_turn first_serving_2 serve_object state_start digits
flaky_run = refl

-- A log is read like a memory of its length; a write goes to its end, whatever its start, as far as there is room, and is
-- an error where there is none. A write of size 0 answers the room.
log_script : Script
log_script = record {
  devices = record { name = codes "l"; kind = devices.Log } ∷ [];
  pace = None;
  irqs = [];
  boot = record { body = 1; priority = 10 };
  bodies =
      record {
        name = codes "main";
        kind = kinds.Task;
        labels = [];
        stmts =
            stmts.Call names.TkOpnDev (args.Name (codes "l") ∷ args.List 4 ∷ []) ∷
            stmts.Call names.TkSreaDev (args.Number (pos 1) ∷ args.Number (pos 0) ∷ args.Number (pos 100) ∷ args.Number (pos 4) ∷ []) ∷
            stmts.Call names.TkSreaDev (args.Number (pos 1) ∷ args.Number (pos 0) ∷ args.Number (pos 100) ∷ args.Number (pos 0) ∷ []) ∷
            stmts.Store (operands.Number (pos 0)) (operands.Number (pos 7)) ∷
            stmts.Call names.TkSwriDev (args.Number (pos 1) ∷ args.Number (pos 500) ∷ args.Number (pos 0) ∷ args.Number (pos 2) ∷ []) ∷
            stmts.Store (operands.Number (pos 0)) (operands.Number (pos 9)) ∷
            stmts.Call names.TkSwriDev (args.Number (pos 1) ∷ args.Number (pos 0) ∷ args.Number (pos 0) ∷ args.Number (pos 1) ∷ []) ∷
            stmts.Call names.TkSreaDev (args.Number (pos 1) ∷ args.Number (pos 0) ∷ args.Number (pos 100) ∷ args.Number (pos 8) ∷ []) ∷
            stmts.Load 5 (operands.Number (pos 100)) ∷
            stmts.Show (operands.Register 5) ∷
            stmts.Load 5 (operands.Number (pos 102)) ∷
            stmts.Show (operands.Register 5) ∷
            stmts.Call names.TkSreaDev (args.Number (pos 1) ∷ args.Number (pos 2) ∷ args.Number (pos 100) ∷ args.Number (pos 0) ∷ []) ∷
            stmts.Call names.TkSreaDev (args.Number (pos 1) ∷ args.Number (pos 3) ∷ args.Number (pos 100) ∷ args.Number (pos 1) ∷ []) ∷
            stmts.Call names.TkSwriDev (args.Number (pos 1) ∷ args.Number (pos 9) ∷ args.Number (pos 100) ∷ args.Number (pos 0) ∷ []) ∷
            stmts.Store (operands.Number (pos 65532)) (operands.Number (pos 5)) ∷
            stmts.Call names.TkSwriDev (args.Number (pos 1) ∷ args.Number (pos 0) ∷ args.Number (pos 0) ∷ args.Number (pos 65536) ∷ []) ∷
            stmts.Call names.TkSwriDev (args.Number (pos 1) ∷ args.Number (pos 0) ∷ args.Number (pos 0) ∷ args.Number (pos 1) ∷ []) ∷
            stmts.Call names.TkSwriDev (args.Number (pos 1) ∷ args.Number (pos 0) ∷ args.Number (pos 0) ∷ args.Number (pos 0) ∷ []) ∷
            stmts.Call names.TkSreaDev (args.Number (pos 1) ∷ args.Number (pos 65533) ∷ args.Number (pos 100) ∷ args.Number (pos 64) ∷ []) ∷
            stmts.Load 5 (operands.Number (pos 102)) ∷
            stmts.Show (operands.Register 5) ∷
            [];
      } ∷
      [];
}

log_entries : List Entry
log_entries = record { place = 3; device = 1; request = 1; how = hows.Done } ∷ record { place = 4; device = 1; request = 1; how = hows.Done } ∷ record { place = 6; device = 1; request = 1; how = hows.Done } ∷ record { place = 8; device = 1; request = 1; how = hows.Done } ∷ record { place = 9; device = 1; request = 1; how = hows.Done } ∷ record { place = 14; device = 1; request = 1; how = hows.Done } ∷ record { place = 15; device = 1; request = 1; how = hows.Done } ∷ record { place = 16; device = 1; request = 1; how = hows.Done } ∷ record { place = 18; device = 1; request = 1; how = hows.Done } ∷ record { place = 19; device = 1; request = 1; how = hows.Done } ∷ record { place = 20; device = 1; request = 1; how = hows.Done } ∷ record { place = 21; device = 1; request = 1; how = hows.Done } ∷ []

log_lines : List ℕ
log_lines =
    codes "0 D 1\n" ++
    codes "1 C 1 tk_opn_dev 1\n" ++
    codes "2 B 1 tk_srea_dev\n" ++
    codes "2 D 0\n" ++
    codes "3 J 1 1 done E_PAR 0\n" ++
    codes "3 W 1 tk_srea_dev E_PAR\n" ++
    codes "3 D 1\n" ++
    codes "3 B 1 tk_srea_dev\n" ++
    codes "3 D 0\n" ++
    codes "4 J 1 1 done 0 0\n" ++
    codes "4 W 1 tk_srea_dev 0\n" ++
    codes "4 D 1\n" ++
    codes "5 B 1 tk_swri_dev\n" ++
    codes "5 D 0\n" ++
    codes "6 J 1 1 done 0 2\n" ++
    codes "6 W 1 tk_swri_dev 2\n" ++
    codes "6 D 1\n" ++
    codes "7 B 1 tk_swri_dev\n" ++
    codes "7 D 0\n" ++
    codes "8 J 1 1 done 0 1\n" ++
    codes "8 W 1 tk_swri_dev 1\n" ++
    codes "8 D 1\n" ++
    codes "8 B 1 tk_srea_dev\n" ++
    codes "8 D 0\n" ++
    codes "9 J 1 1 done 0 3\n" ++
    codes "9 W 1 tk_srea_dev 3\n" ++
    codes "9 D 1\n" ++
    codes "10 S 1 7\n" ++
    codes "12 S 1 9\n" ++
    codes "13 B 1 tk_srea_dev\n" ++
    codes "13 D 0\n" ++
    codes "14 J 1 1 done 0 1\n" ++
    codes "14 W 1 tk_srea_dev 1\n" ++
    codes "14 D 1\n" ++
    codes "14 B 1 tk_srea_dev\n" ++
    codes "14 D 0\n" ++
    codes "15 J 1 1 done E_PAR 0\n" ++
    codes "15 W 1 tk_srea_dev E_PAR\n" ++
    codes "15 D 1\n" ++
    codes "15 B 1 tk_swri_dev\n" ++
    codes "15 D 0\n" ++
    codes "16 J 1 1 done 0 65533\n" ++
    codes "16 W 1 tk_swri_dev 65533\n" ++
    codes "16 D 1\n" ++
    codes "17 B 1 tk_swri_dev\n" ++
    codes "17 D 0\n" ++
    codes "18 J 1 1 done 0 65533\n" ++
    codes "18 W 1 tk_swri_dev 65533\n" ++
    codes "18 D 1\n" ++
    codes "18 B 1 tk_swri_dev\n" ++
    codes "18 D 0\n" ++
    codes "19 J 1 1 done E_IO 0\n" ++
    codes "19 W 1 tk_swri_dev E_IO\n" ++
    codes "19 D 1\n" ++
    codes "19 B 1 tk_swri_dev\n" ++
    codes "19 D 0\n" ++
    codes "20 J 1 1 done 0 0\n" ++
    codes "20 W 1 tk_swri_dev 0\n" ++
    codes "20 D 1\n" ++
    codes "20 B 1 tk_srea_dev\n" ++
    codes "20 D 0\n" ++
    codes "21 J 1 1 done 0 3\n" ++
    codes "21 W 1 tk_srea_dev 3\n" ++
    codes "21 D 1\n" ++
    codes "22 S 1 5\n" ++
    codes "23 C 1 tk_ext_tsk 0\n" ++
    codes "23 D 0\n" ++
    codes "23 END idle\n" ++
    []

log_run : text_of_lines (lines_of (trace log_script modes.Sync 100000 log_entries)) ≡ log_lines
unfolding log_script log_entries log_lines text_of form_of named made task_call_name sem_flag_call_name mutex_call_name mail_call_name pool_call_name time_call_name context_call_name device_call_name hook_call_name name_of code_of error_text coded error_named attributes_of flag_mode_of open_mode_of suspend_mode_of is_name_byte name_at_most why_text value_text words_of text_of_line text_of_lines fetch give call_before create_sem create_flag end_first delete_sem delete_flag refer_sem refer_flag signal_sem set_flag clear_flag wait_sem wait_flag sem_flag_call serve_sem serve_flag first_served serve_sem_flag sem_trial flag_trial chosen free_task create_task delete_task start_task exit_task terminate_task change_priority rotate_ready get_task refer_task sleep delay wake_up cancel_wakeups release_wait suspend_task resume_task task_call mark_of allowed free_from first_serving serve_box serve_mailboxes serve_buffer serve_buffers post create_box delete_box send_box receive_box refer_box create_buffer delete_buffer send_buffer receive_buffer refer_buffer mail_call create_mutex lock_mutex unlock_mutex refer_mutex delete_mutex mutex_call change_priority_beside task_call_beside chain_has current_of resettle free_last ceiling_allows serve_mutex serve_mutexes create_fixed delete_fixed get_fixed release_fixed refer_fixed create_variable delete_variable get_variable release_variable refer_variable pool_call first_free serve_fixed serve_fixed_pools serve_variable serve_variable_pools set_time get_time get_operating_time create_cyclic start_cyclic stop_cyclic delete_cyclic refer_cyclic create_alarm start_alarm stop_alarm delete_alarm refer_alarm time_call body_of next_due again define_handler disable_dispatch enable_dispatch disable_interrupts enable_interrupts refer_system define_service refer_service enter_service context_call left list_existing list_ready list_queue set_hook hook_call open_device refer_device request request_whole wait_ending close_device suspend_devices device_call expected arrive hand_over hand_first messages emptied read_bytes write_bytes accept picked serve_acceptance serve_acceptances serve_ending serve_endings is_with_driver serve_close serve_closes serve_suspension events_sent free_descriptor free_request first_queued at_driver accepted dropped handed asked devices_start block is_last blocks unit cut may_cut arrived entered returned body_returned family_call answered called follow_release follow_each with_releases dispatched followed insert_once with_requests handler_begun due_begun interrupt_begun served_within settle freed_within fallen due_done tick state_after worked counted step sync_runs sync_run entered_2 runs start trace acted ran turn_of done_turn first_serving_2 serve_object state_start digits
log_run = refl

log_sync : SyncRun
unfolding log_script text_of form_of named made task_call_name sem_flag_call_name mutex_call_name mail_call_name pool_call_name time_call_name context_call_name device_call_name hook_call_name name_of code_of error_text coded error_named attributes_of flag_mode_of open_mode_of suspend_mode_of is_name_byte name_at_most why_text value_text words_of text_of_line text_of_lines fetch give call_before create_sem create_flag end_first delete_sem delete_flag refer_sem refer_flag signal_sem set_flag clear_flag wait_sem wait_flag sem_flag_call serve_sem serve_flag first_served serve_sem_flag sem_trial flag_trial chosen free_task create_task delete_task start_task exit_task terminate_task change_priority rotate_ready get_task refer_task sleep delay wake_up cancel_wakeups release_wait suspend_task resume_task task_call mark_of allowed free_from first_serving serve_box serve_mailboxes serve_buffer serve_buffers post create_box delete_box send_box receive_box refer_box create_buffer delete_buffer send_buffer receive_buffer refer_buffer mail_call create_mutex lock_mutex unlock_mutex refer_mutex delete_mutex mutex_call change_priority_beside task_call_beside chain_has current_of resettle free_last ceiling_allows serve_mutex serve_mutexes create_fixed delete_fixed get_fixed release_fixed refer_fixed create_variable delete_variable get_variable release_variable refer_variable pool_call first_free serve_fixed serve_fixed_pools serve_variable serve_variable_pools set_time get_time get_operating_time create_cyclic start_cyclic stop_cyclic delete_cyclic refer_cyclic create_alarm start_alarm stop_alarm delete_alarm refer_alarm time_call body_of next_due again define_handler disable_dispatch enable_dispatch disable_interrupts enable_interrupts refer_system define_service refer_service enter_service context_call left list_existing list_ready list_queue set_hook hook_call open_device refer_device request request_whole wait_ending close_device suspend_devices device_call expected arrive hand_over hand_first messages emptied read_bytes write_bytes accept picked serve_acceptance serve_acceptances serve_ending serve_endings is_with_driver serve_close serve_closes serve_suspension events_sent free_descriptor free_request first_queued at_driver accepted dropped handed asked devices_start block is_last blocks unit cut may_cut arrived entered returned body_returned family_call answered called follow_release follow_each with_releases dispatched followed insert_once with_requests handler_begun due_begun interrupt_begun served_within settle freed_within fallen due_done tick state_after worked counted step sync_runs sync_run entered_2 runs start trace acted ran turn_of done_turn first_serving_2 serve_object state_start digits
log_sync = sync_run log_script 100000

log_sync_run : (text_of_lines (lines_of log_sync.trace) ≡ log_lines) × (log_sync.entries ≡ log_entries)
unfolding log_sync log_script log_entries log_lines text_of form_of named made task_call_name sem_flag_call_name mutex_call_name mail_call_name pool_call_name time_call_name context_call_name device_call_name hook_call_name name_of code_of error_text coded error_named attributes_of flag_mode_of open_mode_of suspend_mode_of is_name_byte name_at_most why_text value_text words_of text_of_line text_of_lines fetch give call_before create_sem create_flag end_first delete_sem delete_flag refer_sem refer_flag signal_sem set_flag clear_flag wait_sem wait_flag sem_flag_call serve_sem serve_flag first_served serve_sem_flag sem_trial flag_trial chosen free_task create_task delete_task start_task exit_task terminate_task change_priority rotate_ready get_task refer_task sleep delay wake_up cancel_wakeups release_wait suspend_task resume_task task_call mark_of allowed free_from first_serving serve_box serve_mailboxes serve_buffer serve_buffers post create_box delete_box send_box receive_box refer_box create_buffer delete_buffer send_buffer receive_buffer refer_buffer mail_call create_mutex lock_mutex unlock_mutex refer_mutex delete_mutex mutex_call change_priority_beside task_call_beside chain_has current_of resettle free_last ceiling_allows serve_mutex serve_mutexes create_fixed delete_fixed get_fixed release_fixed refer_fixed create_variable delete_variable get_variable release_variable refer_variable pool_call first_free serve_fixed serve_fixed_pools serve_variable serve_variable_pools set_time get_time get_operating_time create_cyclic start_cyclic stop_cyclic delete_cyclic refer_cyclic create_alarm start_alarm stop_alarm delete_alarm refer_alarm time_call body_of next_due again define_handler disable_dispatch enable_dispatch disable_interrupts enable_interrupts refer_system define_service refer_service enter_service context_call left list_existing list_ready list_queue set_hook hook_call open_device refer_device request request_whole wait_ending close_device suspend_devices device_call expected arrive hand_over hand_first messages emptied read_bytes write_bytes accept picked serve_acceptance serve_acceptances serve_ending serve_endings is_with_driver serve_close serve_closes serve_suspension events_sent free_descriptor free_request first_queued at_driver accepted dropped handed asked devices_start block is_last blocks unit cut may_cut arrived entered returned body_returned family_call answered called follow_release follow_each with_releases dispatched followed insert_once with_requests handler_begun due_begun interrupt_begun served_within settle freed_within fallen due_done tick state_after worked counted step sync_runs sync_run entered_2 runs start trace acted ran turn_of done_turn first_serving_2 serve_object state_start digits
log_sync_run = (refl, refl)

-- A memory moves what lies between the start and its end, and a request past the end is an error; size 0 answers what lies
-- there. A slow memory does the same. What isn't moved stays as it was, in the store and in the script's memory.
memories_script : Script
memories_script = record {
  devices = record { name = codes "d"; kind = devices.Ram 100 } ∷ record { name = codes "s"; kind = devices.Slow 130 2 } ∷ [];
  pace = None;
  irqs = [];
  boot = record { body = 1; priority = 10 };
  bodies =
      record {
        name = codes "main";
        kind = kinds.Task;
        labels = [];
        stmts =
            stmts.Call names.TkOpnDev (args.Name (codes "d") ∷ args.List 4 ∷ []) ∷
            stmts.Call names.TkOpnDev (args.Name (codes "s") ∷ args.List 4 ∷ []) ∷
            stmts.Store (operands.Number (pos 0)) (operands.Number (pos 65)) ∷
            stmts.Store (operands.Number (pos 69)) (operands.Number (pos 66)) ∷
            stmts.Store (operands.Number (pos 501)) (operands.Number (pos 77)) ∷
            stmts.Call names.TkSwriDev (args.Number (pos 1) ∷ args.Number (pos 30) ∷ args.Number (pos 0) ∷ args.Number (pos 200) ∷ []) ∷
            stmts.Call names.TkSreaDev (args.Number (pos 1) ∷ args.Number (pos 99) ∷ args.Number (pos 500) ∷ args.Number (pos 64) ∷ []) ∷
            stmts.Load 5 (operands.Number (pos 500)) ∷
            stmts.Show (operands.Register 5) ∷
            stmts.Load 5 (operands.Number (pos 501)) ∷
            stmts.Show (operands.Register 5) ∷
            stmts.Call names.TkSreaDev (args.Number (pos 1) ∷ args.Number (pos 30) ∷ args.Number (pos 500) ∷ args.Number (pos 1) ∷ []) ∷
            stmts.Load 5 (operands.Number (pos 500)) ∷
            stmts.Show (operands.Register 5) ∷
            stmts.Call names.TkSreaDev (args.Number (pos 1) ∷ args.Number (pos 100) ∷ args.Number (pos 500) ∷ args.Number (pos 4) ∷ []) ∷
            stmts.Call names.TkSwriDev (args.Number (pos 1) ∷ args.Number (pos 101) ∷ args.Number (pos 0) ∷ args.Number (pos 1) ∷ []) ∷
            stmts.Call names.TkSreaDev (args.Number (pos 1) ∷ args.Number (pos 40) ∷ args.Number (pos 0) ∷ args.Number (pos 0) ∷ []) ∷
            stmts.Call names.TkSwriDev (args.Number (pos 1) ∷ args.Number (pos 101) ∷ args.Number (pos 0) ∷ args.Number (pos 0) ∷ []) ∷
            stmts.Call names.TkSwriDev (args.Number (pos 2) ∷ args.Number (pos 128) ∷ args.Number (pos 0) ∷ args.Number (pos 4) ∷ []) ∷
            stmts.Call names.TkSreaDev (args.Number (pos 2) ∷ args.Number (pos 127) ∷ args.Number (pos 500) ∷ args.Number (pos 9) ∷ []) ∷
            stmts.Load 5 (operands.Number (pos 501)) ∷
            stmts.Show (operands.Register 5) ∷
            stmts.Call names.TkSreaDev (args.Number (pos 2) ∷ args.Number (pos 130) ∷ args.Number (pos 65536) ∷ args.Number (pos 0) ∷ []) ∷
            [];
      } ∷
      [];
}

memories_entries : List Entry
memories_entries = record { place = 7; device = 1; request = 1; how = hows.Done } ∷ record { place = 8; device = 1; request = 1; how = hows.Done } ∷ record { place = 13; device = 1; request = 1; how = hows.Done } ∷ record { place = 16; device = 1; request = 1; how = hows.Done } ∷ record { place = 17; device = 1; request = 1; how = hows.Done } ∷ record { place = 18; device = 1; request = 1; how = hows.Done } ∷ record { place = 19; device = 1; request = 1; how = hows.Done } ∷ record { place = 20; device = 2; request = 1; how = hows.Done } ∷ record { place = 21; device = 2; request = 1; how = hows.Done } ∷ record { place = 24; device = 2; request = 1; how = hows.Done } ∷ []

memories_lines : List ℕ
memories_lines =
    codes "0 D 1\n" ++
    codes "1 C 1 tk_opn_dev 1\n" ++
    codes "2 C 1 tk_opn_dev 2\n" ++
    codes "6 B 1 tk_swri_dev\n" ++
    codes "6 D 0\n" ++
    codes "7 J 1 1 done 0 70\n" ++
    codes "7 W 1 tk_swri_dev 70\n" ++
    codes "7 D 1\n" ++
    codes "7 B 1 tk_srea_dev\n" ++
    codes "7 D 0\n" ++
    codes "8 J 1 1 done 0 1\n" ++
    codes "8 W 1 tk_srea_dev 1\n" ++
    codes "8 D 1\n" ++
    codes "9 S 1 66\n" ++
    codes "11 S 1 77\n" ++
    codes "12 B 1 tk_srea_dev\n" ++
    codes "12 D 0\n" ++
    codes "13 J 1 1 done 0 1\n" ++
    codes "13 W 1 tk_srea_dev 1\n" ++
    codes "13 D 1\n" ++
    codes "14 S 1 65\n" ++
    codes "15 B 1 tk_srea_dev\n" ++
    codes "15 D 0\n" ++
    codes "16 J 1 1 done E_PAR 0\n" ++
    codes "16 W 1 tk_srea_dev E_PAR\n" ++
    codes "16 D 1\n" ++
    codes "16 B 1 tk_swri_dev\n" ++
    codes "16 D 0\n" ++
    codes "17 J 1 1 done E_PAR 0\n" ++
    codes "17 W 1 tk_swri_dev E_PAR\n" ++
    codes "17 D 1\n" ++
    codes "17 B 1 tk_srea_dev\n" ++
    codes "17 D 0\n" ++
    codes "18 J 1 1 done 0 60\n" ++
    codes "18 W 1 tk_srea_dev 60\n" ++
    codes "18 D 1\n" ++
    codes "18 B 1 tk_swri_dev\n" ++
    codes "18 D 0\n" ++
    codes "19 J 1 1 done 0 0\n" ++
    codes "19 W 1 tk_swri_dev 0\n" ++
    codes "19 D 1\n" ++
    codes "19 B 1 tk_swri_dev\n" ++
    codes "19 D 0\n" ++
    codes "20 J 2 1 done 0 2\n" ++
    codes "20 W 1 tk_swri_dev 2\n" ++
    codes "20 D 1\n" ++
    codes "20 B 1 tk_srea_dev\n" ++
    codes "20 D 0\n" ++
    codes "21 J 2 1 done 0 3\n" ++
    codes "21 W 1 tk_srea_dev 3\n" ++
    codes "21 D 1\n" ++
    codes "22 S 1 65\n" ++
    codes "23 B 1 tk_srea_dev\n" ++
    codes "23 D 0\n" ++
    codes "24 J 2 1 done 0 0\n" ++
    codes "24 W 1 tk_srea_dev 0\n" ++
    codes "24 D 1\n" ++
    codes "24 C 1 tk_ext_tsk 0\n" ++
    codes "24 D 0\n" ++
    codes "24 END idle\n" ++
    []

memories_run : text_of_lines (lines_of (trace memories_script modes.Sync 100000 memories_entries)) ≡ memories_lines
unfolding memories_script memories_entries memories_lines text_of form_of named made task_call_name sem_flag_call_name mutex_call_name mail_call_name pool_call_name time_call_name context_call_name device_call_name hook_call_name name_of code_of error_text coded error_named attributes_of flag_mode_of open_mode_of suspend_mode_of is_name_byte name_at_most why_text value_text words_of text_of_line text_of_lines fetch give call_before create_sem create_flag end_first delete_sem delete_flag refer_sem refer_flag signal_sem set_flag clear_flag wait_sem wait_flag sem_flag_call serve_sem serve_flag first_served serve_sem_flag sem_trial flag_trial chosen free_task create_task delete_task start_task exit_task terminate_task change_priority rotate_ready get_task refer_task sleep delay wake_up cancel_wakeups release_wait suspend_task resume_task task_call mark_of allowed free_from first_serving serve_box serve_mailboxes serve_buffer serve_buffers post create_box delete_box send_box receive_box refer_box create_buffer delete_buffer send_buffer receive_buffer refer_buffer mail_call create_mutex lock_mutex unlock_mutex refer_mutex delete_mutex mutex_call change_priority_beside task_call_beside chain_has current_of resettle free_last ceiling_allows serve_mutex serve_mutexes create_fixed delete_fixed get_fixed release_fixed refer_fixed create_variable delete_variable get_variable release_variable refer_variable pool_call first_free serve_fixed serve_fixed_pools serve_variable serve_variable_pools set_time get_time get_operating_time create_cyclic start_cyclic stop_cyclic delete_cyclic refer_cyclic create_alarm start_alarm stop_alarm delete_alarm refer_alarm time_call body_of next_due again define_handler disable_dispatch enable_dispatch disable_interrupts enable_interrupts refer_system define_service refer_service enter_service context_call left list_existing list_ready list_queue set_hook hook_call open_device refer_device request request_whole wait_ending close_device suspend_devices device_call expected arrive hand_over hand_first messages emptied read_bytes write_bytes accept picked serve_acceptance serve_acceptances serve_ending serve_endings is_with_driver serve_close serve_closes serve_suspension events_sent free_descriptor free_request first_queued at_driver accepted dropped handed asked devices_start block is_last blocks unit cut may_cut arrived entered returned body_returned family_call answered called follow_release follow_each with_releases dispatched followed insert_once with_requests handler_begun due_begun interrupt_begun served_within settle freed_within fallen due_done tick state_after worked counted step sync_runs sync_run entered_2 runs start trace acted ran turn_of done_turn first_serving_2 serve_object state_start digits
memories_run = refl

memories_sync : SyncRun
unfolding memories_script text_of form_of named made task_call_name sem_flag_call_name mutex_call_name mail_call_name pool_call_name time_call_name context_call_name device_call_name hook_call_name name_of code_of error_text coded error_named attributes_of flag_mode_of open_mode_of suspend_mode_of is_name_byte name_at_most why_text value_text words_of text_of_line text_of_lines fetch give call_before create_sem create_flag end_first delete_sem delete_flag refer_sem refer_flag signal_sem set_flag clear_flag wait_sem wait_flag sem_flag_call serve_sem serve_flag first_served serve_sem_flag sem_trial flag_trial chosen free_task create_task delete_task start_task exit_task terminate_task change_priority rotate_ready get_task refer_task sleep delay wake_up cancel_wakeups release_wait suspend_task resume_task task_call mark_of allowed free_from first_serving serve_box serve_mailboxes serve_buffer serve_buffers post create_box delete_box send_box receive_box refer_box create_buffer delete_buffer send_buffer receive_buffer refer_buffer mail_call create_mutex lock_mutex unlock_mutex refer_mutex delete_mutex mutex_call change_priority_beside task_call_beside chain_has current_of resettle free_last ceiling_allows serve_mutex serve_mutexes create_fixed delete_fixed get_fixed release_fixed refer_fixed create_variable delete_variable get_variable release_variable refer_variable pool_call first_free serve_fixed serve_fixed_pools serve_variable serve_variable_pools set_time get_time get_operating_time create_cyclic start_cyclic stop_cyclic delete_cyclic refer_cyclic create_alarm start_alarm stop_alarm delete_alarm refer_alarm time_call body_of next_due again define_handler disable_dispatch enable_dispatch disable_interrupts enable_interrupts refer_system define_service refer_service enter_service context_call left list_existing list_ready list_queue set_hook hook_call open_device refer_device request request_whole wait_ending close_device suspend_devices device_call expected arrive hand_over hand_first messages emptied read_bytes write_bytes accept picked serve_acceptance serve_acceptances serve_ending serve_endings is_with_driver serve_close serve_closes serve_suspension events_sent free_descriptor free_request first_queued at_driver accepted dropped handed asked devices_start block is_last blocks unit cut may_cut arrived entered returned body_returned family_call answered called follow_release follow_each with_releases dispatched followed insert_once with_requests handler_begun due_begun interrupt_begun served_within settle freed_within fallen due_done tick state_after worked counted step sync_runs sync_run entered_2 runs start trace acted ran turn_of done_turn first_serving_2 serve_object state_start digits
memories_sync = sync_run memories_script 100000

memories_sync_run : (text_of_lines (lines_of memories_sync.trace) ≡ memories_lines) × (memories_sync.entries ≡ memories_entries)
unfolding memories_sync memories_script memories_entries memories_lines text_of form_of named made task_call_name sem_flag_call_name mutex_call_name mail_call_name pool_call_name time_call_name context_call_name device_call_name hook_call_name name_of code_of error_text coded error_named attributes_of flag_mode_of open_mode_of suspend_mode_of is_name_byte name_at_most why_text value_text words_of text_of_line text_of_lines fetch give call_before create_sem create_flag end_first delete_sem delete_flag refer_sem refer_flag signal_sem set_flag clear_flag wait_sem wait_flag sem_flag_call serve_sem serve_flag first_served serve_sem_flag sem_trial flag_trial chosen free_task create_task delete_task start_task exit_task terminate_task change_priority rotate_ready get_task refer_task sleep delay wake_up cancel_wakeups release_wait suspend_task resume_task task_call mark_of allowed free_from first_serving serve_box serve_mailboxes serve_buffer serve_buffers post create_box delete_box send_box receive_box refer_box create_buffer delete_buffer send_buffer receive_buffer refer_buffer mail_call create_mutex lock_mutex unlock_mutex refer_mutex delete_mutex mutex_call change_priority_beside task_call_beside chain_has current_of resettle free_last ceiling_allows serve_mutex serve_mutexes create_fixed delete_fixed get_fixed release_fixed refer_fixed create_variable delete_variable get_variable release_variable refer_variable pool_call first_free serve_fixed serve_fixed_pools serve_variable serve_variable_pools set_time get_time get_operating_time create_cyclic start_cyclic stop_cyclic delete_cyclic refer_cyclic create_alarm start_alarm stop_alarm delete_alarm refer_alarm time_call body_of next_due again define_handler disable_dispatch enable_dispatch disable_interrupts enable_interrupts refer_system define_service refer_service enter_service context_call left list_existing list_ready list_queue set_hook hook_call open_device refer_device request request_whole wait_ending close_device suspend_devices device_call expected arrive hand_over hand_first messages emptied read_bytes write_bytes accept picked serve_acceptance serve_acceptances serve_ending serve_endings is_with_driver serve_close serve_closes serve_suspension events_sent free_descriptor free_request first_queued at_driver accepted dropped handed asked devices_start block is_last blocks unit cut may_cut arrived entered returned body_returned family_call answered called follow_release follow_each with_releases dispatched followed insert_once with_requests handler_begun due_begun interrupt_begun served_within settle freed_within fallen due_done tick state_after worked counted step sync_runs sync_run entered_2 runs start trace acted ran turn_of done_turn first_serving_2 serve_object state_start digits
memories_sync_run = (refl, refl)
