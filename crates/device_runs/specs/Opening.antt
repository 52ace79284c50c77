-- Runs that were worked out by hand from the rules, as runs/device/opening has them: each a theorem by computation.
use Rattle.std.specs.Prelude.{ℕ, pos, negsuc, List, [], ◌∷◌, ◌++◌, Some, None, codes, ◌≡◌, refl}
use Rattle.std.specs.Fmt.{digits}
use Rattle.tk_types.specs.declared.script.Script.{Script}
use Rattle.tk_types.specs.declared.script.BodyKind.TheVariants as kinds
use Rattle.tk_types.specs.declared.script.Kind.TheVariants as devices
use Rattle.tk_types.specs.declared.script.Stmt.TheVariants as stmts
use Rattle.tk_types.specs.declared.script.Operand.TheVariants as operands
use Rattle.tk_types.specs.declared.script.Operation.TheVariants as operations
use Rattle.tk_types.specs.declared.script.Condition.TheVariants as conditions
use Rattle.tk_types.specs.declared.script.Arg.TheVariants as args
use Rattle.tk_types.specs.declared.call_name.CallName.TheVariants as names
use Rattle.tk_types.specs.declared.line.Entry.{Entry}
use Rattle.tk_types.specs.declared.line.How.TheVariants as hows
use Rattle.tk_types.specs.declared.run.Mode.TheVariants as modes
use Rattle.tk_types.specs.CallNames.{text_of, form_of, named}
use Rattle.tk_types.specs.Calls.{made, task_call_name, sem_flag_call_name, mutex_call_name, mail_call_name, pool_call_name, time_call_name, context_call_name, device_call_name, hook_call_name, name_of}
use Rattle.tk_types.specs.Codes.{code_of, error_text, coded, error_named}
use Rattle.tk_types.specs.Modes.{attributes_of, flag_mode_of, open_mode_of, suspend_mode_of}
use Rattle.tk_types.specs.Names.{is_name_byte, name_at_most}
use Rattle.tk_types.specs.Reasons.{why_text}
use Rattle.tk_model.specs.LineText.{value_text, words_of, text_of_line, text_of_lines}
use Rattle.kernel_model.specs.Bodies.Statements.{fetch, give, call_before}
use Rattle.kernel_model.specs.SemFlags.Calls.{create_sem, create_flag, end_first, delete_sem, delete_flag, refer_sem, refer_flag, signal_sem, set_flag, clear_flag, wait_sem, wait_flag, sem_flag_call}
use Rattle.kernel_model.specs.SemFlags.Tables.{serve_sem, serve_flag, first_served, serve_sem_flag}
use Rattle.kernel_model.specs.SemFlags.Trial.{sem_trial, flag_trial}
use Rattle.kernel_model.specs.Tasks.Base.{chosen, free_task}
use Rattle.kernel_model.specs.Tasks.Calls.{create_task, delete_task, start_task, exit_task, terminate_task, change_priority, rotate_ready, get_task, refer_task, sleep, delay, wake_up, cancel_wakeups, release_wait, suspend_task, resume_task, task_call}
use Rattle.kernel_model.specs.Tasks.Marks.{mark_of, allowed}
use Rattle.kernel_model.specs.Words.Orders.{free_from}
use Rattle.object_model.specs.Servings.{first_serving}
use Rattle.object_model.specs.Mails.Boxes.{serve_box, serve_mailboxes}
use Rattle.object_model.specs.Mails.Buffers.{serve_buffer, serve_buffers, post}
use Rattle.object_model.specs.Mails.Calls.{create_box, delete_box, send_box, receive_box, refer_box, create_buffer, delete_buffer, send_buffer, receive_buffer, refer_buffer, mail_call}
use Rattle.object_model.specs.Mutexes.Calls.{create_mutex, lock_mutex, unlock_mutex, refer_mutex, delete_mutex, mutex_call, change_priority_beside, task_call_beside}
use Rattle.object_model.specs.Mutexes.Priority.{chain_has, current_of, resettle}
use Rattle.object_model.specs.Mutexes.Tables.{free_last, ceiling_allows, serve_mutex, serve_mutexes}
use Rattle.object_model.specs.Pools.Calls.{create_fixed, delete_fixed, get_fixed, release_fixed, refer_fixed, create_variable, delete_variable, get_variable, release_variable, refer_variable, pool_call}
use Rattle.object_model.specs.Pools.Fixed.{first_free, serve_fixed, serve_fixed_pools}
use Rattle.object_model.specs.Pools.Variable.{serve_variable, serve_variable_pools}
use Rattle.context_model.specs.Clocks.Calls.{set_time, get_time, get_operating_time, create_cyclic, start_cyclic, stop_cyclic, delete_cyclic, refer_cyclic, create_alarm, start_alarm, stop_alarm, delete_alarm, refer_alarm, time_call}
use Rattle.context_model.specs.Clocks.Tables.{body_of, next_due, again}
use Rattle.context_model.specs.Contexts.Calls.{define_handler, disable_dispatch, enable_dispatch, disable_interrupts, enable_interrupts, refer_system, define_service, refer_service, enter_service, context_call}
use Rattle.context_model.specs.Contexts.Tables.{left}
use Rattle.context_model.specs.Hooks.Calls.{list_existing, list_ready, list_queue, set_hook, hook_call}
use Rattle.device_model.specs.Devices.Calls.{open_device, refer_device, request, request_whole, wait_ending, close_device, suspend_devices, device_call}
use Rattle.device_model.specs.Devices.Endings.{expected, arrive}
use Rattle.device_model.specs.Devices.Handing.{hand_over, hand_first, messages, emptied}
use Rattle.device_model.specs.Devices.Memory.{read_bytes, write_bytes}
use Rattle.device_model.specs.Devices.Requests.{accept, picked}
use Rattle.device_model.specs.Devices.Servings.{serve_acceptance, serve_acceptances, serve_ending, serve_endings, is_with_driver, serve_close, serve_closes, serve_suspension}
use Rattle.device_model.specs.Devices.Suspension.{events_sent}
use Rattle.device_model.specs.Devices.Tables.{free_descriptor, free_request, first_queued, at_driver, accepted, dropped, handed, asked, devices_start}
use Rattle.device_model.specs.Units.Blocks.{block, is_last, blocks}
use Rattle.device_model.specs.Units.Function.{unit, cut, may_cut}
use Rattle.machine_model.specs.Events.Arrivals.{arrived}
use Rattle.machine_model.specs.Events.Bodies.{entered, returned, body_returned}
use Rattle.machine_model.specs.Events.Calls.{family_call, answered, called}
use Rattle.machine_model.specs.Events.Follow.{follow_release, follow_each, with_releases, dispatched, followed}
use Rattle.machine_model.specs.Events.Handlers.{insert_once, with_requests, handler_begun, due_begun, interrupt_begun}
use Rattle.machine_model.specs.Events.Settle.{served_within, settle, freed_within}
use Rattle.machine_model.specs.Events.Ticks.{fallen, due_done, tick}
use Rattle.machine_model.specs.Runs.Reached.{state_after}
use Rattle.machine_model.specs.Runs.Step.{worked, counted, step}
use Rattle.machine_model.specs.Runs.SyncTrace.{sync_runs, sync_run}
use Rattle.machine_model.specs.Runs.Trace.{lines_of, entered as entered_2, runs, start, trace}
use Rattle.machine_model.specs.Runs.Turns.{acted, ran, turn_of, done_turn}
use Rattle.machine_model.specs.States.Objects.{first_serving as first_serving_2, serve_object}
use Rattle.machine_model.specs.States.State.{state_start}

-- An opening is busy where its exclusion clashes with the access of one that is open, or the other way round: one against
-- all, one against writing, one against reading. A close takes the clash away; other devices aren't touched.
clashes_script : Script
clashes_script = record {
  devices = record { name = codes "a"; kind = devices.Ram 64 } ∷ record { name = codes "b"; kind = devices.Ram 64 } ∷ [];
  pace = None;
  irqs = [];
  boot = record { body = 1; priority = 10 };
  bodies =
      record {
        name = codes "main";
        kind = kinds.Task;
        labels = [];
        stmts =
            stmts.Call names.TkOpnDev (args.Name (codes "a") ∷ args.List 1 ∷ []) ∷
            stmts.Call names.TkOpnDev (args.Name (codes "a") ∷ args.List 9 ∷ []) ∷
            stmts.Call names.TkOpnDev (args.Name (codes "a") ∷ args.List 34 ∷ []) ∷
            stmts.Call names.TkOpnDev (args.Name (codes "a") ∷ args.List 18 ∷ []) ∷
            stmts.Call names.TkOpnDev (args.Name (codes "a") ∷ args.List 2 ∷ []) ∷
            stmts.Call names.TkOpnDev (args.Name (codes "a") ∷ args.List 4 ∷ []) ∷
            stmts.Call names.TkOpnDev (args.Name (codes "a") ∷ args.List 17 ∷ []) ∷
            stmts.Call names.TkOpnDev (args.Name (codes "a") ∷ args.List 1 ∷ []) ∷
            stmts.Call names.TkClsDev (args.Number (pos 2) ∷ []) ∷
            stmts.Call names.TkOpnDev (args.Name (codes "a") ∷ args.List 17 ∷ []) ∷
            stmts.Call names.TkOpnDev (args.Name (codes "a") ∷ args.List 4 ∷ []) ∷
            stmts.Call names.TkOpnDev (args.Name (codes "a") ∷ args.List 17 ∷ []) ∷
            stmts.Call names.TkClsDev (args.Number (pos 1) ∷ []) ∷
            stmts.Call names.TkClsDev (args.Number (pos 2) ∷ []) ∷
            stmts.Call names.TkClsDev (args.Number (pos 3) ∷ []) ∷
            stmts.Call names.TkClsDev (args.Number (pos 4) ∷ []) ∷
            stmts.Call names.TkOpnDev (args.Name (codes "a") ∷ args.List 34 ∷ []) ∷
            stmts.Call names.TkOpnDev (args.Name (codes "a") ∷ args.List 1 ∷ []) ∷
            stmts.Call names.TkOpnDev (args.Name (codes "a") ∷ args.List 4 ∷ []) ∷
            stmts.Call names.TkOpnDev (args.Name (codes "a") ∷ args.List 10 ∷ []) ∷
            stmts.Call names.TkOpnDev (args.Name (codes "a") ∷ args.List 2 ∷ []) ∷
            stmts.Call names.TkClsDev (args.Number (pos 1) ∷ []) ∷
            stmts.Call names.TkClsDev (args.Number (pos 2) ∷ []) ∷
            stmts.Call names.TkOpnDev (args.Name (codes "a") ∷ args.List 9 ∷ []) ∷
            stmts.Call names.TkOpnDev (args.Name (codes "a") ∷ args.List 1 ∷ []) ∷
            stmts.Call names.TkOpnDev (args.Name (codes "a") ∷ args.List 2 ∷ []) ∷
            stmts.Call names.TkOpnDev (args.Name (codes "b") ∷ args.List 10 ∷ []) ∷
            [];
      } ∷
      [];
}

clashes_entries : List Entry
clashes_entries = []

clashes_lines : List ℕ
clashes_lines =
    codes "0 D 1\n" ++
    codes "1 C 1 tk_opn_dev 1\n" ++
    codes "2 C 1 tk_opn_dev E_BUSY\n" ++
    codes "3 C 1 tk_opn_dev E_BUSY\n" ++
    codes "4 C 1 tk_opn_dev 2\n" ++
    codes "5 C 1 tk_opn_dev E_BUSY\n" ++
    codes "6 C 1 tk_opn_dev E_BUSY\n" ++
    codes "7 C 1 tk_opn_dev E_BUSY\n" ++
    codes "8 C 1 tk_opn_dev 3\n" ++
    codes "9 C 1 tk_cls_dev 0\n" ++
    codes "10 C 1 tk_opn_dev 2\n" ++
    codes "11 C 1 tk_opn_dev E_BUSY\n" ++
    codes "12 C 1 tk_opn_dev 4\n" ++
    codes "13 C 1 tk_cls_dev 0\n" ++
    codes "14 C 1 tk_cls_dev 0\n" ++
    codes "15 C 1 tk_cls_dev 0\n" ++
    codes "16 C 1 tk_cls_dev 0\n" ++
    codes "17 C 1 tk_opn_dev 1\n" ++
    codes "18 C 1 tk_opn_dev E_BUSY\n" ++
    codes "19 C 1 tk_opn_dev E_BUSY\n" ++
    codes "20 C 1 tk_opn_dev E_BUSY\n" ++
    codes "21 C 1 tk_opn_dev 2\n" ++
    codes "22 C 1 tk_cls_dev 0\n" ++
    codes "23 C 1 tk_cls_dev 0\n" ++
    codes "24 C 1 tk_opn_dev 1\n" ++
    codes "25 C 1 tk_opn_dev E_BUSY\n" ++
    codes "26 C 1 tk_opn_dev E_BUSY\n" ++
    codes "27 C 1 tk_opn_dev 2\n" ++
    codes "28 C 1 tk_ext_tsk 0\n" ++
    codes "28 D 0\n" ++
    codes "28 END idle\n" ++
    []

clashes_run : text_of_lines (lines_of (trace clashes_script modes.Free 100000 clashes_entries)) ≡ clashes_lines
unfolding clashes_script clashes_entries clashes_lines text_of form_of named made task_call_name sem_flag_call_name mutex_call_name mail_call_name pool_call_name time_call_name context_call_name device_call_name hook_call_name name_of code_of error_text coded error_named attributes_of flag_mode_of open_mode_of suspend_mode_of is_name_byte name_at_most why_text value_text words_of text_of_line text_of_lines fetch give call_before create_sem create_flag end_first delete_sem delete_flag refer_sem refer_flag signal_sem set_flag clear_flag wait_sem wait_flag sem_flag_call serve_sem serve_flag first_served serve_sem_flag sem_trial flag_trial chosen free_task create_task delete_task start_task exit_task terminate_task change_priority rotate_ready get_task refer_task sleep delay wake_up cancel_wakeups release_wait suspend_task resume_task task_call mark_of allowed free_from first_serving serve_box serve_mailboxes serve_buffer serve_buffers post create_box delete_box send_box receive_box refer_box create_buffer delete_buffer send_buffer receive_buffer refer_buffer mail_call create_mutex lock_mutex unlock_mutex refer_mutex delete_mutex mutex_call change_priority_beside task_call_beside chain_has current_of resettle free_last ceiling_allows serve_mutex serve_mutexes create_fixed delete_fixed get_fixed release_fixed refer_fixed create_variable delete_variable get_variable release_variable refer_variable pool_call first_free serve_fixed serve_fixed_pools serve_variable serve_variable_pools set_time get_time get_operating_time create_cyclic start_cyclic stop_cyclic delete_cyclic refer_cyclic create_alarm start_alarm stop_alarm delete_alarm refer_alarm time_call body_of next_due again define_handler disable_dispatch enable_dispatch disable_interrupts enable_interrupts refer_system define_service refer_service enter_service context_call left list_existing list_ready list_queue set_hook hook_call open_device refer_device request request_whole wait_ending close_device suspend_devices device_call expected arrive hand_over hand_first messages emptied read_bytes write_bytes accept picked serve_acceptance serve_acceptances serve_ending serve_endings is_with_driver serve_close serve_closes serve_suspension events_sent free_descriptor free_request first_queued at_driver accepted dropped handed asked devices_start block is_last blocks unit cut may_cut arrived entered returned body_returned family_call answered called follow_release follow_each with_releases dispatched followed insert_once with_requests handler_begun due_begun interrupt_begun served_within settle freed_within fallen due_done tick state_after worked counted step sync_runs sync_run entered_2 runs start trace acted ran turn_of done_turn first_serving_2 serve_object state_start digits
clashes_run = refl

-- The errors of an opening in their order: the mode first, then a name of no device, then a clash. An opening and a
-- look-up of a device go under DI, in a handler, and while dispatch is disabled.
refused_script : Script
refused_script = record {
  devices = record { name = codes "a"; kind = devices.Ram 64 } ∷ record { name = codes "b"; kind = devices.Log } ∷ [];
  pace = None;
  irqs = record { step = 9; number = 3 } ∷ [];
  boot = record { body = 1; priority = 10 };
  bodies =
      record {
        name = codes "main";
        kind = kinds.Task;
        labels = [];
        stmts =
            stmts.Call names.TkDefInt (args.Number (pos 3) ∷ args.Body 2 ∷ []) ∷
            stmts.Call names.TkOpnDev (args.Name (codes "a") ∷ args.List 0 ∷ []) ∷
            stmts.Call names.TkOpnDev (args.Name (codes "no") ∷ args.List 5 ∷ []) ∷
            stmts.Call names.TkOpnDev (args.Name (codes "no") ∷ args.List 42 ∷ []) ∷
            stmts.Call names.TkOpnDev (args.Name (codes "a") ∷ args.List 8 ∷ []) ∷
            stmts.Call names.TkOpnDev (args.Name (codes "no") ∷ args.List 1 ∷ []) ∷
            stmts.Call names.Di ([]) ∷
            stmts.Call names.TkOpnDev (args.Name (codes "b") ∷ args.List 10 ∷ []) ∷
            stmts.Call names.TkOpnDev (args.Name (codes "b") ∷ args.List 1 ∷ []) ∷
            stmts.Call names.TkRefDev (args.Name (codes "a") ∷ []) ∷
            stmts.Call names.TkRefDev (args.Name (codes "b") ∷ []) ∷
            stmts.Call names.Ei ([]) ∷
            stmts.Call names.TkDisDsp ([]) ∷
            stmts.Call names.TkOpnDev (args.Name (codes "a") ∷ args.List 1 ∷ []) ∷
            [];
      } ∷
      record {
        name = codes "h";
        kind = kinds.Hand;
        labels = [];
        stmts =
            stmts.Call names.TkOpnDev (args.Name (codes "a") ∷ args.List 1 ∷ []) ∷
            stmts.Call names.TkRefDev (args.Name (codes "no") ∷ []) ∷
            [];
      } ∷
      [];
}

refused_entries : List Entry
refused_entries = []

refused_lines : List ℕ
refused_lines =
    codes "0 D 1\n" ++
    codes "1 C 1 tk_def_int 0\n" ++
    codes "2 C 1 tk_opn_dev E_PAR\n" ++
    codes "3 C 1 tk_opn_dev E_PAR\n" ++
    codes "4 C 1 tk_opn_dev E_PAR\n" ++
    codes "5 C 1 tk_opn_dev E_PAR\n" ++
    codes "6 C 1 tk_opn_dev E_NOEXS\n" ++
    codes "7 C 1 DI 0\n" ++
    codes "8 C 1 tk_opn_dev 1\n" ++
    codes "9 C 1 tk_opn_dev E_BUSY\n" ++
    codes "10 C 1 tk_ref_dev 1\n" ++
    codes "11 C 1 tk_ref_dev 2\n" ++
    codes "12 C 1 EI 0\n" ++
    codes "13 I int 3\n" ++
    codes "14 C 0 tk_opn_dev 2\n" ++
    codes "15 C 0 tk_ref_dev E_NOEXS\n" ++
    codes "17 C 1 tk_dis_dsp 0\n" ++
    codes "18 C 1 tk_opn_dev 3\n" ++
    codes "19 C 1 tk_ext_tsk 0\n" ++
    codes "19 D 0\n" ++
    codes "19 END idle\n" ++
    []

refused_run : text_of_lines (lines_of (trace refused_script modes.Free 100000 refused_entries)) ≡ refused_lines
unfolding refused_script refused_entries refused_lines text_of form_of named made task_call_name sem_flag_call_name mutex_call_name mail_call_name pool_call_name time_call_name context_call_name device_call_name hook_call_name name_of code_of error_text coded error_named attributes_of flag_mode_of open_mode_of suspend_mode_of is_name_byte name_at_most why_text value_text words_of text_of_line text_of_lines fetch give call_before create_sem create_flag end_first delete_sem delete_flag refer_sem refer_flag signal_sem set_flag clear_flag wait_sem wait_flag sem_flag_call serve_sem serve_flag first_served serve_sem_flag sem_trial flag_trial chosen free_task create_task delete_task start_task exit_task terminate_task change_priority rotate_ready get_task refer_task sleep delay wake_up cancel_wakeups release_wait suspend_task resume_task task_call mark_of allowed free_from first_serving serve_box serve_mailboxes serve_buffer serve_buffers post create_box delete_box send_box receive_box refer_box create_buffer delete_buffer send_buffer receive_buffer refer_buffer mail_call create_mutex lock_mutex unlock_mutex refer_mutex delete_mutex mutex_call change_priority_beside task_call_beside chain_has current_of resettle free_last ceiling_allows serve_mutex serve_mutexes create_fixed delete_fixed get_fixed release_fixed refer_fixed create_variable delete_variable get_variable release_variable refer_variable pool_call first_free serve_fixed serve_fixed_pools serve_variable serve_variable_pools set_time get_time get_operating_time create_cyclic start_cyclic stop_cyclic delete_cyclic refer_cyclic create_alarm start_alarm stop_alarm delete_alarm refer_alarm time_call body_of next_due again define_handler disable_dispatch enable_dispatch disable_interrupts enable_interrupts refer_system define_service refer_service enter_service context_call left list_existing list_ready list_queue set_hook hook_call open_device refer_device request request_whole wait_ending close_device suspend_devices device_call expected arrive hand_over hand_first messages emptied read_bytes write_bytes accept picked serve_acceptance serve_acceptances serve_ending serve_endings is_with_driver serve_close serve_closes serve_suspension events_sent free_descriptor free_request first_queued at_driver accepted dropped handed asked devices_start block is_last blocks unit cut may_cut arrived entered returned body_returned family_call answered called follow_release follow_each with_releases dispatched followed insert_once with_requests handler_begun due_begun interrupt_begun served_within settle freed_within fallen due_done tick state_after worked counted step sync_runs sync_run entered_2 runs start trace acted ran turn_of done_turn first_serving_2 serve_object state_start digits
refused_run = refl

-- A thirty-third opening is past the limit, and a clash comes before that. A close frees its descriptor, and an opening
-- takes the least free one.
thirty_two_descriptors_script : Script
thirty_two_descriptors_script = record {
  devices = record { name = codes "a"; kind = devices.Ram 64 } ∷ record { name = codes "b"; kind = devices.Ram 64 } ∷ [];
  pace = None;
  irqs = [];
  boot = record { body = 1; priority = 10 };
  bodies =
      record {
        name = codes "main";
        kind = kinds.Task;
        labels = record { name = codes "again"; place = 0 } ∷ [];
        stmts =
            stmts.Call names.TkOpnDev (args.Name (codes "a") ∷ args.List 1 ∷ []) ∷
            stmts.Jump (conditions.NotEqual 0 (operands.Number (negsuc 33))) 0 ∷
            stmts.Call names.TkOpnDev (args.Name (codes "a") ∷ args.List 33 ∷ []) ∷
            stmts.Call names.TkOpnDev (args.Name (codes "no") ∷ args.List 1 ∷ []) ∷
            stmts.Call names.TkOpnDev (args.Name (codes "b") ∷ args.List 2 ∷ []) ∷
            stmts.Call names.TkClsDev (args.Number (pos 9) ∷ []) ∷
            stmts.Call names.TkClsDev (args.Number (pos 5) ∷ []) ∷
            stmts.Call names.TkClsDev (args.Number (pos 5) ∷ []) ∷
            stmts.Call names.TkOpnDev (args.Name (codes "b") ∷ args.List 2 ∷ []) ∷
            stmts.Call names.TkOpnDev (args.Name (codes "b") ∷ args.List 2 ∷ []) ∷
            stmts.Call names.TkOpnDev (args.Name (codes "b") ∷ args.List 2 ∷ []) ∷
            [];
      } ∷
      [];
}

thirty_two_descriptors_entries : List Entry
thirty_two_descriptors_entries = []

thirty_two_descriptors_lines : List ℕ
thirty_two_descriptors_lines =
    codes "0 D 1\n" ++
    codes "1 C 1 tk_opn_dev 1\n" ++
    codes "3 C 1 tk_opn_dev 2\n" ++
    codes "5 C 1 tk_opn_dev 3\n" ++
    codes "7 C 1 tk_opn_dev 4\n" ++
    codes "9 C 1 tk_opn_dev 5\n" ++
    codes "11 C 1 tk_opn_dev 6\n" ++
    codes "13 C 1 tk_opn_dev 7\n" ++
    codes "15 C 1 tk_opn_dev 8\n" ++
    codes "17 C 1 tk_opn_dev 9\n" ++
    codes "19 C 1 tk_opn_dev 10\n" ++
    codes "21 C 1 tk_opn_dev 11\n" ++
    codes "23 C 1 tk_opn_dev 12\n" ++
    codes "25 C 1 tk_opn_dev 13\n" ++
    codes "27 C 1 tk_opn_dev 14\n" ++
    codes "29 C 1 tk_opn_dev 15\n" ++
    codes "31 C 1 tk_opn_dev 16\n" ++
    codes "33 C 1 tk_opn_dev 17\n" ++
    codes "35 C 1 tk_opn_dev 18\n" ++
    codes "37 C 1 tk_opn_dev 19\n" ++
    codes "39 C 1 tk_opn_dev 20\n" ++
    codes "41 C 1 tk_opn_dev 21\n" ++
    codes "43 C 1 tk_opn_dev 22\n" ++
    codes "45 C 1 tk_opn_dev 23\n" ++
    codes "47 C 1 tk_opn_dev 24\n" ++
    codes "49 C 1 tk_opn_dev 25\n" ++
    codes "51 C 1 tk_opn_dev 26\n" ++
    codes "53 C 1 tk_opn_dev 27\n" ++
    codes "55 C 1 tk_opn_dev 28\n" ++
    codes "57 C 1 tk_opn_dev 29\n" ++
    codes "59 C 1 tk_opn_dev 30\n" ++
    codes "61 C 1 tk_opn_dev 31\n" ++
    codes "63 C 1 tk_opn_dev 32\n" ++
    codes "65 C 1 tk_opn_dev E_LIMIT\n" ++
    codes "67 C 1 tk_opn_dev E_BUSY\n" ++
    codes "68 C 1 tk_opn_dev E_NOEXS\n" ++
    codes "69 C 1 tk_opn_dev E_LIMIT\n" ++
    codes "70 C 1 tk_cls_dev 0\n" ++
    codes "71 C 1 tk_cls_dev 0\n" ++
    codes "72 C 1 tk_cls_dev E_ID\n" ++
    codes "73 C 1 tk_opn_dev 5\n" ++
    codes "74 C 1 tk_opn_dev 9\n" ++
    codes "75 C 1 tk_opn_dev E_LIMIT\n" ++
    codes "76 C 1 tk_ext_tsk 0\n" ++
    codes "76 D 0\n" ++
    codes "76 END idle\n" ++
    []

thirty_two_descriptors_run : text_of_lines (lines_of (trace thirty_two_descriptors_script modes.Free 100000 thirty_two_descriptors_entries)) ≡ thirty_two_descriptors_lines
unfolding thirty_two_descriptors_script thirty_two_descriptors_entries thirty_two_descriptors_lines text_of form_of named made task_call_name sem_flag_call_name mutex_call_name mail_call_name pool_call_name time_call_name context_call_name device_call_name hook_call_name name_of code_of error_text coded error_named attributes_of flag_mode_of open_mode_of suspend_mode_of is_name_byte name_at_most why_text value_text words_of text_of_line text_of_lines fetch give call_before create_sem create_flag end_first delete_sem delete_flag refer_sem refer_flag signal_sem set_flag clear_flag wait_sem wait_flag sem_flag_call serve_sem serve_flag first_served serve_sem_flag sem_trial flag_trial chosen free_task create_task delete_task start_task exit_task terminate_task change_priority rotate_ready get_task refer_task sleep delay wake_up cancel_wakeups release_wait suspend_task resume_task task_call mark_of allowed free_from first_serving serve_box serve_mailboxes serve_buffer serve_buffers post create_box delete_box send_box receive_box refer_box create_buffer delete_buffer send_buffer receive_buffer refer_buffer mail_call create_mutex lock_mutex unlock_mutex refer_mutex delete_mutex mutex_call change_priority_beside task_call_beside chain_has current_of resettle free_last ceiling_allows serve_mutex serve_mutexes create_fixed delete_fixed get_fixed release_fixed refer_fixed create_variable delete_variable get_variable release_variable refer_variable pool_call first_free serve_fixed serve_fixed_pools serve_variable serve_variable_pools set_time get_time get_operating_time create_cyclic start_cyclic stop_cyclic delete_cyclic refer_cyclic create_alarm start_alarm stop_alarm delete_alarm refer_alarm time_call body_of next_due again define_handler disable_dispatch enable_dispatch disable_interrupts enable_interrupts refer_system define_service refer_service enter_service context_call left list_existing list_ready list_queue set_hook hook_call open_device refer_device request request_whole wait_ending close_device suspend_devices device_call expected arrive hand_over hand_first messages emptied read_bytes write_bytes accept picked serve_acceptance serve_acceptances serve_ending serve_endings is_with_driver serve_close serve_closes serve_suspension events_sent free_descriptor free_request first_queued at_driver accepted dropped handed asked devices_start block is_last blocks unit cut may_cut arrived entered returned body_returned family_call answered called follow_release follow_each with_releases dispatched followed insert_once with_requests handler_begun due_begun interrupt_begun served_within settle freed_within fallen due_done tick state_after worked counted step sync_runs sync_run entered_2 runs start trace acted ran turn_of done_turn first_serving_2 serve_object state_start digits
thirty_two_descriptors_run = refl
