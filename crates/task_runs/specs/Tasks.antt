-- Runs that were worked out by hand from the rules, as runs/task/tasks has them: each a theorem by computation.
use Rattle.std.specs.Prelude.{ℕ, pos, negsuc, List, [], ◌∷◌, ◌++◌, Some, None, codes, ◌≡◌, refl}
use Rattle.std.specs.Fmt.{digits}
use Rattle.tk_types.specs.declared.script.Script.{Script}
use Rattle.tk_types.specs.declared.script.BodyKind.TheVariants as kinds
use Rattle.tk_types.specs.declared.script.Kind.TheVariants as devices
use Rattle.tk_types.specs.declared.script.Stmt.TheVariants as stmts
use Rattle.tk_types.specs.declared.script.Operand.TheVariants as operands
use Rattle.tk_types.specs.declared.script.Operation.TheVariants as operations
use Rattle.tk_types.specs.declared.script.Condition.TheVariants as conditions
use Rattle.tk_types.specs.declared.script.Arg.TheVariants as args
use Rattle.tk_types.specs.declared.call_name.CallName.TheVariants as names
use Rattle.tk_types.specs.declared.line.Entry.{Entry}
use Rattle.tk_types.specs.declared.line.How.TheVariants as hows
use Rattle.tk_types.specs.declared.run.Mode.TheVariants as modes
use Rattle.tk_types.specs.CallNames.{text_of, form_of, named}
use Rattle.tk_types.specs.Calls.{made, task_call_name, sem_flag_call_name, mutex_call_name, mail_call_name, pool_call_name, time_call_name, context_call_name, device_call_name, hook_call_name, name_of}
use Rattle.tk_types.specs.Codes.{code_of, error_text, coded, error_named}
use Rattle.tk_types.specs.Modes.{attributes_of, flag_mode_of, open_mode_of, suspend_mode_of}
use Rattle.tk_types.specs.Names.{is_name_byte, name_at_most}
use Rattle.tk_types.specs.Reasons.{why_text}
use Rattle.tk_model.specs.LineText.{value_text, words_of, text_of_line, text_of_lines}
use Rattle.kernel_model.specs.Bodies.Statements.{fetch, give, call_before}
use Rattle.kernel_model.specs.SemFlags.Calls.{create_sem, create_flag, end_first, delete_sem, delete_flag, refer_sem, refer_flag, signal_sem, set_flag, clear_flag, wait_sem, wait_flag, sem_flag_call}
use Rattle.kernel_model.specs.SemFlags.Tables.{serve_sem, serve_flag, first_served, serve_sem_flag}
use Rattle.kernel_model.specs.SemFlags.Trial.{sem_trial, flag_trial}
use Rattle.kernel_model.specs.Tasks.Base.{chosen, free_task}
use Rattle.kernel_model.specs.Tasks.Calls.{create_task, delete_task, start_task, exit_task, terminate_task, change_priority, rotate_ready, get_task, refer_task, sleep, delay, wake_up, cancel_wakeups, release_wait, suspend_task, resume_task, task_call}
use Rattle.kernel_model.specs.Tasks.Marks.{mark_of, allowed}
use Rattle.kernel_model.specs.Words.Orders.{free_from}
use Rattle.object_model.specs.Servings.{first_serving}
use Rattle.object_model.specs.Mails.Boxes.{serve_box, serve_mailboxes}
use Rattle.object_model.specs.Mails.Buffers.{serve_buffer, serve_buffers, post}
use Rattle.object_model.specs.Mails.Calls.{create_box, delete_box, send_box, receive_box, refer_box, create_buffer, delete_buffer, send_buffer, receive_buffer, refer_buffer, mail_call}
use Rattle.object_model.specs.Mutexes.Calls.{create_mutex, lock_mutex, unlock_mutex, refer_mutex, delete_mutex, mutex_call, change_priority_beside, task_call_beside}
use Rattle.object_model.specs.Mutexes.Priority.{chain_has, current_of, resettle}
use Rattle.object_model.specs.Mutexes.Tables.{free_last, ceiling_allows, serve_mutex, serve_mutexes}
use Rattle.object_model.specs.Pools.Calls.{create_fixed, delete_fixed, get_fixed, release_fixed, refer_fixed, create_variable, delete_variable, get_variable, release_variable, refer_variable, pool_call}
use Rattle.object_model.specs.Pools.Fixed.{first_free, serve_fixed, serve_fixed_pools}
use Rattle.object_model.specs.Pools.Variable.{serve_variable, serve_variable_pools}
use Rattle.context_model.specs.Clocks.Calls.{set_time, get_time, get_operating_time, create_cyclic, start_cyclic, stop_cyclic, delete_cyclic, refer_cyclic, create_alarm, start_alarm, stop_alarm, delete_alarm, refer_alarm, time_call}
use Rattle.context_model.specs.Clocks.Tables.{body_of, next_due, again}
use Rattle.context_model.specs.Contexts.Calls.{define_handler, disable_dispatch, enable_dispatch, disable_interrupts, enable_interrupts, refer_system, define_service, refer_service, enter_service, context_call}
use Rattle.context_model.specs.Contexts.Tables.{left}
use Rattle.context_model.specs.Hooks.Calls.{list_existing, list_ready, list_queue, set_hook, hook_call}
use Rattle.device_model.specs.Devices.Calls.{open_device, refer_device, request, request_whole, wait_ending, close_device, suspend_devices, device_call}
use Rattle.device_model.specs.Devices.Endings.{expected, arrive}
use Rattle.device_model.specs.Devices.Handing.{hand_over, hand_first, messages, emptied}
use Rattle.device_model.specs.Devices.Memory.{read_bytes, write_bytes}
use Rattle.device_model.specs.Devices.Requests.{accept, picked}
use Rattle.device_model.specs.Devices.Servings.{serve_acceptance, serve_acceptances, serve_ending, serve_endings, is_with_driver, serve_close, serve_closes, serve_suspension}
use Rattle.device_model.specs.Devices.Suspension.{events_sent}
use Rattle.device_model.specs.Devices.Tables.{free_descriptor, free_request, first_queued, at_driver, accepted, dropped, handed, asked, devices_start}
use Rattle.device_model.specs.Units.Blocks.{block, is_last, blocks}
use Rattle.device_model.specs.Units.Function.{unit, cut, may_cut}
use Rattle.machine_model.specs.Events.Arrivals.{arrived}
use Rattle.machine_model.specs.Events.Bodies.{entered, returned, body_returned}
use Rattle.machine_model.specs.Events.Calls.{family_call, answered, called}
use Rattle.machine_model.specs.Events.Follow.{follow_release, follow_each, with_releases, dispatched, followed}
use Rattle.machine_model.specs.Events.Handlers.{insert_once, with_requests, handler_begun, due_begun, interrupt_begun}
use Rattle.machine_model.specs.Events.Settle.{served_within, settle, freed_within}
use Rattle.machine_model.specs.Events.Ticks.{fallen, due_done, tick}
use Rattle.machine_model.specs.Runs.Reached.{state_after}
use Rattle.machine_model.specs.Runs.Step.{worked, counted, step}
use Rattle.machine_model.specs.Runs.SyncTrace.{sync_runs, sync_run}
use Rattle.machine_model.specs.Runs.Trace.{lines_of, entered as entered_2, runs, start, trace}
use Rattle.machine_model.specs.Runs.Turns.{acted, ran, turn_of, done_turn}
use Rattle.machine_model.specs.States.Objects.{first_serving as first_serving_2, serve_object}
use Rattle.machine_model.specs.States.State.{state_start}

-- The step whose number is the budget is the last.
budget_of_one_step_script : Script
budget_of_one_step_script = record {
  devices = [];
  pace = None;
  irqs = [];
  boot = record { body = 1; priority = 10 };
  bodies =
      record {
        name = codes "main";
        kind = kinds.Task;
        labels = [];
        stmts =
            stmts.Say (codes "hello") ∷
            stmts.Call names.TkExtTsk ([]) ∷
            [];
      } ∷
      [];
}

budget_of_one_step_entries : List Entry
budget_of_one_step_entries = []

budget_of_one_step_lines : List ℕ
budget_of_one_step_lines =
    codes "0 D 1\n" ++
    codes "1 S 1 hello\n" ++
    codes "1 END budget\n" ++
    []

budget_of_one_step_run : text_of_lines (lines_of (trace budget_of_one_step_script modes.Free 1 budget_of_one_step_entries)) ≡ budget_of_one_step_lines
unfolding budget_of_one_step_script budget_of_one_step_entries budget_of_one_step_lines text_of form_of named made task_call_name sem_flag_call_name mutex_call_name mail_call_name pool_call_name time_call_name context_call_name device_call_name hook_call_name name_of code_of error_text coded error_named attributes_of flag_mode_of open_mode_of suspend_mode_of is_name_byte name_at_most why_text value_text words_of text_of_line text_of_lines fetch give call_before create_sem create_flag end_first delete_sem delete_flag refer_sem refer_flag signal_sem set_flag clear_flag wait_sem wait_flag sem_flag_call serve_sem serve_flag first_served serve_sem_flag sem_trial flag_trial chosen free_task create_task delete_task start_task exit_task terminate_task change_priority rotate_ready get_task refer_task sleep delay wake_up cancel_wakeups release_wait suspend_task resume_task task_call mark_of allowed free_from first_serving serve_box serve_mailboxes serve_buffer serve_buffers post create_box delete_box send_box receive_box refer_box create_buffer delete_buffer send_buffer receive_buffer refer_buffer mail_call create_mutex lock_mutex unlock_mutex refer_mutex delete_mutex mutex_call change_priority_beside task_call_beside chain_has current_of resettle free_last ceiling_allows serve_mutex serve_mutexes create_fixed delete_fixed get_fixed release_fixed refer_fixed create_variable delete_variable get_variable release_variable refer_variable pool_call first_free serve_fixed serve_fixed_pools serve_variable serve_variable_pools set_time get_time get_operating_time create_cyclic start_cyclic stop_cyclic delete_cyclic refer_cyclic create_alarm start_alarm stop_alarm delete_alarm refer_alarm time_call body_of next_due again define_handler disable_dispatch enable_dispatch disable_interrupts enable_interrupts refer_system define_service refer_service enter_service context_call left list_existing list_ready list_queue set_hook hook_call open_device refer_device request request_whole wait_ending close_device suspend_devices device_call expected arrive hand_over hand_first messages emptied read_bytes write_bytes accept picked serve_acceptance serve_acceptances serve_ending serve_endings is_with_driver serve_close serve_closes serve_suspension events_sent free_descriptor free_request first_queued at_driver accepted dropped handed asked devices_start block is_last blocks unit cut may_cut arrived entered returned body_returned family_call answered called follow_release follow_each with_releases dispatched followed insert_once with_requests handler_begun due_begun interrupt_begun served_within settle freed_within fallen due_done tick state_after worked counted step sync_runs sync_run entered_2 runs start trace acted ran turn_of done_turn first_serving_2 serve_object state_start digits
budget_of_one_step_run = refl

-- Registers and memory count modulo their sizes; jumps compare signed numbers; halt ends the run.
computing_script : Script
computing_script = record {
  devices = [];
  pace = None;
  irqs = [];
  boot = record { body = 1; priority = 10 };
  bodies =
      record {
        name = codes "main";
        kind = kinds.Task;
        labels = record { name = codes "loop"; place = 16 } ∷ record { name = codes "out"; place = 19 } ∷ record { name = codes "wrong"; place = 21 } ∷ record { name = codes "right"; place = 22 } ∷ [];
        stmts =
            stmts.Compute operations.Set 0 (operands.Number (pos 2147483647)) ∷
            stmts.Compute operations.Add 0 (operands.Number (pos 1)) ∷
            stmts.Show (operands.Register 0) ∷
            stmts.Compute operations.Sub 0 (operands.Number (pos 1)) ∷
            stmts.Show (operands.Register 0) ∷
            stmts.Compute operations.Set 2 (operands.Number (negsuc 0)) ∷
            stmts.Compute operations.Mul 2 (operands.Number (negsuc 0)) ∷
            stmts.Show (operands.Register 2) ∷
            stmts.Compute operations.Set 3 (operands.Number (pos 5)) ∷
            stmts.Compute operations.Xor 3 (operands.Number (pos 6)) ∷
            stmts.Compute operations.Or 3 (operands.Number (pos 8)) ∷
            stmts.Compute operations.And 3 (operands.Number (pos 9)) ∷
            stmts.Show (operands.Register 3) ∷
            stmts.Store (operands.Number (pos 65537)) (operands.Number (pos 513)) ∷
            stmts.Load 4 (operands.Number (pos 1)) ∷
            stmts.Show (operands.Register 4) ∷
            stmts.Compute operations.Sub 3 (operands.Number (pos 1)) ∷
            stmts.Jump (conditions.Less 3 (operands.Number (pos 7))) 1 ∷
            stmts.Jump conditions.Always 0 ∷
            stmts.Jump (conditions.NotEqual 3 (operands.Number (pos 6))) 2 ∷
            stmts.Jump (conditions.Equal 3 (operands.Register 3)) 3 ∷
            stmts.Say (codes "wrong") ∷
            stmts.Halt ∷
            [];
      } ∷
      [];
}

computing_entries : List Entry
computing_entries = []

computing_lines : List ℕ
computing_lines =
    codes "0 D 1\n" ++
    codes "3 S 1 -2147483648\n" ++
    codes "5 S 1 2147483647\n" ++
    codes "8 S 1 1\n" ++
    codes "13 S 1 9\n" ++
    codes "16 S 1 1\n" ++
    codes "27 END halt\n" ++
    []

computing_run : text_of_lines (lines_of (trace computing_script modes.Free 100000 computing_entries)) ≡ computing_lines
unfolding computing_script computing_entries computing_lines text_of form_of named made task_call_name sem_flag_call_name mutex_call_name mail_call_name pool_call_name time_call_name context_call_name device_call_name hook_call_name name_of code_of error_text coded error_named attributes_of flag_mode_of open_mode_of suspend_mode_of is_name_byte name_at_most why_text value_text words_of text_of_line text_of_lines fetch give call_before create_sem create_flag end_first delete_sem delete_flag refer_sem refer_flag signal_sem set_flag clear_flag wait_sem wait_flag sem_flag_call serve_sem serve_flag first_served serve_sem_flag sem_trial flag_trial chosen free_task create_task delete_task start_task exit_task terminate_task change_priority rotate_ready get_task refer_task sleep delay wake_up cancel_wakeups release_wait suspend_task resume_task task_call mark_of allowed free_from first_serving serve_box serve_mailboxes serve_buffer serve_buffers post create_box delete_box send_box receive_box refer_box create_buffer delete_buffer send_buffer receive_buffer refer_buffer mail_call create_mutex lock_mutex unlock_mutex refer_mutex delete_mutex mutex_call change_priority_beside task_call_beside chain_has current_of resettle free_last ceiling_allows serve_mutex serve_mutexes create_fixed delete_fixed get_fixed release_fixed refer_fixed create_variable delete_variable get_variable release_variable refer_variable pool_call first_free serve_fixed serve_fixed_pools serve_variable serve_variable_pools set_time get_time get_operating_time create_cyclic start_cyclic stop_cyclic delete_cyclic refer_cyclic create_alarm start_alarm stop_alarm delete_alarm refer_alarm time_call body_of next_due again define_handler disable_dispatch enable_dispatch disable_interrupts enable_interrupts refer_system define_service refer_service enter_service context_call left list_existing list_ready list_queue set_hook hook_call open_device refer_device request request_whole wait_ending close_device suspend_devices device_call expected arrive hand_over hand_first messages emptied read_bytes write_bytes accept picked serve_acceptance serve_acceptances serve_ending serve_endings is_with_driver serve_close serve_closes serve_suspension events_sent free_descriptor free_request first_queued at_driver accepted dropped handed asked devices_start block is_last blocks unit cut may_cut arrived entered returned body_returned family_call answered called follow_release follow_each with_releases dispatched followed insert_once with_requests handler_begun due_begun interrupt_begun served_within settle freed_within fallen due_done tick state_after worked counted step sync_runs sync_run entered_2 runs start trace acted ran turn_of done_turn first_serving_2 serve_object state_start digits
computing_run = refl

-- Wake-ups of a task that doesn't sleep are counted, taken by a sleep, and cleared.
counted_requests_script : Script
counted_requests_script = record {
  devices = [];
  pace = None;
  irqs = [];
  boot = record { body = 1; priority = 10 };
  bodies =
      record {
        name = codes "main";
        kind = kinds.Task;
        labels = [];
        stmts =
            stmts.Call names.TkCreTsk (args.List 0 ∷ args.Body 2 ∷ args.Number (pos 10) ∷ args.Number (pos 512) ∷ []) ∷
            stmts.Call names.TkStaTsk (args.Number (pos 2) ∷ args.Number (pos 0) ∷ []) ∷
            stmts.Call names.TkWupTsk (args.Number (pos 2) ∷ []) ∷
            stmts.Call names.TkWupTsk (args.Number (pos 2) ∷ []) ∷
            stmts.Call names.TkRefTsk (args.Number (pos 2) ∷ []) ∷
            stmts.Call names.TkExtTsk ([]) ∷
            [];
      } ∷
      record {
        name = codes "work";
        kind = kinds.Task;
        labels = [];
        stmts =
            stmts.Call names.TkSlpTsk (args.Number (negsuc 0) ∷ []) ∷
            stmts.Call names.TkCanWup (args.Number (pos 0) ∷ []) ∷
            [];
      } ∷
      [];
}

counted_requests_entries : List Entry
counted_requests_entries = []

counted_requests_lines : List ℕ
counted_requests_lines =
    codes "0 D 1\n" ++
    codes "1 C 1 tk_cre_tsk 2\n" ++
    codes "2 C 1 tk_sta_tsk 0\n" ++
    codes "3 C 1 tk_wup_tsk 0\n" ++
    codes "4 C 1 tk_wup_tsk 0\n" ++
    codes "5 C 1 tk_ref_tsk 0 2 10 10 2 0\n" ++
    codes "6 C 1 tk_ext_tsk 0\n" ++
    codes "6 D 2\n" ++
    codes "7 C 2 tk_slp_tsk 0\n" ++
    codes "8 C 2 tk_can_wup 1\n" ++
    codes "9 C 2 tk_ext_tsk 0\n" ++
    codes "9 D 0\n" ++
    codes "9 END idle\n" ++
    []

counted_requests_run : text_of_lines (lines_of (trace counted_requests_script modes.Free 100000 counted_requests_entries)) ≡ counted_requests_lines
unfolding counted_requests_script counted_requests_entries counted_requests_lines text_of form_of named made task_call_name sem_flag_call_name mutex_call_name mail_call_name pool_call_name time_call_name context_call_name device_call_name hook_call_name name_of code_of error_text coded error_named attributes_of flag_mode_of open_mode_of suspend_mode_of is_name_byte name_at_most why_text value_text words_of text_of_line text_of_lines fetch give call_before create_sem create_flag end_first delete_sem delete_flag refer_sem refer_flag signal_sem set_flag clear_flag wait_sem wait_flag sem_flag_call serve_sem serve_flag first_served serve_sem_flag sem_trial flag_trial chosen free_task create_task delete_task start_task exit_task terminate_task change_priority rotate_ready get_task refer_task sleep delay wake_up cancel_wakeups release_wait suspend_task resume_task task_call mark_of allowed free_from first_serving serve_box serve_mailboxes serve_buffer serve_buffers post create_box delete_box send_box receive_box refer_box create_buffer delete_buffer send_buffer receive_buffer refer_buffer mail_call create_mutex lock_mutex unlock_mutex refer_mutex delete_mutex mutex_call change_priority_beside task_call_beside chain_has current_of resettle free_last ceiling_allows serve_mutex serve_mutexes create_fixed delete_fixed get_fixed release_fixed refer_fixed create_variable delete_variable get_variable release_variable refer_variable pool_call first_free serve_fixed serve_fixed_pools serve_variable serve_variable_pools set_time get_time get_operating_time create_cyclic start_cyclic stop_cyclic delete_cyclic refer_cyclic create_alarm start_alarm stop_alarm delete_alarm refer_alarm time_call body_of next_due again define_handler disable_dispatch enable_dispatch disable_interrupts enable_interrupts refer_system define_service refer_service enter_service context_call left list_existing list_ready list_queue set_hook hook_call open_device refer_device request request_whole wait_ending close_device suspend_devices device_call expected arrive hand_over hand_first messages emptied read_bytes write_bytes accept picked serve_acceptance serve_acceptances serve_ending serve_endings is_with_driver serve_close serve_closes serve_suspension events_sent free_descriptor free_request first_queued at_driver accepted dropped handed asked devices_start block is_last blocks unit cut may_cut arrived entered returned body_returned family_call answered called follow_release follow_each with_releases dispatched followed insert_once with_requests handler_begun due_begun interrupt_begun served_within settle freed_within fallen due_done tick state_after worked counted step sync_runs sync_run entered_2 runs start trace acted ran turn_of done_turn first_serving_2 serve_object state_start digits
counted_requests_run = refl

-- Delays under a pace of three steps, and idle ticks.
delays_script : Script
delays_script = record {
  devices = [];
  pace = Some 3;
  irqs = [];
  boot = record { body = 1; priority = 10 };
  bodies =
      record {
        name = codes "main";
        kind = kinds.Task;
        labels = [];
        stmts =
            stmts.Call names.TkDlyTsk (args.Number (pos 0) ∷ []) ∷
            stmts.Call names.TkDlyTsk (args.Number (pos 1) ∷ []) ∷
            stmts.Call names.TkDlyTsk (args.Number (pos 2) ∷ []) ∷
            [];
      } ∷
      [];
}

delays_entries : List Entry
delays_entries = []

delays_lines : List ℕ
delays_lines =
    codes "0 D 1\n" ++
    codes "1 C 1 tk_dly_tsk 0\n" ++
    codes "2 B 1 tk_dly_tsk\n" ++
    codes "2 D 0\n" ++
    codes "3 K 1\n" ++
    codes "4 K 2\n" ++
    codes "4 W 1 tk_dly_tsk 0\n" ++
    codes "4 D 1\n" ++
    codes "5 B 1 tk_dly_tsk\n" ++
    codes "5 D 0\n" ++
    codes "6 K 3\n" ++
    codes "7 K 4\n" ++
    codes "8 K 5\n" ++
    codes "8 W 1 tk_dly_tsk 0\n" ++
    codes "8 D 1\n" ++
    codes "9 K 6\n" ++
    codes "10 C 1 tk_ext_tsk 0\n" ++
    codes "10 D 0\n" ++
    codes "10 END idle\n" ++
    []

delays_run : text_of_lines (lines_of (trace delays_script modes.Free 100000 delays_entries)) ≡ delays_lines
unfolding delays_script delays_entries delays_lines text_of form_of named made task_call_name sem_flag_call_name mutex_call_name mail_call_name pool_call_name time_call_name context_call_name device_call_name hook_call_name name_of code_of error_text coded error_named attributes_of flag_mode_of open_mode_of suspend_mode_of is_name_byte name_at_most why_text value_text words_of text_of_line text_of_lines fetch give call_before create_sem create_flag end_first delete_sem delete_flag refer_sem refer_flag signal_sem set_flag clear_flag wait_sem wait_flag sem_flag_call serve_sem serve_flag first_served serve_sem_flag sem_trial flag_trial chosen free_task create_task delete_task start_task exit_task terminate_task change_priority rotate_ready get_task refer_task sleep delay wake_up cancel_wakeups release_wait suspend_task resume_task task_call mark_of allowed free_from first_serving serve_box serve_mailboxes serve_buffer serve_buffers post create_box delete_box send_box receive_box refer_box create_buffer delete_buffer send_buffer receive_buffer refer_buffer mail_call create_mutex lock_mutex unlock_mutex refer_mutex delete_mutex mutex_call change_priority_beside task_call_beside chain_has current_of resettle free_last ceiling_allows serve_mutex serve_mutexes create_fixed delete_fixed get_fixed release_fixed refer_fixed create_variable delete_variable get_variable release_variable refer_variable pool_call first_free serve_fixed serve_fixed_pools serve_variable serve_variable_pools set_time get_time get_operating_time create_cyclic start_cyclic stop_cyclic delete_cyclic refer_cyclic create_alarm start_alarm stop_alarm delete_alarm refer_alarm time_call body_of next_due again define_handler disable_dispatch enable_dispatch disable_interrupts enable_interrupts refer_system define_service refer_service enter_service context_call left list_existing list_ready list_queue set_hook hook_call open_device refer_device request request_whole wait_ending close_device suspend_devices device_call expected arrive hand_over hand_first messages emptied read_bytes write_bytes accept picked serve_acceptance serve_acceptances serve_ending serve_endings is_with_driver serve_close serve_closes serve_suspension events_sent free_descriptor free_request first_queued at_driver accepted dropped handed asked devices_start block is_last blocks unit cut may_cut arrived entered returned body_returned family_call answered called follow_release follow_each with_releases dispatched followed insert_once with_requests handler_begun due_begun interrupt_begun served_within settle freed_within fallen due_done tick state_after worked counted step sync_runs sync_run entered_2 runs start trace acted ran turn_of done_turn first_serving_2 serve_object state_start digits
delays_run = refl

-- A loop without an end is cut off by its budget.
endless_loop_script : Script
endless_loop_script = record {
  devices = [];
  pace = None;
  irqs = [];
  boot = record { body = 1; priority = 10 };
  bodies =
      record {
        name = codes "main";
        kind = kinds.Task;
        labels = record { name = codes "a"; place = 0 } ∷ [];
        stmts =
            stmts.Jump conditions.Always 0 ∷
            [];
      } ∷
      [];
}

endless_loop_entries : List Entry
endless_loop_entries = []

endless_loop_lines : List ℕ
endless_loop_lines =
    codes "0 D 1\n" ++
    codes "1000 END budget\n" ++
    []

endless_loop_run : text_of_lines (lines_of (trace endless_loop_script modes.Free 1000 endless_loop_entries)) ≡ endless_loop_lines
unfolding endless_loop_script endless_loop_entries endless_loop_lines text_of form_of named made task_call_name sem_flag_call_name mutex_call_name mail_call_name pool_call_name time_call_name context_call_name device_call_name hook_call_name name_of code_of error_text coded error_named attributes_of flag_mode_of open_mode_of suspend_mode_of is_name_byte name_at_most why_text value_text words_of text_of_line text_of_lines fetch give call_before create_sem create_flag end_first delete_sem delete_flag refer_sem refer_flag signal_sem set_flag clear_flag wait_sem wait_flag sem_flag_call serve_sem serve_flag first_served serve_sem_flag sem_trial flag_trial chosen free_task create_task delete_task start_task exit_task terminate_task change_priority rotate_ready get_task refer_task sleep delay wake_up cancel_wakeups release_wait suspend_task resume_task task_call mark_of allowed free_from first_serving serve_box serve_mailboxes serve_buffer serve_buffers post create_box delete_box send_box receive_box refer_box create_buffer delete_buffer send_buffer receive_buffer refer_buffer mail_call create_mutex lock_mutex unlock_mutex refer_mutex delete_mutex mutex_call change_priority_beside task_call_beside chain_has current_of resettle free_last ceiling_allows serve_mutex serve_mutexes create_fixed delete_fixed get_fixed release_fixed refer_fixed create_variable delete_variable get_variable release_variable refer_variable pool_call first_free serve_fixed serve_fixed_pools serve_variable serve_variable_pools set_time get_time get_operating_time create_cyclic start_cyclic stop_cyclic delete_cyclic refer_cyclic create_alarm start_alarm stop_alarm delete_alarm refer_alarm time_call body_of next_due again define_handler disable_dispatch enable_dispatch disable_interrupts enable_interrupts refer_system define_service refer_service enter_service context_call left list_existing list_ready list_queue set_hook hook_call open_device refer_device request request_whole wait_ending close_device suspend_devices device_call expected arrive hand_over hand_first messages emptied read_bytes write_bytes accept picked serve_acceptance serve_acceptances serve_ending serve_endings is_with_driver serve_close serve_closes serve_suspension events_sent free_descriptor free_request first_queued at_driver accepted dropped handed asked devices_start block is_last blocks unit cut may_cut arrived entered returned body_returned family_call answered called follow_release follow_each with_releases dispatched followed insert_once with_requests handler_begun due_begun interrupt_begun served_within settle freed_within fallen due_done tick state_after worked counted step sync_runs sync_run entered_2 runs start trace acted ran turn_of done_turn first_serving_2 serve_object state_start digits
endless_loop_run = refl

-- One task says hello and ends.
hello_script : Script
hello_script = record {
  devices = [];
  pace = None;
  irqs = [];
  boot = record { body = 1; priority = 10 };
  bodies =
      record {
        name = codes "main";
        kind = kinds.Task;
        labels = [];
        stmts =
            stmts.Say (codes "hello") ∷
            stmts.Call names.TkExtTsk ([]) ∷
            [];
      } ∷
      [];
}

hello_entries : List Entry
hello_entries = []

hello_lines : List ℕ
hello_lines =
    codes "0 D 1\n" ++
    codes "1 S 1 hello\n" ++
    codes "2 C 1 tk_ext_tsk 0\n" ++
    codes "2 D 0\n" ++
    codes "2 END idle\n" ++
    []

hello_run : text_of_lines (lines_of (trace hello_script modes.Free 100000 hello_entries)) ≡ hello_lines
unfolding hello_script hello_entries hello_lines text_of form_of named made task_call_name sem_flag_call_name mutex_call_name mail_call_name pool_call_name time_call_name context_call_name device_call_name hook_call_name name_of code_of error_text coded error_named attributes_of flag_mode_of open_mode_of suspend_mode_of is_name_byte name_at_most why_text value_text words_of text_of_line text_of_lines fetch give call_before create_sem create_flag end_first delete_sem delete_flag refer_sem refer_flag signal_sem set_flag clear_flag wait_sem wait_flag sem_flag_call serve_sem serve_flag first_served serve_sem_flag sem_trial flag_trial chosen free_task create_task delete_task start_task exit_task terminate_task change_priority rotate_ready get_task refer_task sleep delay wake_up cancel_wakeups release_wait suspend_task resume_task task_call mark_of allowed free_from first_serving serve_box serve_mailboxes serve_buffer serve_buffers post create_box delete_box send_box receive_box refer_box create_buffer delete_buffer send_buffer receive_buffer refer_buffer mail_call create_mutex lock_mutex unlock_mutex refer_mutex delete_mutex mutex_call change_priority_beside task_call_beside chain_has current_of resettle free_last ceiling_allows serve_mutex serve_mutexes create_fixed delete_fixed get_fixed release_fixed refer_fixed create_variable delete_variable get_variable release_variable refer_variable pool_call first_free serve_fixed serve_fixed_pools serve_variable serve_variable_pools set_time get_time get_operating_time create_cyclic start_cyclic stop_cyclic delete_cyclic refer_cyclic create_alarm start_alarm stop_alarm delete_alarm refer_alarm time_call body_of next_due again define_handler disable_dispatch enable_dispatch disable_interrupts enable_interrupts refer_system define_service refer_service enter_service context_call left list_existing list_ready list_queue set_hook hook_call open_device refer_device request request_whole wait_ending close_device suspend_devices device_call expected arrive hand_over hand_first messages emptied read_bytes write_bytes accept picked serve_acceptance serve_acceptances serve_ending serve_endings is_with_driver serve_close serve_closes serve_suspension events_sent free_descriptor free_request first_queued at_driver accepted dropped handed asked devices_start block is_last blocks unit cut may_cut arrived entered returned body_returned family_call answered called follow_release follow_each with_releases dispatched followed insert_once with_requests handler_begun due_begun interrupt_begun served_within settle freed_within fallen due_done tick state_after worked counted step sync_runs sync_run entered_2 runs start trace acted ran turn_of done_turn first_serving_2 serve_object state_start digits
hello_run = refl

-- A preempted task goes on before its equals, which run in the order in which they were started.
preemption_script : Script
preemption_script = record {
  devices = [];
  pace = None;
  irqs = [];
  boot = record { body = 1; priority = 10 };
  bodies =
      record {
        name = codes "main";
        kind = kinds.Task;
        labels = [];
        stmts =
            stmts.Call names.TkCreTsk (args.List 0 ∷ args.Body 2 ∷ args.Number (pos 10) ∷ args.Number (pos 512) ∷ []) ∷
            stmts.Call names.TkCreTsk (args.List 0 ∷ args.Body 2 ∷ args.Number (pos 10) ∷ args.Number (pos 512) ∷ []) ∷
            stmts.Call names.TkCreTsk (args.List 0 ∷ args.Body 3 ∷ args.Number (pos 5) ∷ args.Number (pos 512) ∷ []) ∷
            stmts.Call names.TkStaTsk (args.Number (pos 2) ∷ args.Number (pos 0) ∷ []) ∷
            stmts.Call names.TkStaTsk (args.Number (pos 3) ∷ args.Number (pos 0) ∷ []) ∷
            stmts.Call names.TkStaTsk (args.Number (pos 4) ∷ args.Number (pos 0) ∷ []) ∷
            stmts.Say (codes "back") ∷
            [];
      } ∷
      record {
        name = codes "work";
        kind = kinds.Task;
        labels = [];
        stmts =
            stmts.Say (codes "w") ∷
            [];
      } ∷
      record {
        name = codes "high";
        kind = kinds.Task;
        labels = [];
        stmts =
            stmts.Say (codes "h") ∷
            [];
      } ∷
      [];
}

preemption_entries : List Entry
preemption_entries = []

preemption_lines : List ℕ
preemption_lines =
    codes "0 D 1\n" ++
    codes "1 C 1 tk_cre_tsk 2\n" ++
    codes "2 C 1 tk_cre_tsk 3\n" ++
    codes "3 C 1 tk_cre_tsk 4\n" ++
    codes "4 C 1 tk_sta_tsk 0\n" ++
    codes "5 C 1 tk_sta_tsk 0\n" ++
    codes "6 C 1 tk_sta_tsk 0\n" ++
    codes "6 D 4\n" ++
    codes "7 S 4 h\n" ++
    codes "8 C 4 tk_ext_tsk 0\n" ++
    codes "8 D 1\n" ++
    codes "9 S 1 back\n" ++
    codes "10 C 1 tk_ext_tsk 0\n" ++
    codes "10 D 2\n" ++
    codes "11 S 2 w\n" ++
    codes "12 C 2 tk_ext_tsk 0\n" ++
    codes "12 D 3\n" ++
    codes "13 S 3 w\n" ++
    codes "14 C 3 tk_ext_tsk 0\n" ++
    codes "14 D 0\n" ++
    codes "14 END idle\n" ++
    []

preemption_run : text_of_lines (lines_of (trace preemption_script modes.Free 100000 preemption_entries)) ≡ preemption_lines
unfolding preemption_script preemption_entries preemption_lines text_of form_of named made task_call_name sem_flag_call_name mutex_call_name mail_call_name pool_call_name time_call_name context_call_name device_call_name hook_call_name name_of code_of error_text coded error_named attributes_of flag_mode_of open_mode_of suspend_mode_of is_name_byte name_at_most why_text value_text words_of text_of_line text_of_lines fetch give call_before create_sem create_flag end_first delete_sem delete_flag refer_sem refer_flag signal_sem set_flag clear_flag wait_sem wait_flag sem_flag_call serve_sem serve_flag first_served serve_sem_flag sem_trial flag_trial chosen free_task create_task delete_task start_task exit_task terminate_task change_priority rotate_ready get_task refer_task sleep delay wake_up cancel_wakeups release_wait suspend_task resume_task task_call mark_of allowed free_from first_serving serve_box serve_mailboxes serve_buffer serve_buffers post create_box delete_box send_box receive_box refer_box create_buffer delete_buffer send_buffer receive_buffer refer_buffer mail_call create_mutex lock_mutex unlock_mutex refer_mutex delete_mutex mutex_call change_priority_beside task_call_beside chain_has current_of resettle free_last ceiling_allows serve_mutex serve_mutexes create_fixed delete_fixed get_fixed release_fixed refer_fixed create_variable delete_variable get_variable release_variable refer_variable pool_call first_free serve_fixed serve_fixed_pools serve_variable serve_variable_pools set_time get_time get_operating_time create_cyclic start_cyclic stop_cyclic delete_cyclic refer_cyclic create_alarm start_alarm stop_alarm delete_alarm refer_alarm time_call body_of next_due again define_handler disable_dispatch enable_dispatch disable_interrupts enable_interrupts refer_system define_service refer_service enter_service context_call left list_existing list_ready list_queue set_hook hook_call open_device refer_device request request_whole wait_ending close_device suspend_devices device_call expected arrive hand_over hand_first messages emptied read_bytes write_bytes accept picked serve_acceptance serve_acceptances serve_ending serve_endings is_with_driver serve_close serve_closes serve_suspension events_sent free_descriptor free_request first_queued at_driver accepted dropped handed asked devices_start block is_last blocks unit cut may_cut arrived entered returned body_returned family_call answered called follow_release follow_each with_releases dispatched followed insert_once with_requests handler_begun due_begun interrupt_begun served_within settle freed_within fallen due_done tick state_after worked counted step sync_runs sync_run entered_2 runs start trace acted ran turn_of done_turn first_serving_2 serve_object state_start digits
preemption_run = refl

-- Priorities of ready and DORMANT tasks change; tasks are terminated, deleted and end themselves.
priorities_script : Script
priorities_script = record {
  devices = [];
  pace = None;
  irqs = [];
  boot = record { body = 1; priority = 10 };
  bodies =
      record {
        name = codes "main";
        kind = kinds.Task;
        labels = [];
        stmts =
            stmts.Call names.TkCreTsk (args.List 0 ∷ args.Body 2 ∷ args.Number (pos 10) ∷ args.Number (pos 512) ∷ []) ∷
            stmts.Call names.TkStaTsk (args.Number (pos 2) ∷ args.Number (pos 5) ∷ []) ∷
            stmts.Call names.TkChgPri (args.Number (pos 2) ∷ args.Number (pos 9) ∷ []) ∷
            stmts.Say (codes "back") ∷
            stmts.Call names.TkRefTsk (args.Number (pos 2) ∷ []) ∷
            stmts.Call names.TkTerTsk (args.Number (pos 2) ∷ []) ∷
            stmts.Call names.TkRefTsk (args.Number (pos 2) ∷ []) ∷
            stmts.Call names.TkChgPri (args.Number (pos 2) ∷ args.Number (pos 7) ∷ []) ∷
            stmts.Call names.TkRefTsk (args.Number (pos 2) ∷ []) ∷
            stmts.Call names.TkDelTsk (args.Number (pos 2) ∷ []) ∷
            stmts.Call names.TkRefTsk (args.Number (pos 2) ∷ []) ∷
            stmts.Call names.TkChgPri (args.Number (pos 0) ∷ args.Number (pos 0) ∷ []) ∷
            stmts.Call names.TkGetTid ([]) ∷
            stmts.Call names.TkExdTsk ([]) ∷
            [];
      } ∷
      record {
        name = codes "other";
        kind = kinds.Task;
        labels = [];
        stmts =
            stmts.Show (operands.Register 1) ∷
            stmts.Call names.TkChgPri (args.Number (pos 0) ∷ args.Number (pos 11) ∷ []) ∷
            stmts.Say (codes "low") ∷
            stmts.Call names.TkExdTsk ([]) ∷
            [];
      } ∷
      [];
}

priorities_entries : List Entry
priorities_entries = []

priorities_lines : List ℕ
priorities_lines =
    codes "0 D 1\n" ++
    codes "1 C 1 tk_cre_tsk 2\n" ++
    codes "2 C 1 tk_sta_tsk 0\n" ++
    codes "3 C 1 tk_chg_pri 0\n" ++
    codes "3 D 2\n" ++
    codes "4 S 2 5\n" ++
    codes "5 C 2 tk_chg_pri 0\n" ++
    codes "5 D 1\n" ++
    codes "6 S 1 back\n" ++
    codes "7 C 1 tk_ref_tsk 0 2 11 11 0 0\n" ++
    codes "8 C 1 tk_ter_tsk 0\n" ++
    codes "9 C 1 tk_ref_tsk 0 6 10 10 0 0\n" ++
    codes "10 C 1 tk_chg_pri 0\n" ++
    codes "11 C 1 tk_ref_tsk 0 6 7 7 0 0\n" ++
    codes "12 C 1 tk_del_tsk 0\n" ++
    codes "13 C 1 tk_ref_tsk E_NOEXS\n" ++
    codes "14 C 1 tk_chg_pri 0\n" ++
    codes "15 C 1 tk_get_tid 1\n" ++
    codes "16 C 1 tk_exd_tsk 0\n" ++
    codes "16 D 0\n" ++
    codes "16 END idle\n" ++
    []

priorities_run : text_of_lines (lines_of (trace priorities_script modes.Free 100000 priorities_entries)) ≡ priorities_lines
unfolding priorities_script priorities_entries priorities_lines text_of form_of named made task_call_name sem_flag_call_name mutex_call_name mail_call_name pool_call_name time_call_name context_call_name device_call_name hook_call_name name_of code_of error_text coded error_named attributes_of flag_mode_of open_mode_of suspend_mode_of is_name_byte name_at_most why_text value_text words_of text_of_line text_of_lines fetch give call_before create_sem create_flag end_first delete_sem delete_flag refer_sem refer_flag signal_sem set_flag clear_flag wait_sem wait_flag sem_flag_call serve_sem serve_flag first_served serve_sem_flag sem_trial flag_trial chosen free_task create_task delete_task start_task exit_task terminate_task change_priority rotate_ready get_task refer_task sleep delay wake_up cancel_wakeups release_wait suspend_task resume_task task_call mark_of allowed free_from first_serving serve_box serve_mailboxes serve_buffer serve_buffers post create_box delete_box send_box receive_box refer_box create_buffer delete_buffer send_buffer receive_buffer refer_buffer mail_call create_mutex lock_mutex unlock_mutex refer_mutex delete_mutex mutex_call change_priority_beside task_call_beside chain_has current_of resettle free_last ceiling_allows serve_mutex serve_mutexes create_fixed delete_fixed get_fixed release_fixed refer_fixed create_variable delete_variable get_variable release_variable refer_variable pool_call first_free serve_fixed serve_fixed_pools serve_variable serve_variable_pools set_time get_time get_operating_time create_cyclic start_cyclic stop_cyclic delete_cyclic refer_cyclic create_alarm start_alarm stop_alarm delete_alarm refer_alarm time_call body_of next_due again define_handler disable_dispatch enable_dispatch disable_interrupts enable_interrupts refer_system define_service refer_service enter_service context_call left list_existing list_ready list_queue set_hook hook_call open_device refer_device request request_whole wait_ending close_device suspend_devices device_call expected arrive hand_over hand_first messages emptied read_bytes write_bytes accept picked serve_acceptance serve_acceptances serve_ending serve_endings is_with_driver serve_close serve_closes serve_suspension events_sent free_descriptor free_request first_queued at_driver accepted dropped handed asked devices_start block is_last blocks unit cut may_cut arrived entered returned body_returned family_call answered called follow_release follow_each with_releases dispatched followed insert_once with_requests handler_begun due_begun interrupt_begun served_within settle freed_within fallen due_done tick state_after worked counted step sync_runs sync_run entered_2 runs start trace acted ran turn_of done_turn first_serving_2 serve_object state_start digits
priorities_run = refl

-- Calls are refused by the first check that fails.
refused_calls_script : Script
refused_calls_script = record {
  devices = [];
  pace = None;
  irqs = [];
  boot = record { body = 1; priority = 10 };
  bodies =
      record {
        name = codes "main";
        kind = kinds.Task;
        labels = [];
        stmts =
            stmts.Call names.TkCreTsk (args.List 0 ∷ args.Body 2 ∷ args.Number (pos 0) ∷ args.Number (pos 512) ∷ []) ∷
            stmts.Call names.TkCreTsk (args.List 0 ∷ args.Body 2 ∷ args.Number (pos 141) ∷ args.Number (pos 512) ∷ []) ∷
            stmts.Call names.TkCreTsk (args.List 0 ∷ args.Body 2 ∷ args.Number (pos 10) ∷ args.Number (pos 0) ∷ []) ∷
            stmts.Call names.TkCreTsk (args.List 0 ∷ args.Body 2 ∷ args.Number (pos 10) ∷ args.Number (pos 1048577) ∷ []) ∷
            stmts.Call names.TkCreTsk (args.List 0 ∷ args.Body 2 ∷ args.Number (pos 10) ∷ args.Number (pos 1047553) ∷ []) ∷
            stmts.Call names.TkStaTsk (args.Number (pos 0) ∷ args.Number (pos 0) ∷ []) ∷
            stmts.Call names.TkStaTsk (args.Number (pos 256) ∷ args.Number (pos 0) ∷ []) ∷
            stmts.Call names.TkStaTsk (args.Number (pos 2) ∷ args.Number (negsuc 0) ∷ []) ∷
            stmts.Call names.TkStaTsk (args.Number (pos 2) ∷ args.Number (pos 0) ∷ []) ∷
            stmts.Call names.TkStaTsk (args.Number (pos 1) ∷ args.Number (pos 0) ∷ []) ∷
            stmts.Call names.TkWupTsk (args.Number (negsuc 4) ∷ []) ∷
            stmts.Call names.TkWupTsk (args.Number (pos 2) ∷ []) ∷
            stmts.Call names.TkWupTsk (args.Number (pos 1) ∷ []) ∷
            stmts.Call names.TkCreTsk (args.List 0 ∷ args.Body 2 ∷ args.Number (pos 20) ∷ args.Number (pos 1047552) ∷ []) ∷
            stmts.Call names.TkWupTsk (args.Number (pos 2) ∷ []) ∷
            stmts.Call names.TkStaTsk (args.Number (pos 2) ∷ args.Number (pos 7) ∷ []) ∷
            stmts.Call names.TkWupTsk (args.Number (pos 2) ∷ []) ∷
            stmts.Call names.TkCreTsk (args.List 0 ∷ args.Body 2 ∷ args.Number (pos 20) ∷ args.Number (pos 1) ∷ []) ∷
            [];
      } ∷
      record {
        name = codes "work";
        kind = kinds.Task;
        labels = [];
        stmts =
            stmts.Call names.TkSlpTsk (args.Number (negsuc 0) ∷ []) ∷
            [];
      } ∷
      [];
}

refused_calls_entries : List Entry
refused_calls_entries = []

refused_calls_lines : List ℕ
refused_calls_lines =
    codes "0 D 1\n" ++
    codes "1 C 1 tk_cre_tsk E_PAR\n" ++
    codes "2 C 1 tk_cre_tsk E_PAR\n" ++
    codes "3 C 1 tk_cre_tsk E_PAR\n" ++
    codes "4 C 1 tk_cre_tsk E_PAR\n" ++
    codes "5 C 1 tk_cre_tsk E_NOMEM\n" ++
    codes "6 C 1 tk_sta_tsk E_ID\n" ++
    codes "7 C 1 tk_sta_tsk E_ID\n" ++
    codes "8 C 1 tk_sta_tsk E_PAR\n" ++
    codes "9 C 1 tk_sta_tsk E_NOEXS\n" ++
    codes "10 C 1 tk_sta_tsk E_OBJ\n" ++
    codes "11 C 1 tk_wup_tsk E_ID\n" ++
    codes "12 C 1 tk_wup_tsk E_NOEXS\n" ++
    codes "13 C 1 tk_wup_tsk E_OBJ\n" ++
    codes "14 C 1 tk_cre_tsk 2\n" ++
    codes "15 C 1 tk_wup_tsk E_OBJ\n" ++
    codes "16 C 1 tk_sta_tsk 0\n" ++
    codes "17 C 1 tk_wup_tsk 0\n" ++
    codes "18 C 1 tk_cre_tsk E_NOMEM\n" ++
    codes "19 C 1 tk_ext_tsk 0\n" ++
    codes "19 D 2\n" ++
    codes "20 C 2 tk_slp_tsk 0\n" ++
    codes "21 C 2 tk_ext_tsk 0\n" ++
    codes "21 D 0\n" ++
    codes "21 END idle\n" ++
    []

refused_calls_run : text_of_lines (lines_of (trace refused_calls_script modes.Free 100000 refused_calls_entries)) ≡ refused_calls_lines
unfolding refused_calls_script refused_calls_entries refused_calls_lines text_of form_of named made task_call_name sem_flag_call_name mutex_call_name mail_call_name pool_call_name time_call_name context_call_name device_call_name hook_call_name name_of code_of error_text coded error_named attributes_of flag_mode_of open_mode_of suspend_mode_of is_name_byte name_at_most why_text value_text words_of text_of_line text_of_lines fetch give call_before create_sem create_flag end_first delete_sem delete_flag refer_sem refer_flag signal_sem set_flag clear_flag wait_sem wait_flag sem_flag_call serve_sem serve_flag first_served serve_sem_flag sem_trial flag_trial chosen free_task create_task delete_task start_task exit_task terminate_task change_priority rotate_ready get_task refer_task sleep delay wake_up cancel_wakeups release_wait suspend_task resume_task task_call mark_of allowed free_from first_serving serve_box serve_mailboxes serve_buffer serve_buffers post create_box delete_box send_box receive_box refer_box create_buffer delete_buffer send_buffer receive_buffer refer_buffer mail_call create_mutex lock_mutex unlock_mutex refer_mutex delete_mutex mutex_call change_priority_beside task_call_beside chain_has current_of resettle free_last ceiling_allows serve_mutex serve_mutexes create_fixed delete_fixed get_fixed release_fixed refer_fixed create_variable delete_variable get_variable release_variable refer_variable pool_call first_free serve_fixed serve_fixed_pools serve_variable serve_variable_pools set_time get_time get_operating_time create_cyclic start_cyclic stop_cyclic delete_cyclic refer_cyclic create_alarm start_alarm stop_alarm delete_alarm refer_alarm time_call body_of next_due again define_handler disable_dispatch enable_dispatch disable_interrupts enable_interrupts refer_system define_service refer_service enter_service context_call left list_existing list_ready list_queue set_hook hook_call open_device refer_device request request_whole wait_ending close_device suspend_devices device_call expected arrive hand_over hand_first messages emptied read_bytes write_bytes accept picked serve_acceptance serve_acceptances serve_ending serve_endings is_with_driver serve_close serve_closes serve_suspension events_sent free_descriptor free_request first_queued at_driver accepted dropped handed asked devices_start block is_last blocks unit cut may_cut arrived entered returned body_returned family_call answered called follow_release follow_each with_releases dispatched followed insert_once with_requests handler_begun due_begun interrupt_begun served_within settle freed_within fallen due_done tick state_after worked counted step sync_runs sync_run entered_2 runs start trace acted ran turn_of done_turn first_serving_2 serve_object state_start digits
refused_calls_run = refl

-- Rotation gives the other tasks of a priority their turn; a released delay answers the release.
rotation_and_release_script : Script
rotation_and_release_script = record {
  devices = [];
  pace = None;
  irqs = [];
  boot = record { body = 1; priority = 10 };
  bodies =
      record {
        name = codes "main";
        kind = kinds.Task;
        labels = [];
        stmts =
            stmts.Call names.TkCreTsk (args.List 0 ∷ args.Body 2 ∷ args.Number (pos 10) ∷ args.Number (pos 512) ∷ []) ∷
            stmts.Call names.TkCreTsk (args.List 0 ∷ args.Body 2 ∷ args.Number (pos 10) ∷ args.Number (pos 512) ∷ []) ∷
            stmts.Call names.TkStaTsk (args.Number (pos 2) ∷ args.Number (pos 0) ∷ []) ∷
            stmts.Call names.TkStaTsk (args.Number (pos 3) ∷ args.Number (pos 0) ∷ []) ∷
            stmts.Call names.TkRotRdq (args.Number (pos 0) ∷ []) ∷
            stmts.Say (codes "main") ∷
            stmts.Call names.TkRelWai (args.Number (pos 2) ∷ []) ∷
            stmts.Call names.TkRelWai (args.Number (pos 2) ∷ []) ∷
            stmts.Call names.TkTerTsk (args.Number (pos 3) ∷ []) ∷
            stmts.Call names.TkSusTsk (args.Number (pos 2) ∷ []) ∷
            stmts.Call names.TkFrsmTsk (args.Number (pos 2) ∷ []) ∷
            stmts.Call names.TkRsmTsk (args.Number (pos 2) ∷ []) ∷
            [];
      } ∷
      record {
        name = codes "work";
        kind = kinds.Task;
        labels = [];
        stmts =
            stmts.Call names.TkDlyTsk (args.Number (pos 5) ∷ []) ∷
            stmts.Show (operands.Register 0) ∷
            [];
      } ∷
      [];
}

rotation_and_release_entries : List Entry
rotation_and_release_entries = []

rotation_and_release_lines : List ℕ
rotation_and_release_lines =
    codes "0 D 1\n" ++
    codes "1 C 1 tk_cre_tsk 2\n" ++
    codes "2 C 1 tk_cre_tsk 3\n" ++
    codes "3 C 1 tk_sta_tsk 0\n" ++
    codes "4 C 1 tk_sta_tsk 0\n" ++
    codes "5 C 1 tk_rot_rdq 0\n" ++
    codes "5 D 2\n" ++
    codes "6 B 2 tk_dly_tsk\n" ++
    codes "6 D 3\n" ++
    codes "7 B 3 tk_dly_tsk\n" ++
    codes "7 D 1\n" ++
    codes "8 S 1 main\n" ++
    codes "9 C 1 tk_rel_wai 0\n" ++
    codes "9 W 2 tk_dly_tsk E_RLWAI\n" ++
    codes "10 C 1 tk_rel_wai E_OBJ\n" ++
    codes "11 C 1 tk_ter_tsk 0\n" ++
    codes "12 C 1 tk_sus_tsk 0\n" ++
    codes "13 C 1 tk_frsm_tsk 0\n" ++
    codes "14 C 1 tk_rsm_tsk E_OBJ\n" ++
    codes "15 C 1 tk_ext_tsk 0\n" ++
    codes "15 D 2\n" ++
    codes "16 S 2 -49\n" ++
    codes "17 C 2 tk_ext_tsk 0\n" ++
    codes "17 D 0\n" ++
    codes "17 END idle\n" ++
    []

rotation_and_release_run : text_of_lines (lines_of (trace rotation_and_release_script modes.Free 100000 rotation_and_release_entries)) ≡ rotation_and_release_lines
unfolding rotation_and_release_script rotation_and_release_entries rotation_and_release_lines text_of form_of named made task_call_name sem_flag_call_name mutex_call_name mail_call_name pool_call_name time_call_name context_call_name device_call_name hook_call_name name_of code_of error_text coded error_named attributes_of flag_mode_of open_mode_of suspend_mode_of is_name_byte name_at_most why_text value_text words_of text_of_line text_of_lines fetch give call_before create_sem create_flag end_first delete_sem delete_flag refer_sem refer_flag signal_sem set_flag clear_flag wait_sem wait_flag sem_flag_call serve_sem serve_flag first_served serve_sem_flag sem_trial flag_trial chosen free_task create_task delete_task start_task exit_task terminate_task change_priority rotate_ready get_task refer_task sleep delay wake_up cancel_wakeups release_wait suspend_task resume_task task_call mark_of allowed free_from first_serving serve_box serve_mailboxes serve_buffer serve_buffers post create_box delete_box send_box receive_box refer_box create_buffer delete_buffer send_buffer receive_buffer refer_buffer mail_call create_mutex lock_mutex unlock_mutex refer_mutex delete_mutex mutex_call change_priority_beside task_call_beside chain_has current_of resettle free_last ceiling_allows serve_mutex serve_mutexes create_fixed delete_fixed get_fixed release_fixed refer_fixed create_variable delete_variable get_variable release_variable refer_variable pool_call first_free serve_fixed serve_fixed_pools serve_variable serve_variable_pools set_time get_time get_operating_time create_cyclic start_cyclic stop_cyclic delete_cyclic refer_cyclic create_alarm start_alarm stop_alarm delete_alarm refer_alarm time_call body_of next_due again define_handler disable_dispatch enable_dispatch disable_interrupts enable_interrupts refer_system define_service refer_service enter_service context_call left list_existing list_ready list_queue set_hook hook_call open_device refer_device request request_whole wait_ending close_device suspend_devices device_call expected arrive hand_over hand_first messages emptied read_bytes write_bytes accept picked serve_acceptance serve_acceptances serve_ending serve_endings is_with_driver serve_close serve_closes serve_suspension events_sent free_descriptor free_request first_queued at_driver accepted dropped handed asked devices_start block is_last blocks unit cut may_cut arrived entered returned body_returned family_call answered called follow_release follow_each with_releases dispatched followed insert_once with_requests handler_begun due_begun interrupt_begun served_within settle freed_within fallen due_done tick state_after worked counted step sync_runs sync_run entered_2 runs start trace acted ran turn_of done_turn first_serving_2 serve_object state_start digits
rotation_and_release_run = refl

-- A suspended sleeper is woken, goes on being suspended, and stands last once it is resumed.
suspended_sleeper_script : Script
suspended_sleeper_script = record {
  devices = [];
  pace = None;
  irqs = [];
  boot = record { body = 1; priority = 10 };
  bodies =
      record {
        name = codes "main";
        kind = kinds.Task;
        labels = [];
        stmts =
            stmts.Call names.TkCreTsk (args.List 0 ∷ args.Body 2 ∷ args.Number (pos 10) ∷ args.Number (pos 512) ∷ []) ∷
            stmts.Call names.TkStaTsk (args.Number (pos 2) ∷ args.Number (pos 0) ∷ []) ∷
            stmts.Call names.TkRotRdq (args.Number (pos 10) ∷ []) ∷
            stmts.Call names.TkSusTsk (args.Number (pos 2) ∷ []) ∷
            stmts.Call names.TkRefTsk (args.Number (pos 2) ∷ []) ∷
            stmts.Call names.TkWupTsk (args.Number (pos 2) ∷ []) ∷
            stmts.Call names.TkRefTsk (args.Number (pos 2) ∷ []) ∷
            stmts.Call names.TkCreTsk (args.List 0 ∷ args.Body 3 ∷ args.Number (pos 10) ∷ args.Number (pos 512) ∷ []) ∷
            stmts.Call names.TkStaTsk (args.Number (pos 3) ∷ args.Number (pos 0) ∷ []) ∷
            stmts.Call names.TkRsmTsk (args.Number (pos 2) ∷ []) ∷
            stmts.Call names.TkExtTsk ([]) ∷
            [];
      } ∷
      record {
        name = codes "nap";
        kind = kinds.Task;
        labels = [];
        stmts =
            stmts.Call names.TkSlpTsk (args.Number (negsuc 0) ∷ []) ∷
            stmts.Say (codes "up") ∷
            [];
      } ∷
      record {
        name = codes "other";
        kind = kinds.Task;
        labels = [];
        stmts =
            stmts.Say (codes "o") ∷
            [];
      } ∷
      [];
}

suspended_sleeper_entries : List Entry
suspended_sleeper_entries = []

suspended_sleeper_lines : List ℕ
suspended_sleeper_lines =
    codes "0 D 1\n" ++
    codes "1 C 1 tk_cre_tsk 2\n" ++
    codes "2 C 1 tk_sta_tsk 0\n" ++
    codes "3 C 1 tk_rot_rdq 0\n" ++
    codes "3 D 2\n" ++
    codes "4 B 2 tk_slp_tsk\n" ++
    codes "4 D 1\n" ++
    codes "5 C 1 tk_sus_tsk 0\n" ++
    codes "6 C 1 tk_ref_tsk 0 5 10 10 0 1\n" ++
    codes "7 C 1 tk_wup_tsk 0\n" ++
    codes "7 W 2 tk_slp_tsk 0\n" ++
    codes "8 C 1 tk_ref_tsk 0 4 10 10 0 1\n" ++
    codes "9 C 1 tk_cre_tsk 3\n" ++
    codes "10 C 1 tk_sta_tsk 0\n" ++
    codes "11 C 1 tk_rsm_tsk 0\n" ++
    codes "12 C 1 tk_ext_tsk 0\n" ++
    codes "12 D 3\n" ++
    codes "13 S 3 o\n" ++
    codes "14 C 3 tk_ext_tsk 0\n" ++
    codes "14 D 2\n" ++
    codes "15 S 2 up\n" ++
    codes "16 C 2 tk_ext_tsk 0\n" ++
    codes "16 D 0\n" ++
    codes "16 END idle\n" ++
    []

suspended_sleeper_run : text_of_lines (lines_of (trace suspended_sleeper_script modes.Free 100000 suspended_sleeper_entries)) ≡ suspended_sleeper_lines
unfolding suspended_sleeper_script suspended_sleeper_entries suspended_sleeper_lines text_of form_of named made task_call_name sem_flag_call_name mutex_call_name mail_call_name pool_call_name time_call_name context_call_name device_call_name hook_call_name name_of code_of error_text coded error_named attributes_of flag_mode_of open_mode_of suspend_mode_of is_name_byte name_at_most why_text value_text words_of text_of_line text_of_lines fetch give call_before create_sem create_flag end_first delete_sem delete_flag refer_sem refer_flag signal_sem set_flag clear_flag wait_sem wait_flag sem_flag_call serve_sem serve_flag first_served serve_sem_flag sem_trial flag_trial chosen free_task create_task delete_task start_task exit_task terminate_task change_priority rotate_ready get_task refer_task sleep delay wake_up cancel_wakeups release_wait suspend_task resume_task task_call mark_of allowed free_from first_serving serve_box serve_mailboxes serve_buffer serve_buffers post create_box delete_box send_box receive_box refer_box create_buffer delete_buffer send_buffer receive_buffer refer_buffer mail_call create_mutex lock_mutex unlock_mutex refer_mutex delete_mutex mutex_call change_priority_beside task_call_beside chain_has current_of resettle free_last ceiling_allows serve_mutex serve_mutexes create_fixed delete_fixed get_fixed release_fixed refer_fixed create_variable delete_variable get_variable release_variable refer_variable pool_call first_free serve_fixed serve_fixed_pools serve_variable serve_variable_pools set_time get_time get_operating_time create_cyclic start_cyclic stop_cyclic delete_cyclic refer_cyclic create_alarm start_alarm stop_alarm delete_alarm refer_alarm time_call body_of next_due again define_handler disable_dispatch enable_dispatch disable_interrupts enable_interrupts refer_system define_service refer_service enter_service context_call left list_existing list_ready list_queue set_hook hook_call open_device refer_device request request_whole wait_ending close_device suspend_devices device_call expected arrive hand_over hand_first messages emptied read_bytes write_bytes accept picked serve_acceptance serve_acceptances serve_ending serve_endings is_with_driver serve_close serve_closes serve_suspension events_sent free_descriptor free_request first_queued at_driver accepted dropped handed asked devices_start block is_last blocks unit cut may_cut arrived entered returned body_returned family_call answered called follow_release follow_each with_releases dispatched followed insert_once with_requests handler_begun due_begun interrupt_begun served_within settle freed_within fallen due_done tick state_after worked counted step sync_runs sync_run entered_2 runs start trace acted ran turn_of done_turn first_serving_2 serve_object state_start digits
suspended_sleeper_run = refl

-- Time-outs fall due in the tick that makes the time one more than their limit, and in one tick in the order of making.
time_outs_script : Script
time_outs_script = record {
  devices = [];
  pace = None;
  irqs = [];
  boot = record { body = 1; priority = 10 };
  bodies =
      record {
        name = codes "main";
        kind = kinds.Task;
        labels = [];
        stmts =
            stmts.Call names.TkCreTsk (args.List 0 ∷ args.Body 2 ∷ args.Number (pos 5) ∷ args.Number (pos 512) ∷ []) ∷
            stmts.Call names.TkCreTsk (args.List 0 ∷ args.Body 2 ∷ args.Number (pos 5) ∷ args.Number (pos 512) ∷ []) ∷
            stmts.Call names.TkStaTsk (args.Number (pos 2) ∷ args.Number (pos 0) ∷ []) ∷
            stmts.Call names.TkStaTsk (args.Number (pos 3) ∷ args.Number (pos 0) ∷ []) ∷
            stmts.Call names.TkSlpTsk (args.Number (pos 0) ∷ []) ∷
            stmts.Call names.TkDlyTsk (args.Number (pos 1) ∷ []) ∷
            stmts.Say (codes "late") ∷
            [];
      } ∷
      record {
        name = codes "nap";
        kind = kinds.Task;
        labels = [];
        stmts =
            stmts.Call names.TkSlpTsk (args.Number (pos 2) ∷ []) ∷
            [];
      } ∷
      [];
}

time_outs_entries : List Entry
time_outs_entries = []

time_outs_lines : List ℕ
time_outs_lines =
    codes "0 D 1\n" ++
    codes "1 C 1 tk_cre_tsk 2\n" ++
    codes "2 C 1 tk_cre_tsk 3\n" ++
    codes "3 C 1 tk_sta_tsk 0\n" ++
    codes "3 D 2\n" ++
    codes "4 B 2 tk_slp_tsk\n" ++
    codes "4 D 1\n" ++
    codes "5 C 1 tk_sta_tsk 0\n" ++
    codes "5 D 3\n" ++
    codes "6 B 3 tk_slp_tsk\n" ++
    codes "6 D 1\n" ++
    codes "7 C 1 tk_slp_tsk E_TMOUT\n" ++
    codes "8 B 1 tk_dly_tsk\n" ++
    codes "8 D 0\n" ++
    codes "9 K 1\n" ++
    codes "10 K 2\n" ++
    codes "10 W 1 tk_dly_tsk 0\n" ++
    codes "10 D 1\n" ++
    codes "11 S 1 late\n" ++
    codes "12 C 1 tk_ext_tsk 0\n" ++
    codes "12 D 0\n" ++
    codes "13 K 3\n" ++
    codes "13 W 2 tk_slp_tsk E_TMOUT\n" ++
    codes "13 W 3 tk_slp_tsk E_TMOUT\n" ++
    codes "13 D 2\n" ++
    codes "14 C 2 tk_ext_tsk 0\n" ++
    codes "14 D 3\n" ++
    codes "15 C 3 tk_ext_tsk 0\n" ++
    codes "15 D 0\n" ++
    codes "15 END idle\n" ++
    []

time_outs_run : text_of_lines (lines_of (trace time_outs_script modes.Free 100000 time_outs_entries)) ≡ time_outs_lines
unfolding time_outs_script time_outs_entries time_outs_lines text_of form_of named made task_call_name sem_flag_call_name mutex_call_name mail_call_name pool_call_name time_call_name context_call_name device_call_name hook_call_name name_of code_of error_text coded error_named attributes_of flag_mode_of open_mode_of suspend_mode_of is_name_byte name_at_most why_text value_text words_of text_of_line text_of_lines fetch give call_before create_sem create_flag end_first delete_sem delete_flag refer_sem refer_flag signal_sem set_flag clear_flag wait_sem wait_flag sem_flag_call serve_sem serve_flag first_served serve_sem_flag sem_trial flag_trial chosen free_task create_task delete_task start_task exit_task terminate_task change_priority rotate_ready get_task refer_task sleep delay wake_up cancel_wakeups release_wait suspend_task resume_task task_call mark_of allowed free_from first_serving serve_box serve_mailboxes serve_buffer serve_buffers post create_box delete_box send_box receive_box refer_box create_buffer delete_buffer send_buffer receive_buffer refer_buffer mail_call create_mutex lock_mutex unlock_mutex refer_mutex delete_mutex mutex_call change_priority_beside task_call_beside chain_has current_of resettle free_last ceiling_allows serve_mutex serve_mutexes create_fixed delete_fixed get_fixed release_fixed refer_fixed create_variable delete_variable get_variable release_variable refer_variable pool_call first_free serve_fixed serve_fixed_pools serve_variable serve_variable_pools set_time get_time get_operating_time create_cyclic start_cyclic stop_cyclic delete_cyclic refer_cyclic create_alarm start_alarm stop_alarm delete_alarm refer_alarm time_call body_of next_due again define_handler disable_dispatch enable_dispatch disable_interrupts enable_interrupts refer_system define_service refer_service enter_service context_call left list_existing list_ready list_queue set_hook hook_call open_device refer_device request request_whole wait_ending close_device suspend_devices device_call expected arrive hand_over hand_first messages emptied read_bytes write_bytes accept picked serve_acceptance serve_acceptances serve_ending serve_endings is_with_driver serve_close serve_closes serve_suspension events_sent free_descriptor free_request first_queued at_driver accepted dropped handed asked devices_start block is_last blocks unit cut may_cut arrived entered returned body_returned family_call answered called follow_release follow_each with_releases dispatched followed insert_once with_requests handler_begun due_begun interrupt_begun served_within settle freed_within fallen due_done tick state_after worked counted step sync_runs sync_run entered_2 runs start trace acted ran turn_of done_turn first_serving_2 serve_object state_start digits
time_outs_run = refl

-- A sleeper of a higher priority runs as soon as it is woken.
wake_up_script : Script
wake_up_script = record {
  devices = [];
  pace = None;
  irqs = [];
  boot = record { body = 1; priority = 10 };
  bodies =
      record {
        name = codes "main";
        kind = kinds.Task;
        labels = [];
        stmts =
            stmts.Call names.TkCreTsk (args.List 0 ∷ args.Body 2 ∷ args.Number (pos 5) ∷ args.Number (pos 512) ∷ []) ∷
            stmts.Call names.TkStaTsk (args.Number (pos 2) ∷ args.Number (pos 0) ∷ []) ∷
            stmts.Call names.TkWupTsk (args.Number (pos 2) ∷ []) ∷
            [];
      } ∷
      record {
        name = codes "work";
        kind = kinds.Task;
        labels = [];
        stmts =
            stmts.Call names.TkSlpTsk (args.Number (negsuc 0) ∷ []) ∷
            stmts.Say (codes "up") ∷
            [];
      } ∷
      [];
}

wake_up_entries : List Entry
wake_up_entries = []

wake_up_lines : List ℕ
wake_up_lines =
    codes "0 D 1\n" ++
    codes "1 C 1 tk_cre_tsk 2\n" ++
    codes "2 C 1 tk_sta_tsk 0\n" ++
    codes "2 D 2\n" ++
    codes "3 B 2 tk_slp_tsk\n" ++
    codes "3 D 1\n" ++
    codes "4 C 1 tk_wup_tsk 0\n" ++
    codes "4 W 2 tk_slp_tsk 0\n" ++
    codes "4 D 2\n" ++
    codes "5 S 2 up\n" ++
    codes "6 C 2 tk_ext_tsk 0\n" ++
    codes "6 D 1\n" ++
    codes "7 C 1 tk_ext_tsk 0\n" ++
    codes "7 D 0\n" ++
    codes "7 END idle\n" ++
    []

wake_up_run : text_of_lines (lines_of (trace wake_up_script modes.Free 100000 wake_up_entries)) ≡ wake_up_lines
unfolding wake_up_script wake_up_entries wake_up_lines text_of form_of named made task_call_name sem_flag_call_name mutex_call_name mail_call_name pool_call_name time_call_name context_call_name device_call_name hook_call_name name_of code_of error_text coded error_named attributes_of flag_mode_of open_mode_of suspend_mode_of is_name_byte name_at_most why_text value_text words_of text_of_line text_of_lines fetch give call_before create_sem create_flag end_first delete_sem delete_flag refer_sem refer_flag signal_sem set_flag clear_flag wait_sem wait_flag sem_flag_call serve_sem serve_flag first_served serve_sem_flag sem_trial flag_trial chosen free_task create_task delete_task start_task exit_task terminate_task change_priority rotate_ready get_task refer_task sleep delay wake_up cancel_wakeups release_wait suspend_task resume_task task_call mark_of allowed free_from first_serving serve_box serve_mailboxes serve_buffer serve_buffers post create_box delete_box send_box receive_box refer_box create_buffer delete_buffer send_buffer receive_buffer refer_buffer mail_call create_mutex lock_mutex unlock_mutex refer_mutex delete_mutex mutex_call change_priority_beside task_call_beside chain_has current_of resettle free_last ceiling_allows serve_mutex serve_mutexes create_fixed delete_fixed get_fixed release_fixed refer_fixed create_variable delete_variable get_variable release_variable refer_variable pool_call first_free serve_fixed serve_fixed_pools serve_variable serve_variable_pools set_time get_time get_operating_time create_cyclic start_cyclic stop_cyclic delete_cyclic refer_cyclic create_alarm start_alarm stop_alarm delete_alarm refer_alarm time_call body_of next_due again define_handler disable_dispatch enable_dispatch disable_interrupts enable_interrupts refer_system define_service refer_service enter_service context_call left list_existing list_ready list_queue set_hook hook_call open_device refer_device request request_whole wait_ending close_device suspend_devices device_call expected arrive hand_over hand_first messages emptied read_bytes write_bytes accept picked serve_acceptance serve_acceptances serve_ending serve_endings is_with_driver serve_close serve_closes serve_suspension events_sent free_descriptor free_request first_queued at_driver accepted dropped handed asked devices_start block is_last blocks unit cut may_cut arrived entered returned body_returned family_call answered called follow_release follow_each with_releases dispatched followed insert_once with_requests handler_begun due_begun interrupt_begun served_within settle freed_within fallen due_done tick state_after worked counted step sync_runs sync_run entered_2 runs start trace acted ran turn_of done_turn first_serving_2 serve_object state_start digits
wake_up_run = refl
