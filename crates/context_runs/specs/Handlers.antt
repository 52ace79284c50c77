-- Runs that were worked out by hand from the rules, as runs/context/handlers has them: each a theorem by computation.
use Rattle.std.specs.Prelude.{ℕ, pos, negsuc, List, [], ◌∷◌, ◌++◌, Some, None, codes, ◌≡◌, refl}
use Rattle.std.specs.Fmt.{digits}
use Rattle.tk_types.specs.declared.script.Script.{Script}
use Rattle.tk_types.specs.declared.script.BodyKind.TheVariants as kinds
use Rattle.tk_types.specs.declared.script.Kind.TheVariants as devices
use Rattle.tk_types.specs.declared.script.Stmt.TheVariants as stmts
use Rattle.tk_types.specs.declared.script.Operand.TheVariants as operands
use Rattle.tk_types.specs.declared.script.Operation.TheVariants as operations
use Rattle.tk_types.specs.declared.script.Condition.TheVariants as conditions
use Rattle.tk_types.specs.declared.script.Arg.TheVariants as args
use Rattle.tk_types.specs.declared.call_name.CallName.TheVariants as names
use Rattle.tk_types.specs.declared.line.Entry.{Entry}
use Rattle.tk_types.specs.declared.line.How.TheVariants as hows
use Rattle.tk_types.specs.declared.run.Mode.TheVariants as modes
use Rattle.tk_types.specs.CallNames.{text_of, form_of, named}
use Rattle.tk_types.specs.Calls.{made, task_call_name, sem_flag_call_name, mutex_call_name, mail_call_name, pool_call_name, time_call_name, context_call_name, device_call_name, hook_call_name, name_of}
use Rattle.tk_types.specs.Codes.{code_of, error_text, coded, error_named}
use Rattle.tk_types.specs.Modes.{attributes_of, flag_mode_of, open_mode_of, suspend_mode_of}
use Rattle.tk_types.specs.Names.{is_name_byte, name_at_most}
use Rattle.tk_types.specs.Reasons.{why_text}
use Rattle.tk_model.specs.LineText.{value_text, words_of, text_of_line, text_of_lines}
use Rattle.kernel_model.specs.Bodies.Statements.{fetch, give, call_before}
use Rattle.kernel_model.specs.SemFlags.Calls.{create_sem, create_flag, end_first, delete_sem, delete_flag, refer_sem, refer_flag, signal_sem, set_flag, clear_flag, wait_sem, wait_flag, sem_flag_call}
use Rattle.kernel_model.specs.SemFlags.Tables.{serve_sem, serve_flag, first_served, serve_sem_flag}
use Rattle.kernel_model.specs.SemFlags.Trial.{sem_trial, flag_trial}
use Rattle.kernel_model.specs.Tasks.Base.{chosen, free_task}
use Rattle.kernel_model.specs.Tasks.Calls.{create_task, delete_task, start_task, exit_task, terminate_task, change_priority, rotate_ready, get_task, refer_task, sleep, delay, wake_up, cancel_wakeups, release_wait, suspend_task, resume_task, task_call}
use Rattle.kernel_model.specs.Tasks.Marks.{mark_of, allowed}
use Rattle.kernel_model.specs.Words.Orders.{free_from}
use Rattle.object_model.specs.Servings.{first_serving}
use Rattle.object_model.specs.Mails.Boxes.{serve_box, serve_mailboxes}
use Rattle.object_model.specs.Mails.Buffers.{serve_buffer, serve_buffers, post}
use Rattle.object_model.specs.Mails.Calls.{create_box, delete_box, send_box, receive_box, refer_box, create_buffer, delete_buffer, send_buffer, receive_buffer, refer_buffer, mail_call}
use Rattle.object_model.specs.Mutexes.Calls.{create_mutex, lock_mutex, unlock_mutex, refer_mutex, delete_mutex, mutex_call, change_priority_beside, task_call_beside}
use Rattle.object_model.specs.Mutexes.Priority.{chain_has, current_of, resettle}
use Rattle.object_model.specs.Mutexes.Tables.{free_last, ceiling_allows, serve_mutex, serve_mutexes}
use Rattle.object_model.specs.Pools.Calls.{create_fixed, delete_fixed, get_fixed, release_fixed, refer_fixed, create_variable, delete_variable, get_variable, release_variable, refer_variable, pool_call}
use Rattle.object_model.specs.Pools.Fixed.{first_free, serve_fixed, serve_fixed_pools}
use Rattle.object_model.specs.Pools.Variable.{serve_variable, serve_variable_pools}
use Rattle.context_model.specs.Clocks.Calls.{set_time, get_time, get_operating_time, create_cyclic, start_cyclic, stop_cyclic, delete_cyclic, refer_cyclic, create_alarm, start_alarm, stop_alarm, delete_alarm, refer_alarm, time_call}
use Rattle.context_model.specs.Clocks.Tables.{body_of, next_due, again}
use Rattle.context_model.specs.Contexts.Calls.{define_handler, disable_dispatch, enable_dispatch, disable_interrupts, enable_interrupts, refer_system, define_service, refer_service, enter_service, context_call}
use Rattle.context_model.specs.Contexts.Tables.{left}
use Rattle.context_model.specs.Hooks.Calls.{list_existing, list_ready, list_queue, set_hook, hook_call}
use Rattle.device_model.specs.Devices.Calls.{open_device, refer_device, request, request_whole, wait_ending, close_device, suspend_devices, device_call}
use Rattle.device_model.specs.Devices.Endings.{expected, arrive}
use Rattle.device_model.specs.Devices.Handing.{hand_over, hand_first, messages, emptied}
use Rattle.device_model.specs.Devices.Memory.{read_bytes, write_bytes}
use Rattle.device_model.specs.Devices.Requests.{accept, picked}
use Rattle.device_model.specs.Devices.Servings.{serve_acceptance, serve_acceptances, serve_ending, serve_endings, is_with_driver, serve_close, serve_closes, serve_suspension}
use Rattle.device_model.specs.Devices.Suspension.{events_sent}
use Rattle.device_model.specs.Devices.Tables.{free_descriptor, free_request, first_queued, at_driver, accepted, dropped, handed, asked, devices_start}
use Rattle.device_model.specs.Units.Blocks.{block, is_last, blocks}
use Rattle.device_model.specs.Units.Function.{unit, cut, may_cut}
use Rattle.machine_model.specs.Events.Arrivals.{arrived}
use Rattle.machine_model.specs.Events.Bodies.{entered, returned, body_returned}
use Rattle.machine_model.specs.Events.Calls.{family_call, answered, called}
use Rattle.machine_model.specs.Events.Follow.{follow_release, follow_each, with_releases, dispatched, followed}
use Rattle.machine_model.specs.Events.Handlers.{insert_once, with_requests, handler_begun, due_begun, interrupt_begun}
use Rattle.machine_model.specs.Events.Settle.{served_within, settle, freed_within}
use Rattle.machine_model.specs.Events.Ticks.{fallen, due_done, tick}
use Rattle.machine_model.specs.Runs.Reached.{state_after}
use Rattle.machine_model.specs.Runs.Step.{worked, counted, step}
use Rattle.machine_model.specs.Runs.SyncTrace.{sync_runs, sync_run}
use Rattle.machine_model.specs.Runs.Trace.{lines_of, entered as entered_2, runs, start, trace}
use Rattle.machine_model.specs.Runs.Turns.{acted, ran, turn_of, done_turn}
use Rattle.machine_model.specs.States.Objects.{first_serving as first_serving_2, serve_object}
use Rattle.machine_model.specs.States.State.{state_start}

-- An interrupt is dropped where its number has no handler as it comes, and where it is undefined while pending; another handler in its
-- place takes it over. A handler that undefines itself runs on, and an interrupt line that is to come keeps an idle machine going, with
-- a handler or without.
defined_while_pending_script : Script
defined_while_pending_script = record {
  devices = [];
  pace = None;
  irqs = record { step = 1; number = 1 } ∷ record { step = 2; number = 1 } ∷ record { step = 6; number = 1 } ∷ record { step = 6; number = 2 } ∷ record { step = 6; number = 3 } ∷ record { step = 11; number = 3 } ∷ record { step = 13; number = 2 } ∷ record { step = 23; number = 3 } ∷ [];
  boot = record { body = 1; priority = 10 };
  bodies =
      record {
        name = codes "main";
        kind = kinds.Task;
        labels = [];
        stmts =
            stmts.Say (codes "a") ∷
            stmts.Call names.TkDefInt (args.Number (pos 1) ∷ args.Body 2 ∷ []) ∷
            stmts.Call names.TkDefInt (args.Number (pos 2) ∷ args.Body 2 ∷ []) ∷
            stmts.Call names.TkDefInt (args.Number (pos 3) ∷ args.Body 2 ∷ []) ∷
            stmts.Call names.Di ([]) ∷
            stmts.Nop ∷
            stmts.Call names.TkDefInt (args.Number (pos 1) ∷ args.Body 0 ∷ []) ∷
            stmts.Call names.TkDefInt (args.Number (pos 1) ∷ args.Body 2 ∷ []) ∷
            stmts.Call names.TkDefInt (args.Number (pos 2) ∷ args.Body 3 ∷ []) ∷
            stmts.Call names.TkDefInt (args.Number (pos 3) ∷ args.Body 0 ∷ []) ∷
            stmts.Call names.Ei ([]) ∷
            stmts.Call names.TkDefInt (args.Number (pos 4) ∷ args.Body 0 ∷ []) ∷
            stmts.Call names.TkDefInt (args.Number (pos 0) ∷ args.Body 2 ∷ []) ∷
            stmts.Call names.TkDefInt (args.Number (pos 256) ∷ args.Body 0 ∷ []) ∷
            stmts.Call names.TkDefInt (args.Number (negsuc 0) ∷ args.Body 2 ∷ []) ∷
            [];
      } ∷
      record {
        name = codes "old";
        kind = kinds.Hand;
        labels = [];
        stmts =
            stmts.Say (codes "old") ∷
            [];
      } ∷
      record {
        name = codes "new";
        kind = kinds.Hand;
        labels = [];
        stmts =
            stmts.Call names.TkDefInt (args.Register 1 ∷ args.Body 0 ∷ []) ∷
            stmts.Say (codes "new") ∷
            [];
      } ∷
      [];
}

defined_while_pending_entries : List Entry
defined_while_pending_entries = []

defined_while_pending_lines : List ℕ
defined_while_pending_lines =
    codes "0 D 1\n" ++
    codes "1 S 1 a\n" ++
    codes "2 C 1 tk_def_int 0\n" ++
    codes "3 C 1 tk_def_int 0\n" ++
    codes "4 C 1 tk_def_int 0\n" ++
    codes "5 C 1 DI 0\n" ++
    codes "7 C 1 tk_def_int 0\n" ++
    codes "8 C 1 tk_def_int 0\n" ++
    codes "9 C 1 tk_def_int 0\n" ++
    codes "10 C 1 tk_def_int 0\n" ++
    codes "11 C 1 EI 0\n" ++
    codes "12 I int 2\n" ++
    codes "13 C 0 tk_def_int 0\n" ++
    codes "14 S 0 new\n" ++
    codes "16 C 1 tk_def_int 0\n" ++
    codes "17 C 1 tk_def_int E_PAR\n" ++
    codes "18 C 1 tk_def_int E_PAR\n" ++
    codes "19 C 1 tk_def_int E_PAR\n" ++
    codes "20 C 1 tk_ext_tsk 0\n" ++
    codes "20 D 0\n" ++
    codes "21 K 1\n" ++
    codes "22 K 2\n" ++
    codes "23 K 3\n" ++
    codes "23 END idle\n" ++
    []

defined_while_pending_run : text_of_lines (lines_of (trace defined_while_pending_script modes.Free 100000 defined_while_pending_entries)) ≡ defined_while_pending_lines
unfolding defined_while_pending_script defined_while_pending_entries defined_while_pending_lines text_of form_of named made task_call_name sem_flag_call_name mutex_call_name mail_call_name pool_call_name time_call_name context_call_name device_call_name hook_call_name name_of code_of error_text coded error_named attributes_of flag_mode_of open_mode_of suspend_mode_of is_name_byte name_at_most why_text value_text words_of text_of_line text_of_lines fetch give call_before create_sem create_flag end_first delete_sem delete_flag refer_sem refer_flag signal_sem set_flag clear_flag wait_sem wait_flag sem_flag_call serve_sem serve_flag first_served serve_sem_flag sem_trial flag_trial chosen free_task create_task delete_task start_task exit_task terminate_task change_priority rotate_ready get_task refer_task sleep delay wake_up cancel_wakeups release_wait suspend_task resume_task task_call mark_of allowed free_from first_serving serve_box serve_mailboxes serve_buffer serve_buffers post create_box delete_box send_box receive_box refer_box create_buffer delete_buffer send_buffer receive_buffer refer_buffer mail_call create_mutex lock_mutex unlock_mutex refer_mutex delete_mutex mutex_call change_priority_beside task_call_beside chain_has current_of resettle free_last ceiling_allows serve_mutex serve_mutexes create_fixed delete_fixed get_fixed release_fixed refer_fixed create_variable delete_variable get_variable release_variable refer_variable pool_call first_free serve_fixed serve_fixed_pools serve_variable serve_variable_pools set_time get_time get_operating_time create_cyclic start_cyclic stop_cyclic delete_cyclic refer_cyclic create_alarm start_alarm stop_alarm delete_alarm refer_alarm time_call body_of next_due again define_handler disable_dispatch enable_dispatch disable_interrupts enable_interrupts refer_system define_service refer_service enter_service context_call left list_existing list_ready list_queue set_hook hook_call open_device refer_device request request_whole wait_ending close_device suspend_devices device_call expected arrive hand_over hand_first messages emptied read_bytes write_bytes accept picked serve_acceptance serve_acceptances serve_ending serve_endings is_with_driver serve_close serve_closes serve_suspension events_sent free_descriptor free_request first_queued at_driver accepted dropped handed asked devices_start block is_last blocks unit cut may_cut arrived entered returned body_returned family_call answered called follow_release follow_each with_releases dispatched followed insert_once with_requests handler_begun due_begun interrupt_begun served_within settle freed_within fallen due_done tick state_after worked counted step sync_runs sync_run entered_2 runs start trace acted ran turn_of done_turn first_serving_2 serve_object state_start digits
defined_while_pending_run = refl

-- A handler may halt the machine, and where that is in the step of the budget, the end is the halt.
halt_in_a_handler_script : Script
halt_in_a_handler_script = record {
  devices = [];
  pace = None;
  irqs = record { step = 2; number = 1 } ∷ [];
  boot = record { body = 1; priority = 10 };
  bodies =
      record {
        name = codes "main";
        kind = kinds.Task;
        labels = [];
        stmts =
            stmts.Call names.TkDefInt (args.Number (pos 1) ∷ args.Body 2 ∷ []) ∷
            stmts.Say (codes "never") ∷
            [];
      } ∷
      record {
        name = codes "h";
        kind = kinds.Hand;
        labels = [];
        stmts =
            stmts.Say (codes "in") ∷
            stmts.Halt ∷
            [];
      } ∷
      [];
}

halt_in_a_handler_entries : List Entry
halt_in_a_handler_entries = []

halt_in_a_handler_lines : List ℕ
halt_in_a_handler_lines =
    codes "0 D 1\n" ++
    codes "1 C 1 tk_def_int 0\n" ++
    codes "2 I int 1\n" ++
    codes "3 S 0 in\n" ++
    codes "4 END halt\n" ++
    []

halt_in_a_handler_run : text_of_lines (lines_of (trace halt_in_a_handler_script modes.Free 4 halt_in_a_handler_entries)) ≡ halt_in_a_handler_lines
unfolding halt_in_a_handler_script halt_in_a_handler_entries halt_in_a_handler_lines text_of form_of named made task_call_name sem_flag_call_name mutex_call_name mail_call_name pool_call_name time_call_name context_call_name device_call_name hook_call_name name_of code_of error_text coded error_named attributes_of flag_mode_of open_mode_of suspend_mode_of is_name_byte name_at_most why_text value_text words_of text_of_line text_of_lines fetch give call_before create_sem create_flag end_first delete_sem delete_flag refer_sem refer_flag signal_sem set_flag clear_flag wait_sem wait_flag sem_flag_call serve_sem serve_flag first_served serve_sem_flag sem_trial flag_trial chosen free_task create_task delete_task start_task exit_task terminate_task change_priority rotate_ready get_task refer_task sleep delay wake_up cancel_wakeups release_wait suspend_task resume_task task_call mark_of allowed free_from first_serving serve_box serve_mailboxes serve_buffer serve_buffers post create_box delete_box send_box receive_box refer_box create_buffer delete_buffer send_buffer receive_buffer refer_buffer mail_call create_mutex lock_mutex unlock_mutex refer_mutex delete_mutex mutex_call change_priority_beside task_call_beside chain_has current_of resettle free_last ceiling_allows serve_mutex serve_mutexes create_fixed delete_fixed get_fixed release_fixed refer_fixed create_variable delete_variable get_variable release_variable refer_variable pool_call first_free serve_fixed serve_fixed_pools serve_variable serve_variable_pools set_time get_time get_operating_time create_cyclic start_cyclic stop_cyclic delete_cyclic refer_cyclic create_alarm start_alarm stop_alarm delete_alarm refer_alarm time_call body_of next_due again define_handler disable_dispatch enable_dispatch disable_interrupts enable_interrupts refer_system define_service refer_service enter_service context_call left list_existing list_ready list_queue set_hook hook_call open_device refer_device request request_whole wait_ending close_device suspend_devices device_call expected arrive hand_over hand_first messages emptied read_bytes write_bytes accept picked serve_acceptance serve_acceptances serve_ending serve_endings is_with_driver serve_close serve_closes serve_suspension events_sent free_descriptor free_request first_queued at_driver accepted dropped handed asked devices_start block is_last blocks unit cut may_cut arrived entered returned body_returned family_call answered called follow_release follow_each with_releases dispatched followed insert_once with_requests handler_begun due_begun interrupt_begun served_within settle freed_within fallen due_done tick state_after worked counted step sync_runs sync_run entered_2 runs start trace acted ran turn_of done_turn first_serving_2 serve_object state_start digits
halt_in_a_handler_run = refl

-- A tick comes before interrupts, and due handlers, one after the other, come before both; of two interrupts the lesser number starts
-- first. A number is pending once, and once more where it comes while its own handler runs.
order_of_starts_script : Script
order_of_starts_script = record {
  devices = [];
  pace = Some 7;
  irqs = record { step = 7; number = 9 } ∷ record { step = 7; number = 2 } ∷ record { step = 7; number = 2 } ∷ record { step = 12; number = 2 } ∷ record { step = 16; number = 2 } ∷ [];
  boot = record { body = 1; priority = 10 };
  bodies =
      record {
        name = codes "main";
        kind = kinds.Task;
        labels = [];
        stmts =
            stmts.Call names.TkCreAlm (args.List 0 ∷ args.Body 2 ∷ []) ∷
            stmts.Call names.TkStaAlm (args.Number (pos 1) ∷ args.Number (pos 0) ∷ []) ∷
            stmts.Call names.TkCreCyc (args.List 65536 ∷ args.Body 2 ∷ args.Number (pos 50) ∷ args.Number (pos 0) ∷ []) ∷
            stmts.Call names.TkDefInt (args.Number (pos 2) ∷ args.Body 3 ∷ []) ∷
            stmts.Call names.TkDefInt (args.Number (pos 9) ∷ args.Body 3 ∷ []) ∷
            stmts.Say (codes "on") ∷
            stmts.Say (codes "off") ∷
            stmts.Halt ∷
            [];
      } ∷
      record {
        name = codes "c";
        kind = kinds.Hand;
        labels = [];
        stmts =
            stmts.Show (operands.Register 1) ∷
            [];
      } ∷
      record {
        name = codes "h";
        kind = kinds.Hand;
        labels = [];
        stmts =
            stmts.Show (operands.Register 1) ∷
            [];
      } ∷
      [];
}

order_of_starts_entries : List Entry
order_of_starts_entries = []

order_of_starts_lines : List ℕ
order_of_starts_lines =
    codes "0 D 1\n" ++
    codes "1 C 1 tk_cre_alm 1\n" ++
    codes "2 C 1 tk_sta_alm 0\n" ++
    codes "3 C 1 tk_cre_cyc 1\n" ++
    codes "4 C 1 tk_def_int 0\n" ++
    codes "5 C 1 tk_def_int 0\n" ++
    codes "6 S 1 on\n" ++
    codes "7 K 1\n" ++
    codes "8 I alm 1\n" ++
    codes "9 S 0 1\n" ++
    codes "11 I cyc 1\n" ++
    codes "12 S 0 1\n" ++
    codes "14 K 2\n" ++
    codes "15 I int 2\n" ++
    codes "16 S 0 2\n" ++
    codes "18 I int 2\n" ++
    codes "19 S 0 2\n" ++
    codes "21 K 3\n" ++
    codes "22 I int 9\n" ++
    codes "23 S 0 9\n" ++
    codes "25 S 1 off\n" ++
    codes "26 END halt\n" ++
    []

order_of_starts_run : text_of_lines (lines_of (trace order_of_starts_script modes.Free 100000 order_of_starts_entries)) ≡ order_of_starts_lines
unfolding order_of_starts_script order_of_starts_entries order_of_starts_lines text_of form_of named made task_call_name sem_flag_call_name mutex_call_name mail_call_name pool_call_name time_call_name context_call_name device_call_name hook_call_name name_of code_of error_text coded error_named attributes_of flag_mode_of open_mode_of suspend_mode_of is_name_byte name_at_most why_text value_text words_of text_of_line text_of_lines fetch give call_before create_sem create_flag end_first delete_sem delete_flag refer_sem refer_flag signal_sem set_flag clear_flag wait_sem wait_flag sem_flag_call serve_sem serve_flag first_served serve_sem_flag sem_trial flag_trial chosen free_task create_task delete_task start_task exit_task terminate_task change_priority rotate_ready get_task refer_task sleep delay wake_up cancel_wakeups release_wait suspend_task resume_task task_call mark_of allowed free_from first_serving serve_box serve_mailboxes serve_buffer serve_buffers post create_box delete_box send_box receive_box refer_box create_buffer delete_buffer send_buffer receive_buffer refer_buffer mail_call create_mutex lock_mutex unlock_mutex refer_mutex delete_mutex mutex_call change_priority_beside task_call_beside chain_has current_of resettle free_last ceiling_allows serve_mutex serve_mutexes create_fixed delete_fixed get_fixed release_fixed refer_fixed create_variable delete_variable get_variable release_variable refer_variable pool_call first_free serve_fixed serve_fixed_pools serve_variable serve_variable_pools set_time get_time get_operating_time create_cyclic start_cyclic stop_cyclic delete_cyclic refer_cyclic create_alarm start_alarm stop_alarm delete_alarm refer_alarm time_call body_of next_due again define_handler disable_dispatch enable_dispatch disable_interrupts enable_interrupts refer_system define_service refer_service enter_service context_call left list_existing list_ready list_queue set_hook hook_call open_device refer_device request request_whole wait_ending close_device suspend_devices device_call expected arrive hand_over hand_first messages emptied read_bytes write_bytes accept picked serve_acceptance serve_acceptances serve_ending serve_endings is_with_driver serve_close serve_closes serve_suspension events_sent free_descriptor free_request first_queued at_driver accepted dropped handed asked devices_start block is_last blocks unit cut may_cut arrived entered returned body_returned family_call answered called follow_release follow_each with_releases dispatched followed insert_once with_requests handler_begun due_begun interrupt_begun served_within settle freed_within fallen due_done tick state_after worked counted step sync_runs sync_run entered_2 runs start trace acted ran turn_of done_turn first_serving_2 serve_object state_start digits
order_of_starts_run = refl

-- A task that is preempted by what a handler made ready keeps its place before its equals. One that a handler suspends is the current
-- one no more: resumed, it stands last, and is dispatched anew, also where it is alone.
place_of_the_preempted_script : Script
place_of_the_preempted_script = record {
  devices = [];
  pace = None;
  irqs = record { step = 8; number = 1 } ∷ record { step = 16; number = 2 } ∷ record { step = 27; number = 2 } ∷ record { step = 36; number = 3 } ∷ record { step = 40; number = 4 } ∷ [];
  boot = record { body = 1; priority = 10 };
  bodies =
      record {
        name = codes "main";
        kind = kinds.Task;
        labels = [];
        stmts =
            stmts.Call names.TkDefInt (args.Number (pos 1) ∷ args.Body 4 ∷ []) ∷
            stmts.Call names.TkDefInt (args.Number (pos 2) ∷ args.Body 5 ∷ []) ∷
            stmts.Call names.TkDefInt (args.Number (pos 3) ∷ args.Body 6 ∷ []) ∷
            stmts.Call names.TkDefInt (args.Number (pos 4) ∷ args.Body 7 ∷ []) ∷
            stmts.Call names.TkCreTsk (args.List 0 ∷ args.Body 2 ∷ args.Number (pos 10) ∷ args.Number (pos 512) ∷ []) ∷
            stmts.Call names.TkCreTsk (args.List 0 ∷ args.Body 3 ∷ args.Number (pos 5) ∷ args.Number (pos 512) ∷ []) ∷
            stmts.Call names.TkStaTsk (args.Number (pos 2) ∷ args.Number (pos 0) ∷ []) ∷
            stmts.Say (codes "a") ∷
            stmts.Say (codes "b") ∷
            stmts.Say (codes "c") ∷
            stmts.Say (codes "d") ∷
            [];
      } ∷
      record {
        name = codes "work";
        kind = kinds.Task;
        labels = [];
        stmts =
            stmts.Say (codes "w") ∷
            [];
      } ∷
      record {
        name = codes "high";
        kind = kinds.Task;
        labels = [];
        stmts =
            stmts.Say (codes "h") ∷
            [];
      } ∷
      record {
        name = codes "up";
        kind = kinds.Hand;
        labels = [];
        stmts =
            stmts.Call names.TkStaTsk (args.Number (pos 3) ∷ args.Number (pos 0) ∷ []) ∷
            stmts.Call names.TkRefTsk (args.Number (pos 1) ∷ []) ∷
            stmts.Call names.TkRefSys ([]) ∷
            stmts.Return (operands.Number (negsuc 0)) ∷
            [];
      } ∷
      record {
        name = codes "sus";
        kind = kinds.Hand;
        labels = [];
        stmts =
            stmts.Call names.TkSusTsk (args.Number (pos 1) ∷ []) ∷
            stmts.Call names.TkRefSys ([]) ∷
            stmts.Call names.TkGetTid ([]) ∷
            stmts.Call names.TkRotRdq (args.Number (pos 0) ∷ []) ∷
            stmts.Call names.TkRsmTsk (args.Number (pos 1) ∷ []) ∷
            stmts.Call names.TkRefTsk (args.Number (pos 1) ∷ []) ∷
            [];
      } ∷
      record {
        name = codes "off";
        kind = kinds.Hand;
        labels = [];
        stmts =
            stmts.Call names.TkSusTsk (args.Number (pos 1) ∷ []) ∷
            [];
      } ∷
      record {
        name = codes "on";
        kind = kinds.Hand;
        labels = [];
        stmts =
            stmts.Call names.TkRsmTsk (args.Number (pos 1) ∷ []) ∷
            [];
      } ∷
      [];
}

place_of_the_preempted_entries : List Entry
place_of_the_preempted_entries = []

place_of_the_preempted_lines : List ℕ
place_of_the_preempted_lines =
    codes "0 D 1\n" ++
    codes "1 C 1 tk_def_int 0\n" ++
    codes "2 C 1 tk_def_int 0\n" ++
    codes "3 C 1 tk_def_int 0\n" ++
    codes "4 C 1 tk_def_int 0\n" ++
    codes "5 C 1 tk_cre_tsk 2\n" ++
    codes "6 C 1 tk_cre_tsk 3\n" ++
    codes "7 C 1 tk_sta_tsk 0\n" ++
    codes "8 I int 1\n" ++
    codes "9 C 0 tk_sta_tsk 0\n" ++
    codes "10 C 0 tk_ref_tsk 0 1 10 10 0 0\n" ++
    codes "11 C 0 tk_ref_sys 0 3 1 3\n" ++
    codes "12 D 3\n" ++
    codes "13 S 3 h\n" ++
    codes "14 C 3 tk_ext_tsk 0\n" ++
    codes "14 D 1\n" ++
    codes "15 S 1 a\n" ++
    codes "16 I int 2\n" ++
    codes "17 C 0 tk_sus_tsk 0\n" ++
    codes "18 C 0 tk_ref_sys 0 3 0 2\n" ++
    codes "19 C 0 tk_get_tid 0\n" ++
    codes "20 C 0 tk_rot_rdq 0\n" ++
    codes "21 C 0 tk_rsm_tsk 0\n" ++
    codes "22 C 0 tk_ref_tsk 0 2 10 10 0 0\n" ++
    codes "23 D 2\n" ++
    codes "24 S 2 w\n" ++
    codes "25 C 2 tk_ext_tsk 0\n" ++
    codes "25 D 1\n" ++
    codes "26 S 1 b\n" ++
    codes "27 I int 2\n" ++
    codes "28 C 0 tk_sus_tsk 0\n" ++
    codes "29 C 0 tk_ref_sys 0 3 0 0\n" ++
    codes "30 C 0 tk_get_tid 0\n" ++
    codes "31 C 0 tk_rot_rdq 0\n" ++
    codes "32 C 0 tk_rsm_tsk 0\n" ++
    codes "33 C 0 tk_ref_tsk 0 2 10 10 0 0\n" ++
    codes "34 D 1\n" ++
    codes "35 S 1 c\n" ++
    codes "36 I int 3\n" ++
    codes "37 C 0 tk_sus_tsk 0\n" ++
    codes "38 D 0\n" ++
    codes "39 K 1\n" ++
    codes "40 I int 4\n" ++
    codes "41 C 0 tk_rsm_tsk 0\n" ++
    codes "42 D 1\n" ++
    codes "43 S 1 d\n" ++
    codes "44 C 1 tk_ext_tsk 0\n" ++
    codes "44 D 0\n" ++
    codes "44 END idle\n" ++
    []

place_of_the_preempted_run : text_of_lines (lines_of (trace place_of_the_preempted_script modes.Free 100000 place_of_the_preempted_entries)) ≡ place_of_the_preempted_lines
unfolding place_of_the_preempted_script place_of_the_preempted_entries place_of_the_preempted_lines text_of form_of named made task_call_name sem_flag_call_name mutex_call_name mail_call_name pool_call_name time_call_name context_call_name device_call_name hook_call_name name_of code_of error_text coded error_named attributes_of flag_mode_of open_mode_of suspend_mode_of is_name_byte name_at_most why_text value_text words_of text_of_line text_of_lines fetch give call_before create_sem create_flag end_first delete_sem delete_flag refer_sem refer_flag signal_sem set_flag clear_flag wait_sem wait_flag sem_flag_call serve_sem serve_flag first_served serve_sem_flag sem_trial flag_trial chosen free_task create_task delete_task start_task exit_task terminate_task change_priority rotate_ready get_task refer_task sleep delay wake_up cancel_wakeups release_wait suspend_task resume_task task_call mark_of allowed free_from first_serving serve_box serve_mailboxes serve_buffer serve_buffers post create_box delete_box send_box receive_box refer_box create_buffer delete_buffer send_buffer receive_buffer refer_buffer mail_call create_mutex lock_mutex unlock_mutex refer_mutex delete_mutex mutex_call change_priority_beside task_call_beside chain_has current_of resettle free_last ceiling_allows serve_mutex serve_mutexes create_fixed delete_fixed get_fixed release_fixed refer_fixed create_variable delete_variable get_variable release_variable refer_variable pool_call first_free serve_fixed serve_fixed_pools serve_variable serve_variable_pools set_time get_time get_operating_time create_cyclic start_cyclic stop_cyclic delete_cyclic refer_cyclic create_alarm start_alarm stop_alarm delete_alarm refer_alarm time_call body_of next_due again define_handler disable_dispatch enable_dispatch disable_interrupts enable_interrupts refer_system define_service refer_service enter_service context_call left list_existing list_ready list_queue set_hook hook_call open_device refer_device request request_whole wait_ending close_device suspend_devices device_call expected arrive hand_over hand_first messages emptied read_bytes write_bytes accept picked serve_acceptance serve_acceptances serve_ending serve_endings is_with_driver serve_close serve_closes serve_suspension events_sent free_descriptor free_request first_queued at_driver accepted dropped handed asked devices_start block is_last blocks unit cut may_cut arrived entered returned body_returned family_call answered called follow_release follow_each with_releases dispatched followed insert_once with_requests handler_begun due_begun interrupt_begun served_within settle freed_within fallen due_done tick state_after worked counted step sync_runs sync_run entered_2 runs start trace acted ran turn_of done_turn first_serving_2 serve_object state_start digits
place_of_the_preempted_run = refl

-- A handler may not call what could wait, also where it would only ask, nor what belongs to a task; 0 names no task there.
-- A wrong ID or number is looked for before the context, and a missing object behind it.
refused_in_a_handler_script : Script
refused_in_a_handler_script = record {
  devices = [];
  pace = None;
  irqs = record { step = 2; number = 1 } ∷ [];
  boot = record { body = 1; priority = 10 };
  bodies =
      record {
        name = codes "main";
        kind = kinds.Task;
        labels = [];
        stmts =
            stmts.Call names.TkDefInt (args.Number (pos 1) ∷ args.Body 2 ∷ []) ∷
            stmts.Say (codes "on") ∷
            [];
      } ∷
      record {
        name = codes "h";
        kind = kinds.Hand;
        labels = [];
        stmts =
            stmts.Call names.TkSlpTsk (args.Number (pos 0) ∷ []) ∷
            stmts.Call names.TkDlyTsk (args.Number (pos 0) ∷ []) ∷
            stmts.Call names.TkWaiSem (args.Number (pos 1) ∷ args.Number (pos 1) ∷ args.Number (pos 0) ∷ []) ∷
            stmts.Call names.TkWaiFlg (args.Number (pos 1) ∷ args.Number (pos 1) ∷ args.List 2 ∷ args.Number (pos 0) ∷ []) ∷
            stmts.Call names.TkLocMtx (args.Number (pos 1) ∷ args.Number (pos 0) ∷ []) ∷
            stmts.Call names.TkUnlMtx (args.Number (pos 1) ∷ []) ∷
            stmts.Call names.TkRcvMbx (args.Number (pos 1) ∷ args.Number (pos 0) ∷ []) ∷
            stmts.Call names.TkSndMbf (args.Number (pos 1) ∷ args.Number (pos 0) ∷ args.Number (pos 4) ∷ args.Number (pos 0) ∷ []) ∷
            stmts.Call names.TkRcvMbf (args.Number (pos 1) ∷ args.Number (pos 0) ∷ args.Number (pos 0) ∷ []) ∷
            stmts.Call names.TkGetMpf (args.Number (pos 1) ∷ args.Number (pos 0) ∷ []) ∷
            stmts.Call names.TkGetMpl (args.Number (pos 1) ∷ args.Number (pos 8) ∷ args.Number (pos 0) ∷ []) ∷
            stmts.Call names.TkReaDev (args.Number (pos 1) ∷ args.Number (pos 0) ∷ args.Number (pos 0) ∷ args.Number (pos 4) ∷ args.Number (pos 0) ∷ []) ∷
            stmts.Call names.TkWriDev (args.Number (pos 1) ∷ args.Number (pos 0) ∷ args.Number (pos 0) ∷ args.Number (pos 4) ∷ args.Number (pos 0) ∷ []) ∷
            stmts.Call names.TkSreaDev (args.Number (pos 1) ∷ args.Number (pos 0) ∷ args.Number (pos 0) ∷ args.Number (pos 4) ∷ []) ∷
            stmts.Call names.TkSwriDev (args.Number (pos 1) ∷ args.Number (pos 0) ∷ args.Number (pos 0) ∷ args.Number (pos 4) ∷ []) ∷
            stmts.Call names.TkWaiDev (args.Number (pos 1) ∷ args.Number (pos 0) ∷ args.Number (pos 0) ∷ []) ∷
            stmts.Call names.TkClsDev (args.Number (pos 1) ∷ []) ∷
            stmts.Call names.TkSusDev (args.List 8 ∷ []) ∷
            stmts.Call names.TkDisDsp ([]) ∷
            stmts.Call names.TkEnaDsp ([]) ∷
            stmts.Call names.Di ([]) ∷
            stmts.Call names.Ei ([]) ∷
            stmts.Call names.Svc (args.Number (pos 1) ∷ args.Number (pos 0) ∷ []) ∷
            stmts.Call names.TkChgPri (args.Number (pos 0) ∷ args.Number (pos 5) ∷ []) ∷
            stmts.Call names.TkRefTsk (args.Number (pos 0) ∷ []) ∷
            stmts.Call names.TkCanWup (args.Number (pos 0) ∷ []) ∷
            stmts.Call names.TkWupTsk (args.Number (pos 0) ∷ []) ∷
            stmts.Call names.TkWaiSem (args.Number (pos 65) ∷ args.Number (pos 1) ∷ args.Number (pos 0) ∷ []) ∷
            stmts.Call names.TkUnlMtx (args.Number (pos 0) ∷ []) ∷
            stmts.Call names.TkSlpTsk (args.Number (negsuc 1) ∷ []) ∷
            stmts.Call names.TkDlyTsk (args.Number (negsuc 0) ∷ []) ∷
            stmts.Call names.TkWupTsk (args.Number (pos 1) ∷ []) ∷
            stmts.Call names.TkCanWup (args.Number (pos 1) ∷ []) ∷
            stmts.Call names.TkRelWai (args.Number (pos 1) ∷ []) ∷
            stmts.Call names.TkRelWai (args.Number (pos 2) ∷ []) ∷
            [];
      } ∷
      [];
}

refused_in_a_handler_entries : List Entry
refused_in_a_handler_entries = []

refused_in_a_handler_lines : List ℕ
refused_in_a_handler_lines =
    codes "0 D 1\n" ++
    codes "1 C 1 tk_def_int 0\n" ++
    codes "2 I int 1\n" ++
    codes "3 C 0 tk_slp_tsk E_CTX\n" ++
    codes "4 C 0 tk_dly_tsk E_CTX\n" ++
    codes "5 C 0 tk_wai_sem E_CTX\n" ++
    codes "6 C 0 tk_wai_flg E_CTX\n" ++
    codes "7 C 0 tk_loc_mtx E_CTX\n" ++
    codes "8 C 0 tk_unl_mtx E_CTX\n" ++
    codes "9 C 0 tk_rcv_mbx E_CTX\n" ++
    codes "10 C 0 tk_snd_mbf E_CTX\n" ++
    codes "11 C 0 tk_rcv_mbf E_CTX\n" ++
    codes "12 C 0 tk_get_mpf E_CTX\n" ++
    codes "13 C 0 tk_get_mpl E_CTX\n" ++
    codes "14 C 0 tk_rea_dev E_CTX\n" ++
    codes "15 C 0 tk_wri_dev E_CTX\n" ++
    codes "16 C 0 tk_srea_dev E_CTX\n" ++
    codes "17 C 0 tk_swri_dev E_CTX\n" ++
    codes "18 C 0 tk_wai_dev E_CTX\n" ++
    codes "19 C 0 tk_cls_dev E_CTX\n" ++
    codes "20 C 0 tk_sus_dev E_CTX\n" ++
    codes "21 C 0 tk_dis_dsp E_CTX\n" ++
    codes "22 C 0 tk_ena_dsp E_CTX\n" ++
    codes "23 C 0 DI E_CTX\n" ++
    codes "24 C 0 EI E_CTX\n" ++
    codes "25 C 0 svc E_CTX\n" ++
    codes "26 C 0 tk_chg_pri E_ID\n" ++
    codes "27 C 0 tk_ref_tsk E_ID\n" ++
    codes "28 C 0 tk_can_wup E_ID\n" ++
    codes "29 C 0 tk_wup_tsk E_ID\n" ++
    codes "30 C 0 tk_wai_sem E_ID\n" ++
    codes "31 C 0 tk_unl_mtx E_ID\n" ++
    codes "32 C 0 tk_slp_tsk E_PAR\n" ++
    codes "33 C 0 tk_dly_tsk E_PAR\n" ++
    codes "34 C 0 tk_wup_tsk 0\n" ++
    codes "35 C 0 tk_can_wup 1\n" ++
    codes "36 C 0 tk_rel_wai E_OBJ\n" ++
    codes "37 C 0 tk_rel_wai E_NOEXS\n" ++
    codes "39 S 1 on\n" ++
    codes "40 C 1 tk_ext_tsk 0\n" ++
    codes "40 D 0\n" ++
    codes "40 END idle\n" ++
    []

refused_in_a_handler_run : text_of_lines (lines_of (trace refused_in_a_handler_script modes.Free 100000 refused_in_a_handler_entries)) ≡ refused_in_a_handler_lines
unfolding refused_in_a_handler_script refused_in_a_handler_entries refused_in_a_handler_lines text_of form_of named made task_call_name sem_flag_call_name mutex_call_name mail_call_name pool_call_name time_call_name context_call_name device_call_name hook_call_name name_of code_of error_text coded error_named attributes_of flag_mode_of open_mode_of suspend_mode_of is_name_byte name_at_most why_text value_text words_of text_of_line text_of_lines fetch give call_before create_sem create_flag end_first delete_sem delete_flag refer_sem refer_flag signal_sem set_flag clear_flag wait_sem wait_flag sem_flag_call serve_sem serve_flag first_served serve_sem_flag sem_trial flag_trial chosen free_task create_task delete_task start_task exit_task terminate_task change_priority rotate_ready get_task refer_task sleep delay wake_up cancel_wakeups release_wait suspend_task resume_task task_call mark_of allowed free_from first_serving serve_box serve_mailboxes serve_buffer serve_buffers post create_box delete_box send_box receive_box refer_box create_buffer delete_buffer send_buffer receive_buffer refer_buffer mail_call create_mutex lock_mutex unlock_mutex refer_mutex delete_mutex mutex_call change_priority_beside task_call_beside chain_has current_of resettle free_last ceiling_allows serve_mutex serve_mutexes create_fixed delete_fixed get_fixed release_fixed refer_fixed create_variable delete_variable get_variable release_variable refer_variable pool_call first_free serve_fixed serve_fixed_pools serve_variable serve_variable_pools set_time get_time get_operating_time create_cyclic start_cyclic stop_cyclic delete_cyclic refer_cyclic create_alarm start_alarm stop_alarm delete_alarm refer_alarm time_call body_of next_due again define_handler disable_dispatch enable_dispatch disable_interrupts enable_interrupts refer_system define_service refer_service enter_service context_call left list_existing list_ready list_queue set_hook hook_call open_device refer_device request request_whole wait_ending close_device suspend_devices device_call expected arrive hand_over hand_first messages emptied read_bytes write_bytes accept picked serve_acceptance serve_acceptances serve_ending serve_endings is_with_driver serve_close serve_closes serve_suspension events_sent free_descriptor free_request first_queued at_driver accepted dropped handed asked devices_start block is_last blocks unit cut may_cut arrived entered returned body_returned family_call answered called follow_release follow_each with_releases dispatched followed insert_once with_requests handler_begun due_begun interrupt_begun served_within settle freed_within fallen due_done tick state_after worked counted step sync_runs sync_run entered_2 runs start trace acted ran turn_of done_turn first_serving_2 serve_object state_start digits
refused_in_a_handler_run = refl

-- A handler rotates the ready tasks while dispatching waits for its end.
rotation_by_a_handler_script : Script
rotation_by_a_handler_script = record {
  devices = [];
  pace = None;
  irqs = record { step = 6; number = 1 } ∷ [];
  boot = record { body = 1; priority = 10 };
  bodies =
      record {
        name = codes "main";
        kind = kinds.Task;
        labels = [];
        stmts =
            stmts.Call names.TkRotRdq (args.Number (pos 20) ∷ []) ∷
            stmts.Call names.TkRotRdq (args.Number (pos 10) ∷ []) ∷
            stmts.Call names.TkDefInt (args.Number (pos 1) ∷ args.Body 3 ∷ []) ∷
            stmts.Call names.TkCreTsk (args.List 0 ∷ args.Body 2 ∷ args.Number (pos 10) ∷ args.Number (pos 512) ∷ []) ∷
            stmts.Call names.TkStaTsk (args.Number (pos 2) ∷ args.Number (pos 0) ∷ []) ∷
            stmts.Say (codes "on") ∷
            [];
      } ∷
      record {
        name = codes "work";
        kind = kinds.Task;
        labels = [];
        stmts =
            stmts.Say (codes "w") ∷
            [];
      } ∷
      record {
        name = codes "turn";
        kind = kinds.Hand;
        labels = [];
        stmts =
            stmts.Call names.TkRotRdq (args.Number (pos 0) ∷ []) ∷
            [];
      } ∷
      [];
}

rotation_by_a_handler_entries : List Entry
rotation_by_a_handler_entries = []

rotation_by_a_handler_lines : List ℕ
rotation_by_a_handler_lines =
    codes "0 D 1\n" ++
    codes "1 C 1 tk_rot_rdq 0\n" ++
    codes "2 C 1 tk_rot_rdq 0\n" ++
    codes "3 C 1 tk_def_int 0\n" ++
    codes "4 C 1 tk_cre_tsk 2\n" ++
    codes "5 C 1 tk_sta_tsk 0\n" ++
    codes "6 I int 1\n" ++
    codes "7 C 0 tk_rot_rdq 0\n" ++
    codes "8 D 2\n" ++
    codes "9 S 2 w\n" ++
    codes "10 C 2 tk_ext_tsk 0\n" ++
    codes "10 D 1\n" ++
    codes "11 S 1 on\n" ++
    codes "12 C 1 tk_ext_tsk 0\n" ++
    codes "12 D 0\n" ++
    codes "12 END idle\n" ++
    []

rotation_by_a_handler_run : text_of_lines (lines_of (trace rotation_by_a_handler_script modes.Free 100000 rotation_by_a_handler_entries)) ≡ rotation_by_a_handler_lines
unfolding rotation_by_a_handler_script rotation_by_a_handler_entries rotation_by_a_handler_lines text_of form_of named made task_call_name sem_flag_call_name mutex_call_name mail_call_name pool_call_name time_call_name context_call_name device_call_name hook_call_name name_of code_of error_text coded error_named attributes_of flag_mode_of open_mode_of suspend_mode_of is_name_byte name_at_most why_text value_text words_of text_of_line text_of_lines fetch give call_before create_sem create_flag end_first delete_sem delete_flag refer_sem refer_flag signal_sem set_flag clear_flag wait_sem wait_flag sem_flag_call serve_sem serve_flag first_served serve_sem_flag sem_trial flag_trial chosen free_task create_task delete_task start_task exit_task terminate_task change_priority rotate_ready get_task refer_task sleep delay wake_up cancel_wakeups release_wait suspend_task resume_task task_call mark_of allowed free_from first_serving serve_box serve_mailboxes serve_buffer serve_buffers post create_box delete_box send_box receive_box refer_box create_buffer delete_buffer send_buffer receive_buffer refer_buffer mail_call create_mutex lock_mutex unlock_mutex refer_mutex delete_mutex mutex_call change_priority_beside task_call_beside chain_has current_of resettle free_last ceiling_allows serve_mutex serve_mutexes create_fixed delete_fixed get_fixed release_fixed refer_fixed create_variable delete_variable get_variable release_variable refer_variable pool_call first_free serve_fixed serve_fixed_pools serve_variable serve_variable_pools set_time get_time get_operating_time create_cyclic start_cyclic stop_cyclic delete_cyclic refer_cyclic create_alarm start_alarm stop_alarm delete_alarm refer_alarm time_call body_of next_due again define_handler disable_dispatch enable_dispatch disable_interrupts enable_interrupts refer_system define_service refer_service enter_service context_call left list_existing list_ready list_queue set_hook hook_call open_device refer_device request request_whole wait_ending close_device suspend_devices device_call expected arrive hand_over hand_first messages emptied read_bytes write_bytes accept picked serve_acceptance serve_acceptances serve_ending serve_endings is_with_driver serve_close serve_closes serve_suspension events_sent free_descriptor free_request first_queued at_driver accepted dropped handed asked devices_start block is_last blocks unit cut may_cut arrived entered returned body_returned family_call answered called follow_release follow_each with_releases dispatched followed insert_once with_requests handler_begun due_begun interrupt_begun served_within settle freed_within fallen due_done tick state_after worked counted step sync_runs sync_run entered_2 runs start trace acted ran turn_of done_turn first_serving_2 serve_object state_start digits
rotation_by_a_handler_run = refl

-- Interrupts and ticks wait while interrupts are disabled; the tick comes first, and each number is kept once.
waiting_under_di_script : Script
waiting_under_di_script = record {
  devices = [];
  pace = Some 4;
  irqs = record { step = 3; number = 1 } ∷ record { step = 4; number = 1 } ∷ [];
  boot = record { body = 1; priority = 10 };
  bodies =
      record {
        name = codes "main";
        kind = kinds.Task;
        labels = [];
        stmts =
            stmts.Call names.TkDefInt (args.Number (pos 1) ∷ args.Body 2 ∷ []) ∷
            stmts.Call names.Di ([]) ∷
            stmts.Say (codes "a") ∷
            stmts.Say (codes "b") ∷
            stmts.Call names.Ei ([]) ∷
            stmts.Say (codes "c") ∷
            [];
      } ∷
      record {
        name = codes "h";
        kind = kinds.Hand;
        labels = [];
        stmts =
            stmts.Say (codes "in") ∷
            [];
      } ∷
      [];
}

waiting_under_di_entries : List Entry
waiting_under_di_entries = []

waiting_under_di_lines : List ℕ
waiting_under_di_lines =
    codes "0 D 1\n" ++
    codes "1 C 1 tk_def_int 0\n" ++
    codes "2 C 1 DI 0\n" ++
    codes "3 S 1 a\n" ++
    codes "4 S 1 b\n" ++
    codes "5 C 1 EI 0\n" ++
    codes "6 K 1\n" ++
    codes "7 I int 1\n" ++
    codes "8 S 0 in\n" ++
    codes "10 K 2\n" ++
    codes "11 S 1 c\n" ++
    codes "12 K 3\n" ++
    codes "13 C 1 tk_ext_tsk 0\n" ++
    codes "13 D 0\n" ++
    codes "13 END idle\n" ++
    []

waiting_under_di_run : text_of_lines (lines_of (trace waiting_under_di_script modes.Free 100000 waiting_under_di_entries)) ≡ waiting_under_di_lines
unfolding waiting_under_di_script waiting_under_di_entries waiting_under_di_lines text_of form_of named made task_call_name sem_flag_call_name mutex_call_name mail_call_name pool_call_name time_call_name context_call_name device_call_name hook_call_name name_of code_of error_text coded error_named attributes_of flag_mode_of open_mode_of suspend_mode_of is_name_byte name_at_most why_text value_text words_of text_of_line text_of_lines fetch give call_before create_sem create_flag end_first delete_sem delete_flag refer_sem refer_flag signal_sem set_flag clear_flag wait_sem wait_flag sem_flag_call serve_sem serve_flag first_served serve_sem_flag sem_trial flag_trial chosen free_task create_task delete_task start_task exit_task terminate_task change_priority rotate_ready get_task refer_task sleep delay wake_up cancel_wakeups release_wait suspend_task resume_task task_call mark_of allowed free_from first_serving serve_box serve_mailboxes serve_buffer serve_buffers post create_box delete_box send_box receive_box refer_box create_buffer delete_buffer send_buffer receive_buffer refer_buffer mail_call create_mutex lock_mutex unlock_mutex refer_mutex delete_mutex mutex_call change_priority_beside task_call_beside chain_has current_of resettle free_last ceiling_allows serve_mutex serve_mutexes create_fixed delete_fixed get_fixed release_fixed refer_fixed create_variable delete_variable get_variable release_variable refer_variable pool_call first_free serve_fixed serve_fixed_pools serve_variable serve_variable_pools set_time get_time get_operating_time create_cyclic start_cyclic stop_cyclic delete_cyclic refer_cyclic create_alarm start_alarm stop_alarm delete_alarm refer_alarm time_call body_of next_due again define_handler disable_dispatch enable_dispatch disable_interrupts enable_interrupts refer_system define_service refer_service enter_service context_call left list_existing list_ready list_queue set_hook hook_call open_device refer_device request request_whole wait_ending close_device suspend_devices device_call expected arrive hand_over hand_first messages emptied read_bytes write_bytes accept picked serve_acceptance serve_acceptances serve_ending serve_endings is_with_driver serve_close serve_closes serve_suspension events_sent free_descriptor free_request first_queued at_driver accepted dropped handed asked devices_start block is_last blocks unit cut may_cut arrived entered returned body_returned family_call answered called follow_release follow_each with_releases dispatched followed insert_once with_requests handler_begun due_begun interrupt_begun served_within settle freed_within fallen due_done tick state_after worked counted step sync_runs sync_run entered_2 runs start trace acted ran turn_of done_turn first_serving_2 serve_object state_start digits
waiting_under_di_run = refl
