-- Worlds that were worked out by hand from the rules: a script, a list of steps, and what has come of them. Each is a theorem by
-- computation.
use Rattle.std.specs.Prelude.{true, false, pos, negsuc, List, [], ◌∷◌, Some, None, codes, ◌≡◌, refl}
use Rattle.tk_types.specs.declared.error_code.Er.TheVariants as er
use Rattle.tk_types.specs.declared.script.Script.{Script}
use Rattle.tk_types.specs.declared.script.BodyKind.TheVariants as kinds
use Rattle.tk_types.specs.declared.script.Kind.TheVariants as devices
use Rattle.tk_types.specs.declared.script.Stmt.TheVariants as stmts
use Rattle.tk_types.specs.declared.script.Operand.TheVariants as operands
use Rattle.tk_types.specs.declared.script.Arg.TheVariants as args
use Rattle.tk_types.specs.declared.call_name.CallName.TheVariants as names
use Rattle.tk_types.specs.declared.line.How.TheVariants as hows
use Rattle.tk_types.specs.declared.run.End.TheVariants as ends
use Rattle.tk_types.specs.declared.run.Mode.TheVariants as modes
use Rattle.device_model.specs.declared.rows.Life.TheVariants as lives
use Rattle.world_model.specs.Worlds as steps
use Rattle.world_model.specs.Worlds.{Step, world_after}
use Rattle.world_runs.specs.Seen.{Abort, Seen, Serve, seen}
-- the words of the definitions
use Rattle.tk_types.specs.CallNames.{text_of, form_of, named}
use Rattle.tk_types.specs.Calls.{made, task_call_name, sem_flag_call_name, mutex_call_name, mail_call_name, pool_call_name, time_call_name, context_call_name, device_call_name, hook_call_name, name_of}
use Rattle.tk_types.specs.Codes.{code_of, error_text, coded, error_named}
use Rattle.tk_types.specs.Modes.{attributes_of, flag_mode_of, open_mode_of, suspend_mode_of}
use Rattle.tk_types.specs.Names.{is_name_byte, name_at_most}
use Rattle.tk_types.specs.Reasons.{why_text}
use Rattle.tk_model.specs.LineText.{value_text, words_of, text_of_line, text_of_lines}
use Rattle.kernel_model.specs.Bodies.Statements.{fetch, give, call_before}
use Rattle.kernel_model.specs.SemFlags.Calls.{create_sem, create_flag, end_first, delete_sem, delete_flag, refer_sem, refer_flag, signal_sem, set_flag, clear_flag, wait_sem, wait_flag, sem_flag_call}
use Rattle.kernel_model.specs.SemFlags.Tables.{serve_sem, serve_flag, first_served, serve_sem_flag}
use Rattle.kernel_model.specs.SemFlags.Trial.{sem_trial, flag_trial}
use Rattle.kernel_model.specs.Tasks.Base.{chosen, free_task}
use Rattle.kernel_model.specs.Tasks.Calls.{create_task, delete_task, start_task, exit_task, terminate_task, change_priority, rotate_ready, get_task, refer_task, sleep, delay, wake_up, cancel_wakeups, release_wait, suspend_task, resume_task, task_call}
use Rattle.kernel_model.specs.Tasks.Marks.{mark_of, allowed}
use Rattle.kernel_model.specs.Words.Orders.{free_from}
use Rattle.object_model.specs.Servings.{first_serving}
use Rattle.object_model.specs.Mails.Boxes.{serve_box, serve_mailboxes}
use Rattle.object_model.specs.Mails.Buffers.{serve_buffer, serve_buffers, post}
use Rattle.object_model.specs.Mails.Calls.{create_box, delete_box, send_box, receive_box, refer_box, create_buffer, delete_buffer, send_buffer, receive_buffer, refer_buffer, mail_call}
use Rattle.object_model.specs.Mutexes.Calls.{create_mutex, lock_mutex, unlock_mutex, refer_mutex, delete_mutex, mutex_call, change_priority_beside, task_call_beside}
use Rattle.object_model.specs.Mutexes.Priority.{chain_has, current_of, resettle}
use Rattle.object_model.specs.Mutexes.Tables.{free_last, ceiling_allows, serve_mutex, serve_mutexes}
use Rattle.object_model.specs.Pools.Calls.{create_fixed, delete_fixed, get_fixed, release_fixed, refer_fixed, create_variable, delete_variable, get_variable, release_variable, refer_variable, pool_call}
use Rattle.object_model.specs.Pools.Fixed.{first_free, serve_fixed, serve_fixed_pools}
use Rattle.object_model.specs.Pools.Variable.{serve_variable, serve_variable_pools}
use Rattle.context_model.specs.Clocks.Calls.{set_time, get_time, get_operating_time, create_cyclic, start_cyclic, stop_cyclic, delete_cyclic, refer_cyclic, create_alarm, start_alarm, stop_alarm, delete_alarm, refer_alarm, time_call}
use Rattle.context_model.specs.Clocks.Tables.{body_of, next_due, again}
use Rattle.context_model.specs.Contexts.Calls.{define_handler, disable_dispatch, enable_dispatch, disable_interrupts, enable_interrupts, refer_system, define_service, refer_service, enter_service, context_call}
use Rattle.context_model.specs.Contexts.Tables.{left}
use Rattle.context_model.specs.Hooks.Calls.{list_existing, list_ready, list_queue, set_hook, hook_call}
use Rattle.device_model.specs.Devices.Calls.{open_device, refer_device, request, request_whole, wait_ending, close_device, suspend_devices, device_call}
use Rattle.device_model.specs.Devices.Endings.{expected, arrive}
use Rattle.device_model.specs.Devices.Handing.{hand_over, hand_first, messages, emptied}
use Rattle.device_model.specs.Devices.Memory.{read_bytes, write_bytes}
use Rattle.device_model.specs.Devices.Requests.{accept, picked}
use Rattle.device_model.specs.Devices.Servings.{serve_acceptance, serve_acceptances, serve_ending, serve_endings, is_with_driver, serve_close, serve_closes, serve_suspension}
use Rattle.device_model.specs.Devices.Suspension.{events_sent}
use Rattle.device_model.specs.Devices.Tables.{free_descriptor, free_request, first_queued, at_driver, accepted, dropped, handed, asked, devices_start}
use Rattle.device_model.specs.Units.Blocks.{block, is_last, blocks}
use Rattle.device_model.specs.Units.Function.{unit, cut, may_cut}
use Rattle.machine_model.specs.Events.Arrivals.{arrived}
use Rattle.machine_model.specs.Events.Bodies.{entered, returned, body_returned}
use Rattle.machine_model.specs.Events.Calls.{family_call, answered, called}
use Rattle.machine_model.specs.Events.Follow.{follow_release, follow_each, with_releases, dispatched, followed}
use Rattle.machine_model.specs.Events.Handlers.{insert_once, with_requests, handler_begun, due_begun, interrupt_begun}
use Rattle.machine_model.specs.Events.Settle.{served_within, settle, freed_within}
use Rattle.machine_model.specs.Events.Ticks.{fallen, due_done, tick}
use Rattle.machine_model.specs.Runs.Reached.{state_after}
use Rattle.machine_model.specs.Runs.Step.{worked, counted, step}
use Rattle.machine_model.specs.Runs.SyncTrace.{sync_runs, sync_run}
use Rattle.machine_model.specs.Runs.Trace.{entered as entered_2, runs, start, trace}
use Rattle.machine_model.specs.Runs.Turns.{acted, ran, turn_of, done_turn}
use Rattle.machine_model.specs.States.Objects.{first_serving as first_serving_2, serve_object}
use Rattle.machine_model.specs.States.State.{state_start}
use Rattle.driver_model.specs.Cores.{can_take, after_message, after_block, ending_out, after_ending}
use Rattle.driver_model.specs.Drives.{driver_step, ran as ran_2}
use Rattle.world_model.specs.Roads.{joined, stops_joined, after_hand, after_abort, after_take, after_turn, after_end}
use Rattle.world_model.specs.Worlds.{world_start, after_kernel, after_arrive, stepped, all_stepped}

-- ---- a script

aborted_script : Script
aborted_script = record {
  devices = record { name = codes "d"; kind = devices.Ram 256 } ∷ [];
  pace = None;
  irqs = [];
  boot = record { body = 1; priority = 10 };
  bodies =
      record {
        name = codes "main";
        kind = kinds.Task;
        labels = [];
        stmts =
            stmts.Store (operands.Number (pos 0)) (operands.Number (pos 7)) ∷
            stmts.Call names.TkOpnDev (args.Name (codes "d") ∷ args.List 2 ∷ []) ∷
            stmts.Call names.TkWriDev (args.Number (pos 1) ∷ args.Number (pos 0) ∷ args.Number (pos 0) ∷ args.Number (pos 200) ∷ args.Number (negsuc 0) ∷ []) ∷
            stmts.Call names.TkClsDev (args.Number (pos 1) ∷ []) ∷
            [];
      } ∷
      [];
}

-- An Abort that is taken before the first block: nothing is moved.
abort_before_the_first_block_steps : List Step
abort_before_the_first_block_steps = steps.Kernel ∷ steps.Kernel ∷ steps.Kernel ∷ steps.Kernel ∷ steps.Hand 1 ∷ steps.Abort 1 ∷ steps.Take 1 ∷ steps.Take 1 ∷ steps.End 1 ∷ []

abort_before_the_first_block_seen : Seen
abort_before_the_first_block_seen = record {
  steps = 4;
  over = None;
  roads =
      Some (record { waiting = []; inbox = []; works = None; blocks = 0; stopped = false; outbox = record { device = 1; request = 1; number = 1; how = hows.Cut 0; size = 0; error = er.Abort; taken = 2; bytes = record { items = []; room = 0 } } ∷ []; holds = 0 ∷ 0 ∷ [] }) ∷
      [];
  known = Some (0 ∷ 0 ∷ []) ∷ [];
  lives = Some lives.AtDriver ∷ None ∷ None ∷ [];
  ended = [];
}

abort_before_the_first_block : seen (world_after aborted_script modes.Free 100 abort_before_the_first_block_steps) ≡ abort_before_the_first_block_seen
unfolding aborted_script abort_before_the_first_block_steps abort_before_the_first_block_seen text_of form_of named made task_call_name sem_flag_call_name mutex_call_name mail_call_name pool_call_name time_call_name context_call_name device_call_name hook_call_name name_of code_of error_text coded error_named attributes_of flag_mode_of open_mode_of suspend_mode_of is_name_byte name_at_most why_text value_text words_of text_of_line text_of_lines fetch give call_before create_sem create_flag end_first delete_sem delete_flag refer_sem refer_flag signal_sem set_flag clear_flag wait_sem wait_flag sem_flag_call serve_sem serve_flag first_served serve_sem_flag sem_trial flag_trial chosen free_task create_task delete_task start_task exit_task terminate_task change_priority rotate_ready get_task refer_task sleep delay wake_up cancel_wakeups release_wait suspend_task resume_task task_call mark_of allowed free_from first_serving serve_box serve_mailboxes serve_buffer serve_buffers post create_box delete_box send_box receive_box refer_box create_buffer delete_buffer send_buffer receive_buffer refer_buffer mail_call create_mutex lock_mutex unlock_mutex refer_mutex delete_mutex mutex_call change_priority_beside task_call_beside chain_has current_of resettle free_last ceiling_allows serve_mutex serve_mutexes create_fixed delete_fixed get_fixed release_fixed refer_fixed create_variable delete_variable get_variable release_variable refer_variable pool_call first_free serve_fixed serve_fixed_pools serve_variable serve_variable_pools set_time get_time get_operating_time create_cyclic start_cyclic stop_cyclic delete_cyclic refer_cyclic create_alarm start_alarm stop_alarm delete_alarm refer_alarm time_call body_of next_due again define_handler disable_dispatch enable_dispatch disable_interrupts enable_interrupts refer_system define_service refer_service enter_service context_call left list_existing list_ready list_queue set_hook hook_call open_device refer_device request request_whole wait_ending close_device suspend_devices device_call expected arrive hand_over hand_first messages emptied read_bytes write_bytes accept picked serve_acceptance serve_acceptances serve_ending serve_endings is_with_driver serve_close serve_closes serve_suspension events_sent free_descriptor free_request first_queued at_driver accepted dropped handed asked devices_start block is_last blocks unit cut may_cut arrived entered returned body_returned family_call answered called follow_release follow_each with_releases dispatched followed insert_once with_requests handler_begun due_begun interrupt_begun served_within settle freed_within fallen due_done tick state_after worked counted step sync_runs sync_run entered_2 runs start trace acted ran turn_of done_turn first_serving_2 serve_object state_start can_take after_message after_block ending_out after_ending driver_step ran_2 joined stops_joined after_hand after_abort after_take after_turn after_end world_start after_kernel after_arrive stepped all_stepped
abort_before_the_first_block = refl

-- The close that waited for it is over, its request is let go; then the machine ends, and the driver is stopped.
abort_arrived_steps : List Step
abort_arrived_steps = steps.Kernel ∷ steps.Kernel ∷ steps.Kernel ∷ steps.Kernel ∷ steps.Hand 1 ∷ steps.Abort 1 ∷ steps.Take 1 ∷ steps.Take 1 ∷ steps.End 1 ∷ steps.Arrive 1 ∷ steps.Kernel ∷ steps.Kernel ∷ steps.Hand 1 ∷ steps.Take 1 ∷ []

abort_arrived_seen : Seen
abort_arrived_seen = record {
  steps = 5;
  over = Some ends.Idle;
  roads =
      Some (record { waiting = []; inbox = []; works = None; blocks = 0; stopped = true; outbox = []; holds = 0 ∷ 0 ∷ [] }) ∷
      [];
  known = Some (0 ∷ 0 ∷ []) ∷ [];
  lives = None ∷ None ∷ None ∷ [];
  ended = [];
}

abort_arrived : seen (world_after aborted_script modes.Free 100 abort_arrived_steps) ≡ abort_arrived_seen
unfolding aborted_script abort_arrived_steps abort_arrived_seen text_of form_of named made task_call_name sem_flag_call_name mutex_call_name mail_call_name pool_call_name time_call_name context_call_name device_call_name hook_call_name name_of code_of error_text coded error_named attributes_of flag_mode_of open_mode_of suspend_mode_of is_name_byte name_at_most why_text value_text words_of text_of_line text_of_lines fetch give call_before create_sem create_flag end_first delete_sem delete_flag refer_sem refer_flag signal_sem set_flag clear_flag wait_sem wait_flag sem_flag_call serve_sem serve_flag first_served serve_sem_flag sem_trial flag_trial chosen free_task create_task delete_task start_task exit_task terminate_task change_priority rotate_ready get_task refer_task sleep delay wake_up cancel_wakeups release_wait suspend_task resume_task task_call mark_of allowed free_from first_serving serve_box serve_mailboxes serve_buffer serve_buffers post create_box delete_box send_box receive_box refer_box create_buffer delete_buffer send_buffer receive_buffer refer_buffer mail_call create_mutex lock_mutex unlock_mutex refer_mutex delete_mutex mutex_call change_priority_beside task_call_beside chain_has current_of resettle free_last ceiling_allows serve_mutex serve_mutexes create_fixed delete_fixed get_fixed release_fixed refer_fixed create_variable delete_variable get_variable release_variable refer_variable pool_call first_free serve_fixed serve_fixed_pools serve_variable serve_variable_pools set_time get_time get_operating_time create_cyclic start_cyclic stop_cyclic delete_cyclic refer_cyclic create_alarm start_alarm stop_alarm delete_alarm refer_alarm time_call body_of next_due again define_handler disable_dispatch enable_dispatch disable_interrupts enable_interrupts refer_system define_service refer_service enter_service context_call left list_existing list_ready list_queue set_hook hook_call open_device refer_device request request_whole wait_ending close_device suspend_devices device_call expected arrive hand_over hand_first messages emptied read_bytes write_bytes accept picked serve_acceptance serve_acceptances serve_ending serve_endings is_with_driver serve_close serve_closes serve_suspension events_sent free_descriptor free_request first_queued at_driver accepted dropped handed asked devices_start block is_last blocks unit cut may_cut arrived entered returned body_returned family_call answered called follow_release follow_each with_releases dispatched followed insert_once with_requests handler_begun due_begun interrupt_begun served_within settle freed_within fallen due_done tick state_after worked counted step sync_runs sync_run entered_2 runs start trace acted ran turn_of done_turn first_serving_2 serve_object state_start can_take after_message after_block ending_out after_ending driver_step ran_2 joined stops_joined after_hand after_abort after_take after_turn after_end world_start after_kernel after_arrive stepped all_stepped
abort_arrived = refl

-- An Abort that is taken after one block: 64 bytes were written.
abort_between_two_blocks_steps : List Step
abort_between_two_blocks_steps = steps.Kernel ∷ steps.Kernel ∷ steps.Kernel ∷ steps.Kernel ∷ steps.Hand 1 ∷ steps.Take 1 ∷ steps.Block 1 ∷ steps.Abort 1 ∷ steps.Take 1 ∷ steps.End 1 ∷ []

abort_between_two_blocks_seen : Seen
abort_between_two_blocks_seen = record {
  steps = 4;
  over = None;
  roads =
      Some (record { waiting = []; inbox = []; works = None; blocks = 0; stopped = false; outbox = record { device = 1; request = 1; number = 1; how = hows.Cut 64; size = 64; error = er.Abort; taken = 2; bytes = record { items = []; room = 0 } } ∷ []; holds = 7 ∷ 0 ∷ [] }) ∷
      [];
  known = Some (0 ∷ 0 ∷ []) ∷ [];
  lives = Some lives.AtDriver ∷ None ∷ None ∷ [];
  ended = [];
}

abort_between_two_blocks : seen (world_after aborted_script modes.Free 100 abort_between_two_blocks_steps) ≡ abort_between_two_blocks_seen
unfolding aborted_script abort_between_two_blocks_steps abort_between_two_blocks_seen text_of form_of named made task_call_name sem_flag_call_name mutex_call_name mail_call_name pool_call_name time_call_name context_call_name device_call_name hook_call_name name_of code_of error_text coded error_named attributes_of flag_mode_of open_mode_of suspend_mode_of is_name_byte name_at_most why_text value_text words_of text_of_line text_of_lines fetch give call_before create_sem create_flag end_first delete_sem delete_flag refer_sem refer_flag signal_sem set_flag clear_flag wait_sem wait_flag sem_flag_call serve_sem serve_flag first_served serve_sem_flag sem_trial flag_trial chosen free_task create_task delete_task start_task exit_task terminate_task change_priority rotate_ready get_task refer_task sleep delay wake_up cancel_wakeups release_wait suspend_task resume_task task_call mark_of allowed free_from first_serving serve_box serve_mailboxes serve_buffer serve_buffers post create_box delete_box send_box receive_box refer_box create_buffer delete_buffer send_buffer receive_buffer refer_buffer mail_call create_mutex lock_mutex unlock_mutex refer_mutex delete_mutex mutex_call change_priority_beside task_call_beside chain_has current_of resettle free_last ceiling_allows serve_mutex serve_mutexes create_fixed delete_fixed get_fixed release_fixed refer_fixed create_variable delete_variable get_variable release_variable refer_variable pool_call first_free serve_fixed serve_fixed_pools serve_variable serve_variable_pools set_time get_time get_operating_time create_cyclic start_cyclic stop_cyclic delete_cyclic refer_cyclic create_alarm start_alarm stop_alarm delete_alarm refer_alarm time_call body_of next_due again define_handler disable_dispatch enable_dispatch disable_interrupts enable_interrupts refer_system define_service refer_service enter_service context_call left list_existing list_ready list_queue set_hook hook_call open_device refer_device request request_whole wait_ending close_device suspend_devices device_call expected arrive hand_over hand_first messages emptied read_bytes write_bytes accept picked serve_acceptance serve_acceptances serve_ending serve_endings is_with_driver serve_close serve_closes serve_suspension events_sent free_descriptor free_request first_queued at_driver accepted dropped handed asked devices_start block is_last blocks unit cut may_cut arrived entered returned body_returned family_call answered called follow_release follow_each with_releases dispatched followed insert_once with_requests handler_begun due_begun interrupt_begun served_within settle freed_within fallen due_done tick state_after worked counted step sync_runs sync_run entered_2 runs start trace acted ran turn_of done_turn first_serving_2 serve_object state_start can_take after_message after_block ending_out after_ending driver_step ran_2 joined stops_joined after_hand after_abort after_take after_turn after_end world_start after_kernel after_arrive stepped all_stepped
abort_between_two_blocks = refl

-- The kernel knows the store by then.
abort_between_two_blocks_arrived_steps : List Step
abort_between_two_blocks_arrived_steps = steps.Kernel ∷ steps.Kernel ∷ steps.Kernel ∷ steps.Kernel ∷ steps.Hand 1 ∷ steps.Take 1 ∷ steps.Block 1 ∷ steps.Abort 1 ∷ steps.Take 1 ∷ steps.End 1 ∷ steps.Arrive 1 ∷ []

abort_between_two_blocks_arrived_seen : Seen
abort_between_two_blocks_arrived_seen = record {
  steps = 4;
  over = None;
  roads =
      Some (record { waiting = []; inbox = []; works = None; blocks = 0; stopped = false; outbox = []; holds = 7 ∷ 0 ∷ [] }) ∷
      [];
  known = Some (7 ∷ 0 ∷ []) ∷ [];
  lives = None ∷ None ∷ None ∷ [];
  ended = [];
}

abort_between_two_blocks_arrived : seen (world_after aborted_script modes.Free 100 abort_between_two_blocks_arrived_steps) ≡ abort_between_two_blocks_arrived_seen
unfolding aborted_script abort_between_two_blocks_arrived_steps abort_between_two_blocks_arrived_seen text_of form_of named made task_call_name sem_flag_call_name mutex_call_name mail_call_name pool_call_name time_call_name context_call_name device_call_name hook_call_name name_of code_of error_text coded error_named attributes_of flag_mode_of open_mode_of suspend_mode_of is_name_byte name_at_most why_text value_text words_of text_of_line text_of_lines fetch give call_before create_sem create_flag end_first delete_sem delete_flag refer_sem refer_flag signal_sem set_flag clear_flag wait_sem wait_flag sem_flag_call serve_sem serve_flag first_served serve_sem_flag sem_trial flag_trial chosen free_task create_task delete_task start_task exit_task terminate_task change_priority rotate_ready get_task refer_task sleep delay wake_up cancel_wakeups release_wait suspend_task resume_task task_call mark_of allowed free_from first_serving serve_box serve_mailboxes serve_buffer serve_buffers post create_box delete_box send_box receive_box refer_box create_buffer delete_buffer send_buffer receive_buffer refer_buffer mail_call create_mutex lock_mutex unlock_mutex refer_mutex delete_mutex mutex_call change_priority_beside task_call_beside chain_has current_of resettle free_last ceiling_allows serve_mutex serve_mutexes create_fixed delete_fixed get_fixed release_fixed refer_fixed create_variable delete_variable get_variable release_variable refer_variable pool_call first_free serve_fixed serve_fixed_pools serve_variable serve_variable_pools set_time get_time get_operating_time create_cyclic start_cyclic stop_cyclic delete_cyclic refer_cyclic create_alarm start_alarm stop_alarm delete_alarm refer_alarm time_call body_of next_due again define_handler disable_dispatch enable_dispatch disable_interrupts enable_interrupts refer_system define_service refer_service enter_service context_call left list_existing list_ready list_queue set_hook hook_call open_device refer_device request request_whole wait_ending close_device suspend_devices device_call expected arrive hand_over hand_first messages emptied read_bytes write_bytes accept picked serve_acceptance serve_acceptances serve_ending serve_endings is_with_driver serve_close serve_closes serve_suspension events_sent free_descriptor free_request first_queued at_driver accepted dropped handed asked devices_start block is_last blocks unit cut may_cut arrived entered returned body_returned family_call answered called follow_release follow_each with_releases dispatched followed insert_once with_requests handler_begun due_begun interrupt_begun served_within settle freed_within fallen due_done tick state_after worked counted step sync_runs sync_run entered_2 runs start trace acted ran turn_of done_turn first_serving_2 serve_object state_start can_take after_message after_block ending_out after_ending driver_step ran_2 joined stops_joined after_hand after_abort after_take after_turn after_end world_start after_kernel after_arrive stepped all_stepped
abort_between_two_blocks_arrived = refl

-- Three of four blocks are done, and the Abort waits in the inbox.
abort_before_the_last_block_steps : List Step
abort_before_the_last_block_steps = steps.Kernel ∷ steps.Kernel ∷ steps.Kernel ∷ steps.Kernel ∷ steps.Hand 1 ∷ steps.Take 1 ∷ steps.Block 1 ∷ steps.Block 1 ∷ steps.Block 1 ∷ steps.Abort 1 ∷ []

abort_before_the_last_block_seen : Seen
abort_before_the_last_block_seen = record {
  steps = 4;
  over = None;
  roads =
      Some (record { waiting = []; inbox = Abort 1 ∷ []; works = Some 1; blocks = 3; stopped = false; outbox = []; holds = 7 ∷ 0 ∷ [] }) ∷
      [];
  known = Some (0 ∷ 0 ∷ []) ∷ [];
  lives = Some lives.AtDriver ∷ None ∷ None ∷ [];
  ended = [];
}

abort_before_the_last_block : seen (world_after aborted_script modes.Free 100 abort_before_the_last_block_steps) ≡ abort_before_the_last_block_seen
unfolding aborted_script abort_before_the_last_block_steps abort_before_the_last_block_seen text_of form_of named made task_call_name sem_flag_call_name mutex_call_name mail_call_name pool_call_name time_call_name context_call_name device_call_name hook_call_name name_of code_of error_text coded error_named attributes_of flag_mode_of open_mode_of suspend_mode_of is_name_byte name_at_most why_text value_text words_of text_of_line text_of_lines fetch give call_before create_sem create_flag end_first delete_sem delete_flag refer_sem refer_flag signal_sem set_flag clear_flag wait_sem wait_flag sem_flag_call serve_sem serve_flag first_served serve_sem_flag sem_trial flag_trial chosen free_task create_task delete_task start_task exit_task terminate_task change_priority rotate_ready get_task refer_task sleep delay wake_up cancel_wakeups release_wait suspend_task resume_task task_call mark_of allowed free_from first_serving serve_box serve_mailboxes serve_buffer serve_buffers post create_box delete_box send_box receive_box refer_box create_buffer delete_buffer send_buffer receive_buffer refer_buffer mail_call create_mutex lock_mutex unlock_mutex refer_mutex delete_mutex mutex_call change_priority_beside task_call_beside chain_has current_of resettle free_last ceiling_allows serve_mutex serve_mutexes create_fixed delete_fixed get_fixed release_fixed refer_fixed create_variable delete_variable get_variable release_variable refer_variable pool_call first_free serve_fixed serve_fixed_pools serve_variable serve_variable_pools set_time get_time get_operating_time create_cyclic start_cyclic stop_cyclic delete_cyclic refer_cyclic create_alarm start_alarm stop_alarm delete_alarm refer_alarm time_call body_of next_due again define_handler disable_dispatch enable_dispatch disable_interrupts enable_interrupts refer_system define_service refer_service enter_service context_call left list_existing list_ready list_queue set_hook hook_call open_device refer_device request request_whole wait_ending close_device suspend_devices device_call expected arrive hand_over hand_first messages emptied read_bytes write_bytes accept picked serve_acceptance serve_acceptances serve_ending serve_endings is_with_driver serve_close serve_closes serve_suspension events_sent free_descriptor free_request first_queued at_driver accepted dropped handed asked devices_start block is_last blocks unit cut may_cut arrived entered returned body_returned family_call answered called follow_release follow_each with_releases dispatched followed insert_once with_requests handler_begun due_begun interrupt_begun served_within settle freed_within fallen due_done tick state_after worked counted step sync_runs sync_run entered_2 runs start trace acted ran turn_of done_turn first_serving_2 serve_object state_start can_take after_message after_block ending_out after_ending driver_step ran_2 joined stops_joined after_hand after_abort after_take after_turn after_end world_start after_kernel after_arrive stepped all_stepped
abort_before_the_last_block = refl

-- An Abort that is taken after the last block is ignored: the request is done.
abort_after_the_ending_steps : List Step
abort_after_the_ending_steps = steps.Kernel ∷ steps.Kernel ∷ steps.Kernel ∷ steps.Kernel ∷ steps.Hand 1 ∷ steps.Take 1 ∷ steps.Block 1 ∷ steps.Block 1 ∷ steps.Block 1 ∷ steps.Block 1 ∷ steps.Abort 1 ∷ steps.Take 1 ∷ steps.End 1 ∷ []

abort_after_the_ending_seen : Seen
abort_after_the_ending_seen = record {
  steps = 4;
  over = None;
  roads =
      Some (record { waiting = []; inbox = []; works = None; blocks = 0; stopped = false; outbox = record { device = 1; request = 1; number = 1; how = hows.Done; size = 200; error = er.Ok; taken = 2; bytes = record { items = []; room = 0 } } ∷ []; holds = 7 ∷ 0 ∷ [] }) ∷
      [];
  known = Some (0 ∷ 0 ∷ []) ∷ [];
  lives = Some lives.AtDriver ∷ None ∷ None ∷ [];
  ended = [];
}

abort_after_the_ending : seen (world_after aborted_script modes.Free 100 abort_after_the_ending_steps) ≡ abort_after_the_ending_seen
unfolding aborted_script abort_after_the_ending_steps abort_after_the_ending_seen text_of form_of named made task_call_name sem_flag_call_name mutex_call_name mail_call_name pool_call_name time_call_name context_call_name device_call_name hook_call_name name_of code_of error_text coded error_named attributes_of flag_mode_of open_mode_of suspend_mode_of is_name_byte name_at_most why_text value_text words_of text_of_line text_of_lines fetch give call_before create_sem create_flag end_first delete_sem delete_flag refer_sem refer_flag signal_sem set_flag clear_flag wait_sem wait_flag sem_flag_call serve_sem serve_flag first_served serve_sem_flag sem_trial flag_trial chosen free_task create_task delete_task start_task exit_task terminate_task change_priority rotate_ready get_task refer_task sleep delay wake_up cancel_wakeups release_wait suspend_task resume_task task_call mark_of allowed free_from first_serving serve_box serve_mailboxes serve_buffer serve_buffers post create_box delete_box send_box receive_box refer_box create_buffer delete_buffer send_buffer receive_buffer refer_buffer mail_call create_mutex lock_mutex unlock_mutex refer_mutex delete_mutex mutex_call change_priority_beside task_call_beside chain_has current_of resettle free_last ceiling_allows serve_mutex serve_mutexes create_fixed delete_fixed get_fixed release_fixed refer_fixed create_variable delete_variable get_variable release_variable refer_variable pool_call first_free serve_fixed serve_fixed_pools serve_variable serve_variable_pools set_time get_time get_operating_time create_cyclic start_cyclic stop_cyclic delete_cyclic refer_cyclic create_alarm start_alarm stop_alarm delete_alarm refer_alarm time_call body_of next_due again define_handler disable_dispatch enable_dispatch disable_interrupts enable_interrupts refer_system define_service refer_service enter_service context_call left list_existing list_ready list_queue set_hook hook_call open_device refer_device request request_whole wait_ending close_device suspend_devices device_call expected arrive hand_over hand_first messages emptied read_bytes write_bytes accept picked serve_acceptance serve_acceptances serve_ending serve_endings is_with_driver serve_close serve_closes serve_suspension events_sent free_descriptor free_request first_queued at_driver accepted dropped handed asked devices_start block is_last blocks unit cut may_cut arrived entered returned body_returned family_call answered called follow_release follow_each with_releases dispatched followed insert_once with_requests handler_begun due_begun interrupt_begun served_within settle freed_within fallen due_done tick state_after worked counted step sync_runs sync_run entered_2 runs start trace acted ran turn_of done_turn first_serving_2 serve_object state_start can_take after_message after_block ending_out after_ending driver_step ran_2 joined stops_joined after_hand after_abort after_take after_turn after_end world_start after_kernel after_arrive stepped all_stepped
abort_after_the_ending = refl

-- ---- a script

two_requests_script : Script
two_requests_script = record {
  devices = record { name = codes "d"; kind = devices.Ram 256 } ∷ [];
  pace = None;
  irqs = [];
  boot = record { body = 1; priority = 10 };
  bodies =
      record {
        name = codes "main";
        kind = kinds.Task;
        labels = [];
        stmts =
            stmts.Call names.TkOpnDev (args.Name (codes "d") ∷ args.List 4 ∷ []) ∷
            stmts.Call names.TkOpnDev (args.Name (codes "d") ∷ args.List 4 ∷ []) ∷
            stmts.Call names.TkWriDev (args.Number (pos 1) ∷ args.Number (pos 0) ∷ args.Number (pos 0) ∷ args.Number (pos 64) ∷ args.Number (negsuc 0) ∷ []) ∷
            stmts.Call names.TkReaDev (args.Number (pos 2) ∷ args.Number (pos 0) ∷ args.Number (pos 0) ∷ args.Number (pos 10) ∷ args.Number (negsuc 0) ∷ []) ∷
            stmts.Call names.TkClsDev (args.Number (pos 1) ∷ []) ∷
            [];
      } ∷
      [];
}

-- The ending was faster than the Abort, which then waits before the next request.
abort_behind_its_request_steps : List Step
abort_behind_its_request_steps = steps.Kernel ∷ steps.Kernel ∷ steps.Kernel ∷ steps.Kernel ∷ steps.Kernel ∷ steps.Hand 1 ∷ steps.Take 1 ∷ steps.Block 1 ∷ steps.End 1 ∷ steps.Arrive 1 ∷ []

abort_behind_its_request_seen : Seen
abort_behind_its_request_seen = record {
  steps = 5;
  over = None;
  roads =
      Some (record { waiting = Abort 1 ∷ Serve 2 ∷ []; inbox = []; works = None; blocks = 0; stopped = false; outbox = []; holds = 0 ∷ 0 ∷ [] }) ∷
      [];
  known = Some (0 ∷ 0 ∷ []) ∷ [];
  lives = None ∷ Some lives.AtDriver ∷ None ∷ [];
  ended = [];
}

abort_behind_its_request : seen (world_after two_requests_script modes.Free 100 abort_behind_its_request_steps) ≡ abort_behind_its_request_seen
unfolding two_requests_script abort_behind_its_request_steps abort_behind_its_request_seen text_of form_of named made task_call_name sem_flag_call_name mutex_call_name mail_call_name pool_call_name time_call_name context_call_name device_call_name hook_call_name name_of code_of error_text coded error_named attributes_of flag_mode_of open_mode_of suspend_mode_of is_name_byte name_at_most why_text value_text words_of text_of_line text_of_lines fetch give call_before create_sem create_flag end_first delete_sem delete_flag refer_sem refer_flag signal_sem set_flag clear_flag wait_sem wait_flag sem_flag_call serve_sem serve_flag first_served serve_sem_flag sem_trial flag_trial chosen free_task create_task delete_task start_task exit_task terminate_task change_priority rotate_ready get_task refer_task sleep delay wake_up cancel_wakeups release_wait suspend_task resume_task task_call mark_of allowed free_from first_serving serve_box serve_mailboxes serve_buffer serve_buffers post create_box delete_box send_box receive_box refer_box create_buffer delete_buffer send_buffer receive_buffer refer_buffer mail_call create_mutex lock_mutex unlock_mutex refer_mutex delete_mutex mutex_call change_priority_beside task_call_beside chain_has current_of resettle free_last ceiling_allows serve_mutex serve_mutexes create_fixed delete_fixed get_fixed release_fixed refer_fixed create_variable delete_variable get_variable release_variable refer_variable pool_call first_free serve_fixed serve_fixed_pools serve_variable serve_variable_pools set_time get_time get_operating_time create_cyclic start_cyclic stop_cyclic delete_cyclic refer_cyclic create_alarm start_alarm stop_alarm delete_alarm refer_alarm time_call body_of next_due again define_handler disable_dispatch enable_dispatch disable_interrupts enable_interrupts refer_system define_service refer_service enter_service context_call left list_existing list_ready list_queue set_hook hook_call open_device refer_device request request_whole wait_ending close_device suspend_devices device_call expected arrive hand_over hand_first messages emptied read_bytes write_bytes accept picked serve_acceptance serve_acceptances serve_ending serve_endings is_with_driver serve_close serve_closes serve_suspension events_sent free_descriptor free_request first_queued at_driver accepted dropped handed asked devices_start block is_last blocks unit cut may_cut arrived entered returned body_returned family_call answered called follow_release follow_each with_releases dispatched followed insert_once with_requests handler_begun due_begun interrupt_begun served_within settle freed_within fallen due_done tick state_after worked counted step sync_runs sync_run entered_2 runs start trace acted ran turn_of done_turn first_serving_2 serve_object state_start can_take after_message after_block ending_out after_ending driver_step ran_2 joined stops_joined after_hand after_abort after_take after_turn after_end world_start after_kernel after_arrive stepped all_stepped
abort_behind_its_request = refl

-- It stops no later request.
abort_of_an_earlier_request_steps : List Step
abort_of_an_earlier_request_steps = steps.Kernel ∷ steps.Kernel ∷ steps.Kernel ∷ steps.Kernel ∷ steps.Kernel ∷ steps.Hand 1 ∷ steps.Take 1 ∷ steps.Block 1 ∷ steps.End 1 ∷ steps.Arrive 1 ∷ steps.Abort 1 ∷ steps.Hand 1 ∷ steps.Take 1 ∷ steps.Take 1 ∷ steps.Block 1 ∷ steps.End 1 ∷ []

abort_of_an_earlier_request_seen : Seen
abort_of_an_earlier_request_seen = record {
  steps = 5;
  over = None;
  roads =
      Some (record { waiting = []; inbox = []; works = None; blocks = 0; stopped = false; outbox = record { device = 1; request = 2; number = 2; how = hows.Done; size = 10; error = er.Ok; taken = 3; bytes = record { items = 0 ∷ 0 ∷ 0 ∷ 0 ∷ 0 ∷ 0 ∷ 0 ∷ 0 ∷ 0 ∷ 0 ∷ []; room = 0 } } ∷ []; holds = 0 ∷ 0 ∷ [] }) ∷
      [];
  known = Some (0 ∷ 0 ∷ []) ∷ [];
  lives = None ∷ Some lives.AtDriver ∷ None ∷ [];
  ended = [];
}

abort_of_an_earlier_request : seen (world_after two_requests_script modes.Free 100 abort_of_an_earlier_request_steps) ≡ abort_of_an_earlier_request_seen
unfolding two_requests_script abort_of_an_earlier_request_steps abort_of_an_earlier_request_seen text_of form_of named made task_call_name sem_flag_call_name mutex_call_name mail_call_name pool_call_name time_call_name context_call_name device_call_name hook_call_name name_of code_of error_text coded error_named attributes_of flag_mode_of open_mode_of suspend_mode_of is_name_byte name_at_most why_text value_text words_of text_of_line text_of_lines fetch give call_before create_sem create_flag end_first delete_sem delete_flag refer_sem refer_flag signal_sem set_flag clear_flag wait_sem wait_flag sem_flag_call serve_sem serve_flag first_served serve_sem_flag sem_trial flag_trial chosen free_task create_task delete_task start_task exit_task terminate_task change_priority rotate_ready get_task refer_task sleep delay wake_up cancel_wakeups release_wait suspend_task resume_task task_call mark_of allowed free_from first_serving serve_box serve_mailboxes serve_buffer serve_buffers post create_box delete_box send_box receive_box refer_box create_buffer delete_buffer send_buffer receive_buffer refer_buffer mail_call create_mutex lock_mutex unlock_mutex refer_mutex delete_mutex mutex_call change_priority_beside task_call_beside chain_has current_of resettle free_last ceiling_allows serve_mutex serve_mutexes create_fixed delete_fixed get_fixed release_fixed refer_fixed create_variable delete_variable get_variable release_variable refer_variable pool_call first_free serve_fixed serve_fixed_pools serve_variable serve_variable_pools set_time get_time get_operating_time create_cyclic start_cyclic stop_cyclic delete_cyclic refer_cyclic create_alarm start_alarm stop_alarm delete_alarm refer_alarm time_call body_of next_due again define_handler disable_dispatch enable_dispatch disable_interrupts enable_interrupts refer_system define_service refer_service enter_service context_call left list_existing list_ready list_queue set_hook hook_call open_device refer_device request request_whole wait_ending close_device suspend_devices device_call expected arrive hand_over hand_first messages emptied read_bytes write_bytes accept picked serve_acceptance serve_acceptances serve_ending serve_endings is_with_driver serve_close serve_closes serve_suspension events_sent free_descriptor free_request first_queued at_driver accepted dropped handed asked devices_start block is_last blocks unit cut may_cut arrived entered returned body_returned family_call answered called follow_release follow_each with_releases dispatched followed insert_once with_requests handler_begun due_begun interrupt_begun served_within settle freed_within fallen due_done tick state_after worked counted step sync_runs sync_run entered_2 runs start trace acted ran turn_of done_turn first_serving_2 serve_object state_start can_take after_message after_block ending_out after_ending driver_step ran_2 joined stops_joined after_hand after_abort after_take after_turn after_end world_start after_kernel after_arrive stepped all_stepped
abort_of_an_earlier_request = refl

-- ---- a script

two_devices_script : Script
two_devices_script = record {
  devices = record { name = codes "a"; kind = devices.Ram 64 } ∷ record { name = codes "b"; kind = devices.Log } ∷ [];
  pace = None;
  irqs = [];
  boot = record { body = 1; priority = 10 };
  bodies =
      record {
        name = codes "main";
        kind = kinds.Task;
        labels = [];
        stmts =
            stmts.Call names.TkOpnDev (args.Name (codes "a") ∷ args.List 1 ∷ []) ∷
            stmts.Call names.TkOpnDev (args.Name (codes "b") ∷ args.List 2 ∷ []) ∷
            stmts.Call names.TkReaDev (args.Number (pos 1) ∷ args.Number (pos 0) ∷ args.Number (pos 100) ∷ args.Number (pos 4) ∷ args.Number (negsuc 0) ∷ []) ∷
            stmts.Call names.TkWriDev (args.Number (pos 2) ∷ args.Number (pos 0) ∷ args.Number (pos 0) ∷ args.Number (pos 8) ∷ args.Number (negsuc 0) ∷ []) ∷
            stmts.Call names.TkClsDev (args.Number (pos 1) ∷ []) ∷
            [];
      } ∷
      [];
}

-- The request that came second ends first.
endings_that_cross_steps : List Step
endings_that_cross_steps = steps.Kernel ∷ steps.Kernel ∷ steps.Kernel ∷ steps.Kernel ∷ steps.Hand 1 ∷ steps.Hand 2 ∷ steps.Take 1 ∷ steps.Take 2 ∷ steps.Block 1 ∷ steps.Block 2 ∷ steps.End 1 ∷ steps.End 2 ∷ steps.Arrive 2 ∷ steps.Arrive 1 ∷ []

endings_that_cross_seen : Seen
endings_that_cross_seen = record {
  steps = 4;
  over = None;
  roads =
      Some (record { waiting = []; inbox = []; works = None; blocks = 0; stopped = false; outbox = []; holds = 0 ∷ 0 ∷ [] }) ∷
      Some (record { waiting = []; inbox = []; works = None; blocks = 0; stopped = false; outbox = []; holds = 0 ∷ 0 ∷ [] }) ∷
      [];
  known = Some (0 ∷ 0 ∷ []) ∷ Some (0 ∷ 0 ∷ []) ∷ [];
  lives = Some (lives.Ended 4 er.Ok) ∷ Some (lives.Ended 8 er.Ok) ∷ None ∷ [];
  ended = 2 ∷ 1 ∷ [];
}

endings_that_cross : seen (world_after two_devices_script modes.Free 100 endings_that_cross_steps) ≡ endings_that_cross_seen
unfolding two_devices_script endings_that_cross_steps endings_that_cross_seen text_of form_of named made task_call_name sem_flag_call_name mutex_call_name mail_call_name pool_call_name time_call_name context_call_name device_call_name hook_call_name name_of code_of error_text coded error_named attributes_of flag_mode_of open_mode_of suspend_mode_of is_name_byte name_at_most why_text value_text words_of text_of_line text_of_lines fetch give call_before create_sem create_flag end_first delete_sem delete_flag refer_sem refer_flag signal_sem set_flag clear_flag wait_sem wait_flag sem_flag_call serve_sem serve_flag first_served serve_sem_flag sem_trial flag_trial chosen free_task create_task delete_task start_task exit_task terminate_task change_priority rotate_ready get_task refer_task sleep delay wake_up cancel_wakeups release_wait suspend_task resume_task task_call mark_of allowed free_from first_serving serve_box serve_mailboxes serve_buffer serve_buffers post create_box delete_box send_box receive_box refer_box create_buffer delete_buffer send_buffer receive_buffer refer_buffer mail_call create_mutex lock_mutex unlock_mutex refer_mutex delete_mutex mutex_call change_priority_beside task_call_beside chain_has current_of resettle free_last ceiling_allows serve_mutex serve_mutexes create_fixed delete_fixed get_fixed release_fixed refer_fixed create_variable delete_variable get_variable release_variable refer_variable pool_call first_free serve_fixed serve_fixed_pools serve_variable serve_variable_pools set_time get_time get_operating_time create_cyclic start_cyclic stop_cyclic delete_cyclic refer_cyclic create_alarm start_alarm stop_alarm delete_alarm refer_alarm time_call body_of next_due again define_handler disable_dispatch enable_dispatch disable_interrupts enable_interrupts refer_system define_service refer_service enter_service context_call left list_existing list_ready list_queue set_hook hook_call open_device refer_device request request_whole wait_ending close_device suspend_devices device_call expected arrive hand_over hand_first messages emptied read_bytes write_bytes accept picked serve_acceptance serve_acceptances serve_ending serve_endings is_with_driver serve_close serve_closes serve_suspension events_sent free_descriptor free_request first_queued at_driver accepted dropped handed asked devices_start block is_last blocks unit cut may_cut arrived entered returned body_returned family_call answered called follow_release follow_each with_releases dispatched followed insert_once with_requests handler_begun due_begun interrupt_begun served_within settle freed_within fallen due_done tick state_after worked counted step sync_runs sync_run entered_2 runs start trace acted ran turn_of done_turn first_serving_2 serve_object state_start can_take after_message after_block ending_out after_ending driver_step ran_2 joined stops_joined after_hand after_abort after_take after_turn after_end world_start after_kernel after_arrive stepped all_stepped
endings_that_cross = refl

-- A close asks the driver of its descriptor alone to abort.
close_with_two_drivers_steps : List Step
close_with_two_drivers_steps = steps.Kernel ∷ steps.Kernel ∷ steps.Kernel ∷ steps.Kernel ∷ steps.Kernel ∷ []

close_with_two_drivers_seen : Seen
close_with_two_drivers_seen = record {
  steps = 5;
  over = None;
  roads =
      Some (record { waiting = Serve 1 ∷ Abort 1 ∷ []; inbox = []; works = None; blocks = 0; stopped = false; outbox = []; holds = 0 ∷ 0 ∷ [] }) ∷
      Some (record { waiting = Serve 1 ∷ []; inbox = []; works = None; blocks = 0; stopped = false; outbox = []; holds = [] }) ∷
      [];
  known = Some (0 ∷ 0 ∷ []) ∷ Some ([]) ∷ [];
  lives = Some lives.AtDriver ∷ Some lives.AtDriver ∷ None ∷ [];
  ended = [];
}

close_with_two_drivers : seen (world_after two_devices_script modes.Free 100 close_with_two_drivers_steps) ≡ close_with_two_drivers_seen
unfolding two_devices_script close_with_two_drivers_steps close_with_two_drivers_seen text_of form_of named made task_call_name sem_flag_call_name mutex_call_name mail_call_name pool_call_name time_call_name context_call_name device_call_name hook_call_name name_of code_of error_text coded error_named attributes_of flag_mode_of open_mode_of suspend_mode_of is_name_byte name_at_most why_text value_text words_of text_of_line text_of_lines fetch give call_before create_sem create_flag end_first delete_sem delete_flag refer_sem refer_flag signal_sem set_flag clear_flag wait_sem wait_flag sem_flag_call serve_sem serve_flag first_served serve_sem_flag sem_trial flag_trial chosen free_task create_task delete_task start_task exit_task terminate_task change_priority rotate_ready get_task refer_task sleep delay wake_up cancel_wakeups release_wait suspend_task resume_task task_call mark_of allowed free_from first_serving serve_box serve_mailboxes serve_buffer serve_buffers post create_box delete_box send_box receive_box refer_box create_buffer delete_buffer send_buffer receive_buffer refer_buffer mail_call create_mutex lock_mutex unlock_mutex refer_mutex delete_mutex mutex_call change_priority_beside task_call_beside chain_has current_of resettle free_last ceiling_allows serve_mutex serve_mutexes create_fixed delete_fixed get_fixed release_fixed refer_fixed create_variable delete_variable get_variable release_variable refer_variable pool_call first_free serve_fixed serve_fixed_pools serve_variable serve_variable_pools set_time get_time get_operating_time create_cyclic start_cyclic stop_cyclic delete_cyclic refer_cyclic create_alarm start_alarm stop_alarm delete_alarm refer_alarm time_call body_of next_due again define_handler disable_dispatch enable_dispatch disable_interrupts enable_interrupts refer_system define_service refer_service enter_service context_call left list_existing list_ready list_queue set_hook hook_call open_device refer_device request request_whole wait_ending close_device suspend_devices device_call expected arrive hand_over hand_first messages emptied read_bytes write_bytes accept picked serve_acceptance serve_acceptances serve_ending serve_endings is_with_driver serve_close serve_closes serve_suspension events_sent free_descriptor free_request first_queued at_driver accepted dropped handed asked devices_start block is_last blocks unit cut may_cut arrived entered returned body_returned family_call answered called follow_release follow_each with_releases dispatched followed insert_once with_requests handler_begun due_begun interrupt_begun served_within settle freed_within fallen due_done tick state_after worked counted step sync_runs sync_run entered_2 runs start trace acted ran turn_of done_turn first_serving_2 serve_object state_start can_take after_message after_block ending_out after_ending driver_step ran_2 joined stops_joined after_hand after_abort after_take after_turn after_end world_start after_kernel after_arrive stepped all_stepped
close_with_two_drivers = refl

-- The other request ends by itself, before the close is over.
close_while_another_ends_steps : List Step
close_while_another_ends_steps = steps.Kernel ∷ steps.Kernel ∷ steps.Kernel ∷ steps.Kernel ∷ steps.Kernel ∷ steps.Hand 1 ∷ steps.Hand 2 ∷ steps.Take 2 ∷ steps.Block 2 ∷ steps.End 2 ∷ steps.Take 1 ∷ steps.Abort 1 ∷ steps.Arrive 2 ∷ steps.Take 1 ∷ steps.End 1 ∷ []

close_while_another_ends_seen : Seen
close_while_another_ends_seen = record {
  steps = 5;
  over = None;
  roads =
      Some (record { waiting = []; inbox = []; works = None; blocks = 0; stopped = false; outbox = record { device = 1; request = 1; number = 1; how = hows.Cut 0; size = 0; error = er.Abort; taken = 2; bytes = record { items = []; room = 4 } } ∷ []; holds = 0 ∷ 0 ∷ [] }) ∷
      Some (record { waiting = []; inbox = []; works = None; blocks = 0; stopped = false; outbox = []; holds = 0 ∷ 0 ∷ [] }) ∷
      [];
  known = Some (0 ∷ 0 ∷ []) ∷ Some (0 ∷ 0 ∷ []) ∷ [];
  lives = Some lives.AtDriver ∷ Some (lives.Ended 8 er.Ok) ∷ None ∷ [];
  ended = 2 ∷ [];
}

close_while_another_ends : seen (world_after two_devices_script modes.Free 100 close_while_another_ends_steps) ≡ close_while_another_ends_seen
unfolding two_devices_script close_while_another_ends_steps close_while_another_ends_seen text_of form_of named made task_call_name sem_flag_call_name mutex_call_name mail_call_name pool_call_name time_call_name context_call_name device_call_name hook_call_name name_of code_of error_text coded error_named attributes_of flag_mode_of open_mode_of suspend_mode_of is_name_byte name_at_most why_text value_text words_of text_of_line text_of_lines fetch give call_before create_sem create_flag end_first delete_sem delete_flag refer_sem refer_flag signal_sem set_flag clear_flag wait_sem wait_flag sem_flag_call serve_sem serve_flag first_served serve_sem_flag sem_trial flag_trial chosen free_task create_task delete_task start_task exit_task terminate_task change_priority rotate_ready get_task refer_task sleep delay wake_up cancel_wakeups release_wait suspend_task resume_task task_call mark_of allowed free_from first_serving serve_box serve_mailboxes serve_buffer serve_buffers post create_box delete_box send_box receive_box refer_box create_buffer delete_buffer send_buffer receive_buffer refer_buffer mail_call create_mutex lock_mutex unlock_mutex refer_mutex delete_mutex mutex_call change_priority_beside task_call_beside chain_has current_of resettle free_last ceiling_allows serve_mutex serve_mutexes create_fixed delete_fixed get_fixed release_fixed refer_fixed create_variable delete_variable get_variable release_variable refer_variable pool_call first_free serve_fixed serve_fixed_pools serve_variable serve_variable_pools set_time get_time get_operating_time create_cyclic start_cyclic stop_cyclic delete_cyclic refer_cyclic create_alarm start_alarm stop_alarm delete_alarm refer_alarm time_call body_of next_due again define_handler disable_dispatch enable_dispatch disable_interrupts enable_interrupts refer_system define_service refer_service enter_service context_call left list_existing list_ready list_queue set_hook hook_call open_device refer_device request request_whole wait_ending close_device suspend_devices device_call expected arrive hand_over hand_first messages emptied read_bytes write_bytes accept picked serve_acceptance serve_acceptances serve_ending serve_endings is_with_driver serve_close serve_closes serve_suspension events_sent free_descriptor free_request first_queued at_driver accepted dropped handed asked devices_start block is_last blocks unit cut may_cut arrived entered returned body_returned family_call answered called follow_release follow_each with_releases dispatched followed insert_once with_requests handler_begun due_begun interrupt_begun served_within settle freed_within fallen due_done tick state_after worked counted step sync_runs sync_run entered_2 runs start trace acted ran turn_of done_turn first_serving_2 serve_object state_start can_take after_message after_block ending_out after_ending driver_step ran_2 joined stops_joined after_hand after_abort after_take after_turn after_end world_start after_kernel after_arrive stepped all_stepped
close_while_another_ends = refl

-- ---- a script

suspended_script : Script
suspended_script = record {
  devices = record { name = codes "a"; kind = devices.Ram 64 } ∷ record { name = codes "b"; kind = devices.Ram 64 } ∷ [];
  pace = None;
  irqs = [];
  boot = record { body = 1; priority = 10 };
  bodies =
      record {
        name = codes "main";
        kind = kinds.Task;
        labels = [];
        stmts =
            stmts.Call names.TkOpnDev (args.Name (codes "a") ∷ args.List 1 ∷ []) ∷
            stmts.Call names.TkOpnDev (args.Name (codes "b") ∷ args.List 1 ∷ []) ∷
            stmts.Call names.TkReaDev (args.Number (pos 1) ∷ args.Number (pos 0) ∷ args.Number (pos 100) ∷ args.Number (pos 4) ∷ args.Number (negsuc 0) ∷ []) ∷
            stmts.Call names.TkReaDev (args.Number (pos 2) ∷ args.Number (pos 0) ∷ args.Number (pos 200) ∷ args.Number (pos 4) ∷ args.Number (negsuc 0) ∷ []) ∷
            stmts.Call names.TkReaDev (args.Number (pos 1) ∷ args.Number (pos 0) ∷ args.Number (pos 300) ∷ args.Number (pos 4) ∷ args.Number (negsuc 0) ∷ []) ∷
            stmts.Call names.TkSusDev (args.List 1 ∷ []) ∷
            [];
      } ∷
      [];
}

-- While a suspension waits no request goes to a driver, also to one that has none.
suspension_waits_for_one_more_steps : List Step
suspension_waits_for_one_more_steps = steps.Kernel ∷ steps.Kernel ∷ steps.Kernel ∷ steps.Kernel ∷ steps.Kernel ∷ steps.Kernel ∷ steps.Hand 1 ∷ steps.Hand 2 ∷ steps.Take 1 ∷ steps.Take 2 ∷ steps.Block 1 ∷ steps.Block 2 ∷ steps.End 1 ∷ steps.End 2 ∷ steps.Arrive 1 ∷ []

suspension_waits_for_one_more_seen : Seen
suspension_waits_for_one_more_seen = record {
  steps = 6;
  over = None;
  roads =
      Some (record { waiting = []; inbox = []; works = None; blocks = 0; stopped = false; outbox = []; holds = 0 ∷ 0 ∷ [] }) ∷
      Some (record { waiting = []; inbox = []; works = None; blocks = 0; stopped = false; outbox = record { device = 2; request = 2; number = 1; how = hows.Done; size = 4; error = er.Ok; taken = 1; bytes = record { items = 0 ∷ 0 ∷ 0 ∷ 0 ∷ []; room = 0 } } ∷ []; holds = 0 ∷ 0 ∷ [] }) ∷
      [];
  known = Some (0 ∷ 0 ∷ []) ∷ Some (0 ∷ 0 ∷ []) ∷ [];
  lives = Some (lives.Ended 4 er.Ok) ∷ Some lives.AtDriver ∷ Some lives.Queued ∷ [];
  ended = 1 ∷ [];
}

suspension_waits_for_one_more : seen (world_after suspended_script modes.Free 100 suspension_waits_for_one_more_steps) ≡ suspension_waits_for_one_more_seen
unfolding suspended_script suspension_waits_for_one_more_steps suspension_waits_for_one_more_seen text_of form_of named made task_call_name sem_flag_call_name mutex_call_name mail_call_name pool_call_name time_call_name context_call_name device_call_name hook_call_name name_of code_of error_text coded error_named attributes_of flag_mode_of open_mode_of suspend_mode_of is_name_byte name_at_most why_text value_text words_of text_of_line text_of_lines fetch give call_before create_sem create_flag end_first delete_sem delete_flag refer_sem refer_flag signal_sem set_flag clear_flag wait_sem wait_flag sem_flag_call serve_sem serve_flag first_served serve_sem_flag sem_trial flag_trial chosen free_task create_task delete_task start_task exit_task terminate_task change_priority rotate_ready get_task refer_task sleep delay wake_up cancel_wakeups release_wait suspend_task resume_task task_call mark_of allowed free_from first_serving serve_box serve_mailboxes serve_buffer serve_buffers post create_box delete_box send_box receive_box refer_box create_buffer delete_buffer send_buffer receive_buffer refer_buffer mail_call create_mutex lock_mutex unlock_mutex refer_mutex delete_mutex mutex_call change_priority_beside task_call_beside chain_has current_of resettle free_last ceiling_allows serve_mutex serve_mutexes create_fixed delete_fixed get_fixed release_fixed refer_fixed create_variable delete_variable get_variable release_variable refer_variable pool_call first_free serve_fixed serve_fixed_pools serve_variable serve_variable_pools set_time get_time get_operating_time create_cyclic start_cyclic stop_cyclic delete_cyclic refer_cyclic create_alarm start_alarm stop_alarm delete_alarm refer_alarm time_call body_of next_due again define_handler disable_dispatch enable_dispatch disable_interrupts enable_interrupts refer_system define_service refer_service enter_service context_call left list_existing list_ready list_queue set_hook hook_call open_device refer_device request request_whole wait_ending close_device suspend_devices device_call expected arrive hand_over hand_first messages emptied read_bytes write_bytes accept picked serve_acceptance serve_acceptances serve_ending serve_endings is_with_driver serve_close serve_closes serve_suspension events_sent free_descriptor free_request first_queued at_driver accepted dropped handed asked devices_start block is_last blocks unit cut may_cut arrived entered returned body_returned family_call answered called follow_release follow_each with_releases dispatched followed insert_once with_requests handler_begun due_begun interrupt_begun served_within settle freed_within fallen due_done tick state_after worked counted step sync_runs sync_run entered_2 runs start trace acted ran turn_of done_turn first_serving_2 serve_object state_start can_take after_message after_block ending_out after_ending driver_step ran_2 joined stops_joined after_hand after_abort after_take after_turn after_end world_start after_kernel after_arrive stepped all_stepped
suspension_waits_for_one_more = refl

-- Once both have ended it is over, and the next request goes to its driver.
suspension_after_both_steps : List Step
suspension_after_both_steps = steps.Kernel ∷ steps.Kernel ∷ steps.Kernel ∷ steps.Kernel ∷ steps.Kernel ∷ steps.Kernel ∷ steps.Hand 1 ∷ steps.Hand 2 ∷ steps.Take 1 ∷ steps.Take 2 ∷ steps.Block 1 ∷ steps.Block 2 ∷ steps.End 1 ∷ steps.End 2 ∷ steps.Arrive 1 ∷ steps.Arrive 2 ∷ []

suspension_after_both_seen : Seen
suspension_after_both_seen = record {
  steps = 6;
  over = None;
  roads =
      Some (record { waiting = Serve 2 ∷ []; inbox = []; works = None; blocks = 0; stopped = false; outbox = []; holds = 0 ∷ 0 ∷ [] }) ∷
      Some (record { waiting = []; inbox = []; works = None; blocks = 0; stopped = false; outbox = []; holds = 0 ∷ 0 ∷ [] }) ∷
      [];
  known = Some (0 ∷ 0 ∷ []) ∷ Some (0 ∷ 0 ∷ []) ∷ [];
  lives = Some (lives.Ended 4 er.Ok) ∷ Some (lives.Ended 4 er.Ok) ∷ Some lives.AtDriver ∷ [];
  ended = 1 ∷ 2 ∷ [];
}

suspension_after_both : seen (world_after suspended_script modes.Free 100 suspension_after_both_steps) ≡ suspension_after_both_seen
unfolding suspended_script suspension_after_both_steps suspension_after_both_seen text_of form_of named made task_call_name sem_flag_call_name mutex_call_name mail_call_name pool_call_name time_call_name context_call_name device_call_name hook_call_name name_of code_of error_text coded error_named attributes_of flag_mode_of open_mode_of suspend_mode_of is_name_byte name_at_most why_text value_text words_of text_of_line text_of_lines fetch give call_before create_sem create_flag end_first delete_sem delete_flag refer_sem refer_flag signal_sem set_flag clear_flag wait_sem wait_flag sem_flag_call serve_sem serve_flag first_served serve_sem_flag sem_trial flag_trial chosen free_task create_task delete_task start_task exit_task terminate_task change_priority rotate_ready get_task refer_task sleep delay wake_up cancel_wakeups release_wait suspend_task resume_task task_call mark_of allowed free_from first_serving serve_box serve_mailboxes serve_buffer serve_buffers post create_box delete_box send_box receive_box refer_box create_buffer delete_buffer send_buffer receive_buffer refer_buffer mail_call create_mutex lock_mutex unlock_mutex refer_mutex delete_mutex mutex_call change_priority_beside task_call_beside chain_has current_of resettle free_last ceiling_allows serve_mutex serve_mutexes create_fixed delete_fixed get_fixed release_fixed refer_fixed create_variable delete_variable get_variable release_variable refer_variable pool_call first_free serve_fixed serve_fixed_pools serve_variable serve_variable_pools set_time get_time get_operating_time create_cyclic start_cyclic stop_cyclic delete_cyclic refer_cyclic create_alarm start_alarm stop_alarm delete_alarm refer_alarm time_call body_of next_due again define_handler disable_dispatch enable_dispatch disable_interrupts enable_interrupts refer_system define_service refer_service enter_service context_call left list_existing list_ready list_queue set_hook hook_call open_device refer_device request request_whole wait_ending close_device suspend_devices device_call expected arrive hand_over hand_first messages emptied read_bytes write_bytes accept picked serve_acceptance serve_acceptances serve_ending serve_endings is_with_driver serve_close serve_closes serve_suspension events_sent free_descriptor free_request first_queued at_driver accepted dropped handed asked devices_start block is_last blocks unit cut may_cut arrived entered returned body_returned family_call answered called follow_release follow_each with_releases dispatched followed insert_once with_requests handler_begun due_begun interrupt_begun served_within settle freed_within fallen due_done tick state_after worked counted step sync_runs sync_run entered_2 runs start trace acted ran turn_of done_turn first_serving_2 serve_object state_start can_take after_message after_block ending_out after_ending driver_step ran_2 joined stops_joined after_hand after_abort after_take after_turn after_end world_start after_kernel after_arrive stepped all_stepped
suspension_after_both = refl

-- ---- a script

needed_script : Script
needed_script = record {
  devices = record { name = codes "d"; kind = devices.Ram 64 } ∷ [];
  pace = None;
  irqs = [];
  boot = record { body = 1; priority = 10 };
  bodies =
      record {
        name = codes "main";
        kind = kinds.Task;
        labels = [];
        stmts =
            stmts.Call names.TkOpnDev (args.Name (codes "d") ∷ args.List 1 ∷ []) ∷
            stmts.Call names.TkSreaDev (args.Number (pos 1) ∷ args.Number (pos 0) ∷ args.Number (pos 0) ∷ args.Number (pos 4) ∷ []) ∷
            [];
      } ∷
      [];
}

-- In sync mode a request goes to its driver once an ending is needed; until that arrives, steps of the kernel change nothing.
needed_once_steps : List Step
needed_once_steps = steps.Kernel ∷ steps.Kernel ∷ steps.Kernel ∷ steps.Kernel ∷ steps.Kernel ∷ []

needed_once_seen : Seen
needed_once_seen = record {
  steps = 2;
  over = None;
  roads =
      Some (record { waiting = Serve 1 ∷ []; inbox = []; works = None; blocks = 0; stopped = false; outbox = []; holds = 0 ∷ 0 ∷ [] }) ∷
      [];
  known = Some (0 ∷ 0 ∷ []) ∷ [];
  lives = Some lives.AtDriver ∷ None ∷ None ∷ [];
  ended = [];
}

needed_once : seen (world_after needed_script modes.Sync 100 needed_once_steps) ≡ needed_once_seen
unfolding needed_script needed_once_steps needed_once_seen text_of form_of named made task_call_name sem_flag_call_name mutex_call_name mail_call_name pool_call_name time_call_name context_call_name device_call_name hook_call_name name_of code_of error_text coded error_named attributes_of flag_mode_of open_mode_of suspend_mode_of is_name_byte name_at_most why_text value_text words_of text_of_line text_of_lines fetch give call_before create_sem create_flag end_first delete_sem delete_flag refer_sem refer_flag signal_sem set_flag clear_flag wait_sem wait_flag sem_flag_call serve_sem serve_flag first_served serve_sem_flag sem_trial flag_trial chosen free_task create_task delete_task start_task exit_task terminate_task change_priority rotate_ready get_task refer_task sleep delay wake_up cancel_wakeups release_wait suspend_task resume_task task_call mark_of allowed free_from first_serving serve_box serve_mailboxes serve_buffer serve_buffers post create_box delete_box send_box receive_box refer_box create_buffer delete_buffer send_buffer receive_buffer refer_buffer mail_call create_mutex lock_mutex unlock_mutex refer_mutex delete_mutex mutex_call change_priority_beside task_call_beside chain_has current_of resettle free_last ceiling_allows serve_mutex serve_mutexes create_fixed delete_fixed get_fixed release_fixed refer_fixed create_variable delete_variable get_variable release_variable refer_variable pool_call first_free serve_fixed serve_fixed_pools serve_variable serve_variable_pools set_time get_time get_operating_time create_cyclic start_cyclic stop_cyclic delete_cyclic refer_cyclic create_alarm start_alarm stop_alarm delete_alarm refer_alarm time_call body_of next_due again define_handler disable_dispatch enable_dispatch disable_interrupts enable_interrupts refer_system define_service refer_service enter_service context_call left list_existing list_ready list_queue set_hook hook_call open_device refer_device request request_whole wait_ending close_device suspend_devices device_call expected arrive hand_over hand_first messages emptied read_bytes write_bytes accept picked serve_acceptance serve_acceptances serve_ending serve_endings is_with_driver serve_close serve_closes serve_suspension events_sent free_descriptor free_request first_queued at_driver accepted dropped handed asked devices_start block is_last blocks unit cut may_cut arrived entered returned body_returned family_call answered called follow_release follow_each with_releases dispatched followed insert_once with_requests handler_begun due_begun interrupt_begun served_within settle freed_within fallen due_done tick state_after worked counted step sync_runs sync_run entered_2 runs start trace acted ran turn_of done_turn first_serving_2 serve_object state_start can_take after_message after_block ending_out after_ending driver_step ran_2 joined stops_joined after_hand after_abort after_take after_turn after_end world_start after_kernel after_arrive stepped all_stepped
needed_once = refl

-- ---- a script

slow_script : Script
slow_script = record {
  devices = record { name = codes "s"; kind = devices.Slow 64 2 } ∷ [];
  pace = None;
  irqs = [];
  boot = record { body = 1; priority = 10 };
  bodies =
      record {
        name = codes "main";
        kind = kinds.Task;
        labels = [];
        stmts =
            stmts.Call names.TkOpnDev (args.Name (codes "s") ∷ args.List 1 ∷ []) ∷
            stmts.Call names.TkReaDev (args.Number (pos 1) ∷ args.Number (pos 0) ∷ args.Number (pos 0) ∷ args.Number (pos 4) ∷ args.Number (negsuc 0) ∷ []) ∷
            stmts.Call names.TkReaDev (args.Number (pos 1) ∷ args.Number (pos 0) ∷ args.Number (pos 0) ∷ args.Number (pos 0) ∷ args.Number (negsuc 0) ∷ []) ∷
            [];
      } ∷
      [];
}

-- A slow unit makes its empty turns before a block.
empty_turns_steps : List Step
empty_turns_steps = steps.Kernel ∷ steps.Kernel ∷ steps.Kernel ∷ steps.Hand 1 ∷ steps.Take 1 ∷ steps.Block 1 ∷ steps.Block 1 ∷ steps.End 1 ∷ []

empty_turns_seen : Seen
empty_turns_seen = record {
  steps = 3;
  over = None;
  roads =
      Some (record { waiting = []; inbox = []; works = Some 1; blocks = 0; stopped = false; outbox = []; holds = 0 ∷ 0 ∷ [] }) ∷
      [];
  known = Some (0 ∷ 0 ∷ []) ∷ [];
  lives = Some lives.AtDriver ∷ Some lives.Queued ∷ None ∷ [];
  ended = [];
}

empty_turns : seen (world_after slow_script modes.Free 100 empty_turns_steps) ≡ empty_turns_seen
unfolding slow_script empty_turns_steps empty_turns_seen text_of form_of named made task_call_name sem_flag_call_name mutex_call_name mail_call_name pool_call_name time_call_name context_call_name device_call_name hook_call_name name_of code_of error_text coded error_named attributes_of flag_mode_of open_mode_of suspend_mode_of is_name_byte name_at_most why_text value_text words_of text_of_line text_of_lines fetch give call_before create_sem create_flag end_first delete_sem delete_flag refer_sem refer_flag signal_sem set_flag clear_flag wait_sem wait_flag sem_flag_call serve_sem serve_flag first_served serve_sem_flag sem_trial flag_trial chosen free_task create_task delete_task start_task exit_task terminate_task change_priority rotate_ready get_task refer_task sleep delay wake_up cancel_wakeups release_wait suspend_task resume_task task_call mark_of allowed free_from first_serving serve_box serve_mailboxes serve_buffer serve_buffers post create_box delete_box send_box receive_box refer_box create_buffer delete_buffer send_buffer receive_buffer refer_buffer mail_call create_mutex lock_mutex unlock_mutex refer_mutex delete_mutex mutex_call change_priority_beside task_call_beside chain_has current_of resettle free_last ceiling_allows serve_mutex serve_mutexes create_fixed delete_fixed get_fixed release_fixed refer_fixed create_variable delete_variable get_variable release_variable refer_variable pool_call first_free serve_fixed serve_fixed_pools serve_variable serve_variable_pools set_time get_time get_operating_time create_cyclic start_cyclic stop_cyclic delete_cyclic refer_cyclic create_alarm start_alarm stop_alarm delete_alarm refer_alarm time_call body_of next_due again define_handler disable_dispatch enable_dispatch disable_interrupts enable_interrupts refer_system define_service refer_service enter_service context_call left list_existing list_ready list_queue set_hook hook_call open_device refer_device request request_whole wait_ending close_device suspend_devices device_call expected arrive hand_over hand_first messages emptied read_bytes write_bytes accept picked serve_acceptance serve_acceptances serve_ending serve_endings is_with_driver serve_close serve_closes serve_suspension events_sent free_descriptor free_request first_queued at_driver accepted dropped handed asked devices_start block is_last blocks unit cut may_cut arrived entered returned body_returned family_call answered called follow_release follow_each with_releases dispatched followed insert_once with_requests handler_begun due_begun interrupt_begun served_within settle freed_within fallen due_done tick state_after worked counted step sync_runs sync_run entered_2 runs start trace acted ran turn_of done_turn first_serving_2 serve_object state_start can_take after_message after_block ending_out after_ending driver_step ran_2 joined stops_joined after_hand after_abort after_take after_turn after_end world_start after_kernel after_arrive stepped all_stepped
empty_turns = refl

-- Then the block, which is the last.
block_after_empty_turns_steps : List Step
block_after_empty_turns_steps = steps.Kernel ∷ steps.Kernel ∷ steps.Kernel ∷ steps.Hand 1 ∷ steps.Take 1 ∷ steps.Block 1 ∷ steps.Block 1 ∷ steps.Block 1 ∷ steps.End 1 ∷ []

block_after_empty_turns_seen : Seen
block_after_empty_turns_seen = record {
  steps = 3;
  over = None;
  roads =
      Some (record { waiting = []; inbox = []; works = None; blocks = 0; stopped = false; outbox = record { device = 1; request = 1; number = 1; how = hows.Done; size = 4; error = er.Ok; taken = 1; bytes = record { items = 0 ∷ 0 ∷ 0 ∷ 0 ∷ []; room = 0 } } ∷ []; holds = 0 ∷ 0 ∷ [] }) ∷
      [];
  known = Some (0 ∷ 0 ∷ []) ∷ [];
  lives = Some lives.AtDriver ∷ Some lives.Queued ∷ None ∷ [];
  ended = [];
}

block_after_empty_turns : seen (world_after slow_script modes.Free 100 block_after_empty_turns_steps) ≡ block_after_empty_turns_seen
unfolding slow_script block_after_empty_turns_steps block_after_empty_turns_seen text_of form_of named made task_call_name sem_flag_call_name mutex_call_name mail_call_name pool_call_name time_call_name context_call_name device_call_name hook_call_name name_of code_of error_text coded error_named attributes_of flag_mode_of open_mode_of suspend_mode_of is_name_byte name_at_most why_text value_text words_of text_of_line text_of_lines fetch give call_before create_sem create_flag end_first delete_sem delete_flag refer_sem refer_flag signal_sem set_flag clear_flag wait_sem wait_flag sem_flag_call serve_sem serve_flag first_served serve_sem_flag sem_trial flag_trial chosen free_task create_task delete_task start_task exit_task terminate_task change_priority rotate_ready get_task refer_task sleep delay wake_up cancel_wakeups release_wait suspend_task resume_task task_call mark_of allowed free_from first_serving serve_box serve_mailboxes serve_buffer serve_buffers post create_box delete_box send_box receive_box refer_box create_buffer delete_buffer send_buffer receive_buffer refer_buffer mail_call create_mutex lock_mutex unlock_mutex refer_mutex delete_mutex mutex_call change_priority_beside task_call_beside chain_has current_of resettle free_last ceiling_allows serve_mutex serve_mutexes create_fixed delete_fixed get_fixed release_fixed refer_fixed create_variable delete_variable get_variable release_variable refer_variable pool_call first_free serve_fixed serve_fixed_pools serve_variable serve_variable_pools set_time get_time get_operating_time create_cyclic start_cyclic stop_cyclic delete_cyclic refer_cyclic create_alarm start_alarm stop_alarm delete_alarm refer_alarm time_call body_of next_due again define_handler disable_dispatch enable_dispatch disable_interrupts enable_interrupts refer_system define_service refer_service enter_service context_call left list_existing list_ready list_queue set_hook hook_call open_device refer_device request request_whole wait_ending close_device suspend_devices device_call expected arrive hand_over hand_first messages emptied read_bytes write_bytes accept picked serve_acceptance serve_acceptances serve_ending serve_endings is_with_driver serve_close serve_closes serve_suspension events_sent free_descriptor free_request first_queued at_driver accepted dropped handed asked devices_start block is_last blocks unit cut may_cut arrived entered returned body_returned family_call answered called follow_release follow_each with_releases dispatched followed insert_once with_requests handler_begun due_begun interrupt_begun served_within settle freed_within fallen due_done tick state_after worked counted step sync_runs sync_run entered_2 runs start trace acted ran turn_of done_turn first_serving_2 serve_object state_start can_take after_message after_block ending_out after_ending driver_step ran_2 joined stops_joined after_hand after_abort after_take after_turn after_end world_start after_kernel after_arrive stepped all_stepped
block_after_empty_turns = refl

-- A request without blocks has one turn, which answers how much there is to read.
no_empty_turn_without_blocks_steps : List Step
no_empty_turn_without_blocks_steps = steps.Kernel ∷ steps.Kernel ∷ steps.Kernel ∷ steps.Hand 1 ∷ steps.Take 1 ∷ steps.Block 1 ∷ steps.Block 1 ∷ steps.Block 1 ∷ steps.End 1 ∷ steps.Arrive 1 ∷ steps.Hand 1 ∷ steps.Take 1 ∷ steps.Block 1 ∷ steps.End 1 ∷ []

no_empty_turn_without_blocks_seen : Seen
no_empty_turn_without_blocks_seen = record {
  steps = 3;
  over = None;
  roads =
      Some (record { waiting = []; inbox = []; works = None; blocks = 0; stopped = false; outbox = record { device = 1; request = 2; number = 2; how = hows.Done; size = 64; error = er.Ok; taken = 2; bytes = record { items = []; room = 0 } } ∷ []; holds = 0 ∷ 0 ∷ [] }) ∷
      [];
  known = Some (0 ∷ 0 ∷ []) ∷ [];
  lives = Some (lives.Ended 4 er.Ok) ∷ Some lives.AtDriver ∷ None ∷ [];
  ended = 1 ∷ [];
}

no_empty_turn_without_blocks : seen (world_after slow_script modes.Free 100 no_empty_turn_without_blocks_steps) ≡ no_empty_turn_without_blocks_seen
unfolding slow_script no_empty_turn_without_blocks_steps no_empty_turn_without_blocks_seen text_of form_of named made task_call_name sem_flag_call_name mutex_call_name mail_call_name pool_call_name time_call_name context_call_name device_call_name hook_call_name name_of code_of error_text coded error_named attributes_of flag_mode_of open_mode_of suspend_mode_of is_name_byte name_at_most why_text value_text words_of text_of_line text_of_lines fetch give call_before create_sem create_flag end_first delete_sem delete_flag refer_sem refer_flag signal_sem set_flag clear_flag wait_sem wait_flag sem_flag_call serve_sem serve_flag first_served serve_sem_flag sem_trial flag_trial chosen free_task create_task delete_task start_task exit_task terminate_task change_priority rotate_ready get_task refer_task sleep delay wake_up cancel_wakeups release_wait suspend_task resume_task task_call mark_of allowed free_from first_serving serve_box serve_mailboxes serve_buffer serve_buffers post create_box delete_box send_box receive_box refer_box create_buffer delete_buffer send_buffer receive_buffer refer_buffer mail_call create_mutex lock_mutex unlock_mutex refer_mutex delete_mutex mutex_call change_priority_beside task_call_beside chain_has current_of resettle free_last ceiling_allows serve_mutex serve_mutexes create_fixed delete_fixed get_fixed release_fixed refer_fixed create_variable delete_variable get_variable release_variable refer_variable pool_call first_free serve_fixed serve_fixed_pools serve_variable serve_variable_pools set_time get_time get_operating_time create_cyclic start_cyclic stop_cyclic delete_cyclic refer_cyclic create_alarm start_alarm stop_alarm delete_alarm refer_alarm time_call body_of next_due again define_handler disable_dispatch enable_dispatch disable_interrupts enable_interrupts refer_system define_service refer_service enter_service context_call left list_existing list_ready list_queue set_hook hook_call open_device refer_device request request_whole wait_ending close_device suspend_devices device_call expected arrive hand_over hand_first messages emptied read_bytes write_bytes accept picked serve_acceptance serve_acceptances serve_ending serve_endings is_with_driver serve_close serve_closes serve_suspension events_sent free_descriptor free_request first_queued at_driver accepted dropped handed asked devices_start block is_last blocks unit cut may_cut arrived entered returned body_returned family_call answered called follow_release follow_each with_releases dispatched followed insert_once with_requests handler_begun due_begun interrupt_begun served_within settle freed_within fallen due_done tick state_after worked counted step sync_runs sync_run entered_2 runs start trace acted ran turn_of done_turn first_serving_2 serve_object state_start can_take after_message after_block ending_out after_ending driver_step ran_2 joined stops_joined after_hand after_abort after_take after_turn after_end world_start after_kernel after_arrive stepped all_stepped
no_empty_turn_without_blocks = refl
