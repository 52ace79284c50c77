-- Runs that were worked out by hand from the rules, as runs/context/lists has them: each a theorem by computation.
use Rattle.std.specs.Prelude.{ℕ, pos, negsuc, List, [], ◌∷◌, ◌++◌, Some, None, codes, ◌≡◌, refl}
use Rattle.std.specs.Fmt.{digits}
use Rattle.tk_types.specs.declared.script.Script.{Script}
use Rattle.tk_types.specs.declared.script.BodyKind.TheVariants as kinds
use Rattle.tk_types.specs.declared.script.Kind.TheVariants as devices
use Rattle.tk_types.specs.declared.script.Stmt.TheVariants as stmts
use Rattle.tk_types.specs.declared.script.Operand.TheVariants as operands
use Rattle.tk_types.specs.declared.script.Operation.TheVariants as operations
use Rattle.tk_types.specs.declared.script.Condition.TheVariants as conditions
use Rattle.tk_types.specs.declared.script.Arg.TheVariants as args
use Rattle.tk_types.specs.declared.call_name.CallName.TheVariants as names
use Rattle.tk_types.specs.declared.line.Entry.{Entry}
use Rattle.tk_types.specs.declared.line.How.TheVariants as hows
use Rattle.tk_types.specs.declared.run.Mode.TheVariants as modes
use Rattle.tk_types.specs.CallNames.{text_of, form_of, named}
use Rattle.tk_types.specs.Calls.{made, task_call_name, sem_flag_call_name, mutex_call_name, mail_call_name, pool_call_name, time_call_name, context_call_name, device_call_name, hook_call_name, name_of}
use Rattle.tk_types.specs.Codes.{code_of, error_text, coded, error_named}
use Rattle.tk_types.specs.Modes.{attributes_of, flag_mode_of, open_mode_of, suspend_mode_of}
use Rattle.tk_types.specs.Names.{is_name_byte, name_at_most}
use Rattle.tk_types.specs.Reasons.{why_text}
use Rattle.tk_model.specs.LineText.{value_text, words_of, text_of_line, text_of_lines}
use Rattle.kernel_model.specs.Bodies.Statements.{fetch, give, call_before}
use Rattle.kernel_model.specs.SemFlags.Calls.{create_sem, create_flag, end_first, delete_sem, delete_flag, refer_sem, refer_flag, signal_sem, set_flag, clear_flag, wait_sem, wait_flag, sem_flag_call}
use Rattle.kernel_model.specs.SemFlags.Tables.{serve_sem, serve_flag, first_served, serve_sem_flag}
use Rattle.kernel_model.specs.SemFlags.Trial.{sem_trial, flag_trial}
use Rattle.kernel_model.specs.Tasks.Base.{chosen, free_task}
use Rattle.kernel_model.specs.Tasks.Calls.{create_task, delete_task, start_task, exit_task, terminate_task, change_priority, rotate_ready, get_task, refer_task, sleep, delay, wake_up, cancel_wakeups, release_wait, suspend_task, resume_task, task_call}
use Rattle.kernel_model.specs.Tasks.Marks.{mark_of, allowed}
use Rattle.kernel_model.specs.Words.Orders.{free_from}
use Rattle.object_model.specs.Servings.{first_serving}
use Rattle.object_model.specs.Mails.Boxes.{serve_box, serve_mailboxes}
use Rattle.object_model.specs.Mails.Buffers.{serve_buffer, serve_buffers, post}
use Rattle.object_model.specs.Mails.Calls.{create_box, delete_box, send_box, receive_box, refer_box, create_buffer, delete_buffer, send_buffer, receive_buffer, refer_buffer, mail_call}
use Rattle.object_model.specs.Mutexes.Calls.{create_mutex, lock_mutex, unlock_mutex, refer_mutex, delete_mutex, mutex_call, change_priority_beside, task_call_beside}
use Rattle.object_model.specs.Mutexes.Priority.{chain_has, current_of, resettle}
use Rattle.object_model.specs.Mutexes.Tables.{free_last, ceiling_allows, serve_mutex, serve_mutexes}
use Rattle.object_model.specs.Pools.Calls.{create_fixed, delete_fixed, get_fixed, release_fixed, refer_fixed, create_variable, delete_variable, get_variable, release_variable, refer_variable, pool_call}
use Rattle.object_model.specs.Pools.Fixed.{first_free, serve_fixed, serve_fixed_pools}
use Rattle.object_model.specs.Pools.Variable.{serve_variable, serve_variable_pools}
use Rattle.context_model.specs.Clocks.Calls.{set_time, get_time, get_operating_time, create_cyclic, start_cyclic, stop_cyclic, delete_cyclic, refer_cyclic, create_alarm, start_alarm, stop_alarm, delete_alarm, refer_alarm, time_call}
use Rattle.context_model.specs.Clocks.Tables.{body_of, next_due, again}
use Rattle.context_model.specs.Contexts.Calls.{define_handler, disable_dispatch, enable_dispatch, disable_interrupts, enable_interrupts, refer_system, define_service, refer_service, enter_service, context_call}
use Rattle.context_model.specs.Contexts.Tables.{left}
use Rattle.context_model.specs.Hooks.Calls.{list_existing, list_ready, list_queue, set_hook, hook_call}
use Rattle.device_model.specs.Devices.Calls.{open_device, refer_device, request, request_whole, wait_ending, close_device, suspend_devices, device_call}
use Rattle.device_model.specs.Devices.Endings.{expected, arrive}
use Rattle.device_model.specs.Devices.Handing.{hand_over, hand_first, messages, emptied}
use Rattle.device_model.specs.Devices.Memory.{read_bytes, write_bytes}
use Rattle.device_model.specs.Devices.Requests.{accept, picked}
use Rattle.device_model.specs.Devices.Servings.{serve_acceptance, serve_acceptances, serve_ending, serve_endings, is_with_driver, serve_close, serve_closes, serve_suspension}
use Rattle.device_model.specs.Devices.Suspension.{events_sent}
use Rattle.device_model.specs.Devices.Tables.{free_descriptor, free_request, first_queued, at_driver, accepted, dropped, handed, asked, devices_start}
use Rattle.device_model.specs.Units.Blocks.{block, is_last, blocks}
use Rattle.device_model.specs.Units.Function.{unit, cut, may_cut}
use Rattle.machine_model.specs.Events.Arrivals.{arrived}
use Rattle.machine_model.specs.Events.Bodies.{entered, returned, body_returned}
use Rattle.machine_model.specs.Events.Calls.{family_call, answered, called}
use Rattle.machine_model.specs.Events.Follow.{follow_release, follow_each, with_releases, dispatched, followed}
use Rattle.machine_model.specs.Events.Handlers.{insert_once, with_requests, handler_begun, due_begun, interrupt_begun}
use Rattle.machine_model.specs.Events.Settle.{served_within, settle, freed_within}
use Rattle.machine_model.specs.Events.Ticks.{fallen, due_done, tick}
use Rattle.machine_model.specs.Runs.Reached.{state_after}
use Rattle.machine_model.specs.Runs.Step.{worked, counted, step}
use Rattle.machine_model.specs.Runs.SyncTrace.{sync_runs, sync_run}
use Rattle.machine_model.specs.Runs.Trace.{lines_of, entered as entered_2, runs, start, trace}
use Rattle.machine_model.specs.Runs.Turns.{acted, ran, turn_of, done_turn}
use Rattle.machine_model.specs.States.Objects.{first_serving as first_serving_2, serve_object}
use Rattle.machine_model.specs.States.State.{state_start}

-- The IDs are written in rising order, four bytes each, at most as many as asked for; a DORMANT task counts, a deleted one doesn't. The place
-- for all that are asked for has to lie in memory, whether there are so many or not, and with none asked for its address alone.
ids_written_script : Script
ids_written_script = record {
  devices = [];
  pace = None;
  irqs = [];
  boot = record { body = 1; priority = 10 };
  bodies =
      record {
        name = codes "main";
        kind = kinds.Task;
        labels = [];
        stmts =
            stmts.Call names.TkCreTsk (args.List 0 ∷ args.Body 2 ∷ args.Number (pos 10) ∷ args.Number (pos 512) ∷ []) ∷
            stmts.Call names.TkCreTsk (args.List 0 ∷ args.Body 2 ∷ args.Number (pos 10) ∷ args.Number (pos 512) ∷ []) ∷
            stmts.Call names.TkCreTsk (args.List 0 ∷ args.Body 2 ∷ args.Number (pos 20) ∷ args.Number (pos 512) ∷ []) ∷
            stmts.Call names.TkDelTsk (args.Number (pos 2) ∷ []) ∷
            stmts.Store (operands.Number (pos 5)) (operands.Number (pos 255)) ∷
            stmts.Call names.TdLstTsk (args.Number (pos 0) ∷ args.Number (pos 9) ∷ []) ∷
            stmts.Load 5 (operands.Number (pos 4)) ∷
            stmts.Show (operands.Register 5) ∷
            stmts.Load 5 (operands.Number (pos 5)) ∷
            stmts.Show (operands.Register 5) ∷
            stmts.Load 5 (operands.Number (pos 8)) ∷
            stmts.Show (operands.Register 5) ∷
            stmts.Call names.TdLstTsk (args.Number (pos 4) ∷ args.Number (pos 2) ∷ []) ∷
            stmts.Load 5 (operands.Number (pos 8)) ∷
            stmts.Show (operands.Register 5) ∷
            stmts.Call names.TkDefSsy (args.Number (pos 200) ∷ args.Body 3 ∷ []) ∷
            stmts.Call names.TkDefSsy (args.Number (pos 7) ∷ args.Body 3 ∷ []) ∷
            stmts.Call names.TdLstSsy (args.Number (pos 65528) ∷ args.Number (pos 2) ∷ []) ∷
            stmts.Load 5 (operands.Number (pos 65532)) ∷
            stmts.Show (operands.Register 5) ∷
            stmts.Call names.TdLstSsy (args.Number (pos 65533) ∷ args.Number (pos 1) ∷ []) ∷
            stmts.Call names.TdLstSsy (args.Number (pos 65536) ∷ args.Number (pos 0) ∷ []) ∷
            stmts.Call names.TdLstSsy (args.Number (pos 65537) ∷ args.Number (pos 0) ∷ []) ∷
            stmts.Call names.TdLstSsy (args.Number (negsuc 0) ∷ args.Number (pos 0) ∷ []) ∷
            stmts.Call names.TdLstSsy (args.Number (pos 0) ∷ args.Number (negsuc 0) ∷ []) ∷
            stmts.Call names.TdLstSsy (args.Number (pos 0) ∷ args.Number (pos 1073741824) ∷ []) ∷
            stmts.Call names.TdLstTsk (args.Number (pos 0) ∷ args.Number (pos 16384) ∷ []) ∷
            stmts.Call names.TdLstTsk (args.Number (pos 0) ∷ args.Number (pos 16385) ∷ []) ∷
            [];
      } ∷
      record {
        name = codes "x";
        kind = kinds.Task;
        labels = [];
        stmts =
            [];
      } ∷
      record {
        name = codes "s";
        kind = kinds.Svc;
        labels = [];
        stmts =
            [];
      } ∷
      [];
}

ids_written_entries : List Entry
ids_written_entries = []

ids_written_lines : List ℕ
ids_written_lines =
    codes "0 D 1\n" ++
    codes "1 C 1 tk_cre_tsk 2\n" ++
    codes "2 C 1 tk_cre_tsk 3\n" ++
    codes "3 C 1 tk_cre_tsk 4\n" ++
    codes "4 C 1 tk_del_tsk 0\n" ++
    codes "6 C 1 td_lst_tsk 3\n" ++
    codes "8 S 1 3\n" ++
    codes "10 S 1 0\n" ++
    codes "12 S 1 4\n" ++
    codes "13 C 1 td_lst_tsk 3\n" ++
    codes "15 S 1 3\n" ++
    codes "16 C 1 tk_def_ssy 0\n" ++
    codes "17 C 1 tk_def_ssy 0\n" ++
    codes "18 C 1 td_lst_ssy 2\n" ++
    codes "20 S 1 200\n" ++
    codes "21 C 1 td_lst_ssy E_PAR\n" ++
    codes "22 C 1 td_lst_ssy 2\n" ++
    codes "23 C 1 td_lst_ssy E_PAR\n" ++
    codes "24 C 1 td_lst_ssy E_PAR\n" ++
    codes "25 C 1 td_lst_ssy E_PAR\n" ++
    codes "26 C 1 td_lst_ssy E_PAR\n" ++
    codes "27 C 1 td_lst_tsk 3\n" ++
    codes "28 C 1 td_lst_tsk E_PAR\n" ++
    codes "29 C 1 tk_ext_tsk 0\n" ++
    codes "29 D 0\n" ++
    codes "29 END idle\n" ++
    []

ids_written_run : text_of_lines (lines_of (trace ids_written_script modes.Free 100000 ids_written_entries)) ≡ ids_written_lines
unfolding ids_written_script ids_written_entries ids_written_lines text_of form_of named made task_call_name sem_flag_call_name mutex_call_name mail_call_name pool_call_name time_call_name context_call_name device_call_name hook_call_name name_of code_of error_text coded error_named attributes_of flag_mode_of open_mode_of suspend_mode_of is_name_byte name_at_most why_text value_text words_of text_of_line text_of_lines fetch give call_before create_sem create_flag end_first delete_sem delete_flag refer_sem refer_flag signal_sem set_flag clear_flag wait_sem wait_flag sem_flag_call serve_sem serve_flag first_served serve_sem_flag sem_trial flag_trial chosen free_task create_task delete_task start_task exit_task terminate_task change_priority rotate_ready get_task refer_task sleep delay wake_up cancel_wakeups release_wait suspend_task resume_task task_call mark_of allowed free_from first_serving serve_box serve_mailboxes serve_buffer serve_buffers post create_box delete_box send_box receive_box refer_box create_buffer delete_buffer send_buffer receive_buffer refer_buffer mail_call create_mutex lock_mutex unlock_mutex refer_mutex delete_mutex mutex_call change_priority_beside task_call_beside chain_has current_of resettle free_last ceiling_allows serve_mutex serve_mutexes create_fixed delete_fixed get_fixed release_fixed refer_fixed create_variable delete_variable get_variable release_variable refer_variable pool_call first_free serve_fixed serve_fixed_pools serve_variable serve_variable_pools set_time get_time get_operating_time create_cyclic start_cyclic stop_cyclic delete_cyclic refer_cyclic create_alarm start_alarm stop_alarm delete_alarm refer_alarm time_call body_of next_due again define_handler disable_dispatch enable_dispatch disable_interrupts enable_interrupts refer_system define_service refer_service enter_service context_call left list_existing list_ready list_queue set_hook hook_call open_device refer_device request request_whole wait_ending close_device suspend_devices device_call expected arrive hand_over hand_first messages emptied read_bytes write_bytes accept picked serve_acceptance serve_acceptances serve_ending serve_endings is_with_driver serve_close serve_closes serve_suspension events_sent free_descriptor free_request first_queued at_driver accepted dropped handed asked devices_start block is_last blocks unit cut may_cut arrived entered returned body_returned family_call answered called follow_release follow_each with_releases dispatched followed insert_once with_requests handler_begun due_begun interrupt_begun served_within settle freed_within fallen due_done tick state_after worked counted step sync_runs sync_run entered_2 runs start trace acted ran turn_of done_turn first_serving_2 serve_object state_start digits
ids_written_run = refl

-- Each list tells how many objects of its kind there are, from a handler too, and writes no more IDs than it is asked for. The first
-- object of a kind is in the list of that kind alone; a deleted one is in none.
objects_of_each_kind_script : Script
objects_of_each_kind_script = record {
  devices = [];
  pace = None;
  irqs = record { step = 2; number = 1 } ∷ [];
  boot = record { body = 1; priority = 10 };
  bodies =
      record {
        name = codes "main";
        kind = kinds.Task;
        labels = [];
        stmts =
            stmts.Call names.TkDefInt (args.Number (pos 1) ∷ args.Body 2 ∷ []) ∷
            [];
      } ∷
      record {
        name = codes "h";
        kind = kinds.Hand;
        labels = [];
        stmts =
            stmts.Call names.TkCreSem (args.List 0 ∷ args.Number (pos 0) ∷ args.Number (pos 1) ∷ []) ∷
            stmts.Call names.TdLstSem (args.Number (pos 0) ∷ args.Number (pos 1) ∷ []) ∷
            stmts.Call names.TdLstFlg (args.Number (pos 0) ∷ args.Number (pos 0) ∷ []) ∷
            stmts.Call names.TkCreFlg (args.List 0 ∷ args.Number (pos 0) ∷ []) ∷
            stmts.Call names.TdLstFlg (args.Number (pos 0) ∷ args.Number (pos 1) ∷ []) ∷
            stmts.Call names.TdLstMbx (args.Number (pos 0) ∷ args.Number (pos 0) ∷ []) ∷
            stmts.Call names.TkCreMbx (args.List 0 ∷ []) ∷
            stmts.Call names.TdLstMbx (args.Number (pos 0) ∷ args.Number (pos 1) ∷ []) ∷
            stmts.Call names.TdLstMtx (args.Number (pos 0) ∷ args.Number (pos 0) ∷ []) ∷
            stmts.Call names.TkCreMtx (args.List 0 ∷ args.Number (pos 0) ∷ []) ∷
            stmts.Call names.TdLstMtx (args.Number (pos 0) ∷ args.Number (pos 1) ∷ []) ∷
            stmts.Call names.TdLstMbf (args.Number (pos 0) ∷ args.Number (pos 0) ∷ []) ∷
            stmts.Call names.TkCreMbf (args.List 0 ∷ args.Number (pos 64) ∷ args.Number (pos 16) ∷ []) ∷
            stmts.Call names.TdLstMbf (args.Number (pos 0) ∷ args.Number (pos 1) ∷ []) ∷
            stmts.Call names.TdLstMpf (args.Number (pos 0) ∷ args.Number (pos 0) ∷ []) ∷
            stmts.Call names.TkCreMpf (args.List 0 ∷ args.Number (pos 1) ∷ args.Number (pos 16) ∷ []) ∷
            stmts.Call names.TdLstMpf (args.Number (pos 0) ∷ args.Number (pos 1) ∷ []) ∷
            stmts.Call names.TdLstMpl (args.Number (pos 0) ∷ args.Number (pos 0) ∷ []) ∷
            stmts.Call names.TkCreMpl (args.List 0 ∷ args.Number (pos 64) ∷ []) ∷
            stmts.Call names.TdLstMpl (args.Number (pos 0) ∷ args.Number (pos 1) ∷ []) ∷
            stmts.Call names.TdLstCyc (args.Number (pos 0) ∷ args.Number (pos 0) ∷ []) ∷
            stmts.Call names.TkCreCyc (args.List 0 ∷ args.Body 2 ∷ args.Number (pos 1) ∷ args.Number (pos 0) ∷ []) ∷
            stmts.Call names.TdLstCyc (args.Number (pos 0) ∷ args.Number (pos 1) ∷ []) ∷
            stmts.Call names.TdLstAlm (args.Number (pos 0) ∷ args.Number (pos 0) ∷ []) ∷
            stmts.Call names.TkCreAlm (args.List 0 ∷ args.Body 2 ∷ []) ∷
            stmts.Call names.TdLstAlm (args.Number (pos 0) ∷ args.Number (pos 1) ∷ []) ∷
            stmts.Call names.TdLstSsy (args.Number (pos 0) ∷ args.Number (pos 0) ∷ []) ∷
            stmts.Call names.TkDefSsy (args.Number (pos 200) ∷ args.Body 3 ∷ []) ∷
            stmts.Call names.TdLstSsy (args.Number (pos 0) ∷ args.Number (pos 1) ∷ []) ∷
            stmts.Call names.TdLstTsk (args.Number (pos 0) ∷ args.Number (pos 0) ∷ []) ∷
            stmts.Call names.TkDelSem (args.Number (pos 1) ∷ []) ∷
            stmts.Call names.TdLstSem (args.Number (pos 0) ∷ args.Number (pos 1) ∷ []) ∷
            stmts.Load 5 (operands.Number (pos 0)) ∷
            stmts.Show (operands.Register 5) ∷
            [];
      } ∷
      record {
        name = codes "s";
        kind = kinds.Svc;
        labels = [];
        stmts =
            [];
      } ∷
      [];
}

objects_of_each_kind_entries : List Entry
objects_of_each_kind_entries = []

objects_of_each_kind_lines : List ℕ
objects_of_each_kind_lines =
    codes "0 D 1\n" ++
    codes "1 C 1 tk_def_int 0\n" ++
    codes "2 I int 1\n" ++
    codes "3 C 0 tk_cre_sem 1\n" ++
    codes "4 C 0 td_lst_sem 1\n" ++
    codes "5 C 0 td_lst_flg 0\n" ++
    codes "6 C 0 tk_cre_flg 1\n" ++
    codes "7 C 0 td_lst_flg 1\n" ++
    codes "8 C 0 td_lst_mbx 0\n" ++
    codes "9 C 0 tk_cre_mbx 1\n" ++
    codes "10 C 0 td_lst_mbx 1\n" ++
    codes "11 C 0 td_lst_mtx 0\n" ++
    codes "12 C 0 tk_cre_mtx 1\n" ++
    codes "13 C 0 td_lst_mtx 1\n" ++
    codes "14 C 0 td_lst_mbf 0\n" ++
    codes "15 C 0 tk_cre_mbf 1\n" ++
    codes "16 C 0 td_lst_mbf 1\n" ++
    codes "17 C 0 td_lst_mpf 0\n" ++
    codes "18 C 0 tk_cre_mpf 1\n" ++
    codes "19 C 0 td_lst_mpf 1\n" ++
    codes "20 C 0 td_lst_mpl 0\n" ++
    codes "21 C 0 tk_cre_mpl 1\n" ++
    codes "22 C 0 td_lst_mpl 1\n" ++
    codes "23 C 0 td_lst_cyc 0\n" ++
    codes "24 C 0 tk_cre_cyc 1\n" ++
    codes "25 C 0 td_lst_cyc 1\n" ++
    codes "26 C 0 td_lst_alm 0\n" ++
    codes "27 C 0 tk_cre_alm 1\n" ++
    codes "28 C 0 td_lst_alm 1\n" ++
    codes "29 C 0 td_lst_ssy 0\n" ++
    codes "30 C 0 tk_def_ssy 0\n" ++
    codes "31 C 0 td_lst_ssy 1\n" ++
    codes "32 C 0 td_lst_tsk 1\n" ++
    codes "33 C 0 tk_del_sem 0\n" ++
    codes "34 C 0 td_lst_sem 0\n" ++
    codes "36 S 0 200\n" ++
    codes "38 C 1 tk_ext_tsk 0\n" ++
    codes "38 D 0\n" ++
    codes "38 END idle\n" ++
    []

objects_of_each_kind_run : text_of_lines (lines_of (trace objects_of_each_kind_script modes.Free 100000 objects_of_each_kind_entries)) ≡ objects_of_each_kind_lines
unfolding objects_of_each_kind_script objects_of_each_kind_entries objects_of_each_kind_lines text_of form_of named made task_call_name sem_flag_call_name mutex_call_name mail_call_name pool_call_name time_call_name context_call_name device_call_name hook_call_name name_of code_of error_text coded error_named attributes_of flag_mode_of open_mode_of suspend_mode_of is_name_byte name_at_most why_text value_text words_of text_of_line text_of_lines fetch give call_before create_sem create_flag end_first delete_sem delete_flag refer_sem refer_flag signal_sem set_flag clear_flag wait_sem wait_flag sem_flag_call serve_sem serve_flag first_served serve_sem_flag sem_trial flag_trial chosen free_task create_task delete_task start_task exit_task terminate_task change_priority rotate_ready get_task refer_task sleep delay wake_up cancel_wakeups release_wait suspend_task resume_task task_call mark_of allowed free_from first_serving serve_box serve_mailboxes serve_buffer serve_buffers post create_box delete_box send_box receive_box refer_box create_buffer delete_buffer send_buffer receive_buffer refer_buffer mail_call create_mutex lock_mutex unlock_mutex refer_mutex delete_mutex mutex_call change_priority_beside task_call_beside chain_has current_of resettle free_last ceiling_allows serve_mutex serve_mutexes create_fixed delete_fixed get_fixed release_fixed refer_fixed create_variable delete_variable get_variable release_variable refer_variable pool_call first_free serve_fixed serve_fixed_pools serve_variable serve_variable_pools set_time get_time get_operating_time create_cyclic start_cyclic stop_cyclic delete_cyclic refer_cyclic create_alarm start_alarm stop_alarm delete_alarm refer_alarm time_call body_of next_due again define_handler disable_dispatch enable_dispatch disable_interrupts enable_interrupts refer_system define_service refer_service enter_service context_call left list_existing list_ready list_queue set_hook hook_call open_device refer_device request request_whole wait_ending close_device suspend_devices device_call expected arrive hand_over hand_first messages emptied read_bytes write_bytes accept picked serve_acceptance serve_acceptances serve_ending serve_endings is_with_driver serve_close serve_closes serve_suspension events_sent free_descriptor free_request first_queued at_driver accepted dropped handed asked devices_start block is_last blocks unit cut may_cut arrived entered returned body_returned family_call answered called follow_release follow_each with_releases dispatched followed insert_once with_requests handler_begun due_begun interrupt_begun served_within settle freed_within fallen due_done tick state_after worked counted step sync_runs sync_run entered_2 runs start trace acted ran turn_of done_turn first_serving_2 serve_object state_start digits
objects_of_each_kind_run = refl

-- The receivers and the senders of message buffers and the waiters of both kinds of pools, in the order of their queue. Receivers stand
-- by time, also where the buffer orders its senders by priority.
queues_of_buffers_and_pools_script : Script
queues_of_buffers_and_pools_script = record {
  devices = [];
  pace = None;
  irqs = [];
  boot = record { body = 1; priority = 10 };
  bodies =
      record {
        name = codes "main";
        kind = kinds.Task;
        labels = [];
        stmts =
            stmts.Call names.TkCreMbf (args.List 128 ∷ args.Number (pos 0) ∷ args.Number (pos 8) ∷ []) ∷
            stmts.Call names.TkCreMbf (args.List 128 ∷ args.Number (pos 0) ∷ args.Number (pos 8) ∷ []) ∷
            stmts.Call names.TkCreMpf (args.List 64 ∷ args.Number (pos 1) ∷ args.Number (pos 16) ∷ []) ∷
            stmts.Call names.TkCreMpl (args.List 128 ∷ args.Number (pos 8) ∷ []) ∷
            stmts.Call names.TkGetMpf (args.Number (pos 1) ∷ args.Number (negsuc 0) ∷ []) ∷
            stmts.Call names.TkGetMpl (args.Number (pos 1) ∷ args.Number (pos 1) ∷ args.Number (negsuc 0) ∷ []) ∷
            stmts.Call names.TkCreTsk (args.List 0 ∷ args.Body 2 ∷ args.Number (pos 6) ∷ args.Number (pos 512) ∷ []) ∷
            stmts.Call names.TkCreTsk (args.List 0 ∷ args.Body 2 ∷ args.Number (pos 5) ∷ args.Number (pos 512) ∷ []) ∷
            stmts.Call names.TkStaTsk (args.Number (pos 2) ∷ args.Number (pos 0) ∷ []) ∷
            stmts.Call names.TkStaTsk (args.Number (pos 3) ∷ args.Number (pos 0) ∷ []) ∷
            stmts.Call names.TdRmbfQue (args.Number (pos 1) ∷ args.Number (pos 100) ∷ args.Number (pos 2) ∷ []) ∷
            stmts.Call names.TdSmbfQue (args.Number (pos 1) ∷ args.Number (pos 100) ∷ args.Number (pos 2) ∷ []) ∷
            stmts.Load 5 (operands.Number (pos 100)) ∷
            stmts.Show (operands.Register 5) ∷
            stmts.Call names.TkRelWai (args.Number (pos 2) ∷ []) ∷
            stmts.Call names.TkRelWai (args.Number (pos 3) ∷ []) ∷
            stmts.Call names.TdSmbfQue (args.Number (pos 2) ∷ args.Number (pos 100) ∷ args.Number (pos 2) ∷ []) ∷
            stmts.Call names.TdRmbfQue (args.Number (pos 2) ∷ args.Number (pos 100) ∷ args.Number (pos 2) ∷ []) ∷
            stmts.Load 5 (operands.Number (pos 100)) ∷
            stmts.Show (operands.Register 5) ∷
            stmts.Call names.TkRelWai (args.Number (pos 2) ∷ []) ∷
            stmts.Call names.TkRelWai (args.Number (pos 3) ∷ []) ∷
            stmts.Call names.TdMpfQue (args.Number (pos 1) ∷ args.Number (pos 100) ∷ args.Number (pos 2) ∷ []) ∷
            stmts.Load 5 (operands.Number (pos 104)) ∷
            stmts.Show (operands.Register 5) ∷
            stmts.Call names.TkRelWai (args.Number (pos 2) ∷ []) ∷
            stmts.Call names.TkRelWai (args.Number (pos 3) ∷ []) ∷
            stmts.Call names.TdMplQue (args.Number (pos 1) ∷ args.Number (pos 100) ∷ args.Number (pos 2) ∷ []) ∷
            stmts.Load 5 (operands.Number (pos 104)) ∷
            stmts.Show (operands.Register 5) ∷
            stmts.Call names.TdSmbfQue (args.Number (pos 65) ∷ args.Number (pos 100) ∷ args.Number (pos 1) ∷ []) ∷
            stmts.Call names.TdRmbfQue (args.Number (pos 3) ∷ args.Number (pos 65533) ∷ args.Number (pos 1) ∷ []) ∷
            stmts.Call names.TdMpfQue (args.Number (pos 2) ∷ args.Number (pos 100) ∷ args.Number (pos 1) ∷ []) ∷
            stmts.Call names.TdMplQue (args.Number (pos 1) ∷ args.Number (negsuc 0) ∷ args.Number (pos 1) ∷ []) ∷
            stmts.Halt ∷
            [];
      } ∷
      record {
        name = codes "w";
        kind = kinds.Task;
        labels = [];
        stmts =
            stmts.Call names.TkRcvMbf (args.Number (pos 1) ∷ args.Number (pos 0) ∷ args.Number (negsuc 0) ∷ []) ∷
            stmts.Call names.TkSndMbf (args.Number (pos 2) ∷ args.Number (pos 0) ∷ args.Number (pos 4) ∷ args.Number (negsuc 0) ∷ []) ∷
            stmts.Call names.TkGetMpf (args.Number (pos 1) ∷ args.Number (negsuc 0) ∷ []) ∷
            stmts.Call names.TkGetMpl (args.Number (pos 1) ∷ args.Number (pos 8) ∷ args.Number (negsuc 0) ∷ []) ∷
            [];
      } ∷
      [];
}

queues_of_buffers_and_pools_entries : List Entry
queues_of_buffers_and_pools_entries = []

queues_of_buffers_and_pools_lines : List ℕ
queues_of_buffers_and_pools_lines =
    codes "0 D 1\n" ++
    codes "1 C 1 tk_cre_mbf 1\n" ++
    codes "2 C 1 tk_cre_mbf 2\n" ++
    codes "3 C 1 tk_cre_mpf 1\n" ++
    codes "4 C 1 tk_cre_mpl 1\n" ++
    codes "5 C 1 tk_get_mpf 1\n" ++
    codes "6 C 1 tk_get_mpl 0\n" ++
    codes "7 C 1 tk_cre_tsk 2\n" ++
    codes "8 C 1 tk_cre_tsk 3\n" ++
    codes "9 C 1 tk_sta_tsk 0\n" ++
    codes "9 D 2\n" ++
    codes "10 B 2 tk_rcv_mbf\n" ++
    codes "10 D 1\n" ++
    codes "11 C 1 tk_sta_tsk 0\n" ++
    codes "11 D 3\n" ++
    codes "12 B 3 tk_rcv_mbf\n" ++
    codes "12 D 1\n" ++
    codes "13 C 1 td_rmbf_que 2\n" ++
    codes "14 C 1 td_smbf_que 0\n" ++
    codes "16 S 1 2\n" ++
    codes "17 C 1 tk_rel_wai 0\n" ++
    codes "17 W 2 tk_rcv_mbf E_RLWAI\n" ++
    codes "17 D 2\n" ++
    codes "18 B 2 tk_snd_mbf\n" ++
    codes "18 D 1\n" ++
    codes "19 C 1 tk_rel_wai 0\n" ++
    codes "19 W 3 tk_rcv_mbf E_RLWAI\n" ++
    codes "19 D 3\n" ++
    codes "20 B 3 tk_snd_mbf\n" ++
    codes "20 D 1\n" ++
    codes "21 C 1 td_smbf_que 2\n" ++
    codes "22 C 1 td_rmbf_que 0\n" ++
    codes "24 S 1 3\n" ++
    codes "25 C 1 tk_rel_wai 0\n" ++
    codes "25 W 2 tk_snd_mbf E_RLWAI\n" ++
    codes "25 D 2\n" ++
    codes "26 B 2 tk_get_mpf\n" ++
    codes "26 D 1\n" ++
    codes "27 C 1 tk_rel_wai 0\n" ++
    codes "27 W 3 tk_snd_mbf E_RLWAI\n" ++
    codes "27 D 3\n" ++
    codes "28 B 3 tk_get_mpf\n" ++
    codes "28 D 1\n" ++
    codes "29 C 1 td_mpf_que 2\n" ++
    codes "31 S 1 3\n" ++
    codes "32 C 1 tk_rel_wai 0\n" ++
    codes "32 W 2 tk_get_mpf E_RLWAI\n" ++
    codes "32 D 2\n" ++
    codes "33 B 2 tk_get_mpl\n" ++
    codes "33 D 1\n" ++
    codes "34 C 1 tk_rel_wai 0\n" ++
    codes "34 W 3 tk_get_mpf E_RLWAI\n" ++
    codes "34 D 3\n" ++
    codes "35 B 3 tk_get_mpl\n" ++
    codes "35 D 1\n" ++
    codes "36 C 1 td_mpl_que 2\n" ++
    codes "38 S 1 2\n" ++
    codes "39 C 1 td_smbf_que E_ID\n" ++
    codes "40 C 1 td_rmbf_que E_PAR\n" ++
    codes "41 C 1 td_mpf_que E_NOEXS\n" ++
    codes "42 C 1 td_mpl_que E_PAR\n" ++
    codes "43 END halt\n" ++
    []

queues_of_buffers_and_pools_run : text_of_lines (lines_of (trace queues_of_buffers_and_pools_script modes.Free 100000 queues_of_buffers_and_pools_entries)) ≡ queues_of_buffers_and_pools_lines
unfolding queues_of_buffers_and_pools_script queues_of_buffers_and_pools_entries queues_of_buffers_and_pools_lines text_of form_of named made task_call_name sem_flag_call_name mutex_call_name mail_call_name pool_call_name time_call_name context_call_name device_call_name hook_call_name name_of code_of error_text coded error_named attributes_of flag_mode_of open_mode_of suspend_mode_of is_name_byte name_at_most why_text value_text words_of text_of_line text_of_lines fetch give call_before create_sem create_flag end_first delete_sem delete_flag refer_sem refer_flag signal_sem set_flag clear_flag wait_sem wait_flag sem_flag_call serve_sem serve_flag first_served serve_sem_flag sem_trial flag_trial chosen free_task create_task delete_task start_task exit_task terminate_task change_priority rotate_ready get_task refer_task sleep delay wake_up cancel_wakeups release_wait suspend_task resume_task task_call mark_of allowed free_from first_serving serve_box serve_mailboxes serve_buffer serve_buffers post create_box delete_box send_box receive_box refer_box create_buffer delete_buffer send_buffer receive_buffer refer_buffer mail_call create_mutex lock_mutex unlock_mutex refer_mutex delete_mutex mutex_call change_priority_beside task_call_beside chain_has current_of resettle free_last ceiling_allows serve_mutex serve_mutexes create_fixed delete_fixed get_fixed release_fixed refer_fixed create_variable delete_variable get_variable release_variable refer_variable pool_call first_free serve_fixed serve_fixed_pools serve_variable serve_variable_pools set_time get_time get_operating_time create_cyclic start_cyclic stop_cyclic delete_cyclic refer_cyclic create_alarm start_alarm stop_alarm delete_alarm refer_alarm time_call body_of next_due again define_handler disable_dispatch enable_dispatch disable_interrupts enable_interrupts refer_system define_service refer_service enter_service context_call left list_existing list_ready list_queue set_hook hook_call open_device refer_device request request_whole wait_ending close_device suspend_devices device_call expected arrive hand_over hand_first messages emptied read_bytes write_bytes accept picked serve_acceptance serve_acceptances serve_ending serve_endings is_with_driver serve_close serve_closes serve_suspension events_sent free_descriptor free_request first_queued at_driver accepted dropped handed asked devices_start block is_last blocks unit cut may_cut arrived entered returned body_returned family_call answered called follow_release follow_each with_releases dispatched followed insert_once with_requests handler_begun due_begun interrupt_begun served_within settle freed_within fallen due_done tick state_after worked counted step sync_runs sync_run entered_2 runs start trace acted ran turn_of done_turn first_serving_2 serve_object state_start digits
queues_of_buffers_and_pools_run = refl

-- The waiters of a semaphore, a flag, a mailbox and a mutex in the order of their queue; a changed priority changes the place, and a
-- suspended waiter keeps it. Of the errors the ID comes first, then the numbers, then the missing object.
queues_of_waiters_script : Script
queues_of_waiters_script = record {
  devices = [];
  pace = None;
  irqs = [];
  boot = record { body = 1; priority = 10 };
  bodies =
      record {
        name = codes "main";
        kind = kinds.Task;
        labels = [];
        stmts =
            stmts.Call names.TkCreSem (args.List 128 ∷ args.Number (pos 0) ∷ args.Number (pos 1) ∷ []) ∷
            stmts.Call names.TkCreFlg (args.List 2112 ∷ args.Number (pos 0) ∷ []) ∷
            stmts.Call names.TkCreMbx (args.List 128 ∷ []) ∷
            stmts.Call names.TkCreMtx (args.List 128 ∷ args.Number (pos 0) ∷ []) ∷
            stmts.Call names.TkLocMtx (args.Number (pos 1) ∷ args.Number (negsuc 0) ∷ []) ∷
            stmts.Call names.TkCreTsk (args.List 0 ∷ args.Body 2 ∷ args.Number (pos 6) ∷ args.Number (pos 512) ∷ []) ∷
            stmts.Call names.TkCreTsk (args.List 0 ∷ args.Body 2 ∷ args.Number (pos 5) ∷ args.Number (pos 512) ∷ []) ∷
            stmts.Call names.TkStaTsk (args.Number (pos 2) ∷ args.Number (pos 0) ∷ []) ∷
            stmts.Call names.TkStaTsk (args.Number (pos 3) ∷ args.Number (pos 0) ∷ []) ∷
            stmts.Call names.TdSemQue (args.Number (pos 1) ∷ args.Number (pos 0) ∷ args.Number (pos 2) ∷ []) ∷
            stmts.Load 5 (operands.Number (pos 0)) ∷
            stmts.Show (operands.Register 5) ∷
            stmts.Call names.TkRelWai (args.Number (pos 2) ∷ []) ∷
            stmts.Call names.TkRelWai (args.Number (pos 3) ∷ []) ∷
            stmts.Call names.TdFlgQue (args.Number (pos 1) ∷ args.Number (pos 0) ∷ args.Number (pos 2) ∷ []) ∷
            stmts.Load 5 (operands.Number (pos 0)) ∷
            stmts.Show (operands.Register 5) ∷
            stmts.Call names.TkRelWai (args.Number (pos 2) ∷ []) ∷
            stmts.Call names.TkRelWai (args.Number (pos 3) ∷ []) ∷
            stmts.Call names.TdMbxQue (args.Number (pos 1) ∷ args.Number (pos 0) ∷ args.Number (pos 2) ∷ []) ∷
            stmts.Load 5 (operands.Number (pos 4)) ∷
            stmts.Show (operands.Register 5) ∷
            stmts.Call names.TkRelWai (args.Number (pos 2) ∷ []) ∷
            stmts.Call names.TkRelWai (args.Number (pos 3) ∷ []) ∷
            stmts.Call names.TdMtxQue (args.Number (pos 1) ∷ args.Number (pos 0) ∷ args.Number (pos 1) ∷ []) ∷
            stmts.Load 5 (operands.Number (pos 0)) ∷
            stmts.Show (operands.Register 5) ∷
            stmts.Call names.TkChgPri (args.Number (pos 3) ∷ args.Number (pos 7) ∷ []) ∷
            stmts.Call names.TkSusTsk (args.Number (pos 2) ∷ []) ∷
            stmts.Call names.TdMtxQue (args.Number (pos 1) ∷ args.Number (pos 0) ∷ args.Number (pos 1) ∷ []) ∷
            stmts.Load 5 (operands.Number (pos 0)) ∷
            stmts.Show (operands.Register 5) ∷
            stmts.Call names.TdSemQue (args.Number (pos 0) ∷ args.Number (pos 0) ∷ args.Number (negsuc 0) ∷ []) ∷
            stmts.Call names.TdFlgQue (args.Number (pos 2) ∷ args.Number (pos 0) ∷ args.Number (negsuc 0) ∷ []) ∷
            stmts.Call names.TdMbxQue (args.Number (pos 2) ∷ args.Number (pos 0) ∷ args.Number (pos 1) ∷ []) ∷
            stmts.Call names.TdMtxQue (args.Number (pos 64) ∷ args.Number (pos 0) ∷ args.Number (pos 0) ∷ []) ∷
            stmts.Call names.TdSemQue (args.Number (pos 1) ∷ args.Number (pos 0) ∷ args.Number (pos 0) ∷ []) ∷
            stmts.Halt ∷
            [];
      } ∷
      record {
        name = codes "w";
        kind = kinds.Task;
        labels = [];
        stmts =
            stmts.Call names.TkWaiSem (args.Number (pos 1) ∷ args.Number (pos 1) ∷ args.Number (negsuc 0) ∷ []) ∷
            stmts.Call names.TkWaiFlg (args.Number (pos 1) ∷ args.Number (pos 1) ∷ args.List 2 ∷ args.Number (negsuc 0) ∷ []) ∷
            stmts.Call names.TkRcvMbx (args.Number (pos 1) ∷ args.Number (negsuc 0) ∷ []) ∷
            stmts.Call names.TkLocMtx (args.Number (pos 1) ∷ args.Number (negsuc 0) ∷ []) ∷
            [];
      } ∷
      [];
}

queues_of_waiters_entries : List Entry
queues_of_waiters_entries = []

queues_of_waiters_lines : List ℕ
queues_of_waiters_lines =
    codes "0 D 1\n" ++
    codes "1 C 1 tk_cre_sem 1\n" ++
    codes "2 C 1 tk_cre_flg 1\n" ++
    codes "3 C 1 tk_cre_mbx 1\n" ++
    codes "4 C 1 tk_cre_mtx 1\n" ++
    codes "5 C 1 tk_loc_mtx 0\n" ++
    codes "6 C 1 tk_cre_tsk 2\n" ++
    codes "7 C 1 tk_cre_tsk 3\n" ++
    codes "8 C 1 tk_sta_tsk 0\n" ++
    codes "8 D 2\n" ++
    codes "9 B 2 tk_wai_sem\n" ++
    codes "9 D 1\n" ++
    codes "10 C 1 tk_sta_tsk 0\n" ++
    codes "10 D 3\n" ++
    codes "11 B 3 tk_wai_sem\n" ++
    codes "11 D 1\n" ++
    codes "12 C 1 td_sem_que 2\n" ++
    codes "14 S 1 3\n" ++
    codes "15 C 1 tk_rel_wai 0\n" ++
    codes "15 W 2 tk_wai_sem E_RLWAI\n" ++
    codes "15 D 2\n" ++
    codes "16 B 2 tk_wai_flg\n" ++
    codes "16 D 1\n" ++
    codes "17 C 1 tk_rel_wai 0\n" ++
    codes "17 W 3 tk_wai_sem E_RLWAI\n" ++
    codes "17 D 3\n" ++
    codes "18 B 3 tk_wai_flg\n" ++
    codes "18 D 1\n" ++
    codes "19 C 1 td_flg_que 2\n" ++
    codes "21 S 1 2\n" ++
    codes "22 C 1 tk_rel_wai 0\n" ++
    codes "22 W 2 tk_wai_flg E_RLWAI\n" ++
    codes "22 D 2\n" ++
    codes "23 B 2 tk_rcv_mbx\n" ++
    codes "23 D 1\n" ++
    codes "24 C 1 tk_rel_wai 0\n" ++
    codes "24 W 3 tk_wai_flg E_RLWAI\n" ++
    codes "24 D 3\n" ++
    codes "25 B 3 tk_rcv_mbx\n" ++
    codes "25 D 1\n" ++
    codes "26 C 1 td_mbx_que 2\n" ++
    codes "28 S 1 2\n" ++
    codes "29 C 1 tk_rel_wai 0\n" ++
    codes "29 W 2 tk_rcv_mbx E_RLWAI\n" ++
    codes "29 D 2\n" ++
    codes "30 B 2 tk_loc_mtx\n" ++
    codes "30 D 1\n" ++
    codes "31 C 1 tk_rel_wai 0\n" ++
    codes "31 W 3 tk_rcv_mbx E_RLWAI\n" ++
    codes "31 D 3\n" ++
    codes "32 B 3 tk_loc_mtx\n" ++
    codes "32 D 1\n" ++
    codes "33 C 1 td_mtx_que 2\n" ++
    codes "35 S 1 3\n" ++
    codes "36 C 1 tk_chg_pri 0\n" ++
    codes "37 C 1 tk_sus_tsk 0\n" ++
    codes "38 C 1 td_mtx_que 2\n" ++
    codes "40 S 1 2\n" ++
    codes "41 C 1 td_sem_que E_ID\n" ++
    codes "42 C 1 td_flg_que E_PAR\n" ++
    codes "43 C 1 td_mbx_que E_NOEXS\n" ++
    codes "44 C 1 td_mtx_que E_NOEXS\n" ++
    codes "45 C 1 td_sem_que 0\n" ++
    codes "46 END halt\n" ++
    []

queues_of_waiters_run : text_of_lines (lines_of (trace queues_of_waiters_script modes.Free 100000 queues_of_waiters_entries)) ≡ queues_of_waiters_lines
unfolding queues_of_waiters_script queues_of_waiters_entries queues_of_waiters_lines text_of form_of named made task_call_name sem_flag_call_name mutex_call_name mail_call_name pool_call_name time_call_name context_call_name device_call_name hook_call_name name_of code_of error_text coded error_named attributes_of flag_mode_of open_mode_of suspend_mode_of is_name_byte name_at_most why_text value_text words_of text_of_line text_of_lines fetch give call_before create_sem create_flag end_first delete_sem delete_flag refer_sem refer_flag signal_sem set_flag clear_flag wait_sem wait_flag sem_flag_call serve_sem serve_flag first_served serve_sem_flag sem_trial flag_trial chosen free_task create_task delete_task start_task exit_task terminate_task change_priority rotate_ready get_task refer_task sleep delay wake_up cancel_wakeups release_wait suspend_task resume_task task_call mark_of allowed free_from first_serving serve_box serve_mailboxes serve_buffer serve_buffers post create_box delete_box send_box receive_box refer_box create_buffer delete_buffer send_buffer receive_buffer refer_buffer mail_call create_mutex lock_mutex unlock_mutex refer_mutex delete_mutex mutex_call change_priority_beside task_call_beside chain_has current_of resettle free_last ceiling_allows serve_mutex serve_mutexes create_fixed delete_fixed get_fixed release_fixed refer_fixed create_variable delete_variable get_variable release_variable refer_variable pool_call first_free serve_fixed serve_fixed_pools serve_variable serve_variable_pools set_time get_time get_operating_time create_cyclic start_cyclic stop_cyclic delete_cyclic refer_cyclic create_alarm start_alarm stop_alarm delete_alarm refer_alarm time_call body_of next_due again define_handler disable_dispatch enable_dispatch disable_interrupts enable_interrupts refer_system define_service refer_service enter_service context_call left list_existing list_ready list_queue set_hook hook_call open_device refer_device request request_whole wait_ending close_device suspend_devices device_call expected arrive hand_over hand_first messages emptied read_bytes write_bytes accept picked serve_acceptance serve_acceptances serve_ending serve_endings is_with_driver serve_close serve_closes serve_suspension events_sent free_descriptor free_request first_queued at_driver accepted dropped handed asked devices_start block is_last blocks unit cut may_cut arrived entered returned body_returned family_call answered called follow_release follow_each with_releases dispatched followed insert_once with_requests handler_begun due_begun interrupt_begun served_within settle freed_within fallen due_done tick state_after worked counted step sync_runs sync_run entered_2 runs start trace acted ran turn_of done_turn first_serving_2 serve_object state_start digits
queues_of_waiters_run = refl

-- The ready tasks of one priority in their order, the running one among them, by current and not by base priority. A resumed task and one
-- whose priority is set to what it is stand last; one that comes back from a ceiling does, too.
ready_queue_script : Script
ready_queue_script = record {
  devices = [];
  pace = None;
  irqs = [];
  boot = record { body = 1; priority = 10 };
  bodies =
      record {
        name = codes "main";
        kind = kinds.Task;
        labels = [];
        stmts =
            stmts.Call names.TkCreTsk (args.List 0 ∷ args.Body 2 ∷ args.Number (pos 10) ∷ args.Number (pos 512) ∷ []) ∷
            stmts.Call names.TkCreTsk (args.List 0 ∷ args.Body 2 ∷ args.Number (pos 10) ∷ args.Number (pos 512) ∷ []) ∷
            stmts.Call names.TkStaTsk (args.Number (pos 3) ∷ args.Number (pos 0) ∷ []) ∷
            stmts.Call names.TkStaTsk (args.Number (pos 2) ∷ args.Number (pos 0) ∷ []) ∷
            stmts.Call names.TdRdyQue (args.Number (pos 10) ∷ args.Number (pos 0) ∷ args.Number (pos 9) ∷ []) ∷
            stmts.Load 5 (operands.Number (pos 0)) ∷
            stmts.Show (operands.Register 5) ∷
            stmts.Load 5 (operands.Number (pos 4)) ∷
            stmts.Show (operands.Register 5) ∷
            stmts.Load 5 (operands.Number (pos 8)) ∷
            stmts.Show (operands.Register 5) ∷
            stmts.Call names.TkSusTsk (args.Number (pos 3) ∷ []) ∷
            stmts.Call names.TdRdyQue (args.Number (pos 10) ∷ args.Number (pos 0) ∷ args.Number (pos 0) ∷ []) ∷
            stmts.Call names.TkRsmTsk (args.Number (pos 3) ∷ []) ∷
            stmts.Call names.TkChgPri (args.Number (pos 2) ∷ args.Number (pos 10) ∷ []) ∷
            stmts.Call names.TkCreMtx (args.List 32768 ∷ args.Number (pos 5) ∷ []) ∷
            stmts.Call names.TkLocMtx (args.Number (pos 1) ∷ args.Number (negsuc 0) ∷ []) ∷
            stmts.Call names.TdRdyQue (args.Number (pos 10) ∷ args.Number (pos 12) ∷ args.Number (pos 1) ∷ []) ∷
            stmts.Load 5 (operands.Number (pos 12)) ∷
            stmts.Show (operands.Register 5) ∷
            stmts.Call names.TdRdyQue (args.Number (pos 5) ∷ args.Number (pos 12) ∷ args.Number (pos 1) ∷ []) ∷
            stmts.Load 5 (operands.Number (pos 12)) ∷
            stmts.Show (operands.Register 5) ∷
            stmts.Call names.TdRdyQue (args.Number (pos 0) ∷ args.Number (pos 0) ∷ args.Number (pos 1) ∷ []) ∷
            stmts.Call names.TdRdyQue (args.Number (pos 141) ∷ args.Number (pos 0) ∷ args.Number (pos 1) ∷ []) ∷
            stmts.Call names.TdRdyQue (args.Number (pos 10) ∷ args.Number (pos 65533) ∷ args.Number (pos 1) ∷ []) ∷
            stmts.Call names.TdRdyQue (args.Number (pos 140) ∷ args.Number (pos 65536) ∷ args.Number (pos 0) ∷ []) ∷
            stmts.Call names.TkUnlMtx (args.Number (pos 1) ∷ []) ∷
            [];
      } ∷
      record {
        name = codes "x";
        kind = kinds.Task;
        labels = [];
        stmts =
            stmts.Call names.TdRdyQue (args.Number (pos 10) ∷ args.Number (pos 20) ∷ args.Number (pos 3) ∷ []) ∷
            stmts.Load 5 (operands.Number (pos 28)) ∷
            stmts.Show (operands.Register 5) ∷
            stmts.Halt ∷
            [];
      } ∷
      [];
}

ready_queue_entries : List Entry
ready_queue_entries = []

ready_queue_lines : List ℕ
ready_queue_lines =
    codes "0 D 1\n" ++
    codes "1 C 1 tk_cre_tsk 2\n" ++
    codes "2 C 1 tk_cre_tsk 3\n" ++
    codes "3 C 1 tk_sta_tsk 0\n" ++
    codes "4 C 1 tk_sta_tsk 0\n" ++
    codes "5 C 1 td_rdy_que 3\n" ++
    codes "7 S 1 1\n" ++
    codes "9 S 1 3\n" ++
    codes "11 S 1 2\n" ++
    codes "12 C 1 tk_sus_tsk 0\n" ++
    codes "13 C 1 td_rdy_que 2\n" ++
    codes "14 C 1 tk_rsm_tsk 0\n" ++
    codes "15 C 1 tk_chg_pri 0\n" ++
    codes "16 C 1 tk_cre_mtx 1\n" ++
    codes "17 C 1 tk_loc_mtx 0\n" ++
    codes "18 C 1 td_rdy_que 2\n" ++
    codes "20 S 1 3\n" ++
    codes "21 C 1 td_rdy_que 1\n" ++
    codes "23 S 1 1\n" ++
    codes "24 C 1 td_rdy_que E_PAR\n" ++
    codes "25 C 1 td_rdy_que E_PAR\n" ++
    codes "26 C 1 td_rdy_que E_PAR\n" ++
    codes "27 C 1 td_rdy_que 0\n" ++
    codes "28 C 1 tk_unl_mtx 0\n" ++
    codes "28 D 3\n" ++
    codes "29 C 3 td_rdy_que 3\n" ++
    codes "31 S 3 1\n" ++
    codes "32 END halt\n" ++
    []

ready_queue_run : text_of_lines (lines_of (trace ready_queue_script modes.Free 100000 ready_queue_entries)) ≡ ready_queue_lines
unfolding ready_queue_script ready_queue_entries ready_queue_lines text_of form_of named made task_call_name sem_flag_call_name mutex_call_name mail_call_name pool_call_name time_call_name context_call_name device_call_name hook_call_name name_of code_of error_text coded error_named attributes_of flag_mode_of open_mode_of suspend_mode_of is_name_byte name_at_most why_text value_text words_of text_of_line text_of_lines fetch give call_before create_sem create_flag end_first delete_sem delete_flag refer_sem refer_flag signal_sem set_flag clear_flag wait_sem wait_flag sem_flag_call serve_sem serve_flag first_served serve_sem_flag sem_trial flag_trial chosen free_task create_task delete_task start_task exit_task terminate_task change_priority rotate_ready get_task refer_task sleep delay wake_up cancel_wakeups release_wait suspend_task resume_task task_call mark_of allowed free_from first_serving serve_box serve_mailboxes serve_buffer serve_buffers post create_box delete_box send_box receive_box refer_box create_buffer delete_buffer send_buffer receive_buffer refer_buffer mail_call create_mutex lock_mutex unlock_mutex refer_mutex delete_mutex mutex_call change_priority_beside task_call_beside chain_has current_of resettle free_last ceiling_allows serve_mutex serve_mutexes create_fixed delete_fixed get_fixed release_fixed refer_fixed create_variable delete_variable get_variable release_variable refer_variable pool_call first_free serve_fixed serve_fixed_pools serve_variable serve_variable_pools set_time get_time get_operating_time create_cyclic start_cyclic stop_cyclic delete_cyclic refer_cyclic create_alarm start_alarm stop_alarm delete_alarm refer_alarm time_call body_of next_due again define_handler disable_dispatch enable_dispatch disable_interrupts enable_interrupts refer_system define_service refer_service enter_service context_call left list_existing list_ready list_queue set_hook hook_call open_device refer_device request request_whole wait_ending close_device suspend_devices device_call expected arrive hand_over hand_first messages emptied read_bytes write_bytes accept picked serve_acceptance serve_acceptances serve_ending serve_endings is_with_driver serve_close serve_closes serve_suspension events_sent free_descriptor free_request first_queued at_driver accepted dropped handed asked devices_start block is_last blocks unit cut may_cut arrived entered returned body_returned family_call answered called follow_release follow_each with_releases dispatched followed insert_once with_requests handler_begun due_begun interrupt_begun served_within settle freed_within fallen due_done tick state_after worked counted step sync_runs sync_run entered_2 runs start trace acted ran turn_of done_turn first_serving_2 serve_object state_start digits
ready_queue_run = refl
