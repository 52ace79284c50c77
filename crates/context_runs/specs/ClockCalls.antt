-- Runs that were worked out by hand from the rules, as runs/context/clock_calls has them: each a theorem by computation.
use Rattle.std.specs.Prelude.{ℕ, pos, negsuc, List, [], ◌∷◌, ◌++◌, Some, None, codes, ◌≡◌, refl}
use Rattle.std.specs.Fmt.{digits}
use Rattle.tk_types.specs.declared.script.Script.{Script}
use Rattle.tk_types.specs.declared.script.BodyKind.TheVariants as kinds
use Rattle.tk_types.specs.declared.script.Kind.TheVariants as devices
use Rattle.tk_types.specs.declared.script.Stmt.TheVariants as stmts
use Rattle.tk_types.specs.declared.script.Operand.TheVariants as operands
use Rattle.tk_types.specs.declared.script.Operation.TheVariants as operations
use Rattle.tk_types.specs.declared.script.Condition.TheVariants as conditions
use Rattle.tk_types.specs.declared.script.Arg.TheVariants as args
use Rattle.tk_types.specs.declared.call_name.CallName.TheVariants as names
use Rattle.tk_types.specs.declared.line.Entry.{Entry}
use Rattle.tk_types.specs.declared.line.How.TheVariants as hows
use Rattle.tk_types.specs.declared.run.Mode.TheVariants as modes
use Rattle.tk_types.specs.CallNames.{text_of, form_of, named}
use Rattle.tk_types.specs.Calls.{made, task_call_name, sem_flag_call_name, mutex_call_name, mail_call_name, pool_call_name, time_call_name, context_call_name, device_call_name, hook_call_name, name_of}
use Rattle.tk_types.specs.Codes.{code_of, error_text, coded, error_named}
use Rattle.tk_types.specs.Modes.{attributes_of, flag_mode_of, open_mode_of, suspend_mode_of}
use Rattle.tk_types.specs.Names.{is_name_byte, name_at_most}
use Rattle.tk_types.specs.Reasons.{why_text}
use Rattle.tk_model.specs.LineText.{value_text, words_of, text_of_line, text_of_lines}
use Rattle.kernel_model.specs.Bodies.Statements.{fetch, give, call_before}
use Rattle.kernel_model.specs.SemFlags.Calls.{create_sem, create_flag, end_first, delete_sem, delete_flag, refer_sem, refer_flag, signal_sem, set_flag, clear_flag, wait_sem, wait_flag, sem_flag_call}
use Rattle.kernel_model.specs.SemFlags.Tables.{serve_sem, serve_flag, first_served, serve_sem_flag}
use Rattle.kernel_model.specs.SemFlags.Trial.{sem_trial, flag_trial}
use Rattle.kernel_model.specs.Tasks.Base.{chosen, free_task}
use Rattle.kernel_model.specs.Tasks.Calls.{create_task, delete_task, start_task, exit_task, terminate_task, change_priority, rotate_ready, get_task, refer_task, sleep, delay, wake_up, cancel_wakeups, release_wait, suspend_task, resume_task, task_call}
use Rattle.kernel_model.specs.Tasks.Marks.{mark_of, allowed}
use Rattle.kernel_model.specs.Words.Orders.{free_from}
use Rattle.object_model.specs.Servings.{first_serving}
use Rattle.object_model.specs.Mails.Boxes.{serve_box, serve_mailboxes}
use Rattle.object_model.specs.Mails.Buffers.{serve_buffer, serve_buffers, post}
use Rattle.object_model.specs.Mails.Calls.{create_box, delete_box, send_box, receive_box, refer_box, create_buffer, delete_buffer, send_buffer, receive_buffer, refer_buffer, mail_call}
use Rattle.object_model.specs.Mutexes.Calls.{create_mutex, lock_mutex, unlock_mutex, refer_mutex, delete_mutex, mutex_call, change_priority_beside, task_call_beside}
use Rattle.object_model.specs.Mutexes.Priority.{chain_has, current_of, resettle}
use Rattle.object_model.specs.Mutexes.Tables.{free_last, ceiling_allows, serve_mutex, serve_mutexes}
use Rattle.object_model.specs.Pools.Calls.{create_fixed, delete_fixed, get_fixed, release_fixed, refer_fixed, create_variable, delete_variable, get_variable, release_variable, refer_variable, pool_call}
use Rattle.object_model.specs.Pools.Fixed.{first_free, serve_fixed, serve_fixed_pools}
use Rattle.object_model.specs.Pools.Variable.{serve_variable, serve_variable_pools}
use Rattle.context_model.specs.Clocks.Calls.{set_time, get_time, get_operating_time, create_cyclic, start_cyclic, stop_cyclic, delete_cyclic, refer_cyclic, create_alarm, start_alarm, stop_alarm, delete_alarm, refer_alarm, time_call}
use Rattle.context_model.specs.Clocks.Tables.{body_of, next_due, again}
use Rattle.context_model.specs.Contexts.Calls.{define_handler, disable_dispatch, enable_dispatch, disable_interrupts, enable_interrupts, refer_system, define_service, refer_service, enter_service, context_call}
use Rattle.context_model.specs.Contexts.Tables.{left}
use Rattle.context_model.specs.Hooks.Calls.{list_existing, list_ready, list_queue, set_hook, hook_call}
use Rattle.device_model.specs.Devices.Calls.{open_device, refer_device, request, request_whole, wait_ending, close_device, suspend_devices, device_call}
use Rattle.device_model.specs.Devices.Endings.{expected, arrive}
use Rattle.device_model.specs.Devices.Handing.{hand_over, hand_first, messages, emptied}
use Rattle.device_model.specs.Devices.Memory.{read_bytes, write_bytes}
use Rattle.device_model.specs.Devices.Requests.{accept, picked}
use Rattle.device_model.specs.Devices.Servings.{serve_acceptance, serve_acceptances, serve_ending, serve_endings, is_with_driver, serve_close, serve_closes, serve_suspension}
use Rattle.device_model.specs.Devices.Suspension.{events_sent}
use Rattle.device_model.specs.Devices.Tables.{free_descriptor, free_request, first_queued, at_driver, accepted, dropped, handed, asked, devices_start}
use Rattle.device_model.specs.Units.Blocks.{block, is_last, blocks}
use Rattle.device_model.specs.Units.Function.{unit, cut, may_cut}
use Rattle.machine_model.specs.Events.Arrivals.{arrived}
use Rattle.machine_model.specs.Events.Bodies.{entered, returned, body_returned}
use Rattle.machine_model.specs.Events.Calls.{family_call, answered, called}
use Rattle.machine_model.specs.Events.Follow.{follow_release, follow_each, with_releases, dispatched, followed}
use Rattle.machine_model.specs.Events.Handlers.{insert_once, with_requests, handler_begun, due_begun, interrupt_begun}
use Rattle.machine_model.specs.Events.Settle.{served_within, settle, freed_within}
use Rattle.machine_model.specs.Events.Ticks.{fallen, due_done, tick}
use Rattle.machine_model.specs.Runs.Reached.{state_after}
use Rattle.machine_model.specs.Runs.Step.{worked, counted, step}
use Rattle.machine_model.specs.Runs.SyncTrace.{sync_runs, sync_run}
use Rattle.machine_model.specs.Runs.Trace.{lines_of, entered as entered_2, runs, start, trace}
use Rattle.machine_model.specs.Runs.Turns.{acted, ran, turn_of, done_turn}
use Rattle.machine_model.specs.States.Objects.{first_serving as first_serving_2, serve_object}
use Rattle.machine_model.specs.States.State.{state_start}

-- The errors of the calls on cyclic and alarm handlers and on the system time: ID, attribute, number, missing object, in this order.
-- Alarms know no attributes but those without an effect.
errors_script : Script
errors_script = record {
  devices = [];
  pace = None;
  irqs = [];
  boot = record { body = 1; priority = 10 };
  bodies =
      record {
        name = codes "main";
        kind = kinds.Task;
        labels = [];
        stmts =
            stmts.Call names.TkCreCyc (args.List 128 ∷ args.Body 2 ∷ args.Number (pos 0) ∷ args.Number (pos 0) ∷ []) ∷
            stmts.Call names.TkCreCyc (args.List 196608 ∷ args.Body 2 ∷ args.Number (pos 0) ∷ args.Number (pos 0) ∷ []) ∷
            stmts.Call names.TkCreCyc (args.List 0 ∷ args.Body 2 ∷ args.Number (pos 1) ∷ args.Number (negsuc 0) ∷ []) ∷
            stmts.Call names.TkStaCyc (args.Number (pos 0) ∷ []) ∷
            stmts.Call names.TkStaCyc (args.Number (pos 65) ∷ []) ∷
            stmts.Call names.TkStaCyc (args.Number (pos 64) ∷ []) ∷
            stmts.Call names.TkStpCyc (args.Number (negsuc 0) ∷ []) ∷
            stmts.Call names.TkStpCyc (args.Number (pos 1) ∷ []) ∷
            stmts.Call names.TkRefCyc (args.Number (pos 65) ∷ []) ∷
            stmts.Call names.TkRefCyc (args.Number (pos 1) ∷ []) ∷
            stmts.Call names.TkDelCyc (args.Number (pos 0) ∷ []) ∷
            stmts.Call names.TkDelCyc (args.Number (pos 1) ∷ []) ∷
            stmts.Call names.TkCreCyc (args.List 38 ∷ args.Body 2 ∷ args.Number (pos 1) ∷ args.Number (pos 0) ∷ []) ∷
            stmts.Call names.TkDelCyc (args.Number (pos 1) ∷ []) ∷
            stmts.Call names.TkRefCyc (args.Number (pos 1) ∷ []) ∷
            stmts.Call names.TkCreAlm (args.List 65536 ∷ args.Body 2 ∷ []) ∷
            stmts.Call names.TkCreAlm (args.List 131072 ∷ args.Body 2 ∷ []) ∷
            stmts.Call names.TkStaAlm (args.Number (pos 65) ∷ args.Number (negsuc 0) ∷ []) ∷
            stmts.Call names.TkStaAlm (args.Number (pos 1) ∷ args.Number (negsuc 0) ∷ []) ∷
            stmts.Call names.TkStaAlm (args.Number (pos 1) ∷ args.Number (pos 0) ∷ []) ∷
            stmts.Call names.TkStpAlm (args.Number (pos 0) ∷ []) ∷
            stmts.Call names.TkStpAlm (args.Number (pos 1) ∷ []) ∷
            stmts.Call names.TkRefAlm (args.Number (pos 65) ∷ []) ∷
            stmts.Call names.TkRefAlm (args.Number (pos 1) ∷ []) ∷
            stmts.Call names.TkDelAlm (args.Number (pos 0) ∷ []) ∷
            stmts.Call names.TkDelAlm (args.Number (pos 64) ∷ []) ∷
            stmts.Call names.TkCreAlm (args.List 9 ∷ args.Body 2 ∷ []) ∷
            stmts.Call names.TkDelAlm (args.Number (pos 1) ∷ []) ∷
            stmts.Call names.TkStaAlm (args.Number (pos 1) ∷ args.Number (pos 0) ∷ []) ∷
            stmts.Call names.TkSetTim (args.Number (negsuc 0) ∷ args.Number (pos 0) ∷ []) ∷
            stmts.Call names.TkSetTim (args.Number (negsuc 2147483647) ∷ args.Number (negsuc 0) ∷ []) ∷
            stmts.Call names.TkGetTim ([]) ∷
            [];
      } ∷
      record {
        name = codes "c";
        kind = kinds.Hand;
        labels = [];
        stmts =
            [];
      } ∷
      [];
}

errors_entries : List Entry
errors_entries = []

errors_lines : List ℕ
errors_lines =
    codes "0 D 1\n" ++
    codes "1 C 1 tk_cre_cyc E_RSATR\n" ++
    codes "2 C 1 tk_cre_cyc E_PAR\n" ++
    codes "3 C 1 tk_cre_cyc E_PAR\n" ++
    codes "4 C 1 tk_sta_cyc E_ID\n" ++
    codes "5 C 1 tk_sta_cyc E_ID\n" ++
    codes "6 C 1 tk_sta_cyc E_NOEXS\n" ++
    codes "7 C 1 tk_stp_cyc E_ID\n" ++
    codes "8 C 1 tk_stp_cyc E_NOEXS\n" ++
    codes "9 C 1 tk_ref_cyc E_ID\n" ++
    codes "10 C 1 tk_ref_cyc E_NOEXS\n" ++
    codes "11 C 1 tk_del_cyc E_ID\n" ++
    codes "12 C 1 tk_del_cyc E_NOEXS\n" ++
    codes "13 C 1 tk_cre_cyc 1\n" ++
    codes "14 C 1 tk_del_cyc 0\n" ++
    codes "15 C 1 tk_ref_cyc E_NOEXS\n" ++
    codes "16 C 1 tk_cre_alm E_RSATR\n" ++
    codes "17 C 1 tk_cre_alm E_RSATR\n" ++
    codes "18 C 1 tk_sta_alm E_ID\n" ++
    codes "19 C 1 tk_sta_alm E_PAR\n" ++
    codes "20 C 1 tk_sta_alm E_NOEXS\n" ++
    codes "21 C 1 tk_stp_alm E_ID\n" ++
    codes "22 C 1 tk_stp_alm E_NOEXS\n" ++
    codes "23 C 1 tk_ref_alm E_ID\n" ++
    codes "24 C 1 tk_ref_alm E_NOEXS\n" ++
    codes "25 C 1 tk_del_alm E_ID\n" ++
    codes "26 C 1 tk_del_alm E_NOEXS\n" ++
    codes "27 C 1 tk_cre_alm 1\n" ++
    codes "28 C 1 tk_del_alm 0\n" ++
    codes "29 C 1 tk_sta_alm E_NOEXS\n" ++
    codes "30 C 1 tk_set_tim E_PAR\n" ++
    codes "31 C 1 tk_set_tim E_PAR\n" ++
    codes "32 C 1 tk_get_tim 0 0 0\n" ++
    codes "33 C 1 tk_ext_tsk 0\n" ++
    codes "33 D 0\n" ++
    codes "33 END idle\n" ++
    []

errors_run : text_of_lines (lines_of (trace errors_script modes.Free 100000 errors_entries)) ≡ errors_lines
unfolding errors_script errors_entries errors_lines text_of form_of named made task_call_name sem_flag_call_name mutex_call_name mail_call_name pool_call_name time_call_name context_call_name device_call_name hook_call_name name_of code_of error_text coded error_named attributes_of flag_mode_of open_mode_of suspend_mode_of is_name_byte name_at_most why_text value_text words_of text_of_line text_of_lines fetch give call_before create_sem create_flag end_first delete_sem delete_flag refer_sem refer_flag signal_sem set_flag clear_flag wait_sem wait_flag sem_flag_call serve_sem serve_flag first_served serve_sem_flag sem_trial flag_trial chosen free_task create_task delete_task start_task exit_task terminate_task change_priority rotate_ready get_task refer_task sleep delay wake_up cancel_wakeups release_wait suspend_task resume_task task_call mark_of allowed free_from first_serving serve_box serve_mailboxes serve_buffer serve_buffers post create_box delete_box send_box receive_box refer_box create_buffer delete_buffer send_buffer receive_buffer refer_buffer mail_call create_mutex lock_mutex unlock_mutex refer_mutex delete_mutex mutex_call change_priority_beside task_call_beside chain_has current_of resettle free_last ceiling_allows serve_mutex serve_mutexes create_fixed delete_fixed get_fixed release_fixed refer_fixed create_variable delete_variable get_variable release_variable refer_variable pool_call first_free serve_fixed serve_fixed_pools serve_variable serve_variable_pools set_time get_time get_operating_time create_cyclic start_cyclic stop_cyclic delete_cyclic refer_cyclic create_alarm start_alarm stop_alarm delete_alarm refer_alarm time_call body_of next_due again define_handler disable_dispatch enable_dispatch disable_interrupts enable_interrupts refer_system define_service refer_service enter_service context_call left list_existing list_ready list_queue set_hook hook_call open_device refer_device request request_whole wait_ending close_device suspend_devices device_call expected arrive hand_over hand_first messages emptied read_bytes write_bytes accept picked serve_acceptance serve_acceptances serve_ending serve_endings is_with_driver serve_close serve_closes serve_suspension events_sent free_descriptor free_request first_queued at_driver accepted dropped handed asked devices_start block is_last blocks unit cut may_cut arrived entered returned body_returned family_call answered called follow_release follow_each with_releases dispatched followed insert_once with_requests handler_begun due_begun interrupt_begun served_within settle freed_within fallen due_done tick state_after worked counted step sync_runs sync_run entered_2 runs start trace acted ran turn_of done_turn first_serving_2 serve_object state_start digits
errors_run = refl

-- There are 64 cyclic and 64 alarm handlers at most; each kind counts for itself, a deleted one's ID is free again, and a wrong number
-- is looked for before a free ID.
ids_used_up_script : Script
ids_used_up_script = record {
  devices = [];
  pace = None;
  irqs = [];
  boot = record { body = 1; priority = 10 };
  bodies =
      record {
        name = codes "main";
        kind = kinds.Task;
        labels = record { name = codes "more"; place = 1 } ∷ [];
        stmts =
            stmts.Compute operations.Set 5 (operands.Number (pos 0)) ∷
            stmts.Call names.TkCreCyc (args.List 0 ∷ args.Body 2 ∷ args.Number (pos 1) ∷ args.Number (pos 0) ∷ []) ∷
            stmts.Call names.TkCreAlm (args.List 0 ∷ args.Body 2 ∷ []) ∷
            stmts.Compute operations.Add 5 (operands.Number (pos 1)) ∷
            stmts.Jump (conditions.Less 5 (operands.Number (pos 65))) 0 ∷
            stmts.Call names.TkDelCyc (args.Number (pos 40) ∷ []) ∷
            stmts.Call names.TkDelAlm (args.Number (pos 7) ∷ []) ∷
            stmts.Call names.TkCreCyc (args.List 0 ∷ args.Body 2 ∷ args.Number (pos 1) ∷ args.Number (pos 0) ∷ []) ∷
            stmts.Call names.TkCreAlm (args.List 0 ∷ args.Body 2 ∷ []) ∷
            stmts.Call names.TkCreCyc (args.List 0 ∷ args.Body 2 ∷ args.Number (pos 0) ∷ args.Number (pos 0) ∷ []) ∷
            [];
      } ∷
      record {
        name = codes "h";
        kind = kinds.Hand;
        labels = [];
        stmts =
            [];
      } ∷
      [];
}

ids_used_up_entries : List Entry
ids_used_up_entries = []

ids_used_up_lines : List ℕ
ids_used_up_lines =
    codes "0 D 1\n" ++
    codes "2 C 1 tk_cre_cyc 1\n" ++
    codes "3 C 1 tk_cre_alm 1\n" ++
    codes "6 C 1 tk_cre_cyc 2\n" ++
    codes "7 C 1 tk_cre_alm 2\n" ++
    codes "10 C 1 tk_cre_cyc 3\n" ++
    codes "11 C 1 tk_cre_alm 3\n" ++
    codes "14 C 1 tk_cre_cyc 4\n" ++
    codes "15 C 1 tk_cre_alm 4\n" ++
    codes "18 C 1 tk_cre_cyc 5\n" ++
    codes "19 C 1 tk_cre_alm 5\n" ++
    codes "22 C 1 tk_cre_cyc 6\n" ++
    codes "23 C 1 tk_cre_alm 6\n" ++
    codes "26 C 1 tk_cre_cyc 7\n" ++
    codes "27 C 1 tk_cre_alm 7\n" ++
    codes "30 C 1 tk_cre_cyc 8\n" ++
    codes "31 C 1 tk_cre_alm 8\n" ++
    codes "34 C 1 tk_cre_cyc 9\n" ++
    codes "35 C 1 tk_cre_alm 9\n" ++
    codes "38 C 1 tk_cre_cyc 10\n" ++
    codes "39 C 1 tk_cre_alm 10\n" ++
    codes "42 C 1 tk_cre_cyc 11\n" ++
    codes "43 C 1 tk_cre_alm 11\n" ++
    codes "46 C 1 tk_cre_cyc 12\n" ++
    codes "47 C 1 tk_cre_alm 12\n" ++
    codes "50 C 1 tk_cre_cyc 13\n" ++
    codes "51 C 1 tk_cre_alm 13\n" ++
    codes "54 C 1 tk_cre_cyc 14\n" ++
    codes "55 C 1 tk_cre_alm 14\n" ++
    codes "58 C 1 tk_cre_cyc 15\n" ++
    codes "59 C 1 tk_cre_alm 15\n" ++
    codes "62 C 1 tk_cre_cyc 16\n" ++
    codes "63 C 1 tk_cre_alm 16\n" ++
    codes "66 C 1 tk_cre_cyc 17\n" ++
    codes "67 C 1 tk_cre_alm 17\n" ++
    codes "70 C 1 tk_cre_cyc 18\n" ++
    codes "71 C 1 tk_cre_alm 18\n" ++
    codes "74 C 1 tk_cre_cyc 19\n" ++
    codes "75 C 1 tk_cre_alm 19\n" ++
    codes "78 C 1 tk_cre_cyc 20\n" ++
    codes "79 C 1 tk_cre_alm 20\n" ++
    codes "82 C 1 tk_cre_cyc 21\n" ++
    codes "83 C 1 tk_cre_alm 21\n" ++
    codes "86 C 1 tk_cre_cyc 22\n" ++
    codes "87 C 1 tk_cre_alm 22\n" ++
    codes "90 C 1 tk_cre_cyc 23\n" ++
    codes "91 C 1 tk_cre_alm 23\n" ++
    codes "94 C 1 tk_cre_cyc 24\n" ++
    codes "95 C 1 tk_cre_alm 24\n" ++
    codes "98 C 1 tk_cre_cyc 25\n" ++
    codes "99 C 1 tk_cre_alm 25\n" ++
    codes "102 C 1 tk_cre_cyc 26\n" ++
    codes "103 C 1 tk_cre_alm 26\n" ++
    codes "106 C 1 tk_cre_cyc 27\n" ++
    codes "107 C 1 tk_cre_alm 27\n" ++
    codes "110 C 1 tk_cre_cyc 28\n" ++
    codes "111 C 1 tk_cre_alm 28\n" ++
    codes "114 C 1 tk_cre_cyc 29\n" ++
    codes "115 C 1 tk_cre_alm 29\n" ++
    codes "118 C 1 tk_cre_cyc 30\n" ++
    codes "119 C 1 tk_cre_alm 30\n" ++
    codes "122 C 1 tk_cre_cyc 31\n" ++
    codes "123 C 1 tk_cre_alm 31\n" ++
    codes "126 C 1 tk_cre_cyc 32\n" ++
    codes "127 C 1 tk_cre_alm 32\n" ++
    codes "130 C 1 tk_cre_cyc 33\n" ++
    codes "131 C 1 tk_cre_alm 33\n" ++
    codes "134 C 1 tk_cre_cyc 34\n" ++
    codes "135 C 1 tk_cre_alm 34\n" ++
    codes "138 C 1 tk_cre_cyc 35\n" ++
    codes "139 C 1 tk_cre_alm 35\n" ++
    codes "142 C 1 tk_cre_cyc 36\n" ++
    codes "143 C 1 tk_cre_alm 36\n" ++
    codes "146 C 1 tk_cre_cyc 37\n" ++
    codes "147 C 1 tk_cre_alm 37\n" ++
    codes "150 C 1 tk_cre_cyc 38\n" ++
    codes "151 C 1 tk_cre_alm 38\n" ++
    codes "154 C 1 tk_cre_cyc 39\n" ++
    codes "155 C 1 tk_cre_alm 39\n" ++
    codes "158 C 1 tk_cre_cyc 40\n" ++
    codes "159 C 1 tk_cre_alm 40\n" ++
    codes "162 C 1 tk_cre_cyc 41\n" ++
    codes "163 C 1 tk_cre_alm 41\n" ++
    codes "166 C 1 tk_cre_cyc 42\n" ++
    codes "167 C 1 tk_cre_alm 42\n" ++
    codes "170 C 1 tk_cre_cyc 43\n" ++
    codes "171 C 1 tk_cre_alm 43\n" ++
    codes "174 C 1 tk_cre_cyc 44\n" ++
    codes "175 C 1 tk_cre_alm 44\n" ++
    codes "178 C 1 tk_cre_cyc 45\n" ++
    codes "179 C 1 tk_cre_alm 45\n" ++
    codes "182 C 1 tk_cre_cyc 46\n" ++
    codes "183 C 1 tk_cre_alm 46\n" ++
    codes "186 C 1 tk_cre_cyc 47\n" ++
    codes "187 C 1 tk_cre_alm 47\n" ++
    codes "190 C 1 tk_cre_cyc 48\n" ++
    codes "191 C 1 tk_cre_alm 48\n" ++
    codes "194 C 1 tk_cre_cyc 49\n" ++
    codes "195 C 1 tk_cre_alm 49\n" ++
    codes "198 C 1 tk_cre_cyc 50\n" ++
    codes "199 C 1 tk_cre_alm 50\n" ++
    codes "202 C 1 tk_cre_cyc 51\n" ++
    codes "203 C 1 tk_cre_alm 51\n" ++
    codes "206 C 1 tk_cre_cyc 52\n" ++
    codes "207 C 1 tk_cre_alm 52\n" ++
    codes "210 C 1 tk_cre_cyc 53\n" ++
    codes "211 C 1 tk_cre_alm 53\n" ++
    codes "214 C 1 tk_cre_cyc 54\n" ++
    codes "215 C 1 tk_cre_alm 54\n" ++
    codes "218 C 1 tk_cre_cyc 55\n" ++
    codes "219 C 1 tk_cre_alm 55\n" ++
    codes "222 C 1 tk_cre_cyc 56\n" ++
    codes "223 C 1 tk_cre_alm 56\n" ++
    codes "226 C 1 tk_cre_cyc 57\n" ++
    codes "227 C 1 tk_cre_alm 57\n" ++
    codes "230 C 1 tk_cre_cyc 58\n" ++
    codes "231 C 1 tk_cre_alm 58\n" ++
    codes "234 C 1 tk_cre_cyc 59\n" ++
    codes "235 C 1 tk_cre_alm 59\n" ++
    codes "238 C 1 tk_cre_cyc 60\n" ++
    codes "239 C 1 tk_cre_alm 60\n" ++
    codes "242 C 1 tk_cre_cyc 61\n" ++
    codes "243 C 1 tk_cre_alm 61\n" ++
    codes "246 C 1 tk_cre_cyc 62\n" ++
    codes "247 C 1 tk_cre_alm 62\n" ++
    codes "250 C 1 tk_cre_cyc 63\n" ++
    codes "251 C 1 tk_cre_alm 63\n" ++
    codes "254 C 1 tk_cre_cyc 64\n" ++
    codes "255 C 1 tk_cre_alm 64\n" ++
    codes "258 C 1 tk_cre_cyc E_LIMIT\n" ++
    codes "259 C 1 tk_cre_alm E_LIMIT\n" ++
    codes "262 C 1 tk_del_cyc 0\n" ++
    codes "263 C 1 tk_del_alm 0\n" ++
    codes "264 C 1 tk_cre_cyc 40\n" ++
    codes "265 C 1 tk_cre_alm 7\n" ++
    codes "266 C 1 tk_cre_cyc E_PAR\n" ++
    codes "267 C 1 tk_ext_tsk 0\n" ++
    codes "267 D 0\n" ++
    codes "267 END idle\n" ++
    []

ids_used_up_run : text_of_lines (lines_of (trace ids_used_up_script modes.Free 100000 ids_used_up_entries)) ≡ ids_used_up_lines
unfolding ids_used_up_script ids_used_up_entries ids_used_up_lines text_of form_of named made task_call_name sem_flag_call_name mutex_call_name mail_call_name pool_call_name time_call_name context_call_name device_call_name hook_call_name name_of code_of error_text coded error_named attributes_of flag_mode_of open_mode_of suspend_mode_of is_name_byte name_at_most why_text value_text words_of text_of_line text_of_lines fetch give call_before create_sem create_flag end_first delete_sem delete_flag refer_sem refer_flag signal_sem set_flag clear_flag wait_sem wait_flag sem_flag_call serve_sem serve_flag first_served serve_sem_flag sem_trial flag_trial chosen free_task create_task delete_task start_task exit_task terminate_task change_priority rotate_ready get_task refer_task sleep delay wake_up cancel_wakeups release_wait suspend_task resume_task task_call mark_of allowed free_from first_serving serve_box serve_mailboxes serve_buffer serve_buffers post create_box delete_box send_box receive_box refer_box create_buffer delete_buffer send_buffer receive_buffer refer_buffer mail_call create_mutex lock_mutex unlock_mutex refer_mutex delete_mutex mutex_call change_priority_beside task_call_beside chain_has current_of resettle free_last ceiling_allows serve_mutex serve_mutexes create_fixed delete_fixed get_fixed release_fixed refer_fixed create_variable delete_variable get_variable release_variable refer_variable pool_call first_free serve_fixed serve_fixed_pools serve_variable serve_variable_pools set_time get_time get_operating_time create_cyclic start_cyclic stop_cyclic delete_cyclic refer_cyclic create_alarm start_alarm stop_alarm delete_alarm refer_alarm time_call body_of next_due again define_handler disable_dispatch enable_dispatch disable_interrupts enable_interrupts refer_system define_service refer_service enter_service context_call left list_existing list_ready list_queue set_hook hook_call open_device refer_device request request_whole wait_ending close_device suspend_devices device_call expected arrive hand_over hand_first messages emptied read_bytes write_bytes accept picked serve_acceptance serve_acceptances serve_ending serve_endings is_with_driver serve_close serve_closes serve_suspension events_sent free_descriptor free_request first_queued at_driver accepted dropped handed asked devices_start block is_last blocks unit cut may_cut arrived entered returned body_returned family_call answered called follow_release follow_each with_releases dispatched followed insert_once with_requests handler_begun due_begun interrupt_begun served_within settle freed_within fallen due_done tick state_after worked counted step sync_runs sync_run entered_2 runs start trace acted ran turn_of done_turn first_serving_2 serve_object state_start digits
ids_used_up_run = refl

-- The system time is set apart from the operating time, which alone decides what is due. Its lower half counts as unsigned and carries
-- over; the upper half past its range is shown as a negative number.
system_time_script : Script
system_time_script = record {
  devices = [];
  pace = None;
  irqs = [];
  boot = record { body = 1; priority = 10 };
  bodies =
      record {
        name = codes "main";
        kind = kinds.Task;
        labels = [];
        stmts =
            stmts.Call names.TkGetTim ([]) ∷
            stmts.Call names.TkSetTim (args.Number (pos 0) ∷ args.Number (negsuc 0) ∷ []) ∷
            stmts.Call names.TkGetTim ([]) ∷
            stmts.Call names.TkCreAlm (args.List 0 ∷ args.Body 2 ∷ []) ∷
            stmts.Call names.TkStaAlm (args.Number (pos 1) ∷ args.Number (pos 2) ∷ []) ∷
            stmts.Call names.TkDlyTsk (args.Number (pos 1) ∷ []) ∷
            stmts.Call names.TkGetTim ([]) ∷
            stmts.Call names.TkGetOtm ([]) ∷
            stmts.Call names.TkSetTim (args.Number (pos 2147483647) ∷ args.Number (negsuc 0) ∷ []) ∷
            stmts.Call names.TkRefAlm (args.Number (pos 1) ∷ []) ∷
            stmts.Call names.TkDlyTsk (args.Number (pos 1) ∷ []) ∷
            stmts.Call names.TkGetTim ([]) ∷
            stmts.Call names.TkGetOtm ([]) ∷
            stmts.Call names.TkSetTim (args.Number (negsuc 0) ∷ args.Number (pos 0) ∷ []) ∷
            stmts.Call names.TkSetTim (args.Number (pos 0) ∷ args.Number (negsuc 2147483647) ∷ []) ∷
            stmts.Call names.TkGetTim ([]) ∷
            [];
      } ∷
      record {
        name = codes "bell";
        kind = kinds.Hand;
        labels = [];
        stmts =
            stmts.Call names.TkGetTim ([]) ∷
            stmts.Call names.TkSetTim (args.Number (pos 0) ∷ args.Number (pos 5) ∷ []) ∷
            [];
      } ∷
      [];
}

system_time_entries : List Entry
system_time_entries = []

system_time_lines : List ℕ
system_time_lines =
    codes "0 D 1\n" ++
    codes "1 C 1 tk_get_tim 0 0 0\n" ++
    codes "2 C 1 tk_set_tim 0\n" ++
    codes "3 C 1 tk_get_tim 0 0 -1\n" ++
    codes "4 C 1 tk_cre_alm 1\n" ++
    codes "5 C 1 tk_sta_alm 0\n" ++
    codes "6 B 1 tk_dly_tsk\n" ++
    codes "6 D 0\n" ++
    codes "7 K 1\n" ++
    codes "8 K 2\n" ++
    codes "8 W 1 tk_dly_tsk 0\n" ++
    codes "8 D 1\n" ++
    codes "9 C 1 tk_get_tim 0 1 1\n" ++
    codes "10 C 1 tk_get_otm 0 0 2\n" ++
    codes "11 C 1 tk_set_tim 0\n" ++
    codes "12 C 1 tk_ref_alm 0 1 1\n" ++
    codes "13 B 1 tk_dly_tsk\n" ++
    codes "13 D 0\n" ++
    codes "14 K 3\n" ++
    codes "15 I alm 1\n" ++
    codes "16 C 0 tk_get_tim 0 -2147483648 0\n" ++
    codes "17 C 0 tk_set_tim 0\n" ++
    codes "19 K 4\n" ++
    codes "19 W 1 tk_dly_tsk 0\n" ++
    codes "19 D 1\n" ++
    codes "20 C 1 tk_get_tim 0 0 6\n" ++
    codes "21 C 1 tk_get_otm 0 0 4\n" ++
    codes "22 C 1 tk_set_tim E_PAR\n" ++
    codes "23 C 1 tk_set_tim 0\n" ++
    codes "24 C 1 tk_get_tim 0 0 -2147483648\n" ++
    codes "25 C 1 tk_ext_tsk 0\n" ++
    codes "25 D 0\n" ++
    codes "25 END idle\n" ++
    []

system_time_run : text_of_lines (lines_of (trace system_time_script modes.Free 100000 system_time_entries)) ≡ system_time_lines
unfolding system_time_script system_time_entries system_time_lines text_of form_of named made task_call_name sem_flag_call_name mutex_call_name mail_call_name pool_call_name time_call_name context_call_name device_call_name hook_call_name name_of code_of error_text coded error_named attributes_of flag_mode_of open_mode_of suspend_mode_of is_name_byte name_at_most why_text value_text words_of text_of_line text_of_lines fetch give call_before create_sem create_flag end_first delete_sem delete_flag refer_sem refer_flag signal_sem set_flag clear_flag wait_sem wait_flag sem_flag_call serve_sem serve_flag first_served serve_sem_flag sem_trial flag_trial chosen free_task create_task delete_task start_task exit_task terminate_task change_priority rotate_ready get_task refer_task sleep delay wake_up cancel_wakeups release_wait suspend_task resume_task task_call mark_of allowed free_from first_serving serve_box serve_mailboxes serve_buffer serve_buffers post create_box delete_box send_box receive_box refer_box create_buffer delete_buffer send_buffer receive_buffer refer_buffer mail_call create_mutex lock_mutex unlock_mutex refer_mutex delete_mutex mutex_call change_priority_beside task_call_beside chain_has current_of resettle free_last ceiling_allows serve_mutex serve_mutexes create_fixed delete_fixed get_fixed release_fixed refer_fixed create_variable delete_variable get_variable release_variable refer_variable pool_call first_free serve_fixed serve_fixed_pools serve_variable serve_variable_pools set_time get_time get_operating_time create_cyclic start_cyclic stop_cyclic delete_cyclic refer_cyclic create_alarm start_alarm stop_alarm delete_alarm refer_alarm time_call body_of next_due again define_handler disable_dispatch enable_dispatch disable_interrupts enable_interrupts refer_system define_service refer_service enter_service context_call left list_existing list_ready list_queue set_hook hook_call open_device refer_device request request_whole wait_ending close_device suspend_devices device_call expected arrive hand_over hand_first messages emptied read_bytes write_bytes accept picked serve_acceptance serve_acceptances serve_ending serve_endings is_with_driver serve_close serve_closes serve_suspension events_sent free_descriptor free_request first_queued at_driver accepted dropped handed asked devices_start block is_last blocks unit cut may_cut arrived entered returned body_returned family_call answered called follow_release follow_each with_releases dispatched followed insert_once with_requests handler_begun due_begun interrupt_begun served_within settle freed_within fallen due_done tick state_after worked counted step sync_runs sync_run entered_2 runs start trace acted ran turn_of done_turn first_serving_2 serve_object state_start digits
system_time_run = refl
