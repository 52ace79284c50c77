-- Runs that were worked out by hand from the rules, as runs/object/limits has them: each a theorem by computation.
use Rattle.std.specs.Prelude.{ℕ, pos, negsuc, List, [], ◌∷◌, ◌++◌, Some, None, codes, ◌≡◌, refl}
use Rattle.std.specs.Fmt.{digits}
use Rattle.tk_types.specs.declared.script.Script.{Script}
use Rattle.tk_types.specs.declared.script.BodyKind.TheVariants as kinds
use Rattle.tk_types.specs.declared.script.Kind.TheVariants as devices
use Rattle.tk_types.specs.declared.script.Stmt.TheVariants as stmts
use Rattle.tk_types.specs.declared.script.Operand.TheVariants as operands
use Rattle.tk_types.specs.declared.script.Operation.TheVariants as operations
use Rattle.tk_types.specs.declared.script.Condition.TheVariants as conditions
use Rattle.tk_types.specs.declared.script.Arg.TheVariants as args
use Rattle.tk_types.specs.declared.call_name.CallName.TheVariants as names
use Rattle.tk_types.specs.declared.line.Entry.{Entry}
use Rattle.tk_types.specs.declared.line.How.TheVariants as hows
use Rattle.tk_types.specs.declared.run.Mode.TheVariants as modes
use Rattle.tk_types.specs.CallNames.{text_of, form_of, named}
use Rattle.tk_types.specs.Calls.{made, task_call_name, sem_flag_call_name, mutex_call_name, mail_call_name, pool_call_name, time_call_name, context_call_name, device_call_name, hook_call_name, name_of}
use Rattle.tk_types.specs.Codes.{code_of, error_text, coded, error_named}
use Rattle.tk_types.specs.Modes.{attributes_of, flag_mode_of, open_mode_of, suspend_mode_of}
use Rattle.tk_types.specs.Names.{is_name_byte, name_at_most}
use Rattle.tk_types.specs.Reasons.{why_text}
use Rattle.tk_model.specs.LineText.{value_text, words_of, text_of_line, text_of_lines}
use Rattle.kernel_model.specs.Bodies.Statements.{fetch, give, call_before}
use Rattle.kernel_model.specs.SemFlags.Calls.{create_sem, create_flag, end_first, delete_sem, delete_flag, refer_sem, refer_flag, signal_sem, set_flag, clear_flag, wait_sem, wait_flag, sem_flag_call}
use Rattle.kernel_model.specs.SemFlags.Tables.{serve_sem, serve_flag, first_served, serve_sem_flag}
use Rattle.kernel_model.specs.SemFlags.Trial.{sem_trial, flag_trial}
use Rattle.kernel_model.specs.Tasks.Base.{chosen, free_task}
use Rattle.kernel_model.specs.Tasks.Calls.{create_task, delete_task, start_task, exit_task, terminate_task, change_priority, rotate_ready, get_task, refer_task, sleep, delay, wake_up, cancel_wakeups, release_wait, suspend_task, resume_task, task_call}
use Rattle.kernel_model.specs.Tasks.Marks.{mark_of, allowed}
use Rattle.kernel_model.specs.Words.Orders.{free_from}
use Rattle.object_model.specs.Servings.{first_serving}
use Rattle.object_model.specs.Mails.Boxes.{serve_box, serve_mailboxes}
use Rattle.object_model.specs.Mails.Buffers.{serve_buffer, serve_buffers, post}
use Rattle.object_model.specs.Mails.Calls.{create_box, delete_box, send_box, receive_box, refer_box, create_buffer, delete_buffer, send_buffer, receive_buffer, refer_buffer, mail_call}
use Rattle.object_model.specs.Mutexes.Calls.{create_mutex, lock_mutex, unlock_mutex, refer_mutex, delete_mutex, mutex_call, change_priority_beside, task_call_beside}
use Rattle.object_model.specs.Mutexes.Priority.{chain_has, current_of, resettle}
use Rattle.object_model.specs.Mutexes.Tables.{free_last, ceiling_allows, serve_mutex, serve_mutexes}
use Rattle.object_model.specs.Pools.Calls.{create_fixed, delete_fixed, get_fixed, release_fixed, refer_fixed, create_variable, delete_variable, get_variable, release_variable, refer_variable, pool_call}
use Rattle.object_model.specs.Pools.Fixed.{first_free, serve_fixed, serve_fixed_pools}
use Rattle.object_model.specs.Pools.Variable.{serve_variable, serve_variable_pools}
use Rattle.context_model.specs.Clocks.Calls.{set_time, get_time, get_operating_time, create_cyclic, start_cyclic, stop_cyclic, delete_cyclic, refer_cyclic, create_alarm, start_alarm, stop_alarm, delete_alarm, refer_alarm, time_call}
use Rattle.context_model.specs.Clocks.Tables.{body_of, next_due, again}
use Rattle.context_model.specs.Contexts.Calls.{define_handler, disable_dispatch, enable_dispatch, disable_interrupts, enable_interrupts, refer_system, define_service, refer_service, enter_service, context_call}
use Rattle.context_model.specs.Contexts.Tables.{left}
use Rattle.context_model.specs.Hooks.Calls.{list_existing, list_ready, list_queue, set_hook, hook_call}
use Rattle.device_model.specs.Devices.Calls.{open_device, refer_device, request, request_whole, wait_ending, close_device, suspend_devices, device_call}
use Rattle.device_model.specs.Devices.Endings.{expected, arrive}
use Rattle.device_model.specs.Devices.Handing.{hand_over, hand_first, messages, emptied}
use Rattle.device_model.specs.Devices.Memory.{read_bytes, write_bytes}
use Rattle.device_model.specs.Devices.Requests.{accept, picked}
use Rattle.device_model.specs.Devices.Servings.{serve_acceptance, serve_acceptances, serve_ending, serve_endings, is_with_driver, serve_close, serve_closes, serve_suspension}
use Rattle.device_model.specs.Devices.Suspension.{events_sent}
use Rattle.device_model.specs.Devices.Tables.{free_descriptor, free_request, first_queued, at_driver, accepted, dropped, handed, asked, devices_start}
use Rattle.device_model.specs.Units.Blocks.{block, is_last, blocks}
use Rattle.device_model.specs.Units.Function.{unit, cut, may_cut}
use Rattle.machine_model.specs.Events.Arrivals.{arrived}
use Rattle.machine_model.specs.Events.Bodies.{entered, returned, body_returned}
use Rattle.machine_model.specs.Events.Calls.{family_call, answered, called}
use Rattle.machine_model.specs.Events.Follow.{follow_release, follow_each, with_releases, dispatched, followed}
use Rattle.machine_model.specs.Events.Handlers.{insert_once, with_requests, handler_begun, due_begun, interrupt_begun}
use Rattle.machine_model.specs.Events.Settle.{served_within, settle, freed_within}
use Rattle.machine_model.specs.Events.Ticks.{fallen, due_done, tick}
use Rattle.machine_model.specs.Runs.Reached.{state_after}
use Rattle.machine_model.specs.Runs.Step.{worked, counted, step}
use Rattle.machine_model.specs.Runs.SyncTrace.{sync_runs, sync_run}
use Rattle.machine_model.specs.Runs.Trace.{lines_of, entered as entered_2, runs, start, trace}
use Rattle.machine_model.specs.Runs.Turns.{acted, ran, turn_of, done_turn}
use Rattle.machine_model.specs.States.Objects.{first_serving as first_serving_2, serve_object}
use Rattle.machine_model.specs.States.State.{state_start}

-- There are at most 64 objects of each kind; want of an ID is told behind wrong attributes and numbers and before want
-- of memory, and the least free ID is given.
sixty_four_of_each_script : Script
sixty_four_of_each_script = record {
  devices = [];
  pace = None;
  irqs = [];
  boot = record { body = 1; priority = 10 };
  bodies =
      record {
        name = codes "main";
        kind = kinds.Task;
        labels = record { name = codes "again"; place = 0 } ∷ [];
        stmts =
            stmts.Call names.TkCreMtx (args.List 0 ∷ args.Number (pos 0) ∷ []) ∷
            stmts.Call names.TkCreMbx (args.List 0 ∷ []) ∷
            stmts.Call names.TkCreMbf (args.List 0 ∷ args.Number (pos 0) ∷ args.Number (pos 1) ∷ []) ∷
            stmts.Call names.TkCreMpf (args.List 0 ∷ args.Number (pos 1) ∷ args.Number (pos 1) ∷ []) ∷
            stmts.Call names.TkCreMpl (args.List 0 ∷ args.Number (pos 8) ∷ []) ∷
            stmts.Compute operations.Add 5 (operands.Number (pos 1)) ∷
            stmts.Jump (conditions.Less 5 (operands.Number (pos 64))) 0 ∷
            stmts.Call names.TkCreMtx (args.List 0 ∷ args.Number (pos 0) ∷ []) ∷
            stmts.Call names.TkCreMbx (args.List 0 ∷ []) ∷
            stmts.Call names.TkCreMbf (args.List 0 ∷ args.Number (pos 0) ∷ args.Number (pos 1) ∷ []) ∷
            stmts.Call names.TkCreMpf (args.List 0 ∷ args.Number (pos 1024) ∷ args.Number (pos 65536) ∷ []) ∷
            stmts.Call names.TkCreMpl (args.List 0 ∷ args.Number (pos 8) ∷ []) ∷
            stmts.Call names.TkCreMbx (args.List 512 ∷ []) ∷
            stmts.Call names.TkCreMtx (args.List 32768 ∷ args.Number (pos 0) ∷ []) ∷
            stmts.Call names.TkDelMtx (args.Number (pos 64) ∷ []) ∷
            stmts.Call names.TkDelMtx (args.Number (pos 7) ∷ []) ∷
            stmts.Call names.TkCreMtx (args.List 0 ∷ args.Number (pos 0) ∷ []) ∷
            [];
      } ∷
      [];
}

sixty_four_of_each_entries : List Entry
sixty_four_of_each_entries = []

sixty_four_of_each_lines : List ℕ
sixty_four_of_each_lines =
    codes "0 D 1\n" ++
    codes "1 C 1 tk_cre_mtx 1\n" ++
    codes "2 C 1 tk_cre_mbx 1\n" ++
    codes "3 C 1 tk_cre_mbf 1\n" ++
    codes "4 C 1 tk_cre_mpf 1\n" ++
    codes "5 C 1 tk_cre_mpl 1\n" ++
    codes "8 C 1 tk_cre_mtx 2\n" ++
    codes "9 C 1 tk_cre_mbx 2\n" ++
    codes "10 C 1 tk_cre_mbf 2\n" ++
    codes "11 C 1 tk_cre_mpf 2\n" ++
    codes "12 C 1 tk_cre_mpl 2\n" ++
    codes "15 C 1 tk_cre_mtx 3\n" ++
    codes "16 C 1 tk_cre_mbx 3\n" ++
    codes "17 C 1 tk_cre_mbf 3\n" ++
    codes "18 C 1 tk_cre_mpf 3\n" ++
    codes "19 C 1 tk_cre_mpl 3\n" ++
    codes "22 C 1 tk_cre_mtx 4\n" ++
    codes "23 C 1 tk_cre_mbx 4\n" ++
    codes "24 C 1 tk_cre_mbf 4\n" ++
    codes "25 C 1 tk_cre_mpf 4\n" ++
    codes "26 C 1 tk_cre_mpl 4\n" ++
    codes "29 C 1 tk_cre_mtx 5\n" ++
    codes "30 C 1 tk_cre_mbx 5\n" ++
    codes "31 C 1 tk_cre_mbf 5\n" ++
    codes "32 C 1 tk_cre_mpf 5\n" ++
    codes "33 C 1 tk_cre_mpl 5\n" ++
    codes "36 C 1 tk_cre_mtx 6\n" ++
    codes "37 C 1 tk_cre_mbx 6\n" ++
    codes "38 C 1 tk_cre_mbf 6\n" ++
    codes "39 C 1 tk_cre_mpf 6\n" ++
    codes "40 C 1 tk_cre_mpl 6\n" ++
    codes "43 C 1 tk_cre_mtx 7\n" ++
    codes "44 C 1 tk_cre_mbx 7\n" ++
    codes "45 C 1 tk_cre_mbf 7\n" ++
    codes "46 C 1 tk_cre_mpf 7\n" ++
    codes "47 C 1 tk_cre_mpl 7\n" ++
    codes "50 C 1 tk_cre_mtx 8\n" ++
    codes "51 C 1 tk_cre_mbx 8\n" ++
    codes "52 C 1 tk_cre_mbf 8\n" ++
    codes "53 C 1 tk_cre_mpf 8\n" ++
    codes "54 C 1 tk_cre_mpl 8\n" ++
    codes "57 C 1 tk_cre_mtx 9\n" ++
    codes "58 C 1 tk_cre_mbx 9\n" ++
    codes "59 C 1 tk_cre_mbf 9\n" ++
    codes "60 C 1 tk_cre_mpf 9\n" ++
    codes "61 C 1 tk_cre_mpl 9\n" ++
    codes "64 C 1 tk_cre_mtx 10\n" ++
    codes "65 C 1 tk_cre_mbx 10\n" ++
    codes "66 C 1 tk_cre_mbf 10\n" ++
    codes "67 C 1 tk_cre_mpf 10\n" ++
    codes "68 C 1 tk_cre_mpl 10\n" ++
    codes "71 C 1 tk_cre_mtx 11\n" ++
    codes "72 C 1 tk_cre_mbx 11\n" ++
    codes "73 C 1 tk_cre_mbf 11\n" ++
    codes "74 C 1 tk_cre_mpf 11\n" ++
    codes "75 C 1 tk_cre_mpl 11\n" ++
    codes "78 C 1 tk_cre_mtx 12\n" ++
    codes "79 C 1 tk_cre_mbx 12\n" ++
    codes "80 C 1 tk_cre_mbf 12\n" ++
    codes "81 C 1 tk_cre_mpf 12\n" ++
    codes "82 C 1 tk_cre_mpl 12\n" ++
    codes "85 C 1 tk_cre_mtx 13\n" ++
    codes "86 C 1 tk_cre_mbx 13\n" ++
    codes "87 C 1 tk_cre_mbf 13\n" ++
    codes "88 C 1 tk_cre_mpf 13\n" ++
    codes "89 C 1 tk_cre_mpl 13\n" ++
    codes "92 C 1 tk_cre_mtx 14\n" ++
    codes "93 C 1 tk_cre_mbx 14\n" ++
    codes "94 C 1 tk_cre_mbf 14\n" ++
    codes "95 C 1 tk_cre_mpf 14\n" ++
    codes "96 C 1 tk_cre_mpl 14\n" ++
    codes "99 C 1 tk_cre_mtx 15\n" ++
    codes "100 C 1 tk_cre_mbx 15\n" ++
    codes "101 C 1 tk_cre_mbf 15\n" ++
    codes "102 C 1 tk_cre_mpf 15\n" ++
    codes "103 C 1 tk_cre_mpl 15\n" ++
    codes "106 C 1 tk_cre_mtx 16\n" ++
    codes "107 C 1 tk_cre_mbx 16\n" ++
    codes "108 C 1 tk_cre_mbf 16\n" ++
    codes "109 C 1 tk_cre_mpf 16\n" ++
    codes "110 C 1 tk_cre_mpl 16\n" ++
    codes "113 C 1 tk_cre_mtx 17\n" ++
    codes "114 C 1 tk_cre_mbx 17\n" ++
    codes "115 C 1 tk_cre_mbf 17\n" ++
    codes "116 C 1 tk_cre_mpf 17\n" ++
    codes "117 C 1 tk_cre_mpl 17\n" ++
    codes "120 C 1 tk_cre_mtx 18\n" ++
    codes "121 C 1 tk_cre_mbx 18\n" ++
    codes "122 C 1 tk_cre_mbf 18\n" ++
    codes "123 C 1 tk_cre_mpf 18\n" ++
    codes "124 C 1 tk_cre_mpl 18\n" ++
    codes "127 C 1 tk_cre_mtx 19\n" ++
    codes "128 C 1 tk_cre_mbx 19\n" ++
    codes "129 C 1 tk_cre_mbf 19\n" ++
    codes "130 C 1 tk_cre_mpf 19\n" ++
    codes "131 C 1 tk_cre_mpl 19\n" ++
    codes "134 C 1 tk_cre_mtx 20\n" ++
    codes "135 C 1 tk_cre_mbx 20\n" ++
    codes "136 C 1 tk_cre_mbf 20\n" ++
    codes "137 C 1 tk_cre_mpf 20\n" ++
    codes "138 C 1 tk_cre_mpl 20\n" ++
    codes "141 C 1 tk_cre_mtx 21\n" ++
    codes "142 C 1 tk_cre_mbx 21\n" ++
    codes "143 C 1 tk_cre_mbf 21\n" ++
    codes "144 C 1 tk_cre_mpf 21\n" ++
    codes "145 C 1 tk_cre_mpl 21\n" ++
    codes "148 C 1 tk_cre_mtx 22\n" ++
    codes "149 C 1 tk_cre_mbx 22\n" ++
    codes "150 C 1 tk_cre_mbf 22\n" ++
    codes "151 C 1 tk_cre_mpf 22\n" ++
    codes "152 C 1 tk_cre_mpl 22\n" ++
    codes "155 C 1 tk_cre_mtx 23\n" ++
    codes "156 C 1 tk_cre_mbx 23\n" ++
    codes "157 C 1 tk_cre_mbf 23\n" ++
    codes "158 C 1 tk_cre_mpf 23\n" ++
    codes "159 C 1 tk_cre_mpl 23\n" ++
    codes "162 C 1 tk_cre_mtx 24\n" ++
    codes "163 C 1 tk_cre_mbx 24\n" ++
    codes "164 C 1 tk_cre_mbf 24\n" ++
    codes "165 C 1 tk_cre_mpf 24\n" ++
    codes "166 C 1 tk_cre_mpl 24\n" ++
    codes "169 C 1 tk_cre_mtx 25\n" ++
    codes "170 C 1 tk_cre_mbx 25\n" ++
    codes "171 C 1 tk_cre_mbf 25\n" ++
    codes "172 C 1 tk_cre_mpf 25\n" ++
    codes "173 C 1 tk_cre_mpl 25\n" ++
    codes "176 C 1 tk_cre_mtx 26\n" ++
    codes "177 C 1 tk_cre_mbx 26\n" ++
    codes "178 C 1 tk_cre_mbf 26\n" ++
    codes "179 C 1 tk_cre_mpf 26\n" ++
    codes "180 C 1 tk_cre_mpl 26\n" ++
    codes "183 C 1 tk_cre_mtx 27\n" ++
    codes "184 C 1 tk_cre_mbx 27\n" ++
    codes "185 C 1 tk_cre_mbf 27\n" ++
    codes "186 C 1 tk_cre_mpf 27\n" ++
    codes "187 C 1 tk_cre_mpl 27\n" ++
    codes "190 C 1 tk_cre_mtx 28\n" ++
    codes "191 C 1 tk_cre_mbx 28\n" ++
    codes "192 C 1 tk_cre_mbf 28\n" ++
    codes "193 C 1 tk_cre_mpf 28\n" ++
    codes "194 C 1 tk_cre_mpl 28\n" ++
    codes "197 C 1 tk_cre_mtx 29\n" ++
    codes "198 C 1 tk_cre_mbx 29\n" ++
    codes "199 C 1 tk_cre_mbf 29\n" ++
    codes "200 C 1 tk_cre_mpf 29\n" ++
    codes "201 C 1 tk_cre_mpl 29\n" ++
    codes "204 C 1 tk_cre_mtx 30\n" ++
    codes "205 C 1 tk_cre_mbx 30\n" ++
    codes "206 C 1 tk_cre_mbf 30\n" ++
    codes "207 C 1 tk_cre_mpf 30\n" ++
    codes "208 C 1 tk_cre_mpl 30\n" ++
    codes "211 C 1 tk_cre_mtx 31\n" ++
    codes "212 C 1 tk_cre_mbx 31\n" ++
    codes "213 C 1 tk_cre_mbf 31\n" ++
    codes "214 C 1 tk_cre_mpf 31\n" ++
    codes "215 C 1 tk_cre_mpl 31\n" ++
    codes "218 C 1 tk_cre_mtx 32\n" ++
    codes "219 C 1 tk_cre_mbx 32\n" ++
    codes "220 C 1 tk_cre_mbf 32\n" ++
    codes "221 C 1 tk_cre_mpf 32\n" ++
    codes "222 C 1 tk_cre_mpl 32\n" ++
    codes "225 C 1 tk_cre_mtx 33\n" ++
    codes "226 C 1 tk_cre_mbx 33\n" ++
    codes "227 C 1 tk_cre_mbf 33\n" ++
    codes "228 C 1 tk_cre_mpf 33\n" ++
    codes "229 C 1 tk_cre_mpl 33\n" ++
    codes "232 C 1 tk_cre_mtx 34\n" ++
    codes "233 C 1 tk_cre_mbx 34\n" ++
    codes "234 C 1 tk_cre_mbf 34\n" ++
    codes "235 C 1 tk_cre_mpf 34\n" ++
    codes "236 C 1 tk_cre_mpl 34\n" ++
    codes "239 C 1 tk_cre_mtx 35\n" ++
    codes "240 C 1 tk_cre_mbx 35\n" ++
    codes "241 C 1 tk_cre_mbf 35\n" ++
    codes "242 C 1 tk_cre_mpf 35\n" ++
    codes "243 C 1 tk_cre_mpl 35\n" ++
    codes "246 C 1 tk_cre_mtx 36\n" ++
    codes "247 C 1 tk_cre_mbx 36\n" ++
    codes "248 C 1 tk_cre_mbf 36\n" ++
    codes "249 C 1 tk_cre_mpf 36\n" ++
    codes "250 C 1 tk_cre_mpl 36\n" ++
    codes "253 C 1 tk_cre_mtx 37\n" ++
    codes "254 C 1 tk_cre_mbx 37\n" ++
    codes "255 C 1 tk_cre_mbf 37\n" ++
    codes "256 C 1 tk_cre_mpf 37\n" ++
    codes "257 C 1 tk_cre_mpl 37\n" ++
    codes "260 C 1 tk_cre_mtx 38\n" ++
    codes "261 C 1 tk_cre_mbx 38\n" ++
    codes "262 C 1 tk_cre_mbf 38\n" ++
    codes "263 C 1 tk_cre_mpf 38\n" ++
    codes "264 C 1 tk_cre_mpl 38\n" ++
    codes "267 C 1 tk_cre_mtx 39\n" ++
    codes "268 C 1 tk_cre_mbx 39\n" ++
    codes "269 C 1 tk_cre_mbf 39\n" ++
    codes "270 C 1 tk_cre_mpf 39\n" ++
    codes "271 C 1 tk_cre_mpl 39\n" ++
    codes "274 C 1 tk_cre_mtx 40\n" ++
    codes "275 C 1 tk_cre_mbx 40\n" ++
    codes "276 C 1 tk_cre_mbf 40\n" ++
    codes "277 C 1 tk_cre_mpf 40\n" ++
    codes "278 C 1 tk_cre_mpl 40\n" ++
    codes "281 C 1 tk_cre_mtx 41\n" ++
    codes "282 C 1 tk_cre_mbx 41\n" ++
    codes "283 C 1 tk_cre_mbf 41\n" ++
    codes "284 C 1 tk_cre_mpf 41\n" ++
    codes "285 C 1 tk_cre_mpl 41\n" ++
    codes "288 C 1 tk_cre_mtx 42\n" ++
    codes "289 C 1 tk_cre_mbx 42\n" ++
    codes "290 C 1 tk_cre_mbf 42\n" ++
    codes "291 C 1 tk_cre_mpf 42\n" ++
    codes "292 C 1 tk_cre_mpl 42\n" ++
    codes "295 C 1 tk_cre_mtx 43\n" ++
    codes "296 C 1 tk_cre_mbx 43\n" ++
    codes "297 C 1 tk_cre_mbf 43\n" ++
    codes "298 C 1 tk_cre_mpf 43\n" ++
    codes "299 C 1 tk_cre_mpl 43\n" ++
    codes "302 C 1 tk_cre_mtx 44\n" ++
    codes "303 C 1 tk_cre_mbx 44\n" ++
    codes "304 C 1 tk_cre_mbf 44\n" ++
    codes "305 C 1 tk_cre_mpf 44\n" ++
    codes "306 C 1 tk_cre_mpl 44\n" ++
    codes "309 C 1 tk_cre_mtx 45\n" ++
    codes "310 C 1 tk_cre_mbx 45\n" ++
    codes "311 C 1 tk_cre_mbf 45\n" ++
    codes "312 C 1 tk_cre_mpf 45\n" ++
    codes "313 C 1 tk_cre_mpl 45\n" ++
    codes "316 C 1 tk_cre_mtx 46\n" ++
    codes "317 C 1 tk_cre_mbx 46\n" ++
    codes "318 C 1 tk_cre_mbf 46\n" ++
    codes "319 C 1 tk_cre_mpf 46\n" ++
    codes "320 C 1 tk_cre_mpl 46\n" ++
    codes "323 C 1 tk_cre_mtx 47\n" ++
    codes "324 C 1 tk_cre_mbx 47\n" ++
    codes "325 C 1 tk_cre_mbf 47\n" ++
    codes "326 C 1 tk_cre_mpf 47\n" ++
    codes "327 C 1 tk_cre_mpl 47\n" ++
    codes "330 C 1 tk_cre_mtx 48\n" ++
    codes "331 C 1 tk_cre_mbx 48\n" ++
    codes "332 C 1 tk_cre_mbf 48\n" ++
    codes "333 C 1 tk_cre_mpf 48\n" ++
    codes "334 C 1 tk_cre_mpl 48\n" ++
    codes "337 C 1 tk_cre_mtx 49\n" ++
    codes "338 C 1 tk_cre_mbx 49\n" ++
    codes "339 C 1 tk_cre_mbf 49\n" ++
    codes "340 C 1 tk_cre_mpf 49\n" ++
    codes "341 C 1 tk_cre_mpl 49\n" ++
    codes "344 C 1 tk_cre_mtx 50\n" ++
    codes "345 C 1 tk_cre_mbx 50\n" ++
    codes "346 C 1 tk_cre_mbf 50\n" ++
    codes "347 C 1 tk_cre_mpf 50\n" ++
    codes "348 C 1 tk_cre_mpl 50\n" ++
    codes "351 C 1 tk_cre_mtx 51\n" ++
    codes "352 C 1 tk_cre_mbx 51\n" ++
    codes "353 C 1 tk_cre_mbf 51\n" ++
    codes "354 C 1 tk_cre_mpf 51\n" ++
    codes "355 C 1 tk_cre_mpl 51\n" ++
    codes "358 C 1 tk_cre_mtx 52\n" ++
    codes "359 C 1 tk_cre_mbx 52\n" ++
    codes "360 C 1 tk_cre_mbf 52\n" ++
    codes "361 C 1 tk_cre_mpf 52\n" ++
    codes "362 C 1 tk_cre_mpl 52\n" ++
    codes "365 C 1 tk_cre_mtx 53\n" ++
    codes "366 C 1 tk_cre_mbx 53\n" ++
    codes "367 C 1 tk_cre_mbf 53\n" ++
    codes "368 C 1 tk_cre_mpf 53\n" ++
    codes "369 C 1 tk_cre_mpl 53\n" ++
    codes "372 C 1 tk_cre_mtx 54\n" ++
    codes "373 C 1 tk_cre_mbx 54\n" ++
    codes "374 C 1 tk_cre_mbf 54\n" ++
    codes "375 C 1 tk_cre_mpf 54\n" ++
    codes "376 C 1 tk_cre_mpl 54\n" ++
    codes "379 C 1 tk_cre_mtx 55\n" ++
    codes "380 C 1 tk_cre_mbx 55\n" ++
    codes "381 C 1 tk_cre_mbf 55\n" ++
    codes "382 C 1 tk_cre_mpf 55\n" ++
    codes "383 C 1 tk_cre_mpl 55\n" ++
    codes "386 C 1 tk_cre_mtx 56\n" ++
    codes "387 C 1 tk_cre_mbx 56\n" ++
    codes "388 C 1 tk_cre_mbf 56\n" ++
    codes "389 C 1 tk_cre_mpf 56\n" ++
    codes "390 C 1 tk_cre_mpl 56\n" ++
    codes "393 C 1 tk_cre_mtx 57\n" ++
    codes "394 C 1 tk_cre_mbx 57\n" ++
    codes "395 C 1 tk_cre_mbf 57\n" ++
    codes "396 C 1 tk_cre_mpf 57\n" ++
    codes "397 C 1 tk_cre_mpl 57\n" ++
    codes "400 C 1 tk_cre_mtx 58\n" ++
    codes "401 C 1 tk_cre_mbx 58\n" ++
    codes "402 C 1 tk_cre_mbf 58\n" ++
    codes "403 C 1 tk_cre_mpf 58\n" ++
    codes "404 C 1 tk_cre_mpl 58\n" ++
    codes "407 C 1 tk_cre_mtx 59\n" ++
    codes "408 C 1 tk_cre_mbx 59\n" ++
    codes "409 C 1 tk_cre_mbf 59\n" ++
    codes "410 C 1 tk_cre_mpf 59\n" ++
    codes "411 C 1 tk_cre_mpl 59\n" ++
    codes "414 C 1 tk_cre_mtx 60\n" ++
    codes "415 C 1 tk_cre_mbx 60\n" ++
    codes "416 C 1 tk_cre_mbf 60\n" ++
    codes "417 C 1 tk_cre_mpf 60\n" ++
    codes "418 C 1 tk_cre_mpl 60\n" ++
    codes "421 C 1 tk_cre_mtx 61\n" ++
    codes "422 C 1 tk_cre_mbx 61\n" ++
    codes "423 C 1 tk_cre_mbf 61\n" ++
    codes "424 C 1 tk_cre_mpf 61\n" ++
    codes "425 C 1 tk_cre_mpl 61\n" ++
    codes "428 C 1 tk_cre_mtx 62\n" ++
    codes "429 C 1 tk_cre_mbx 62\n" ++
    codes "430 C 1 tk_cre_mbf 62\n" ++
    codes "431 C 1 tk_cre_mpf 62\n" ++
    codes "432 C 1 tk_cre_mpl 62\n" ++
    codes "435 C 1 tk_cre_mtx 63\n" ++
    codes "436 C 1 tk_cre_mbx 63\n" ++
    codes "437 C 1 tk_cre_mbf 63\n" ++
    codes "438 C 1 tk_cre_mpf 63\n" ++
    codes "439 C 1 tk_cre_mpl 63\n" ++
    codes "442 C 1 tk_cre_mtx 64\n" ++
    codes "443 C 1 tk_cre_mbx 64\n" ++
    codes "444 C 1 tk_cre_mbf 64\n" ++
    codes "445 C 1 tk_cre_mpf 64\n" ++
    codes "446 C 1 tk_cre_mpl 64\n" ++
    codes "449 C 1 tk_cre_mtx E_LIMIT\n" ++
    codes "450 C 1 tk_cre_mbx E_LIMIT\n" ++
    codes "451 C 1 tk_cre_mbf E_LIMIT\n" ++
    codes "452 C 1 tk_cre_mpf E_LIMIT\n" ++
    codes "453 C 1 tk_cre_mpl E_LIMIT\n" ++
    codes "454 C 1 tk_cre_mbx E_RSATR\n" ++
    codes "455 C 1 tk_cre_mtx E_PAR\n" ++
    codes "456 C 1 tk_del_mtx 0\n" ++
    codes "457 C 1 tk_del_mtx 0\n" ++
    codes "458 C 1 tk_cre_mtx 7\n" ++
    codes "459 C 1 tk_ext_tsk 0\n" ++
    codes "459 D 0\n" ++
    codes "459 END idle\n" ++
    []

sixty_four_of_each_run : text_of_lines (lines_of (trace sixty_four_of_each_script modes.Free 100000 sixty_four_of_each_entries)) ≡ sixty_four_of_each_lines
unfolding sixty_four_of_each_script sixty_four_of_each_entries sixty_four_of_each_lines text_of form_of named made task_call_name sem_flag_call_name mutex_call_name mail_call_name pool_call_name time_call_name context_call_name device_call_name hook_call_name name_of code_of error_text coded error_named attributes_of flag_mode_of open_mode_of suspend_mode_of is_name_byte name_at_most why_text value_text words_of text_of_line text_of_lines fetch give call_before create_sem create_flag end_first delete_sem delete_flag refer_sem refer_flag signal_sem set_flag clear_flag wait_sem wait_flag sem_flag_call serve_sem serve_flag first_served serve_sem_flag sem_trial flag_trial chosen free_task create_task delete_task start_task exit_task terminate_task change_priority rotate_ready get_task refer_task sleep delay wake_up cancel_wakeups release_wait suspend_task resume_task task_call mark_of allowed free_from first_serving serve_box serve_mailboxes serve_buffer serve_buffers post create_box delete_box send_box receive_box refer_box create_buffer delete_buffer send_buffer receive_buffer refer_buffer mail_call create_mutex lock_mutex unlock_mutex refer_mutex delete_mutex mutex_call change_priority_beside task_call_beside chain_has current_of resettle free_last ceiling_allows serve_mutex serve_mutexes create_fixed delete_fixed get_fixed release_fixed refer_fixed create_variable delete_variable get_variable release_variable refer_variable pool_call first_free serve_fixed serve_fixed_pools serve_variable serve_variable_pools set_time get_time get_operating_time create_cyclic start_cyclic stop_cyclic delete_cyclic refer_cyclic create_alarm start_alarm stop_alarm delete_alarm refer_alarm time_call body_of next_due again define_handler disable_dispatch enable_dispatch disable_interrupts enable_interrupts refer_system define_service refer_service enter_service context_call left list_existing list_ready list_queue set_hook hook_call open_device refer_device request request_whole wait_ending close_device suspend_devices device_call expected arrive hand_over hand_first messages emptied read_bytes write_bytes accept picked serve_acceptance serve_acceptances serve_ending serve_endings is_with_driver serve_close serve_closes serve_suspension events_sent free_descriptor free_request first_queued at_driver accepted dropped handed asked devices_start block is_last blocks unit cut may_cut arrived entered returned body_returned family_call answered called follow_release follow_each with_releases dispatched followed insert_once with_requests handler_begun due_begun interrupt_begun served_within settle freed_within fallen due_done tick state_after worked counted step sync_runs sync_run entered_2 runs start trace acted ran turn_of done_turn first_serving_2 serve_object state_start digits
sixty_four_of_each_run = refl
