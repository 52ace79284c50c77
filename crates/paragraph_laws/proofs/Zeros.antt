-- No task and no mutex has the number 0, and 0 has no place among the stamps, in every state that a machine comes to.
use Rattle.std.proofs.Common.{◌≡◌, ℕ, zero, suc, ◌+◌, ◌-◌, ◌≤◌, Bool, true, false, not, cond, length, List, [], ◌∷◌, Option, Some, None, refl, ◌∙◌, ap, sym, subst, ℤ, pos, negsuc, arith}
use Rattle.std.specs.Bool.{◌==◌}
use Rattle.std.specs.List.{last_or}
use Rattle.std.specs.Option.{is_some, option_map}
use Rattle.std.specs.Ordering.{int_eq}
use Rattle.std.specs.Prelude.{drop, filter, slice_set}
use Rattle.std.proofs.lemmas.Bool.Decides.{nat_tests}
use Rattle.tk_types.specs.declared.answer.Answer.{Answer}
use Rattle.tk_types.specs.declared.answer.Outcome.TheVariants as outcomes
use Rattle.tk_types.specs.declared.answer.Who.{Who}
use Rattle.tk_types.specs.declared.calls.MutexCall.{MutexCall}
use Rattle.tk_types.specs.declared.calls.MutexCall.TheVariants as mutexes
use Rattle.tk_types.specs.declared.calls.TaskCall.{TaskCall}
use Rattle.tk_types.specs.declared.calls.TaskCall.TheVariants as tasks
use Rattle.tk_types.specs.declared.error_code.Er.TheVariants as er
use Rattle.tk_types.specs.declared.run.Mode.{Mode}
use Rattle.tk_types.specs.declared.run.Mode.TheVariants as modes
use Rattle.tk_types.specs.declared.script.Script.{Script}
use Rattle.tk_types.specs.declared.task.Event.{Event}
use Rattle.tk_types.specs.declared.task.Event.TheVariants.{Alarm, Cyclic, Wait}
use Rattle.tk_types.specs.declared.task.Order.{Order}
use Rattle.tk_types.specs.declared.task.Order.TheVariants.{Fifo}
use Rattle.tk_types.specs.declared.task.Task.{Task}
use Rattle.tk_types.specs.Codes.{code_of}
use Rattle.kernel_model.specs.Bodies.Statements.{IsRunnable}
use Rattle.kernel_model.specs.LawWords.Once.{times}
use Rattle.kernel_model.specs.Words.Checks.{◌otherwise◌, failed, natural, plain, within}
use Rattle.kernel_model.specs.Words.Orders.{entry, taken_from, to_back, without}
use Rattle.kernel_model.specs.Tasks.Base.{Base, add_event, advance, back_if_any, becomes_ready, create, current, delete, free_task, give_bytes, has_room, is_ready_with, is_waiting_phase, make_dormant, make_ready, make_wait, move_wait, ready_of, release, resume, resumed, set_base, set_current, set_flags, set_wakeups, suspend, take_bytes, take_due, task_at, waits_for, wakeups_of, with_entry}
use Rattle.kernel_model.specs.Tasks.Calls as TaskCalls
use Rattle.kernel_model.specs.Tasks.Calls.{TaskDone, task_call, create_task, delete_task, start_task, exit_task, terminate_task, rotate_ready, rotated_priority, get_task, refer_task, sleep, delay, wake_up, cancel_wakeups, release_wait, suspend_task, resume_task}
use Rattle.kernel_model.specs.Tasks.Views.{is_current}
use Rattle.kernel_model.specs.SemFlags.Calls.{object_checks}
use Rattle.kernel_model.specs.SemFlags.Tables.{serve_sem_flag}
use Rattle.kernel_lemmas.proofs.Once.{times_append}
use Rattle.kernel_lemmas.proofs.ReadyLists.{times_filter_is}
use Rattle.kernel_lemmas.proofs.Tables.{entry_cases, entry_other}
use Rattle.call_lemmas.proofs.Checked.{checked_cases, holds_at}
use Rattle.object_model.specs.declared.mutexes.Mutex.{Mutex}
use Rattle.object_model.specs.Mutexes.Calls as MutexCalls
use Rattle.object_model.specs.Mutexes.Calls.{MutexDone, change_checks_beside, change_priority_beside, mutex_call, table_changed, task_call_beside, waited_for_mutex, waits_or_ends}
use Rattle.object_model.specs.Mutexes.Tables.{MutexParts, Mutexes, free_last, freed, has_mutex, held, locked, mutex_at, mutex_waiters, serve_mutex, serve_mutex_at, serve_mutex_of, serve_mutexes, with_mutex}
use Rattle.object_model.specs.Mails.Boxes.{serve_mailboxes}
use Rattle.object_model.specs.Mails.Buffers.{serve_buffers}
use Rattle.object_model.specs.Pools.Fixed.{serve_fixed_pools}
use Rattle.object_model.specs.Pools.Variable.{serve_variable_pools}
use Rattle.device_model.specs.Devices.Servings.{serve_acceptances, serve_closes, serve_endings, serve_suspension}
use Rattle.mutex_laws.proofs.Refusals.{mutex_cases}
use Rattle.context_model.specs.declared.cyclic_row.CyclicRow.{CyclicRow}
use Rattle.context_model.specs.Clocks.Tables.{Clocks, again, again_in, cyclic_at}
use Rattle.device_model.specs.declared.messages.Ending.{Ending}
use Rattle.device_model.specs.Devices.Endings.{DevParts, arrive}
use Rattle.device_lemmas.proofs.Walk as devices
use Rattle.call_walk.proofs.DeviceCalls.{arrive_keeps}
use Rattle.machine_model.specs.Events.Settle.{handed}
use Rattle.machine_model.specs.Runs.Reached.{Move, state_after}
use Rattle.machine_model.specs.States.Objects.{Parts, dev_parts, first_serving as first_kind, mail_parts, pool_parts, serve_object, with_devices, with_mails, with_mutexes, with_pools, with_sem_flags}
use Rattle.machine_model.specs.States.State.{parts_of, state_start}
use Rattle.machine_lemmas.proofs.BaseKept.{start_slots}
use Rattle.machine_lemmas.proofs.Changes.{Survives}
use Rattle.machine_lemmas.proofs.FewDevices.{emptied_few, few_arrivals, few_moves}
use Rattle.machine_lemmas.proofs.KnownDevices.{IsWished}
use Rattle.machine_lemmas.proofs.Reached.{reached_has}
use Rattle.machine_lemmas.proofs.Servings.{FewDevices, serving}
use Rattle.machine_lemmas.proofs.Settling.{few_handed, few_served}
use Rattle.machine_lemmas.proofs.Walk.{IsKept}
use Rattle.place_lemmas.proofs.Contexts.{context_calls_keep}
use Rattle.place_lemmas.proofs.Devices.{device_calls_keep}
use Rattle.place_lemmas.proofs.Mails.{mail_calls_keep}
use Rattle.place_lemmas.proofs.Moves.{IsPassed}
use Rattle.place_lemmas.proofs.Mutexes.{mutex_calls_keep}
use Rattle.place_lemmas.proofs.Pools.{pool_calls_keep}
use Rattle.place_lemmas.proofs.SemFlags.{sem_flag_calls_keep}
use Rattle.place_lemmas.proofs.Times.{time_calls_keep}
use Rattle.table_lemmas.proofs.Slots.{IfServed, first_kept}

-- ---- the base

pub record HasNoZero (b : Base) : Type 0 where
  pub none : task_at b 0 ≡ None
  pub place : times 0 b.order ≡ 0

-- a task that exists isn't 0
some_task : (b : Base) (t : ℕ) (k : Task) → HasNoZero b → task_at b t ≡ Some k → t ≡ 0 → ⊥
some_task b t k has at same = let here : task_at b 0 ≡ Some k = ap (task_at b) (sym same) ∙ at in let none = has.none in cc (here, none)

out_zero : (t : ℕ) (order : List ℕ) → times 0 order ≡ 0 → times 0 (without t order) ≡ 0
out_zero t order none = by_test (not (0 == t)) (times_filter_is (λ u. not (u == t)) 0 order)
  where
    by_test : (test : Bool) → times 0 (without t order) ≡ cond test (times 0 order) 0 → times 0 (without t order) ≡ 0
    by_test true is = is ∙ none
    by_test false is = is

back_zero : (t : ℕ) (order : List ℕ) → (t ≡ 0 → ⊥) → times 0 order ≡ 0 → times 0 (to_back t order) ≡ 0
back_zero t order some none =
    let other : (t == 0) ≡ false = grind (arith, nat_tests, some) in
    times_append 0 (without t order) (t ∷ [])
    ∙ ap (λ n. n + (cond (t == 0) 1 0 + 0)) (out_zero t order none)
    ∙ ap (λ (test : Bool). 0 + (cond test 1 0 + 0)) other

back_if : (t : ℕ) (order : List ℕ) (back : Bool) → (t ≡ 0 → ⊥) → times 0 order ≡ 0 → times 0 (cond back (to_back t order) order) ≡ 0
back_if t order true some none = back_zero t order some none
back_if t order false some none = none

-- the row of another task is written
written_zero : (b c : Base) (t : ℕ) (slot : Option Task) → (t ≡ 0 → ⊥) → c.tasks ≡ slice_set b.tasks t slot → times 0 c.order ≡ 0 → HasNoZero b → HasNoZero c
written_zero b c t slot some written place has = record {
  none = ap (λ rows. entry rows 0) written ∙ entry_other b.tasks t 0 slot (λ e. some (sym e)) ∙ has.none;
  place = place;
}

-- rows and stamps are as before
seen_zero : (b c : Base) → c.tasks ≡ b.tasks → c.order ≡ b.order → HasNoZero b → HasNoZero c
seen_zero b c rows order has = record { none = ap (λ rows. entry rows 0) rows ∙ has.none; place = ap (times 0) order ∙ has.place }

-- a move of a task that exists
moved_zero : (b : Base) (t : ℕ) (f : Task → Base) → HasNoZero b → ((k : Task) → task_at b t ≡ Some k → (t ≡ 0 → ⊥) → HasNoZero (f k)) → HasNoZero (with_entry (task_at b t) b f)
moved_zero b t f has each = entry_cases HasNoZero (task_at b t) b f has (λ k at. each k at (some_task b t k has at))

either_zero : (test : Bool) (one other : Base) → HasNoZero one → HasNoZero other → HasNoZero (cond test one other)
either_zero true one other first second = first
either_zero false one other first second = second

wait_zero : (b : Base) (t object : ℕ) (order : Order) (timeout : ℤ) → HasNoZero b → HasNoZero (make_wait b t object order timeout)
wait_zero b t object order (pos n) has = moved_zero b t _ has (λ k at some. written_zero b _ t _ some refl (back_zero t b.order some has.place) has)
wait_zero b t object order (negsuc n) has = moved_zero b t _ has (λ k at some. written_zero b _ t _ some refl (back_zero t b.order some has.place) has)

move_zero : (b : Base) (t object : ℕ) (order : Order) → HasNoZero b → HasNoZero (move_wait b t object order)
move_zero b t object order has = moved_zero b t _ has (λ k at some. either_zero (is_waiting_phase k.phase) _ b (written_zero b _ t _ some refl has.place has) has)

release_zero : (b : Base) (t : ℕ) (answer : Answer) → HasNoZero b → HasNoZero (release b t answer)
release_zero b t answer has =
    moved_zero b t _ has (λ k at some. either_zero (is_waiting_phase k.phase) _ b (written_zero b _ t _ some refl (back_if t b.order (k.suspensions == 0) some has.place) has) has)

refresh_zero : (b : Base) (t priority : ℕ) → HasNoZero b → HasNoZero (set_current b t priority)
refresh_zero b t priority has = moved_zero b t _ has (λ k at some. written_zero b _ t _ some refl (back_zero t b.order some has.place) has)

delete_zero : (b : Base) (t : ℕ) → HasNoZero b → HasNoZero (delete b t)
delete_zero b t has = moved_zero b t _ has (λ k at some. written_zero b _ t None some refl (out_zero t b.order has.place) has)

ready_zero : (b : Base) (t : ℕ) → HasNoZero b → HasNoZero (make_ready b t)
ready_zero b t has = moved_zero b t _ has (λ k at some. written_zero b _ t _ some refl (back_zero t b.order some has.place) has)

dormant_zero : (b : Base) (t : ℕ) → HasNoZero b → HasNoZero (make_dormant b t)
dormant_zero b t has = moved_zero b t _ has (λ k at some. written_zero b _ t _ some refl has.place has)

suspend_zero : (b : Base) (t : ℕ) → HasNoZero b → HasNoZero (suspend b t)
suspend_zero b t has = moved_zero b t _ has (λ k at some. written_zero b _ t _ some refl has.place has)

resume_zero : (b : Base) (t : ℕ) (all : Bool) → HasNoZero b → HasNoZero (resume b t all)
resume_zero b t all has =
    moved_zero b t _ has
    (λ k at some. either_zero (k.suspensions == 0) b (resumed b t (cond all 0 (k.suspensions - 1)) k) has
    (written_zero b _ t _ some refl (back_if t b.order (becomes_ready k.phase (cond all 0 (k.suspensions - 1))) some has.place) has))

wakeups_zero : (b : Base) (t n : ℕ) → HasNoZero b → HasNoZero (set_wakeups b t n)
wakeups_zero b t n has = moved_zero b t _ has (λ k at some. written_zero b _ t _ some refl has.place has)

based_zero : (b : Base) (t priority : ℕ) → HasNoZero b → HasNoZero (set_base b t priority)
based_zero b t priority has = moved_zero b t _ has (λ k at some. written_zero b _ t _ some refl has.place has)

taken_zero : (b : Base) (n : ℕ) → HasNoZero b → HasNoZero (take_bytes b n)
taken_zero b n has = either_zero (has_room b n) _ b (seen_zero b _ refl refl has) has

-- what calls on no tasks may do to the base
zero_passes : IsPassed HasNoZero HasNoZero
zero_passes = record {
  ends = λ b has. has;
  waits = wait_zero;
  released = release_zero;
  taken = taken_zero;
  given = λ b n has. seen_zero b (give_bytes b n) refl refl has;
  added = λ b time what has. seen_zero b (add_event b time what) refl refl has;
  passed = λ b passes has. seen_zero b (record b { events = filter passes b.events }) refl refl has;
  flagged = λ b flags has. seen_zero b (set_flags b flags) refl refl has;
}

-- and what servings do
zero_survives : (may : ℕ → Type 0) → Survives may HasNoZero
zero_survives may = record {
  released = λ b t object answer above waits has. release_zero b t answer has;
  moved = λ b t d dd least most moves waits has. move_zero b t _ _ has;
  given = λ b n has. seen_zero b (give_bytes b n) refl refl has;
}

-- ---- calls on tasks

abbrev Zero : TaskDone → Type 0
Zero done = HasNoZero done.base

either_done : (test : Bool) (one other : TaskDone) → Zero one → Zero other → Zero (cond {A = TaskDone} test one other)
either_done true one other first second = first
either_done false one other first second = second

enabled_zero : (b : Base) (ran : Bool) → HasNoZero b → HasNoZero (TaskCalls.enabled_after ran b)
enabled_zero b true has = seen_zero b (TaskCalls.enabled_after true b) refl refl has
enabled_zero b false has = has

slept_zero : (b : Base) (t : ℕ) (timeout : ℤ) (requests : ℕ) → HasNoZero b → Zero (TaskCalls.slept b t timeout requests)
slept_zero b t timeout zero has =
    either_done (int_eq timeout (pos 0)) (record { base = b; outcome = failed er.TmOut })
    (record { base = make_wait b t TaskCalls.sleep_object Fifo timeout; outcome = outcomes.Blocked }) has (wait_zero b t TaskCalls.sleep_object Fifo timeout has)
slept_zero b t timeout (suc requests) has = wakeups_zero b t requests has

some_id : (n : ℕ) → not (n == 0) ≡ true → n ≡ 0 → ⊥
some_id n is same = grind (arith, nat_tests, is, same)

create_zero : (b : Base) (t priority stack bytes : ℕ) → (t ≡ 0 → ⊥) → HasNoZero b → HasNoZero (create (take_bytes b bytes) t priority stack)
create_zero b t priority stack bytes some has =
    let taken = taken_zero b bytes has in
    written_zero (take_bytes b bytes) _ t _ some refl (back_zero t (take_bytes b bytes).order some taken.place) taken

first_some : (v : ℕ) (rest : List ℕ) → times 0 (v ∷ rest) ≡ 0 → v ≡ 0 → ⊥
first_some v rest none same = some_if (v == 0) refl none
  where
    some_if : (test : Bool) → (v == 0) ≡ test → cond test 1 0 + times 0 rest ≡ 0 → ⊥
    some_if true is none = omega (arith, none)
    some_if false is none = grind (arith, nat_tests, is, same)

rotated_zero : (b : Base) (ids : List ℕ) → times 0 ids ≡ 0 → HasNoZero b → HasNoZero (record b { order = back_if_any ids b.order })
rotated_zero b [] none has = seen_zero b _ refl refl has
rotated_zero b (v ∷ rest) none has = record { none = has.none; place = back_zero v b.order (first_some v rest none) has.place }

none_ready : (b : Base) (priority : ℕ) → HasNoZero b → times 0 (ready_of b priority) ≡ 0
none_ready b priority has = by_test (is_ready_with b priority 0) (times_filter_is (is_ready_with b priority) 0 b.order)
  where
    by_test : (test : Bool) → times 0 (ready_of b priority) ≡ cond test (times 0 b.order) 0 → times 0 (ready_of b priority) ≡ 0
    by_test true is = is ∙ has.place
    by_test false is = is

-- the call isn't `tk_chg_pri`
plain_zero : (b : Base) (who : Who) (it : TaskCall) → ((task priority : ℤ) → it ≡ tasks.ChgPri task priority → ⊥) → HasNoZero b → Zero (task_call b who it)
unfolding task_call create_task delete_task start_task exit_task terminate_task rotate_ready get_task refer_task sleep delay wake_up cancel_wakeups release_wait suspend_task resume_task
plain_zero b who (tasks.CreTsk attributes body priority stack) other has =
    checked_cases Zero (TaskCalls.create_checks b attributes priority stack) b _ (λ code. has)
    (λ none. create_zero b (free_task b) (natural priority) (natural stack) (natural stack) (some_id (free_task b) (holds_at 3 (TaskCalls.create_checks b attributes priority stack) none)) has)
plain_zero b who (tasks.DelTsk task) other has = checked_cases Zero (TaskCalls.delete_checks b task) b _ (λ code. has) (λ none. delete_zero b (natural task) has)
plain_zero b who (tasks.StaTsk task code) other has = checked_cases Zero (TaskCalls.start_checks b task code) b _ (λ code. has) (λ none. ready_zero b (natural task) has)
plain_zero b who tasks.ExtTsk other has = seen_zero (make_dormant b (TaskCalls.caller who)) _ refl refl (dormant_zero b (TaskCalls.caller who) has)
plain_zero b who tasks.ExdTsk other has = seen_zero (make_dormant b (TaskCalls.caller who)) _ refl refl (dormant_zero b (TaskCalls.caller who) has)
plain_zero b who (tasks.TerTsk task) other has =
    checked_cases Zero (TaskCalls.terminate_checks b who task) b _ (λ code. has)
    (λ none. enabled_zero (make_dormant b (natural task)) (is_current (natural task) b.cur) (dormant_zero b (natural task) has))
plain_zero b who (tasks.ChgPri task priority) other has = absurd (other task priority refl)
plain_zero b who (tasks.RotRdq priority) other has =
    checked_cases Zero ((within 0 140 priority otherwise er.Par) ∷ []) b _ (λ code. has)
    (λ none. rotated_zero b (ready_of b (rotated_priority b priority)) (none_ready b (rotated_priority b priority) has) has)
plain_zero b who tasks.GetTid other has = has
plain_zero b who (tasks.RefTsk task) other has = checked_cases Zero (TaskCalls.named_checks b who task) b _ (λ code. has) (λ none. has)
plain_zero b who (tasks.SlpTsk timeout) other has =
    checked_cases Zero (TaskCalls.waiting_checks b who (negsuc 0) timeout) b _ (λ code. has)
    (λ none. slept_zero b (TaskCalls.caller who) timeout (wakeups_of b (TaskCalls.caller who)) has)
plain_zero b who (tasks.WupTsk task) other has =
    checked_cases Zero (TaskCalls.wake_up_checks b who task) b _ (λ code. has)
    (λ none. either_zero (waits_for b TaskCalls.sleep_object (natural task)) (release b (natural task) (plain (pos 0)))
    (set_wakeups b (natural task) (wakeups_of b (natural task) + 1)) (release_zero b (natural task) (plain (pos 0)) has)
    (wakeups_zero b (natural task) (wakeups_of b (natural task) + 1) has))
plain_zero b who (tasks.CanWup task) other has = checked_cases Zero (TaskCalls.cancel_checks b who task) b _ (λ code. has) (λ none. wakeups_zero b (TaskCalls.named who task) 0 has)
plain_zero b who (tasks.RelWai task) other has =
    checked_cases Zero (TaskCalls.release_checks b task) b _ (λ code. has) (λ none. release_zero b (natural task) (plain (code_of er.RlWai)) has)
plain_zero b who (tasks.SusTsk task) other has = checked_cases Zero (TaskCalls.suspend_checks b who task) b _ (λ code. has) (λ none. suspend_zero b (natural task) has)
plain_zero b who (tasks.RsmTsk task) other has = checked_cases Zero (TaskCalls.resume_checks b task) b _ (λ code. has) (λ none. resume_zero b (natural task) false has)
plain_zero b who (tasks.FrsmTsk task) other has = checked_cases Zero (TaskCalls.resume_checks b task) b _ (λ code. has) (λ none. resume_zero b (natural task) true has)
plain_zero b who (tasks.DlyTsk time) other has =
    checked_cases Zero (TaskCalls.waiting_checks b who (pos 0) time) b _ (λ code. has)
    (λ none. either_done (int_eq time (pos 0)) (TaskCalls.finished b)
    (record { base = make_wait b (TaskCalls.caller who) TaskCalls.delay_object Fifo time; outcome = outcomes.Blocked }) has
    (wait_zero b (TaskCalls.caller who) TaskCalls.delay_object Fifo time has))

there_some : (b : Base) (t : ℕ) → HasNoZero b → is_some (task_at b t) ≡ true → t ≡ 0 → ⊥
there_some b t has is same = let gone : is_some (task_at b t) ≡ false = ap (λ u. is_some (task_at b u)) same ∙ ap is_some has.none in cc (is, gone)

rebased_zero : (b : Base) (t priority : ℕ) → (t ≡ 0 → ⊥) → HasNoZero b → HasNoZero (TaskCalls.rebased b t priority)
rebased_zero b t priority some has =
    let now = based_zero b t priority has in
    either_zero (current b t == priority) (record (set_base b t priority) { order = to_back t b.order }) (set_base b t priority)
    (record { none = now.none; place = back_zero t b.order some has.place }) now

task_zero : (b : Base) (m : Mutexes) (who : Who) (it : TaskCall) → HasNoZero b → HasNoZero (task_call_beside b m who it).base
unfolding task_call_beside change_priority_beside
task_zero b m who (tasks.ChgPri task priority) has =
    checked_cases Zero (change_checks_beside b m who task priority) b _ (λ code. has)
    (λ none. rebased_zero b (TaskCalls.named who task) (TaskCalls.new_base b (TaskCalls.named who task) priority)
    (there_some b (TaskCalls.named who task) has (holds_at 2 (change_checks_beside b m who task priority) none)) has)
task_zero b m who (tasks.CreTsk attributes body priority stack) has = plain_zero b who (tasks.CreTsk attributes body priority stack) (λ id n e. cc e) has
task_zero b m who (tasks.DelTsk task) has = plain_zero b who (tasks.DelTsk task) (λ id n e. cc e) has
task_zero b m who (tasks.StaTsk task code) has = plain_zero b who (tasks.StaTsk task code) (λ id n e. cc e) has
task_zero b m who tasks.ExtTsk has = plain_zero b who tasks.ExtTsk (λ id n e. cc e) has
task_zero b m who tasks.ExdTsk has = plain_zero b who tasks.ExdTsk (λ id n e. cc e) has
task_zero b m who (tasks.TerTsk task) has = plain_zero b who (tasks.TerTsk task) (λ id n e. cc e) has
task_zero b m who (tasks.RotRdq priority) has = plain_zero b who (tasks.RotRdq priority) (λ id n e. cc e) has
task_zero b m who tasks.GetTid has = plain_zero b who tasks.GetTid (λ id n e. cc e) has
task_zero b m who (tasks.RefTsk task) has = plain_zero b who (tasks.RefTsk task) (λ id n e. cc e) has
task_zero b m who (tasks.SlpTsk timeout) has = plain_zero b who (tasks.SlpTsk timeout) (λ id n e. cc e) has
task_zero b m who (tasks.WupTsk task) has = plain_zero b who (tasks.WupTsk task) (λ id n e. cc e) has
task_zero b m who (tasks.CanWup task) has = plain_zero b who (tasks.CanWup task) (λ id n e. cc e) has
task_zero b m who (tasks.RelWai task) has = plain_zero b who (tasks.RelWai task) (λ id n e. cc e) has
task_zero b m who (tasks.SusTsk task) has = plain_zero b who (tasks.SusTsk task) (λ id n e. cc e) has
task_zero b m who (tasks.RsmTsk task) has = plain_zero b who (tasks.RsmTsk task) (λ id n e. cc e) has
task_zero b m who (tasks.FrsmTsk task) has = plain_zero b who (tasks.FrsmTsk task) (λ id n e. cc e) has
task_zero b m who (tasks.DlyTsk time) has = plain_zero b who (tasks.DlyTsk time) (λ id n e. cc e) has

-- ---- mutexes

-- no mutex is 0
abbrev NoMutex : Mutexes → Type 0
NoMutex m = mutex_at m 0 ≡ None

-- a mutex that exists has another number
other_mutex : (m : Mutexes) (id : ℕ) (k : Mutex) (slot : Option Mutex) (locks : List ℕ) → NoMutex m → mutex_at m id ≡ Some k → NoMutex (record (with_mutex m id slot) { locks = locks })
other_mutex m id k slot locks none at =
    entry_other m.table id 0 slot (λ e. let here : mutex_at m 0 ≡ Some k = ap (mutex_at m) e ∙ at in cc (here, none)) ∙ none

slot_mutex : (slots : List (Option Mutex)) (id : ℕ) (slot : Option Mutex) → entry slots 0 ≡ None → (id ≡ 0 → slot ≡ None) → entry (slice_set slots id slot) 0 ≡ None
slot_mutex [] id slot none here = refl
slot_mutex (x ∷ slots) zero slot none here = here refl
slot_mutex (x ∷ slots) (suc id) slot none here = none

freed_mutex : (m : Mutexes) (id : ℕ) → NoMutex m → NoMutex (freed m id)
freed_mutex m id none = slot_mutex m.table id _ none (λ e. ap (option_map {T = Mutex} (λ k. record k { owner = 0 })) (ap (mutex_at m) e ∙ none))

abbrev NoneDone : MutexDone → Type 0
NoneDone done = NoMutex done.table

either_mutex : (test : Bool) (one other : MutexDone) → NoneDone one → NoneDone other → NoneDone (cond {A = MutexDone} test one other)
either_mutex true one other first second = first
either_mutex false one other first second = second

waited_mutex : (b : Base) (m : Mutexes) (t id : ℕ) (timeout : ℤ) (slot : Option Mutex) → mutex_at m id ≡ slot → NoMutex m → NoneDone (waited_for_mutex b m t id timeout slot)
waited_mutex b m t id timeout None at none = none
waited_mutex b m t id timeout (Some k) at none =
    either_mutex (k.owner == 0) (table_changed b (locked m id k t) (pos 0)) (waits_or_ends b m t id k.order timeout)
    (other_mutex m id k (Some (record k { owner = t })) (to_back id m.locks) none at)
    (either_mutex (int_eq timeout (pos 0)) _ _ none none)

call_mutex : (b : Base) (m : Mutexes) (who : Who) (it : MutexCall) → NoMutex m → NoMutex (mutex_call b m who it).table
unfolding mutex_call MutexCalls.create_mutex MutexCalls.lock_mutex MutexCalls.unlock_mutex MutexCalls.refer_mutex MutexCalls.delete_mutex
call_mutex b m who (mutexes.CreMtx attributes ceiling) none =
    mutex_cases NoneDone (MutexCalls.create_checks m attributes ceiling) b m _ (λ code. none)
    (λ passed. slot_mutex m.table (MutexCalls.free_mutex m) _ none
    (λ e. absurd (some_id (MutexCalls.free_mutex m) (holds_at 2 (MutexCalls.create_checks m attributes ceiling) passed) e)))
call_mutex b m who (mutexes.LocMtx id timeout) none =
    mutex_cases NoneDone (MutexCalls.lock_checks b m who id timeout) b m _ (λ code. none)
    (λ passed. waited_mutex b m (TaskCalls.caller who) (natural id) timeout (mutex_at m (natural id)) refl none)
call_mutex b m who (mutexes.UnlMtx id) none =
    mutex_cases NoneDone (MutexCalls.unlock_checks b m who id) b m _ (λ code. none) (λ passed. freed_mutex m (natural id) none)
call_mutex b m who (mutexes.RefMtx id) none = mutex_cases NoneDone (object_checks id (has_mutex m (natural id)) []) b m _ (λ code. none) (λ passed. none)
call_mutex b m who (mutexes.DelMtx id) none =
    mutex_cases NoneDone (object_checks id (has_mutex m (natural id)) []) b m _ (λ code. none) (λ passed. slot_mutex m.table (natural id) None none (λ e. refl))

last_mutex : (m now : Mutexes) (last : Option ℕ) → option_map (freed m) last ≡ Some now → NoMutex m → NoMutex now
last_mutex m now None is none = absurd (cc is)
last_mutex m now (Some id) is none = let e : freed m id ≡ now = cc is in subst NoMutex e (freed_mutex m id none)

-- a task that ends frees one
free_last_mutex : (b : Base) (m now : Mutexes) (t : ℕ) → free_last b m t ≡ Some now → NoMutex m → NoMutex now
unfolding free_last
free_last_mutex b m now t is none = last_mutex m now (last_or None (held m t)) is none

-- a serving
waiter_mutex : (b : Base) (m : Mutexes) (id : ℕ) (k : Mutex) (waiters : List ℕ) → mutex_at m id ≡ Some k → NoMutex m →
    IfServed (λ (left : MutexParts). NoMutex left.table) (serve_mutex_of b m id k waiters)
waiter_mutex b m id k [] at none = tt
waiter_mutex b m id k (t ∷ rest) at none = other_mutex m id k (Some (record k { owner = t })) (to_back id m.locks) none at

free_mutex : (free : Bool) (served : Option MutexParts) → IfServed (λ (left : MutexParts). NoMutex left.table) served → IfServed (λ (left : MutexParts). NoMutex left.table) (cond free served None)
free_mutex true served has = has
free_mutex false served has = tt

serve_mutex_in : (b : Base) (m : Mutexes) (id : ℕ) (slot : Option Mutex) → mutex_at m id ≡ slot → NoMutex m → IfServed (λ (left : MutexParts). NoMutex left.table) (serve_mutex_at b m id slot)
serve_mutex_in b m id None at none = tt
serve_mutex_in b m id (Some k) at none = free_mutex (k.owner == 0) (serve_mutex_of b m id k (mutex_waiters b k id)) (waiter_mutex b m id k (mutex_waiters b k id) at none)

serve_mutexes_in : (b : Base) (m : Mutexes) → NoMutex m → IfServed (λ (left : MutexParts). NoMutex left.table) (serve_mutexes b m)
unfolding serve_mutexes serve_mutex
serve_mutexes_in b m none = first_kept (λ (left : MutexParts). NoMutex left.table) (serve_mutex b m) (taken_from 1 (drop 1 m.table)) (λ id. serve_mutex_in b m id (mutex_at m id) refl none)

abbrev pub NoneServed : Parts → Type 0
NoneServed p = NoMutex p.objects.mutexes

mapped_none : {A : Type 0} → (put : A → Parts) (served : Option A) → ((left : A) → NoneServed (put left)) → IfServed NoneServed (option_map put served)
mapped_none put None all = tt
mapped_none put (Some left) all = all left

mapped_mutexes : (p : Parts) (served : Option MutexParts) → IfServed (λ (left : MutexParts). NoMutex left.table) served → IfServed NoneServed (option_map (with_mutexes p) served)
mapped_mutexes p None kept = tt
mapped_mutexes p (Some left) kept = kept

two_none : (here next : Option Parts) → IfServed NoneServed here → IfServed NoneServed next → IfServed NoneServed (elim here as (λ _. Option Parts) [ Some served ↦ Some served | None ↦ next ])
two_none (Some served) next first later = first
two_none None next first later = later

served_none : (p : Parts) → NoneServed p → IfServed NoneServed (serve_object p)
unfolding serve_object first_kind
served_none p none =
    two_none _ _ (mapped_none (with_sem_flags p) (serve_sem_flag p.base p.objects.sem_flags) (λ left. none))
    (two_none _ _ (mapped_none (with_mails p) (serve_mailboxes (mail_parts p)) (λ left. none))
    (two_none _ _ (mapped_mutexes p (serve_mutexes p.base p.objects.mutexes) (serve_mutexes_in p.base p.objects.mutexes none))
    (two_none _ _ (mapped_none (with_mails p) (serve_buffers (mail_parts p)) (λ left. none))
    (two_none _ _ (mapped_none (with_pools p) (serve_fixed_pools (pool_parts p)) (λ left. none))
    (two_none _ _ (mapped_none (with_pools p) (serve_variable_pools (pool_parts p)) (λ left. none))
    (two_none _ _ (mapped_none (with_devices p) (serve_acceptances (dev_parts p)) (λ left. none))
    (two_none _ _ (mapped_none (with_devices p) (serve_endings (dev_parts p)) (λ left. none))
    (two_none _ _ (mapped_none (with_devices p) (serve_closes (dev_parts p)) (λ left. none))
    (two_none _ None (mapped_none (with_devices p) (serve_suspension (dev_parts p)) (λ left. none))
    tt)))))))))

there_none : (q : Parts) (found : Option Parts) → found ≡ Some q → IfServed NoneServed found → NoneServed q
there_none q None is kept = absurd (cc is)
there_none q (Some r) is kept = let same : r ≡ q = cc is in subst NoneServed same kept

-- ---- every event

pub record HasNone (p : Parts) : Type 0 where
  pub base : HasNoZero p.base
  pub mutexes : NoneServed p
  pub few : FewDevices p

again_rows : (b : Base) (what : Event) (slot : Option CyclicRow) → HasNoZero b → HasNoZero (again_in b what slot)
again_rows b what None has = has
again_rows b what (Some k) has = seen_zero b _ refl refl has

again_zero : (b : Base) (c : Clocks) (what : Event) → HasNoZero b → HasNoZero (again b c what)
unfolding again
again_zero b c (Wait t) has = has
again_zero b c (Cyclic id) has = again_rows b (Cyclic id) (cyclic_at c id) has
again_zero b c (Alarm id) has = has

few_arrived : (p : Parts) (e : Ending) (q : DevParts) (found : Option DevParts) → found ≡ Some q → devices.Kept (λ dv. length dv.links ≤ 9) found → length q.table.links ≤ 9
few_arrived p e q None is few = absurd (cc is)
few_arrived p e q (Some r) is few = let same : r ≡ q = cc is in subst (λ (it : DevParts). length it.table.links ≤ 9) same few

handed_none : (mode : Mode) (p : Parts) → HasNone p → HasNone (handed mode p)
handed_none modes.Sync p has = has
handed_none modes.Free p has = record { base = has.base; mutexes = has.mutexes; few = few_handed modes.Free p has.few }

pub none_is_kept : IsKept HasNone
none_is_kept = record {
  few = λ p has. has.few;
  task_calls = λ p who c has. record { base = task_zero p.base p.objects.mutexes who c has.base; mutexes = has.mutexes; few = has.few };
  sem_flag_calls = λ p who c has. record { base = sem_flag_calls_keep HasNoZero HasNoZero zero_passes p.base p.objects.sem_flags who c has.base; mutexes = has.mutexes; few = has.few };
  mutex_calls = λ p who c has. record {
    base = mutex_calls_keep HasNoZero HasNoZero zero_passes p.base p.objects.mutexes who c has.base;
    mutexes = call_mutex p.base p.objects.mutexes who c has.mutexes;
    few = has.few;
  };
  mail_calls = λ p who c has. record { base = mail_calls_keep HasNoZero HasNoZero zero_passes (mail_parts p) who c has.base; mutexes = has.mutexes; few = has.few };
  pool_calls = λ p who c has. record { base = pool_calls_keep HasNoZero HasNoZero zero_passes (pool_parts p) who c has.base; mutexes = has.mutexes; few = has.few };
  time_calls = λ p c has. record { base = time_calls_keep HasNoZero HasNoZero zero_passes p.base p.objects.clocks c has.base; mutexes = has.mutexes; few = has.few };
  context_calls = λ p who c has. record { base = context_calls_keep HasNoZero HasNoZero zero_passes p.base p.objects.contexts who c has.base; mutexes = has.mutexes; few = has.few };
  device_calls = λ p who c has. record {
    base = device_calls_keep HasNoZero HasNoZero zero_passes (dev_parts p) who c has.base;
    mutexes = has.mutexes;
    few = devices.calls_keep (λ dv. length dv.links ≤ 9) few_moves (dev_parts p) who c has.few;
  };
  left = λ p t all has. record { base = has.base; mutexes = has.mutexes; few = has.few };
  freed = λ p t m is has. record { base = has.base; mutexes = free_last_mutex p.base p.objects.mutexes m t is has.mutexes; few = has.few };
  deleted = λ p t has. record { base = delete_zero p.base t has.base; mutexes = has.mutexes; few = has.few };
  refreshed = λ p t priority has. record { base = refresh_zero p.base t priority has.base; mutexes = has.mutexes; few = has.few };
  served = λ p q few is has. record {
    base = (serving p q few is).ends.keeps HasNoZero (zero_survives (IsWished p.objects.devices)) has.base;
    mutexes = there_none q (serve_object p) is (served_none p has.mutexes);
    few = few_served p q few is;
  };
  handed = handed_none;
  handed_first = λ p has. record { base = has.base; mutexes = has.mutexes; few = devices.hand_first_keeps (λ dv. length dv.links ≤ 9) few_moves p.objects.devices has.few };
  messages = λ p has. record { base = has.base; mutexes = has.mutexes; few = emptied_few p.objects.devices has.few };
  arrived = λ p e q is has. record {
    base = arrive_keeps HasNoZero (dev_parts p) e q is has.base;
    mutexes = has.mutexes;
    few = few_arrived p e q (arrive (dev_parts p) e) is (devices.arrival_keeps (λ dv. length dv.links ≤ 9) few_moves few_arrivals (dev_parts p) e has.few);
  };
  released = λ p t answer has. record { base = release_zero p.base t answer has.base; mutexes = has.mutexes; few = has.few };
  again = λ p what has. record { base = again_zero p.base p.objects.clocks what has.base; mutexes = has.mutexes; few = has.few };
  taken = λ p has. record { base = seen_zero p.base (take_due p.base) refl refl has.base; mutexes = has.mutexes; few = has.few };
  advanced = λ p has. record { base = seen_zero p.base (advance p.base) refl refl has.base; mutexes = has.mutexes; few = has.few };
  flagged = λ p flags has. record { base = seen_zero p.base (set_flags p.base flags) refl refl has.base; mutexes = has.mutexes; few = has.few };
  turned = λ p cur has. record { base = seen_zero p.base (record p.base { cur = cur }) refl refl has.base; mutexes = has.mutexes; few = has.few };
  emptied = λ p has. record { base = seen_zero p.base (record p.base { released = [] }) refl refl has.base; mutexes = has.mutexes; few = has.few };
  written = λ p memory has. record { base = has.base; mutexes = has.mutexes; few = has.few };
}

start_none : (script : Script) → IsRunnable script → HasNone (parts_of (state_start script))
unfolding state_start
start_none script runnable = record { base = record { none = refl; place = refl }; mutexes = refl; few = (start_slots script runnable).few }

-- 0 is no task and has no place, and no mutex is 0, in every state that a machine comes to
pub record IsZeroless (p : Parts) : Type 0 where
  pub base : HasNoZero p.base
  pub mutexes : mutex_at p.objects.mutexes 0 ≡ None

pub reached_zeroless : (script : Script) (mode : Mode) (budget : ℕ) (moves : List Move) → IsRunnable script → IsZeroless (parts_of (state_after script mode budget moves))
reached_zeroless script mode budget moves runnable =
    let has = reached_has HasNone none_is_kept script mode budget moves (start_none script runnable) in
    record { base = has.base; mutexes = has.mutexes }
