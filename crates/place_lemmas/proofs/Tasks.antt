-- A call on tasks leaves a ready task in its place, whoever makes it, where it keeps its current priority, unless the call
-- rotates the tasks of its priority or changes its own; and so does all that follows it.
use Rattle.std.proofs.Common.{◌≡◌, ℕ, suc, zero, ◌+◌, ◌≤◌, Bool, true, false, cond, List, [], ◌∷◌, Option, None, ℤ, pos, negsuc, refl, ◌∙◌, ap, sym, arith}
use Rattle.std.specs.Bool.{◌==◌}
use Rattle.std.specs.Prelude.{filter, slice_index, slice_set}
use Rattle.std.specs.Ordering.{int_eq}
use Rattle.std.proofs.lemmas.Bool.Decides.{nat_tests}
use Rattle.tk_types.specs.declared.answer.Outcome.{Outcome}
use Rattle.tk_types.specs.declared.answer.Outcome.TheVariants as outcomes
use Rattle.tk_types.specs.declared.answer.Who.{Who}
use Rattle.tk_types.specs.declared.calls.Call.TheVariants as all_calls
use Rattle.tk_types.specs.declared.calls.TaskCall.{TaskCall}
use Rattle.tk_types.specs.declared.calls.TaskCall.TheVariants as call
use Rattle.tk_types.specs.declared.error_code.Er.TheVariants as er
use Rattle.tk_types.specs.declared.run.Mode.{Mode}
use Rattle.tk_types.specs.declared.script.Script.{Script}
use Rattle.tk_types.specs.declared.task.Order.TheVariants.{Fifo}
use Rattle.tk_types.specs.declared.task.Task.{Task}
use Rattle.tk_types.specs.Codes.{code_of}
use Rattle.kernel_model.specs.Bodies.Statements.{give, start_frame}
use Rattle.kernel_model.specs.LawWords.Precedence.{KeepsPlace}
use Rattle.kernel_model.specs.Words.Checks.{◌otherwise◌, failed, natural, plain, within}
use Rattle.kernel_model.specs.Words.Orders.{to_back}
use Rattle.kernel_model.specs.Tasks.Base.{Base, back_if_any, current, current_in, delete, free_task, is_ready, is_ready_with, make_wait, may_run, ready_of, release, rotate, set_wakeups, task_at, waits_for, wakeups_of}
use Rattle.kernel_model.specs.Tasks.Calls as TaskCalls
use Rattle.kernel_model.specs.Tasks.Calls.{TaskDone, task_call, create_task, delete_task, start_task, exit_task, terminate_task, change_priority, rotate_ready, rotated_priority, get_task, refer_task, sleep, delay, wake_up, cancel_wakeups, release_wait, suspend_task, resume_task}
use Rattle.kernel_lemmas.proofs.Moves.{flags_keep, wakeups_keep, rebased_keep, release_keeps, suspend_keeps, resume_keeps, dormant_keeps, wait_keeps, create_keeps, delete_keeps, ready_keeps}
use Rattle.kernel_lemmas.proofs.Places.{Keeps, passes_back}
use Rattle.kernel_lemmas.proofs.Tables.{entry_cases, entry_other}
use Rattle.call_lemmas.proofs.Checked.{checked_cases, holds_at}
use Rattle.object_model.specs.Mutexes.Calls.{change_checks_beside, change_priority_beside, task_call_beside}
use Rattle.object_model.specs.Mutexes.Tables.{Mutexes}
use Rattle.machine_model.specs.Events.Bodies.{begun, entered, with_start}
use Rattle.machine_model.specs.Events.Calls.{answered, called, ended_by, ended_in, family_call, without_holdings}
use Rattle.machine_model.specs.Events.Follow.{followed}
use Rattle.machine_model.specs.States.Objects.{Parts}
use Rattle.machine_model.specs.States.State.{State, frame_of, parts_of, who_of, with_frame}
use Rattle.place_lemmas.proofs.Events.{Stands, stands_followed, stands_holdings}
use Rattle.place_lemmas.proofs.Owned.{second}
use Rattle.place_lemmas.proofs.Settled.{Settles}

-- the call neither rotates the tasks of this one's priority nor changes its own
pub record TakesNoPlace (b : Base) (who : Who) (t : ℕ) (it : TaskCall) : Type 0 where
  pub rotates : (priority : ℤ) → it ≡ call.RotRdq priority → rotated_priority b priority ≡ current b t → ⊥
  pub changes : (task priority : ℤ) → it ≡ call.ChgPri task priority → TaskCalls.named who task ≡ t → ⊥

-- ---- rotation

head_if : (passes : ℕ → Bool) (v first : ℕ) (ts rest : List ℕ) (test : Bool) → passes first ≡ test → cond test (first ∷ rest) rest ≡ v ∷ ts →
    (rest ≡ v ∷ ts → passes v ≡ true) → passes v ≡ true
head_if passes v first ts rest true at is later = let e : first ≡ v = cc is in ap passes (sym e) ∙ at
head_if passes v first ts rest false at is later = later is

-- the first of those that pass a test passes it
head_passes : (passes : ℕ → Bool) (ids : List ℕ) (v : ℕ) (ts : List ℕ) → filter passes ids ≡ v ∷ ts → passes v ≡ true
head_passes passes [] v ts is = absurd (cc is)
head_passes passes (first ∷ ids) v ts is = head_if passes v first ts (filter passes ids) (passes first) refl is (head_passes passes ids v ts)

rotated_first : (b : Base) (t priority : ℕ) (ids : List ℕ) → ready_of b priority ≡ ids → (priority ≡ current b t → ⊥) → KeepsPlace b t →
    KeepsPlace (record b { order = back_if_any ids b.order }) t
rotated_first b t priority [] is apart has = record { before = has.before; behind = has.behind; stands = has.stands; ahead = has.ahead }
rotated_first b t priority (v ∷ ts) is apart has =
    let test : (current b v == priority) ≡ true = second (is_ready b v) (current b v == priority) (head_passes (is_ready_with b priority) b.order v ts is) in
    let same : current b v ≡ priority = grind (arith, nat_tests, test) in
    passes_back b (record b { order = to_back v b.order }) t v has (λ e. apart (sym same ∙ ap (current b) e)) refl (λ u differs. refl)

rotate_keeps : (b : Base) (t priority : ℕ) → (priority ≡ current b t → ⊥) → KeepsPlace b t → Keeps b t (rotate b priority)
rotate_keeps b t priority apart has = λ now same. rotated_first b t priority (ready_of b priority) refl apart has

-- ---- each call

enabled_if : (b c : Base) (t : ℕ) (ran : Bool) → Keeps b t c → Keeps b t (TaskCalls.enabled_after ran c)
enabled_if b c t true keeps = flags_keep b c t _ keeps
enabled_if b c t false keeps = keeps

slept_if : (b : Base) (t u : ℕ) (timeout : ℤ) (over : Bool) → KeepsPlace b t →
    Keeps b t
    (cond {A = TaskDone} over (record { base = b; outcome = failed er.TmOut }) (record { base = make_wait b u TaskCalls.sleep_object Fifo timeout; outcome = outcomes.Blocked })).base
slept_if b t u timeout true is = λ now same. is
slept_if b t u timeout false is = wait_keeps b t u TaskCalls.sleep_object Fifo timeout is

slept_keeps : (b : Base) (t u : ℕ) (timeout : ℤ) (requests : ℕ) → KeepsPlace b t → Keeps b t (TaskCalls.slept b u timeout requests).base
slept_keeps b t u timeout zero is = slept_if b t u timeout (int_eq timeout (pos 0)) is
slept_keeps b t u timeout (suc requests) is = wakeups_keep b t u requests is

delayed_if : (b : Base) (t u : ℕ) (time : ℤ) (over : Bool) → KeepsPlace b t →
    Keeps b t (cond {A = TaskDone} over (TaskCalls.finished b) (record { base = make_wait b u TaskCalls.delay_object Fifo time; outcome = outcomes.Blocked })).base
delayed_if b t u time true is = λ now same. is
delayed_if b t u time false is = wait_keeps b t u TaskCalls.delay_object Fifo time is

woken_if : (b : Base) (t v : ℕ) (waits : Bool) → KeepsPlace b t → is_ready b t ≡ true → Keeps b t (cond waits (release b v (plain (pos 0))) (set_wakeups b v (wakeups_of b v + 1)))
woken_if b t v true is ready = release_keeps b t v (plain (pos 0)) is ready
woken_if b t v false is ready = wakeups_keep b t v (wakeups_of b v + 1) is

-- what holds of the base after a call
abbrev Kept : Base → ℕ → TaskDone → Type 0
Kept b t done = Keeps b t done.base

-- where there are no mutexes
plain_place : (b : Base) (who : Who) (t : ℕ) (it : TaskCall) → KeepsPlace b t → is_ready b t ≡ true → TakesNoPlace b who t it → Keeps b t (task_call b who it).base
unfolding task_call create_task delete_task start_task exit_task terminate_task change_priority rotate_ready get_task refer_task sleep delay wake_up cancel_wakeups release_wait suspend_task resume_task
plain_place b who t (call.CreTsk attributes body priority stack) is ready keeps =
    checked_cases (Kept b t) (TaskCalls.create_checks b attributes priority stack) b _ (λ code now same. is)
    (λ none. create_keeps b t (free_task b) (natural priority) (natural stack) (natural stack) is)
plain_place b who t (call.DelTsk task) is ready keeps =
    checked_cases (Kept b t) (TaskCalls.delete_checks b task) b _ (λ code now same. is) (λ none. delete_keeps b t (natural task) is)
plain_place b who t (call.StaTsk task code) is ready keeps =
    checked_cases (Kept b t) (TaskCalls.start_checks b task code) b _ (λ code now same. is)
    (λ none. ready_keeps b t (natural task) is ready (holds_at 3 (TaskCalls.start_checks b task code) none))
plain_place b who t call.ExtTsk is ready keeps = flags_keep b _ t _ (dormant_keeps b t (TaskCalls.caller who) is)
plain_place b who t call.ExdTsk is ready keeps = flags_keep b _ t _ (dormant_keeps b t (TaskCalls.caller who) is)
plain_place b who t (call.TerTsk task) is ready keeps =
    checked_cases (Kept b t) (TaskCalls.terminate_checks b who task) b _ (λ code now same. is) (λ none. enabled_if b _ t _ (dormant_keeps b t (natural task) is))
plain_place b who t (call.ChgPri task priority) is ready keeps =
    checked_cases (Kept b t) (TaskCalls.change_checks b who task priority) b _ (λ code now same. is)
    (λ none. rebased_keep b t (TaskCalls.named who task) (TaskCalls.new_base b (TaskCalls.named who task) priority) is (keeps.changes task priority refl))
plain_place b who t (call.RotRdq priority) is ready keeps =
    checked_cases (Kept b t) ((within 0 140 priority otherwise er.Par) ∷ []) b _ (λ code now same. is)
    (λ none. rotate_keeps b t (rotated_priority b priority) (keeps.rotates priority refl) is)
plain_place b who t call.GetTid is ready keeps = λ now same. is
plain_place b who t (call.RefTsk task) is ready keeps =
    checked_cases (Kept b t) (TaskCalls.named_checks b who task) b _ (λ code now same. is) (λ none now same. is)
plain_place b who t (call.SlpTsk timeout) is ready keeps =
    checked_cases (Kept b t) (TaskCalls.waiting_checks b who (negsuc 0) timeout) b _ (λ code now same. is)
    (λ none. slept_keeps b t (TaskCalls.caller who) timeout (wakeups_of b (TaskCalls.caller who)) is)
plain_place b who t (call.WupTsk task) is ready keeps =
    checked_cases (Kept b t) (TaskCalls.wake_up_checks b who task) b _ (λ code now same. is)
    (λ none. woken_if b t (natural task) (waits_for b TaskCalls.sleep_object (natural task)) is ready)
plain_place b who t (call.CanWup task) is ready keeps =
    checked_cases (Kept b t) (TaskCalls.cancel_checks b who task) b _ (λ code now same. is) (λ none. wakeups_keep b t (TaskCalls.named who task) 0 is)
plain_place b who t (call.RelWai task) is ready keeps =
    checked_cases (Kept b t) (TaskCalls.release_checks b task) b _ (λ code now same. is) (λ none. release_keeps b t (natural task) (plain (code_of er.RlWai)) is ready)
plain_place b who t (call.SusTsk task) is ready keeps =
    checked_cases (Kept b t) (TaskCalls.suspend_checks b who task) b _ (λ code now same. is) (λ none. suspend_keeps b t (natural task) is)
plain_place b who t (call.RsmTsk task) is ready keeps =
    checked_cases (Kept b t) (TaskCalls.resume_checks b task) b _ (λ code now same. is) (λ none. resume_keeps b t (natural task) false is ready)
plain_place b who t (call.FrsmTsk task) is ready keeps =
    checked_cases (Kept b t) (TaskCalls.resume_checks b task) b _ (λ code now same. is) (λ none. resume_keeps b t (natural task) true is ready)
plain_place b who t (call.DlyTsk time) is ready keeps =
    checked_cases (Kept b t) (TaskCalls.waiting_checks b who (pos 0) time) b _ (λ code now same. is) (λ none. delayed_if b t (TaskCalls.caller who) time (int_eq time (pos 0)) is)

-- a task that is ready after a call, with the priority that it had, is in its place still
pub task_call_place : (b : Base) (m : Mutexes) (who : Who) (t : ℕ) (it : TaskCall) → KeepsPlace b t → is_ready b t ≡ true → TakesNoPlace b who t it →
    Keeps b t (task_call_beside b m who it).base
unfolding task_call_beside change_priority_beside
task_call_place b m who t (call.ChgPri task priority) is ready keeps =
    checked_cases (Kept b t) (change_checks_beside b m who task priority) b _ (λ code now same. is)
    (λ none. rebased_keep b t (TaskCalls.named who task) (TaskCalls.new_base b (TaskCalls.named who task) priority) is (keeps.changes task priority refl))
task_call_place b m who t it is ready keeps = plain_place b who t it is ready keeps

-- ---- what follows from the call

state_if : (P : State → Type 0) (test : Bool) (a b : State) → P a → P b → P (cond test a b)
state_if P true a b first second = first
state_if P false a b first second = second

-- another task is deleted
stands_deleted : (row : Option Task) (t : ℕ) (Q : Mutexes → Type 0) (p : Parts) (v : ℕ) → may_run row ≡ true → (v ≡ t → ⊥) → Stands row t Q p →
    Stands row t Q (record p { base = delete p.base v })
stands_deleted row t Q p v ready apart has =
    let same : task_at (delete p.base v) t ≡ task_at p.base t = entry_cases (λ c. task_at c t ≡ task_at p.base t) (task_at p.base v) p.base _ refl (λ k at. entry_other p.base.tasks v t None (λ e. apart (sym e))) in
    record {
      place = record {
        base = record { is = same ∙ has.place.base.is; place = delete_keeps p.base t v has.place.base.place (ap may_run same ∙ ap may_run has.place.base.is ∙ ready) (ap current_in same) };
        mutexes = has.place.mutexes;
      };
      few = has.few;
    }

begun_stands : (row : Option Task) (t : ℕ) (Q : Mutexes → Type 0) (st : State) (u : ℕ) (it : TaskCall) (value : ℤ) → may_run row ≡ true → (ended_in u it ≡ t → ⊥) →
    Stands row t Q (parts_of st) → Stands row t Q (parts_of (begun st u it value))
begun_stands row t Q st u (call.CreTsk attributes body priority stack) value ready apart has =
    state_if (λ left. Stands row t Q (parts_of left)) (within 1 255 value) (record st { bodies = slice_set st.bodies (natural value) body }) st has has
begun_stands row t Q st u (call.StaTsk id code) value ready apart has =
    state_if (λ left. Stands row t Q (parts_of left)) (int_eq value (pos 0)) (with_start st id code) st
    (state_if (λ left. Stands row t Q (parts_of left)) (within 0 255 id) (with_frame st (natural id) (start_frame (slice_index st.bodies (natural id)) code (pos 0))) st has has) has
begun_stands row t Q st u call.ExdTsk value ready apart has = stands_deleted row t Q (parts_of st) u ready apart has
begun_stands row t Q st u _ value ready apart has = has

pub answered_stands : (row : Option Task) (t : ℕ) (Q : Mutexes → Type 0) (st : State) (u : ℕ) (it : TaskCall) (outcome : Outcome) → may_run row ≡ true →
    (ended_in u it ≡ t → ⊥) → Stands row t Q (parts_of st) →
    Stands row t Q (parts_of (answered st u (all_calls.Task it) outcome))
unfolding answered entered
answered_stands row t Q st u it (outcomes.Returned result) ready apart has = begun_stands row t Q (with_frame st u (give (frame_of st u) result)) u it result.value ready apart has
answered_stands row t Q st u it outcomes.Blocked ready apart has = has
answered_stands row t Q st u it (outcomes.Entered body) ready apart has = has

ended_if : (t n : ℕ) (test : Bool) → 1 ≤ t → (n ≡ t → ⊥) → cond test n 0 ≡ t → ⊥
ended_if t n true one apart is = apart is
ended_if t n false one apart is = omega (arith, one, is)

ended_apart : (t u : ℕ) (it : TaskCall) (outcome : Outcome) → 1 ≤ t → (ended_in u it ≡ t → ⊥) → ended_by u (all_calls.Task it) outcome ≡ t → ⊥
ended_apart t u it (outcomes.Returned result) one apart is = ended_if t (ended_in u it) (int_eq result.value (pos 0)) one apart is
ended_apart t u it outcomes.Blocked one apart is = omega (arith, one, is)
ended_apart t u it (outcomes.Entered body) one apart is = omega (arith, one, is)

-- a call on tasks that leaves this one's row, takes no place of its and doesn't end it, before what follows it
pub task_called : (row : Option Task) (t : ℕ) (Q : Mutexes → Type 0) (mode : Mode) (n : ℕ) (st : State) (u : ℕ) (it : TaskCall) → Settles row t Q →
    TakesNoPlace st.base (who_of u) t it → (ended_in u it ≡ t → ⊥) →
    task_at (task_call_beside st.base st.objects.mutexes (who_of u) it).base t ≡ task_at st.base t → Stands row t Q (parts_of st) → Stands row t Q (parts_of (called mode n st u (all_calls.Task it)).state)
unfolding called family_call
task_called row t Q mode n st u it settles keeps apart same has =
    let done = family_call st u (all_calls.Task it) in
    let was : is_ready st.base t ≡ true = ap may_run has.place.base.is ∙ settles.ready in
    answered_stands row t Q (without_holdings mode done.state (ended_by u (all_calls.Task it) done.outcome)) u it done.outcome settles.ready apart
    (stands_holdings row t Q mode done.state (ended_by u (all_calls.Task it) done.outcome) settles (ended_apart t u it done.outcome settles.least apart)
    (record {
      place = record {
        base = record { is = same ∙ has.place.base.is; place = task_call_place st.base st.objects.mutexes (who_of u) t it has.place.base.place was keeps (ap may_run same ∙ was) (ap current_in same) };
        mutexes = has.place.mutexes;
      };
      few = has.few;
    }))

-- and with all that follows it
pub task_followed : (row : Option Task) (t : ℕ) (Q : Mutexes → Type 0) (script : Script) (mode : Mode) (n : ℕ) (st : State) (u : ℕ) (it : TaskCall) → Settles row t Q →
    TakesNoPlace st.base (who_of u) t it → (ended_in u it ≡ t → ⊥) →
    task_at (task_call_beside st.base st.objects.mutexes (who_of u) it).base t ≡ task_at st.base t → Stands row t Q (parts_of st) → Stands row t Q (parts_of (followed script mode n (called mode n st u (all_calls.Task it)).state).state)
task_followed row t Q script mode n st u it settles keeps apart same has =
    stands_followed row t Q script mode n (called mode n st u (all_calls.Task it)).state settles (task_called row t Q mode n st u it settles keeps apart same has)
