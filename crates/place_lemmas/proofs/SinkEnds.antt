-- A call that ends another task, with the mutexes that this one frees then and all that follows: the priority of a ready task only
-- sinks, and where it doesn't the task keeps its place.
use Rattle.std.proofs.Common.{◌≡◌, ℕ, zero, suc, ◌≤◌, Bool, true, false, None, ℤ, refl, ◌∙◌, ap, sym, arith}
use Rattle.tk_types.specs.declared.answer.Answer.{Answer}
use Rattle.tk_types.specs.declared.answer.Outcome.{Outcome}
use Rattle.tk_types.specs.declared.answer.Outcome.TheVariants as outcomes
use Rattle.tk_types.specs.declared.calls.Call.TheVariants as calls
use Rattle.tk_types.specs.declared.calls.TaskCall.{TaskCall}
use Rattle.tk_types.specs.declared.calls.TaskCall.TheVariants as call
use Rattle.tk_types.specs.declared.run.Mode.{Mode}
use Rattle.tk_types.specs.declared.script.Script.{Script}
use Rattle.tk_types.specs.declared.task.Phase.TheVariants.{Dormant}
use Rattle.kernel_model.specs.LawWords.Precedence.{KeepsPlace}
use Rattle.kernel_model.specs.Words.Checks.{natural}
use Rattle.kernel_model.specs.Tasks.Base.{Base, current, current_in, delete, make_dormant, may_run, set_flags, task_at}
use Rattle.kernel_model.specs.Tasks.Calls as task_calls
use Rattle.kernel_model.specs.Tasks.Calls.{TaskDone, caller, exit_task, task_call, terminate_task}
use Rattle.kernel_model.specs.Tasks.Views.{is_current}
use Rattle.kernel_model.specs.Bodies.Statements.{give}
use Rattle.kernel_lemmas.proofs.Moves.{delete_keeps, dormant_keeps}
use Rattle.kernel_lemmas.proofs.Tables.{entry_cases, entry_other, entry_split}
use Rattle.call_lemmas.proofs.Checked.{checked_cases}
use Rattle.object_model.specs.Mutexes.Calls.{task_call_beside}
use Rattle.object_model.specs.Mutexes.Priority.{current_of}
use Rattle.object_model.specs.Mutexes.Tables.{Mutexes, mutex_at}
use Rattle.machine_model.specs.States.Objects.{Parts}
use Rattle.machine_model.specs.States.State.{State, frame_of, parts_of, who_of, with_frame}
use Rattle.machine_model.specs.Events.Bodies.{entered, noted}
use Rattle.machine_model.specs.Events.Calls.{answered, called, ended_by, ended_in, family_call, without_holdings}
use Rattle.machine_model.specs.Events.Follow.{followed}
use Rattle.place_lemmas.proofs.Fewer.{dead_sinks, gone_sinks}
use Rattle.place_lemmas.proofs.SinkEvents.{SinksTo, sinks_flagged, sinks_followed, sinks_holdings}
use Rattle.place_lemmas.proofs.Sinks.{Lags, Sinks, ready_lives, sinks_itself, sinks_then}

-- ---- a task that is DORMANT, or deleted

-- a base in which the task's row and place are as they were, and its priority by definition isn't higher
base_sinks : (t : ℕ) (p : Parts) (c : Base) → Lags t p → task_at c t ≡ task_at p.base t → current_of p.base p.objects.mutexes t ≤ current_of c p.objects.mutexes t → (KeepsPlace p.base t → KeepsPlace c t) → Sinks t p (record p { base = c })
base_sinks t p c lags row defined place =
    let now : current c t ≡ current p.base t = ap current_in row in
    let lag = lags.lag in
    record {
      lags = record { least = lags.least; few = lags.few; ready = ap may_run row ∙ lags.ready; lag = omega (arith, now, defined, lag); none = lags.none };
      sinks = omega (arith, now);
      place = λ is same. place is;
    }

dormant_row : (b : Base) (t v : ℕ) → (v ≡ t → ⊥) → task_at (make_dormant b v) t ≡ task_at b t
dormant_row b t v apart = entry_cases (λ c. task_at c t ≡ task_at b t) (task_at b v) b _ refl (λ k at. entry_other b.tasks v t _ (λ e. apart (sym e)))

dormant_defined : (b : Base) (m : Mutexes) (t v : ℕ) → (v ≡ t → ⊥) → may_run (task_at b t) ≡ true → mutex_at m 0 ≡ None → current_of b m t ≤ current_of (make_dormant b v) m t
unfolding current_of
dormant_defined b m t v apart ready none =
    entry_split (λ c. current_of b m t ≤ current_of c m t) (task_at b v) b _ (λ absent. omega arith)
    (λ k at. dead_sinks b m t v k (record k { phase = Dormant; base = k.initial; current = k.initial; wakeups = 0; suspensions = 0 }) apart at refl refl (ready_lives (task_at b t) ready) none)

sinks_dormant : (t : ℕ) (p : Parts) (v : ℕ) → (v ≡ t → ⊥) → Lags t p → Sinks t p (record p { base = make_dormant p.base v })
sinks_dormant t p v apart lags =
    let row = dormant_row p.base t v apart in
    base_sinks t p (make_dormant p.base v) lags row (dormant_defined p.base p.objects.mutexes t v apart lags.ready lags.none) (λ is. dormant_keeps p.base t v is (ap may_run row ∙ lags.ready) (ap current_in row))

deleted_row : (b : Base) (t v : ℕ) → (v ≡ t → ⊥) → task_at (delete b v) t ≡ task_at b t
deleted_row b t v apart = entry_cases (λ c. task_at c t ≡ task_at b t) (task_at b v) b _ refl (λ k at. entry_other b.tasks v t None (λ e. apart (sym e)))

deleted_defined : (b : Base) (m : Mutexes) (t v : ℕ) → (v ≡ t → ⊥) → may_run (task_at b t) ≡ true → mutex_at m 0 ≡ None → current_of b m t ≤ current_of (delete b v) m t
unfolding current_of
deleted_defined b m t v apart ready none =
    entry_cases (λ c. current_of b m t ≤ current_of c m t) (task_at b v) b _ (omega arith) (λ k at. gone_sinks b m t v apart (ready_lives (task_at b t) ready) none)

sinks_deleted : (t : ℕ) (p : Parts) (v : ℕ) → (v ≡ t → ⊥) → Lags t p → Sinks t p (record p { base = delete p.base v })
sinks_deleted t p v apart lags =
    let row = deleted_row p.base t v apart in
    base_sinks t p (delete p.base v) lags row (deleted_defined p.base p.objects.mutexes t v apart lags.ready lags.none) (λ is. delete_keeps p.base t v is (ap may_run row ∙ lags.ready) (ap current_in row))

-- ---- the call

-- what is left where another task ended
sinks_exit : (t : ℕ) (p : Parts) (u : ℕ) → (u ≡ t → ⊥) → Lags t p → Sinks t p (record p { base = (exit_task p.base (who_of u)).base })
unfolding exit_task
sinks_exit t p u apart lags =
    let one = sinks_dormant t p (caller (who_of u)) (λ e. apart (same_caller u ∙ e)) lags in
    sinks_then t p (record p { base = make_dormant p.base (caller (who_of u)) }) _ one (sinks_flagged t (record p { base = make_dormant p.base (caller (who_of u)) }) _ one.lags)
  where
    same_caller : (u : ℕ) → u ≡ caller (who_of u)
    same_caller zero = refl
    same_caller (suc u) = refl

enabled_if : (t : ℕ) (p q : Parts) (ran : Bool) → Sinks t p q → Sinks t p (record q { base = task_calls.enabled_after ran q.base })
enabled_if t p q true has = sinks_then t p q (record q { base = set_flags q.base (record q.base.flags { dispatch_off = false }) }) has (sinks_flagged t q (record q.base.flags { dispatch_off = false }) has.lags)
enabled_if t p q false has = has

sinks_terminate : (t : ℕ) (p : Parts) (u : ℕ) (id : ℤ) → (natural id ≡ t → ⊥) → Lags t p → Sinks t p (record p { base = (terminate_task p.base (who_of u) id).base })
unfolding terminate_task
sinks_terminate t p u id apart lags =
    checked_cases (λ (done : TaskDone). Sinks t p (record p { base = done.base })) (task_calls.terminate_checks p.base (who_of u) id) p.base _ (λ code. sinks_itself t p lags)
    (λ passed. enabled_if t p (record p { base = make_dormant p.base (natural id) }) (is_current (natural id) p.base.cur) (sinks_dormant t p (natural id) apart lags))

-- it ends another task
sinks_family : (t : ℕ) (st : State) (u : ℕ) (it : TaskCall) → (ended_in u it ≡ 0 → ⊥) → (ended_in u it ≡ t → ⊥) → Lags t (parts_of st) → SinksTo t st (family_call st u (calls.Task it)).state
unfolding family_call task_call_beside task_call
sinks_family t st u call.ExtTsk some apart lags = sinks_exit t (parts_of st) u apart lags
sinks_family t st u call.ExdTsk some apart lags = sinks_exit t (parts_of st) u apart lags
sinks_family t st u (call.TerTsk id) some apart lags = sinks_terminate t (parts_of st) u id apart lags
sinks_family t st u _ some apart lags = absurd (some refl)

sinks_begun : (t : ℕ) (st : State) (u : ℕ) (it : TaskCall) (result : Answer) → (ended_in u it ≡ 0 → ⊥) → (ended_in u it ≡ t → ⊥) → Lags t (parts_of st) →
    SinksTo t st (noted (with_frame st u (give (frame_of st u) result)) u (calls.Task it) result.value)
sinks_begun t st u call.ExtTsk result some apart lags = sinks_itself t (parts_of st) lags
sinks_begun t st u call.ExdTsk result some apart lags = sinks_deleted t (parts_of st) u apart lags
sinks_begun t st u (call.TerTsk id) result some apart lags = sinks_itself t (parts_of st) lags
sinks_begun t st u _ result some apart lags = absurd (some refl)

sinks_answered : (t : ℕ) (st : State) (u : ℕ) (it : TaskCall) (outcome : Outcome) → (ended_in u it ≡ 0 → ⊥) → (ended_in u it ≡ t → ⊥) → Lags t (parts_of st) → SinksTo t st (answered st u (calls.Task it) outcome)
unfolding answered entered
sinks_answered t st u it (outcomes.Returned result) some apart lags = sinks_begun t st u it result some apart lags
sinks_answered t st u it outcomes.Blocked some apart lags = sinks_itself t (parts_of st) lags
sinks_answered t st u it (outcomes.Entered body) some apart lags = sinks_itself t (parts_of st) lags

-- with all that follows it
pub sinks_ended : (t : ℕ) (script : Script) (mode : Mode) (n : ℕ) (st : State) (u : ℕ) (it : TaskCall) → (ended_in u it ≡ 0 → ⊥) → (ended_in u it ≡ t → ⊥) → Lags t (parts_of st) →
    SinksTo t st (followed script mode n (called mode n st u (calls.Task it)).state).state
unfolding called
sinks_ended t script mode n st u it some apart lags =
    let done = family_call st u (calls.Task it) in
    let ended : ℕ = ended_by u (calls.Task it) done.outcome in
    let held : State = without_holdings mode done.state ended in
    let now : State = answered held u (calls.Task it) done.outcome in
    let one = sinks_family t st u it some apart lags in
    let two = sinks_holdings t mode done.state ended one.lags in
    let three = sinks_answered t held u it done.outcome some apart two.lags in
    let four = sinks_followed t script mode n now three.lags in
    sinks_then t (parts_of st) (parts_of done.state) _ one (sinks_then t (parts_of done.state) (parts_of held) _ two (sinks_then t (parts_of held) (parts_of now) _ three four))
