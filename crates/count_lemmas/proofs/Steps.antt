-- A step of any mode keeps the counts of a run: at most one call or one tick is done at it, and at most one tick becomes pending.
use Rattle.std.proofs.Common.{◌≡◌, ℕ, ◌+◌, ◌-◌, ◌*◌, ◌≤◌, ◌<◌, Bool, true, false, length, Option, Some, None, refl, ap, subst, sym, arith}
use Rattle.std.specs.Bool.{◌==◌}
use Rattle.std.specs.Prelude.{not, ◌&&◌, ◌||◌}
use Rattle.std.proofs.lemmas.Bool.Decides.{nat_tests}
use Rattle.tk_types.specs.declared.run.End.{End}
use Rattle.tk_types.specs.declared.run.Mode.{Mode}
use Rattle.tk_types.specs.declared.script.Script.{Script}
use Rattle.kernel_model.specs.Tasks.Base.{chosen}
use Rattle.kernel_model.specs.Tasks.Views.{is_current}
use Rattle.machine_model.specs.declared.turns.Turn.{Turn}
use Rattle.machine_model.specs.declared.turns.Turn.TheVariants as turns
use Rattle.machine_model.specs.States.State.{State, state_start}
use Rattle.machine_model.specs.Events.Follow.{Event, delays, dispatched, turned}
use Rattle.machine_model.specs.Events.Handlers.{due_begun, first_taken, interrupt_begun, with_requests}
use Rattle.machine_model.specs.Events.Ticks.{tick, tick_state}
use Rattle.machine_model.specs.Runs.Turns.{done_turn, ran, turn_of}
use Rattle.machine_model.specs.Runs.Step.{Went, any_unfinished, counted, end_after, ended_or_went, has_event, is_paced, is_quiet, made_pending, needed, needed_or, step, step_if, went, worked}
use Rattle.machine_model.specs.Runs.Trace.{start}
use Rattle.count_lemmas.specs.Counts.{IsCounted}
use Rattle.count_lemmas.proofs.Few.{Few, few_making, few_quiet}
use Rattle.count_lemmas.proofs.Events.{On, due_begun_on, either_state, followed_on, interrupt_begun_on, ran_on, requests_on}
use Rattle.count_lemmas.proofs.Ticks.{tick_on}

-- ---- the bounds of a state

abbrev UpTo : ℕ → ℕ → Type 0
UpTo most now = now ≤ most

-- at most so many events were made, so many are set, so many ticks passed, and so many are pending
abbrev Within : ℕ → ℕ → ℕ → ℕ → State → Type 0
Within made set time ticks st = On (Few made set (UpTo time)) ticks st

larger : (n m t k more longer later pending : ℕ) (st : State) → n ≤ more → m ≤ longer → t ≤ later → k ≤ pending → Within n m t k st → Within more longer later pending st
larger n m t k more longer later pending st one two three four is = ((omega (arith, is.0.0, one), omega (arith, is.0.1, two), omega (arith, is.0.2, three)), omega (arith, is.1, four))

-- ---- a step

-- what becomes pending
pending_within : (n m t k : ℕ) (script : Script) (number : ℕ) (st : State) → Within n m t k st → Within n m t (k + 1) (made_pending script number st)
pending_within n m t k script number st is =
    let requested = requests_on (Few n m (UpTo t)) k script number st is in
    let before : State = with_requests script number st in
    either_state (Within n m t (k + 1)) (is_paced script.pace number) (record before { ticks = before.ticks + 1 }) before (requested.0, omega (arith, requested.1)) (requested.0, omega (arith, requested.1))

-- a statement makes one event at most
ran_within : (n m t k : ℕ) (script : Script) (mode : Mode) (number : ℕ) (st : State) (who : ℕ) → Within n m t k st → Within ((n + 1) + m) (m + 1) (t + 1) k (ran script mode number st who).state
ran_within n m t k script mode number st who is =
    let T : ℕ → Type 0 = UpTo t in
    let after = ran_on (Few n m T) (Few (n + 1) (m + 1) T) (few_making n m T) (few_quiet (n + 1) (m + 1) T) k script mode number st who is in
    larger (n + 1) (m + 1) t k ((n + 1) + m) (m + 1) (t + 1) k (ran script mode number st who).state (omega arith) (omega arith) (omega arith) (omega arith) after

-- a tick makes as many as are set at most
ticked_within : (n m t k : ℕ) (mode : Mode) (number : ℕ) (st : State) → Within n m t k st → Within ((n + 1) + m) (m + 1) (t + 1) k (tick mode number st).state
unfolding tick
ticked_within n m t k mode number st is =
    let after = tick_on n m k (UpTo t) (UpTo (t + 1)) mode st (λ now early. omega (arith, early)) is in
    larger (n + length st.base.events) m (t + 1) k ((n + 1) + m) (m + 1) (t + 1) k (tick_state mode st) (omega (arith, is.0.1)) (omega arith) (omega arith) (omega arith) after

turn_within : (n m t k : ℕ) (script : Script) (mode : Mode) (number : ℕ) (st : State) (turn : Turn) → Within n m t k st → Within ((n + 1) + m) (m + 1) (t + 1) k (done_turn script mode number st turn).state
unfolding done_turn
turn_within n m t k script mode number st turns.Handler is = ran_within n m t k script mode number st 0 is
turn_within n m t k script mode number st (turns.Due what) is =
    larger n m t k ((n + 1) + m) (m + 1) (t + 1) k (due_begun number (first_taken st) what).state (omega arith) (omega arith) (omega arith) (omega arith) (due_begun_on (Few n m (UpTo t)) (few_quiet n m (UpTo t)) k number (first_taken st) what is)
turn_within n m t k script mode number st turns.Tick is = ticked_within n m t k mode number (record st { ticks = st.ticks - 1 }) (is.0, omega (arith, is.1))
turn_within n m t k script mode number st (turns.Interrupt irq) is =
    larger n m t k ((n + 1) + m) (m + 1) (t + 1) k (interrupt_begun number st irq).state (omega arith) (omega arith) (omega arith) (omega arith) (interrupt_begun_on (Few n m (UpTo t)) (few_quiet n m (UpTo t)) k number st irq is)
turn_within n m t k script mode number st (turns.Task who) is = ran_within n m t k script mode number st who is
turn_within n m t k script mode number st turns.Idle is = ticked_within n m t k mode number st is

-- what is done at a step, and all that follows it
worked_within : (n m t k : ℕ) (script : Script) (mode : Mode) (number : ℕ) (st : State) → Within n m t k st → Within ((n + 1) + m) (m + 1) (t + 1) (k + 1) (worked script mode number st).state
unfolding worked
worked_within n m t k script mode number st is =
    let before : State = made_pending script number st in
    let done : Event = done_turn script mode number before (turn_of before) in
    let T : ℕ → Type 0 = UpTo (t + 1) in
    followed_on (Few ((n + 1) + m) (m + 1) T) (few_quiet ((n + 1) + m) (m + 1) T) (k + 1) script mode number done.state (turn_within n m t (k + 1) script mode number before (turn_of before) (pending_within n m t k script number st is))

-- a step that is done keeps the counts
pub worked_counted : (script : Script) (mode : Mode) (st : State) → st.steps < 1000000 → IsCounted st → IsCounted (record (worked script mode (st.steps + 1) st).state { steps = st.steps + 1 })
worked_counted script mode st below is =
    let after = worked_within (1000000 * st.steps) st.steps st.steps st.steps script mode (st.steps + 1) st ((is.made, is.events, is.time), is.ticks) in
    record { time = after.0.2; ticks = after.1; events = after.0.1; made = omega (arith, after.0.0, below) }

-- ---- what comes of a step

ended_went : (ends : Bool) (script : Script) (mode : Mode) (budget : ℕ) (st : State) (event : Event) (over : Option End) → ended_or_went ends script mode budget st ≡ Went event over → went script mode budget st ≡ Went event over
ended_went true script mode budget st event over is = absurd (cc is)
ended_went false script mode budget st event over is = is

needed_went : (waiting : Option State) (set : Bool) (script : Script) (mode : Mode) (budget : ℕ) (st : State) (event : Event) (over : Option End) → needed_or waiting set script mode budget st ≡ Went event over →
    went script mode budget st ≡ Went event over
needed_went (Some now) set script mode budget st event over is = absurd (cc is)
needed_went None set script mode budget st event over is = ended_went (not set && not (any_unfinished st.objects.devices)) script mode budget st event over is

if_went : (quiet : Bool) (script : Script) (mode : Mode) (budget : ℕ) (st : State) (event : Event) (over : Option End) → step_if quiet script mode budget st ≡ Went event over → went script mode budget st ≡ Went event over
if_went true script mode budget st event over is =
    let set : Bool = has_event script (st.steps + 1) st in
    needed_went (needed mode set st) set script mode budget st event over is
if_went false script mode budget st event over is = is

-- where a step was done, the event is what is done at it, and the run is over where that or the budget says so
record IsDone (script : Script) (mode : Mode) (budget : ℕ) (st : State) (event : Event) (over : Option End) : Type 0 where
  pub now : record (worked script mode (st.steps + 1) st).state { steps = st.steps + 1 } ≡ event.state
  pub ends : end_after (worked script mode (st.steps + 1) st).state.halted (st.steps + 1 == budget) ≡ over

of_went : (first event : Event) (end over : Option End) → Went first end ≡ Went event over → (first.state ≡ event.state) × (end ≡ over)
of_went first event end over is = let same : first ≡ event = cc is in (ap (λ (e : Event). e.state) same, cc is)

done_is : (script : Script) (mode : Mode) (budget : ℕ) (st : State) (event : Event) (over : Option End) → step script mode budget st ≡ Went event over → IsDone script mode budget st event over
unfolding step counted
done_is script mode budget st event over is =
    let both = of_went _ event _ over (if_went (is_quiet st) script mode budget st event over is) in
    record { now = both.0; ends = both.1 }

-- a step keeps the counts of a run, in every mode
pub step_counted : (script : Script) (mode : Mode) (budget : ℕ) (st : State) → budget ≤ 1000000 → st.steps < budget → IsCounted st → (event : Event) (over : Option End) → step script mode budget st ≡ Went event over →
    IsCounted event.state
step_counted script mode budget st most below counts event over is = subst IsCounted (done_is script mode budget st event over is).now (worked_counted script mode st (omega (arith, most, below)) counts)

-- and is one step more
pub step_steps : (script : Script) (mode : Mode) (budget : ℕ) (st : State) (event : Event) (over : Option End) → step script mode budget st ≡ Went event over → event.state.steps ≡ st.steps + 1
step_steps script mode budget st event over is = sym (ap (λ (now : State). now.steps) (done_is script mode budget st event over is).now)

not_last : (steps budget : ℕ) (halted last : Bool) → (steps + 1 == budget) ≡ last → steps < budget → end_after halted last ≡ None → steps + 1 < budget
not_last steps budget true last is below over = absurd (cc over)
not_last steps budget false true is below over = absurd (cc over)
not_last steps budget false false is below over = grind (arith, nat_tests, is, below)

-- where the run goes on after a step, one of its budget is left
pub step_left : (script : Script) (mode : Mode) (budget : ℕ) (st : State) → st.steps < budget → (event : Event) → step script mode budget st ≡ Went event None → event.state.steps < budget
step_left script mode budget st below event is =
    let done = done_is script mode budget st event None is in
    subst (λ (now : State). now.steps < budget) done.now (not_last st.steps budget (worked script mode (st.steps + 1) st).state.halted (st.steps + 1 == budget) refl below done.ends)

-- ---- the start

start_if : (script : Script) (same : Bool) → IsCounted (turned same 0 (state_start script)).state
unfolding state_start
start_if script true = record { time = omega arith; ticks = omega arith; events = omega arith; made = omega arith }
start_if script false = record { time = omega arith; ticks = omega arith; events = omega arith; made = omega arith }

-- at the start nothing was made
pub start_counted : (script : Script) → IsCounted (start script).state
unfolding start dispatched
start_counted script = let first : State = state_start script in start_if script (delays first || is_current (chosen first.base) first.base.cur)

unstepped_if : (script : Script) (same : Bool) → (turned same 0 (state_start script)).state.steps ≡ 0
unfolding state_start
unstepped_if script true = refl
unstepped_if script false = refl

-- and no step is done
pub start_unstepped : (script : Script) → (start script).state.steps ≡ 0
unfolding start dispatched
start_unstepped script = let first : State = state_start script in unstepped_if script (delays first || is_current (chosen first.base) first.base.cur)
