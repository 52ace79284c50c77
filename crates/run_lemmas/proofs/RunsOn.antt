-- The trace that is fed with the endings that a run has taken in so far, and with any later ones, begins with the lines so far, and
-- goes on from the state that the run has come to; so does what passes in it.
use Rattle.std.proofs.Common.{◌≡◌, ℕ, zero, suc, ◌+◌, ◌≤◌, false, List, [], ◌∷◌, ◌++◌, length, Some, None, refl, ◌∙◌, ap, sym, append_assoc, length-append, arith}
use Rattle.std.proofs.lemmas.Bool.Decides.{nat_tests}
use Rattle.tk_types.specs.declared.line.Entry.{Entry}
use Rattle.tk_types.specs.declared.line.Line.{Line}
use Rattle.tk_types.specs.declared.run.Mode.{Mode}
use Rattle.tk_types.specs.declared.script.Script.{Script}
use Rattle.device_model.specs.declared.messages.Ending.{Ending}
use Rattle.machine_model.specs.States.State.{State, taken}
use Rattle.machine_model.specs.Events.Arrivals.{arrived}
use Rattle.machine_model.specs.Events.Follow.{Event}
use Rattle.machine_model.specs.Runs.Step.{Needs, Went, step}
use Rattle.machine_model.specs.Runs.Trace.{Trace, after, is_next_by, named_ending, runs, start, trace}
use Rattle.count_lemmas.proofs.Steps.{start_unstepped, step_steps}
use Rattle.run_model.specs.Passings.{Passing, Takes, gives, passed, passings}
use Rattle.run_model.specs.SoFar.{IsSoFar, SoFar, begins, entry_before, goes_on, needs, takes_in}
use Rattle.run_lemmas.proofs.Needing.{needs_steps}
use Rattle.run_lemmas.proofs.Onward.{arrived_steps, none_waits, steps_left}
use Rattle.run_lemmas.proofs.Turns.{MayTake, not_before, turn_goes, turn_passes, turn_passes_in, turn_passes_waits, turn_takes, turn_waits}

-- ---- entries that are left

-- one that isn't due at a place isn't due before it
earlier : (n more : ℕ) (later : List Entry) → more ≡ n + 1 → is_next_by more later ≡ false → is_next_by n later ≡ false
earlier n more [] is early = refl
earlier n more (entry ∷ later) is early = grind (arith, nat_tests, is, early)

at_place : (n more : ℕ) (later : List Entry) → more ≡ n → is_next_by more later ≡ false → is_next_by n later ≡ false
at_place n more later is early = ap (λ (m : ℕ). is_next_by m later) (sym is) ∙ early

-- ---- lines

after_both : (front back : List Line) (rest : Trace) → after front (after back rest) ≡ after (front ++ back) rest
after_both front back rest = ap (λ (lines : List Line). record rest { lines = lines }) (sym (append_assoc front back rest.lines))

-- how many turns are left in a run that goes on: one for each step of the budget that is left, one for each entry, and one more
abbrev pub AreLeft : ℕ → ℕ → SoFar → List Entry → Type 0
AreLeft turns budget so later = turns + so.state.steps ≡ budget + (length later + 1)

went_on : (left : ℕ) (script : Script) (mode : Mode) (budget : ℕ) (st : State) (k : ℕ) (later : List Entry) (event : Event) → is_next_by (st.steps + 1) later ≡ false → step script mode budget st ≡ Went event None →
    runs (suc left) script mode budget st k later ≡ after event.lines (runs left script mode budget (taken event.state) k later)
unfolding runs
went_on left script mode budget st k later event early went = turn_goes (λ now j rest. runs left script mode budget now j rest) script mode budget st k later event early went

took_on : (left : ℕ) (script : Script) (mode : Mode) (budget : ℕ) (st : State) (k : ℕ) (later : List Entry) (named : Ending) (event : Event) → taken st ≡ st → MayTake script mode budget st →
    named_ending st (entry_before (st.steps + 1) named) ≡ Some named → arrived script mode st named ≡ Some event →
    runs (suc left) script mode budget st k (entry_before (st.steps + 1) named ∷ later) ≡ after event.lines (runs left script mode budget (taken event.state) (k + 1) later)
unfolding runs
took_on left script mode budget st k later named event none may is comes = turn_takes (λ now j rest. runs left script mode budget now j rest) script mode budget st k later named event none may is comes

waited_on : (turns : ℕ) (script : Script) (mode : Mode) (budget : ℕ) (st waiting : State) (k : ℕ) (later : List Entry) → 1 ≤ turns → taken st ≡ st → step script mode budget st ≡ Needs waiting →
    runs turns script mode budget st k later ≡ runs turns script mode budget (taken waiting) k later
unfolding runs
waited_on zero script mode budget st waiting k later some none needed = absurd (omega (arith, some))
waited_on (suc left) script mode budget st waiting k later some none needed = turn_waits (λ now j rest. runs left script mode budget now j rest) script mode budget st waiting k later none needed

-- the trace that is fed with the endings so far, and with later ones, goes on from here
pub runs_on : (script : Script) (mode : Mode) (budget : ℕ) (so : SoFar) (later : List Entry) (turns : ℕ) → 1 ≤ budget → IsSoFar script mode budget so → is_next_by so.state.steps later ≡ false → AreLeft turns budget so later →
    trace script mode budget (so.entries ++ later) ≡ after so.lines (runs turns script mode budget so.state (length so.entries + 1) later)
unfolding trace
runs_on script mode budget _ later turns least begins early left =
    let none = start_unstepped script in
    let all : budget + (length later + 1) ≡ turns = omega (arith, left, none) in
    ap (λ (n : ℕ). after (start script).lines (runs n script mode budget (start script).state 1 later)) all
runs_on script mode budget _ later turns least (goes_on {so = so} {event = event} is went) early left =
    let more : event.state.steps ≡ so.state.steps + 1 = step_steps script mode budget so.state event None went in
    let k : ℕ = length so.entries + 1 in
    runs_on script mode budget so later (suc turns) least is (earlier so.state.steps event.state.steps later more early) (omega (arith, left, more))
    ∙ ap (after so.lines) (went_on turns script mode budget so.state k later event (at_place (so.state.steps + 1) event.state.steps later more early) went)
    ∙ after_both so.lines event.lines (runs turns script mode budget (taken event.state) k later)
runs_on script mode budget _ later turns least (needs {so = so} {waiting = waiting} is needed) early left =
    let same : waiting.steps ≡ so.state.steps = needs_steps script mode budget so.state waiting needed in
    let below = steps_left script mode budget so least is in
    runs_on script mode budget so later turns least is (at_place so.state.steps waiting.steps later same early) (omega (arith, left, same))
    ∙ ap (after so.lines) (waited_on turns script mode budget so.state waiting (length so.entries + 1) later (omega (arith, left, same, below)) (none_waits script mode budget so is) needed)
runs_on script mode budget _ later turns least (takes_in {so = so} {named = named} {event = event} is may at comes) early left =
    let same : event.state.steps ≡ so.state.steps = arrived_steps script mode so.state named event comes in
    let entry : Entry = entry_before (so.state.steps + 1) named in
    let k : ℕ = length so.entries + 1 in
    let many : k + 1 ≡ length (so.entries ++ entry ∷ []) + 1 = ap (λ (n : ℕ). n + 1) (sym (length-append so.entries (entry ∷ []))) in
    ap (trace script mode budget) (append_assoc so.entries (entry ∷ []) later)
    ∙ runs_on script mode budget so (entry ∷ later) (suc turns) least is (not_before so.state.steps) (omega (arith, left, same))
    ∙ ap (after so.lines) (took_on turns script mode budget so.state k later named event (none_waits script mode budget so is) may at comes)
    ∙ after_both so.lines event.lines (runs turns script mode budget (taken event.state) (k + 1) later)
    ∙ ap (λ (n : ℕ). after (so.lines ++ event.lines) (runs turns script mode budget (taken event.state) n later)) many

-- ---- what passes

went_passed_on : (left : ℕ) (script : Script) (mode : Mode) (budget : ℕ) (st : State) (later : List Entry) (event : Event) → is_next_by (st.steps + 1) later ≡ false → step script mode budget st ≡ Went event None →
    passed (suc left) script mode budget st later ≡ gives event.state ++ passed left script mode budget (taken event.state) later
unfolding passed
went_passed_on left script mode budget st later event early went = turn_passes (λ now rest. passed left script mode budget now rest) script mode budget st later event early went

took_passed_on : (left : ℕ) (script : Script) (mode : Mode) (budget : ℕ) (st : State) (later : List Entry) (named : Ending) (event : Event) → taken st ≡ st → MayTake script mode budget st →
    named_ending st (entry_before (st.steps + 1) named) ≡ Some named → arrived script mode st named ≡ Some event →
    passed (suc left) script mode budget st (entry_before (st.steps + 1) named ∷ later) ≡ Takes named ∷ (gives event.state ++ passed left script mode budget (taken event.state) later)
unfolding passed
took_passed_on left script mode budget st later named event none may is comes = turn_passes_in (λ now rest. passed left script mode budget now rest) script mode budget st later named event none may is comes

waited_passed_on : (turns : ℕ) (script : Script) (mode : Mode) (budget : ℕ) (st waiting : State) (later : List Entry) → 1 ≤ turns → taken st ≡ st → step script mode budget st ≡ Needs waiting →
    passed turns script mode budget st later ≡ gives waiting ++ passed turns script mode budget (taken waiting) later
unfolding passed
waited_passed_on zero script mode budget st waiting later some none needed = absurd (omega (arith, some))
waited_passed_on (suc left) script mode budget st waiting later some none needed = turn_passes_waits (λ now rest. passed left script mode budget now rest) script mode budget st waiting later none needed

-- so does what passes in it
pub passes_on : (script : Script) (mode : Mode) (budget : ℕ) (so : SoFar) (later : List Entry) (turns : ℕ) → 1 ≤ budget → IsSoFar script mode budget so → is_next_by so.state.steps later ≡ false → AreLeft turns budget so later →
    passings script mode budget (so.entries ++ later) ≡ so.passings ++ passed turns script mode budget so.state later
unfolding passings
passes_on script mode budget _ later turns least begins early left =
    let none = start_unstepped script in
    let all : budget + (length later + 1) ≡ turns = omega (arith, left, none) in
    ap (λ (n : ℕ). passed n script mode budget (start script).state later) all
passes_on script mode budget _ later turns least (goes_on {so = so} {event = event} is went) early left =
    let more : event.state.steps ≡ so.state.steps + 1 = step_steps script mode budget so.state event None went in
    passes_on script mode budget so later (suc turns) least is (earlier so.state.steps event.state.steps later more early) (omega (arith, left, more))
    ∙ ap (λ (back : List Passing). so.passings ++ back) (went_passed_on turns script mode budget so.state later event (at_place (so.state.steps + 1) event.state.steps later more early) went)
    ∙ sym (append_assoc so.passings (gives event.state) (passed turns script mode budget (taken event.state) later))
passes_on script mode budget _ later turns least (needs {so = so} {waiting = waiting} is needed) early left =
    let same : waiting.steps ≡ so.state.steps = needs_steps script mode budget so.state waiting needed in
    let below = steps_left script mode budget so least is in
    passes_on script mode budget so later turns least is (at_place so.state.steps waiting.steps later same early) (omega (arith, left, same))
    ∙ ap (λ (back : List Passing). so.passings ++ back) (waited_passed_on turns script mode budget so.state waiting later (omega (arith, left, same, below)) (none_waits script mode budget so is) needed)
    ∙ sym (append_assoc so.passings (gives waiting) (passed turns script mode budget (taken waiting) later))
passes_on script mode budget _ later turns least (takes_in {so = so} {named = named} {event = event} is may at comes) early left =
    let same : event.state.steps ≡ so.state.steps = arrived_steps script mode so.state named event comes in
    let entry : Entry = entry_before (so.state.steps + 1) named in
    ap (passings script mode budget) (append_assoc so.entries (entry ∷ []) later)
    ∙ passes_on script mode budget so (entry ∷ later) (suc turns) least is (not_before so.state.steps) (omega (arith, left, same))
    ∙ ap (λ (back : List Passing). so.passings ++ back) (took_passed_on turns script mode budget so.state later named event (none_waits script mode budget so is) may at comes)
    ∙ sym (append_assoc so.passings (Takes named ∷ gives event.state) (passed turns script mode budget (taken event.state) later))
