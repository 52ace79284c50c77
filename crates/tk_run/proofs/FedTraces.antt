-- The turns of a trace are those of a replay.
use Rattle.std.proofs.Common.{◌≡◌, ℕ, suc, ◌+◌, ◌<◌, ◌≤◌, Bool, true, false, cond, leb, List, [], ◌∷◌, ◌++◌, length, drop, Option, Some, None, refl, sym, ap, ◌∙◌, arith}
use Rattle.std.specs.Bool.{◌==◌}
use Rattle.std.proofs.lemmas.List.{append-nil}
use Rattle.tk_types.specs.declared.line.Entry.{Entry}
use Rattle.tk_types.specs.declared.line.LastLine.{LastLine}
use Rattle.tk_types.specs.declared.line.LastLine.TheVariants as lasts
use Rattle.tk_types.specs.declared.line.Line.{Line}
use Rattle.tk_types.specs.declared.line.Line.TheVariants as lines
use Rattle.tk_types.specs.declared.run.End.{End}
use Rattle.tk_types.specs.declared.run.End.TheVariants as ends
use Rattle.tk_types.specs.declared.run.Mode.{Mode}
use Rattle.tk_types.specs.declared.run.Mode.TheVariants as modes
use Rattle.tk_types.specs.declared.script.Script.{Script}
use Rattle.device_model.specs.declared.messages.Ending.{Ending}
use Rattle.machine_model.specs.States.State.{State, taken}
use Rattle.machine_model.specs.Events.Follow.{Event}
use Rattle.machine_model.specs.Events.Arrivals.{arrived}
use Rattle.machine_model.specs.Runs.Step.{Pace, Ends, Needs, Went, step}
use Rattle.machine_model.specs.Runs.Trace.{Rest, arrived_if, entered, free_pace, free_turn, is_next_by, last_line, named_ending, over_with, run_entered, run_turn, run_went, runs, sync_pace, without_ending}
use Rattle.tk_run.specs.declared.replay_turn.Fate.{Fate}
use Rattle.tk_run.specs.declared.replay_turn.Fate.TheVariants as fates
use Rattle.tk_run.specs.Writings.{Writing, behind_lines, writing}
use Rattle.tk_run.specs.FedTurns.{Course, course, fed, fed_next, free_course, free_stepped, over_at, stepped, sync_stepped}
use Rattle.count_lemmas.proofs.Steps.{step_left, step_steps}
use Rattle.tk_run.proofs.StepFacts.{arrived_steps, needs_steps}
use Rattle.tk_run.proofs.Runs.{before_last}

-- ---- what is written

-- what a turn that came to this has to write, and the rest of the run behind it
abbrev pub fate_written : Rest → ℕ → List Entry → Course → Fate → Writing
fate_written next k entries c fates.Fed = behind_lines c.lines (writing (next c.state (k + 1) (drop 1 entries)))
fate_written next k entries c fates.Went = behind_lines c.lines (writing (next c.state k entries))
fate_written next k entries c (fates.Over last) = record { lines = c.lines; last = last; steps = c.state.steps }

abbrev pub course_written : Rest → ℕ → List Entry → Course → Writing
course_written next k entries c = fate_written next k entries c c.fate

went_written : (next : Rest) (k : ℕ) (entries : List Entry) (event : Event) (over : Option End) → writing (run_went next k entries event over) ≡ course_written next k entries (stepped k entries event over)
went_written next k entries event None = before_last event.lines (next (taken event.state) k entries)
went_written next k entries event (Some end) =
    ap (λ (front : List Line). record { lines = front ++ lines.End event.state.steps (last_line end k entries) ∷ []; last = last_line end k entries; steps = event.state.steps }) (append-nil event.lines)

fed_written : (next : Rest) (st : State) (k : ℕ) (entry : Entry) (later : List Entry) (comes : Option Event) → writing (run_entered next st k later comes) ≡ course_written next k (entry ∷ later) (fed (taken st) k comes)
fed_written next st k entry later None = refl
fed_written next st k entry later (Some event) = before_last event.lines (next (taken event.state) (k + 1) later)

fed_here : (next : Rest) (st : State) (k : ℕ) (entry : Entry) (later : List Entry) (comes : Option Event) → writing (run_entered next st k later comes) ≡ course_written next k (entry ∷ later) (fed st k comes)
fed_here next st k entry later None = refl
fed_here next st k entry later (Some event) = before_last event.lines (next (taken event.state) (k + 1) later)

free_written : (next : Rest) (st : State) (k : ℕ) (entries : List Entry) (pace : Pace) → writing (free_pace next st k entries pace) ≡ course_written next k entries (free_stepped st k entries pace)
free_written next st k entries (Went event over) = went_written next k entries event over
free_written next st k entries (Needs waiting) = refl
free_written next st k entries Ends = refl

due_written : (due : Bool) (next : Rest) (script : Script) (st : State) (k : ℕ) (entry : Entry) (later : List Entry) (pace : Pace)
    → writing (cond due (run_entered next st k later (entered script modes.Free st entry)) (free_pace next st k (entry ∷ later) pace))
    ≡ course_written next k (entry ∷ later) (cond due (fed_next script modes.Free st k (entry ∷ later)) (free_stepped st k (entry ∷ later) pace))
due_written true next script st k entry later pace = fed_here next st k entry later (entered script modes.Free st entry)
due_written false next script st k entry later pace = free_written next st k (entry ∷ later) pace

free_turns : (next : Rest) (script : Script) (budget : ℕ) (st : State) (k : ℕ) (entries : List Entry) → writing (free_turn next script budget st k entries) ≡ course_written next k entries (free_course script budget st k entries)
free_turns next script budget st k [] = free_written next st k [] (step script modes.Free budget st)
free_turns next script budget st k (entry ∷ later) = due_written (leb entry.place (st.steps + 1)) next script st k entry later (step script modes.Free budget st)

unneeded_written : (due : Bool) (next : Rest) (st : State) (k : ℕ) (entries : List Entry) (event : Event) (over : Option End)
    → writing (cond due (over_with st (lasts.Unfit k)) (run_went next k entries event over)) ≡ course_written next k entries (cond due (over_at [] st (lasts.Unfit k)) (stepped k entries event over))
unneeded_written true next st k entries event over = refl
unneeded_written false next st k entries event over = went_written next k entries event over

idle_written : (due : Bool) (next : Rest) (st : State) (k : ℕ) (entry : Entry) (later : List Entry)
    → writing (over_with st (lasts.Unfit k)) ≡ course_written next k (entry ∷ later) (cond due (over_at [] st (lasts.Unfit k)) (over_at [] st (lasts.Unfit k)))
idle_written true next st k entry later = refl
idle_written false next st k entry later = refl

sync_turns : (next : Rest) (script : Script) (st : State) (k : ℕ) (entries : List Entry) (pace : Pace) → writing (sync_pace next script st k entries pace) ≡ course_written next k entries (sync_stepped script st k entries pace)
sync_turns next script st k entries (Went event over) = unneeded_written (is_next_by (st.steps + 1) entries) next st k entries event over
sync_turns next script st k [] (Needs waiting) = refl
sync_turns next script st k (entry ∷ later) (Needs waiting) = fed_written next waiting k entry later (entered script modes.Sync (taken waiting) entry)
sync_turns next script st k [] Ends = refl
sync_turns next script st k (entry ∷ later) Ends = idle_written (leb entry.place (st.steps + 1)) next st k entry later

turns_written : (next : Rest) (script : Script) (mode : Mode) (budget : ℕ) (st : State) (k : ℕ) (entries : List Entry) → writing (run_turn next script mode budget st k entries) ≡ course_written next k entries (course script mode budget st k entries)
turns_written next script modes.Free budget st k entries = free_turns next script budget st k entries
turns_written next script modes.Sync budget st k entries = sync_turns next script st k entries (step script modes.Sync budget st)

-- the runs that are left behind a turn
abbrev pub later_runs : ℕ → Script → Mode → ℕ → Rest
later_runs left script mode budget = λ st k entries. runs left script mode budget st k entries

pub runs_written : (left more : ℕ) (script : Script) (mode : Mode) (budget : ℕ) (st : State) (k : ℕ) (entries : List Entry) → more ≡ left + 1
    → writing (runs more script mode budget st k entries) ≡ course_written (later_runs left script mode budget) k entries (course script mode budget st k entries)
unfolding runs
runs_written left more script mode budget st k entries is =
    let one_more : more ≡ suc left = omega arith in
    ap (λ (n : ℕ). writing (runs n script mode budget st k entries)) one_more ∙ turns_written (later_runs left script mode budget) script mode budget st k entries

-- ---- what a turn counts

-- a turn took an entry, at the same step; or it did a step that isn't the last one of the budget
abbrev Counts : ℕ → State → List Entry → Course → Fate → Type 0
Counts budget st entries c fates.Fed = (c.state.steps ≡ st.steps) × (0 < length entries)
Counts budget st entries c fates.Went = (c.state.steps ≡ st.steps + 1) × (c.state.steps < budget)
Counts budget st entries c (fates.Over last) = Unit {0}

entered_steps : (script : Script) (mode : Mode) (st : State) (entry : Entry) (event : Event) → entered script mode st entry ≡ Some event → event.state.steps ≡ st.steps
unfolding entered
entered_steps script mode st entry event comes = at_place (entry.place == st.steps + 1) comes
  where
    arrives : (named : Option Ending) → arrived_if script mode st named ≡ Some event → event.state.steps ≡ st.steps
    arrives None e = absurd (cc)
    arrives (Some ending) e = arrived_steps script mode st ending event e

    at_place : (here : Bool) → cond here (arrived_if script mode st (named_ending st entry)) None ≡ Some event → event.state.steps ≡ st.steps
    at_place true e = arrives (named_ending st entry) e
    at_place false e = absurd (cc)

fed_counts : (budget : ℕ) (script : Script) (mode : Mode) (st : State) (k : ℕ) (entry : Entry) (later : List Entry) (comes : Option Event) → entered script mode st entry ≡ comes → Counts budget st (entry ∷ later) (fed st k comes) (fed st k comes).fate
fed_counts budget script mode st k entry later None is = tt
fed_counts budget script mode st k entry later (Some event) is = (entered_steps script mode st entry event is, omega arith)

next_counts : (budget : ℕ) (script : Script) (mode : Mode) (st : State) (k : ℕ) (entries : List Entry) → Counts budget st entries (fed_next script mode st k entries) (fed_next script mode st k entries).fate
next_counts budget script mode st k [] = tt
next_counts budget script mode st k (entry ∷ later) = fed_counts budget script mode st k entry later (entered script mode st entry) refl

stepped_counts : (script : Script) (mode : Mode) (budget : ℕ) (st : State) (k : ℕ) (entries : List Entry) (event : Event) (over : Option End) → st.steps < budget → step script mode budget st ≡ Went event over
    → Counts budget st entries (stepped k entries event over) (stepped k entries event over).fate
stepped_counts script mode budget st k entries event None below is = (step_steps script mode budget st event None is, step_left script mode budget st below event is)
stepped_counts script mode budget st k entries event (Some end) below is = tt

free_counts : (script : Script) (budget : ℕ) (st : State) (k : ℕ) (entries : List Entry) (due : Bool) (pace : Pace) → st.steps < budget → step script modes.Free budget st ≡ pace
    → Counts budget st entries (cond due (fed_next script modes.Free st k entries) (free_stepped st k entries pace)) (cond due (fed_next script modes.Free st k entries) (free_stepped st k entries pace)).fate
free_counts script budget st k entries true pace below is = next_counts budget script modes.Free st k entries
free_counts script budget st k entries false (Went event over) below is = stepped_counts script modes.Free budget st k entries event over below is
free_counts script budget st k entries false (Needs waiting) below is = tt
free_counts script budget st k entries false Ends below is = tt

unneeded_counts : (script : Script) (budget : ℕ) (st : State) (k : ℕ) (entries : List Entry) (due : Bool) (event : Event) (over : Option End) → st.steps < budget → step script modes.Sync budget st ≡ Went event over
    → Counts budget st entries (cond due (over_at [] st (lasts.Unfit k)) (stepped k entries event over)) (cond due (over_at [] st (lasts.Unfit k)) (stepped k entries event over)).fate
unneeded_counts script budget st k entries true event over below is = tt
unneeded_counts script budget st k entries false event over below is = stepped_counts script modes.Sync budget st k entries event over below is

idle_counts : (budget : ℕ) (st : State) (k : ℕ) (entries : List Entry) (due : Bool)
    → Counts budget st entries (cond due (over_at [] st (lasts.Unfit k)) (over_at [] st (last_line ends.Idle k entries))) (cond due (over_at [] st (lasts.Unfit k)) (over_at [] st (last_line ends.Idle k entries))).fate
idle_counts budget st k entries true = tt
idle_counts budget st k entries false = tt

-- an entry is taken at the state that needs it, which has as many steps
waiting_counts : (budget : ℕ) (st waiting : State) (entries : List Entry) (c : Course) (fate : Fate) → waiting.steps ≡ st.steps → Counts budget (taken waiting) entries c fate → Counts budget st entries c fate
waiting_counts budget st waiting entries c fates.Fed same counts = (counts.0 ∙ same, counts.1)
waiting_counts budget st waiting entries c fates.Went same counts = (counts.0 ∙ ap (λ (n : ℕ). n + 1) same, counts.1)
waiting_counts budget st waiting entries c (fates.Over last) same counts = tt

sync_counts : (script : Script) (budget : ℕ) (st : State) (k : ℕ) (entries : List Entry) (pace : Pace) → st.steps < budget → step script modes.Sync budget st ≡ pace
    → Counts budget st entries (sync_stepped script st k entries pace) (sync_stepped script st k entries pace).fate
sync_counts script budget st k entries (Went event over) below is = unneeded_counts script budget st k entries (is_next_by (st.steps + 1) entries) event over below is
sync_counts script budget st k entries (Needs waiting) below is =
    waiting_counts budget st waiting entries (fed_next script modes.Sync (taken waiting) k entries) (fed_next script modes.Sync (taken waiting) k entries).fate
    (needs_steps script modes.Sync budget st waiting is) (next_counts budget script modes.Sync (taken waiting) k entries)
sync_counts script budget st k entries Ends below is = idle_counts budget st k entries (is_next_by (st.steps + 1) entries)

course_counts : (script : Script) (mode : Mode) (budget : ℕ) (st : State) (k : ℕ) (entries : List Entry) → st.steps < budget → Counts budget st entries (course script mode budget st k entries) (course script mode budget st k entries).fate
course_counts script modes.Free budget st k entries below = free_counts script budget st k entries (is_next_by (st.steps + 1) entries) (step script modes.Free budget st) below refl
course_counts script modes.Sync budget st k entries below = sync_counts script budget st k entries (step script modes.Sync budget st) below refl

-- where an entry was taken
pub fed_is : (script : Script) (mode : Mode) (budget : ℕ) (st : State) (k : ℕ) (entries : List Entry) → st.steps < budget → (course script mode budget st k entries).fate ≡ fates.Fed
    → ((course script mode budget st k entries).state.steps ≡ st.steps) × (0 < length entries)
fed_is script mode budget st k entries below is = rw is at (course_counts script mode budget st k entries below)

-- where a step was done
pub went_is : (script : Script) (mode : Mode) (budget : ℕ) (st : State) (k : ℕ) (entries : List Entry) → st.steps < budget → (course script mode budget st k entries).fate ≡ fates.Went
    → ((course script mode budget st k entries).state.steps ≡ st.steps + 1) × ((course script mode budget st k entries).state.steps < budget)
went_is script mode budget st k entries below is = rw is at (course_counts script mode budget st k entries below)
