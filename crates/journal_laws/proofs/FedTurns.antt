-- A run that is fed with entries goes on by its turns, however many are given: each turn does a step or takes an entry, so no more
-- come than there are steps and entries.
use Rattle.std.proofs.Common.{◌≡◌, ℕ, zero, suc, ◌+◌, ◌≤◌, ◌<◌, Bool, true, false, cond, length, List, [], ◌∷◌, ◌++◌, Option, Some, None, refl, ◌∙◌, ap, subst, sym, arith}
use Rattle.std.specs.Prelude.{nat_le}
use Rattle.tk_types.specs.declared.line.Entry.{Entry}
use Rattle.tk_types.specs.declared.line.LastLine.TheVariants as lasts
use Rattle.tk_types.specs.declared.line.Line.{Line}
use Rattle.tk_types.specs.declared.run.End.{End}
use Rattle.tk_types.specs.declared.run.End.TheVariants as ends
use Rattle.tk_types.specs.declared.run.Mode.{Mode}
use Rattle.tk_types.specs.declared.run.Mode.TheVariants as modes
use Rattle.tk_types.specs.declared.script.Script.{Script}
use Rattle.machine_model.specs.States.State.{State, taken}
use Rattle.machine_model.specs.Events.Follow.{Event}
use Rattle.machine_model.specs.Runs.Step.{Ends, Needs, Pace, Went, step}
use Rattle.machine_model.specs.Runs.Trace.{Rest, Trace, after, entered, free_pace, free_turn, is_next_by, last_line, over_with, run_entered, run_turn, run_went, runs, start, sync_pace, trace, without_ending}
use Rattle.machine_model.specs.Runs.Reached.{Move, state_after}
use Rattle.count_lemmas.proofs.Steps.{start_unstepped}
use Rattle.journal_laws.specs.Requests.{GoesThrough, proceeds, stops}
use Rattle.journal_laws.specs.Turns.{IsRun, fed_turn, first_place, goes_on, over}
use Rattle.journal_laws.proofs.Later.{IsLater, entered_later, later_yet, stepped_later}
use Rattle.journal_laws.proofs.Paces.{IsStepped, entered_fed, step_needs, step_went}

-- ---- one turn

-- a turn ends the run, with the budget as its end only at the last step of that; or it goes on at a later state, and fewer turns are
-- left to come
data Comes (script : Script) (mode : Mode) (budget : ℕ) (turn : Rest → Trace) (st : State) (entries : List Entry) : Type 0 where
  Over : (all : Trace) → ((next : Rest) → turn next ≡ all) → (all.last ≡ lasts.Budget → all.steps ≡ budget) → Comes script mode budget turn st entries
  GoesOn : (lines : List Line) (now : State) (k : ℕ) (left : List Entry) → ((next : Rest) → turn next ≡ after lines (next now k left)) → now.steps < budget →
      length left + st.steps + 1 ≤ length entries + now.steps → IsLater script mode budget st now → Comes script mode budget turn st entries

last_is : (end : End) (k : ℕ) (entries : List Entry) → last_line end k entries ≡ lasts.Budget → end ≡ ends.Budget
last_is ends.Idle k [] is = absurd (cc is)
last_is ends.Halt k [] is = absurd (cc is)
last_is ends.Budget k [] is = refl
last_is end k (entry ∷ later) is = absurd (cc is)

without_is : (k : ℕ) (entries : List Entry) → without_ending k entries ≡ lasts.Budget → ⊥
without_is k [] is = absurd (cc is)
without_is k (entry ∷ later) is = absurd (cc is)

idle_is : (k : ℕ) (entries : List Entry) → last_line ends.Idle k entries ≡ lasts.Budget → ⊥
idle_is k [] is = absurd (cc is)
idle_is k (entry ∷ later) is = absurd (cc is)

-- a step was done
went_comes : (script : Script) (mode : Mode) (budget : ℕ) (st : State) (k : ℕ) (entries : List Entry) (event : Event) (end : Option End) → st.steps < budget → step script mode budget st ≡ Went event end →
    IsStepped budget st event end → Comes script mode budget (λ next. run_went next k entries event end) st entries
went_comes script mode budget st k entries event None below at is =
    let steps = is.steps in
    GoesOn event.lines (taken event.state) k entries (λ next. refl) (is.goes refl below) (omega (arith, steps)) (stepped_later script mode budget st (Went event None) at)
went_comes script mode budget st k entries event (Some end) below at is =
    Over (after event.lines (over_with event.state (last_line end k entries))) (λ next. refl) (λ last. is.reaches (ap (λ (e : End). Some e) (last_is end k entries last)))

-- an entry was taken, or wasn't fit
entered_comes : (script : Script) (mode : Mode) (budget : ℕ) (st now : State) (k : ℕ) (entry : Entry) (later : List Entry) (some : Option Event) → st.steps < budget → now.steps ≡ st.steps →
    ((event : Event) → some ≡ Some event → event.state.steps ≡ now.steps) → ((event : Event) → some ≡ Some event → IsLater script mode budget st (taken event.state)) → Comes script mode budget (λ next. run_entered next now k later some) st (entry ∷ later)
entered_comes script mode budget st now k entry later None below same fed comes = Over (over_with now (lasts.Unfit k)) (λ next. refl) (λ last. absurd (cc last))
entered_comes script mode budget st now k entry later (Some event) below same fed comes =
    let steps = fed event refl in
    GoesOn event.lines (taken event.state) (k + 1) later (λ next. refl) (omega (arith, steps, same, below)) (omega (arith, steps, same)) (comes event refl)

free_comes : (script : Script) (budget : ℕ) (st : State) (k : ℕ) (entries : List Entry) (pace : Pace) → step script modes.Free budget st ≡ pace → st.steps < budget → Comes script modes.Free budget (λ next. free_pace next st k entries pace) st entries
free_comes script budget st k entries (Went event end) is below = went_comes script modes.Free budget st k entries event end below is (step_went script modes.Free budget st event end is)
free_comes script budget st k entries (Needs waiting) is below = Over (over_with waiting (without_ending k entries)) (λ next. refl) (λ last. absurd (without_is k entries last))
free_comes script budget st k entries Ends is below = Over (over_with st (last_line ends.Idle k entries)) (λ next. refl) (λ last. absurd (idle_is k entries last))

either_comes : (script : Script) (mode : Mode) (budget : ℕ) (st : State) (entries : List Entry) (test : Bool) (one other : Rest → Trace) → Comes script mode budget one st entries → Comes script mode budget other st entries →
    Comes script mode budget (λ next. cond test (one next) (other next)) st entries
either_comes script mode budget st entries true one other first second = first
either_comes script mode budget st entries false one other first second = second

free_turn_comes : (script : Script) (budget : ℕ) (st : State) (k : ℕ) (entries : List Entry) → st.steps < budget → Comes script modes.Free budget (λ next. free_turn next script budget st k entries) st entries
free_turn_comes script budget st k [] below = free_comes script budget st k [] (step script modes.Free budget st) refl below
free_turn_comes script budget st k (entry ∷ later) below =
    either_comes script modes.Free budget st (entry ∷ later) (nat_le entry.place (st.steps + 1)) (λ next. run_entered next st k later (entered script modes.Free st entry)) (λ next. free_pace next st k (entry ∷ later) (step script modes.Free budget st))
    (entered_comes script modes.Free budget st st k entry later (entered script modes.Free st entry) below refl (λ event is. (entered_fed script modes.Free st entry event is).steps) (entered_later script modes.Free budget st entry))
    (free_comes script budget st k (entry ∷ later) (step script modes.Free budget st) refl below)

sync_comes : (script : Script) (budget : ℕ) (st : State) (k : ℕ) (entries : List Entry) (pace : Pace) → step script modes.Sync budget st ≡ pace → st.steps < budget → Comes script modes.Sync budget (λ next. sync_pace next script st k entries pace) st entries
sync_comes script budget st k entries (Went event end) is below =
    either_comes script modes.Sync budget st entries (is_next_by (st.steps + 1) entries) (λ next. over_with st (lasts.Unfit k)) (λ next. run_went next k entries event end)
    (Over (over_with st (lasts.Unfit k)) (λ next. refl) (λ last. absurd (cc last)))
    (went_comes script modes.Sync budget st k entries event end below is (step_went script modes.Sync budget st event end is))
sync_comes script budget st k [] (Needs waiting) is below = Over (over_with waiting lasts.Starved) (λ next. refl) (λ last. absurd (cc last))
sync_comes script budget st k (entry ∷ later) (Needs waiting) is below =
    entered_comes script modes.Sync budget st waiting k entry later (entered script modes.Sync (taken waiting) entry) below (step_needs script modes.Sync budget st waiting is).steps (λ event at. (entered_fed script modes.Sync (taken waiting) entry event at).steps)
    (λ event at. later_yet script modes.Sync budget st (taken waiting) (taken event.state) (stepped_later script modes.Sync budget st (Needs waiting) is) (entered_later script modes.Sync budget (taken waiting) entry event at))
sync_comes script budget st k entries Ends is below = Over (over_with st (last_line ends.Idle k entries)) (λ next. refl) (λ last. absurd (idle_is k entries last))

turn_comes : (script : Script) (mode : Mode) (budget : ℕ) (st : State) (k : ℕ) (entries : List Entry) → st.steps < budget → Comes script mode budget (λ next. run_turn next script mode budget st k entries) st entries
turn_comes script modes.Free budget st k entries below = free_turn_comes script budget st k entries below
turn_comes script modes.Sync budget st k entries below = sync_comes script budget st k entries (step script modes.Sync budget st) refl below

-- ---- all turns

-- what is known of a run with a number of turns
record IsLed (script : Script) (mode : Mode) (budget turns : ℕ) (st : State) (k : ℕ) (entries : List Entry) : Type 0 where
  pub by_turns : IsRun (fed_turn script mode budget) (record { state = st; number = k; left = entries }) (runs turns script mode budget st k entries)
  pub more : (all : ℕ) → turns ≤ all → runs all script mode budget st k entries ≡ runs turns script mode budget st k entries
  pub through : (moves : List Move) → state_after script mode budget moves ≡ st → GoesThrough script mode budget moves (record { state = st; number = k; left = entries }) (runs turns script mode budget st k entries)
  pub reaches : (runs turns script mode budget st k entries).last ≡ lasts.Budget → (runs turns script mode budget st k entries).steps ≡ budget

longer : (script : Script) (mode : Mode) (budget turns : ℕ) (st : State) (k : ℕ) (entries : List Entry) →
    ((others : ℕ) → turns ≤ others → runs (suc others) script mode budget st k entries ≡ runs (suc turns) script mode budget st k entries) →
    (all : ℕ) → suc turns ≤ all → runs all script mode budget st k entries ≡ runs (suc turns) script mode budget st k entries
longer script mode budget turns st k entries same zero most = absurd (omega (arith, most))
longer script mode budget turns st k entries same (suc others) most = same others (omega (arith, most))

turn_led : (script : Script) (mode : Mode) (budget turns : ℕ) (st : State) (k : ℕ) (entries : List Entry) → budget + length entries ≤ suc turns + st.steps →
    ((now : State) (j : ℕ) (left : List Entry) → now.steps < budget → budget + length left ≤ turns + now.steps → IsLed script mode budget turns now j left) →
    Comes script mode budget (λ next. run_turn next script mode budget st k entries) st entries → IsLed script mode budget (suc turns) st k entries
unfolding runs
turn_led script mode budget turns st k entries enough rest (Over all is reaches) =
    let mine = is (λ now j left. runs turns script mode budget now j left) in
    record {
      by_turns = over (λ next. is (λ now j left. next (record { state = now; number = j; left = left })) ∙ sym mine);
      more = longer script mode budget turns st k entries (λ others most. is (λ now j left. runs others script mode budget now j left) ∙ sym mine);
      through = λ moves at. stops at (λ next. is (λ now j left. next (record { state = now; number = j; left = left })) ∙ sym mine);
      reaches = subst (λ (t : Trace). t.last ≡ lasts.Budget → t.steps ≡ budget) (sym mine) reaches;
    }
turn_led script mode budget turns st k entries enough rest (GoesOn lines now j left is below fewer comes) =
    let later : IsLed script mode budget turns now j left = rest now j left below (omega (arith, enough, fewer)) in
    let mine = is (λ after j left. runs turns script mode budget after j left) in
    record {
      by_turns = subst (IsRun (fed_turn script mode budget) (record { state = st; number = k; left = entries })) (sym mine)
          (goes_on (after lines) (λ next. is (λ now j left. next (record { state = now; number = j; left = left }))) later.by_turns);
      more = longer script mode budget turns st k entries (λ others most. is (λ now j left. runs others script mode budget now j left) ∙ ap (after lines) (later.more others most) ∙ sym mine);
      through = λ moves at. let by = comes moves at in subst (GoesThrough script mode budget moves (record { state = st; number = k; left = entries })) (sym mine)
          (proceeds by.0 lines at (λ next. is (λ now j left. next (record { state = now; number = j; left = left }))) (later.through (by.0 ++ moves) by.1));
      reaches = subst (λ (t : Trace). t.last ≡ lasts.Budget → t.steps ≡ budget) (sym mine) later.reaches;
    }

runs_led : (script : Script) (mode : Mode) (budget turns : ℕ) (st : State) (k : ℕ) (entries : List Entry) → st.steps < budget → budget + length entries ≤ turns + st.steps → IsLed script mode budget turns st k entries
runs_led script mode budget zero st k entries below enough = absurd (omega (arith, below, enough))
runs_led script mode budget (suc turns) st k entries below enough =
    turn_led script mode budget turns st k entries enough (λ now j left. runs_led script mode budget turns now j left) (turn_comes script mode budget st k entries below)

-- ---- the trace

fed_run : (script : Script) (mode : Mode) (budget : ℕ) (entries : List Entry) → 1 ≤ budget → IsLed script mode budget (budget + (length entries + 1)) (start script).state 1 entries
fed_run script mode budget entries least = let none = start_unstepped script in runs_led script mode budget (budget + (length entries + 1)) (start script).state 1 entries (omega (arith, none, least)) (omega arith)

-- the run of a trace is made by its turns alone
pub trace_by_turns : (script : Script) (mode : Mode) (budget : ℕ) (entries : List Entry) → 1 ≤ budget →
    (rest : Trace) × IsRun (fed_turn script mode budget) (first_place script entries) rest × (trace script mode budget entries ≡ after (start script).lines rest)
unfolding trace
trace_by_turns script mode budget entries least = (runs (budget + (length entries + 1)) script mode budget (start script).state 1 entries, (fed_run script mode budget entries least).by_turns, refl)

-- more turns make no difference
pub trace_with_more : (script : Script) (mode : Mode) (budget turns : ℕ) (entries : List Entry) → 1 ≤ budget → budget + length entries ≤ turns →
    after (start script).lines (runs turns script mode budget (start script).state 1 entries) ≡ trace script mode budget entries
unfolding trace
trace_with_more script mode budget turns entries least enough =
    let none = start_unstepped script in
    let led = runs_led script mode budget (budget + length entries) (start script).state 1 entries (omega (arith, none, least)) (omega arith) in
    ap (after (start script).lines) (led.more turns enough ∙ sym (led.more (budget + (length entries + 1)) (omega arith)))

-- the budget ends a run at its last step alone
pub trace_reaches : (script : Script) (mode : Mode) (budget : ℕ) (entries : List Entry) → 1 ≤ budget → (trace script mode budget entries).last ≡ lasts.Budget → (trace script mode budget entries).steps ≡ budget
unfolding trace
trace_reaches script mode budget entries least = (fed_run script mode budget entries least).reaches

-- and goes through states that the machine comes to
pub trace_goes_through : (script : Script) (mode : Mode) (budget : ℕ) (entries : List Entry) → 1 ≤ budget →
    (rest : Trace) × GoesThrough script mode budget [] (first_place script entries) rest × (trace script mode budget entries ≡ after (start script).lines rest)
unfolding trace state_after
trace_goes_through script mode budget entries least = (runs (budget + (length entries + 1)) script mode budget (start script).state 1 entries, (fed_run script mode budget entries least).through [] refl, refl)
