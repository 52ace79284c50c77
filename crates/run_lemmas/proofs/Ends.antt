-- What a run that goes on has to do with its own trace: the one that is fed with the endings that it took in, and with no more. Where
-- the run ends that trace is its lines, where a fault stops it they are the front of it; and the trace tells these endings.
use Rattle.std.proofs.Common.{◌≡◌, ℕ, suc, ◌+◌, ◌≤◌, ◌-◌, List, [], ◌∷◌, ◌++◌, length, Some, refl, ◌∙◌, ap, sym, append_assoc, arith}
use Rattle.std.proofs.lemmas.List.{append-nil}
use Rattle.tk_types.specs.declared.line.LastLine.TheVariants as lasts
use Rattle.tk_types.specs.declared.line.Line.{Line}
use Rattle.tk_types.specs.declared.line.Line.TheVariants as lines
use Rattle.tk_types.specs.declared.run.End.{End}
use Rattle.tk_types.specs.declared.run.Mode.{Mode}
use Rattle.tk_types.specs.declared.run.Mode.TheVariants as modes
use Rattle.tk_types.specs.declared.script.Script.{Script}
use Rattle.machine_model.specs.States.State.{State}
use Rattle.machine_model.specs.Events.Follow.{Event}
use Rattle.machine_model.specs.Runs.Step.{Ends, Went, step}
use Rattle.machine_model.specs.Runs.Trace as traces
use Rattle.machine_model.specs.Runs.Trace.{Trace, after, last_of, lines_of, over_with, run_turn, runs, start, trace}
use Rattle.run_model.specs.Passings as passing
use Rattle.run_model.specs.Passings.{Passing, gives, passed, passings, turn}
use Rattle.run_model.specs.SoFar.{IsSoFar, SoFar}
use Rattle.run_lemmas.proofs.Onward.{steps_left}
use Rattle.run_lemmas.proofs.RunsOn.{passes_on, runs_on}

-- ---- turns where no entry is left

turn_ends : (next : traces.Rest) (script : Script) (mode : Mode) (budget : ℕ) (st : State) (k : ℕ) (event : Event) (end : End) → step script mode budget st ≡ Went event (Some end) →
    run_turn next script mode budget st k [] ≡ after event.lines (over_with event.state (last_of end))
turn_ends next script modes.Free budget st k event end went = ap (traces.free_pace next st k []) went
turn_ends next script modes.Sync budget st k event end went = ap (traces.sync_pace next script st k []) went

turn_idles : (next : traces.Rest) (script : Script) (mode : Mode) (budget : ℕ) (st : State) (k : ℕ) → step script mode budget st ≡ Ends → run_turn next script mode budget st k [] ≡ over_with st lasts.Idle
turn_idles next script modes.Free budget st k idle = ap (traces.free_pace next st k []) idle
turn_idles next script modes.Sync budget st k idle = ap (traces.sync_pace next script st k []) idle

turn_gives : (next : passing.Rest) (script : Script) (mode : Mode) (budget : ℕ) (st : State) (event : Event) (end : End) → step script mode budget st ≡ Went event (Some end) → turn next script mode budget st [] ≡ gives event.state
turn_gives next script modes.Free budget st event end went = ap (passing.free_pace next []) went
turn_gives next script modes.Sync budget st event end went = ap (passing.sync_pace next script st []) went

turn_gives_none : (next : passing.Rest) (script : Script) (mode : Mode) (budget : ℕ) (st : State) → step script mode budget st ≡ Ends → turn next script mode budget st [] ≡ []
turn_gives_none next script modes.Free budget st idle = ap (passing.free_pace next []) idle
turn_gives_none next script modes.Sync budget st idle = ap (passing.sync_pace next script st []) idle

-- ---- the trace of a run so far

-- how many turns are left where none is fed
abbrev pub left_of : ℕ → SoFar → ℕ
left_of budget so = budget - so.state.steps

-- with the endings so far alone, the run goes on by some turn
pub fed_so_far : (script : Script) (mode : Mode) (budget : ℕ) (so : SoFar) → 1 ≤ budget → IsSoFar script mode budget so →
    trace script mode budget so.entries ≡ after so.lines (runs (suc (left_of budget so)) script mode budget so.state (length so.entries + 1) [])
fed_so_far script mode budget so least is =
    let below = steps_left script mode budget so least is in
    ap (trace script mode budget) (sym (append-nil so.entries)) ∙ runs_on script mode budget so [] (suc (left_of budget so)) least is refl (omega (arith, below))

pub passed_so_far : (script : Script) (mode : Mode) (budget : ℕ) (so : SoFar) → 1 ≤ budget → IsSoFar script mode budget so →
    passings script mode budget so.entries ≡ so.passings ++ passed (suc (left_of budget so)) script mode budget so.state []
passed_so_far script mode budget so least is =
    let below = steps_left script mode budget so least is in
    ap (passings script mode budget) (sym (append-nil so.entries)) ∙ passes_on script mode budget so [] (suc (left_of budget so)) least is refl (omega (arith, below))

-- ---- the end

-- the trace where a step ended the run
abbrev pub ended_by : SoFar → Event → End → Trace
ended_by so event end = record { lines = so.lines ++ event.lines; steps = event.state.steps; last = last_of end }

-- and where nothing was left to do
abbrev pub idle_after : SoFar → Trace
idle_after so = record { lines = so.lines; steps = so.state.steps; last = lasts.Idle }

runs_end : (left : ℕ) (script : Script) (mode : Mode) (budget : ℕ) (st : State) (k : ℕ) (event : Event) (end : End) → step script mode budget st ≡ Went event (Some end) →
    runs (suc left) script mode budget st k [] ≡ after event.lines (over_with event.state (last_of end))
unfolding runs
runs_end left script mode budget st k event end went = turn_ends (λ now j rest. runs left script mode budget now j rest) script mode budget st k event end went

runs_idle : (left : ℕ) (script : Script) (mode : Mode) (budget : ℕ) (st : State) (k : ℕ) → step script mode budget st ≡ Ends → runs (suc left) script mode budget st k [] ≡ over_with st lasts.Idle
unfolding runs
runs_idle left script mode budget st k idle = turn_idles (λ now j rest. runs left script mode budget now j rest) script mode budget st k idle

passed_end : (left : ℕ) (script : Script) (mode : Mode) (budget : ℕ) (st : State) (event : Event) (end : End) → step script mode budget st ≡ Went event (Some end) → passed (suc left) script mode budget st [] ≡ gives event.state
unfolding passed
passed_end left script mode budget st event end went = turn_gives (λ now rest. passed left script mode budget now rest) script mode budget st event end went

passed_idle : (left : ℕ) (script : Script) (mode : Mode) (budget : ℕ) (st : State) → step script mode budget st ≡ Ends → passed (suc left) script mode budget st [] ≡ []
unfolding passed
passed_idle left script mode budget st idle = turn_gives_none (λ now rest. passed left script mode budget now rest) script mode budget st idle

-- a step ends the run
pub ends_with : (script : Script) (mode : Mode) (budget : ℕ) (so : SoFar) (event : Event) (end : End) → 1 ≤ budget → IsSoFar script mode budget so → step script mode budget so.state ≡ Went event (Some end) →
    (trace script mode budget so.entries ≡ ended_by so event end) × (passings script mode budget so.entries ≡ so.passings ++ gives event.state)
ends_with script mode budget so event end least is went = (
  fed_so_far script mode budget so least is
      ∙ ap (after so.lines) (runs_end (left_of budget so) script mode budget so.state (length so.entries + 1) event end went)
      ∙ ap (λ (back : List Line). record { lines = so.lines ++ back; steps = event.state.steps; last = last_of end }) (append-nil event.lines),
  passed_so_far script mode budget so least is
      ∙ ap (λ (back : List Passing). so.passings ++ back) (passed_end (left_of budget so) script mode budget so.state event end went),
)

-- nothing is left to do
pub ends_idle : (script : Script) (mode : Mode) (budget : ℕ) (so : SoFar) → 1 ≤ budget → IsSoFar script mode budget so → step script mode budget so.state ≡ Ends →
    (trace script mode budget so.entries ≡ idle_after so) × (passings script mode budget so.entries ≡ so.passings)
ends_idle script mode budget so least is idle = (
  fed_so_far script mode budget so least is
      ∙ ap (after so.lines) (runs_idle (left_of budget so) script mode budget so.state (length so.entries + 1) idle)
      ∙ ap (λ (lines : List Line). record { lines = lines; steps = so.state.steps; last = lasts.Idle }) (append-nil so.lines),
  passed_so_far script mode budget so least is
      ∙ ap (λ (back : List Passing). so.passings ++ back) (passed_idle (left_of budget so) script mode budget so.state idle)
      ∙ append-nil so.passings,
)

-- ---- a fault

-- the lines so far are a front of all lines of the trace
pub front_of : (script : Script) (mode : Mode) (budget : ℕ) (so : SoFar) → 1 ≤ budget → IsSoFar script mode budget so → (rest : List Line) × (lines_of (trace script mode budget so.entries) ≡ so.lines ++ rest)
front_of script mode budget so least is =
    let more : Trace = runs (suc (left_of budget so)) script mode budget so.state (length so.entries + 1) [] in
    (lines_of more, ap lines_of (fed_so_far script mode budget so least is) ∙ append_assoc so.lines more.lines (lines.End more.steps more.last ∷ []))

-- and what passed so far is a front of what passes in the trace
pub passings_front : (script : Script) (mode : Mode) (budget : ℕ) (so : SoFar) → 1 ≤ budget → IsSoFar script mode budget so → (rest : List Passing) × (passings script mode budget so.entries ≡ so.passings ++ rest)
passings_front script mode budget so least is = (passed (suc (left_of budget so)) script mode budget so.state [], passed_so_far script mode budget so least is)
