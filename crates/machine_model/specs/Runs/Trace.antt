-- The trace of a script, fed with the endings of a journal: the lines of all its steps, and how it ends. An entry of the
-- journal tells at which place which request's ending arrives; the place is the number of the step before which it does.
use Rattle.std.specs.Prelude.{ℕ, zero, suc, ◌+◌, ◌==◌, ◌&&◌, Bool, true, false, nat_le, if◌then◌else◌, List, [], ◌∷◌, ◌++◌, length, Option, Some, None}
use Rattle.tk_types.specs.declared.script.Script.{Script}
use Rattle.tk_types.specs.declared.run.Mode.{Mode}
use Rattle.tk_types.specs.declared.run.Mode.TheVariants as modes
use Rattle.tk_types.specs.declared.run.End.{End}
use Rattle.tk_types.specs.declared.run.End.TheVariants as ends
use Rattle.tk_types.specs.declared.line.Entry.{Entry}
use Rattle.tk_types.specs.declared.line.Line.{Line}
use Rattle.tk_types.specs.declared.line.Line.TheVariants as lines
use Rattle.tk_types.specs.declared.line.LastLine.{LastLine}
use Rattle.tk_types.specs.declared.line.LastLine.TheVariants as lasts
use Rattle.device_model.specs.declared.messages.Ending.{Ending}
use Rattle.device_model.specs.Devices.Endings.{expected}
use Rattle.machine_model.specs.States.State.{State, state_start, taken}
use Rattle.machine_model.specs.Events.Follow.{Event, dispatched}
use Rattle.machine_model.specs.Events.Arrivals.{arrived}
use Rattle.machine_model.specs.Runs.Step.{Pace, Ends, Needs, Went, step}

-- lines, the steps done, and how the run ended
pub record Trace : Type 0 where
  pub lines : List Line  -- without the last line
  pub steps : ℕ
  pub last : LastLine

-- all lines of a trace
abbrev pub lines_of : Trace → List Line
lines_of trace = trace.lines ++ lines.End trace.steps trace.last ∷ []

-- lines before those of a trace
abbrev pub after : List Line → Trace → Trace
after front rest = record rest { lines = front ++ rest.lines }

-- the run is over in a state
abbrev pub over_with : State → LastLine → Trace
over_with st last = record { lines = []; steps = st.steps; last = last }

-- ---- entries

-- the ending that an entry names, where it is fit now and its request is that one
abbrev pub of_request : ℕ → Option Ending → Option Ending
of_request request None = None
of_request request (Some e) = if e.request == request then Some e else None

abbrev pub named_ending : State → Entry → Option Ending
named_ending st entry = of_request entry.request (expected st.objects.devices entry.device entry.how)

abbrev pub arrived_if : Script → Mode → State → Option Ending → Option Event
arrived_if script mode st None = None
arrived_if script mode st (Some e) = arrived script mode st e

-- the event of an entry: none where it isn't fit, or its place isn't the present one
unfoldable pub entered : Script → Mode → State → Entry → Option Event
entered script mode st entry = if entry.place == st.steps + 1 then arrived_if script mode st (named_ending st entry) else None

-- whether the next entry has a place up to this one
abbrev pub is_next_by : ℕ → List Entry → Bool
is_next_by n [] = false
is_next_by n (entry ∷ later) = nat_le entry.place n

-- ---- how a run ends

abbrev pub last_of : End → LastLine
last_of ends.Idle = lasts.Idle
last_of ends.Halt = lasts.Halt
last_of ends.Budget = lasts.Budget

-- at the end of a run an entry that is left isn't fit; `k` is its number
abbrev pub last_line : End → ℕ → List Entry → LastLine
last_line end k [] = last_of end
last_line end k (entry ∷ later) = lasts.Unfit k

-- an ending is needed, and no entry gives it: there is none, or it isn't fit
abbrev pub without_ending : ℕ → List Entry → LastLine
without_ending k [] = lasts.Starved
without_ending k (entry ∷ later) = lasts.Unfit k

-- ---- turns of a run. A turn takes one entry, or does one step, and the messages to drivers that this leaves are taken;
-- `next` is the rest of the run behind it, from a state and with the entries that are left, the first of which has a number

-- the rest of a run
abbrev pub Rest : Type 0
Rest = State → ℕ → List Entry → Trace

-- an entry is taken
abbrev pub run_entered : Rest → State → ℕ → List Entry → Option Event → Trace
run_entered next st k later None = over_with st (lasts.Unfit k)
run_entered next st k later (Some event) = after event.lines (next (taken event.state) (k + 1) later)

-- a step was done
abbrev pub run_went : Rest → ℕ → List Entry → Event → Option End → Trace
run_went next k entries event None = after event.lines (next (taken event.state) k entries)
run_went next k entries event (Some end) = after event.lines (over_with event.state (last_line end k entries))

-- in free mode an entry whose place has come is taken before the step; so where an ending is needed there is none for it
abbrev pub free_pace : Rest → State → ℕ → List Entry → Pace → Trace
free_pace next st k entries (Went event over) = run_went next k entries event over
free_pace next st k entries (Needs waiting) = over_with waiting (without_ending k entries)
free_pace next st k entries Ends = over_with st (last_line ends.Idle k entries)

abbrev pub free_turn : Rest → Script → ℕ → State → ℕ → List Entry → Trace
free_turn next script budget st k [] = free_pace next st k [] (step script modes.Free budget st)
free_turn next script budget st k (entry ∷ later) =
    if nat_le entry.place (st.steps + 1)
    then run_entered next st k later (entered script modes.Free st entry)
    else free_pace next st k (entry ∷ later) (step script modes.Free budget st)

-- in sync mode an entry is taken only where an ending is needed; one that has this place and isn't needed isn't fit, and
-- the step isn't done
abbrev pub sync_pace : Rest → Script → State → ℕ → List Entry → Pace → Trace
sync_pace next script st k entries (Went event over) =
    if is_next_by (st.steps + 1) entries then over_with st (lasts.Unfit k) else run_went next k entries event over
sync_pace next script st k [] (Needs waiting) = over_with waiting lasts.Starved
sync_pace next script st k (entry ∷ later) (Needs waiting) = run_entered next waiting k later (entered script modes.Sync (taken waiting) entry)
sync_pace next script st k entries Ends = over_with st (last_line ends.Idle k entries)

abbrev pub run_turn : Rest → Script → Mode → ℕ → State → ℕ → List Entry → Trace
run_turn next script modes.Free budget st k entries = free_turn next script budget st k entries
run_turn next script modes.Sync budget st k entries = sync_pace next script st k entries (step script modes.Sync budget st)

-- ---- a run

-- the run from a state on, by at most so many turns
unfoldable pub runs : ℕ → Script → Mode → ℕ → State → ℕ → List Entry → Trace
runs zero script mode budget st k entries = over_with st (last_line ends.Budget k entries)
runs (suc left) script mode budget st k entries = run_turn (λ now j later. runs left script mode budget now j later) script mode budget st k entries

-- the start: the boot task is dispatched
unfoldable pub start : Script → Event
start script = dispatched 0 (state_start script)

-- the trace of a script, up to a budget of steps, fed with the endings of a journal. Each turn takes an entry or does a
-- step, so these turns are enough
unfoldable pub trace : Script → Mode → ℕ → List Entry → Trace
trace script mode budget entries =
    after (start script).lines (runs (budget + (length entries + 1)) script mode budget (start script).state 1 entries)
