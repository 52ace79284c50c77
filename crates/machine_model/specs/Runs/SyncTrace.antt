-- The run of sync mode, in which each ending that is needed is that of a request done whole: what it writes depends on the
-- script and the budget alone.
use Rattle.std.specs.Prelude.{ℕ, zero, suc, ◌+◌, ◌*◌, if◌then◌else◌, List, [], ◌∷◌, ◌++◌, Option, Some, None, unwrap_or}
use Rattle.std.specs.List.{find}
use Rattle.std.specs.Option.{is_some}
use Rattle.tk_types.specs.declared.script.Script.{Script}
use Rattle.tk_types.specs.declared.run.Mode.TheVariants as modes
use Rattle.tk_types.specs.declared.run.End.{End}
use Rattle.tk_types.specs.declared.run.End.TheVariants as ends
use Rattle.tk_types.specs.declared.line.Entry.{Entry}
use Rattle.tk_types.specs.declared.line.How.TheVariants as hows
use Rattle.tk_types.specs.declared.line.Line.{Line}
use Rattle.tk_types.specs.declared.line.LastLine.TheVariants as lasts
use Rattle.device_model.specs.declared.messages.Ending.{Ending}
use Rattle.device_model.specs.Devices.Endings.{expected}
use Rattle.device_model.specs.Devices.Tables.{Devices, at_driver, device_ids}
use Rattle.machine_model.specs.States.State.{State, taken}
use Rattle.machine_model.specs.Events.Follow.{Event}
use Rattle.machine_model.specs.Events.Arrivals.{arrived}
use Rattle.machine_model.specs.Runs.Step.{Pace, Ends, Needs, Went, step}
use Rattle.machine_model.specs.Runs.Trace.{Trace, last_of, over_with, start}

-- a trace, and the entries of the endings that arrived in it
pub record SyncRun : Type 0 where
  pub trace : Trace
  pub entries : List Entry

abbrev pub sync_over : State → End → SyncRun
sync_over st end = record { trace = over_with st (last_of end); entries = [] }

-- lines before those of a run
abbrev pub sync_after : List Line → SyncRun → SyncRun
sync_after front rest = record rest { trace = record rest.trace { lines = front ++ rest.trace.lines } }

-- an ending, as the entry of a journal
abbrev pub entry_of : ℕ → Ending → Entry
entry_of n e = record { place = n; device = e.device; request = e.request; how = hows.Done }

abbrev pub with_entry : Entry → SyncRun → SyncRun
with_entry entry run = record run { entries = entry ∷ run.entries }

-- the least device whose driver has a request, or 0
abbrev pub first_given : Devices → ℕ
first_given devices = unwrap_or (find (λ d. is_some (at_driver devices d)) (device_ids devices)) 0

-- the ending of the request that is with a driver, done whole
abbrev pub needed_ending : State → Option Ending
needed_ending st = expected st.objects.devices (first_given st.objects.devices) hows.Done

abbrev pub sync_arrived : (State → SyncRun) → State → Ending → Option Event → SyncRun
sync_arrived next st e None = sync_over st ends.Idle
sync_arrived next st e (Some event) = with_entry (entry_of (st.steps + 1) e) (sync_after event.lines (next (taken event.state)))

abbrev pub sync_ending : (State → SyncRun) → Script → State → Option Ending → SyncRun
sync_ending next script st None = sync_over st ends.Idle
sync_ending next script st (Some e) = sync_arrived next st e (arrived script modes.Sync st e)

abbrev pub sync_turn : (State → SyncRun) → Script → State → Pace → SyncRun
sync_turn next script st (Went event None) = sync_after event.lines (next (taken event.state))
sync_turn next script st (Went event (Some end)) = sync_after event.lines (sync_over event.state end)
sync_turn next script st (Needs waiting) = sync_ending next script (taken waiting) (needed_ending (taken waiting))
sync_turn next script st Ends = sync_over st ends.Idle

-- the run from a state on, by at most so many turns; messages to drivers are taken after each event
unfoldable pub sync_runs : ℕ → Script → ℕ → State → SyncRun
sync_runs zero script budget st = sync_over st ends.Budget
sync_runs (suc left) script budget st = sync_turn (λ now. sync_runs left script budget now) script st (step script modes.Sync budget st)

-- the run from the start. Each turn does a step, or takes the ending of a request, and each request is asked for at a step of
-- its own; so these turns are enough
unfoldable pub sync_run : Script → ℕ → SyncRun
sync_run script budget = sync_after (start script).lines (sync_runs (2 * budget + 1) script budget (start script).state)

-- the trace of sync mode
abbrev pub sync_trace : Script → ℕ → Trace
sync_trace script budget = (sync_run script budget).trace
