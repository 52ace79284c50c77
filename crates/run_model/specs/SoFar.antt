-- What a run has come to while it goes on: each step that was done and each ending that was taken in, in whatever order the drivers
-- chose, until the machine is over.
use Rattle.std.specs.Prelude.{◌≡◌, ◌⊎◌, ℕ, ◌+◌, ◌==◌, if◌then◌else◌, List, [], ◌∷◌, ◌++◌, Some, None}
use Rattle.tk_types.specs.declared.line.Entry.{Entry}
use Rattle.tk_types.specs.declared.line.Line.{Line}
use Rattle.tk_types.specs.declared.run.Mode.{Mode}
use Rattle.tk_types.specs.declared.run.Mode.TheVariants as modes
use Rattle.tk_types.specs.declared.script.Script.{Script}
use Rattle.device_model.specs.declared.messages.Ending.{Ending}
use Rattle.device_model.specs.declared.messages.Message.{Message}
use Rattle.machine_model.specs.States.State.{State, taken}
use Rattle.machine_model.specs.Events.Follow.{Event}
use Rattle.machine_model.specs.Events.Arrivals.{arrived}
use Rattle.machine_model.specs.Runs.Step.{Needs, Went, step}
use Rattle.machine_model.specs.Runs.Trace.{named_ending, start}
use Rattle.fleet_model.specs.Fleets.{device_of}
use Rattle.run_model.specs.Passings.{Passing, Takes, gives}

pub record SoFar : Type 0 where
  pub lines : List Line  -- all lines
  pub entries : List Entry  -- the endings that were taken in, as the entries of a journal
  pub passings : List Passing
  pub state : State

abbrev pub first_so_far : Script → SoFar
first_so_far script = record { lines = (start script).lines; entries = []; passings = []; state = (start script).state }

-- the entry of an ending that arrives before a step
abbrev pub entry_before : ℕ → Ending → Entry
entry_before n ending = record { place = n; device = ending.device; request = ending.request; how = ending.how }

-- a step was done
abbrev pub after_event : SoFar → Event → SoFar
after_event so event = record so { lines = so.lines ++ event.lines; passings = so.passings ++ gives event.state; state = taken event.state }

-- an ending is needed: a request went to its driver for it, or was there already
abbrev pub after_need : SoFar → State → SoFar
after_need so waiting = record so { passings = so.passings ++ gives waiting; state = taken waiting }

-- an ending was taken in, which a journal names so
abbrev pub after_ending : SoFar → Ending → Event → SoFar
after_ending so named event = record {
  lines = so.lines ++ event.lines;
  entries = so.entries ++ entry_before (so.state.steps + 1) named ∷ [];
  passings = so.passings ++ Takes named ∷ gives event.state;
  state = taken event.state;
}

-- the machine needs an ending in a state
pub record NeedsOne (script : Script) (mode : Mode) (budget : ℕ) (st : State) : Type 0 where
  pub waiting : State
  pub is : step script mode budget st ≡ Needs waiting

-- what a run comes to: it begins; a step is done with which it isn't over; an ending is needed; and one is taken in, in sync mode
-- only where it is needed
pub data IsSoFar (script : Script) (mode : Mode) (budget : ℕ) : SoFar → Type 0 where
  begins : IsSoFar script mode budget (first_so_far script)
  goes_on : {so : SoFar} {event : Event} → IsSoFar script mode budget so → step script mode budget so.state ≡ Went event None →
      IsSoFar script mode budget (after_event so event)
  needs : {so : SoFar} {waiting : State} → IsSoFar script mode budget so → step script mode budget so.state ≡ Needs waiting →
      IsSoFar script mode budget (after_need so waiting)
  takes_in : {so : SoFar} {named : Ending} {event : Event} → IsSoFar script mode budget so →
      (mode ≡ modes.Free) ⊎ NeedsOne script mode budget so.state →
      named_ending so.state (entry_before (so.state.steps + 1) named) ≡ Some named →
      arrived script mode so.state named ≡ Some event →
      IsSoFar script mode budget (after_ending so named event)

-- of these messages those for a device
unfoldable pub messages_for : ℕ → List Message → List Message
messages_for d [] = []
messages_for d (m ∷ later) = if device_of m == d then m ∷ messages_for d later else messages_for d later
