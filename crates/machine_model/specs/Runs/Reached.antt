-- The states that a machine comes to: after any list of steps and of endings that are offered to it, wherever they come.
use Rattle.std.specs.Prelude.{ℕ, List, [], ◌∷◌, Option, Some, None}
use Rattle.tk_types.specs.declared.run.Mode.{Mode}
use Rattle.tk_types.specs.declared.script.Script.{Script}
use Rattle.device_model.specs.declared.messages.Ending.{Ending}
use Rattle.machine_model.specs.States.State.{State, taken}
use Rattle.machine_model.specs.Events.Follow.{Event}
use Rattle.machine_model.specs.Events.Arrivals.{arrived}
use Rattle.machine_model.specs.Runs.Step.{Pace, Ends, Needs, Went, step}
use Rattle.machine_model.specs.Runs.Trace.{start}

-- what is done to a machine: it steps, or an ending is offered to it. Messages to drivers are taken after each
pub data Move : Type 0 where
  Steps : Move
  Arrives : (ending : Ending) → Move

abbrev pub after_pace : State → Pace → State
after_pace st (Went event over) = taken event.state
after_pace st (Needs waiting) = taken waiting
after_pace st Ends = st

-- an ending that isn't fit changes nothing
abbrev pub after_offer : State → Option Event → State
after_offer st None = st
after_offer st (Some event) = taken event.state

abbrev pub after_move : Script → Mode → ℕ → State → Move → State
after_move script mode budget st Steps = after_pace st (step script mode budget st)
after_move script mode budget st (Arrives ending) = after_offer st (arrived script mode st ending)

-- the state after moves, the last of which stands first
unfoldable pub state_after : Script → Mode → ℕ → List Move → State
state_after script mode budget [] = (start script).state
state_after script mode budget (move ∷ before) = after_move script mode budget (state_after script mode budget before) move
