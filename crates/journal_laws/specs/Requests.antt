-- The devices of the states that a machine comes to, and runs as going from one such state to another.
use Rattle.std.specs.Prelude.{◌≡◌, ℕ, List, ◌++◌}
use Rattle.tk_types.specs.declared.line.Line.{Line}
use Rattle.tk_types.specs.declared.run.Mode.{Mode}
use Rattle.tk_types.specs.declared.script.Script.{Script}
use Rattle.device_model.specs.Devices.Tables.{Devices, devices_start}
use Rattle.device_laws.specs.Asked.{AllWereAsked}
use Rattle.device_laws.specs.Moves.{Leads}
use Rattle.machine_model.specs.Runs.Reached.{Move, state_after}
use Rattle.machine_model.specs.Runs.Trace.{Trace, after}
use Rattle.journal_laws.specs.Turns.{Place, fed_turn}

-- the devices of the state that a machine comes to by its moves
abbrev pub devices_after : Script → Mode → ℕ → List Move → Devices
devices_after script mode budget moves = (state_after script mode budget moves).objects.devices

-- some list of moves on devices leads to them from the devices at the start; and by that list each request that has ended aborted
-- was asked to, while its driver had it
pub record EndedAsAsked (script : Script) (after : Devices) : Type 0 where
  pub made : Leads (devices_start script) after
  pub asked : AllWereAsked (devices_start script) made.moves

-- a run from a place whose state the machine comes to by these moves. A turn ends it; or it writes lines and goes on at a place whose
-- state the machine comes to by some moves more, and so on
pub data GoesThrough (script : Script) (mode : Mode) (budget : ℕ) : List Move → Place → Trace → Type 0 where
  stops : {moves : List Move} {place : Place} {all : Trace} → state_after script mode budget moves ≡ place.state →
      ((next : Place → Trace) → fed_turn script mode budget next place ≡ all) → GoesThrough script mode budget moves place all
  proceeds : {moves : List Move} {place now : Place} {rest : Trace} (more : List Move) (lines : List Line) →
      state_after script mode budget moves ≡ place.state →
      ((next : Place → Trace) → fed_turn script mode budget next place ≡ after lines (next now)) →
      GoesThrough script mode budget (more ++ moves) now rest → GoesThrough script mode budget moves place (after lines rest)
