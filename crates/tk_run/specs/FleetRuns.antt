-- A run with the drivers of its devices, turn by turn: what the sink took, and what the machine and the fleet came to.
use Rattle.std.specs.Prelude.{◌≡◌, ◌≢◌, ◌⊎◌, ◌≤◌, ℕ, ◌+◌, List, [], ◌++◌, length, Option, Some, None, Result, Ok, Err}
use Rattle.tk_types.specs.declared.line.Line.{Line}
use Rattle.tk_types.specs.declared.run.End.{End}
use Rattle.tk_types.specs.declared.run.End.TheVariants as ends
use Rattle.tk_types.specs.declared.run.Mode.{Mode}
use Rattle.tk_types.specs.declared.script.Script.{Script}
use Rattle.fleet_model.specs.Fleets.{EachHasPlace, Fleet}
use Rattle.machine_model.specs.Runs.Machine.{Machine}
use Rattle.run_model.specs.SoFar.{SoFar}
use Rattle.turn_lemmas.specs.Going.{Going, IsFrontOf, IsOver}
use Rattle.tk_model.specs.LineText.{text_of_lines}
use Rattle.tk_ports.specs.Streams.{Appends, AppendsFront, Rose}
use Rattle.tk_run.specs.Replays.{WriteAnswers}
use Rattle.tk_run.specs.declared.status.Status.{Status}
use Rattle.tk_run.specs.declared.status.Status.TheVariants as statuses
use Rattle.tk_run.specs.declared.writing.Unwritten.{Unwritten}
use Rattle.tk_run.specs.declared.writing.Unwritten.TheVariants as failures

-- ---- what a sink was given

-- the bytes that a sink tells of, the faults that it has counted, and the room that it surely has
pub record Held : Type 0 where
  pub bytes : Option (List ℕ)
  pub faults : ℕ
  pub room : ℕ

abbrev pub held_by : Option (List ℕ) → ℕ → ℕ → Held
held_by bytes faults room = record { bytes = bytes; faults = faults; room = room }

-- it took all of these bytes
pub record Took (old new : Held) (bytes : List ℕ) : Type 0 where
  pub appended : Appends old.bytes new.bytes bytes
  pub faults_stay : old.faults ≤ new.faults
  pub certain : length bytes ≤ old.room → (new.faults ≡ old.faults) × (old.room ≤ new.room + length bytes)

-- it took a front of them, and nothing where the host's memory ran out
pub record TookFront (old new : Held) (bytes : List ℕ) (failure : Unwritten) : Type 0 where
  pub answer : WriteAnswers old.bytes new.bytes bytes (Err failure)
  pub rose : failure ≡ failures.WriteFault → Rose old.faults new.faults
  pub faults_stay : old.faults ≤ new.faults
  pub certain : length bytes ≤ old.room → (failure ≢ failures.WriteFault) × (new.faults ≡ old.faults)

abbrev pub TakeAnswers : Held → Held → List ℕ → Result (Unit {0}) Unwritten → Type 0
TakeAnswers old new bytes (Ok done) = Took old new bytes
TakeAnswers old new bytes (Err failure) = TookFront old new bytes failure

-- ---- what a turn gives

-- the run goes on behind these lines
pub record GoesOn (script : Script) (mode : Mode) (budget : ℕ) (so : SoFar) (machine : Machine) (fleet : Fleet) (old new : Held) : Type 0 where
  pub next : SoFar
  pub lines : List Line
  pub going : Going script mode budget next None 0 machine fleet
  pub more : next.lines ≡ so.lines ++ lines
  pub written : Took old new (text_of_lines lines)

-- the run is over behind these lines, and everything was handed
pub record EndsSo (script : Script) (mode : Mode) (budget : ℕ) (so : SoFar) (end : End) (fleet : Fleet) (old new : Held) : Type 0 where
  pub lines : List Line
  pub over : IsOver script mode budget (so.lines ++ lines) end [] fleet
  pub written : Took old new (text_of_lines lines)

-- there is a channel for each device, and each has a place for a Stop
pub record MayClose (script : Script) (fleet : Fleet) : Type 0 where
  pub places : EachHasPlace fleet.channels
  pub many : length fleet.channels ≡ length script.devices

-- lines weren't written, or the host's memory ran out; those before them were written
pub record BreaksOff (script : Script) (mode : Mode) (budget : ℕ) (so : SoFar) (failure : Unwritten) (fleet : Fleet) (old new : Held) : Type 0 where
  pub before : List Line
  pub lines : List Line
  pub middle : Held
  pub front : IsFrontOf script mode budget (so.lines ++ (before ++ lines))
  pub written : Took old middle (text_of_lines before)
  pub unwritten : TookFront middle new (text_of_lines lines) failure
  pub places : MayClose script fleet

abbrev pub StepAnswers : Script → Mode → ℕ → SoFar → Machine → Fleet → Held → Held → Result (Unit {0}) Unwritten → Type 0
StepAnswers script mode budget so machine fleet old new (Ok done) = GoesOn script mode budget so machine fleet old new
StepAnswers script mode budget so machine fleet old new (Err failure) = BreaksOff script mode budget so failure fleet old new

abbrev pub TurnAnswers : Script → Mode → ℕ → SoFar → Machine → Fleet → Held → Held → Result (Option End) Unwritten → Type 0
TurnAnswers script mode budget so machine fleet old new (Ok None) = GoesOn script mode budget so machine fleet old new
TurnAnswers script mode budget so machine fleet old new (Ok (Some end)) = EndsSo script mode budget so end fleet old new
TurnAnswers script mode budget so machine fleet old new (Err failure) = BreaksOff script mode budget so failure fleet old new

-- ---- what a run comes to

-- the sink took the text of a whole trace that its own J lines define, which ends so, and the fleet follows its run
pub record RunsToEnd (script : Script) (mode : Mode) (budget : ℕ) (end : End) (fleet : Fleet) (old new : Held) : Type 0 where
  pub lines : List Line
  pub over : IsOver script mode budget lines end [] fleet
  pub written : Took old new (text_of_lines lines)

-- it took a front of such a text
pub record RunBreaksOff (script : Script) (mode : Mode) (budget : ℕ) (failure : Unwritten) (fleet : Fleet) (old new : Held) : Type 0 where
  pub lines : List Line
  pub front : IsFrontOf script mode budget lines
  pub taken : AppendsFront old.bytes new.bytes (text_of_lines lines)
  pub rose : failure ≡ failures.WriteFault → Rose old.faults new.faults
  pub faults_stay : old.faults ≤ new.faults
  pub certain : length (text_of_lines lines) ≤ old.room → (failure ≢ failures.WriteFault) × (new.faults ≡ old.faults)
  pub places : MayClose script fleet

abbrev pub RunsDone : Script → Mode → ℕ → Fleet → Held → Held → Type 0
RunsDone script mode budget fleet old new = RunsToEnd script mode budget ends.Idle fleet old new ⊎ RunsToEnd script mode budget ends.Halt fleet old new

abbrev pub RunEnds : Script → Mode → ℕ → Fleet → Held → Held → Status → Type 0
RunEnds script mode budget fleet old new statuses.Done = RunsDone script mode budget fleet old new
RunEnds script mode budget fleet old new statuses.Budget = RunsToEnd script mode budget ends.Budget fleet old new
RunEnds script mode budget fleet old new statuses.WriteFault = RunBreaksOff script mode budget failures.WriteFault fleet old new
RunEnds script mode budget fleet old new statuses.NoMemory = RunBreaksOff script mode budget failures.NoMemory fleet old new
RunEnds script mode budget fleet old new _ = ⊥
