-- The loop of a replay.
use Rattle.std.specs.Prelude.{◌≡◌, ℕ, ◌≤◌, List, length, Option, Result, Ok, Err}
use Rattle.dev_layer.specs.Tables.{AreDevices}
use Rattle.kernel_model.specs.Bodies.Statements.{IsRunnable}
use Rattle.tk_session.specs.declared.session.SessionReading.{SessionReading}
use Rattle.tk_session.specs.declared.session.SessionReading.TheVariants as readings
use Rattle.tk_ports.specs.Streams.{Appends, AppendsFront}
use Rattle.tk_run.specs.declared.writing.Unwritten.{Unwritten}
use Rattle.tk_run.specs.declared.writing.Unwritten.TheVariants as failures
use Rattle.tk_run.specs.declared.status.Status.{Status}
use Rattle.tk_run.specs.declared.status.Status.TheVariants as statuses

-- a journal has no more entries than a session has bytes
abbrev pub journal_limit : ℕ
journal_limit = 67108864

-- what the machine needs of a session that was read
abbrev pub IsReplayable : SessionReading → Type 0
IsReplayable (readings.Session session) = IsRunnable session.script × AreDevices session.script.devices × (length session.journal ≤ journal_limit)
IsReplayable (readings.Refused line why) = Unit {0}

abbrev pub failure_status : Unwritten → Status
failure_status failures.WriteFault = statuses.WriteFault
failure_status failures.NoMemory = statuses.NoMemory

-- with the status of a trace the steps are those of the trace
abbrev pub CountsSteps : ℕ → Status → ℕ → Type 0
CountsSteps steps statuses.Done counted = counted ≡ steps
CountsSteps steps statuses.Budget counted = counted ≡ steps
CountsSteps steps statuses.Starved counted = counted ≡ steps
CountsSteps steps (statuses.Unfit entry) counted = counted ≡ steps
CountsSteps steps _ counted = Unit {0}

-- all bytes were written, or what kept them from it
abbrev pub WriteAnswers : Option (List ℕ) → Option (List ℕ) → List ℕ → Result (Unit {0}) Unwritten → Type 0
WriteAnswers held held_new bytes (Ok done) = Appends held held_new bytes
WriteAnswers held held_new bytes (Err failures.WriteFault) = AppendsFront held held_new bytes
WriteAnswers held held_new bytes (Err failures.NoMemory) = held_new ≡ held
