-- What holds with each answer of the calls of this crate: of the bytes that a sink took, and of the causes.
use Rattle.std.specs.Prelude.{◌≡◌, ◌⊎◌, ℕ, List, [], Option, Some, None}
use Rattle.tk_types.specs.declared.script.Script.{Script}
use Rattle.tk_types.specs.declared.run.Mode.{Mode}
use Rattle.tk_types.specs.declared.line.LastLine.{LastLine}
use Rattle.tk_types.specs.declared.line.LastLine.TheVariants as lasts
use Rattle.tk_ports.specs.Streams.{Appends, AppendsFront}
use Rattle.machine_model.specs.Runs.Trace.{lines_of, trace}
use Rattle.tk_model.specs.LineText.{text_of_lines}
use Rattle.tk_run.specs.declared.command.Command.{Command}
use Rattle.tk_run.specs.declared.command.Command.TheVariants.{Replay, Check}
use Rattle.tk_run.specs.declared.status.Status.{Status}
use Rattle.tk_run.specs.declared.status.Status.TheVariants as statuses
use Rattle.tk_model.specs.ScriptText.{Spells, printed}
use Rattle.tk_run.specs.Outcomes.{Outcome, session_trace}
use Rattle.tk_session.specs.Spelling.{SpellsSession}
use Rattle.tk_session.specs.declared.session.Session.{Session}

-- the status is the outcome's and all its bytes were taken, unless a stream failed or memory ran out
abbrev pub OutcomeAnswers : Outcome → Option (List ℕ) → Option (List ℕ) → Status → Type 0
OutcomeAnswers outcome old new statuses.Done = (outcome.status ≡ statuses.Done) × Appends old new outcome.bytes
OutcomeAnswers outcome old new statuses.Budget = (outcome.status ≡ statuses.Budget) × Appends old new outcome.bytes
OutcomeAnswers outcome old new (statuses.Refused line why) = (outcome.status ≡ statuses.Refused line why) × Appends old new outcome.bytes
OutcomeAnswers outcome old new statuses.Starved = (outcome.status ≡ statuses.Starved) × Appends old new outcome.bytes
OutcomeAnswers outcome old new (statuses.Unfit entry) = (outcome.status ≡ statuses.Unfit entry) × Appends old new outcome.bytes
OutcomeAnswers outcome old new (statuses.Differs line) = (outcome.status ≡ statuses.Differs line) × Appends old new outcome.bytes
OutcomeAnswers outcome old new statuses.Usage = (outcome.status ≡ statuses.Usage) × Appends old new outcome.bytes
OutcomeAnswers outcome old new statuses.ReadFault = new ≡ old
OutcomeAnswers outcome old new statuses.NoThread = ⊥
OutcomeAnswers outcome old new statuses.WriteFault = AppendsFront old new outcome.bytes
OutcomeAnswers outcome old new statuses.NoMemory = AppendsFront old new outcome.bytes

-- the same of a run that is only written; it needs no ending
abbrev pub RunAnswers : Outcome → Option (List ℕ) → Option (List ℕ) → Status → Type 0
RunAnswers outcome old new statuses.Done = (outcome.status ≡ statuses.Done) × Appends old new outcome.bytes
RunAnswers outcome old new statuses.Budget = (outcome.status ≡ statuses.Budget) × Appends old new outcome.bytes
RunAnswers outcome old new statuses.WriteFault = AppendsFront old new outcome.bytes
RunAnswers outcome old new statuses.NoMemory = AppendsFront old new outcome.bytes
RunAnswers outcome old new _ = ⊥

-- no stream failed and no fault was counted: the status is this one, unless memory ran out
pub record IsCertain (status : Status) (faults faults_now : ℕ) (answer : Status) : Type 0 where
  pub answer_is : (answer ≡ status) ⊎ (answer ≡ statuses.NoMemory)
  pub no_fault : faults_now ≡ faults

-- the input spells a script, and the sink took its printed form
abbrev pub WritesPrinted : List ℕ → Option (List ℕ) → Option (List ℕ) → Type 0
WritesPrinted input old new = (script : Script) × Spells input script × Appends old new (printed script)

-- the input spells a session, and the sink took the text of its trace, whose last line is one of these
abbrev pub WritesSession : Mode → ℕ → List ℕ → Option (List ℕ) → Option (List ℕ) → (LastLine → Type 0) → Type 0
WritesSession mode budget input old new IsEnd =
    (session : Session) × SpellsSession input session × IsEnd (session_trace mode budget session).last × Appends old new (text_of_lines (lines_of (session_trace mode budget session)))

abbrev pub IsDone : LastLine → Type 0
IsDone last = (last ≡ lasts.Idle) ⊎ (last ≡ lasts.Halt)

-- what stands behind the status of a replay or a printing, said by what a text spells and not by how it is read; that an ending is
-- missing or isn't fit is answered by a replay alone
abbrev pub HeadlineAnswers : Option Command → List ℕ → Option (List ℕ) → Option (List ℕ) → Status → Type 0
HeadlineAnswers (Some (Replay mode budget)) input old new statuses.Done = WritesSession mode budget input old new IsDone
HeadlineAnswers (Some (Replay mode budget)) input old new statuses.Budget = WritesSession mode budget input old new (λ last. last ≡ lasts.Budget)
HeadlineAnswers (Some (Replay mode budget)) input old new statuses.Starved = WritesSession mode budget input old new (λ last. last ≡ lasts.Starved)
HeadlineAnswers (Some (Replay mode budget)) input old new (statuses.Unfit entry) = WritesSession mode budget input old new (λ last. last ≡ lasts.Unfit entry)
HeadlineAnswers (Some Check) input old new statuses.Done = WritesPrinted input old new
HeadlineAnswers (Some Check) input old new statuses.Budget = ⊥
HeadlineAnswers None input old new statuses.Done = ⊥
HeadlineAnswers None input old new statuses.Budget = ⊥
HeadlineAnswers _ input old new statuses.Starved = ⊥
HeadlineAnswers _ input old new (statuses.Unfit entry) = ⊥
HeadlineAnswers _ input old new (statuses.Differs line) = ⊥
HeadlineAnswers _ input old new _ = Unit {0}

-- words that are no command are answered so, and nothing is read
abbrev pub IsUsage : Status → Type 0
IsUsage answer = (answer ≡ statuses.Usage) ⊎ (answer ≡ statuses.WriteFault)

-- the answers that may come once the input was read, where no endings are fed
abbrev pub IsPastReading : Status → Type 0
IsPastReading statuses.ReadFault = ⊥
IsPastReading statuses.Usage = ⊥
IsPastReading statuses.NoThread = ⊥
IsPastReading statuses.Starved = ⊥
IsPastReading (statuses.Unfit entry) = ⊥
IsPastReading (statuses.Differs line) = ⊥
IsPastReading _ = Unit {0}

-- the same of a run, whose drivers may not start
abbrev pub IsPastStart : Status → Type 0
IsPastStart statuses.ReadFault = ⊥
IsPastStart statuses.Usage = ⊥
IsPastStart statuses.Starved = ⊥
IsPastStart (statuses.Unfit entry) = ⊥
IsPastStart (statuses.Differs line) = ⊥
IsPastStart _ = Unit {0}

-- the answers that may come once the input was read, where the endings of a journal are fed
abbrev pub IsPastSession : Status → Type 0
IsPastSession statuses.ReadFault = ⊥
IsPastSession statuses.Usage = ⊥
IsPastSession statuses.NoThread = ⊥
IsPastSession (statuses.Differs line) = ⊥
IsPastSession _ = Unit {0}

-- the answers that may come once the input was read, where a trace is looked at
abbrev pub IsPastTrace : Status → Type 0
IsPastTrace statuses.ReadFault = ⊥
IsPastTrace statuses.Usage = ⊥
IsPastTrace statuses.NoThread = ⊥
IsPastTrace statuses.Budget = ⊥
IsPastTrace _ = Unit {0}
