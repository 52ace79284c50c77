-- What a run with the drivers of its devices writes, and what its record tells. In free mode the drivers choose when a request
-- ends; all else is determined, so the trace is the one that its own J lines define.
use Rattle.std.specs.Prelude.{◌≡◌, ◌≢◌, ◌⊎◌, ◌≤◌, ◌==◌, ℕ, ◌+◌, Bool, true, not, List, [], length, Option, Some, None}
use Rattle.std.specs.Option.{is_some}
use Rattle.tk_types.specs.declared.line.Entry.{Entry}
use Rattle.tk_types.specs.declared.line.LastLine.{LastLine}
use Rattle.tk_types.specs.declared.line.LastLine.TheVariants as lasts
use Rattle.tk_types.specs.declared.line.Line.{Line}
use Rattle.tk_types.specs.declared.run.Mode.{Mode}
use Rattle.tk_types.specs.declared.run.Mode.TheVariants as modes
use Rattle.tk_types.specs.declared.script.Reading.{Reading}
use Rattle.tk_types.specs.declared.script.Reading.TheVariants as readings
use Rattle.tk_types.specs.declared.script.Script.{Script}
use Rattle.machine_model.specs.Runs.SyncTrace.{sync_trace}
use Rattle.machine_model.specs.Runs.Trace.{Trace, lines_of, trace}
use Rattle.tk_model.specs.Journal.{journal_of}
use Rattle.tk_model.specs.LineText.{text_of_lines}
use Rattle.tk_model.specs.ScriptText.{Spells}
use Rattle.tk_ports.specs.Streams.{Appends, AppendsFront}
use Rattle.fleet_model.specs.Fleets.{most_counted}
use Rattle.fleet_model.specs.Records.{AreJoined, Record}
use Rattle.run_model.specs.Told.{Tells}
use Rattle.tk_run.specs.declared.command.Command.{Command}
use Rattle.tk_run.specs.declared.command.Command.TheVariants.{Run, Replay, Verify, Check, Generate}
use Rattle.tk_run.specs.declared.status.Status.{Status}
use Rattle.tk_run.specs.declared.status.Status.TheVariants as statuses
use Rattle.tk_run.specs.Answers.{HeadlineAnswers, IsCertain, IsDone, OutcomeAnswers}
use Rattle.tk_run.specs.Outcomes.{check_outcome, generate_outcome, refusal_outcome, refusal_text, replay_outcome, usage_outcome}
use Rattle.tk_run.specs.Readings.{reading_of}
use Rattle.tk_run.specs.Verdicts.{Verifies, VerifyHeadline, verify_outcome}

-- a trace is fed with the endings that its own J lines record; in sync mode it is the one that script and budget determine, and
-- without devices the one that is fed with none
pub record IsRunOf (script : Script) (mode : Mode) (budget : ℕ) (run : Trace) : Type 0 where
  pub own : run ≡ trace script mode budget (journal_of (lines_of run))
  pub sync : mode ≡ modes.Sync → run ≡ sync_trace script budget
  pub alone : script.devices ≡ [] → run ≡ trace script mode budget []

-- whether a script has devices, and so a run of it drivers and a record
abbrev pub has_devices : Script → Bool
has_devices script = not (length script.devices == 0)

-- the record is there where the script has devices, with one channel for each; each driver was joined and has done what a driver
-- of its unit does, and what went over the channels is what passed in the run
abbrev pub RecordTells : Script → Mode → ℕ → Trace → Option Record → Type 0
RecordTells script mode budget run None = script.devices ≡ []
RecordTells script mode budget run (Some closed) = AreJoined 1 closed.channels × Tells script mode budget (journal_of (lines_of run)) closed

-- the sink took the text of a run, whose last line is one of these
pub record WritesRun (script : Script) (mode : Mode) (budget : ℕ) (IsEnd : LastLine → Type 0) (old new : Option (List ℕ)) (closed : Option Record) : Type 0 where
  pub run : Trace
  pub is : IsRunOf script mode budget run
  pub last : IsEnd run.last
  pub written : Appends old new (text_of_lines (lines_of run))
  pub told : RecordTells script mode budget run closed
  pub there : is_some closed ≡ has_devices script

-- the sink took a front of the text of a trace that its own J lines define; in sync mode, and without devices, of the one that is
-- determined
pub record WritesFront (script : Script) (mode : Mode) (budget : ℕ) (old new : Option (List ℕ)) : Type 0 where
  pub run : Trace
  pub own : run ≡ trace script mode budget (journal_of (lines_of run))
  pub front : AppendsFront old new (text_of_lines (lines_of run))
  pub sync : mode ≡ modes.Sync → AppendsFront old new (text_of_lines (lines_of (sync_trace script budget)))
  pub alone : script.devices ≡ [] → AppendsFront old new (text_of_lines (lines_of (trace script mode budget [])))

-- what stands behind the status of a run of a script
abbrev pub ScriptAnswers : Script → Mode → ℕ → Option (List ℕ) → Option (List ℕ) → Status → Option Record → Type 0
ScriptAnswers script mode budget old new statuses.Done closed = WritesRun script mode budget IsDone old new closed
ScriptAnswers script mode budget old new statuses.Budget closed = WritesRun script mode budget (λ last. last ≡ lasts.Budget) old new closed
ScriptAnswers script mode budget old new statuses.WriteFault closed = WritesFront script mode budget old new × (is_some closed ≡ has_devices script)
ScriptAnswers script mode budget old new statuses.NoMemory closed = WritesFront script mode budget old new
ScriptAnswers script mode budget old new statuses.NoThread closed = (new ≡ old) × (closed ≡ None) × (has_devices script ≡ true)
ScriptAnswers script mode budget old new _ closed = ⊥

-- the same of what was read, which is refused without a record where it is no script
abbrev pub ReadingAnswers : Mode → ℕ → Reading → Option (List ℕ) → Option (List ℕ) → Status → Option Record → Type 0
ReadingAnswers mode budget (readings.Script script) old new status closed = ScriptAnswers script mode budget old new status closed
ReadingAnswers mode budget (readings.Refused line why) old new status closed = OutcomeAnswers (refusal_outcome line why) old new status × (closed ≡ None)

-- and of an input; one that couldn't be read has nothing behind it
abbrev pub InputAnswers : Mode → ℕ → List ℕ → Option (List ℕ) → Option (List ℕ) → Status → Option Record → Type 0
InputAnswers mode budget input old new statuses.ReadFault closed = (new ≡ old) × (closed ≡ None)
InputAnswers mode budget input old new status closed = ReadingAnswers mode budget (reading_of input) old new status closed

-- ---- of the words

-- what stands behind the status of a command: that of a run, or else the outcome, without a record
abbrev pub CommandAnswers : Option Command → List ℕ → Option (List ℕ) → Option (List ℕ) → Status → Option Record → Type 0
CommandAnswers (Some (Run mode budget)) input old new status closed = InputAnswers mode budget input old new status closed
CommandAnswers (Some (Replay mode budget)) input old new status closed = OutcomeAnswers (replay_outcome mode budget input) old new status × (closed ≡ None)
CommandAnswers (Some (Verify mode budget)) input old new status closed = OutcomeAnswers (verify_outcome mode budget input) old new status × (closed ≡ None)
CommandAnswers (Some Check) input old new status closed = OutcomeAnswers (check_outcome input) old new status × (closed ≡ None)
CommandAnswers (Some (Generate number)) input old new status closed = OutcomeAnswers (generate_outcome number) old new status × (closed ≡ None)
CommandAnswers None input old new status closed = OutcomeAnswers usage_outcome old new status × (closed ≡ None)

-- the input spells a script, and the sink took the text of a run of it, whose last line is one of these
abbrev pub WritesSpelled : Mode → ℕ → List ℕ → (LastLine → Type 0) → Option (List ℕ) → Option (List ℕ) → Option Record → Type 0
WritesSpelled mode budget input IsEnd old new closed = (script : Script) × Spells input script × WritesRun script mode budget IsEnd old new closed

-- the same of a run, said by what a text spells and not by how it is read
abbrev pub RunHeadline : Mode → ℕ → List ℕ → Option (List ℕ) → Option (List ℕ) → Status → Option Record → Type 0
RunHeadline mode budget input old new statuses.Done closed = WritesSpelled mode budget input IsDone old new closed
RunHeadline mode budget input old new statuses.Budget closed = WritesSpelled mode budget input (λ last. last ≡ lasts.Budget) old new closed
RunHeadline mode budget input old new statuses.Starved closed = ⊥
RunHeadline mode budget input old new (statuses.Unfit entry) closed = ⊥
RunHeadline mode budget input old new (statuses.Differs line) closed = ⊥
RunHeadline mode budget input old new statuses.Usage closed = ⊥
RunHeadline mode budget input old new _ closed = Unit {0}

abbrev pub CommandHeadline : Option Command → List ℕ → Option (List ℕ) → Option (List ℕ) → Status → Option Record → Type 0
CommandHeadline (Some (Run mode budget)) input old new status closed = RunHeadline mode budget input old new status closed
CommandHeadline (Some (Verify mode budget)) input old new status closed = VerifyHeadline mode budget input old new status
CommandHeadline command input old new status closed = HeadlineAnswers command input old new status

-- the trace of its own run is told to be that
abbrev pub CommandVerifies : Option Command → List ℕ → Status → Type 0
CommandVerifies (Some (Verify mode budget)) input status = Verifies mode budget input status
CommandVerifies _ input status = Unit {0}

-- what is answered for the script with a number, whatever the source has
abbrev pub CommandGenerates : Option Command → Option (List ℕ) → Option (List ℕ) → Status → Type 0
CommandGenerates (Some (Generate number)) old new status = OutcomeAnswers (generate_outcome number) old new status
CommandGenerates _ old new status = Unit {0}

-- ---- where no stream fails

-- the trace of every journal has room
abbrev pub HasRoom : Script → Mode → ℕ → ℕ → Type 0
HasRoom script mode budget room = (entries : List Entry) → length (text_of_lines (lines_of (trace script mode budget entries))) ≤ room

-- what has room is written
abbrev pub ReadingCertain : Mode → ℕ → Reading → ℕ → ℕ → ℕ → Status → Type 0
ReadingCertain mode budget (readings.Script script) room faults faults_now status = HasRoom script mode budget room → (status ≢ statuses.WriteFault) × (faults_now ≡ faults)
ReadingCertain mode budget (readings.Refused line why) room faults faults_now status = length (refusal_text line why) ≤ room → IsCertain (statuses.Refused line why) faults faults_now status

abbrev pub CommandCertain : Option Command → List ℕ → ℕ → ℕ → ℕ → Status → Type 0
CommandCertain (Some (Run mode budget)) input room faults faults_now status = ReadingCertain mode budget (reading_of input) room faults faults_now status
CommandCertain (Some (Replay mode budget)) input room faults faults_now status =
    length (replay_outcome mode budget input).bytes ≤ room → IsCertain (replay_outcome mode budget input).status faults faults_now status
CommandCertain (Some (Verify mode budget)) input room faults faults_now status =
    length (verify_outcome mode budget input).bytes ≤ room → IsCertain (verify_outcome mode budget input).status faults faults_now status
CommandCertain (Some Check) input room faults faults_now status = length (check_outcome input).bytes ≤ room → IsCertain (check_outcome input).status faults faults_now status
CommandCertain (Some (Generate number)) input room faults faults_now status =
    length (generate_outcome number).bytes ≤ room → IsCertain (generate_outcome number).status faults faults_now status
CommandCertain None input room faults faults_now status = length usage_outcome.bytes ≤ room → IsCertain usage_outcome.status faults faults_now status

-- ---- of the drivers

-- with a run to its end a driver was started for each device of the script
abbrev pub StartsAnswers : ℕ → ℕ → ℕ → Status → Type 0
StartsAnswers devices starts starts_now statuses.Done = (starts + devices ≤ starts_now) ⊎ (most_counted ≤ starts_now)
StartsAnswers devices starts starts_now statuses.Budget = (starts + devices ≤ starts_now) ⊎ (most_counted ≤ starts_now)
StartsAnswers devices starts starts_now _ = Unit {0}

abbrev pub ReadingStarts : Reading → ℕ → ℕ → Status → Type 0
ReadingStarts (readings.Script script) starts starts_now status = StartsAnswers (length script.devices) starts starts_now status
ReadingStarts (readings.Refused line why) starts starts_now status = Unit {0}

abbrev pub CommandStarts : Option Command → List ℕ → ℕ → ℕ → Status → Type 0
CommandStarts (Some (Run mode budget)) input starts starts_now status = ReadingStarts (reading_of input) starts starts_now status
CommandStarts _ input starts starts_now status = Unit {0}
