-- What is said of a trace that stands behind its script: whether it is the trace of the run which the script, the options and the
-- trace's own journal define. Texts are compared: no two lines have one text.
use Rattle.std.specs.Prelude.{◌≡◌, ◌⊎◌, ℕ, ◌++◌, List, length, map, Option, Some, None, Result, Ok, Err, IsErr, codes, decimal}
use Rattle.tk_types.specs.declared.line.LastLine.{LastLine}
use Rattle.tk_types.specs.declared.line.LastLine.TheVariants as lasts
use Rattle.tk_types.specs.declared.line.Line.{Line}
use Rattle.tk_types.specs.declared.run.Mode.{Mode}
use Rattle.tk_types.specs.declared.memory.OutOfMemory.{OutOfMemory}
use Rattle.tk_ports.specs.Streams.{Appends}
use Rattle.machine_model.specs.Runs.Trace.{Trace, lines_of, trace}
use Rattle.tk_model.specs.Journal.{journal_of}
use Rattle.tk_model.specs.LineText.{text_of_line, text_of_lines}
use Rattle.tk_model.specs.TextLines.{text_lines}
use Rattle.tk_raw.specs.RawReading.{Refusal}
use Rattle.tk_session.specs.TracedReading.{TracedScript, traced_reading}
use Rattle.tk_session.specs.TracedSpelling.{SpellsTraced}
use Rattle.trace_compare.specs.Answers.{shown}
use Rattle.trace_compare.specs.Differences.{Difference, first_difference}
use Rattle.trace_compare.specs.declared.compared.Compared.{Compared}
use Rattle.trace_compare.specs.declared.compared.Compared.TheVariants as comparisons
use Rattle.tk_run.specs.declared.status.Status.{Status}
use Rattle.tk_run.specs.declared.status.Status.TheVariants as statuses
use Rattle.tk_run.specs.declared.verdict.Verdict.{Verdict}
use Rattle.tk_run.specs.declared.verdict.Verdict.TheVariants as verdicts
use Rattle.tk_run.specs.Answers.{IsDone}
use Rattle.tk_run.specs.Outcomes.{Outcome, refusal_outcome}

-- ---- the run, and what differs

-- the run that a script defines with the endings that the lines of a trace record
abbrev pub traced_run : Mode → ℕ → TracedScript → Trace
traced_run mode budget traced = trace traced.script mode budget (journal_of traced.lines)

-- the lines of a run's text
abbrev pub run_lines : Trace → List (List ℕ)
run_lines run = text_lines (text_of_lines (lines_of run))

-- the first line that isn't the same in a run's text and in a trace
abbrev pub run_difference : Trace → List Line → Option Difference
run_difference run given = first_difference 1 (run_lines run) (map text_of_line given)

-- the run ended by itself, or at its budget
abbrev pub IsOver : LastLine → Type 0
IsOver last = IsDone last ⊎ (last ≡ lasts.Budget)

-- a trace is that of its own run: it has the lines of the text that this run writes, and the run lacks no ending and has none that isn't fit
pub record IsOwnRun (mode : Mode) (budget : ℕ) (traced : TracedScript) : Type 0 where
  pub same : run_lines (traced_run mode budget traced) ≡ map text_of_line traced.lines
  pub over : IsOver (traced_run mode budget traced).last

-- ---- texts

-- `same N`, of so many lines
unfoldable pub same_text : ℕ → List ℕ
same_text count = codes "same " ++ decimal count ++ codes "\n"

-- `starved N`, after so many steps
unfoldable pub starved_text : ℕ → List ℕ
starved_text steps = codes "starved " ++ decimal steps ++ codes "\n"

-- `unfit K`, of the entry with that number
unfoldable pub unfit_text : ℕ → List ℕ
unfit_text entry = codes "unfit " ++ decimal entry ++ codes "\n"

-- a word, and behind it the line that it tells of, where there is one
unfoldable pub told_line : List ℕ → Option (List ℕ) → List ℕ
told_line word None = word ++ codes "\n"
told_line word (Some line) = word ++ codes " " ++ line ++ codes "\n"

-- `differs K`, and that line in the run and in the given trace
unfoldable pub difference_text : Difference → List ℕ
difference_text found =
    codes "differs " ++ decimal found.line ++ codes "\n"
    ++ told_line (codes "want") found.want
    ++ told_line (codes "have") found.have

-- ---- outcomes

abbrev pub same_outcome : ℕ → Outcome
same_outcome count = record { status = statuses.Done; bytes = same_text count }

abbrev pub difference_outcome : Difference → Outcome
difference_outcome found = record { status = statuses.Differs found.line; bytes = difference_text found }

abbrev pub starved_outcome : ℕ → Outcome
starved_outcome steps = record { status = statuses.Starved; bytes = starved_text steps }

abbrev pub unfit_outcome : ℕ → Outcome
unfit_outcome entry = record { status = statuses.Unfit entry; bytes = unfit_text entry }

-- of a trace of so many lines, and of its first line that differs
abbrev pub compared_outcome : ℕ → Option Difference → Outcome
compared_outcome count None = same_outcome count
compared_outcome count (Some found) = difference_outcome found

-- that an ending is missing, or isn't fit, comes before what differs
abbrev pub judged_outcome : LastLine → ℕ → ℕ → Option Difference → Outcome
judged_outcome lasts.Starved steps count found = starved_outcome steps
judged_outcome (lasts.Unfit entry) steps count found = unfit_outcome entry
judged_outcome lasts.Idle steps count found = compared_outcome count found
judged_outcome lasts.Halt steps count found = compared_outcome count found
judged_outcome lasts.Budget steps count found = compared_outcome count found

-- what a run says of a trace
abbrev pub run_outcome : Trace → List Line → Outcome
run_outcome run given = judged_outcome run.last run.steps (length given) (run_difference run given)

abbrev pub traced_outcome : Mode → ℕ → TracedScript → Outcome
traced_outcome mode budget traced = run_outcome (traced_run mode budget traced) traced.lines

-- the verdict on what was read, or its refusal
abbrev pub trace_reading_outcome : Mode → ℕ → Result TracedScript Refusal → Outcome
trace_reading_outcome mode budget (Ok traced) = traced_outcome mode budget traced
trace_reading_outcome mode budget (Err refusal) = refusal_outcome refusal.0 refusal.1

unfoldable pub verify_outcome : Mode → ℕ → List ℕ → Outcome
verify_outcome mode budget input = trace_reading_outcome mode budget (traced_reading input)

-- the outcome of a verdict
abbrev pub outcome_of : Verdict → Outcome
outcome_of (verdicts.Same lines) = same_outcome lines
outcome_of (verdicts.Differs found) = difference_outcome (shown found)
outcome_of (verdicts.Starved steps) = starved_outcome steps
outcome_of (verdicts.Unfit entry) = unfit_outcome entry

-- the verdict on what was compared, but for want of memory
abbrev pub GivesVerdict : Compared → Result Verdict OutOfMemory → Type 0
GivesVerdict (comparisons.Same lines) result = result ≡ Ok (verdicts.Same lines)
GivesVerdict (comparisons.Differs found) result = result ≡ Ok (verdicts.Differs found)
GivesVerdict comparisons.OutOfMemory result = IsErr result

-- ---- what stands behind a verdict, said by what a text spells

-- the trace that stands in the input differs from its run at this line, and that was written
abbrev pub WritesDifference : Mode → ℕ → TracedScript → ℕ → Option (List ℕ) → Option (List ℕ) → Type 0
WritesDifference mode budget traced line old new =
    IsOver (traced_run mode budget traced).last
    × ((found : Difference) × (run_difference (traced_run mode budget traced) traced.lines ≡ Some found) × (found.line ≡ line) × Appends old new (difference_text found))

-- what stands behind the status, where the input spells this script with a trace
abbrev pub WritesVerdict : Mode → ℕ → TracedScript → Option (List ℕ) → Option (List ℕ) → Status → Type 0
WritesVerdict mode budget traced old new statuses.Done = IsOwnRun mode budget traced × Appends old new (same_text (length traced.lines))
WritesVerdict mode budget traced old new (statuses.Differs line) = WritesDifference mode budget traced line old new
WritesVerdict mode budget traced old new statuses.Starved =
    ((traced_run mode budget traced).last ≡ lasts.Starved) × Appends old new (starved_text (traced_run mode budget traced).steps)
WritesVerdict mode budget traced old new (statuses.Unfit entry) = ((traced_run mode budget traced).last ≡ lasts.Unfit entry) × Appends old new (unfit_text entry)
WritesVerdict mode budget traced old new _ = Unit {0}

-- whether a status is a verdict
abbrev pub IsVerdict : Status → Type 0
IsVerdict statuses.Done = Unit {0}
IsVerdict (statuses.Differs line) = Unit {0}
IsVerdict statuses.Starved = Unit {0}
IsVerdict (statuses.Unfit entry) = Unit {0}
IsVerdict _ = ⊥

abbrev pub VerifyHeadline : Mode → ℕ → List ℕ → Option (List ℕ) → Option (List ℕ) → Status → Type 0
VerifyHeadline mode budget input old new status = IsVerdict status → (traced : TracedScript) × SpellsTraced input traced × WritesVerdict mode budget traced old new status

-- yes, unless a stream failed or memory ran out
abbrev pub IsYes : Status → Type 0
IsYes statuses.Done = Unit {0}
IsYes statuses.ReadFault = Unit {0}
IsYes statuses.WriteFault = Unit {0}
IsYes statuses.NoMemory = Unit {0}
IsYes _ = ⊥

-- an input that spells a script with the trace of its own run is answered so
abbrev pub Verifies : Mode → ℕ → List ℕ → Status → Type 0
Verifies mode budget input status = (traced : TracedScript) → SpellsTraced input traced → IsOwnRun mode budget traced → IsYes status
