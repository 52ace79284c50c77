-- What the reading of a script with a trace answers.
use Rattle.std.specs.Prelude.{◌≡◌, List, Result, Ok, Err, map}
use Rattle.tk_model.specs.Journal.{journal_of}
use Rattle.tk_model.specs.LineText.{text_of_line}
use Rattle.tk_model.specs.TextLines.{text_lines}
use Rattle.tk_types.specs.declared.line.Entry.{Entry}
use Rattle.tk_types.specs.declared.line.Line.{Line}
use Rattle.tk_raw.specs.RawReading.{Refusal}
use Rattle.tk_session.specs.TracedReading.{TracedScript}
use Rattle.tk_session.specs.declared.traced.Traced.{Traced}
use Rattle.tk_session.specs.declared.traced.TracedReading.{TracedReading}
use Rattle.tk_session.specs.declared.traced.TracedReading.TheVariants as readings

-- the entries that the lines of a trace make, where it was read
abbrev pub entries_of : Result (List Line) Refusal → Result (List Entry) Refusal
entries_of (Ok lines) = Ok (journal_of lines)
entries_of (Err refusal) = Err refusal

-- what is answered has the script, the entries that the lines make, and the lines as their texts
pub record Shows (answered : Traced) (traced : TracedScript) : Type 0 where
  pub script : answered.script ≡ traced.script
  pub journal : answered.journal ≡ journal_of traced.lines
  pub given : text_lines answered.given.now ≡ map text_of_line traced.lines

-- what is said of a script with a trace, where the answer is one
abbrev pub IfTraced : TracedReading → (Traced → Type 0) → Type 0
IfTraced (readings.Traced answered) fact = fact answered
IfTraced (readings.Refused line why) fact = Unit {0}

-- the answer shows this script with a trace
abbrev pub ShowsTraced : TracedReading → TracedScript → Type 0
ShowsTraced (readings.Traced answered) traced = Shows answered traced
ShowsTraced (readings.Refused line why) traced = ⊥

-- the answer is what was read: a refusal is that of the text, and a script with a trace shows the one that was read
abbrev pub AnswersTraced : TracedReading → Result TracedScript Refusal → Type 0
AnswersTraced (readings.Traced answered) read = (traced : TracedScript) × (read ≡ Ok traced) × Shows answered traced
AnswersTraced (readings.Refused line why) read = read ≡ Err (line, why)
