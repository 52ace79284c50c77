-- How a text is read as a script with a trace: its script first, and then the lines of the trace, one by one.
use Rattle.std.specs.Prelude.{ℕ, ◌+◌, if◌then◌else◌, List, [], ◌∷◌, Option, Some, None, Result, Ok, Err}
use Rattle.std.specs.Str.{bytes_eq}
use Rattle.tk_types.specs.declared.line.Line.{Line}
use Rattle.tk_types.specs.declared.script.Script.{Script}
use Rattle.tk_types.specs.declared.why.Why.TheVariants as whys
use Rattle.tk_model.specs.LineText.{text_of_line}
use Rattle.tk_model.specs.TextLines.{text_lines}
use Rattle.tk_model.specs.Words.{parts_of}
use Rattle.tk_text.specs.Sessions.{Rest, session}
use Rattle.tk_text.specs.declared.session.Divider.TheVariants as dividers
use Rattle.tk_raw.specs.RawReading.{Refusal}
use Rattle.tk_trace.specs.Reading.{line_at}
use Rattle.tk_session.specs.Reading.{parts_reading}

-- a script, and the lines of a trace
pub record TracedScript : Type 0 where
  pub script : Script
  pub lines : List Line

-- ---- the trace

-- a line, where these bytes are its text
abbrev pub with_text : List ℕ → Option Line → Option Line
with_text bytes None = None
with_text bytes (Some line) = if bytes_eq (text_of_line line) bytes then Some line else None

-- the line whose text these bytes are: the one that their words spell, if it is printed as they are
unfoldable pub line_of : List ℕ → Option Line
line_of bytes = with_text bytes (line_at (parts_of 32 bytes))

-- a line before those behind it
abbrev pub before_lines : Line → Result (List Line) Refusal → Result (List Line) Refusal
before_lines line (Ok lines) = Ok (line ∷ lines)
before_lines line (Err refusal) = Err refusal

-- what bytes are read as before those behind them; bytes that are the text of no line are refused
abbrev pub then_lines : ℕ → Option Line → Result (List Line) Refusal → Result (List Line) Refusal
then_lines number None later = Err (number, whys.Trace)
then_lines number (Some line) later = before_lines line later

-- the lines of a trace, each by its text, the first of which has that number
unfoldable pub lines_from : ℕ → List (List ℕ) → Result (List Line) Refusal
lines_from number [] = Ok []
lines_from number (bytes ∷ rest) = then_lines number (line_of bytes) (lines_from (number + 1) rest)

-- ---- the whole

-- a script with the trace that was read behind it
abbrev pub with_lines : Script → Result (List Line) Refusal → Result TracedScript Refusal
with_lines script (Ok lines) = Ok (record { script = script; lines = lines })
with_lines script (Err refusal) = Err refusal

-- a script with the trace that is read behind it
abbrev pub trace_behind : Script → Rest → Result TracedScript Refusal
trace_behind script rest = with_lines script (lines_from rest.line (text_lines rest.bytes))

-- the script and the trace that a text spells, or the line and the reason for which it is refused
unfoldable pub traced_reading : List ℕ → Result TracedScript Refusal
traced_reading text = parts_reading trace_behind text (session dividers.Trace text)
