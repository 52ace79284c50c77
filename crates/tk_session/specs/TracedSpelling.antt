-- What it is that a text spells a script with a trace.
use Rattle.std.specs.Prelude.{◌≡◌, ℕ, ◌≤◌, List, length, map}
use Rattle.std.specs.List.{AllByRecursion}
use Rattle.tk_model.specs.LineRanges.{IsLine}
use Rattle.tk_model.specs.LineText.{text_of_line}
use Rattle.tk_model.specs.ScriptText.{Spells}
use Rattle.tk_model.specs.TextLines.{whole_lines}
use Rattle.tk_model.specs.Words.{lines_of}
use Rattle.tk_text.specs.Sessions.{divider_word, session_limit}
use Rattle.tk_text.specs.declared.session.Divider.TheVariants as dividers
use Rattle.tk_session.specs.Spelling.{IsCut, fed}
use Rattle.tk_session.specs.TracedReading.{TracedScript}

-- a text spells a script with a trace: the lines before the divider spell the script, and those behind it are the texts of
-- the trace's lines
pub record SpellsTraced (text : List ℕ) (traced : TracedScript) : Type 0 where
  pub short : length text ≤ session_limit
  pub before : List (List ℕ)
  pub divider : List ℕ
  pub behind : List (List ℕ)
  pub cut : IsCut (divider_word dividers.Trace) (lines_of text) before divider behind
  pub script : Spells (fed before) traced.script
  pub trace : whole_lines behind ≡ map text_of_line traced.lines
  pub lines : AllByRecursion IsLine traced.lines
