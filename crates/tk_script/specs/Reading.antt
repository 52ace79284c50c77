-- How a text is read as a script: line by line, and then with the names looked up.
use Rattle.std.specs.Prelude.{ℕ, List, Result, Ok, Err}
use Rattle.tk_types.specs.declared.script.Reading.{Reading}
use Rattle.tk_types.specs.declared.script.Reading.TheVariants as readings
use Rattle.tk_types.specs.declared.script.Script.{Script}
use Rattle.tk_raw.specs.RawReading.{Refusal, raw_reading}
use Rattle.tk_script.specs.Resolving.{◌>>=◌, resolved}

-- the script that a text spells, or the line and the reason for which it is refused: the first line that fails a test of
-- the first pass, or else of the second
unfoldable pub reading : List ℕ → Result Script Refusal
reading text = raw_reading text >>= resolved

-- what is answered
abbrev pub answer : Result Script Refusal → Reading
answer (Ok script) = readings.Script script
answer (Err refusal) = readings.Refused refusal.0 refusal.1
