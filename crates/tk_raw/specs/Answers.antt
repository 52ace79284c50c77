-- What the reader of texts answers.
use Rattle.std.specs.Prelude.{Result, Ok, Err}
use Rattle.tk_raw.specs.RawReading.{Refusal}
use Rattle.tk_raw.specs.declared.raw.RawScript.{RawScript}
use Rattle.tk_raw.specs.declared.read.RawReading.{RawReading}
use Rattle.tk_raw.specs.declared.read.RawReading.TheVariants as readings

-- the script, or the line and the reason
abbrev pub answer : Result RawScript Refusal → RawReading
answer (Ok raw) = readings.Raw raw
answer (Err refusal) = readings.Refused refusal.0 refusal.1
