-- What a step of the second pass answers.
use Rattle.std.specs.Prelude.{◌≡◌, Result, Ok, Err}
use Rattle.tk_types.specs.declared.why.Why.{Why}
use Rattle.tk_raw.specs.RawReading.{Refusal}
use Rattle.tk_script.specs.declared.errors.StepError.{StepError}
use Rattle.tk_script.specs.declared.errors.StepError.TheVariants as steps
use Rattle.tk_script.specs.declared.errors.LineError.{LineError}
use Rattle.tk_script.specs.declared.errors.LineError.TheVariants as lines

-- the value that the definition gives, or the reason that it gives, but for want of memory
abbrev pub Gives : {X : Type 0} → Result X StepError → Result X Why → Type 0
Gives (Ok found) given = given ≡ Ok found
Gives (Err steps.Memory) given = Unit {0}
Gives (Err (steps.Refused why)) given = given ≡ Err why

-- the same of lines, with the number of the line
abbrev pub GivesLine : {X : Type 0} → Result X LineError → Result X Refusal → Type 0
GivesLine (Ok found) given = given ≡ Ok found
GivesLine (Err lines.Memory) given = Unit {0}
GivesLine (Err (lines.Refused line why)) given = given ≡ Err (line, why)
