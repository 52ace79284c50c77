-- What a step of the reading answers.
use Rattle.std.specs.Prelude.{◌≡◌, ℕ, Result, Ok, Err}
use Rattle.tk_types.specs.declared.why.Why.{Why}
use Rattle.tk_raw.specs.declared.errors.ReadError.{ReadError}
use Rattle.tk_raw.specs.declared.errors.ReadError.TheVariants as errors
use Rattle.tk_raw.specs.declared.errors.TextError.{TextError}
use Rattle.tk_raw.specs.declared.errors.TextError.TheVariants as text_errors

-- the value that the definition gives, or the reason that it gives, but for want of memory
abbrev pub Gives : {X Y : Type 0} → (X → Y) → Result X ReadError → Result Y Why → Type 0
Gives now (Ok x) read = read ≡ Ok (now x)
Gives now (Err errors.Memory) read = Unit {0}
Gives now (Err (errors.Refused why)) read = read ≡ Err why

-- the same of a text, with the line
abbrev pub GivesText : {X Y : Type 0} → (X → Y) → Result X TextError → Result Y (ℕ × Why) → Type 0
GivesText now (Ok x) read = read ≡ Ok (now x)
GivesText now (Err text_errors.Memory) read = Unit {0}
GivesText now (Err (text_errors.Refused line why)) read = read ≡ Err (line, why)
