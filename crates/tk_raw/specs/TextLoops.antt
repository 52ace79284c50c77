-- What the loop over the lines of a text keeps.
use Rattle.std.specs.Prelude.{ℕ, List, [], Option, Some, None}
use Rattle.tk_raw.specs.declared.errors.ReadError.{ReadError}
use Rattle.tk_raw.specs.declared.errors.ReadError.TheVariants as errors
use Rattle.tk_raw.specs.declared.errors.TextError.{TextError}
use Rattle.tk_raw.specs.declared.errors.TextError.TheVariants as text_errors

-- what stands behind a line: nothing where no line feed ends it
abbrev pub text_behind : Option (List ℕ) → List ℕ
text_behind None = []
text_behind (Some bytes) = bytes

-- what is wrong with that line
abbrev pub in_line : ℕ → ReadError → TextError
in_line line errors.Memory = text_errors.Memory
in_line line (errors.Refused why) = text_errors.Refused line why
