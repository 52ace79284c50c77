-- What a comparison answers.
use Rattle.std.specs.Prelude.{ℕ, option_map, option_copied}
use Rattle.trace_compare.specs.Differences.{Difference}
use Rattle.trace_compare.specs.declared.compared.Difference.{Difference as Found}
use Rattle.trace_compare.specs.declared.compared.Compared.{Compared}
use Rattle.trace_compare.specs.declared.compared.Compared.TheVariants.{Same, Differs, OutOfMemory}

-- the difference that is shown
abbrev pub shown : Found → Difference
shown found = record { line = found.line; want = option_map (λ line. line.items) found.want; have = option_copied found.have }

-- the fact holds of the number of lines, where the texts are the same
abbrev pub IfSame : Compared → (ℕ → Type 0) → Type 0
IfSame (Same lines) P = P lines
IfSame (Differs found) P = Unit {0}
IfSame OutOfMemory P = Unit {0}

-- the fact holds of the difference, where the texts differ
abbrev pub IfDiffers : Compared → (Difference → Type 0) → Type 0
IfDiffers (Same lines) P = Unit {0}
IfDiffers (Differs found) P = P (shown found)
IfDiffers OutOfMemory P = Unit {0}
