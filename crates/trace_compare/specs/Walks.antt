-- The lines of a text that is taken byte by byte, beside those of a given one.
use Rattle.std.specs.Prelude.{◌≡◌, ℕ, ◌+◌, ◌<◌, ◌^◌, ◌==◌, false, if◌then◌else◌, List, [], ◌∷◌, ◌++◌, length, Option, Some, None, All}
use Rattle.tk_model.specs.TextLines.{text_lines}
use Rattle.trace_compare.specs.Differences.{Difference, first_difference}
use Rattle.trace_compare.specs.declared.walk.Walk.{Walk}

-- the first of some lines
abbrev pub first_of : List (List ℕ) → Option (List ℕ)
first_of [] = None
first_of (line ∷ lines) = Some line

-- the difference, where these bytes follow those taken
abbrev pub difference_behind : Walk → List ℕ → Option Difference
difference_behind walk more =
    if walk.differs then Some (record { line = walk.number; want = Some walk.line.items; have = first_of (text_lines walk.left.now) })
    else first_difference walk.number (text_lines (walk.line.items ++ more)) (text_lines walk.left.now)

-- how many lines the given text has, one more
abbrev pub lines_behind : Walk → ℕ
lines_behind walk = walk.number + length (text_lines walk.left.now)

-- no line feed in the line, and room to count what is left
pub record IsWalk (walk : Walk) : Type 0 where
  pub open_line : All (λ byte. (byte == 10) ≡ false) walk.line.items
  pub first : 0 < walk.number
  pub room : walk.number + length walk.left.now < 2 ^ 32
