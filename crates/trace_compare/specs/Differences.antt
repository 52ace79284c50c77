-- Where the lines of two texts differ first.
use Rattle.std.specs.Prelude.{◌≡◌, ◌≢◌, ℕ, ◌+◌, if◌then◌else◌, List, [], ◌∷◌, Option, Some, None, bytes_eq, take, slice_get}
use Rattle.tk_model.specs.TextLines.{text_lines}

-- a line that isn't the same in two texts: its number, and what it is in each; a text that has no such line has none
pub record Difference : Type 0 where
  pub line : ℕ
  pub want : Option (List ℕ)
  pub have : Option (List ℕ)

-- the first line that isn't the same among these, the first of which have that number
unfoldable pub first_difference : ℕ → List (List ℕ) → List (List ℕ) → Option Difference
first_difference number [] [] = None
first_difference number [] (have ∷ haves) = Some (record { line = number; want = None; have = Some have })
first_difference number (want ∷ wants) [] = Some (record { line = number; want = Some want; have = None })
first_difference number (want ∷ wants) (have ∷ haves) =
    if bytes_eq want have then first_difference (number + 1) wants haves
    else Some (record { line = number; want = Some want; have = Some have })

-- the first line in which a written text differs from a given one; lines count from 1, and a last one may lack its line feed
abbrev pub difference_of : List ℕ → List ℕ → Option Difference
difference_of written given = first_difference 1 (text_lines written) (text_lines given)

-- so many lines are the same in both; those behind them are what the difference has, and aren't the same
pub record DiffersBehind (before : ℕ) (found : Difference) (wants haves : List (List ℕ)) : Type 0 where
  pub same : take before wants ≡ take before haves
  pub want : found.want ≡ slice_get wants before
  pub have : found.have ≡ slice_get haves before
  pub apart : found.want ≢ found.have

-- a difference in its place among lines that are counted from a number on
pub record IsFound (number : ℕ) (found : Difference) (wants haves : List (List ℕ)) : Type 0 where
  pub before : ℕ
  pub line : found.line ≡ before + number
  pub behind : DiffersBehind before found wants haves
