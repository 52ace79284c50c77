-- The lines of a text, counted one by one.
use Rattle.std.proofs.Common.{◌≡◌, ℕ, ◌+◌, ◌<◌, List, [], ◌∷◌, length, Option, Some, None, ap, arith}
use Rattle.tk_text.specs.Tokens.{room_left}
use Rattle.tk_model.specs.TextLines.{text_lines}
use Rattle.tk_raw.specs.TextLoops.{text_behind}
use Rattle.tk_raw.proofs.TextLoops.{no_text_lines}

-- what stands behind a line is shorter
pub shorter_behind : (size : ℕ) (line : List ℕ) (rest : Option (List ℕ)) → 0 < size → length line + room_left rest ≡ size → length (text_behind rest) < size
shorter_behind size line None some room = omega (arith, some)
shorter_behind size line (Some behind) some room = omega (arith, room)

-- a text without bytes has no lines
pub no_lines_left : (bytes : List ℕ) → length bytes ≡ 0 → text_lines bytes ≡ []
no_lines_left [] none = no_text_lines
no_lines_left (byte ∷ bytes) none = absurd (omega (arith, none))

-- one line was counted
pub line_counted : (count all : ℕ) (line : List ℕ) (lines rest : List (List ℕ)) → lines ≡ line ∷ rest → count + length lines ≡ all → count + 1 + length rest ≡ all
line_counted count all line lines rest cut same =
    let size : length lines ≡ length (line ∷ rest) = ap length cut in
    omega (arith, size, same)

-- all were
pub lines_counted : (count all : ℕ) (bytes : List ℕ) → length bytes ≡ 0 → count + length (text_lines bytes) ≡ all → count ≡ all
lines_counted count all bytes none same =
    let no : length (text_lines bytes) ≡ 0 = ap length (no_lines_left bytes none) in
    omega (arith, no, same)
