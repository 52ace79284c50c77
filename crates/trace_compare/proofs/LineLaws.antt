-- The first line of a text, and how lines are compared.
use Rattle.std.proofs.Common.{◌≡◌, ◌≢◌, ◌∙◌, sym, ap, refl, arith, ℕ, ◌+◌, ◌<◌, Bool, true, false, cond, eqb, List, [], ◌∷◌, ◌++◌, length, Option, Some, None, append-nil}
use Rattle.std.specs.Prelude.{All, bytes_eq}
use Rattle.std.specs.List.{slice_split, onto_first}
use Rattle.std.proofs.lemmas.Bool.Decides.{nat_tests}
use Rattle.std.proofs.lemmas.List.Splits.{slice_split_at, slice_split_none}
use Rattle.tk_model.specs.TextLines.{text_lines, whole_lines}
use Rattle.tk_model.specs.Words.{parts_of, is_word}
use Rattle.tk_text.specs.Tokens.{parts_left, room_left}
use Rattle.trace_compare.specs.Differences.{first_difference}
use Rattle.trace_compare.specs.Walks.{first_of}

-- ---- lines

abbrev pub is_feed : ℕ → Bool
is_feed byte = eqb byte 10

some_first : (byte : ℕ) (parts : List (List ℕ)) → onto_first byte parts ≢ []
some_first byte [] e = absurd (cc)
some_first byte (part ∷ parts) e = absurd (cc)

pub some_part : (bytes : List ℕ) → slice_split is_feed bytes ≢ []
some_part [] e = absurd (cc)
some_part (byte ∷ bytes) e =
    elim (is_feed byte) as (λ t. cond t ([] ∷ slice_split is_feed bytes) (onto_first byte (slice_split is_feed bytes)) ≡ [] → ⊥)
    [ true ↦ λ h. absurd (cc) | false ↦ λ h. some_first byte (slice_split is_feed bytes) h ] e

word_with_bytes : (part : List ℕ) → 0 < length part → is_word part ≡ true
word_with_bytes part some = grind (arith, nat_tests)

whole_more : (line : List ℕ) (parts : List (List ℕ)) → parts ≢ [] → whole_lines (line ∷ parts) ≡ line ∷ whole_lines parts
unfolding whole_lines
whole_more line [] some = absurd (some refl)
whole_more line (part ∷ parts) some = refl

alone : (line : List ℕ) → 0 < length line → whole_lines (line ∷ []) ≡ line ∷ []
unfolding whole_lines
alone line some = rw (word_with_bytes line some) refl

pub nothing : text_lines [] ≡ []
unfolding text_lines whole_lines parts_of
nothing = refl

pub no_lines : (bytes : List ℕ) → length bytes ≡ 0 → text_lines bytes ≡ []
no_lines [] none = nothing
no_lines (byte ∷ bytes) none = absurd (omega (arith, none))

-- a line with its line feed, and those behind it
pub line_fed : (line rest : List ℕ) → All (λ byte. eqb byte 10 ≡ false) line → text_lines (line ++ 10 ∷ rest) ≡ line ∷ text_lines rest
unfolding text_lines parts_of
line_fed line rest clear =
    ap whole_lines (slice_split_at is_feed line 10 rest clear refl) ∙ whole_more line (slice_split is_feed rest) (some_part rest)

-- a last line without its line feed
pub line_unfed : (line : List ℕ) → All (λ byte. eqb byte 10 ≡ false) line → 0 < length line → text_lines line ≡ line ∷ []
unfolding text_lines parts_of
line_unfed line clear some = ap whole_lines (slice_split_none is_feed line clear) ∙ alone line some

-- the line before a cut, and those behind it
pub last_line : (bytes line : List ℕ) (rest : Option (List ℕ)) → 0 < length bytes → parts_of 10 bytes ≡ line ∷ parts_left 10 rest
    → rest ≡ None → length line + room_left rest ≡ length bytes → text_lines bytes ≡ line ∷ text_lines []
unfolding text_lines
last_line bytes line None some parts none room =
    ap whole_lines parts ∙ alone line (omega (arith, room, some)) ∙ ap (λ (ls : List (List ℕ)). line ∷ ls) (sym nothing)
last_line bytes line (Some behind) some parts none room = absurd (cc)

pub next_line : (bytes line : List ℕ) (rest : Option (List ℕ)) (behind : List ℕ) → parts_of 10 bytes ≡ line ∷ parts_left 10 rest
    → rest ≡ Some behind → text_lines bytes ≡ line ∷ text_lines behind
unfolding text_lines parts_of
next_line bytes line rest behind parts is =
    let cut : slice_split is_feed bytes ≡ line ∷ slice_split is_feed behind = parts ∙ ap (λ (r : Option (List ℕ)). line ∷ parts_left 10 r) is in
    ap whole_lines cut ∙ whole_more line (slice_split is_feed behind) (some_part behind)

-- ---- lines that are compared

-- a line that is the same
pub line_passed : (number : ℕ) (line have left rest more : List ℕ) → All (λ byte. eqb byte 10 ≡ false) line → text_lines left ≡ have ∷ text_lines rest
    → bytes_eq line have ≡ true → first_difference (number + 1) (text_lines more) (text_lines rest) ≡ first_difference number (text_lines (line ++ 10 ∷ more)) (text_lines left)
unfolding first_difference
line_passed number line have left rest more clear cut same = rw (line_fed line more clear, cut, same) refl

-- one that isn't
pub line_differs : (number : ℕ) (line have left rest more : List ℕ) → All (λ byte. eqb byte 10 ≡ false) line → text_lines left ≡ have ∷ text_lines rest
    → bytes_eq line have ≡ false
    → Some (record { line = number; want = Some line; have = first_of (text_lines left) }) ≡ first_difference number (text_lines (line ++ 10 ∷ more)) (text_lines left)
unfolding first_difference
line_differs number line have left rest more clear cut other = rw (line_fed line more clear, cut, other) refl

-- one that the given text doesn't have
pub line_missing : (number : ℕ) (line left more : List ℕ) → All (λ byte. eqb byte 10 ≡ false) line → text_lines left ≡ []
    → Some (record { line = number; want = Some line; have = first_of (text_lines left) }) ≡ first_difference number (text_lines (line ++ 10 ∷ more)) (text_lines left)
unfolding first_difference
line_missing number line left more clear none = rw (line_fed line more clear, none) refl

-- a last line is compared as if its line feed came
pub line_closed : (number : ℕ) (line left : List ℕ) → All (λ byte. eqb byte 10 ≡ false) line → 0 < length line
    → first_difference number (text_lines (line ++ 10 ∷ [])) (text_lines left) ≡ first_difference number (text_lines (line ++ [])) (text_lines left)
line_closed number line left clear some =
    ap (λ (lines : List (List ℕ)). first_difference number lines (text_lines left))
    (line_fed line [] clear ∙ ap (λ (ls : List (List ℕ)). line ∷ ls) nothing ∙ sym (line_unfed line clear some) ∙ ap text_lines (sym (append-nil line)))

-- no line is left in either text
pub none_left : (number : ℕ) (lines : List (List ℕ)) → None ≡ first_of lines → first_difference number (text_lines []) lines ≡ None
unfolding first_difference
none_left number [] none = rw nothing refl
none_left number (line ∷ lines) none = absurd (cc)

-- a line is left in the given text
pub one_left : (number : ℕ) (have : List ℕ) (lines : List (List ℕ)) → Some have ≡ first_of lines
    → first_difference number (text_lines []) lines ≡ Some (record { line = number; want = None; have = Some have })
unfolding first_difference
one_left number have [] none = absurd (cc)
one_left number have (line ∷ lines) first = let same : have ≡ line = cc in rw (nothing, same) refl
