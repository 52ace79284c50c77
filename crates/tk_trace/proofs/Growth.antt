-- How a text grows by one piece after another.
use Rattle.std.proofs.Common.{◌≡◌, ℕ, ◌+◌, ◌<◌, ◌≤◌, List, [], ◌∷◌, ◌++◌, length, map, take, get_or, refl, sym, ap, ◌∙◌, arith, append_assoc, length-append, append-nil, SFits, w32, to_z, of_z}
use Rattle.std.proofs.Math.Facts.{to_z-of_z}
use Rattle.std.proofs.lemmas.List.{take-take, take_more, map-append}
use Rattle.std.proofs.Math.Seq.{take-append_seam}
use Rattle.std.specs.Prelude.{ℤ, pos}
use Rattle.std.specs.Fmt.{signed_decimal}
use Rattle.tk_types.specs.declared.line.Line.{Line}
use Rattle.tk_model.specs.LineText.{spaced, text_of_line, text_of_lines}

-- a text that grew and was then kept still begins with what was there at first
pub front_kept : (first more late last : List ℕ) → late ≡ first ++ more → take (length late) last ≡ late → take (length first) last ≡ first
front_kept first more late last grown kept =
    let less : length first ≤ length late = rw (grown, length-append) (omega arith) in
    sym (take-take (length first) (length late) last less) ∙ (ap (take (length first)) (kept ∙ grown) ∙ take-append_seam first more)

pub spaced_append : (words more : List (List ℕ)) → spaced (words ++ more) ≡ spaced words ++ spaced more
spaced_append [] more = refl
spaced_append (word ∷ words) more = rw (spaced_append words more, append_assoc) refl

-- one more field stands behind the text
pub field_more : (fields : List ℤ) (i : ℕ) (text now next : List ℕ) → SFits w32 (get_or fields i (pos 0)) → i < length fields → now ≡ text ++ spaced (map signed_decimal (take i fields)) → next ≡ now ++ 32 ∷ signed_decimal (to_z w32 (of_z w32 (get_or fields i (pos 0)))) → next ≡ text ++ spaced (map signed_decimal (take (i + 1) fields))
field_more fields i text now next fits h e f =
    rw (take_more fields i (pos 0) h, map-append, spaced_append, append-nil, f, e, to_z-of_z fits, append_assoc) refl

pub lines_append : (lines more : List Line) → text_of_lines (lines ++ more) ≡ text_of_lines lines ++ text_of_lines more
unfolding text_of_lines
lines_append [] more = refl
lines_append (line ∷ lines) more = rw (lines_append lines more) (sym (append_assoc (text_of_line line ++ 10 ∷ []) (text_of_lines lines) (text_of_lines more)))

-- one more line stands behind the text
pub line_more : (lines : List Line) (i : ℕ) (line : Line) (text now next : List ℕ) → i < length lines → line ≡ get_or lines i line → now ≡ text ++ text_of_lines (take i lines) → next ≡ now ++ (text_of_line line ++ 10 ∷ []) → next ≡ text ++ text_of_lines (take (i + 1) lines)
unfolding text_of_lines
line_more lines i line text now next h is e f =
    rw (take_more lines i line h, ← is, lines_append, append-nil, f, e, append_assoc) refl

pub no_lines : (text : List ℕ) → text ≡ text ++ text_of_lines []
unfolding text_of_lines
no_lines text = sym (append-nil text)
