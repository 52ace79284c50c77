-- The printed form of a script that a text spells: it spells the script too, and how long it is.
use Rattle.std.proofs.Common.{◌≡◌, ◌≢◌, ◌∙◌, sym, ap, subst, refl, arith, ℕ, suc, ◌+◌, ◌<◌, ◌≤◌, Bool, true, false, cond, List, [], ◌∷◌, ◌++◌, map, length, append_assoc, length-append}
use Rattle.std.specs.Prelude.{◌==◌, flat_map, if◌then◌else◌}
use Rattle.std.specs.List.{AllByRecursion, slice_split, onto_first}
use Rattle.tk_types.specs.declared.script.Script.{Script}
use Rattle.tk_model.specs.ScriptText.{joined, line_text, printed, Spells}
use Rattle.tk_model.specs.TextLines.{is_kept, kept_behind, kept_from, kept_lines, text_lines, whole_lines, IsCleanLine}
use Rattle.tk_model.specs.Words.{is_word, parts_of, words_of}
use Rattle.tk_script.proofs.PlainLines.{total, split_mark, split_some, split_total, IsPlain, words_plain, plain_shorter}

-- ---- the lines of a text

whole_last : (parts : List (List ℕ)) → whole_lines (parts ++ [] ∷ []) ≡ parts
unfolding whole_lines
whole_last [] = refl
whole_last (part ∷ []) = refl
whole_last (part ∷ next ∷ parts) = ap (λ (ps : List (List ℕ)). part ∷ ps) (whole_last (next ∷ parts))

one_total : (b : Bool) (part : List ℕ) → total (if b then part ∷ [] else []) ≤ total (part ∷ [])
unfolding total
one_total true part = omega arith
one_total false part = omega arith

whole_total : (parts : List (List ℕ)) → total (whole_lines parts) ≤ total parts
unfolding whole_lines total
whole_total [] = omega arith
whole_total (part ∷ []) = one_total (is_word part) part
whole_total (part ∷ next ∷ parts) = let more = whole_total (next ∷ parts) in omega (arith, more)

-- the lines of a text, with a line feed behind each, are at most one byte longer than the text
pub text_total : (text : List ℕ) → total (text_lines text) ≤ suc (length text)
unfolding text_lines parts_of
text_total text =
    let parts = whole_total (slice_split (λ byte. byte == 10) text) in
    let whole = split_total 10 text in omega (arith, parts, whole)

onto_last : (byte : ℕ) (parts : List (List ℕ)) → 0 < length parts → onto_first byte (parts ++ [] ∷ []) ≡ onto_first byte parts ++ [] ∷ []
onto_last byte [] some = absurd (omega arith)
onto_last byte (part ∷ parts) some = refl

last_by : (b : Bool) (byte : ℕ) (whole parts : List (List ℕ)) → whole ≡ parts ++ [] ∷ [] → 0 < length parts → cond b ([] ∷ whole) (onto_first byte whole) ≡ cond b ([] ∷ parts) (onto_first byte parts) ++ [] ∷ []
last_by true byte whole parts e some = ap (λ (ps : List (List ℕ)). [] ∷ ps) e
last_by false byte whole parts e some = ap (onto_first byte) e ∙ onto_last byte parts some

split_last : (text : List ℕ) → slice_split (λ byte. byte == 10) (text ++ 10 ∷ []) ≡ slice_split (λ byte. byte == 10) text ++ [] ∷ []
split_last [] = refl
split_last (byte ∷ text) = last_by (byte == 10) byte (slice_split (λ b. b == 10) (text ++ 10 ∷ [])) (slice_split (λ b. b == 10) text) (split_last text) (split_some 10 text)

-- with a last line feed they are no longer than the text
ended_total : (front : List ℕ) → total (text_lines (front ++ 10 ∷ [])) ≤ length (front ++ 10 ∷ [])
unfolding text_lines parts_of
ended_total front =
    let lines : whole_lines (slice_split (λ byte. byte == 10) (front ++ 10 ∷ [])) ≡ slice_split (λ byte. byte == 10) front = ap whole_lines (split_last front) ∙ whole_last (slice_split (λ byte. byte == 10) front) in
    let whole = split_total 10 front in
    let P : List (List ℕ) → Type 0 = λ ls. total ls ≤ length (front ++ 10 ∷ []) in
    subst P (sym lines) (omega (arith, whole, length-append front (10 ∷ [])))

-- ---- lines that are kept

kept_plain_by : (b : Bool) (words : List (List ℕ)) (kept : List (List (List ℕ))) → IsPlain words → AllByRecursion IsPlain kept → AllByRecursion IsPlain (cond b (words ∷ kept) kept)
kept_plain_by true words kept one all = (one, all)
kept_plain_by false words kept one all = all

kept_plain : (lines : List (List ℕ)) → AllByRecursion IsCleanLine lines → AllByRecursion IsPlain (kept_behind lines)
unfolding kept_behind
kept_plain [] clean = tt
kept_plain (line ∷ lines) clean = kept_plain_by (is_kept (words_of line)) (words_of line) (kept_behind lines) (words_plain line clean.0) (kept_plain lines clean.1)

-- words of a line that counts
pub record IsKept (words : List (List ℕ)) : Type 0 where
  pub is : is_kept words ≡ true

kept_by : (b : Bool) (words : List (List ℕ)) (kept : List (List (List ℕ))) → is_kept words ≡ b → AllByRecursion IsKept kept → AllByRecursion IsKept (cond b (words ∷ kept) kept)
kept_by true words kept is all = (record { is = is }, all)
kept_by false words kept is all = all

all_kept : (lines : List (List ℕ)) → AllByRecursion IsKept (kept_behind lines)
unfolding kept_behind
all_kept [] = tt
all_kept (line ∷ lines) = kept_by (is_kept (words_of line)) (words_of line) (kept_behind lines) refl (all_kept lines)

total_by : (b : Bool) (words : List (List ℕ)) (kept : List (List (List ℕ))) (n m : ℕ) → length (joined words) ≤ n → total (map joined kept) ≤ m → total (map joined (cond b (words ∷ kept) kept)) ≤ suc n + m
unfolding total
total_by true words kept n m one all = omega arith
total_by false words kept n m one all = omega arith

kept_total : (lines : List (List ℕ)) → total (map joined (kept_behind lines)) ≤ total lines
unfolding kept_behind total
kept_total [] = omega arith
kept_total (line ∷ lines) = total_by (is_kept (words_of line)) (words_of line) (kept_behind lines) (length line) (total lines) (plain_shorter line) (kept_total lines)

from_plain : (lines : List (List ℕ)) → AllByRecursion IsCleanLine lines → AllByRecursion IsPlain (kept_from lines)
unfolding kept_from
from_plain [] clean = tt
from_plain (head ∷ lines) clean = (words_plain head clean.0, kept_plain lines clean.1)

from_total : (lines : List (List ℕ)) → total (map joined (kept_from lines)) ≤ total lines
unfolding kept_from total
from_total [] = omega arith
from_total (head ∷ lines) = let one = plain_shorter head in let more = kept_total lines in omega (arith, one, more)

-- ---- printed lines

split_lines : (lines : List (List (List ℕ))) → AllByRecursion IsPlain lines → slice_split (λ byte. byte == 10) (flat_map line_text lines) ≡ map joined lines ++ [] ∷ []
split_lines [] all = refl
split_lines (line ∷ lines) all =
    ap (slice_split (λ byte. byte == 10)) (append_assoc (joined line) (10 ∷ []) (flat_map line_text lines))
    ∙ (split_mark 10 (joined line) (flat_map line_text lines) all.0.free
    ∙ ap (λ (ls : List (List ℕ)). joined line ∷ ls) (split_lines lines all.1))

printed_text_lines : (lines : List (List (List ℕ))) → AllByRecursion IsPlain lines → text_lines (flat_map line_text lines) ≡ map joined lines
unfolding text_lines parts_of
printed_text_lines lines all = ap whole_lines (split_lines lines all) ∙ whole_last (map joined lines)

printed_length : (lines : List (List (List ℕ))) → length (flat_map line_text lines) ≡ total (map joined lines)
unfolding total
printed_length [] = refl
printed_length (line ∷ lines) =
    let more = printed_length lines in
    omega (arith, more, length-append (joined line ++ 10 ∷ []) (flat_map line_text lines), length-append (joined line) (10 ∷ []))

behind_again : (lines : List (List (List ℕ))) → AllByRecursion IsPlain lines → AllByRecursion IsKept lines → kept_behind (map joined lines) ≡ lines
unfolding kept_behind
behind_again [] all kept = refl
behind_again (line ∷ lines) all kept = rw (all.0.again, kept.0.is, behind_again lines all.1 kept.1) refl

from_again : (lines : List (List ℕ)) → AllByRecursion IsCleanLine lines → kept_from (map joined (kept_from lines)) ≡ kept_from lines
unfolding kept_from
from_again [] clean = refl
from_again (head ∷ lines) clean =
    rw ((words_plain head clean.0).again, behind_again (kept_behind lines) (kept_plain lines clean.1) (all_kept lines)) refl

clean_again : (lines : List (List (List ℕ))) → AllByRecursion IsPlain lines → AllByRecursion IsCleanLine (map joined lines)
clean_again [] all = tt
clean_again (line ∷ lines) all = (all.0.clean, clean_again lines all.1)

-- ---- the printed form

printed_is : (text : List ℕ) (script : Script) → Spells text script → printed script ≡ flat_map line_text (kept_lines text)
unfolding printed
printed_is text script spells = ap (flat_map line_text) (sym spells.lines)

-- the printed form spells the script, where it is short enough
pub printed_spells : (text : List ℕ) (script : Script) → Spells text script → length (printed script) ≤ 1048576 → Spells (printed script) script
printed_spells text script spells short =
    let plain = from_plain (text_lines text) spells.clean in
    let lines : text_lines (printed script) ≡ map joined (kept_lines text) = ap text_lines (printed_is text script spells) ∙ printed_text_lines (kept_lines text) plain in
    record {
      short = short;
      clean = subst (AllByRecursion IsCleanLine) (sym lines) (clean_again (kept_lines text) plain);
      lines = ap kept_from lines ∙ (from_again (text_lines text) spells.clean ∙ spells.lines);
      script_is = spells.script_is;
    }

-- how long the printed form is
pub printed_total : (text : List ℕ) (script : Script) → Spells text script → length (printed script) ≤ total (text_lines text)
printed_total text script spells =
    let e : length (printed script) ≡ total (map joined (kept_lines text)) = ap length (printed_is text script spells) ∙ printed_length (kept_lines text) in
    let low = from_total (text_lines text) in omega (arith, e, low)

-- a printed form past the limit comes from a text of just that length
pub longer_whole : (text : List ℕ) (script : Script) → Spells text script → 1048576 < length (printed script) → length text ≡ 1048576
longer_whole text script spells long =
    let low = printed_total text script spells in let high = text_total text in let short = spells.short in omega (arith, low, high, short)

-- and not from one with a last line feed
pub longer_open : (text : List ℕ) (script : Script) (front : List ℕ) → Spells text script → 1048576 < length (printed script) → text ≢ front ++ 10 ∷ []
longer_open text script front spells long = λ is.
    let P : List ℕ → Type 0 = λ t. total (text_lines t) ≤ length t in
    let low = printed_total text script spells in
    let high : total (text_lines text) ≤ length text = subst P (sym is) (ended_total front) in
    let short = spells.short in omega (arith, low, high, short)
