-- What a difference says of two texts.
use Rattle.std.specs.Prelude.{◌↔◌, bytes_eq, slice_get}
use Rattle.std.specs.List.{slice_split, onto_first}
use Rattle.std.proofs.Common.{◌≡◌, ◌≢◌, ◌∙◌, sym, ap, subst, refl, arith, ℕ, zero, suc, ◌+◌, Bool, true, false, cond, List, [], ◌∷◌, ◌++◌, take, Option, Some, None, append_assoc, append-nil}
use Rattle.std.proofs.lemmas.Slice.Eq.{bytes_eq-Decides}
use Rattle.tk_model.specs.TextLines.{text_lines, whole_lines}
use Rattle.tk_model.specs.Words.{parts_of}
use Rattle.trace_compare.specs.Differences.{Difference, DiffersBehind, IsFound, difference_of, first_difference}
use Rattle.trace_compare.proofs.LineLaws.{is_feed, some_part}

-- ---- lines that are the same

is_false : (b : Bool) → (b ≡ true → ⊥) → b ≡ false
is_false true h = absurd (h refl)
is_false false h = refl

equal : (want have : List ℕ) → bytes_eq want have ≡ true → want ≡ have
equal want have e = (bytes_eq-Decides want have).0 e

itself : (line : List ℕ) → bytes_eq line line ≡ true
itself line = (bytes_eq-Decides line line).1 refl

unequal : (want have : List ℕ) → want ≢ have → bytes_eq want have ≡ false
unequal want have apart = is_false (bytes_eq want have) (λ e. apart (equal want have e))

same_at : (b : Bool) (want have : List ℕ) (wants haves : List (List ℕ)) (later : Option Difference) (found : Difference) → bytes_eq want have ≡ b
    → cond b later (Some found) ≡ None → (later ≡ None → wants ≡ haves) → want ∷ wants ≡ have ∷ haves
same_at true want have wants haves later found is e same =
    let first : want ≡ have = equal want have is in
    let rest : wants ≡ haves = same e in cc
same_at false want have wants haves later found is e same = absurd (cc)

pub none_same : (number : ℕ) (wants haves : List (List ℕ)) → first_difference number wants haves ≡ None → wants ≡ haves
unfolding first_difference
none_same number [] [] e = refl
none_same number [] (have ∷ haves) e = absurd (cc)
none_same number (want ∷ wants) [] e = absurd (cc)
none_same number (want ∷ wants) (have ∷ haves) e =
    same_at (bytes_eq want have) want have wants haves (first_difference (number + 1) wants haves) (record { line = number; want = Some want; have = Some have }) refl e
    (λ later. none_same (number + 1) wants haves later)

pub same_none : (number : ℕ) (lines : List (List ℕ)) → first_difference number lines lines ≡ None
unfolding first_difference
same_none number [] = refl
same_none number (line ∷ lines) = rw (itself line) (same_none (number + 1) lines)

-- no difference is that the lines are the same
pub no_difference : (written given : List ℕ) → (difference_of written given ≡ None) ↔ (text_lines written ≡ text_lines given)
no_difference written given = (
  none_same 1 (text_lines written) (text_lines given),
  λ same. subst (λ (lines : List (List ℕ)). first_difference 1 (text_lines written) lines ≡ None) same (same_none 1 (text_lines written)),
)

-- ---- the place of a difference

made_is : (number : ℕ) (want have : Option (List ℕ)) (found : Difference) → found.line ≡ number → found.want ≡ want → found.have ≡ have
    → Some (record { line = number; want = want; have = have }) ≡ Some found
made_is number want have found line is has = rw (← line, ← is, ← has) refl

here : (number : ℕ) (want have : Option (List ℕ)) (found : Difference) (wants haves : List (List ℕ)) → slice_get wants 0 ≡ want → slice_get haves 0 ≡ have → want ≢ have
    → Some (record { line = number; want = want; have = have }) ≡ Some found → IsFound number found wants haves
here number want have found wants haves first second apart e =
    let made : Difference = record { line = number; want = want; have = have } in
    let same : made ≡ found = cc in
    subst (λ (d : Difference). IsFound number d wants haves) same (record {
      before = 0;
      line = omega arith;
      behind = record { same = refl; want = sym first; have = sym second; apart = apart };
    })

there : (number : ℕ) (want have : List ℕ) (wants haves : List (List ℕ)) (found : Difference) → want ≡ have → IsFound (number + 1) found wants haves
    → IsFound number found (want ∷ wants) (have ∷ haves)
there number want have wants haves found same later =
    let rest = later.behind.same in
    let front : want ∷ take later.before wants ≡ have ∷ take later.before haves = cc in
    record {
      before = suc later.before;
      line = omega (arith, later.line);
      behind = record { same = front; want = later.behind.want; have = later.behind.have; apart = later.behind.apart };
    }

found_in : (b : Bool) (number : ℕ) (want have : List ℕ) (wants haves : List (List ℕ)) (later : Option Difference) (found : Difference) → bytes_eq want have ≡ b
    → cond b later (Some (record { line = number; want = Some want; have = Some have })) ≡ Some found → (later ≡ Some found → IsFound (number + 1) found wants haves)
    → IsFound number found (want ∷ wants) (have ∷ haves)
found_in true number want have wants haves later found is e rest = there number want have wants haves found (equal want have is) (rest e)
found_in false number want have wants haves later found is e rest =
    here number (Some want) (Some have) found (want ∷ wants) (have ∷ haves) refl refl (λ h. let same : want ≡ have = cc in let yes = (bytes_eq-Decides want have).1 same in absurd (cc)) e

found_of : (number : ℕ) (wants haves : List (List ℕ)) (found : Difference) → first_difference number wants haves ≡ Some found → IsFound number found wants haves
unfolding first_difference
found_of number [] [] found e = absurd (cc)
found_of number [] (have ∷ haves) found e = here number None (Some have) found [] (have ∷ haves) refl refl (λ h. absurd (cc)) e
found_of number (want ∷ wants) [] found e = here number (Some want) None found (want ∷ wants) [] refl refl (λ h. absurd (cc)) e
found_of number (want ∷ wants) (have ∷ haves) found e =
    found_in (bytes_eq want have) number want have wants haves (first_difference (number + 1) wants haves) found refl e
    (λ later. found_of (number + 1) wants haves found later)

of_found : (number before : ℕ) (wants haves : List (List ℕ)) (found : Difference) → found.line ≡ before + number → DiffersBehind before found wants haves
    → first_difference number wants haves ≡ Some found
unfolding first_difference
of_found number before [] [] found line at = absurd (at.apart (at.want ∙ sym at.have))
of_found number zero [] (have ∷ haves) found line at = made_is number None (Some have) found (omega (arith, line)) at.want at.have
of_found number (suc before) [] (have ∷ haves) found line at = let same = at.same in absurd (cc)
of_found number zero (want ∷ wants) [] found line at = made_is number (Some want) None found (omega (arith, line)) at.want at.have
of_found number (suc before) (want ∷ wants) [] found line at = let same = at.same in absurd (cc)
of_found number zero (want ∷ wants) (have ∷ haves) found line at =
    let apart : want ≢ have = λ (same : want ≡ have). at.apart (at.want ∙ (ap (λ (l : List ℕ). let o : Option (List ℕ) = Some l in o) same ∙ sym at.have)) in
    rw (unequal want have apart) (made_is number (Some want) (Some have) found (omega (arith, line)) at.want at.have)
of_found number (suc before) (want ∷ wants) (have ∷ haves) found line at =
    let same = at.same in
    let first : want ≡ have = cc in
    let rest : take before wants ≡ take before haves = cc in
    let yes : bytes_eq want have ≡ true = (bytes_eq-Decides want have).1 first in
    rw yes (of_found (number + 1) before wants haves found (omega (arith, line)) (record { same = rest; want = at.want; have = at.have; apart = at.apart }))

-- a difference is the first place at which the lines aren't the same
pub difference_is : (written given : List ℕ) (found : Difference) → (difference_of written given ≡ Some found) ↔ IsFound 1 found (text_lines written) (text_lines given)
difference_is written given found = (
  found_of 1 (text_lines written) (text_lines given) found,
  λ is. of_found 1 is.before (text_lines written) (text_lines given) found is.line is.behind,
)

-- ---- a whole line decides

onto_more : (byte : ℕ) (parts more : List (List ℕ)) → parts ≢ [] → onto_first byte (parts ++ more) ≡ onto_first byte parts ++ more
onto_more byte [] more some = absurd (some refl)
onto_more byte (part ∷ parts) more some = refl

feed_splits : (front more : List ℕ) → slice_split is_feed (front ++ 10 ∷ more) ≡ slice_split is_feed front ++ slice_split is_feed more
feed_splits [] more = refl
feed_splits (byte ∷ front) more =
    rw (feed_splits front more)
    (elim (is_feed byte) as (λ b. cond b ([] ∷ (slice_split is_feed front ++ slice_split is_feed more)) (onto_first byte (slice_split is_feed front ++ slice_split is_feed more))
    ≡ cond b ([] ∷ slice_split is_feed front) (onto_first byte (slice_split is_feed front)) ++ slice_split is_feed more)
    [ true ↦ refl | false ↦ onto_more byte (slice_split is_feed front) (slice_split is_feed more) (some_part front) ])

whole_behind : (before parts : List (List ℕ)) → parts ≢ [] → whole_lines (before ++ parts) ≡ before ++ whole_lines parts
unfolding whole_lines
whole_behind [] parts some = refl
whole_behind (line ∷ []) [] some = absurd (some refl)
whole_behind (line ∷ []) (part ∷ parts) some = refl
whole_behind (line ∷ next ∷ before) parts some = ap (λ (lines : List (List ℕ)). line ∷ lines) (whole_behind (next ∷ before) parts some)

lines_fed : (front more : List ℕ) → text_lines (front ++ 10 ∷ more) ≡ slice_split is_feed front ++ text_lines more
unfolding text_lines parts_of
lines_fed front more = ap whole_lines (feed_splits front more) ∙ whole_behind (slice_split is_feed front) (slice_split is_feed more) (some_part more)

-- behind a line feed the lines of what follows come
pub lines_behind_feed : (front more : List ℕ) → text_lines ((front ++ 10 ∷ []) ++ more) ≡ text_lines (front ++ 10 ∷ []) ++ text_lines more
unfolding text_lines whole_lines parts_of
lines_behind_feed front more =
    ap text_lines (append_assoc front (10 ∷ []) more) ∙ lines_fed front more
    ∙ ap (λ (lines : List (List ℕ)). lines ++ text_lines more) (sym (lines_fed front [] ∙ append-nil (slice_split is_feed front)))

more_at : (b : Bool) (found other : Difference) (later more : Option Difference) → cond b later (Some other) ≡ Some found → (later ≡ Some found → more ≡ Some found)
    → cond b more (Some other) ≡ Some found
more_at true found other later more e step = step e
more_at false found other later more e step = e

decides : (number : ℕ) (wants haves more : List (List ℕ)) (found : Difference) (line : List ℕ) → first_difference number wants haves ≡ Some found → found.want ≡ Some line
    → first_difference number (wants ++ more) haves ≡ Some found
unfolding first_difference
decides number [] [] more found line e some = absurd (cc)
decides number [] (have ∷ haves) more found line e some =
    let made : Difference = record { line = number; want = None; have = Some have } in
    let same : made ≡ found = cc in
    let none : made.want ≡ found.want = ap (λ (d : Difference). d.want) same in absurd (cc)
decides number (want ∷ wants) [] more found line e some = e
decides number (want ∷ wants) (have ∷ haves) more found line e some =
    more_at (bytes_eq want have) found (record { line = number; want = Some want; have = Some have }) (first_difference (number + 1) wants haves) (first_difference (number + 1) (wants ++ more) haves) e
    (λ later. decides (number + 1) wants haves more found line later some)

-- where a line that was written whole differs, the texts differ so whatever follows
pub whole_line_decides : (front given more line : List ℕ) (found : Difference) → difference_of (front ++ 10 ∷ []) given ≡ Some found → found.want ≡ Some line
    → difference_of ((front ++ 10 ∷ []) ++ more) given ≡ Some found
whole_line_decides front given more line found e some =
    ap (λ (lines : List (List ℕ)). first_difference 1 lines (text_lines given)) (lines_behind_feed front more)
    ∙ decides 1 (text_lines (front ++ 10 ∷ [])) (text_lines given) (text_lines more) found line e some
