-- Walks along the lines of two texts.
use Rattle.std.proofs.Common.{◌≡◌, ◌≢◌, ◌∙◌, sym, ap, refl, arith, ℕ, ◌+◌, ◌<◌, Bool, true, false, cond, eqb, get_or, length-append, ◌||◌, ◌&&◌, List, [], ◌∷◌, ◌++◌, length, Option, Some, None, inl, inr, ◌⊎◌}
use Rattle.std.specs.Prelude.{All, bytes_eq}
use Rattle.std.proofs.lemmas.List.{append_cancel_left}
use Rattle.std.proofs.lemmas.List.Elements.{All-push}
use Rattle.std.proofs.lemmas.Slice.Eq.{bytes_eq-Decides}
use Rattle.std.specs.Option.{option_copied}
use denote.Ref.{Bor}
use Rattle.tk_model.specs.TextLines.{text_lines}
use Rattle.trace_compare.specs.Differences.{Difference, difference_of, first_difference}
use Rattle.trace_compare.specs.Comparisons.{IsDecided}
use Rattle.trace_compare.specs.Walks.{IsWalk, difference_behind, first_of}
use Rattle.trace_compare.specs.declared.walk.Walk.{Walk}
use Rattle.trace_compare.proofs.LineLaws.{line_closed, line_unfed, none_left, one_left}

-- a last line is compared as if its line feed came
pub walk_closed : (walk : Walk) → IsWalk walk → walk.differs ≡ false → 0 < length walk.line.items → difference_behind walk (10 ∷ []) ≡ difference_behind walk []
walk_closed walk fair going some = rw going (line_closed walk.number walk.line.items walk.left.now fair.open_line some)

-- both texts have ended
pub walk_ended : (walk : Walk) (have : Option (Bor (List ℕ))) → walk.differs ≡ false → walk.line.items ≡ [] → have ≡ None
    → option_copied have ≡ first_of (text_lines walk.left.now) → difference_behind walk [] ≡ None
walk_ended walk have going begun none first =
    rw (going, begun) (none_left walk.number (text_lines walk.left.now) (sym (ap option_copied none) ∙ first))

-- the given text has a line that the other hasn't
pub walk_left : (walk : Walk) (have : Option (Bor (List ℕ))) (one : Bor (List ℕ)) → walk.differs ≡ false → walk.line.items ≡ [] → have ≡ Some one
    → option_copied have ≡ first_of (text_lines walk.left.now) → difference_behind walk [] ≡ Some (record { line = walk.number; want = None; have = option_copied have })
walk_left walk have one going begun some first =
    let left : option_copied have ≡ Some one.now = ap option_copied some in
    rw (going, begun, left) (one_left walk.number one.now (text_lines walk.left.now) (sym left ∙ first))

-- a whole line that differs decides whatever follows
pub walk_decided : (walk : Walk) (taken given : List ℕ) → ((more : List ℕ) → difference_of (taken ++ more) given ≡ difference_behind walk more) → walk.differs ≡ true
    → IsDecided taken given
walk_decided walk taken given same differs =
    (record { line = walk.number; want = Some walk.line.items; have = first_of (text_lines walk.left.now) }, λ more. same more ∙ rw differs refl)

-- two lines that go on differently
apart : (line : List ℕ) → line ++ 11 ∷ [] ≢ line ++ 12 ∷ []
apart line e =
    let same : 11 ∷ [] ≡ 12 ∷ [] = append_cancel_left line (11 ∷ []) (12 ∷ []) e in
    absurd (omega (arith, ap (λ (l : List ℕ). get_or l 0 0) same))

clear_behind : (line : List ℕ) (byte : ℕ) → eqb byte 10 ≡ false → All (λ byte. eqb byte 10 ≡ false) line → All (λ byte. eqb byte 10 ≡ false) (line ++ byte ∷ [])
clear_behind line byte other clear = All-push (λ byte. eqb byte 10 ≡ false) line byte clear other

longer : (line : List ℕ) (byte : ℕ) → 0 < length (line ++ byte ∷ [])
longer line byte = simp length-append (omega arith)

-- a line alone
alone_is : (number : ℕ) (line : List ℕ) (byte : ℕ) (lines : List (List ℕ)) (found : Difference) → eqb byte 10 ≡ false → All (λ byte. eqb byte 10 ≡ false) line
    → first_difference number (text_lines (line ++ byte ∷ [])) lines ≡ Some found → first_difference number ((line ++ byte ∷ []) ∷ []) lines ≡ Some found
alone_is number line byte lines found other clear e =
    ap (λ (ls : List (List ℕ)). first_difference number ls lines) (sym (line_unfed (line ++ byte ∷ []) (clear_behind line byte other clear) (longer line byte))) ∙ e

later_is : (number : ℕ) (lines : List (List ℕ)) (found : Difference) → first_difference number [] lines ≡ Some found → found.line ≡ number
unfolding first_difference
later_is number [] found e = absurd (cc)
later_is number (have ∷ haves) found e =
    let made : Difference = record { line = number; want = None; have = Some have } in
    let same : made ≡ found = cc in ap (λ (d : Difference). d.line) (sym same)

made_at : (number : ℕ) (line : List ℕ) (have : Option (List ℕ)) (found : Difference) → Some (record { line = number; want = Some line; have = have }) ≡ Some found
    → (found.line ≡ number) × (found.want ≡ Some line)
made_at number line have found e =
    let made : Difference = record { line = number; want = Some line; have = have } in
    let same : made ≡ found = cc in (ap (λ (d : Difference). d.line) (sym same), ap (λ (d : Difference). d.want) (sym same))

-- one difference can't be that of two lines at one place
not_both : (a b : Bool) (number : ℕ) (one other have : List ℕ) (lines : List (List ℕ)) (found : Difference) → one ≢ other → bytes_eq one have ≡ a → bytes_eq other have ≡ b
    → cond a (first_difference (number + 1) [] lines) (Some (record { line = number; want = Some one; have = Some have })) ≡ Some found
    → cond b (first_difference (number + 1) [] lines) (Some (record { line = number; want = Some other; have = Some have })) ≡ Some found → ⊥
not_both true true number one other have lines found apart first second e f =
    apart ((bytes_eq-Decides one have).0 first ∙ sym ((bytes_eq-Decides other have).0 second))
not_both true false number one other have lines found apart first second e f =
    omega (arith, later_is (number + 1) lines found e, (made_at number other (Some have) found f).0)
not_both false true number one other have lines found apart first second e f =
    omega (arith, later_is (number + 1) lines found f, (made_at number one (Some have) found e).0)
not_both false false number one other have lines found apart first second e f =
    let wants : Some one ≡ Some other = sym (made_at number one (Some have) found e).1 ∙ (made_at number other (Some have) found f).1 in
    let same : one ≡ other = cc in apart same

never_both : (number : ℕ) (one other : List ℕ) (lines : List (List ℕ)) (found : Difference) → one ≢ other → first_difference number (one ∷ []) lines ≡ Some found
    → first_difference number (other ∷ []) lines ≡ Some found → ⊥
unfolding first_difference
never_both number one other [] found apart e f =
    let wants : Some one ≡ Some other = sym (made_at number one None found e).1 ∙ (made_at number other None found f).1 in
    let same : one ≡ other = cc in apart same
never_both number one other (have ∷ lines) found apart e f =
    not_both (bytes_eq one have) (bytes_eq other have) number one other have lines found apart refl refl e f

-- and else nothing is decided, since the line can go on in two ways
undecided : (walk : Walk) (taken given : List ℕ) → IsWalk walk → ((more : List ℕ) → difference_of (taken ++ more) given ≡ difference_behind walk more) → walk.differs ≡ false
    → IsDecided taken given → ⊥
undecided walk taken given fair same going decided =
    let first : first_difference walk.number (text_lines (walk.line.items ++ 11 ∷ [])) (text_lines walk.left.now) ≡ Some decided.0 =
    rw going at (sym (same (11 ∷ [])) ∙ decided.1 (11 ∷ [])) in
    let second : first_difference walk.number (text_lines (walk.line.items ++ 12 ∷ [])) (text_lines walk.left.now) ≡ Some decided.0 =
    rw going at (sym (same (12 ∷ [])) ∙ decided.1 (12 ∷ [])) in
    never_both walk.number (walk.line.items ++ 11 ∷ []) (walk.line.items ++ 12 ∷ []) (text_lines walk.left.now) decided.0 (apart walk.line.items)
    (alone_is walk.number walk.line.items 11 (text_lines walk.left.now) decided.0 refl fair.open_line first)
    (alone_is walk.number walk.line.items 12 (text_lines walk.left.now) decided.0 refl fair.open_line second)

pub decided_walk : (walk : Walk) (taken given : List ℕ) → IsWalk walk → ((more : List ℕ) → difference_of (taken ++ more) given ≡ difference_behind walk more) → IsDecided taken given
    → walk.differs ≡ true
decided_walk walk taken given fair same decided =
    elim walk.differs as (λ b. walk.differs ≡ b → b ≡ true) [ true ↦ λ e. refl | false ↦ λ e. absurd (undecided walk taken given fair same e decided) ] refl

-- what is over takes no byte
pub never_over : (short stops differs : Bool) → (short || (stops && differs)) ≡ false → short ≡ true ⊎ (stops ≡ true) × (differs ≡ true) → ⊥
never_over true stops differs e over = absurd (cc)
never_over false true true e over = absurd (cc)
never_over false true false e (inl h) = absurd (cc)
never_over false true false e (inr h) = let d = h.1 in absurd (cc)
never_over false false differs e (inl h) = absurd (cc)
never_over false false differs e (inr h) = let d = h.0 in absurd (cc)

-- why no more is taken
pub why_over : (short stops differs : Bool) → (short || (stops && differs)) ≡ true → (short ≡ true) ⊎ ((stops ≡ true) × (differs ≡ true))
why_over true stops differs e = inl refl
why_over false true true e = inr (refl, refl)
why_over false true false e = absurd (cc)
why_over false false differs e = absurd (cc)
