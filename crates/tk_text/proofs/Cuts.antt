-- The parts between marks, from the place of the first mark.
use Rattle.std.proofs.Common.{◌≡◌, ℕ, ◌+◌, ◌-◌, ◌<◌, ◌≤◌, Bool, true, false, not, cond, eqb, ltb, List, [], ◌∷◌, length, take, drop, Some, None, refl, subst, arith}
use Rattle.std.specs.List.{slice_split, onto_first, position, position_or_len, prefix_len}
use Rattle.std.proofs.lemmas.List.{take_rest}
use Rattle.std.proofs.lemmas.List.Splits.{slice_split_first}
use Rattle.std.proofs.lemmas.Bool.Decides.{Decides-ltb, nat_tests}
use Rattle.tk_text.proofs.Options.{value_chosen, none_chosen}
use Rattle.tk_model.specs.Words.{parts_of}

-- a list without marks is its one part
split_none : (p : ℕ → Bool) (xs : List ℕ) → length xs ≤ position_or_len p xs → slice_split p xs ≡ xs ∷ []
split_none p [] all = refl
split_none p (x ∷ xs) all =
    elim (p x) as (λ t. length (x ∷ xs) ≤ cond (not t) (1 + prefix_len (λ y. not (p y)) xs) 0 → cond t ([] ∷ slice_split p xs) (onto_first x (slice_split p xs)) ≡ (x ∷ xs) ∷ [])
    [ true ↦ λ h. absurd (omega arith) | false ↦ λ h. rw (split_none p xs (omega arith)) refl ] all

ltb_no : (m n : ℕ) → ltb m n ≡ false → n ≤ m
ltb_no m n e = grind (arith, nat_tests)

-- a list with a mark is what lies before it, and the parts behind it
pub parts_at : (mark : ℕ) (bytes : List ℕ) (at : ℕ) → position (λ byte. eqb byte mark) bytes ≡ Some at → parts_of mark bytes ≡ take at bytes ∷ parts_of mark (take (length bytes - (at + 1)) (drop (at + 1) bytes))
unfolding parts_of
parts_at mark bytes at e =
    let p : ℕ → Bool = λ byte. eqb byte mark in
    let c = value_chosen (ltb (position_or_len p bytes) (length bytes)) (position_or_len p bytes) at e in
    let lt : position_or_len p bytes < length bytes = (Decides-ltb (position_or_len p bytes) (length bytes)).0 c.0 in
    rw (take_rest bytes (at + 1))
    (subst (λ (n : ℕ). slice_split p bytes ≡ take n bytes ∷ slice_split p (drop (n + 1) bytes)) c.1 (slice_split_first p bytes 0 lt))

pub parts_alone : (mark : ℕ) (bytes : List ℕ) → position (λ byte. eqb byte mark) bytes ≡ None → parts_of mark bytes ≡ bytes ∷ []
unfolding parts_of
parts_alone mark bytes e =
    let p : ℕ → Bool = λ byte. eqb byte mark in
    let no = none_chosen (ltb (position_or_len p bytes) (length bytes)) (position_or_len p bytes) e in
    split_none p bytes (ltb_no (position_or_len p bytes) (length bytes) no)
