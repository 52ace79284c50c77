-- The IDs that are taken in a table: each slot that isn't free has its own there, and each stands there once.
use Rattle.std.proofs.Common.{◌≡◌, ℕ, suc, zero, ◌+◌, ◌≤◌, ◌<◌, ◌⊎◌, inl, inr, List, [], ◌∷◌, Option, Some, None, refl, cond, subst, arith, Bool, true, false}
use Rattle.std.specs.Prelude.{drop}
use Rattle.std.specs.Bool.{◌==◌}
use Rattle.std.proofs.lemmas.Bool.Decides.{nat_tests}
use Rattle.kernel_model.specs.LawWords.Once.{times, IsOnce}
use Rattle.kernel_model.specs.Words.Orders.{entry, taken_from}

-- one of these
abbrev pub IsOneOf : ℕ → List ℕ → Type 0
IsOneOf t [] = ⊥
IsOneOf t (first ∷ ids) = (first ≡ t) ⊎ IsOneOf t ids

times_if : (t first : ℕ) (ids : List ℕ) (same : Bool) → (first == t) ≡ same → 1 ≤ cond same 1 0 + times t ids → (1 ≤ times t ids → IsOneOf t ids) → (first ≡ t) ⊎ IsOneOf t ids
times_if t first ids true at stands rest = inl (grind (arith, nat_tests, at))
times_if t first ids false at stands rest = inr (rest (omega (arith, stands)))

-- what stands in a list is one of it
pub one_of : (t : ℕ) (ids : List ℕ) → 1 ≤ times t ids → IsOneOf t ids
one_of t [] stands = absurd (omega (arith, stands))
one_of t (first ∷ ids) stands = times_if t first ids (first == t) refl stands (one_of t ids)

first_times : (t first : ℕ) (same : Bool) → (first == t) ≡ same → first ≡ t → (more : ℕ) → 1 ≤ cond same 1 0 + more
first_times t first true at is more = omega arith
first_times t first false at is more = grind (arith, nat_tests, at, is)

-- and back
pub one_times : (t : ℕ) (ids : List ℕ) → IsOneOf t ids → 1 ≤ times t ids
one_times t [] is = absurd is
one_times t (first ∷ ids) (inl is) = first_times t first (first == t) refl is (times t ids)
one_times t (first ∷ ids) (inr is) = let rest = one_times t ids is in omega (arith, rest)

-- a slot is free, or its ID is one of those that are taken
free_or_taken : {A : Type 0} → (from place : ℕ) (slots : List (Option A)) → (entry slots place ≡ None) ⊎ IsOneOf (from + place) (taken_from from slots)
free_or_taken from place [] = inl refl
free_or_taken from zero (None ∷ slots) = inl refl
free_or_taken from (suc place) (None ∷ slots) = let next : from + 1 + place ≡ from + suc place = omega arith in subst (λ (t : ℕ). (entry slots place ≡ None) ⊎ IsOneOf t (taken_from (from + 1) slots)) next (free_or_taken (from + 1) place slots)
free_or_taken from zero (Some k ∷ slots) = inr (inl (omega arith))
free_or_taken from (suc place) (Some k ∷ slots) = behind (let next : from + 1 + place ≡ from + suc place = omega arith in subst (λ (t : ℕ). (entry slots place ≡ None) ⊎ IsOneOf t (taken_from (from + 1) slots)) next (free_or_taken (from + 1) place slots))
  where
    behind : (entry slots place ≡ None) ⊎ IsOneOf (from + suc place) (taken_from (from + 1) slots) → (entry slots place ≡ None) ⊎ ((from ≡ from + suc place) ⊎ IsOneOf (from + suc place) (taken_from (from + 1) slots))
    behind (inl free) = inl free
    behind (inr taken) = inr (inr taken)

-- a slot from 1 on is free, or its ID is one of those that are taken
pub in_table : {A : Type 0} → (t : ℕ) (slots : List (Option A)) → 1 ≤ t → (entry slots t ≡ None) ⊎ IsOneOf t (taken_from 1 (drop 1 slots))
in_table t [] one = inl refl
in_table zero (slot ∷ slots) one = absurd (omega (arith, one))
in_table (suc place) (slot ∷ slots) one = let next : 1 + place ≡ suc place = omega arith in subst (λ (t : ℕ). (entry slots place ≡ None) ⊎ IsOneOf t (taken_from 1 slots)) next (free_or_taken 1 place slots)

-- ---- each stands there once

later_if : (n from : ℕ) (same : Bool) → (from == n) ≡ same → n < from → ◌≡◌ {A = ℕ} (cond same 1 0) 0
later_if n from true at low = let e : from ≡ n = grind (arith, nat_tests, at) in absurd (omega (arith, low, e))
later_if n from false at low = refl

-- none stands before the first
none_before : {A : Type 0} → (n from : ℕ) (slots : List (Option A)) → n < from → times n (taken_from from slots) ≡ 0
none_before n from [] low = refl
none_before n from (None ∷ slots) low = none_before n (from + 1) slots (omega (arith, low))
none_before n from (Some k ∷ slots) low = let rest = none_before n (from + 1) slots (omega (arith, low)) in let first = later_if n from (from == n) refl low in omega (arith, rest, first)

once_if : (n from : ℕ) (same : Bool) (more : ℕ) → (from == n) ≡ same → (n < from + 1 → more ≡ 0) → more ≤ 1 → cond same 1 0 + more ≤ 1
once_if n from true more at none few = let e : from ≡ n = grind (arith, nat_tests, at) in let zero_more = none (omega (arith, e)) in omega (arith, zero_more)
once_if n from false more at none few = omega (arith, few)

pub taken_once : {A : Type 0} → (from : ℕ) (slots : List (Option A)) → IsOnce (taken_from from slots)
taken_once from [] = λ n. omega arith
taken_once from (None ∷ slots) = taken_once (from + 1) slots
taken_once from (Some k ∷ slots) = λ n. once_if n from (from == n) (times n (taken_from (from + 1) slots)) refl (none_before n (from + 1) slots) (taken_once (from + 1) slots n)
