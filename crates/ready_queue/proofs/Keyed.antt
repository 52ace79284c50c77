-- Lists in which each key stands at most once; `of` gives the key of each one.
use Rattle.std.proofs.Common.{◌≡◌, ℕ, zero, suc, ◌<◌, Bool, true, false, not, ◌==◌, eqb, nat_eq, List, [], ◌∷◌, length, cond, map, get_or, refl, sym, ap, ◌∙◌, subst, arith}
use Rattle.std.specs.List.{remove, filter, list_any, position_or_len, IsDistinct, AllByRecursion}
use Rattle.std.proofs.lemmas.Bool.{or_parts, eqb-true}
use Rattle.std.proofs.lemmas.Bool.Decides.{nat_tests}
use Rattle.std.proofs.lemmas.List.Sums.{passes_at_first}
use Rattle.std.proofs.lemmas.List.{get_or_default}
use Rattle.ready_queue.proofs.Found.{found_within}

flipped : (a b : ℕ) → eqb a b ≡ false → (b == a) ≡ false
flipped a b differs = grind (arith, nat_tests)

same_is : (a : ℕ) → (a == a) ≡ true
same_is a = grind (arith, nat_tests)

kept_if : {X : Type 0} (test : Bool) (first : X) (rest : List X) → test ≡ false → cond (not test) (first ∷ rest) rest ≡ first ∷ rest
kept_if false first rest e = refl
kept_if true first rest e = absurd (cc e)

left_out_if : {X : Type 0} (test : Bool) (first : X) (rest : List X) → test ≡ true → cond (not test) (first ∷ rest) rest ≡ rest
left_out_if true first rest e = refl
left_out_if false first rest e = absurd (cc e)

-- a list without a key is left as it is
pub none_left_out : {X : Type 0} (of : X → ℕ) (key : ℕ) (list : List X) → AllByRecursion (λ other. eqb key other ≡ false) (map of list) → list ≡ filter (λ x. not (of x == key)) list
none_left_out of key [] none = refl
none_left_out of key (first ∷ rest) none =
    ap (λ list. first ∷ list) (none_left_out of key rest none.1) ∙ sym (kept_if (of first == key) first (filter (λ x. not (of x == key)) rest) (flipped key (of first) none.0))

-- what holds of each holds of the one at an index
pub all_at : {X Y : Type 0} (of : X → Y) (P : Y → Type 0) (list : List X) (at : ℕ) (x : X) → AllByRecursion P (map of list) → at < length list → x ≡ get_or list at x → P (of x)
all_at of P [] at x all within is = absurd (omega arith)
all_at of P (first ∷ rest) zero x all within is = subst (λ y. P (of y)) (sym is) all.0
all_at of P (first ∷ rest) (suc at) x all within is = all_at of P rest at x all.1 (omega arith) is

-- the one at an index is the only one with its key
pub without_at : {X : Type 0} (of : X → ℕ) (list : List X) (at : ℕ) (x : X) → IsDistinct nat_eq (map of list) → at < length list → x ≡ get_or list at x → remove list at ≡ filter (λ y. not (of y == of x)) list
unfolding IsDistinct
without_at of [] at x once within is = absurd (omega arith)
without_at of (first ∷ rest) zero x once within is =
    subst (λ y. rest ≡ filter (λ z. not (of z == of y)) (first ∷ rest)) (sym is)
    (none_left_out of (of first) rest once.0 ∙ sym (left_out_if (of first == of first) first (filter (λ z. not (of z == of first)) rest) (same_is (of first))))
without_at of (first ∷ rest) (suc at) x once within is =
    ap (λ list. first ∷ list) (without_at of rest at x once.1 (omega arith) is)
    ∙ sym (kept_if (of first == of x) first (filter (λ y. not (of y == of x)) rest) (all_at of (λ other. eqb (of first) other ≡ false) rest at x once.0 (omega arith) is))

-- the one with a key is taken out at the first index that has it
pub taken_out : {X : Type 0} (of : X → ℕ) (key : ℕ) (list : List X) (none : X) → IsDistinct nat_eq (map of list) → list_any (λ x. of x == key) list ≡ true →
    remove list (position_or_len (λ x. of x == key) list) ≡ filter (λ x. not (of x == key)) list
taken_out of key list none once found =
    let at : ℕ = position_or_len (λ x. of x == key) list in
    let within : at < length list = found_within (λ x. of x == key) list found in
    let same : of (get_or list at none) ≡ key = eqb-true (of (get_or list at none)) key (passes_at_first (λ x. of x == key) list none within) in
    subst (λ k. remove list at ≡ filter (λ x. not (of x == k)) list) same (without_at of list at (get_or list at none) once within (get_or_default list at none (get_or list at none) within))

-- ---- filters

kept_step : {X Y : Type 0} (of : X → Y) (P : Y → Type 0) (test : Bool) (first : X) (passed : List X) →
    P (of first) → AllByRecursion P (map of passed) → AllByRecursion P (map of (cond test (first ∷ passed) passed))
kept_step of P true first passed front all = (front, all)
kept_step of P false first passed front all = all

pub all_filter : {X Y : Type 0} (of : X → Y) (P : Y → Type 0) (passes : X → Bool) (list : List X) → AllByRecursion P (map of list) → AllByRecursion P (map of (filter passes list))
all_filter of P passes [] all = tt
all_filter of P passes (first ∷ rest) all = kept_step of P (passes first) first (filter passes rest) all.0 (all_filter of P passes rest all.1)

once_step : {X : Type 0} (of : X → ℕ) (test : Bool) (first : X) (passed : List X) → AllByRecursion (λ other. eqb (of first) other ≡ false) (map of passed) → IsDistinct nat_eq (map of passed) → IsDistinct nat_eq (map of (cond test (first ∷ passed) passed))
unfolding IsDistinct
once_step of true first passed apart once = (apart, once)
once_step of false first passed apart once = once

pub once_filter : {X : Type 0} (of : X → ℕ) (passes : X → Bool) (list : List X) → IsDistinct nat_eq (map of list) → IsDistinct nat_eq (map of (filter passes list))
unfolding IsDistinct
once_filter of passes [] once = tt
once_filter of passes (first ∷ rest) once =
    once_step of (passes first) first (filter passes rest) (all_filter of (λ other. eqb (of first) other ≡ false) passes rest once.0) (once_filter of passes rest once.1)

-- ---- a key that isn't there

turned : (a b : ℕ) → (a == b) ≡ false → eqb b a ≡ false
turned a b differs = grind (arith, nat_tests)

-- it differs from each that is
pub all_differ : {X : Type 0} (of : X → ℕ) (key : ℕ) (list : List X) → list_any (λ x. of x == key) list ≡ false → AllByRecursion (λ other. eqb key other ≡ false) (map of list)
all_differ of key [] outside = tt
all_differ of key (first ∷ rest) outside =
    let parts = or_parts (of first == key) (list_any (λ x. of x == key) rest) outside in
    (turned (of first) key parts.0, all_differ of key rest parts.1)

gone_step : {X : Type 0} (of : X → ℕ) (test : Bool) (key : ℕ) (first : X) (passed : List X) → (of first == key) ≡ test → list_any (λ x. of x == key) passed ≡ false →
    list_any (λ x. of x == key) (cond (not test) (first ∷ passed) passed) ≡ false
gone_step of true key first passed is none = none
gone_step of false key first passed is none = rw is none

-- a key that was taken out is gone
pub gone : {X : Type 0} (of : X → ℕ) (key : ℕ) (list : List X) → list_any (λ x. of x == key) (filter (λ x. not (of x == key)) list) ≡ false
gone of key [] = refl
gone of key (first ∷ rest) = gone_step of (of first == key) key first (filter (λ x. not (of x == key)) rest) refl (gone of key rest)
