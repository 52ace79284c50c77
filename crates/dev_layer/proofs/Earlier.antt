-- The first that passes one of two tests is the earlier of the first that pass each.
use Rattle.std.proofs.Common.{◌≡◌, ℕ, ◌+◌, ◌<◌, length, Bool, true, false, cond, List, [], ◌∷◌, Option, Some, None, refl, ap, sym, ◌∙◌, arith}
use Rattle.std.specs.Bool.{◌==◌}
use Rattle.std.specs.List.{find, position, position_or_len}
use Rattle.std.specs.Prelude.{filter, nat_le, nat_lt, slice_get, unwrap_or, ◌||◌, ◌&&◌, if◌then◌else◌}
use Rattle.std.proofs.lemmas.Bool.Decides.{nat_tests}

abbrev pub place_in : List ℕ → ℕ → ℕ
place_in xs t = unwrap_or (position (λ other. other == t) xs) 0

abbrev pub earlier_in : List ℕ → Option ℕ → Option ℕ → Option ℕ
earlier_in xs None other = other
earlier_in xs (Some one) None = Some one
earlier_in xs (Some one) (Some other) = if nat_le (place_in xs one) (place_in xs other) then Some one else Some other

-- the first of those that pass is the first that passes
head_if : (p : ℕ → Bool) (x : ℕ) (xs : List ℕ) (b : Bool) → p x ≡ b → slice_get (filter p xs) 0 ≡ find p xs → slice_get (filter p (x ∷ xs)) 0 ≡ find p (x ∷ xs)
head_if p x xs true is rest = rw is refl
head_if p x xs false is rest = rw is rest

pub head_found : (p : ℕ → Bool) (xs : List ℕ) → slice_get (filter p xs) 0 ≡ find p xs
head_found p [] = refl
head_found p (x ∷ xs) = head_if p x xs (p x) refl (head_found p xs)

within_if : (p q : ℕ → Bool) (x : ℕ) (xs : List ℕ) (a b : Bool) → p x ≡ a → q x ≡ b → find q (filter p xs) ≡ find (λ t. p t && q t) xs → find q (filter p (x ∷ xs)) ≡ find (λ t. p t && q t) (x ∷ xs)
within_if p q x xs true true one other rest = rw (one, other) refl
within_if p q x xs true false one other rest = rw (one, other) rest
within_if p q x xs false b one other rest = rw one rest

-- the first that passes another test besides
pub found_within : (p q : ℕ → Bool) (xs : List ℕ) → find q (filter p xs) ≡ find (λ t. p t && q t) xs
found_within p q [] = refl
found_within p q (x ∷ xs) = within_if p q x xs (p x) (q x) refl refl (found_within p q xs)

passes_if : (p : ℕ → Bool) (x a : ℕ) (xs : List ℕ) (b : Bool) → p x ≡ b → (find p xs ≡ Some a → p a ≡ true) → cond b (Some x) (find p xs) ≡ Some a → p a ≡ true
passes_if p x a xs true is rest found = let same : x ≡ a = cc found in ap p (sym same) ∙ is
passes_if p x a xs false is rest found = rest found

pub found_passes : (p : ℕ → Bool) (xs : List ℕ) (a : ℕ) → find p xs ≡ Some a → p a ≡ true
found_passes p [] a found = absurd (cc found)
found_passes p (x ∷ xs) a found = passes_if p x a xs (p x) refl (found_passes p xs a) found

abbrev pol : ℕ → List ℕ → ℕ
pol t xs = position_or_len (λ other. other == t) xs

pol_here : (x t : ℕ) (xs : List ℕ) → (x == t) ≡ true → pol t (x ∷ xs) ≡ 0
pol_here x t xs is = rw is refl

pol_later : (x t : ℕ) (xs : List ℕ) → (x == t) ≡ false → pol t (x ∷ xs) ≡ 1 + pol t xs
pol_later x t xs is = rw is refl

inside_if : (p : ℕ → Bool) (x a : ℕ) (xs : List ℕ) (b c : Bool) → p x ≡ b → (x == a) ≡ c → (find p xs ≡ Some a → pol a xs < length xs) → cond b (Some x) (find p xs) ≡ Some a → pol a (x ∷ xs) < length (x ∷ xs)
inside_if p x a xs b true is same rest found = let none : pol a (x ∷ xs) ≡ 0 = pol_here x a xs same in omega (arith, none)
inside_if p x a xs true false is same rest found = let here : x ≡ a = cc found in absurd (grind (arith, nat_tests, same, here))
inside_if p x a xs false false is same rest found =
    let more : pol a (x ∷ xs) ≡ 1 + pol a xs = pol_later x a xs same in
    let inside : pol a xs < length xs = rest found in
    omega (arith, more, inside)

-- what is found stands there
found_inside : (p : ℕ → Bool) (xs : List ℕ) (a : ℕ) → find p xs ≡ Some a → pol a xs < length xs
found_inside p [] a found = absurd (cc found)
found_inside p (x ∷ xs) a found = inside_if p x a xs (p x) (x == a) refl refl (found_inside p xs a) found

place_if : (a b : ℕ) (t : Bool) → nat_lt a b ≡ t → a < b → unwrap_or (cond t (Some a) None) 0 ≡ a
place_if a b true is less = refl
place_if a b false is less = absurd (grind (arith, nat_tests, is, less))

place_is : (p : ℕ → Bool) (xs : List ℕ) (a : ℕ) → find p xs ≡ Some a → place_in xs a ≡ pol a xs
place_is p xs a found = place_if (pol a xs) (length xs) (nat_lt (pol a xs) (length xs)) refl (found_inside p xs a found)

abbrev first_of_two : List ℕ → Option ℕ → Option ℕ → Option ℕ
first_of_two xs None other = other
first_of_two xs (Some one) None = Some one
first_of_two xs (Some one) (Some other) = if nat_le (pol one xs) (pol other xs) then Some one else Some other

apart_by : (p : ℕ → Bool) (x a : ℕ) (xs : List ℕ) → p x ≡ false → find p xs ≡ Some a → (x == a) ≡ false
apart_by p x a xs fails found =
    let passes : p a ≡ true = found_passes p xs a found in
    test_of x a (x == a) refl (λ same. absurd (cc (fails, passes, ap p same)))
  where
    test_of : (n m : ℕ) (b : Bool) → (n == m) ≡ b → (n ≡ m → ⊥) → (n == m) ≡ false
    test_of n m true is apart = absurd (apart (grind (arith, nat_tests, is)))
    test_of n m false is apart = is

one_here : (x : ℕ) (xs : List ℕ) (other : Option ℕ) → first_of_two (x ∷ xs) (Some x) other ≡ Some x
one_here x xs None = refl
one_here x xs (Some b) =
    let itself : (x == x) ≡ true = grind (arith, nat_tests) in
    let none : pol x (x ∷ xs) ≡ 0 = pol_here x x xs itself in
    let test : nat_le (pol x (x ∷ xs)) (pol b (x ∷ xs)) ≡ true = grind (arith, nat_tests, none) in
    rw test refl

other_here : (p : ℕ → Bool) (x : ℕ) (xs : List ℕ) (one : Option ℕ) → p x ≡ false → find p xs ≡ one → first_of_two (x ∷ xs) one (Some x) ≡ Some x
other_here p x xs None fails found = refl
other_here p x xs (Some a) fails found =
    let itself : (x == x) ≡ true = grind (arith, nat_tests) in
    let none : pol x (x ∷ xs) ≡ 0 = pol_here x x xs itself in
    let more : pol a (x ∷ xs) ≡ 1 + pol a xs = pol_later x a xs (apart_by p x a xs fails found) in
    let test : nat_le (pol a (x ∷ xs)) (pol x (x ∷ xs)) ≡ false = grind (arith, nat_tests, none, more) in
    rw test refl

both_later : (p q : ℕ → Bool) (x : ℕ) (xs : List ℕ) (one other : Option ℕ) → p x ≡ false → q x ≡ false → find p xs ≡ one → find q xs ≡ other → first_of_two xs one other ≡ first_of_two (x ∷ xs) one other
both_later p q x xs None other fails fails_too found found_too = refl
both_later p q x xs (Some a) None fails fails_too found found_too = refl
both_later p q x xs (Some a) (Some b) fails fails_too found found_too =
    let one : pol a (x ∷ xs) ≡ 1 + pol a xs = pol_later x a xs (apart_by p x a xs fails found) in
    let two : pol b (x ∷ xs) ≡ 1 + pol b xs = pol_later x b xs (apart_by q x b xs fails_too found_too) in
    let same : nat_le (pol a (x ∷ xs)) (pol b (x ∷ xs)) ≡ nat_le (pol a xs) (pol b xs) = grind (arith, nat_tests, one, two) in
    ap (λ (t : Bool). cond t (Some a) (Some b)) (sym same)

merge_if : (p q : ℕ → Bool) (x : ℕ) (xs : List ℕ) (a b : Bool) → p x ≡ a → q x ≡ b → find (λ t. p t || q t) xs ≡ first_of_two xs (find p xs) (find q xs) →
    find (λ t. p t || q t) (x ∷ xs) ≡ first_of_two (x ∷ xs) (cond a (Some x) (find p xs)) (cond b (Some x) (find q xs))
merge_if p q x xs true b one other rest = rw one (sym (one_here x xs (cond b (Some x) (find q xs))))
merge_if p q x xs false true one other rest = rw (one, other) (sym (other_here p x xs (find p xs) one refl))
merge_if p q x xs false false one other rest = rw (one, other) (rest ∙ both_later p q x xs (find p xs) (find q xs) one other refl refl)

merged : (p q : ℕ → Bool) (xs : List ℕ) → find (λ t. p t || q t) xs ≡ first_of_two xs (find p xs) (find q xs)
merged p q [] = refl
merged p q (x ∷ xs) = merge_if p q x xs (p x) (q x) refl refl (merged p q xs)

places_same : (p q : ℕ → Bool) (xs : List ℕ) (one other : Option ℕ) → find p xs ≡ one → find q xs ≡ other → first_of_two xs one other ≡ earlier_in xs one other
places_same p q xs None other found found_too = refl
places_same p q xs (Some a) None found found_too = refl
places_same p q xs (Some a) (Some b) found found_too =
    ap (λ (n : ℕ). if nat_le n (pol b xs) then Some a else Some b) (sym (place_is p xs a found))
    ∙ ap (λ (n : ℕ). if nat_le (place_in xs a) n then Some a else Some b) (sym (place_is q xs b found_too))

-- the first that passes either test is the earlier of the two firsts
pub first_of_either : (p q : ℕ → Bool) (xs : List ℕ) → find (λ t. p t || q t) xs ≡ earlier_in xs (find p xs) (find q xs)
first_of_either p q xs = merged p q xs ∙ places_same p q xs (find p xs) (find q xs) refl refl
