-- Lists in which each number stands once at most: parts of them, and how long they are.
use Rattle.std.proofs.Common.{◌≡◌, ℕ, zero, suc, ◌+◌, ◌≤◌, ◌<◌, Bool, true, false, not, cond, List, [], ◌∷◌, ◌++◌, length, refl, arith, subst}
use Rattle.std.specs.Bool.{◌==◌}
use Rattle.std.proofs.lemmas.Bool.Decides.{nat_tests}
use Rattle.std.specs.Prelude.{filter}
use Rattle.kernel_model.specs.Words.Orders.{without, to_back}
use Rattle.kernel_model.specs.LawWords.Once.{times, IsOnce, AreBelow}

pub times_append : (n : ℕ) (xs ys : List ℕ) → times n (xs ++ ys) ≡ times n xs + times n ys
times_append n [] ys = omega arith
times_append n (x ∷ xs) ys = let rest = times_append n xs ys in omega arith

-- what a test leaves of a list
times_filter_if : (p : ℕ → Bool) (n x : ℕ) (b : Bool) (kept xs : List ℕ) → times n kept ≤ times n xs → times n (cond b (x ∷ kept) kept) ≤ cond (x == n) 1 0 + times n xs
times_filter_if p n x true kept xs below = omega arith
times_filter_if p n x false kept xs below = omega arith

pub times_filter : (p : ℕ → Bool) (n : ℕ) (xs : List ℕ) → times n (filter p xs) ≤ times n xs
times_filter p n [] = omega arith
times_filter p n (x ∷ xs) = times_filter_if p n x (p x) (filter p xs) xs (times_filter p n xs)

-- an ID that was taken out stands nowhere
gone_if : (n x : ℕ) (b : Bool) (kept : List ℕ) → (x == n) ≡ b → times n kept ≡ 0 → times n (cond (not b) (x ∷ kept) kept) ≡ 0
gone_if n x true kept is none = none
gone_if n x false kept is none = rw is (omega arith)

pub times_without : (n : ℕ) (xs : List ℕ) → times n (without n xs) ≡ 0
times_without n [] = refl
times_without n (x ∷ xs) = gone_if n x (x == n) (without n xs) refl (times_without n xs)

one_if : (n x : ℕ) (b : Bool) → (x == n) ≡ b → cond b 1 0 ≤ 1
one_if n x true is = omega arith
one_if n x false is = omega arith

pub once_filter : (p : ℕ → Bool) (xs : List ℕ) → IsOnce xs → IsOnce (filter p xs)
once_filter p xs once = λ n. let fewer = times_filter p n xs in let one = once n in omega arith

pub once_drop : (x : ℕ) (xs : List ℕ) → IsOnce (x ∷ xs) → IsOnce xs
once_drop x xs once = λ n. let one = once n in omega arith

back_if : (n id : ℕ) (xs : List ℕ) (b : Bool) → (id == n) ≡ b → times id xs ≡ 0 → times n xs ≤ 1 → times n xs + (cond (id == n) 1 0 + 0) ≤ 1
back_if n id xs true is none one = let same : id ≡ n = grind (arith, nat_tests, is) in let zero_there : times n xs ≡ 0 = subst (λ (m : ℕ). times m xs ≡ 0) same none in rw is (omega arith)
back_if n id xs false is none one = rw is (omega arith)

-- an ID that stands nowhere may be put behind
pub once_behind : (id : ℕ) (xs : List ℕ) → times id xs ≡ 0 → IsOnce xs → IsOnce (xs ++ id ∷ [])
once_behind id xs none once = λ n. rw (times_append n xs (id ∷ [])) (back_if n id xs (id == n) refl none (once n))

pub once_back : (id : ℕ) (xs : List ℕ) → IsOnce xs → IsOnce (to_back id xs)
once_back id xs once = once_behind id (without id xs) (times_without id xs) (once_filter _ xs once)

length_if : (n x : ℕ) (b : Bool) (kept xs : List ℕ) → (x == n) ≡ b → length xs ≡ length kept + times n xs → suc (length xs) ≡ length (cond (not b) (x ∷ kept) kept) + (cond b 1 0 + times n xs)
length_if n x true kept xs is rest = omega arith
length_if n x false kept xs is rest = omega arith

length_without : (n : ℕ) (xs : List ℕ) → length xs ≡ length (without n xs) + times n xs
length_without n [] = refl
length_without n (x ∷ xs) = length_if n x (x == n) (without n xs) xs refl (length_without n xs)

below_if : (limit x : ℕ) (b : Bool) (kept : List ℕ) → (x == limit) ≡ b → x < suc limit → AreBelow limit kept → AreBelow limit (cond (not b) (x ∷ kept) kept)
below_if limit x true kept is below rest = rest
below_if limit x false kept is below rest = (grind (arith, nat_tests, is, below), rest)

below_without : (limit : ℕ) (xs : List ℕ) → AreBelow (suc limit) xs → AreBelow limit (without limit xs)
below_without limit [] below = tt
below_without limit (x ∷ xs) below = below_if limit x (x == limit) (without limit xs) refl below.0 (below_without limit xs below.1)

none_below : (xs : List ℕ) → AreBelow zero xs → length xs ≤ zero
none_below [] below = omega arith
none_below (x ∷ xs) below = let first = below.0 in omega arith

-- numbers below a limit, each once at most, are no more than the limit
pub few_below : (limit : ℕ) (xs : List ℕ) → AreBelow limit xs → IsOnce xs → length xs ≤ limit
few_below zero xs below once = none_below xs below
few_below (suc limit) xs below once =
    let fewer : length (without limit xs) ≤ limit = few_below limit (without limit xs) (below_without limit xs below) (once_filter _ xs once) in
    let whole = length_without limit xs in
    let one = once limit in
    omega arith

fresh_if : (n id : ℕ) (xs : List ℕ) (b : Bool) → (id == n) ≡ b → times id xs ≡ 0 → times n xs ≤ 1 → cond b 1 0 + times n xs ≤ 1
fresh_if n id xs true is none one = let same : id ≡ n = grind (arith, nat_tests, is) in let zero_there : times n xs ≡ 0 = subst (λ (m : ℕ). times m xs ≡ 0) same none in omega arith
fresh_if n id xs false is none one = omega arith

-- where one number below the limit doesn't stand, there is room for it
pub room_below : (limit id : ℕ) (xs : List ℕ) → id < limit → AreBelow limit xs → IsOnce xs → times id xs ≡ 0 → length xs < limit
room_below limit id xs low below once none =
    let more : length (id ∷ xs) ≤ limit = few_below limit (id ∷ xs) (low, below) (λ n. fresh_if n id xs (id == n) refl none (once n)) in
    omega arith

below_kept : (limit x : ℕ) (b : Bool) (kept : List ℕ) → x < limit → AreBelow limit kept → AreBelow limit (cond b (x ∷ kept) kept)
below_kept limit x true kept below rest = (below, rest)
below_kept limit x false kept below rest = rest

pub below_filter : (limit : ℕ) (p : ℕ → Bool) (xs : List ℕ) → AreBelow limit xs → AreBelow limit (filter p xs)
below_filter limit p [] below = tt
below_filter limit p (x ∷ xs) below = below_kept limit x (p x) (filter p xs) below.0 (below_filter limit p xs below.1)
