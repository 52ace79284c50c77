-- The gaps of a variable pool: with its live blocks they cover it, and the largest is the most that fits.
use Rattle.std.proofs.Common.{◌≡◌, ℕ, zero, suc, ◌+◌, ◌-◌, ◌≤◌, ◌⊎◌, inl, inr, Bool, true, false, cond, List, [], ◌∷◌, Option, Some, None, refl, arith}
use Rattle.std.specs.Prelude.{nat_le, max, fold, sum}
use Rattle.std.specs.Option.{is_some}
use Rattle.std.proofs.lemmas.Bool.Decides.{nat_tests}
use Rattle.std.proofs.Math.Nat.{le-max_left, le-max_right, max-eq_left, max-eq_right}
use Rattle.object_model.specs.declared.pools.Block.{Block}
use Rattle.object_model.specs.Pools.Tables.{VariablePool}
use Rattle.object_model.specs.Pools.Variable.{end_of, place_from, place_in, live_bytes, gaps_from, free_bytes, largest_gap}
use Rattle.pool_laws.specs.Blocks.{LieBetween, LieApart}
use Rattle.std.proofs.lemmas.List.Sums.{sum_by-cons}

-- ---- gaps and blocks together

covered : (start end : ℕ) (blocks : List Block) → LieBetween start end blocks → start + sum (gaps_from start end blocks) + live_bytes blocks ≡ end
covered start end [] lie = let last = sum_by-cons (λ n. n) (end - start) [] in omega (arith, lie, last)
covered start end (block ∷ blocks) lie =
    let rest : end_of block + sum (gaps_from (end_of block) end blocks) + live_bytes blocks ≡ end = covered (end_of block) end blocks lie.2 in
    let first : start ≤ block.offset = lie.0 in
    let gaps : sum (gaps_from start end (block ∷ blocks)) ≡ (block.offset - start) + sum (gaps_from (end_of block) end blocks) = sum_by-cons (λ n. n) (block.offset - start) (gaps_from (end_of block) end blocks) in
    let sizes : live_bytes (block ∷ blocks) ≡ block.size + live_bytes blocks = sum_by-cons (λ (b : Block). b.size) block blocks in
    omega (arith, first, rest, gaps, sizes)

pub pool_covered : (k : VariablePool) → LieApart k → sum (gaps_from 0 k.size k.blocks) + live_bytes k.blocks ≡ k.size
pool_covered k lie = let all : 0 + sum (gaps_from 0 k.size k.blocks) + live_bytes k.blocks ≡ k.size = covered 0 k.size k.blocks lie in omega (arith, all)

pub pool_free : (k : VariablePool) → LieApart k → free_bytes k ≡ sum (gaps_from 0 k.size k.blocks)
pool_free k lie = let all = pool_covered k lie in omega (arith, all)

-- ---- the largest gap

either_if : (a b n : ℕ) (test : Bool) → nat_le a b ≡ test → n ≤ max a b → (n ≤ a) ⊎ (n ≤ b)
either_if a b n true is below = let low : a ≤ b = grind (arith, nat_tests, is) in inr (rw (max-eq_right low) at below)
either_if a b n false is below =
    let full : a ≤ b → ⊥ = λ low. grind (arith, nat_tests, is, low) in
    let high : b ≤ a = omega (arith, full) in inl (rw (max-eq_left high) at below)

either_max : (a b n : ℕ) → n ≤ max a b → (n ≤ a) ⊎ (n ≤ b)
either_max a b n below = either_if a b n (nat_le a b) refl below

some_first : (test : Bool) (x : ℕ) (rest : Option ℕ) → test ≡ true → is_some (cond test (Some x) rest) ≡ true
some_first true x rest is = refl
some_first false x rest is = absurd (cc is)

some_later : (test : Bool) (x : ℕ) (rest : Option ℕ) → is_some rest ≡ true → is_some (cond test (Some x) rest) ≡ true
some_later true x rest is = refl
some_later false x rest is = is

-- what is no more than the largest of a number and the gaps is no more than that number, or fits into a gap
fits_or : (start end n most : ℕ) (blocks : List Block) → LieBetween start end blocks → n ≤ fold max most (gaps_from start end blocks) → (n ≤ most) ⊎ (is_some (place_from start end n blocks) ≡ true)
fits_or start end n most [] lie below = elim (either_max most (end - start) n below) [
  | inl low ↦ inl low
  | inr fits ↦ inr (some_first (nat_le (start + n) end) start None (let inside : start + n ≤ end = omega (arith, lie, fits) in grind (arith, nat_tests, inside)))
]
fits_or start end n most (block ∷ blocks) lie below = elim (fits_or (end_of block) end n (max most (block.offset - start)) blocks lie.2 below) [
  | inl low ↦ elim (either_max most (block.offset - start) n low) [
    | inl less ↦ inl less
    | inr fits ↦ inr (some_first (nat_le (start + n) block.offset) start (place_from (end_of block) end n blocks) (let first : start ≤ block.offset = lie.0 in let inside : start + n ≤ block.offset = omega (arith, first, fits) in grind (arith, nat_tests, inside)))
  ]
  | inr later ↦ inr (some_later (nat_le (start + n) block.offset) start (place_from (end_of block) end n blocks) later)
]

-- the largest of a number and of others is no less than the number
max_grows : (most : ℕ) (xs : List ℕ) → most ≤ fold max most xs
max_grows most [] = omega arith
max_grows most (x ∷ xs) = let rest : max most x ≤ fold max (max most x) xs = max_grows (max most x) xs in let first : most ≤ max most x = le-max_left most x in omega (arith, rest, first)

some_cases : (test : Bool) (x : ℕ) (rest : Option ℕ) → is_some (cond test (Some x) rest) ≡ true → (test ≡ true) ⊎ (is_some rest ≡ true)
some_cases true x rest is = inl refl
some_cases false x rest is = inr is

none_there : is_some {T = ℕ} None ≡ true → ⊥
none_there is = absurd (cc is)

-- and what fits into a gap is no more than the largest
fits_below : (start end n most : ℕ) (blocks : List Block) → is_some (place_from start end n blocks) ≡ true → n ≤ fold max most (gaps_from start end blocks)
fits_below start end n most [] fits = elim (some_cases (nat_le (start + n) end) start None fits) [
  | inl here ↦ (let inside : start + n ≤ end = grind (arith, nat_tests, here) in let last : end - start ≤ max most (end - start) = le-max_right most (end - start) in omega (arith, inside, last))
  | inr nothing ↦ absurd (none_there nothing)
]
fits_below start end n most (block ∷ blocks) fits = elim (some_cases (nat_le (start + n) block.offset) start (place_from (end_of block) end n blocks) fits) [
  | inl here ↦ (let inside : start + n ≤ block.offset = grind (arith, nat_tests, here) in
      let first : block.offset - start ≤ max most (block.offset - start) = le-max_right most (block.offset - start) in
      let rest : max most (block.offset - start) ≤ fold max (max most (block.offset - start)) (gaps_from (end_of block) end blocks) = max_grows (max most (block.offset - start)) (gaps_from (end_of block) end blocks) in
      omega (arith, inside, first, rest))
  | inr later ↦ fits_below (end_of block) end n (max most (block.offset - start)) blocks later
]

zero_fits : (start end : ℕ) (blocks : List Block) → LieBetween start end blocks → is_some (place_from start end 0 blocks) ≡ true
zero_fits start end [] lie = some_first (nat_le (start + 0) end) start None (grind (arith, nat_tests, lie))
zero_fits start end (block ∷ blocks) lie = let first : start ≤ block.offset = lie.0 in some_first (nat_le (start + 0) block.offset) start (place_from (end_of block) end 0 blocks) (grind (arith, nat_tests, first))

zero_or : (k : VariablePool) (n : ℕ) → LieApart k → (n ≤ 0) ⊎ (is_some (place_in k n) ≡ true) → is_some (place_in k n) ≡ true
zero_or k zero lie (inl none) = zero_fits 0 k.size k.blocks lie
zero_or k (suc n) lie (inl none) = absurd (omega (arith, none))
zero_or k n lie (inr fits) = fits

pub largest_fits : (k : VariablePool) (n : ℕ) → LieApart k → n ≤ largest_gap k → is_some (place_in k n) ≡ true
largest_fits k n lie below = zero_or k n lie (fits_or 0 k.size n 0 k.blocks lie below)

pub fits_largest : (k : VariablePool) (n : ℕ) → is_some (place_in k n) ≡ true → n ≤ largest_gap k
fits_largest k n fits = fits_below 0 k.size n 0 k.blocks fits
