-- Fixed pools: the least block that isn't out, and what is out after a block was taken or given back.
use Rattle.std.proofs.Common.{◌≡◌, ℕ, zero, suc, ◌+◌, ◌<◌, ◌⊎◌, inl, inr, Bool, true, false, not, cond, List, [], ◌∷◌, length, drop, refl, ◌∙◌, ap, sym, arith}
use Rattle.std.specs.Prelude.{filter, slice_set}
use Rattle.std.specs.List.{slice_index_or}
use Rattle.object_model.specs.Pools.Tables.{FixedPool}
use Rattle.object_model.specs.Pools.Fixed.{first_free, free_block, free_blocks, is_out}

-- what first_free gives is 0 where all are out, or the number of a block that isn't, behind those that are
AreOut : List Bool → Type 0
AreOut blocks = (place : ℕ) → place < length blocks → slice_index_or blocks place false ≡ true

record IsFirst (from number : ℕ) (blocks : List Bool) : Type 0 where
  place : ℕ
  inside : place < length blocks
  numbered : number ≡ from + place
  free : slice_index_or blocks place false ≡ false
  before : (other : ℕ) → other < place → slice_index_or blocks other false ≡ true

out_behind : (place : ℕ) (blocks : List Bool) → AreOut blocks → place < suc (length blocks) → slice_index_or (true ∷ blocks) place false ≡ true
unfolding AreOut
out_behind zero blocks all below = refl
out_behind (suc place) blocks all below = all place (omega (arith, below))

out_before : (other place : ℕ) (blocks : List Bool) → ((other : ℕ) → other < place → slice_index_or blocks other false ≡ true) → other < suc place → slice_index_or (true ∷ blocks) other false ≡ true
out_before zero place blocks all below = refl
out_before (suc other) place blocks all below = all other (omega (arith, below))

found : (from : ℕ) (blocks : List Bool) → (0 < from) → ((first_free from blocks ≡ 0) × AreOut blocks) ⊎ IsFirst from (first_free from blocks) blocks
unfolding first_free AreOut
found from [] some = inl (refl, λ place below. absurd (omega (arith, below)))
found from (false ∷ blocks) some = inr (record { place = 0; inside = omega arith; numbered = omega arith; free = refl; before = λ other below. absurd (omega (arith, below)) })
found from (true ∷ blocks) some = elim (found (from + 1) blocks (omega (arith, some))) [
  | inl none ↦ inl (none.0, λ place below. out_behind place blocks none.1 below)
  | inr first ↦ inr (record { place = suc first.place; inside = (let below = first.inside in omega (arith, below)); numbered = (let is = first.numbered in omega (arith, is)); free = first.free; before = λ other below. out_before other first.place blocks first.before below })
]

-- the place of 0 stands before the blocks
behind_zero : (out : List Bool) (place : ℕ) → slice_index_or (drop 1 out) place false ≡ slice_index_or out (suc place) false
behind_zero [] place = refl
behind_zero (zeroth ∷ blocks) place = refl

one_less : (out : List Bool) (place : ℕ) → place < length (drop 1 out) → suc place < length out
one_less [] place below = absurd (omega (arith, below))
one_less (zeroth ∷ blocks) place below = omega (arith, below)

set_there : (out : List Bool) (number : ℕ) (b : Bool) → number < length out → slice_index_or (slice_set out number b) number false ≡ b
set_there [] number b below = absurd (omega (arith, below))
set_there (x ∷ xs) zero b below = refl
set_there (x ∷ xs) (suc number) b below = set_there xs number b (omega (arith, below))

set_elsewhere : (out : List Bool) (number other : ℕ) (b : Bool) → (other ≡ number → ⊥) → slice_index_or (slice_set out number b) other false ≡ slice_index_or out other false
set_elsewhere [] number other b apart = refl
set_elsewhere (x ∷ xs) zero zero b apart = absurd (apart refl)
set_elsewhere (x ∷ xs) zero (suc other) b apart = refl
set_elsewhere (x ∷ xs) (suc number) zero b apart = refl
set_elsewhere (x ∷ xs) (suc number) (suc other) b apart = set_elsewhere xs number other b (λ e. apart (ap (λ n. suc n) e))

one_longer_of : (b x : Bool) (xs ys : List Bool) → length xs + 1 ≡ length ys → length (cond b (x ∷ xs) xs) + 1 ≡ length (cond b (x ∷ ys) ys)
one_longer_of true x xs ys is = omega (arith, is)
one_longer_of false x xs ys is = is

count_first : (x : Bool) (xs : List Bool) → x ≡ false → length xs + 1 ≡ length (cond (not x) (x ∷ xs) xs)
count_first true xs is = absurd (cc is)
count_first false xs is = omega arith

-- a block that wasn't out and is taken leaves one free block fewer
one_fewer : (blocks : List Bool) (place : ℕ) → place < length blocks → slice_index_or blocks place false ≡ false → length (filter not (slice_set blocks place true)) + 1 ≡ length (filter not blocks)
one_fewer [] place below free = absurd (omega (arith, below))
one_fewer (x ∷ xs) zero below free = count_first x (filter not xs) free
one_fewer (x ∷ xs) (suc place) below free = one_longer_of (not x) x (filter not (slice_set xs place true)) (filter not xs) (one_fewer xs place (omega (arith, below)) free)

fewer_behind : (out : List Bool) (number : ℕ) → suc number < length out → slice_index_or out (suc number) false ≡ false → length (filter not (drop 1 (slice_set out (suc number) true))) + 1 ≡ length (filter not (drop 1 out))
fewer_behind [] number below free = absurd (omega (arith, below))
fewer_behind (zeroth ∷ blocks) number below free = one_fewer blocks number (omega (arith, below)) free

-- ---- of a pool

behind_less : (out : List Bool) (place : ℕ) → suc place < length out → place < length (drop 1 out)
behind_less [] place below = absurd (omega (arith, below))
behind_less (zeroth ∷ blocks) place below = omega (arith, below)

all_out : (k : FixedPool) (number : ℕ) → ((free_block k ≡ 0) × AreOut (drop 1 k.out)) ⊎ IsFirst 1 (free_block k) (drop 1 k.out) → free_block k ≡ 0 → suc number < length k.out → is_out (suc number) k ≡ true
unfolding AreOut
all_out k number (inl none) is below = sym (behind_zero k.out number) ∙ none.1 number (behind_less k.out number below)
all_out k number (inr first) is below = absurd (let numbered = first.numbered in omega (arith, numbered, is))

-- where no block is free each is out
pub none_free : (k : FixedPool) (number : ℕ) → free_block k ≡ 0 → suc number < length k.out → is_out (suc number) k ≡ true
none_free k number is below = all_out k number (found 1 (drop 1 k.out) (omega arith)) is below

first_number : (k : FixedPool) (before : ℕ) → ((free_block k ≡ 0) × AreOut (drop 1 k.out)) ⊎ IsFirst 1 (free_block k) (drop 1 k.out) → free_block k ≡ suc before
    → (suc before < length k.out) × (is_out (suc before) k ≡ false) × ((other : ℕ) → other < before → is_out (suc other) k ≡ true)
first_number k before (inl none) is = absurd (let zeroth = none.0 in omega (arith, zeroth, is))
first_number k before (inr first) is =
    let numbered = first.numbered in
    let same : first.place ≡ before = omega (arith, numbered, is) in
    let inside : before < length (drop 1 k.out) = rw same at first.inside in
    let free : slice_index_or (drop 1 k.out) before false ≡ false = rw same at first.free in
    (one_less k.out before inside, sym (behind_zero k.out before) ∙ free, λ other below. sym (behind_zero k.out other) ∙ first.before other (omega (arith, same, below)))

-- and the number that is found is one of the pool's, its block isn't out, and each of a lesser number is
pub least_free : (k : FixedPool) (before : ℕ) → free_block k ≡ suc before → (suc before < length k.out) × (is_out (suc before) k ≡ false) × ((other : ℕ) → other < before → is_out (suc other) k ≡ true)
least_free k before is = first_number k before (found 1 (drop 1 k.out) (omega arith)) is

abbrev pub taken : FixedPool → ℕ → FixedPool
taken k number = record k { out = slice_set k.out number true }

pub taken_out : (k : FixedPool) (before : ℕ) → free_block k ≡ suc before → is_out (suc before) (taken k (suc before)) ≡ true
taken_out k before is = set_there k.out (suc before) true (least_free k before is).0

pub others_stay : (k : FixedPool) (number other : ℕ) (b : Bool) → (other ≡ number → ⊥) → is_out other (record k { out = slice_set k.out number b }) ≡ is_out other k
others_stay k number other b apart = set_elsewhere k.out number other b apart

pub taken_fewer : (k : FixedPool) (before : ℕ) → free_block k ≡ suc before → free_blocks (taken k (suc before)) + 1 ≡ free_blocks k
taken_fewer k before is = fewer_behind k.out before (least_free k before is).0 (least_free k before is).1

-- a block that was free, is taken, and is given back: all is as it was
set_back : (out : List Bool) (number : ℕ) → number < length out → slice_index_or out number false ≡ false → slice_set (slice_set out number true) number false ≡ out
set_back [] number below free = absurd (omega (arith, below))
set_back (x ∷ xs) zero below free = ap (λ b. b ∷ xs) (sym free)
set_back (x ∷ xs) (suc number) below free = ap (λ rest. x ∷ rest) (set_back xs number (omega (arith, below)) free)

pub back_free : (k : FixedPool) (before : ℕ) → free_block k ≡ suc before → slice_set (slice_set k.out (suc before) true) (suc before) false ≡ k.out
back_free k before is = let first = least_free k before is in set_back k.out (suc before) first.0 first.1
