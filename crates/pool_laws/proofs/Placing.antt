-- Where a block of a variable pool is placed.
use Rattle.std.proofs.Common.{◌≡◌, ℕ, ◌+◌, ◌≤◌, ◌<◌, ◌⊎◌, inl, inr, Bool, true, false, cond, List, [], ◌∷◌, Option, Some, None, refl, arith}
use Rattle.std.specs.Prelude.{nat_le, nat_lt}
use Rattle.std.proofs.lemmas.Bool.Decides.{nat_tests}
use Rattle.object_model.specs.declared.pools.Block.{Block}
use Rattle.object_model.specs.Pools.Tables.{VariablePool}
use Rattle.object_model.specs.Pools.Variable.{end_of, place_from, place_in, insert_block}
use Rattle.pool_laws.specs.Blocks.{LieBetween, AreApartFrom, Fit, LieApart}

-- a choice that gives something gives its first, or what is left
pub chosen_cases : {A : Type 0} → (test : Bool) (x y : A) (rest : Option A) → cond test (Some x) rest ≡ Some y → ((test ≡ true) × (x ≡ y)) ⊎ ((test ≡ false) × (rest ≡ Some y))
chosen_cases true x y rest is = inl (refl, cc is)
chosen_cases false x y rest is = inr (refl, is)

-- and one that gives nothing gives what is left
pub nothing_chosen : {A : Type 0} → (test : Bool) (x : A) (rest : Option A) → cond test (Some x) rest ≡ None → (test ≡ false) × (rest ≡ None)
nothing_chosen true x rest is = absurd (cc is)
nothing_chosen false x rest is = (refl, is)

none_is_some : {A : Type 0} → (x : A) → None ≡ Some x → ⊥
none_is_some x is = absurd (cc is)

-- blocks that lie behind a place are apart from what ends there
pub behind_apart : (start end offset n : ℕ) (blocks : List Block) → LieBetween start end blocks → offset + n ≤ start → AreApartFrom offset n blocks
behind_apart start end offset n [] lie before = tt
behind_apart start end offset n (block ∷ blocks) lie before =
    let first : start ≤ block.offset = lie.0 in
    (inl (omega (arith, first, before)), behind_apart (end_of block) end offset n blocks lie.2 (omega (arith, first, before)))

-- the end isn't before the start
pub reaches : (start end : ℕ) (blocks : List Block) → LieBetween start end blocks → start ≤ end
reaches start end [] lie = lie
reaches start end (block ∷ blocks) lie =
    let first : start ≤ block.offset = lie.0 in
    let rest : end_of block ≤ end = reaches (end_of block) end blocks lie.2 in
    omega (arith, first, rest)

-- what is placed lies behind the start and before the end, apart from all blocks
placed_if : (start end n offset : ℕ) (block : Block) (blocks : List Block) → LieBetween start end (block ∷ blocks)
    → ((nat_le (start + n) block.offset ≡ true) × (start ≡ offset)) ⊎ ((nat_le (start + n) block.offset ≡ false) × (place_from (end_of block) end n blocks ≡ Some offset))
    → (place_from (end_of block) end n blocks ≡ Some offset → (end_of block ≤ offset) × (offset + n ≤ end) × AreApartFrom offset n blocks)
    → (start ≤ offset) × (offset + n ≤ end) × AreApartFrom offset n (block ∷ blocks)
placed_if start end n offset block blocks lie (inl here) later =
    let fits : start + n ≤ block.offset = grind (arith, nat_tests, here.0) in
    let same : start ≡ offset = here.1 in
    let ends : end_of block ≤ end = reaches (end_of block) end blocks lie.2 in
    (omega (arith, same), omega (arith, same, fits, ends), (inl (omega (arith, same, fits)), behind_apart (end_of block) end offset n blocks lie.2 (omega (arith, same, fits))))
placed_if start end n offset block blocks lie (inr there) later =
    let rest = later there.1 in
    let first : start ≤ block.offset = lie.0 in
    let behind : end_of block ≤ offset = rest.0 in
    (omega (arith, first, behind), rest.1, (inr rest.0, rest.2))

pub placed : (start end n offset : ℕ) (blocks : List Block) → LieBetween start end blocks → place_from start end n blocks ≡ Some offset → (start ≤ offset) × (offset + n ≤ end) × AreApartFrom offset n blocks
placed start end n offset [] lie is = elim (chosen_cases (nat_le (start + n) end) start offset None is) [
  | inl here ↦ (let same : start ≡ offset = here.1 in let fits : start + n ≤ end = grind (arith, nat_tests, here.0) in (omega (arith, same), omega (arith, same, fits), tt))
  | inr there ↦ absurd (none_is_some offset there.1)
]
placed start end n offset (block ∷ blocks) lie is =
    placed_if start end n offset block blocks lie (chosen_cases (nat_le (start + n) block.offset) start offset (place_from (end_of block) end n blocks) is) (placed (end_of block) end n offset blocks lie.2)

-- and no lesser offset would do
least_if : (start end n offset other : ℕ) (block : Block) (blocks : List Block) → LieBetween start end (block ∷ blocks)
    → ((nat_le (start + n) block.offset ≡ true) × (start ≡ offset)) ⊎ ((nat_le (start + n) block.offset ≡ false) × (place_from (end_of block) end n blocks ≡ Some offset))
    → start ≤ other → (other + n ≤ block.offset) ⊎ (end_of block ≤ other)
    → (place_from (end_of block) end n blocks ≡ Some offset → end_of block ≤ other → offset ≤ other)
    → offset ≤ other
least_if start end n offset other block blocks lie (inl here) behind apart later = let same : start ≡ offset = here.1 in omega (arith, same, behind)
least_if start end n offset other block blocks lie (inr there) behind (inl before) later =
    absurd (let full : (start + n ≤ block.offset) → ⊥ = λ fits. grind (arith, nat_tests, there.0, fits) in full (omega (arith, behind, before)))
least_if start end n offset other block blocks lie (inr there) behind (inr after) later = later there.1 after

pub placed_least : (start end n offset other : ℕ) (blocks : List Block) → LieBetween start end blocks → place_from start end n blocks ≡ Some offset → start ≤ other → AreApartFrom other n blocks → offset ≤ other
placed_least start end n offset other [] lie is behind apart = elim (chosen_cases (nat_le (start + n) end) start offset None is) [
  | inl here ↦ (let same : start ≡ offset = here.1 in omega (arith, same, behind))
  | inr there ↦ absurd (none_is_some offset there.1)
]
placed_least start end n offset other (block ∷ blocks) lie is behind apart =
    least_if start end n offset other block blocks lie (chosen_cases (nat_le (start + n) block.offset) start offset (place_from (end_of block) end n blocks) is) behind apart.0
    (λ rest after. placed_least (end_of block) end n offset other blocks lie.2 rest after apart.1)

-- where nothing is placed, nothing would fit
nowhere_if : (start n other : ℕ) (block : Block) → nat_le (start + n) block.offset ≡ false → start ≤ other → (other + n ≤ block.offset) ⊎ (end_of block ≤ other) → end_of block ≤ other
nowhere_if start n other block full behind (inl before) = absurd (let none : (start + n ≤ block.offset) → ⊥ = λ fits. grind (arith, nat_tests, full, fits) in none (omega (arith, behind, before)))
nowhere_if start n other block full behind (inr after) = after

pub placed_nowhere : (start end n other : ℕ) (blocks : List Block) → place_from start end n blocks ≡ None → start ≤ other → other + n ≤ end → AreApartFrom other n blocks → ⊥
placed_nowhere start end n other [] is behind inside apart =
    let full = (nothing_chosen (nat_le (start + n) end) start None is).0 in
    let none : (start + n ≤ end) → ⊥ = λ fits. grind (arith, nat_tests, full, fits) in none (omega (arith, behind, inside))
placed_nowhere start end n other (block ∷ blocks) is behind inside apart =
    let none = nothing_chosen (nat_le (start + n) block.offset) start (place_from (end_of block) end n blocks) is in
    placed_nowhere (end_of block) end n other blocks none.1 (nowhere_if start n other block none.0 behind apart.0) inside apart.1

-- ---- of a pool

pub pool_fits : (k : VariablePool) (n offset : ℕ) → LieApart k → place_in k n ≡ Some offset → Fit k offset n
pool_fits k n offset lie is = let all = placed 0 k.size n offset k.blocks lie is in record { inside = all.1; apart = all.2 }

pub pool_least : (k : VariablePool) (n offset other : ℕ) → LieApart k → place_in k n ≡ Some offset → Fit k other n → offset ≤ other
pool_least k n offset other lie is fit = placed_least 0 k.size n offset other k.blocks lie is (omega arith) fit.apart

pub pool_nowhere : (k : VariablePool) (n other : ℕ) → place_in k n ≡ None → Fit k other n → ⊥
pool_nowhere k n other is fit = placed_nowhere 0 k.size n other k.blocks is (omega arith) fit.inside fit.apart

-- ---- a block joins, and is taken out again

joined_if : (start end n offset : ℕ) (block : Block) (blocks : List Block) → LieBetween start end (block ∷ blocks) → 0 < n
    → ((nat_le (start + n) block.offset ≡ true) × (start ≡ offset)) ⊎ ((nat_le (start + n) block.offset ≡ false) × (place_from (end_of block) end n blocks ≡ Some offset))
    → (place_from (end_of block) end n blocks ≡ Some offset → LieBetween (end_of block) end (insert_block (record { offset = offset; size = n }) blocks))
    → LieBetween start end (insert_block (record { offset = offset; size = n }) (block ∷ blocks))
joined_if start end n offset block blocks lie some (inl here) later =
    let same : start ≡ offset = here.1 in
    let fits : start + n ≤ block.offset = grind (arith, nat_tests, here.0) in
    let test : nat_lt offset block.offset ≡ true = grind (arith, nat_tests, same, fits, some) in
    rw test ((omega (arith, same), some, (omega (arith, same, fits), lie.1, lie.2)))
joined_if start end n offset block blocks lie some (inr there) later =
    let behind : end_of block ≤ offset = (placed (end_of block) end n offset blocks lie.2 there.1).0 in
    let size : 0 < block.size = lie.1 in
    let test : nat_lt offset block.offset ≡ false = grind (arith, nat_tests, behind, size) in
    rw test ((lie.0, lie.1, later there.1))

pub joined : (start end n offset : ℕ) (blocks : List Block) → LieBetween start end blocks → 0 < n → place_from start end n blocks ≡ Some offset → LieBetween start end (insert_block (record { offset = offset; size = n }) blocks)
joined start end n offset [] lie some is = let all = placed start end n offset [] lie is in (all.0, some, all.1)
joined start end n offset (block ∷ blocks) lie some is =
    joined_if start end n offset block blocks lie some (chosen_cases (nat_le (start + n) block.offset) start offset (place_from (end_of block) end n blocks) is)
    (joined (end_of block) end n offset blocks lie.2 some)
