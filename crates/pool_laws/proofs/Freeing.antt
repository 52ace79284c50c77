-- Blocks of a variable pool that are given back.
use Rattle.std.proofs.Common.{◌≡◌, ℕ, ◌+◌, ◌≤◌, ◌<◌, ◌⊎◌, inl, inr, Bool, true, false, not, cond, List, [], ◌∷◌, ◌++◌, Some, refl, ◌∙◌, ap, subst, arith}
use Rattle.std.specs.Prelude.{nat_le, nat_lt, filter}
use Rattle.std.specs.Bool.{◌==◌}
use Rattle.std.proofs.lemmas.Bool.Decides.{nat_tests}
use Rattle.object_model.specs.declared.pools.Block.{Block}
use Rattle.object_model.specs.Pools.Variable.{end_of, place_from, insert_block}
use Rattle.object_model.specs.Pools.Tables.{VariablePool}
use Rattle.pool_laws.specs.Blocks.{LieBetween, LieApart}
use Rattle.pool_laws.proofs.Placing.{chosen_cases, placed}

-- blocks that lie between two bounds lie between wider ones
widened : (less start end : ℕ) (blocks : List Block) → LieBetween start end blocks → less ≤ start → LieBetween less end blocks
widened less start end [] lie below = omega (arith, lie, below)
widened less start end (block ∷ blocks) lie below = let first : start ≤ block.offset = lie.0 in (omega (arith, first, below), lie.1, lie.2)

kept_if : (start end : ℕ) (block : Block) (blocks : List Block) (test : Bool) → start ≤ block.offset → 0 < block.size → LieBetween (end_of block) end blocks → LieBetween start end (cond test (block ∷ blocks) blocks)
kept_if start end block blocks true first some lie = (first, some, lie)
kept_if start end block blocks false first some lie = widened start (end_of block) end blocks lie (omega (arith, first, some))

-- what a test leaves of the blocks lies as they lay
pub left_lie : (start end : ℕ) (stays : Block → Bool) (blocks : List Block) → LieBetween start end blocks → LieBetween start end (filter stays blocks)
left_lie start end stays [] lie = lie
left_lie start end stays (block ∷ blocks) lie = kept_if start end block (filter stays blocks) (stays block) lie.0 lie.1 (left_lie (end_of block) end stays blocks lie.2)

keeps_first : {A : Type 0} → (test : Bool) (x : A) (xs : List A) → test ≡ true → cond test (x ∷ xs) xs ≡ x ∷ xs
keeps_first true x xs is = refl
keeps_first false x xs is = absurd (cc is)

drops_first : {A : Type 0} → (test : Bool) (x : A) (xs : List A) → test ≡ false → cond test (x ∷ xs) xs ≡ xs
drops_first true x xs is = absurd (cc is)
drops_first false x xs is = refl

-- blocks behind a place have other offsets
none_before : (start end offset : ℕ) (blocks : List Block) → LieBetween start end blocks → offset < start → filter (λ (b : Block). not (b.offset == offset)) blocks ≡ blocks
none_before start end offset [] lie before = refl
none_before start end offset (block ∷ blocks) lie before =
    let first : start ≤ block.offset = lie.0 in
    let test : (block.offset == offset) ≡ false = grind (arith, nat_tests, first, before) in
    keeps_first (not (block.offset == offset)) block (filter (λ (b : Block). not (b.offset == offset)) blocks) (ap not test)
    ∙ ap (λ rest. block ∷ rest) (none_before (end_of block) end offset blocks lie.2 (omega (arith, first, before)))

-- what lies at a place of its own
behind_first : (start end : ℕ) (front : List Block) (block : Block) (behind : List Block) → LieBetween start end (front ++ block ∷ behind) → start ≤ block.offset
behind_first start end [] block behind lie = lie.0
behind_first start end (first ∷ front) block behind lie =
    let here : start ≤ first.offset = lie.0 in
    let there : end_of first ≤ block.offset = behind_first (end_of first) end front block behind lie.2 in
    omega (arith, here, there)

-- taking out by its offset takes that block alone
pub one_out : (start end : ℕ) (front : List Block) (block : Block) (behind : List Block) → LieBetween start end (front ++ block ∷ behind)
    → filter (λ (b : Block). not (b.offset == block.offset)) (front ++ block ∷ behind) ≡ front ++ behind
one_out start end [] block behind lie =
    let itself : (block.offset == block.offset) ≡ true = grind (arith, nat_tests) in
    let size : 0 < block.size = lie.1 in
    drops_first (not (block.offset == block.offset)) block (filter (λ (b : Block). not (b.offset == block.offset)) behind) (ap not itself)
    ∙ none_before (end_of block) end block.offset behind lie.2 (omega (arith, size))
one_out start end (first ∷ front) block behind lie =
    let there : end_of first ≤ block.offset = behind_first (end_of first) end front block behind lie.2 in
    let size : 0 < first.size = lie.1 in
    let test : (first.offset == block.offset) ≡ false = grind (arith, nat_tests, there, size) in
    keeps_first (not (first.offset == block.offset)) first (filter (λ (b : Block). not (b.offset == block.offset)) (front ++ block ∷ behind)) (ap not test)
    ∙ ap (λ rest. first ∷ rest) (one_out (end_of first) end front block behind lie.2)

-- a block that joined and is taken out again leaves the blocks as they were
back_if : (start end n offset : ℕ) (block : Block) (blocks : List Block) → LieBetween start end (block ∷ blocks) → 0 < n
    → ((nat_le (start + n) block.offset ≡ true) × (start ≡ offset)) ⊎ ((nat_le (start + n) block.offset ≡ false) × (place_from (end_of block) end n blocks ≡ Some offset))
    → (place_from (end_of block) end n blocks ≡ Some offset → filter (λ (b : Block). not (b.offset == offset)) (insert_block (record { offset = offset; size = n }) blocks) ≡ blocks)
    → filter (λ (b : Block). not (b.offset == offset)) (insert_block (record { offset = offset; size = n }) (block ∷ blocks)) ≡ block ∷ blocks
back_if start end n offset block blocks lie some (inl here) later =
    let same : start ≡ offset = here.1 in
    let fits : start + n ≤ block.offset = grind (arith, nat_tests, here.0) in
    let test : nat_lt offset block.offset ≡ true = grind (arith, nat_tests, same, fits, some) in
    rw test (one_out offset end [] (record { offset = offset; size = n }) (block ∷ blocks) (omega arith, some, (omega (arith, same, fits), lie.1, lie.2)))
back_if start end n offset block blocks lie some (inr there) later =
    let behind : end_of block ≤ offset = (placed (end_of block) end n offset blocks lie.2 there.1).0 in
    let size : 0 < block.size = lie.1 in
    let test : nat_lt offset block.offset ≡ false = grind (arith, nat_tests, behind, size) in
    let other : (block.offset == offset) ≡ false = grind (arith, nat_tests, behind, size) in
    rw test (keeps_first (not (block.offset == offset)) block (filter (λ (b : Block). not (b.offset == offset)) (insert_block (record { offset = offset; size = n }) blocks)) (ap not other)
    ∙ ap (λ rest. block ∷ rest) (later there.1))

pub back_again : (start end n offset : ℕ) (blocks : List Block) → LieBetween start end blocks → 0 < n → place_from start end n blocks ≡ Some offset
    → filter (λ (b : Block). not (b.offset == offset)) (insert_block (record { offset = offset; size = n }) blocks) ≡ blocks
back_again start end n offset [] lie some is = drops_first (not (offset == offset)) (record { offset = offset; size = n }) [] (let itself : (offset == offset) ≡ true = grind (arith, nat_tests) in ap not itself)
back_again start end n offset (block ∷ blocks) lie some is =
    back_if start end n offset block blocks lie some (chosen_cases (nat_le (start + n) block.offset) start offset (place_from (end_of block) end n blocks) is)
    (back_again (end_of block) end n offset blocks lie.2 some)

-- the same of a pool
pub pool_one_out : (k : VariablePool) (front behind : List Block) (block : Block) → LieApart k → k.blocks ≡ front ++ block ∷ behind
    → filter (λ (b : Block). not (b.offset == block.offset)) k.blocks ≡ front ++ behind
pool_one_out k front behind block lie is =
    ap (filter (λ (b : Block). not (b.offset == block.offset))) is ∙ one_out 0 k.size front block behind (subst (LieBetween 0 k.size) is lie)
