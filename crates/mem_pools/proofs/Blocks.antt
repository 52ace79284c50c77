-- The live blocks of a variable pool lie apart.
use Rattle.std.proofs.Common.{◌≡◌, ℕ, suc, ◌+◌, ◌-◌, ◌*◌, ◌<◌, ◌≤◌, ◌⊎◌, inl, inr, Bool, true, false, not, cond, List, [], ◌∷◌, Option, Some, None, refl, ap, sym, ◌∙◌, subst, arith, drop, length, fold, get_or, add-one}
use Rattle.std.proofs.Math.Seq.{drop-cons}
use Rattle.std.specs.Prelude.{nat_le, nat_lt, max}
use Rattle.std.specs.Bool.{◌==◌}
use Rattle.std.specs.List.{filter}
use Rattle.std.proofs.lemmas.Bool.Decides.{nat_tests}
use Rattle.object_model.specs.declared.pools.Block.{Block}
use Rattle.object_model.specs.Pools.Variable.{end_of, gaps_from, place_from, insert_block}
use Rattle.mem_pools.specs.Blocks.{LieBetween, AreVariable}

-- a choice that gives something gives its first, or what is left
chosen_cases : {A : Type 0} → (test : Bool) (x y : A) (rest : Option A) → cond test (Some x) rest ≡ Some y → ((test ≡ true) × (x ≡ y)) ⊎ ((test ≡ false) × (rest ≡ Some y))
chosen_cases true x y rest is = inl (refl, cc is)
chosen_cases false x y rest is = inr (refl, is)

-- the end isn't in front of the start
pub reaches : (start end : ℕ) (blocks : List Block) → LieBetween start end blocks → start ≤ end
reaches start end [] lie = lie
reaches start end (block ∷ blocks) lie =
    let first : start ≤ block.offset = lie.0 in
    let rest : end_of block ≤ end = reaches (end_of block) end blocks lie.2 in
    omega (arith, first, rest)

-- what is placed lies behind the start and in front of the end
placed_if : (start end n offset : ℕ) (block : Block) (blocks : List Block) → LieBetween start end (block ∷ blocks)
    → ((nat_le (start + n) block.offset ≡ true) × (start ≡ offset)) ⊎ ((nat_le (start + n) block.offset ≡ false) × (place_from (end_of block) end n blocks ≡ Some offset))
    → (place_from (end_of block) end n blocks ≡ Some offset → (end_of block ≤ offset) × (offset + n ≤ end))
    → (start ≤ offset) × (offset + n ≤ end)
placed_if start end n offset block blocks lie (inl here) later =
    let fits : start + n ≤ block.offset = grind (arith, nat_tests, here.0) in
    let same : start ≡ offset = here.1 in
    let ends : end_of block ≤ end = reaches (end_of block) end blocks lie.2 in
    (omega (arith, same), omega (arith, same, fits, ends))
placed_if start end n offset block blocks lie (inr there) later =
    let rest = later there.1 in
    let first : start ≤ block.offset = lie.0 in
    let behind : end_of block ≤ offset = rest.0 in
    (omega (arith, first, behind), rest.1)

pub placed : (start end n offset : ℕ) (blocks : List Block) → LieBetween start end blocks → place_from start end n blocks ≡ Some offset → (start ≤ offset) × (offset + n ≤ end)
placed start end n offset [] lie is = elim (chosen_cases (nat_le (start + n) end) start offset None is) [
  | inl here ↦ (let same : start ≡ offset = here.1 in let fits : start + n ≤ end = grind (arith, nat_tests, here.0) in (omega (arith, same), omega (arith, same, fits)))
  | inr there ↦ absurd (cc there.1)
]
placed start end n offset (block ∷ blocks) lie is =
    placed_if start end n offset block blocks lie (chosen_cases (nat_le (start + n) block.offset) start offset (place_from (end_of block) end n blocks) is) (placed (end_of block) end n offset blocks lie.2)

-- a block that is placed joins those that lie apart
joined_if : (start end n offset : ℕ) (block : Block) (blocks : List Block) → LieBetween start end (block ∷ blocks) → 8 ≤ n
    → ((nat_le (start + n) block.offset ≡ true) × (start ≡ offset)) ⊎ ((nat_le (start + n) block.offset ≡ false) × (place_from (end_of block) end n blocks ≡ Some offset))
    → (place_from (end_of block) end n blocks ≡ Some offset → LieBetween (end_of block) end (insert_block (record { offset = offset; size = n }) blocks))
    → LieBetween start end (insert_block (record { offset = offset; size = n }) (block ∷ blocks))
joined_if start end n offset block blocks lie some (inl here) later =
    let same : start ≡ offset = here.1 in
    let fits : start + n ≤ block.offset = grind (arith, nat_tests, here.0) in
    let test : nat_lt offset block.offset ≡ true = grind (arith, nat_tests, same, fits, some) in
    rw test ((omega (arith, same), some, (omega (arith, same, fits), lie.1, lie.2)))
joined_if start end n offset block blocks lie some (inr there) later =
    let behind : end_of block ≤ offset = (placed (end_of block) end n offset blocks lie.2 there.1).0 in
    let size : 8 ≤ block.size = lie.1 in
    let test : nat_lt offset block.offset ≡ false = grind (arith, nat_tests, behind, size) in
    rw test ((lie.0, lie.1, later there.1))

pub joined : (start end n offset : ℕ) (blocks : List Block) → LieBetween start end blocks → 8 ≤ n → place_from start end n blocks ≡ Some offset → LieBetween start end (insert_block (record { offset = offset; size = n }) blocks)
joined start end n offset [] lie some is = let all = placed start end n offset [] lie is in (all.0, some, all.1)
joined start end n offset (block ∷ blocks) lie some is =
    joined_if start end n offset block blocks lie some (chosen_cases (nat_le (start + n) block.offset) start offset (place_from (end_of block) end n blocks) is)
    (joined (end_of block) end n offset blocks lie.2 some)

-- ---- blocks are taken out

widened : (less start end : ℕ) (blocks : List Block) → LieBetween start end blocks → less ≤ start → LieBetween less end blocks
widened less start end [] lie below = omega (arith, lie, below)
widened less start end (block ∷ blocks) lie below = let first : start ≤ block.offset = lie.0 in (omega (arith, first, below), lie.1, lie.2)

kept_if : (start end : ℕ) (block : Block) (blocks : List Block) (test : Bool) → start ≤ block.offset → 8 ≤ block.size → LieBetween (end_of block) end blocks → LieBetween start end (cond test (block ∷ blocks) blocks)
kept_if start end block blocks true first some lie = (first, some, lie)
kept_if start end block blocks false first some lie = widened start (end_of block) end blocks lie (omega (arith, first, some))

left_lie : (start end : ℕ) (stays : Block → Bool) (blocks : List Block) → LieBetween start end blocks → LieBetween start end (filter stays blocks)
left_lie start end stays [] lie = lie
left_lie start end stays (block ∷ blocks) lie = kept_if start end block (filter stays blocks) (stays block) lie.0 lie.1 (left_lie (end_of block) end stays blocks lie.2)

-- ---- their room

-- blocks that lie apart take 8 bytes each
bounded : (start end : ℕ) (blocks : List Block) → LieBetween start end blocks → start + 8 * length blocks ≤ end
bounded start end [] lie = omega (arith, lie)
bounded start end (block ∷ blocks) lie =
    let first : start ≤ block.offset = lie.0 in
    let size : 8 ≤ block.size = lie.1 in
    let rest : end_of block + 8 * length blocks ≤ end = bounded (end_of block) end blocks lie.2 in
    omega (arith, first, size, rest)

inserted_if : (test : Bool) (block first : Block) (rest more : List Block) → length more ≡ length rest + 1 → length (cond test (block ∷ first ∷ rest) (first ∷ more)) ≡ length rest + 1 + 1
inserted_if true block first rest more is = omega arith
inserted_if false block first rest more is = omega (arith, is)

one_more : (block : Block) (blocks : List Block) → length (insert_block block blocks) ≡ length blocks + 1
one_more block [] = refl
one_more block (first ∷ rest) =
    let more : length (insert_block block rest) ≡ length rest + 1 = one_more block rest in
    let all = inserted_if (nat_lt block.offset first.offset) block first rest (insert_block block rest) more in
    all ∙ omega arith

-- one more has room
pub has_room : (size n offset capacity : ℕ) (blocks : List Block) → AreVariable size blocks capacity → 8 ≤ n → place_from 0 size n blocks ≡ Some offset → length blocks < capacity
has_room size n offset capacity blocks is some there =
    let room = is.room in
    let more : length (insert_block (record { offset = offset; size = n }) blocks) ≡ length blocks + 1 = one_more (record { offset = offset; size = n }) blocks in
    let all : 0 + 8 * length (insert_block (record { offset = offset; size = n }) blocks) ≤ size = bounded 0 size (insert_block (record { offset = offset; size = n }) blocks) (joined 0 size n offset blocks is.apart some there) in
    omega (arith, room, more, all)

pub given : (size n offset old_capacity capacity : ℕ) (blocks now : List Block) → AreVariable size blocks old_capacity → 8 ≤ n → place_from 0 size n blocks ≡ Some offset → now ≡ insert_block (record { offset = offset; size = n }) blocks → old_capacity ≤ capacity → AreVariable size now capacity
given size n offset old_capacity capacity blocks now is some there moved more =
    let room = is.room in
    record {
      small = is.small;
      apart = subst (LieBetween 0 size) (sym moved) (joined 0 size n offset blocks is.apart some there);
      room = omega (arith, room, more);
    }

pub freed : (size offset old_capacity capacity : ℕ) (blocks now : List Block) → AreVariable size blocks old_capacity → now ≡ filter (λ (block : Block). not (block.offset == offset)) blocks → capacity ≡ old_capacity → AreVariable size now capacity
freed size offset old_capacity capacity blocks now is moved same =
    let room = is.room in
    record {
      small = is.small;
      apart = subst (LieBetween 0 size) (sym moved) (left_lie 0 size (λ (block : Block). not (block.offset == offset)) blocks is.apart);
      room = omega (arith, room, same);
    }

-- ---- one block after another

-- what lies from a block on
pub record FromBlock (start end : ℕ) (block : Block) (rest : List Block) : Type 0 where
  pub behind : start ≤ block.offset
  pub ends : end_of block ≤ end
  pub apart : LieBetween (end_of block) end rest

from_head : (start end : ℕ) (block : Block) (rest : List Block) → LieBetween start end (block ∷ rest) → FromBlock start end block rest
from_head start end block rest lie = record { behind = lie.0; ends = reaches (end_of block) end rest lie.2; apart = lie.2 }

pub from_block : (start end : ℕ) (block : Block) (rest left : List Block) → left ≡ block ∷ rest → LieBetween start end left → FromBlock start end block rest
from_block start end block rest left is lie = from_head start end block rest (subst (LieBetween start end) is lie)

-- the block in a place, and those behind it
pub from_place : (start end index : ℕ) (blocks : List Block) (d : Block) → index < length blocks → LieBetween start end (drop index blocks) → FromBlock start end (get_or blocks index d) (drop (index + 1) blocks)
from_place start end index [] d inside lie = absurd (omega (arith, inside))
from_place start end index blocks d inside lie =
    subst (λ n. FromBlock start end (get_or blocks index d) (drop n blocks)) (sym (add-one index))
    (from_block start end (get_or blocks index d) (drop (suc index) blocks) (drop index blocks) (drop-cons blocks index d inside) lie)

largest_from : (start end largest now : ℕ) (block : Block) (rest left : List Block) → left ≡ block ∷ rest → now ≡ max largest (block.offset - start) → fold max now (gaps_from (end_of block) end rest) ≡ fold max largest (gaps_from start end left)
largest_from start end largest now block rest left is more = rw (is, more) refl

-- the largest gap of what is left behind a place
pub largest_further : (start end index largest now : ℕ) (blocks : List Block) (d : Block) (all : ℕ) → index < length blocks → now ≡ max largest ((get_or blocks index d).offset - start) →
    fold max largest (gaps_from start end (drop index blocks)) ≡ all → fold max now (gaps_from (end_of (get_or blocks index d)) end (drop (index + 1) blocks)) ≡ all
largest_further start end index largest now blocks d all inside more left =
    ap (λ n. fold max now (gaps_from (end_of (get_or blocks index d)) end (drop n blocks))) (add-one index)
    ∙ largest_from start end largest now (get_or blocks index d) (drop (suc index) blocks) (drop index blocks) (drop-cons blocks index d inside) more
    ∙ left
