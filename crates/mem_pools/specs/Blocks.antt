-- What holds of the blocks of one pool between its moves.
use Rattle.std.specs.Prelude.{ℕ, ◌≡◌, ◌*◌, ◌≤◌, ◌<◌, not, true, false, Bool, List, [], ◌∷◌, drop, filter, length}
use Rattle.std.specs.List.{slice_index_or}
use Rattle.object_model.specs.declared.pools.Block.{Block}
use Rattle.object_model.specs.Pools.Variable.{end_of}

-- blocks lie one behind the other between a start and an end, and each has 8 bytes at least
abbrev pub LieBetween : ℕ → ℕ → List Block → Type 0
LieBetween start end [] = start ≤ end
LieBetween start end (block ∷ blocks) = (start ≤ block.offset) × (8 ≤ block.size) × LieBetween (end_of block) end blocks

-- a fixed pool has at most 1,024 blocks, knows how many of them are free, and a number in front of which all are out
pub record AreFixed (out : List Bool) (least free : ℕ) : Type 0 where
  pub nothing : slice_index_or out 0 false ≡ false
  pub few : length out ≤ 1025
  pub low : 1 ≤ least
  pub within : least ≤ length out
  pub taken : (number : ℕ) → 1 ≤ number → number < least → slice_index_or out number false ≡ true
  pub count : free ≡ length (filter not (drop 1 out))

-- the live blocks of a variable pool lie apart inside it, and there is room for as many as fit
pub record AreVariable (size : ℕ) (blocks : List Block) (capacity : ℕ) : Type 0 where
  pub small : size ≤ 65536
  pub apart : LieBetween 0 size blocks
  pub room : size ≤ 8 * capacity
