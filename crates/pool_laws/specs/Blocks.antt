-- The live blocks of a variable pool, in other words.
use Rattle.std.specs.Prelude.{ℕ, ◌≡◌, ◌+◌, ◌≤◌, ◌<◌, ◌⊎◌, length, true, List, [], ◌∷◌, Option, Some, None}
use Rattle.kernel_model.specs.Tasks.Base.{waits_for}
use Rattle.object_model.specs.declared.pools.Block.{Block}
use Rattle.object_model.specs.Pools.Tables.{VariablePool, Pools, PoolParts, variable_object, variable_at, size_of}
use Rattle.object_model.specs.Pools.Variable.{end_of}

-- blocks lie one behind the other between a start and an end, and none is empty
abbrev pub LieBetween : ℕ → ℕ → List Block → Type 0
LieBetween start end [] = start ≤ end
LieBetween start end (block ∷ blocks) = (start ≤ block.offset) × (0 < block.size) × LieBetween (end_of block) end blocks

-- so many bytes from an offset on share none with a block
abbrev pub AreApartFrom : ℕ → ℕ → List Block → Type 0
AreApartFrom offset n [] = Unit {0}
AreApartFrom offset n (block ∷ blocks) = ((offset + n ≤ block.offset) ⊎ (end_of block ≤ offset)) × AreApartFrom offset n blocks

-- so many bytes from an offset on lie inside a pool and share none with its live blocks
pub record Fit (k : VariablePool) (offset n : ℕ) : Type 0 where
  pub inside : offset + n ≤ k.size
  pub apart : AreApartFrom offset n k.blocks

-- the live blocks of a pool lie inside it, one behind the other
abbrev pub LieApart : VariablePool → Type 0
LieApart k = LieBetween 0 k.size k.blocks

-- so it is in each variable pool that there is
abbrev pub LieApartIn : Option VariablePool → Type 0
LieApartIn None = Unit {0}
LieApartIn (Some k) = LieApart k

abbrev pub AllLieApart : Pools → Type 0
AllLieApart m = (id : ℕ) → LieApartIn (variable_at m id)

-- each task that waits for a variable pool asks for some bytes. The pools' IDs are those from 1 on of which the table has slots
abbrev pub AskForSome : PoolParts → Type 0
AskForSome p = (id t : ℕ) → 1 ≤ id → id < length p.table.variable → waits_for p.base (variable_object id) t ≡ true → 0 < size_of p.table t
