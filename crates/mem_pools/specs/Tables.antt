-- The table has a slot for each ID, and a place for each task.
use Rattle.std.specs.Prelude.{ℕ, ◌≡◌, ◌≤◌, ◌<◌, List, Option, None, length, slice_index}
use Rattle.kernel_model.specs.Words.Orders.{entry}
use Rattle.object_model.specs.Pools.Tables.{FixedPool, VariablePool}

-- every slot from a place on is free
pub record AreFreeFrom {A : Type 0} (used : ℕ) (slots : List (Option A)) : Type 0 where
  pub free : (id : ℕ) → used ≤ id → entry slots id ≡ None

-- a task that asked for a block asked for 8 bytes at least
pub record AreSizes (sizes : List ℕ) : Type 0 where
  pub least : (t : ℕ) → 0 < slice_index sizes t → 8 ≤ slice_index sizes t

-- what was ever written of a table lies before the place up to which it is used
pub record AreTables (fixed : List (Option FixedPool)) (variable : List (Option VariablePool)) (sizes : List ℕ) (fixed_used variable_used : ℕ) : Type 0 where
  pub all_fixed : length fixed ≡ 65
  pub all_variable : length variable ≡ 65
  pub all_sizes : length sizes ≡ 256
  pub used_fixed : fixed_used ≤ 65
  pub used_variable : variable_used ≤ 65
  pub free_fixed : AreFreeFrom fixed_used fixed
  pub free_variable : AreFreeFrom variable_used variable
  pub asked : AreSizes sizes
