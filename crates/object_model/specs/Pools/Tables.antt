-- Fixed and variable memory pools: their table, and the numbers of their objects. A pool keeps which blocks are out, and no
-- bytes.
use Rattle.std.specs.Prelude.{ℕ, ◌+◌, Bool, List, Option, None, replicate, slice_set, slice_index}
use Rattle.std.specs.Option.{is_some}
use Rattle.tk_types.specs.declared.task.Order.{Order}
use Rattle.kernel_model.specs.Words.Orders.{entry}
use Rattle.kernel_model.specs.Tasks.Base.{Base}
use Rattle.object_model.specs.declared.pools.Block.{Block}

-- a fixed pool: how its waiters queue, the bytes that it takes, and for each block, by its number from 1 on, whether it is
-- out
pub record FixedPool : Type 0 where
  pub order : Order
  pub bytes : ℕ
  pub out : List Bool

-- a variable pool: how its waiters queue, its size, and the live blocks in rising offset
pub record VariablePool : Type 0 where
  pub order : Order
  pub size : ℕ
  pub blocks : List Block

pub record Pools : Type 0 where
  pub fixed : List (Option FixedPool)  -- by ID, 65 slots
  pub variable : List (Option VariablePool)  -- by ID, 65 slots
  pub sizes : List ℕ  -- by task: the size that it asked for, rounded up, when it last waited for a variable pool

-- a base and the table beside it
pub record PoolParts : Type 0 where
  pub base : Base
  pub table : Pools

-- the numbers of the objects
abbrev pub fixed_object : ℕ → ℕ
fixed_object id = 447 + id

abbrev pub variable_object : ℕ → ℕ
variable_object id = 511 + id

abbrev pub fixed_at : Pools → ℕ → Option FixedPool
fixed_at m id = entry m.fixed id

abbrev pub variable_at : Pools → ℕ → Option VariablePool
variable_at m id = entry m.variable id

-- whether there is that fixed pool, and that variable pool
abbrev pub has_mpf : Pools → ℕ → Bool
has_mpf m id = is_some (fixed_at m id)

abbrev pub has_mpl : Pools → ℕ → Bool
has_mpl m id = is_some (variable_at m id)

abbrev pub with_fixed : Pools → ℕ → Option FixedPool → Pools
with_fixed m id slot = record m { fixed = slice_set m.fixed id slot }

abbrev pub with_variable : Pools → ℕ → Option VariablePool → Pools
with_variable m id slot = record m { variable = slice_set m.variable id slot }

-- the size that a task asks for
abbrev pub size_of : Pools → ℕ → ℕ
size_of m t = slice_index m.sizes t

-- the start: no pool
abbrev pub pools_start : Pools
pools_start = record { fixed = replicate 65 None; variable = replicate 65 None; sizes = replicate 256 0 }
