-- What a pool gives, and what is left of it.
use Rattle.std.specs.Prelude.{ℕ, zero, suc, true, Option, Some, None, slice_set}
use Rattle.object_model.specs.Pools.Tables.{FixedPool, VariablePool, Pools}
use Rattle.object_model.specs.Pools.Fixed.{free_block, with_block}
use Rattle.object_model.specs.Pools.Variable.{insert_block, place_in, with_live}

-- a fixed pool once the block with a number is out; with 0 it is as before
abbrev pub block_out : ℕ → FixedPool → FixedPool
block_out zero k = k
block_out (suc before) k = record k { out = slice_set k.out (suc before) true }

-- the number of the block that a fixed pool gives, or 0
abbrev pub block_of : Option FixedPool → ℕ
block_of None = 0
block_of (Some k) = free_block k

abbrev pub with_block_out : Pools → ℕ → FixedPool → ℕ → Pools
with_block_out m id k zero = m
with_block_out m id k (suc before) = with_block m id k (suc before) true

-- the table once a fixed pool has given its least free block
abbrev pub block_given : Pools → ℕ → Option FixedPool → Pools
block_given m id None = m
block_given m id (Some k) = with_block_out m id k (free_block k)

-- a variable pool once so many bytes at a place are live; with no place it is as before
abbrev pub live_at : Option ℕ → ℕ → VariablePool → VariablePool
live_at None n k = k
live_at (Some offset) n k = record k { blocks = insert_block (record { offset = offset; size = n }) k.blocks }

-- the offset of the block of a size that a variable pool gives, if it gives one
abbrev pub place_of : ℕ → Option VariablePool → Option ℕ
place_of n None = None
place_of n (Some k) = place_in k n

abbrev pub with_live_at : Pools → ℕ → VariablePool → ℕ → Option ℕ → Pools
with_live_at m id k n None = m
with_live_at m id k n (Some offset) = with_live m id k (record { offset = offset; size = n })

-- the table once a variable pool has given a block of a size
abbrev pub bytes_given : Pools → ℕ → ℕ → Option VariablePool → Pools
bytes_given m id n None = m
bytes_given m id n (Some k) = with_live_at m id k n (place_in k n)
