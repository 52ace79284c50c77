-- Fixed pools: which block is free, who can be served, and what serving does.
use Rattle.std.specs.Prelude.{ℕ, zero, suc, ◌+◌, Bool, true, false, not, pos, length, filter, List, [], ◌∷◌, Option, Some, None, drop, slice_set}
use Rattle.std.specs.List.{slice_index_or}
use Rattle.kernel_model.specs.Words.Orders.{taken_from}
use Rattle.kernel_model.specs.Words.Checks.{plain}
use Rattle.kernel_model.specs.Tasks.Base.{Base, queue, release}
use Rattle.object_model.specs.Servings.{first_serving}
use Rattle.object_model.specs.Pools.Tables.{FixedPool, Pools, PoolParts, fixed_object, fixed_at, with_fixed}

-- the number of the first block that isn't out, where the blocks begin with this number; 0 where all are out
unfoldable pub first_free : ℕ → List Bool → ℕ
first_free number [] = 0
first_free number (false ∷ blocks) = number
first_free number (true ∷ blocks) = first_free (number + 1) blocks

-- the least free block, or 0
abbrev pub free_block : FixedPool → ℕ
free_block k = first_free 1 (drop 1 k.out)

-- how many blocks are free
abbrev pub free_blocks : FixedPool → ℕ
free_blocks k = length (filter not (drop 1 k.out))

-- whether the block with a number is out
abbrev pub is_out : ℕ → FixedPool → Bool
is_out number k = slice_index_or k.out number false

abbrev pub with_block : Pools → ℕ → FixedPool → ℕ → Bool → Pools
with_block m id k number out = with_fixed m id (Some (record k { out = slice_set k.out number out }))

abbrev pub fixed_waiters : Base → FixedPool → ℕ → List ℕ
fixed_waiters b k id = queue k.order b (fixed_object id)

-- the first waiter gets the least free block
abbrev pub fixed_serves : PoolParts → ℕ → FixedPool → List ℕ → ℕ → Option PoolParts
fixed_serves p id k [] number = None
fixed_serves p id k (t ∷ waiters) zero = None
fixed_serves p id k (t ∷ waiters) (suc before) =
    Some (record { base = release p.base t (plain (pos (suc before))); table = with_block p.table id k (suc before) true })

abbrev pub serve_fixed_at : PoolParts → ℕ → Option FixedPool → Option PoolParts
serve_fixed_at p id None = None
serve_fixed_at p id (Some k) = fixed_serves p id k (fixed_waiters p.base k id) (free_block k)

-- the first waiter of a fixed pool is served, where a block is free
unfoldable pub serve_fixed : PoolParts → ℕ → Option PoolParts
serve_fixed p id = serve_fixed_at p id (fixed_at p.table id)

-- the first fixed pool by ID that can serve a waiter serves one
unfoldable pub serve_fixed_pools : PoolParts → Option PoolParts
serve_fixed_pools p = first_serving (serve_fixed p) (taken_from 1 (drop 1 p.table.fixed))
