-- Variable pools: where a block fits, who can be served, and what serving does.
use Rattle.std.specs.Prelude.{ℕ, ◌+◌, ◌-◌, ◌==◌, Bool, not, nat_le, nat_lt, max, if◌then◌else◌, pos, fold, filter, List, [], ◌∷◌, Option, Some, None, drop}
use Rattle.std.specs.List.{list_any, sum_by}
use Rattle.kernel_model.specs.Words.Orders.{taken_from}
use Rattle.kernel_model.specs.Words.Checks.{plain}
use Rattle.kernel_model.specs.Tasks.Base.{Base, queue, release}
use Rattle.object_model.specs.declared.pools.Block.{Block}
use Rattle.object_model.specs.Servings.{first_serving, rounded_up}
use Rattle.object_model.specs.Pools.Tables.{VariablePool, Pools, PoolParts, variable_object, variable_at, with_variable, size_of}

-- sizes are multiples of 8
abbrev pub block_size : ℕ → ℕ
block_size n = rounded_up 8 n

-- where a block ends
abbrev pub end_of : Block → ℕ
end_of block = block.offset + block.size

-- the least offset from a start on at which so many bytes fit in front of a block, between two, or behind the last and
-- before the end
abbrev pub place_from : ℕ → ℕ → ℕ → List Block → Option ℕ
place_from start end n [] = if nat_le (start + n) end then Some start else None
place_from start end n (block ∷ blocks) =
    if nat_le (start + n) block.offset then Some start else place_from (end_of block) end n blocks

-- the least offset at which so many bytes fit between the live blocks of a pool
abbrev pub place_in : VariablePool → ℕ → Option ℕ
place_in k n = place_from 0 k.size n k.blocks

-- a block goes in front of the first one of a greater offset
abbrev pub insert_block : Block → List Block → List Block
insert_block block [] = block ∷ []
insert_block block (first ∷ rest) =
    if nat_lt block.offset first.offset then block ∷ first ∷ rest else first ∷ insert_block block rest

-- a pool with one block more
abbrev pub with_live : Pools → ℕ → VariablePool → Block → Pools
with_live m id k block = with_variable m id (Some (record k { blocks = insert_block block k.blocks }))

-- the pool without the block that begins at an offset
abbrev pub without_live : Pools → ℕ → VariablePool → ℕ → Pools
without_live m id k offset = with_variable m id (Some (record k { blocks = filter (λ block. not (block.offset == offset)) k.blocks }))

-- whether a live block begins at an offset
abbrev pub begins_block : ℕ → VariablePool → Bool
begins_block offset k = list_any (λ block. block.offset == offset) k.blocks

-- the bytes that live blocks take together
abbrev pub live_bytes : List Block → ℕ
live_bytes blocks = sum_by (λ block. block.size) blocks

abbrev pub free_bytes : VariablePool → ℕ
free_bytes k = k.size - live_bytes k.blocks

-- the sizes of the gaps from a start on: in front of each block, and behind the last up to the end
abbrev pub gaps_from : ℕ → ℕ → List Block → List ℕ
gaps_from start end [] = (end - start) ∷ []
gaps_from start end (block ∷ blocks) = (block.offset - start) ∷ gaps_from (end_of block) end blocks

abbrev pub largest_gap : VariablePool → ℕ
largest_gap k = fold max 0 (gaps_from 0 k.size k.blocks)

abbrev pub variable_waiters : Base → VariablePool → ℕ → List ℕ
variable_waiters b k id = queue k.order b (variable_object id)

abbrev pub block_given : PoolParts → ℕ → VariablePool → ℕ → Option ℕ → Option PoolParts
block_given p id k t None = None
block_given p id k t (Some offset) = Some (record {
  base = release p.base t (plain (pos offset));
  table = with_live p.table id k (record { offset = offset; size = size_of p.table t });
})

-- the first waiter gets the least offset at which its size fits
abbrev pub variable_serves : PoolParts → ℕ → VariablePool → List ℕ → Option PoolParts
variable_serves p id k [] = None
variable_serves p id k (t ∷ waiters) = block_given p id k t (place_in k (size_of p.table t))

abbrev pub serve_variable_at : PoolParts → ℕ → Option VariablePool → Option PoolParts
serve_variable_at p id None = None
serve_variable_at p id (Some k) = variable_serves p id k (variable_waiters p.base k id)

-- the first waiter of a variable pool is served, where its size fits
unfoldable pub serve_variable : PoolParts → ℕ → Option PoolParts
serve_variable p id = serve_variable_at p id (variable_at p.table id)

-- the first variable pool by ID that can serve a waiter serves one
unfoldable pub serve_variable_pools : PoolParts → Option PoolParts
serve_variable_pools p = first_serving (serve_variable p) (taken_from 1 (drop 1 p.table.variable))
