-- The same block by block, as a driver does it. A block knows how many bytes were moved before it, and the store as it is
-- by then, but neither how much the request moves in all nor the store at its beginning.
use Rattle.std.specs.Prelude.{ℕ, zero, suc, ◌+◌, ◌-◌, ◌*◌, ◌==◌, Bool, nat_le, if◌then◌else◌, min, List, [], ◌++◌, take, drop}
use Rattle.tk_types.specs.declared.script.Kind.{Kind}
use Rattle.device_model.specs.declared.messages.Request.{Request}
use Rattle.device_model.specs.Units.Stores.{Store, is_log, is_spoilt, write_at}
use Rattle.device_model.specs.Units.Function.{appends, available, begin, block_size}

-- a request under way: the store, and the bytes read so far
pub record Partial : Type 0 where
  pub store : Store
  pub content : List ℕ

-- how many bytes a request moves, seen from where so many were moved: by then a log has as much less room
abbrev pub count_at : Kind → Store → Request → ℕ → ℕ
count_at kind store request moved =
    if request.size == 0 then 0
    else (if is_spoilt kind store.begun then 0
    else min request.size (available kind store.bytes request + (if appends kind request then moved else 0)))

-- how many bytes the next block has
abbrev pub piece : ℕ → ℕ → ℕ
piece count moved = min block_size (count - moved)

-- the bytes of a store once the next ones of a request were written
abbrev pub written_on : Kind → List ℕ → Request → ℕ → ℕ → List ℕ
written_on kind bytes request moved count =
    if is_log kind
    then bytes ++ take count (drop moved request.bytes.items)
    else write_at bytes (request.start + moved) (take count (drop moved request.bytes.items))

-- so many bytes more are moved
abbrev pub moved_on : Kind → Partial → Request → ℕ → ℕ → Partial
moved_on kind so_far request moved count =
    if request.write
    then record so_far { store = record so_far.store { bytes = written_on kind so_far.store.bytes request moved count } }
    else record so_far { content = so_far.content ++ take count (drop (request.start + moved) so_far.store.bytes) }

-- the block with that number, from 0 on
unfoldable pub block : Kind → Partial → Request → ℕ → Partial
block kind so_far request number =
    moved_on kind so_far request (block_size * number)
    (piece (count_at kind so_far.store request (block_size * number)) (block_size * number))

-- whether the block with that number, before which the store is this one, is the last
unfoldable pub is_last : Kind → Store → Request → ℕ → Bool
is_last kind store request number =
    nat_le (count_at kind store request (block_size * number)) (block_size * number + block_size)

-- a request is begun, and then so many blocks are done
unfoldable pub blocks : Kind → Store → Request → ℕ → Partial
blocks kind store request zero = record { store = begin store request; content = [] }
blocks kind store request (suc done) = block kind (blocks kind store request done) request done
