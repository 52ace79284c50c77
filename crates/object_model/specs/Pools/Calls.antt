-- The system calls on memory pools: the checks of each in their order, and its effect up to the first settling. A call that
-- may wait decides at the object.
use Rattle.std.specs.Prelude.{ℕ, zero, suc, ◌+◌, ◌*◌, ◌==◌, Bool, true, false, not, nat_le, if◌then◌else◌, ℤ, pos, negsuc, int_le, List, [], ◌∷◌, Option, Some, None, drop, replicate, slice_set}
use Rattle.std.specs.Ordering.{int_eq}
use Rattle.std.specs.Option.{option_map_or}
use Rattle.tk_types.specs.declared.task.Order.{Order}
use Rattle.tk_types.specs.declared.answer.Who.{Who}
use Rattle.tk_types.specs.declared.answer.Outcome.{Outcome}
use Rattle.tk_types.specs.declared.answer.Outcome.TheVariants.{Returned, Blocked}
use Rattle.tk_types.specs.declared.error_code.Er.{Er}
use Rattle.tk_types.specs.declared.error_code.Er.TheVariants as er
use Rattle.tk_types.specs.declared.modes.Attributes.{Attributes}
use Rattle.tk_types.specs.declared.calls.PoolCall.{PoolCall}
use Rattle.tk_types.specs.declared.calls.PoolCall.TheVariants as call
use Rattle.kernel_model.specs.declared.marks.Mark.TheVariants.{MayWait}
use Rattle.kernel_model.specs.Words.Orders.{free_from, head_or_zero}
use Rattle.kernel_model.specs.Words.Checks.{Check, ◌otherwise◌, first_error, within, natural, answer, failed, done}
use Rattle.kernel_model.specs.Tasks.Base.{Base, has_room, make_wait, take_bytes, give_bytes}
use Rattle.kernel_model.specs.Tasks.Marks.{allows}
use Rattle.kernel_model.specs.Tasks.Calls.{caller}
use Rattle.kernel_model.specs.SemFlags.Calls.{order_of, object_checks, end_waits, would_be_first}
use Rattle.object_model.specs.Mails.Calls.{has_order_attributes}
use Rattle.object_model.specs.Pools.Tables.{FixedPool, VariablePool, Pools, PoolParts, fixed_object, variable_object, fixed_at, variable_at, has_mpf, has_mpl, with_fixed, with_variable}
use Rattle.object_model.specs.Pools.Fixed.{free_block, free_blocks, is_out, with_block, fixed_waiters}
use Rattle.object_model.specs.Pools.Variable.{block_size, place_in, with_live, without_live, begins_block, free_bytes, largest_gap, variable_waiters}

-- a base and the table, and what became of the call
pub record PoolDone : Type 0 where
  pub base : Base
  pub table : Pools
  pub outcome : Outcome

-- what a call left, and what became of it
abbrev pub pool_done : PoolParts → Outcome → PoolDone
pool_done p outcome = record { base = p.base; table = p.table; outcome = outcome }

abbrev pub refused_with : Option Er → PoolParts → PoolDone → PoolDone
refused_with (Some error) p effect = pool_done p (failed error)
refused_with None p effect = effect

-- a call is refused with the first error of its checks, and nothing is changed then; else it has its effect
abbrev pub pool_checked : List Check → PoolParts → PoolDone → PoolDone
pool_checked checks p effect = refused_with (first_error checks) p effect

-- a call that changes the table alone and answers a value
abbrev pub table_changed : PoolParts → Pools → ℤ → PoolDone
table_changed p table value = pool_done (record p { table = table }) (done value)

-- with a time-out of 0 a wait that isn't served is over at once, and nothing has happened; else the task waits, and the
-- table keeps what it asked for
abbrev pub waits_or_ends : PoolParts → ℕ → ℕ → Order → ℤ → Pools → PoolDone
waits_or_ends p t object order timeout asked =
    if int_eq timeout (pos 0)
    then pool_done p (failed er.TmOut)
    else pool_done (record { base = make_wait p.base t object order timeout; table = asked }) Blocked

-- ---- fixed pools

abbrev pub free_fixed : Pools → ℕ
free_fixed m = free_from 1 (drop 1 m.fixed)

-- a pool with that many blocks, none of which is out; the place of 0, which is no block's, stays free
abbrev pub new_fixed : Attributes → ℕ → ℕ → FixedPool
new_fixed attributes count size = record { order = order_of attributes; bytes = count * size; out = replicate (count + 1) false }

abbrev pub create_fixed_checks : PoolParts → Attributes → ℤ → ℤ → List Check
create_fixed_checks p attributes count size =
    (has_order_attributes attributes otherwise er.RsAtr)
    ∷ (within 1 1024 count otherwise er.Par)
    ∷ (within 1 65536 size otherwise er.Par)
    ∷ (not (free_fixed p.table == 0) otherwise er.Limit)
    ∷ (has_room p.base (natural count * natural size) otherwise er.NoMem)
    ∷ []

-- `tk_cre_mpf`: a fixed pool with the least free ID, the bytes of all its blocks counted
unfoldable pub create_fixed : PoolParts → Attributes → ℤ → ℤ → PoolDone
create_fixed p attributes count size = pool_checked (create_fixed_checks p attributes count size) p
    (pool_done (record {
      base = take_bytes p.base (natural count * natural size);
      table = with_fixed p.table (free_fixed p.table) (Some (new_fixed attributes (natural count) (natural size)));
    }) (done (pos (free_fixed p.table))))

-- the waits for a pool end, and its bytes are given back
abbrev pub fixed_ended : Base → ℕ → Option FixedPool → Base
fixed_ended b id None = b
fixed_ended b id (Some k) = give_bytes (end_waits k.order (fixed_object id) b) k.bytes

-- `tk_del_mpf`: the pool is gone, and its waiters' waits end in queue order
unfoldable pub delete_fixed : PoolParts → ℤ → PoolDone
delete_fixed p id = pool_checked (object_checks id (has_mpf p.table (natural id)) []) p
    (pool_done (record {
      base = fixed_ended p.base (natural id) (fixed_at p.table (natural id));
      table = with_fixed p.table (natural id) None;
    }) (done (pos 0)))

-- a caller takes the least free block; without one it waits
abbrev pub block_taken : PoolParts → ℕ → ℕ → ℤ → FixedPool → ℕ → PoolDone
block_taken p t id timeout k zero = waits_or_ends p t (fixed_object id) k.order timeout p.table
block_taken p t id timeout k (suc before) = table_changed p (with_block p.table id k (suc before) true) (pos (suc before))

abbrev pub got_from_fixed : PoolParts → ℕ → ℕ → ℤ → Option FixedPool → PoolDone
got_from_fixed p t id timeout None = pool_done p (failed er.NoExs)
got_from_fixed p t id timeout (Some k) = block_taken p t id timeout k (free_block k)

abbrev pub get_fixed_checks : PoolParts → Who → ℤ → ℤ → List Check
get_fixed_checks p who id timeout =
    (within 1 64 id otherwise er.Id)
    ∷ (int_le (negsuc 0) timeout otherwise er.Par)
    ∷ (allows p.base.flags who MayWait otherwise er.Ctx)
    ∷ (has_mpf p.table (natural id) otherwise er.NoExs)
    ∷ []

-- `tk_get_mpf`: answers the number of the block that it takes, or waits
unfoldable pub get_fixed : PoolParts → Who → ℤ → ℤ → PoolDone
get_fixed p who id timeout = pool_checked (get_fixed_checks p who id timeout) p
    (got_from_fixed p (caller who) (natural id) timeout (fixed_at p.table (natural id)))

abbrev pub block_back : Pools → ℕ → ℕ → Option FixedPool → Pools
block_back m id number None = m
block_back m id number (Some k) = with_block m id k number false

abbrev pub release_fixed_checks : PoolParts → ℤ → ℤ → List Check
release_fixed_checks p id block =
    (within 1 64 id otherwise er.Id)
    ∷ (int_le (pos 0) block otherwise er.Par)
    ∷ (has_mpf p.table (natural id) otherwise er.NoExs)
    ∷ (option_map_or (is_out (natural block)) (fixed_at p.table (natural id)) false otherwise er.Par)
    ∷ []

-- `tk_rel_mpf`: a block that is out is free again
unfoldable pub release_fixed : PoolParts → ℤ → ℤ → PoolDone
release_fixed p id block = pool_checked (release_fixed_checks p id block) p
    (table_changed p (block_back p.table (natural id) (natural block) (fixed_at p.table (natural id))) (pos 0))

abbrev pub fixed_shown : Base → ℕ → Option FixedPool → Outcome
fixed_shown b id None = failed er.NoExs
fixed_shown b id (Some k) = Returned (answer (pos 0) (pos (free_blocks k) ∷ pos (head_or_zero (fixed_waiters b k id)) ∷ []))

-- `tk_ref_mpf`: how many blocks are free, and the first waiter or 0
unfoldable pub refer_fixed : PoolParts → ℤ → PoolDone
refer_fixed p id = pool_checked (object_checks id (has_mpf p.table (natural id)) []) p
    (pool_done p (fixed_shown p.base (natural id) (fixed_at p.table (natural id))))

-- ---- variable pools

abbrev pub free_variable : Pools → ℕ
free_variable m = free_from 1 (drop 1 m.variable)

abbrev pub new_variable : Attributes → ℕ → VariablePool
new_variable attributes size = record { order = order_of attributes; size = size; blocks = [] }

abbrev pub create_variable_checks : PoolParts → Attributes → ℤ → List Check
create_variable_checks p attributes size =
    (has_order_attributes attributes otherwise er.RsAtr)
    ∷ (within 8 65536 size otherwise er.Par)
    ∷ (not (free_variable p.table == 0) otherwise er.Limit)
    ∷ (has_room p.base (block_size (natural size)) otherwise er.NoMem)
    ∷ []

-- `tk_cre_mpl`: a variable pool with the least free ID, whose size is rounded up and counted
unfoldable pub create_variable : PoolParts → Attributes → ℤ → PoolDone
create_variable p attributes size = pool_checked (create_variable_checks p attributes size) p
    (pool_done (record {
      base = take_bytes p.base (block_size (natural size));
      table = with_variable p.table (free_variable p.table) (Some (new_variable attributes (block_size (natural size))));
    }) (done (pos (free_variable p.table))))

abbrev pub variable_ended : Base → ℕ → Option VariablePool → Base
variable_ended b id None = b
variable_ended b id (Some k) = give_bytes (end_waits k.order (variable_object id) b) k.size

-- `tk_del_mpl`: the pool is gone, and its waiters' waits end in queue order
unfoldable pub delete_variable : PoolParts → ℤ → PoolDone
delete_variable p id = pool_checked (object_checks id (has_mpl p.table (natural id)) []) p
    (pool_done (record {
      base = variable_ended p.base (natural id) (variable_at p.table (natural id));
      table = with_variable p.table (natural id) None;
    }) (done (pos 0)))

-- where so many bytes go for a caller: nowhere, where somebody stands before it who has to be served first
abbrev pub place_for : Bool → VariablePool → ℕ → Option ℕ
place_for is_first k n = if is_first then place_in k n else None

-- a caller takes a block at that place; without one it waits
abbrev pub placed : PoolParts → ℕ → ℕ → ℕ → ℤ → VariablePool → Option ℕ → PoolDone
placed p t id n timeout k None = waits_or_ends p t (variable_object id) k.order timeout (record p.table { sizes = slice_set p.table.sizes t n })
placed p t id n timeout k (Some offset) = table_changed p (with_live p.table id k (record { offset = offset; size = n })) (pos offset)

abbrev pub got_from_variable : PoolParts → ℕ → ℕ → ℕ → ℤ → Option VariablePool → PoolDone
got_from_variable p t id n timeout None = pool_done p (failed er.NoExs)
got_from_variable p t id n timeout (Some k) =
    placed p t id n timeout k (place_for (would_be_first k.order p.base t (variable_waiters p.base k id)) k n)

-- whether a pool could ever have a block of a size
abbrev pub is_within_pool : ℕ → VariablePool → Bool
is_within_pool n k = nat_le n k.size

abbrev pub get_variable_checks : PoolParts → Who → ℤ → ℤ → ℤ → List Check
get_variable_checks p who id size timeout =
    (within 1 64 id otherwise er.Id)
    ∷ (int_le (pos 1) size otherwise er.Par)
    ∷ (int_le (negsuc 0) timeout otherwise er.Par)
    ∷ (allows p.base.flags who MayWait otherwise er.Ctx)
    ∷ (has_mpl p.table (natural id) otherwise er.NoExs)
    ∷ (option_map_or (is_within_pool (block_size (natural size))) (variable_at p.table (natural id)) false otherwise er.Par)
    ∷ []

-- `tk_get_mpl`: answers the offset of the block that it takes, whose size is rounded up, or waits
unfoldable pub get_variable : PoolParts → Who → ℤ → ℤ → ℤ → PoolDone
get_variable p who id size timeout = pool_checked (get_variable_checks p who id size timeout) p
    (got_from_variable p (caller who) (natural id) (block_size (natural size)) timeout (variable_at p.table (natural id)))

abbrev pub block_freed : Pools → ℕ → ℕ → Option VariablePool → Pools
block_freed m id offset None = m
block_freed m id offset (Some k) = without_live m id k offset

abbrev pub release_variable_checks : PoolParts → ℤ → ℤ → List Check
release_variable_checks p id offset =
    (within 1 64 id otherwise er.Id)
    ∷ (int_le (pos 0) offset otherwise er.Par)
    ∷ (has_mpl p.table (natural id) otherwise er.NoExs)
    ∷ (option_map_or (begins_block (natural offset)) (variable_at p.table (natural id)) false otherwise er.Par)
    ∷ []

-- `tk_rel_mpl`: the live block that begins at an offset is free again
unfoldable pub release_variable : PoolParts → ℤ → ℤ → PoolDone
release_variable p id offset = pool_checked (release_variable_checks p id offset) p
    (table_changed p (block_freed p.table (natural id) (natural offset) (variable_at p.table (natural id))) (pos 0))

abbrev pub variable_shown : Base → ℕ → Option VariablePool → Outcome
variable_shown b id None = failed er.NoExs
variable_shown b id (Some k) =
    Returned (answer (pos 0) (pos (free_bytes k) ∷ pos (largest_gap k) ∷ pos (head_or_zero (variable_waiters b k id)) ∷ []))

-- `tk_ref_mpl`: the free bytes, the size of the largest gap, and the first waiter or 0
unfoldable pub refer_variable : PoolParts → ℤ → PoolDone
refer_variable p id = pool_checked (object_checks id (has_mpl p.table (natural id)) []) p
    (pool_done p (variable_shown p.base (natural id) (variable_at p.table (natural id))))

-- a call on pools by its row
unfoldable pub pool_call : PoolParts → Who → PoolCall → PoolDone
pool_call p who (call.CreMpf attributes count size) = create_fixed p attributes count size
pool_call p who (call.DelMpf id) = delete_fixed p id
pool_call p who (call.GetMpf id timeout) = get_fixed p who id timeout
pool_call p who (call.RelMpf id block) = release_fixed p id block
pool_call p who (call.RefMpf id) = refer_fixed p id
pool_call p who (call.CreMpl attributes size) = create_variable p attributes size
pool_call p who (call.DelMpl id) = delete_variable p id
pool_call p who (call.GetMpl id size timeout) = get_variable p who id size timeout
pool_call p who (call.RelMpl id offset) = release_variable p id offset
pool_call p who (call.RefMpl id) = refer_variable p id
