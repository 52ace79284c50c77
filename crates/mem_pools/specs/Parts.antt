-- The base beside the table, as parts of one state.
use Rattle.std.specs.Prelude.{ℕ, ◌≡◌, ◌≤◌, ◌<◌, ◌-◌, nat_le, nat_lt, ◌&&◌, if◌then◌else◌, Bool, true, false, Option, Some, None}
use Rattle.tk_types.specs.declared.answer.Outcome.{Outcome}
use Rattle.tk_types.specs.declared.calls.PoolCall.{PoolCall}
use Rattle.tk_types.specs.declared.calls.PoolCall.TheVariants as call
use Rattle.kernel_model.specs.Tasks.Base.{Base, waits_for}
use Rattle.kernel_model.specs.Tasks.Queues.{AreOfOrder}
use Rattle.object_model.specs.Pools.Tables.{FixedPool, VariablePool, Pools, PoolParts, fixed_at, variable_at, fixed_object, variable_object, size_of}
use Rattle.object_model.specs.Pools.Fixed.{serve_fixed}
use Rattle.object_model.specs.Pools.Variable.{serve_variable}
use Rattle.object_model.specs.Pools.Calls.{PoolDone}

abbrev pub parts_of : Base → Pools → PoolParts
parts_of b m = record { base = b; table = m }

abbrev pub done_of : Base → Pools → Outcome → PoolDone
done_of b m outcome = record { base = b; table = m; outcome = outcome }

-- the waiters of each fixed and of each variable pool queue as its attributes say, and those of a variable pool asked for
-- some bytes
pub record AreQueued (b : Base) (m : Pools) : Type 0 where
  pub fixed : (id : ℕ) (k : FixedPool) → 1 ≤ id → id ≤ 64 → fixed_at m id ≡ Some k → AreOfOrder k.order b (fixed_object id)
  pub variable : (id : ℕ) (k : VariablePool) → 1 ≤ id → id ≤ 64 → variable_at m id ≡ Some k → AreOfOrder k.order b (variable_object id)
  pub asked : (id t : ℕ) → 1 ≤ id → id ≤ 64 → waits_for b (variable_object id) t ≡ true → 0 < size_of m t

-- whether a call makes a pool, whose blocks need room of the host
abbrev pub makes_pool : PoolCall → Bool
makes_pool (call.CreMpf attributes count size) = true
makes_pool (call.CreMpl attributes size) = true
makes_pool _ = false

-- one waiter of the object with that number is served, where one can be: fixed pools have the numbers from 448 on, variable
-- ones those from 512 on
abbrev pub serve_object : PoolParts → ℕ → Option PoolParts
serve_object p object =
    if nat_le 448 object && nat_lt object 512 then serve_fixed p (object - 447)
    else (if nat_le 512 object && nat_lt object 576 then serve_variable p (object - 511) else None)
