-- How the waiters of a memory pool queue.
use Rattle.std.specs.Prelude.{ℕ, ◌-◌, nat_le, nat_lt, ◌&&◌, if◌then◌else◌, Option, None}
use Rattle.std.specs.Option.{option_map}
use Rattle.tk_types.specs.declared.task.Order.{Order}
use Rattle.object_model.specs.Pools.Tables.{Pools, fixed_at, variable_at}

-- how the waiters of a fixed or a variable pool queue, where there is that object: as its attributes say
abbrev pub pool_order : Pools → ℕ → Option Order
pool_order m object =
    if nat_le 448 object && nat_lt object 512 then option_map (λ k. k.order) (fixed_at m (object - 447))
    else (if nat_le 512 object && nat_lt object 576 then option_map (λ k. k.order) (variable_at m (object - 511)) else None)
