-- How the waiters of a mutex queue.
use Rattle.std.specs.Prelude.{ℕ, ◌-◌, nat_le, nat_lt, ◌&&◌, if◌then◌else◌, Option, None}
use Rattle.std.specs.Option.{option_map}
use Rattle.tk_types.specs.declared.task.Order.{Order}
use Rattle.object_model.specs.Mutexes.Tables.{Mutexes, mutex_at}

-- how the waiters of a mutex queue, where there is that mutex: as its attributes say
abbrev pub mutex_order : Mutexes → ℕ → Option Order
mutex_order m object = if nat_le 256 object && nat_lt object 320 then option_map (λ k. k.order) (mutex_at m (object - 255)) else None
