-- How the waiters of a semaphore or an event flag queue.
use Rattle.std.specs.Prelude.{ℕ, ◌-◌, nat_le, nat_lt, ◌&&◌, if◌then◌else◌, Option, None}
use Rattle.std.specs.Option.{option_map}
use Rattle.tk_types.specs.declared.task.Order.{Order}
use Rattle.kernel_model.specs.SemFlags.Tables.{SemFlags, sem_at, flag_at}

-- how the waiters of a semaphore or an event flag queue, where there is that object: as its attributes say
abbrev pub sem_flag_order : SemFlags → ℕ → Option Order
sem_flag_order s object =
    if nat_le 64 object && nat_lt object 128 then option_map (λ k. k.order) (sem_at s (object - 63))
    else (if nat_le 128 object && nat_lt object 192 then option_map (λ k. k.order) (flag_at s (object - 127)) else None)
