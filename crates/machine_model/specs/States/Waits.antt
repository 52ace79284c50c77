-- Which tasks wait, and for what: each task that waits stands in the queue of an object that there is, in the order that
-- this object says.
use Rattle.std.specs.Prelude.{ℕ, nat_lt, if◌then◌else◌, Option, Some, None}
use Rattle.tk_types.specs.declared.task.Order.{Order}
use Rattle.tk_types.specs.declared.task.Order.TheVariants.{Fifo}
use Rattle.kernel_model.specs.Tasks.Base.{Base}
use Rattle.kernel_model.specs.Tasks.Waits.{StandInOrder}
use Rattle.kernel_model.specs.SemFlags.Orders.{sem_flag_order}
use Rattle.object_model.specs.Mutexes.Orders.{mutex_order}
use Rattle.object_model.specs.Mails.Orders.{mail_order}
use Rattle.object_model.specs.Pools.Orders.{pool_order}
use Rattle.device_model.specs.Devices.Orders.{device_order}
use Rattle.machine_model.specs.States.Objects.{Objects}

-- the order that the first family to know an object says
abbrev pub or_order : Option Order → Option Order → Option Order
or_order (Some order) later = Some order
or_order None later = later

-- how the waiters of an object queue, where there is that object: those that sleep and those in a delay by the beginning
-- of their waits, and the others as their object says
abbrev pub order_for : Objects → ℕ → Option Order
order_for o object =
    if nat_lt object 2
    then Some Fifo
    else or_order (sem_flag_order o.sem_flags object)
    (or_order (mutex_order o.mutexes object) (or_order (mail_order o.mails object) (or_order (pool_order o.pools object) (device_order object))))

-- each task that waits stands in the queue of an object that there is, in its order
abbrev pub IsOrderly : Base → Objects → Type 0
IsOrderly b o = StandInOrder (order_for o) b
