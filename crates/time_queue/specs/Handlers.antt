-- The number by which an event names its task or its handler.
use Rattle.std.specs.Prelude.{ℕ}
use Rattle.tk_types.specs.declared.task.Event.{Event}
use Rattle.tk_types.specs.declared.task.Event.TheVariants.{Wait, Cyclic, Alarm}

abbrev pub id_of : Event → ℕ
id_of (Wait task) = task
id_of (Cyclic id) = id
id_of (Alarm id) = id
