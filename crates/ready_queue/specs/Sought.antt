-- Which place is looked for.
use Rattle.std.specs.Prelude.{Bool}
use Rattle.ready_queue.specs.declared.places.ReadyTask.{ReadyTask}
use Rattle.ready_queue.specs.declared.places.Sought.{Sought}
use Rattle.ready_queue.specs.declared.places.Sought.TheVariants.{Task, Priority, Below}
use Rattle.ready_queue.specs.Queue.{is_of_task, is_of_priority, is_below}

-- whether a place is one that is looked for
abbrev pub is_sought : Sought → ReadyTask → Bool
is_sought (Task task) place = is_of_task task place
is_sought (Priority priority) place = is_of_priority priority place
is_sought (Below priority) place = is_below priority place
