-- The lists of tasks.
use Rattle.std.specs.Prelude.{ℕ, ◌<◌, List, [], ◌∷◌, Option, Some, None}
use Rattle.kernel_model.specs.Tasks.Base.{Base, ready_of}
use Rattle.kernel_model.specs.Tasks.Queues.{queue_at}
use Rattle.kernel_base.specs.Queues.{behind}
use Rattle.kernel_base.specs.Waiting.{most_objects}
use Rattle.td_hooks.specs.declared.tasks.TaskList.{TaskList}
use Rattle.td_hooks.specs.declared.tasks.TaskList.TheVariants.{Ready, Waiting}

-- the tasks of a list, in order
abbrev pub in_list : Base → TaskList → List ℕ
in_list b (Ready priority) = ready_of b priority
in_list b (Waiting object) = queue_at b object

-- the object of a list is one for which a task can wait
abbrev pub IsList : TaskList → Type 0
IsList (Ready priority) = Unit {0}
IsList (Waiting object) = object < most_objects

-- what is left of a list from a task on
abbrev pub left_from : Option ℕ → List ℕ → List ℕ
left_from None list = []
left_from (Some t) list = t ∷ behind t list
