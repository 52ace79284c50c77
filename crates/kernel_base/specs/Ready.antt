-- The queue of the ready tasks: the tasks that may run, in order, each with its current priority.
use Rattle.std.specs.Prelude.{◌≡◌, ℕ, Bool, true, ◌&&◌, nat_le, if◌then◌else◌, List, Option, Some, None, map}
use Rattle.std.specs.List.{AllPass}
use Rattle.tk_types.specs.declared.task.Task.{Task}
use Rattle.ready_queue.specs.declared.places.ReadyTask.{ReadyTask}
use Rattle.ready_queue.specs.Queue.{put_behind, without_task}
use Rattle.kernel_model.specs.Words.Orders.{entry}
use Rattle.kernel_model.specs.Tasks.Base.{current_in, may_run, ready_in}

-- a priority that a task may have
abbrev pub is_priority : ℕ → Bool
is_priority n = nat_le 1 n && nat_le n 140

-- a row whose priorities a task may have
abbrev pub has_priorities : Task → Bool
has_priorities k = is_priority k.base && (is_priority k.initial && is_priority k.current)

-- the same of a slot, also of a free one
abbrev pub fits_slot : Option Task → Bool
fits_slot None = true
fits_slot (Some k) = has_priorities k

-- the place of a task by a table
abbrev pub place_in : List (Option Task) → ℕ → ReadyTask
place_in tasks t = record { task = t; priority = current_in (entry tasks t) }

-- the places of the tasks of an order that may run by a table
abbrev pub places_in : List (Option Task) → List ℕ → List ReadyTask
places_in tasks order = map (place_in tasks) (ready_in tasks order)

-- a task whose slot is written is put behind its equals where it may run, else it is no longer inside
abbrev pub requeued : ℕ → Option Task → List ReadyTask → List ReadyTask
requeued t slot ready = if may_run slot then put_behind (record { task = t; priority = current_in slot }) (without_task t ready) else without_task t ready

-- what holds of the tasks and of their queue between the moves
pub record IsQueued (tasks : List (Option Task)) (order : List ℕ) (ready : List ReadyTask) : Type 0 where
  pub priorities : AllPass fits_slot tasks
  pub places : ready ≡ places_in tasks order
