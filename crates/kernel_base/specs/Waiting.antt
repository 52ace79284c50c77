-- The queue of the tasks that wait: the waiters of each object are the tasks that wait for it, in the order of its queue,
-- each with its current priority.
use Rattle.std.specs.Prelude.{◌≡◌, ℕ, ◌<◌, ◌≤◌, Bool, true, List, Option, Some, None, filter, fold, map, slice_get}
use Rattle.tk_types.specs.declared.task.Task.{Task}
use Rattle.tk_types.specs.declared.task.Phase.{Phase}
use Rattle.tk_types.specs.declared.task.Phase.TheVariants.{Dormant, Waiting}
use Rattle.tk_types.specs.declared.task.Order.{Order}
use Rattle.tk_types.specs.declared.task.Order.TheVariants.{Fifo, Priority}
use Rattle.wait_queue.specs.declared.waiters.Waiter.{Waiter}
use Rattle.wait_queue.specs.Queues.{WaitTable, joined, queue_of, reordered, without_waiter}
use Rattle.wait_queue.specs.Facts as waiters
use Rattle.kernel_model.specs.Words.Orders.{entry, sort_by, to_back}
use Rattle.kernel_model.specs.LawWords.Once.{times}
use Rattle.kernel_model.specs.Tasks.Base.{Base, current_in, task_at, waiting_in}
use Rattle.kernel_model.specs.Tasks.Queues.{queue_at, queue_in}
use Rattle.kernel_base.specs.Queues.{behind}

-- how many objects there are
abbrev pub most_objects : ℕ
most_objects = 1024

-- whether a task waits for an object by a table, and its current priority there
abbrev pub waits_at : List (Option Task) → ℕ → ℕ → Bool
waits_at tasks object t = waiting_in object (entry tasks t)

abbrev pub priority_at : List (Option Task) → ℕ → ℕ
priority_at tasks t = current_in (entry tasks t)

-- the tasks that wait for an object by a table, in the order of their stamps, and in a queue of this order
abbrev pub queued_in : Order → List (Option Task) → List ℕ → List ℕ → ℕ → List ℕ
queued_in Fifo tasks order since object = filter (waits_at tasks object) since
queued_in Priority tasks order since object = sort_by (priority_at tasks) (filter (waits_at tasks object) order)

-- a row as a waiter for an object
abbrev pub waiter_as : ℕ → ℕ → Option Task → Waiter
waiter_as object t slot = record { object = object; task = t; order = queue_in slot; priority = current_in slot }

abbrev pub waiter_at : List (Option Task) → ℕ → ℕ → Waiter
waiter_at tasks object t = waiter_as object t (entry tasks t)

-- what holds of a task that waits
pub record IsWaiter (object : ℕ) (by : Order) (order since : List ℕ) (t : ℕ) (slot : Option Task) : Type 0 where
  pub below : object < most_objects
  pub alike : queue_in slot ≡ by
  pub ranks : 1 ≤ times t order
  pub stands : 1 ≤ times t since

-- the waiters of one object: all queue in one order, and stand in it
pub record IsQueue (tasks : List (Option Task)) (order since : List ℕ) (list : List Waiter) (object : ℕ) : Type 0 where
  pub by : Order
  pub each : (t : ℕ) → waits_at tasks object t ≡ true → IsWaiter object by order since t (entry tasks t)
  pub stand : queue_of object list ≡ map (waiter_at tasks object) (queued_in by tasks order since object)

-- the waiters of all objects
pub record AreWaits (tasks : List (Option Task)) (order since : List ℕ) (waits : WaitTable) : Type 0 where
  pub objects : waits.objects ≡ most_objects
  pub queues : (object : ℕ) → IsQueue tasks order since waits.waiters object

-- a task whose slot is written leaves its queue, and joins the one that it waits in now as the last, or as the last of its
-- equals
abbrev pub rewaited_in : Phase → ℕ → Task → List Waiter → List Waiter
rewaited_in (Waiting object) t k list = joined (waiter_as object t (Some k)) (without_waiter t list)
rewaited_in _ t k list = without_waiter t list

abbrev pub rewaited : ℕ → Option Task → List Waiter → List Waiter
rewaited t None list = without_waiter t list
rewaited t (Some k) list = rewaited_in k.phase t k list

-- a task that takes a new stamp: in a queue by priority it joins anew, in another one it stays where it is
abbrev pub restamped_by : Order → ℕ → Task → List Waiter → List Waiter
restamped_by Fifo t k list = reordered t k.current list
restamped_by Priority t k list = rewaited t (Some k) list

abbrev pub restamped : ℕ → Option Task → List Waiter → List Waiter
restamped t None list = without_waiter t list
restamped t (Some k) list = restamped_by k.queue t k list

-- a task that takes the last place by the beginning of its wait: in a queue in that order it becomes the last
abbrev pub renewed_by : Order → ℕ → Task → List Waiter → List Waiter
renewed_by Fifo t k list = rewaited t (Some k) list
renewed_by Priority t k list = list

abbrev pub renewed : ℕ → Option Task → List Waiter → List Waiter
renewed t None list = without_waiter t list
renewed t (Some k) list = renewed_by k.queue t k list

-- the IDs of a list take the last place one after another
abbrev pub moved_back : List ℕ → List ℕ → List ℕ
moved_back ids order = fold (λ moved id. to_back id moved) order ids

-- a row may join the queue that it waits in
pub record MayQueue (slot : Option Task) (waits : WaitTable) : Type 0 where
  pub below : (object : ℕ) → waiting_in object slot ≡ true → object < waits.objects
  pub alike : (object : ℕ) → waiting_in object slot ≡ true → waiters.AreOfOrder (queue_in slot) (queue_of object waits.waiters)

-- where a task is; a free slot is as one that was not started
abbrev pub phase_in : Option Task → Phase
phase_in None = Dormant
phase_in (Some k) = k.phase

-- the object that a row waits for, 0 where it doesn't wait
abbrev pub object_of_phase : Phase → ℕ
object_of_phase (Waiting object) = object
object_of_phase _ = 0

abbrev pub object_of : Option Task → ℕ
object_of slot = object_of_phase (phase_in slot)

-- the task behind one that waits, in the queue of the object that it waits for
abbrev pub next_waiting : Base → ℕ → Option ℕ
next_waiting b t = slice_get (behind t (queue_at b (object_of (task_at b t)))) 0
