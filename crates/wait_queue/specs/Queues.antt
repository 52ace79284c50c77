-- The waiters of all objects in one list. Those of one object, in the order in which they stand, are its queue.
use Rattle.std.specs.Prelude.{ℕ, Bool, false, not, ◌==◌, ◌&&◌, nat_lt, if◌then◌else◌, List, [], ◌∷◌, Option, Some, None, map, filter, slice_get}
use Rattle.std.specs.Option.{option_map}
use Rattle.std.specs.List.{list_any}
use Rattle.tk_types.specs.declared.task.Order.{Order}
use Rattle.tk_types.specs.declared.task.Order.TheVariants.{Fifo, Priority}
use Rattle.wait_queue.specs.declared.waiters.Waiter.{Waiter}

-- the objects are numbered from 0
pub record WaitTable : Type 0 where
  pub objects : ℕ  -- how many there are
  pub waiters : List Waiter

-- the tasks in their order
abbrev pub tasks_of : List Waiter → List ℕ
tasks_of list = map (λ waiter. waiter.task) list

abbrev pub is_of_task : ℕ → Waiter → Bool
is_of_task task waiter = waiter.task == task

abbrev pub is_of_object : ℕ → Waiter → Bool
is_of_object object waiter = waiter.object == object

abbrev pub is_of_priority : ℕ → Waiter → Bool
is_of_priority priority waiter = waiter.priority == priority

-- whether a task waits
abbrev pub waits : ℕ → List Waiter → Bool
waits task list = list_any (is_of_task task) list

-- the waiters of an object in order
abbrev pub queue_of : ℕ → List Waiter → List Waiter
queue_of object list = filter (is_of_object object) list

-- the waiters of one priority in order
abbrev pub of_priority : ℕ → List Waiter → List Waiter
of_priority priority list = filter (is_of_priority priority) list

-- whether a waiter goes in front of another one: in a queue by priority, where the other one's number is greater
abbrev pub goes_ahead : Order → Waiter → Waiter → Bool
goes_ahead Fifo waiter other = false
goes_ahead Priority waiter other = is_of_object waiter.object other && nat_lt waiter.priority other.priority

abbrev pub is_ahead : Waiter → Waiter → Bool
is_ahead waiter other = goes_ahead waiter.order waiter other

-- a waiter goes in front of the first one of its object that it is ahead of, else to the end
abbrev pub joined : Waiter → List Waiter → List Waiter
joined waiter [] = waiter ∷ []
joined waiter (first ∷ rest) =
    if is_ahead waiter first then waiter ∷ first ∷ rest else first ∷ joined waiter rest

-- the list without a task
abbrev pub without_waiter : ℕ → List Waiter → List Waiter
without_waiter task list = filter (λ waiter. not (is_of_task task waiter)) list

abbrev pub with_priority : ℕ → Waiter → Waiter
with_priority priority waiter = record waiter { priority = priority }

-- a task's priority is noted where it stands
abbrev pub noted : ℕ → ℕ → List Waiter → List Waiter
noted task priority list = map (λ waiter. if is_of_task task waiter then with_priority priority waiter else waiter) list

-- a waiter gets another priority: in a queue by priority it joins anew, in another one it stays where it is
abbrev pub moved : Order → Waiter → ℕ → List Waiter → List Waiter
moved Fifo waiter priority list = noted waiter.task priority list
moved Priority waiter priority list = joined (with_priority priority waiter) (without_waiter waiter.task list)

abbrev pub first_moved : List Waiter → ℕ → List Waiter → List Waiter
first_moved [] priority list = list
first_moved (first ∷ rest) priority list = moved first.order first priority list

-- a task gets another priority; where it doesn't wait, nothing changes
abbrev pub reordered : ℕ → ℕ → List Waiter → List Waiter
reordered task priority list = first_moved (filter (is_of_task task) list) priority list

-- the task in front, if there is one
abbrev pub first_task : List Waiter → Option ℕ
first_task [] = None
first_task (first ∷ rest) = Some first.task

-- the first task behind this one in its queue
abbrev pub next_waiter : ℕ → List Waiter → Option ℕ
next_waiter task [] = None
next_waiter task (first ∷ rest) =
    if is_of_task task first then first_task (queue_of first.object rest) else next_waiter task rest

-- the task in that place of an object's queue, from 0 on
abbrev pub task_in_place : ℕ → ℕ → List Waiter → Option ℕ
task_in_place object place list = option_map (λ waiter. waiter.task) (slice_get (queue_of object list) place)
