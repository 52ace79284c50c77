-- The queue of an object as it stands. All tasks that wait for one object queue in one order; it is that of the
-- earliest of them.
use Rattle.std.specs.Prelude.{◌≡◌, ℕ, true, List, [], ◌∷◌, Option, Some, None}
use Rattle.tk_types.specs.declared.task.Task.{Task}
use Rattle.tk_types.specs.declared.task.Order.{Order}
use Rattle.tk_types.specs.declared.task.Order.TheVariants.{Fifo}
use Rattle.kernel_model.specs.Words.Orders.{entry}
use Rattle.kernel_model.specs.Tasks.Base.{Base, fifo_queue, queue, task_at, waits_for}

-- the order of the queue that a row stands in
abbrev pub queue_in : Option Task → Order
queue_in None = Fifo
queue_in (Some k) = k.queue

-- the same of the first task of a list
abbrev pub order_of_first : List (Option Task) → List ℕ → Order
order_of_first tasks [] = Fifo
order_of_first tasks (t ∷ ts) = queue_in (entry tasks t)

-- how the earliest waiter of an object queues, by the beginning of its wait where none waits
abbrev pub order_at : Base → ℕ → Order
order_at b object = order_of_first b.tasks (fifo_queue b object)

-- the tasks that wait for an object, in the order of its queue
abbrev pub queue_at : Base → ℕ → List ℕ
queue_at b object = queue (order_at b object) b object

-- all tasks that wait for an object queue in this order
pub record AreOfOrder (order : Order) (b : Base) (object : ℕ) : Type 0 where
  pub alike : (t : ℕ) → waits_for b object t ≡ true → queue_in (task_at b t) ≡ order
