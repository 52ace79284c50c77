-- Which waiter is looked for.
use Rattle.std.specs.Prelude.{Bool}
use Rattle.wait_queue.specs.declared.waiters.Waiter.{Waiter}
use Rattle.wait_queue.specs.declared.waiters.Sought.{Sought}
use Rattle.wait_queue.specs.declared.waiters.Sought.TheVariants.{Task, Object, Behind}
use Rattle.wait_queue.specs.Queues.{is_of_task, is_of_object, is_ahead}

-- whether a waiter is one that is looked for
abbrev pub is_sought : Sought → Waiter → Bool
is_sought (Task task) waiter = is_of_task task waiter
is_sought (Object object) waiter = is_of_object object waiter
is_sought (Behind other) waiter = is_ahead other waiter
