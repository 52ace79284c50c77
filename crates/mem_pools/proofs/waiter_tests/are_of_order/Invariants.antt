use Rattle.std.proofs.Common.{◌≡◌, ◌<◌, ℕ, true}
use Rattle.kernel_model.specs.Tasks.Base.{task_at, waits_for}
use Rattle.kernel_model.specs.Tasks.Queues.{queue_in}
use Rattle.mem_pools.proofs.waiter_tests.are_of_order.Given as goal

-- those so far queue in that order
abbrev pub invariant-tasks : goal.invariant-tasks
invariant-tasks l = (t : ℕ) → t < l.task → waits_for l.base l.obj t ≡ true → queue_in (task_at l.base t) ≡ l.order
