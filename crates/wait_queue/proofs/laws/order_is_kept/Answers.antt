use Rattle.std.proofs.Common.{not}
use Rattle.wait_queue.specs.Queues.{is_of_task}
use Rattle.wait_queue.proofs.Kept.{of_queue, order_filter, order_joined}
use Rattle.wait_queue.proofs.Lasts.{queue_rises}
use Rattle.wait_queue.proofs.Reordered.{order_reordered}
use Rattle.wait_queue.proofs.laws.order_is_kept.Goals as goal

pub returns-clause-joining : goal.returns-clause-joining
returns-clause-joining c = λ waiter list orders. order_joined waiter list (of_queue waiter list orders)

pub returns-clause-leaving : goal.returns-clause-leaving
returns-clause-leaving c = λ task. order_filter (λ waiter. not (is_of_task task waiter))

pub returns-clause-reordering : goal.returns-clause-reordering
returns-clause-reordering c = order_reordered

pub returns-clause-rises : goal.returns-clause-rises
returns-clause-rises c = queue_rises
