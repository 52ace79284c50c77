use Rattle.std.proofs.Common.{not}
use Rattle.ready_queue.proofs.Keyed.{once_filter}
use Rattle.wait_queue.specs.declared.waiters.Waiter.{Waiter}
use Rattle.wait_queue.specs.Queues.{is_of_task}
use Rattle.wait_queue.proofs.Kept.{once_joined}
use Rattle.wait_queue.proofs.Reordered.{once_reordered}
use Rattle.wait_queue.proofs.laws.tasks_wait_once.Goals as goal

pub returns-clause-joining : goal.returns-clause-joining
returns-clause-joining c = once_joined

pub returns-clause-leaving : goal.returns-clause-leaving
returns-clause-leaving c = λ task. once_filter (λ (w : Waiter). w.task) (λ waiter. not (is_of_task task waiter))

pub returns-clause-reordering : goal.returns-clause-reordering
returns-clause-reordering c = once_reordered
