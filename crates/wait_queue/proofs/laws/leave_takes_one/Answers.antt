use Rattle.ready_queue.proofs.Keyed.{gone}
use Rattle.wait_queue.specs.declared.waiters.Waiter.{Waiter}
use Rattle.wait_queue.proofs.Others.{leave_takes_one, leaves_queue}
use Rattle.wait_queue.proofs.laws.leave_takes_one.Goals as goal

pub returns-clause-gone : goal.returns-clause-gone
returns-clause-gone c = gone (λ (w : Waiter). w.task)

pub returns-clause-one : goal.returns-clause-one
returns-clause-one c = leave_takes_one

pub returns-clause-order : goal.returns-clause-order
returns-clause-order c = leaves_queue
