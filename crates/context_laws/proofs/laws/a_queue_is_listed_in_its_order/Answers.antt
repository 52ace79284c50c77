use Rattle.context_laws.proofs.QueueLists.{in_queue_order, times_queue_at}
use Rattle.context_laws.proofs.laws.a_queue_is_listed_in_its_order.Goals as goal

pub returns-clause-order : goal.returns-clause-order
returns-clause-order c = in_queue_order

pub returns-clause-stands : goal.returns-clause-stands
returns-clause-stands c = times_queue_at
