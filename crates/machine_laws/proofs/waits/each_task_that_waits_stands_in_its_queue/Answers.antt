use Rattle.order_lemmas.proofs.ReachedOrders.{reached_orderly}
use Rattle.machine_laws.proofs.waits.each_task_that_waits_stands_in_its_queue.Goals as goal

pub returns : goal.returns
returns c = record { reached = reached_orderly }
