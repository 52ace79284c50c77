use Rattle.wait_queue.proofs.Put.{none_ahead}
use Rattle.wait_queue.proofs.waiters.place_for.Goals as goal

pub returns-in-Fifo-clause-index : goal.returns-in-Fifo-clause-index
returns-in-Fifo-clause-index g c = none_ahead c.args.waiter c.args.waiters.now c.in-Fifo.is
