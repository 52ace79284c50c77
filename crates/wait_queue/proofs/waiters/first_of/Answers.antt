use Rattle.wait_queue.proofs.Next.{first_at, first_past}
use Rattle.wait_queue.proofs.waiters.first_of.Goals as goal

pub returns-in-None : goal.returns-in-None
returns-in-None c = first_past c.args.object c.args.waiters.now c.in-None.ensures

pub returns-in-Some : goal.returns-in-Some
returns-in-Some c = first_at c.args.object c.args.waiters.now c.in-Some.index _ c.in-Some.ensures
