use Rattle.std.proofs.Common.{subst}
use Rattle.kernel_model.specs.Tasks.Waits.{HavePlaces}
use Rattle.kernel_base.proofs.base.Base.known_of_tasks.Goals as goal

-- a queue's waiters have their places
pub returns-clause-places : goal.returns-clause-places
returns-clause-places c = subst HavePlaces c.self.view_is (record {
  ranks = λ t object waits. ((c.self.invariant.waits.queues object).each t waits).ranks;
  stands = λ t object waits. ((c.self.invariant.waits.queues object).each t waits).stands;
})
