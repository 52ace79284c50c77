use Rattle.kernel_base.proofs.Firsts.{chosen_none, chosen_some}
use Rattle.kernel_base.proofs.base.Base.chosen.Goals as goal

pub returns-in-None : goal.returns-in-None
returns-in-None c = chosen_none _ _ _ _ c.self.invariant.queue.places c.self.view_is c.first.ensures c.in-None.is

pub returns-in-Some : goal.returns-in-Some
returns-in-Some c = chosen_some _ _ _ _ _ c.self.invariant.queue.places c.self.view_is c.first.ensures c.in-Some.is
