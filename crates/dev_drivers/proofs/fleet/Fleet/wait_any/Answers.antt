use Rattle.dev_drivers.proofs.Fleets.{fleet_on}
use Rattle.dev_drivers.proofs.fleet.Fleet.wait_any.Goals as goal

pub invariant_of-self : goal.invariant_of-self
invariant_of-self g c = fleet_on g.P.Started.job_of c.self.inside.lines.items _ c.self.inside.kept.items _ c.self.invariant c.await_first.ensures.kept
