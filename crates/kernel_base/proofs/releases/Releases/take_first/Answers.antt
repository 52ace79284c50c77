use Rattle.kernel_base.proofs.Rooms.{releases_drop}
use Rattle.kernel_base.proofs.releases.Releases.take_first.Goals as goal

pub invariant_of-self : goal.invariant_of-self
invariant_of-self c = releases_drop _ _ _ _ c.self.invariant c.remove.ensures.items c.remove.ensures.capacity
