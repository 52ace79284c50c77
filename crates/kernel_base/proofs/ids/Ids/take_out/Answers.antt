use Rattle.kernel_base.proofs.Rooms.{order_without}
use Rattle.kernel_base.proofs.ids.Ids.take_out.Goals as goal

pub invariant_of-self : goal.invariant_of-self
invariant_of-self c = order_without c.args.id _ _ _ _ c.self.invariant c.take_out.ensures.items c.take_out.ensures.capacity
