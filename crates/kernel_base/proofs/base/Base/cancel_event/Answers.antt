use Rattle.kernel_base.proofs.Rooms.{key_dropped}
use Rattle.kernel_base.proofs.base.Base.cancel_event.Goals as goal

pub invariant_of-self : goal.invariant_of-self
invariant_of-self c = record { room = key_dropped c.args.key _ _ _ c.self.invariant.room c.cancel.ensures.left; queue = c.self.invariant.queue; waits = c.self.invariant.waits }
