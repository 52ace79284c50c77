use Rattle.kernel_base.proofs.Unset.{event_dropped}
use Rattle.kernel_base.proofs.base.Base.cancel_handler.Goals as goal

pub invariant_of-self : goal.invariant_of-self
invariant_of-self c = record { room = event_dropped c.args.what _ _ _ c.self.invariant.room c.drop_event.ensures.left; queue = c.self.invariant.queue; waits = c.self.invariant.waits }
