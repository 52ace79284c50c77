use Rattle.kernel_base.proofs.Rooms.{due_taken}
use Rattle.kernel_base.proofs.base.Base.pop_due.Goals as goal

pub invariant_of-self : goal.invariant_of-self
invariant_of-self c = record { room = due_taken _ _ _ _ c.self.invariant.room c.pop_due.ensures.left; queue = c.self.invariant.queue; waits = c.self.invariant.waits }
