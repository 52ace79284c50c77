use Rattle.kernel_base.proofs.Rooms.{wait_dropped}
use Rattle.kernel_base.proofs.base.Base.move_wait.Goals as goal

pub invariant_of-self : goal.invariant_of-self
invariant_of-self c = record {
  room = wait_dropped c.args.task _ _ _ c.self.invariant.room c.drop_wait.ensures;
  queue = c.self.invariant.queue;
  waits = c.self.invariant.waits;
}
