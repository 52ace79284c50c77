use Rattle.std.proofs.Common.{None}
use Rattle.kernel_base.proofs.Rooms.{slot_written}
use Rattle.kernel_base.proofs.Queued.{queued_erased}
use Rattle.kernel_base.proofs.Waited.{left_erased}
use Rattle.kernel_base.proofs.base.Base.erase.Goals as goal

pub invariant_of-self : goal.invariant_of-self
invariant_of-self c = record {
  room = slot_written c.args.task None _ _ _ c.self.invariant.room;
  queue = queued_erased c.args.task _ _ _ _ _ c.self.invariant.queue c.requeue.ensures c.take_out.ensures;
  waits = left_erased c.args.task _ _ _ _ _ _ c.take_out.ensures c.leave.ensures c.self.invariant.waits;
}
