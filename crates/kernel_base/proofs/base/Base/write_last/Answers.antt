use Rattle.std.proofs.Common.{Some, arith}
use Rattle.kernel_base.proofs.Rooms.{slot_written}
use Rattle.kernel_base.proofs.Queued.{queued_last}
use Rattle.kernel_base.proofs.Waited.{left_to_last}
use Rattle.kernel_base.proofs.base.Base.write_last.Goals as goal

pub invariant_of-self : goal.invariant_of-self
invariant_of-self c = record {
  room = slot_written c.args.task (Some c.args.row) _ _ _ c.self.invariant.room;
  queue = queued_last c.args.task (Some c.args.row) _ _ _ _ _ (omega (arith, c.self.invariant.room.slots)) c.requires.priorities c.self.invariant.queue c.requeue.ensures c.move_to_back.ensures;
  waits = left_to_last c.args.task (Some c.args.row) _ _ _ _ _ _ (omega (arith, c.self.invariant.room.slots)) c.requires.idle c.move_to_back.ensures c.leave.ensures c.self.invariant.waits;
}
