use Rattle.std.proofs.Common.{Some, arith}
use Rattle.kernel_base.proofs.Rooms.{slot_written}
use Rattle.kernel_base.proofs.Queued.{queued_stopped}
use Rattle.kernel_base.proofs.Waited.{left_in_place}
use Rattle.kernel_base.proofs.base.Base.write_idle.Goals as goal

pub invariant_of-self : goal.invariant_of-self
invariant_of-self c = record {
  room = slot_written c.args.task (Some c.args.row) _ _ _ c.self.invariant.room;
  queue = queued_stopped c.args.task (Some c.args.row) _ _ _ _ (omega (arith, c.self.invariant.room.slots)) c.requires.priorities c.requires.stopped c.self.invariant.queue c.requeue.ensures;
  waits = left_in_place c.args.task (Some c.args.row) _ _ _ _ _ (omega (arith, c.self.invariant.room.slots)) c.requires.idle c.leave.ensures c.self.invariant.waits;
}
