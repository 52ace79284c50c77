use Rattle.std.proofs.Common.{Some, arith, rules}
use Rattle.kernel_base.proofs.Rooms.{slot_written}
use Rattle.kernel_base.proofs.Queued.{queued_stopped}
use Rattle.kernel_base.proofs.Waited.{waits_written}
use Rattle.kernel_base.proofs.base.Base.write_stopped.Goals as goal

pub invariant_of-self : goal.invariant_of-self
invariant_of-self c = record {
  room = slot_written c.args.task (Some c.args.row) _ _ _ c.self.invariant.room;
  queue = queued_stopped c.args.task (Some c.args.row) _ _ _ _ (omega (arith, c.self.invariant.room.slots)) c.requires.priorities c.requires.stopped c.self.invariant.queue c.requeue.ensures;
  waits = waits_written c.args.task (Some c.args.row) _ _ _ _ (omega (arith, c.self.invariant.room.slots)) (search rules) (search rules) (search rules) c.self.invariant.waits;
}
