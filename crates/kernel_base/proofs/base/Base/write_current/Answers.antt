use Rattle.std.proofs.Common.{Some, arith, rules}
use Rattle.kernel_base.proofs.Rooms.{slot_written}
use Rattle.kernel_base.proofs.Queued.{queued_last}
use Rattle.kernel_base.proofs.Waited.{may_restamp, restamped_to_last}
use Rattle.kernel_base.proofs.base.Base.write_current.Goals as goal

pub restamp-requires-clause-queue : goal.restamp-requires-clause-queue
restamp-requires-clause-queue c = may_restamp c.args.task (Some c.args.row) _ _ _ _ (search rules) (search rules) c.self.invariant.waits

pub invariant_of-self : goal.invariant_of-self
invariant_of-self c = record {
  room = slot_written c.args.task (Some c.args.row) _ _ _ c.self.invariant.room;
  queue = queued_last c.args.task (Some c.args.row) _ _ _ _ _ (omega (arith, c.self.invariant.room.slots)) c.requires.priorities c.self.invariant.queue c.requeue.ensures c.move_to_back.ensures;
  waits = restamped_to_last c.args.task (Some c.args.row) _ _ _ _ _ _ (omega (arith, c.self.invariant.room.slots)) (search rules) (search rules) c.move_to_back.ensures c.restamp.ensures c.self.invariant.waits;
}
