use Rattle.std.proofs.Common.{rules}
use Rattle.kernel_base.proofs.Queued.{queued_moved}
use Rattle.kernel_base.proofs.Waited.{may_restamp_own, waits_moved}
use Rattle.kernel_base.proofs.base.Base.move_to_back.Goals as goal

pub restamp-requires-clause-queue : goal.restamp-requires-clause-queue
restamp-requires-clause-queue c = may_restamp_own c.args.task _ _ _ _ _ (search rules) c.self.invariant.waits

pub invariant_of-self : goal.invariant_of-self
invariant_of-self c = record {
  room = c.self.invariant.room;
  queue = queued_moved c.args.task _ _ _ _ _ c.self.invariant.queue (search rules) c.move_to_back.ensures;
  waits = waits_moved c.args.task c.slot-slot.result _ _ _ _ _ _ (search rules) c.move_to_back.ensures c.restamp.ensures c.self.invariant.waits;
}
