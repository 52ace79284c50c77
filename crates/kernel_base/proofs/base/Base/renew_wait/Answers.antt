use Rattle.std.proofs.Common.{rules}
use Rattle.kernel_base.proofs.Waited.{may_restamp_own}
use Rattle.kernel_base.proofs.Restored.{waits_renewed}
use Rattle.kernel_base.proofs.base.Base.renew_wait.Goals as goal

pub renew-requires-clause-queue : goal.renew-requires-clause-queue
renew-requires-clause-queue c = may_restamp_own c.args.task _ _ _ _ _ (search rules) c.self.invariant.waits

pub invariant_of-self : goal.invariant_of-self
invariant_of-self c = record {
  room = c.self.invariant.room;
  queue = c.self.invariant.queue;
  waits = waits_renewed c.args.task c.slot-slot.result c.self.inside.tasks.items _ _ _ _ _ (search rules) c.move_to_back.ensures c.renew.ensures c.self.invariant.waits;
}
