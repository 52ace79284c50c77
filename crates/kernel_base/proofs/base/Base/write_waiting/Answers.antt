use Rattle.std.proofs.Common.{Some, arith, ap, rules}
use Rattle.tk_types.specs.declared.task.Task.{Task}
use Rattle.kernel_base.proofs.Rooms.{slot_written}
use Rattle.kernel_base.proofs.Queued.{queued_last}
use Rattle.kernel_base.proofs.Waited.{alike_inside, may_wait, waiting_to_last}
use Rattle.kernel_base.proofs.base.Base.write_waiting.Goals as goal

pub rejoin-requires-clause-queue : goal.rejoin-requires-clause-queue
rejoin-requires-clause-queue c =
    may_wait c.args.task c.args.obj c.args.order c.waiting.result c.self.inside.tasks.items c.self.inside.order c.self.inside.since c.self.inside.waits c.requires.object (alike_inside _ _ c.args.order c.args.obj c.requires.order c.self.view_is)
    (ap (λ (k : Task). k.phase) c.waiting.ensures) (ap (λ (k : Task). k.queue) c.waiting.ensures) c.self.invariant.waits

pub invariant_of-self : goal.invariant_of-self
invariant_of-self c = record {
  room = slot_written c.args.task (Some c.waiting.result) _ _ _ c.self.invariant.room;
  queue = queued_last c.args.task (Some c.waiting.result) _ _ _ _ _ (omega (arith, c.self.invariant.room.slots)) (search rules) c.self.invariant.queue c.requeue.ensures c.move_to_back.ensures;
  waits = waiting_to_last c.args.task c.args.obj c.args.order c.waiting.result c.self.inside.tasks.items c.self.inside.order c.move_to_back.new.self c.self.inside.since c.move_to_back-2.new.self c.self.inside.waits c.rejoin.new.waits
      (omega (arith, c.self.invariant.room.slots)) c.requires.object (alike_inside _ _ c.args.order c.args.obj c.requires.order c.self.view_is)
      (ap (λ (k : Task). k.phase) c.waiting.ensures) (ap (λ (k : Task). k.queue) c.waiting.ensures) c.move_to_back.ensures c.move_to_back-2.ensures c.rejoin.ensures c.self.invariant.waits;
}
