use Rattle.std.proofs.Common.{rules}
use Rattle.tk_types.specs.declared.task.Event.TheVariants.{Wait}
use Rattle.kernel_base.proofs.Rooms.{wait_dropped, none_after_drop, below_most, event_room, event_added}
use Rattle.kernel_base.proofs.base.Base.make_wait.Goals as goal

pub add-requires-clause-room : goal.add-requires-clause-room
add-requires-clause-room c =
    event_room (Wait c.args.task) _ c.drop_wait.new.self (below_most c.args.task (search rules)) (none_after_drop c.args.task c.self.inside.due _ (search rules) c.drop_wait.ensures)
    (wait_dropped c.args.task _ c.self.inside.due _ c.self.invariant.room c.drop_wait.ensures)

pub invariant_of-self : goal.invariant_of-self
invariant_of-self c = record {
  room = event_added _ (Wait c.args.task) _ _ _ (below_most c.args.task (search rules)) (none_after_drop c.args.task _ _ (search rules) c.drop_wait.ensures)
      (wait_dropped c.args.task _ _ _ c.self.invariant.room c.drop_wait.ensures) c.add.ensures.set;
  queue = c.self.invariant.queue;
  waits = c.self.invariant.waits;
}

pub invariant_of-self-else-tmout-ge0 : goal.invariant_of-self-else-tmout-ge0
invariant_of-self-else-tmout-ge0 c = record {
  room = wait_dropped c.args.task _ _ _ c.self.invariant.room c.drop_wait.ensures;
  queue = c.self.invariant.queue;
  waits = c.self.invariant.waits;
}
