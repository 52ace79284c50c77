use Rattle.std.proofs.Common.{rules}
use Rattle.kernel_base.proofs.Rooms.{event_room, event_added, unset_nowhere, handler_below}
use Rattle.kernel_base.proofs.base.Base.add_event.Goals as goal

pub add-requires-clause-room : goal.add-requires-clause-room
add-requires-clause-room c = event_room c.args.what _ c.self.inside.due (handler_below c.args.what c.requires.handler) (unset_nowhere c.args.what _ (search rules)) c.self.invariant.room

pub invariant_of-self : goal.invariant_of-self
invariant_of-self c = record {
  room = event_added c.args.due c.args.what _ _ _ (handler_below c.args.what c.requires.handler) (unset_nowhere c.args.what _ (search rules)) c.self.invariant.room c.add.ensures.set;
  queue = c.self.invariant.queue;
  waits = c.self.invariant.waits;
}
