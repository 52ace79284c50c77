use Rattle.std.proofs.Common.{◌∙◌}
use Rattle.time_queue.proofs.Kept.{inserted_at_place}
use Rattle.time_queue.proofs.due.set_event.Goals as goal

pub returns-in-Ok-clause-set : goal.returns-in-Ok-clause-set
returns-in-Ok-clause-set c =
    c.in-Ok.ensures.items ∙ rw (c.place_for-place.ensures.place, c.deref.ensures.value) (inserted_at_place c.args.event c.args.events.now.items)
