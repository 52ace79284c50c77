use Rattle.time_queue.proofs.Kept.{kept_filtered}
use Rattle.time_queue.proofs.due.Due.drop_event.Goals as goal

pub invariant_of-self : goal.invariant_of-self
invariant_of-self c = rw (c.take_out_event.ensures.left, c.take_out_event.ensures.room) (kept_filtered _ _ _ _ _ c.self.invariant)
