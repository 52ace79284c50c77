use Rattle.time_queue.proofs.Kept.{kept_filtered}
use Rattle.time_queue.proofs.due.Due.drop_wait.Goals as goal

pub invariant_of-self : goal.invariant_of-self
invariant_of-self c = rw (c.take_out_wait.ensures.left, c.take_out_wait.ensures.room) (kept_filtered _ _ _ _ _ c.self.invariant)
