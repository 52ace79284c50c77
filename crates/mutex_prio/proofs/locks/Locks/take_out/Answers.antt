use Rattle.mutex_prio.proofs.Rooms.{locks_without}
use Rattle.mutex_prio.proofs.locks.Locks.take_out.Goals as goal

pub invariant_of-self : goal.invariant_of-self
invariant_of-self c = locks_without c.args.id _ _ _ _ c.self.invariant c.take_out.ensures.items c.take_out.ensures.capacity
