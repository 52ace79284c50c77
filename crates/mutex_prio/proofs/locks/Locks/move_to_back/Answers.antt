use Rattle.std.proofs.Common.{rules}
use Rattle.mutex_prio.proofs.Rooms.{locks_room, locks_back}
use Rattle.mutex_prio.proofs.locks.Locks.move_to_back.Goals as goal

pub push_reserved-requires : goal.push_reserved-requires
push_reserved-requires c = locks_room c.args.id _ _ _ _ _ (search rules) c.self.invariant c.take_out.ensures.items c.take_out.ensures.capacity (search rules)

pub invariant_of-self : goal.invariant_of-self
invariant_of-self c = locks_back c.args.id _ _ _ _ _ _ (search rules) c.self.invariant c.take_out.ensures.items c.take_out.ensures.capacity c.push_reserved.ensures.items c.push_reserved.ensures.capacity
