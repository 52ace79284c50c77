use Rattle.std.proofs.Common.{rules}
use Rattle.mutex_prio.proofs.Rooms.{view_each}
use Rattle.mutex_prio.proofs.locks.Locks.as_slice.Goals as goal

pub returns-clause-known : goal.returns-clause-known
returns-clause-known c = view_each c.args.self.now c.self.inside.list.items (search rules) c.self.invariant.below
