use Rattle.std.proofs.Common.{None, refl, rules}
use Rattle.mutex_prio.proofs.Tables.{freed_at}
use Rattle.mutex_prio.proofs.table.Mutexes.delete.Goals as goal

pub invariant_of-self : goal.invariant_of-self
invariant_of-self c = freed_at c.self.inside.slots.items c.self.inside.locks c.take_out.new.self c.self.inside.used c.max-self-inside.result c.args.id None c.requires c.self.invariant refl refl c.take_out.ensures c.max-self-inside.ensures
