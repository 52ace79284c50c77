use Rattle.std.proofs.Common.{Some}
use Rattle.mutex_prio.proofs.Tables.{locked_at}
use Rattle.mutex_prio.proofs.table.Mutexes.lock.Goals as goal

pub invariant_of-self : goal.invariant_of-self
invariant_of-self c =
    locked_at c.self.inside.slots.items c.self.inside.locks c.move_to_back.new.self c.self.inside.used c.max-self-inside.result c.args.id
    (Some (record c.args.row { owner = c.args.task })) c.requires.known c.self.invariant c.requires.ceiling c.move_to_back.ensures c.max-self-inside.ensures
