use Rattle.std.proofs.Common.{ap, rules, ◌∙◌}
use Rattle.object_model.specs.Mutexes.Tables.{owner_in}
use Rattle.mutex_prio.proofs.Tables.{freed_at, ownerless_free}
use Rattle.mutex_prio.proofs.table.Mutexes.free.Goals as goal

pub invariant_of-self : goal.invariant_of-self
invariant_of-self c =
    freed_at c.self.inside.slots.items c.self.inside.locks c.take_out.new.self c.self.inside.used c.max-self-inside.result c.args.id c.ownerless.result
    c.requires c.self.invariant c.ownerless.ensures.fits (ap owner_in c.ownerless.ensures.slot ∙ ownerless_free c.mutex.result) c.take_out.ensures c.max-self-inside.ensures
