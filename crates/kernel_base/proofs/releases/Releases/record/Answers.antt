use Rattle.std.proofs.Common.{rules}
use Rattle.kernel_base.proofs.Rooms.{releases_room, releases_more}
use Rattle.kernel_base.proofs.releases.Releases.record.Goals as goal

pub push_reserved-requires : goal.push_reserved-requires
push_reserved-requires c = releases_room c.args.task _ _ _ _ _ (search rules) c.self.invariant c.take_out.ensures.items c.take_out.ensures.capacity (search rules)

pub invariant_of-self : goal.invariant_of-self
invariant_of-self c = releases_more c.args.task c.args.answer _ _ _ _ _ _ (search rules) c.self.invariant c.take_out.ensures.items c.take_out.ensures.capacity c.push_reserved.ensures.items c.push_reserved.ensures.capacity
