use Rattle.dev_layer.proofs.Opened.{wish_written}
use Rattle.dev_layer.proofs.table.Devices.set_wish.Goals as goal

pub invariant_of-self : goal.invariant_of-self
invariant_of-self c = wish_written c.self.inside.buffers.items c.self.inside.opened.items c.self.inside.wishes.items c.args.task c.args.wish c.self.invariant c.requires
