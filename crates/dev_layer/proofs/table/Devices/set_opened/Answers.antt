use Rattle.std.proofs.Common.{Some}
use Rattle.dev_layer.proofs.Opened.{opened_written}
use Rattle.dev_layer.proofs.table.Devices.set_opened.Goals as goal

pub invariant_of-self : goal.invariant_of-self
invariant_of-self c = opened_written c.self.inside.buffers.items c.self.inside.opened.items c.self.inside.wishes.items c.args.descriptor (Some c.args.opened) c.self.invariant (c.requires.low, c.requires.high)
