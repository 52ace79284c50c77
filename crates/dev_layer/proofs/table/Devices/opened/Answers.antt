use Rattle.std.proofs.Common.{◌<◌, length, arith}
use Rattle.dev_layer.proofs.Opened.{high_at, low_at}
use Rattle.dev_layer.proofs.Slots.{there_at}
use Rattle.dev_layer.proofs.table.Devices.opened.Goals as goal

pub returns-clause-low : goal.returns-clause-low
returns-clause-low c =
    let all = c.self.invariant.all_opened in
    let small = c.requires in
    let inside : c.args.descriptor < length c.self.inside.opened.items = omega (arith, all, small) in
    low_at c.self.inside.buffers.items c.self.inside.opened.items c.self.inside.wishes.items c.args.descriptor c.index.result.now c.self.invariant (there_at c.self.inside.opened.items c.args.descriptor c.index.result.now inside c.index.ensures)

pub returns-clause-high : goal.returns-clause-high
returns-clause-high c =
    let all = c.self.invariant.all_opened in
    let small = c.requires in
    let inside : c.args.descriptor < length c.self.inside.opened.items = omega (arith, all, small) in
    high_at c.self.inside.buffers.items c.self.inside.opened.items c.self.inside.wishes.items c.args.descriptor c.index.result.now c.self.invariant (there_at c.self.inside.opened.items c.args.descriptor c.index.result.now inside c.index.ensures)
