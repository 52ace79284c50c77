use Rattle.std.proofs.Common.{◌≡◌, ◌≤◌, ◌-◌, ◌*◌, false}
use Rattle.dev_units.specs.Progress.{IsUnderWay, brought}
use Rattle.dev_units.specs.Views.{HasRoom}
use Rattle.dev_units.proofs.tests.served.Given as goal

-- the request is under way, and there is room for the rest of it
abbrev pub invariant-blocks-2 : goal.invariant-blocks-2
invariant-blocks-2 l =
    (l.unit.kind ≡ l.fn.unit.kind)
    × IsUnderWay l.fn.unit.kind l.fn.unit.store l.request l.block l.unit.store (brought l.request l.out.items)
    × (l.request.write ≡ false → HasRoom l.request l.block l.out)
    × (64 * l.block ≤ l.request.size)

abbrev pub decreases-blocks-2 : goal.decreases-blocks-2
decreases-blocks-2 l = l.request.size - 64 * l.block
