use Rattle.std.proofs.Common.{◌≡◌, None, replicate}
use Rattle.dev_layer.proofs.table.free_slots.Given as goal

abbrev pub invariant-slots : goal.invariant-slots
invariant-slots l = l.slots.items ≡ replicate l._descriptor None
