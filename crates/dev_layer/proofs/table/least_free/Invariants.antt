use Rattle.std.proofs.Common.{◌≡◌, drop}
use Rattle.kernel_model.specs.Words.Orders.{free_from}
use Rattle.dev_layer.proofs.table.least_free.Given as goal

-- the least free ID of what is left is that of all
abbrev pub invariant-slots : goal.invariant-slots
invariant-slots l = free_from l.descriptor (drop l.descriptor l.slots) ≡ free_from 1 (drop 1 l.slots)
