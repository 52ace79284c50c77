use Rattle.std.proofs.Common.{◌≡◌, replicate}
use Rattle.contexts.proofs.table.zeros.Given as goal

abbrev pub invariant-slots : goal.invariant-slots
invariant-slots l = l.slots.items ≡ replicate l._number 0
