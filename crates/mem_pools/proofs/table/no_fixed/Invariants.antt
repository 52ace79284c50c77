use Rattle.std.proofs.Common.{◌≡◌, None, replicate}
use Rattle.mem_pools.proofs.table.no_fixed.Given as goal

abbrev pub invariant-slots : goal.invariant-slots
invariant-slots l = l.slots.items ≡ replicate l._id None
