use Rattle.std.proofs.Common.{◌≡◌, None, replicate}
use Rattle.sem_flag.proofs.table.free_sems.Given as goal

abbrev pub invariant-slots : goal.invariant-slots
invariant-slots l = l.slots.items ≡ replicate l._id None
