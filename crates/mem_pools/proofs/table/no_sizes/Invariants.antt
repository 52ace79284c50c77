use Rattle.std.proofs.Common.{◌≡◌, replicate}
use Rattle.mem_pools.proofs.table.no_sizes.Given as goal

abbrev pub invariant-tasks : goal.invariant-tasks
invariant-tasks l = l.sizes.items ≡ replicate l._task 0
