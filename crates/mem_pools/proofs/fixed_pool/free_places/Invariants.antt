use Rattle.std.proofs.Common.{◌≡◌, false, replicate}
use Rattle.mem_pools.proofs.fixed_pool.free_places.Given as goal

abbrev pub invariant-places : goal.invariant-places
invariant-places l = l.out.items ≡ replicate l._place false
