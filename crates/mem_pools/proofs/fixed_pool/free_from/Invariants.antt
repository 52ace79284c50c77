use Rattle.std.proofs.Common.{◌≡◌, ℕ, ◌<◌, ◌≤◌, false, get_or, true}
use Rattle.mem_pools.proofs.fixed_pool.free_from.Given as goal

-- those so far are out
abbrev pub invariant-places : goal.invariant-places
invariant-places l = (n : ℕ) → l.least ≤ n → n < l.number → get_or l.out n false ≡ true
