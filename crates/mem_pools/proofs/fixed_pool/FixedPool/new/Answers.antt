use Rattle.mem_pools.proofs.Fixed.{fresh}
use Rattle.mem_pools.proofs.fixed_pool.FixedPool.new.Goals as goal

pub invariant_of-result : goal.invariant_of-result
invariant_of-result c = fresh _ c.args.count c.requires.few c.in_ok-free_places.ensures
