use Rattle.mem_pools.proofs.Fixed.{few_free}
use Rattle.mem_pools.proofs.fixed_pool.FixedPool.free_blocks.Goals as goal

pub returns-clause-few : goal.returns-clause-few
returns-clause-few c = few_free _ _ _ c.self.invariant
