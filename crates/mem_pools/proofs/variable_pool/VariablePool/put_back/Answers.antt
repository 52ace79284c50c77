use Rattle.mem_pools.proofs.Blocks.{freed}
use Rattle.mem_pools.proofs.variable_pool.VariablePool.put_back.Goals as goal

pub invariant_of-self : goal.invariant_of-self
invariant_of-self c = freed _ c.args.offset _ _ _ _ c.self.invariant c.take_out.ensures.left c.take_out.ensures.room
