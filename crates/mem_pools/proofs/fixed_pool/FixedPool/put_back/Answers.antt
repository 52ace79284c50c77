use Rattle.std.proofs.Common.{rules, arith}
use Rattle.mem_pools.proofs.Fixed.{few_free, one_back}
use Rattle.mem_pools.proofs.fixed_pool.FixedPool.put_back.Goals as goal

pub overflow_add-self : goal.overflow_add-self
overflow_add-self c = let few = few_free _ _ _ c.self.invariant in omega (arith, few)

pub invariant_of-self : goal.invariant_of-self
invariant_of-self c =
    one_back c.self.inside.out.items c.self.inside.least c.self.inside.free c.args.number c.min-self-inside.result c.self.invariant (search rules) c.min-self-inside.ensures
