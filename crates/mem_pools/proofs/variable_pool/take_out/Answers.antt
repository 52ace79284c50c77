use Rattle.std.proofs.Common.{rules, not, ◌==◌}
use Rattle.std.proofs.lemmas.Fn.{filter_same}
use Rattle.object_model.specs.declared.pools.Block.{Block}
use Rattle.mem_pools.proofs.variable_pool.take_out.Goals as goal

pub returns-clause-left : goal.returns-clause-left
returns-clause-left c =
    filter_same _ (λ (block : Block). not (block.offset == c.args.offset)) _ (λ block b after call. search rules) _ _ c.retain.ensures.filtered
