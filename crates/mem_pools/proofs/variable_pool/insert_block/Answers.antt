use Rattle.std.proofs.Common.{◌∙◌}
use Rattle.mem_pools.proofs.Placing.{inserted_at_place}
use Rattle.mem_pools.proofs.variable_pool.insert_block.Goals as goal

pub returns-in-Ok-clause-inserted : goal.returns-in-Ok-clause-inserted
returns-in-Ok-clause-inserted c =
    c.in-Ok.ensures.items ∙ rw (c.place_behind-place.ensures.place, c.deref.ensures.value) (inserted_at_place c.args.block c.args.blocks.now.items)
