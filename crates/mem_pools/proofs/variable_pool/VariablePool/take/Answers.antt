use Rattle.std.proofs.Common.{arith, ap, sym, ◌∙◌}
use Rattle.object_model.specs.Pools.Variable.{place_from}
use Rattle.mem_pools.proofs.Blocks.{given, has_room, placed}
use Rattle.mem_pools.proofs.variable_pool.VariablePool.take.Goals as goal

pub insert_block-requires : goal.insert_block-requires
insert_block-requires c =
    let there = ap (place_from 0 c.self.inside.size c.args.size) (sym c.deref.ensures.value) ∙ sym c.place_in.ensures ∙ c.in_ok-offset.was in
    has_room c.self.inside.size c.args.size c.in_ok-offset.offset _ _ c.self.invariant c.requires there

pub invariant_of-self : goal.invariant_of-self
invariant_of-self c =
    let there = ap (place_from 0 c.self.inside.size c.args.size) (sym c.deref.ensures.value) ∙ sym c.place_in.ensures ∙ c.in_ok-offset.was in
    given c.self.inside.size c.args.size c.in_ok-offset.offset _ _ _ _ c.self.invariant c.requires there c.insert_block.ensures.inserted c.insert_block.ensures.room

pub returns-clause-low : goal.returns-clause-low
returns-clause-low c =
    let there = ap (place_from 0 c.self.inside.size c.args.size) (sym c.deref.ensures.value) ∙ sym c.place_in.ensures ∙ c.in_ok-offset.was in
    let all = placed 0 c.self.inside.size c.args.size c.in_ok-offset.offset c.self.inside.blocks.items c.self.invariant.apart there in
    let ends = all.1 in
    let small = c.self.invariant.small in
    omega (arith, ends, small)
