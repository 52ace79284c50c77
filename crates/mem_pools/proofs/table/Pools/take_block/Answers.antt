use Rattle.std.proofs.Common.{arith, ◌∙◌}
use Rattle.mem_pools.proofs.Slots.{block_given_at, no_fixed_given, slot_at, fixed_rewritten}
use Rattle.mem_pools.proofs.table.Pools.take_block.Goals as goal

pub returns-in_default-clause-given : goal.returns-in_default-clause-given
returns-in_default-clause-given c =
    let all = c.self.invariant.all_fixed in
    let id = c.requires in
    no_fixed_given (record { fixed = c.self.inside.fixed.items; variable = c.self.inside.variable.items; sizes = c.self.inside.sizes.items }) c.args.self.now c.args.id c.index_mut-slot.result.now c.self.view_is
    (slot_at c.self.inside.fixed.items c.args.id c.index_mut-slot.result.now (omega (arith, all, id)) c.index_mut-slot.ensures.value) c.in_default.is

pub invariant_of-self-2 : goal.invariant_of-self-2
invariant_of-self-2 c =
    let all = c.self.invariant.all_fixed in
    let id = c.requires in
    fixed_rewritten _ _ _ _ _ c.args.id c.in-Some.pool _ c.self.invariant
    (slot_at c.self.inside.fixed.items c.args.id c.index_mut-slot.result.now (omega (arith, all, id)) c.index_mut-slot.ensures.value ∙ c.in-Some.is)

pub returns-clause-given : goal.returns-clause-given
returns-clause-given c =
    let all = c.self.invariant.all_fixed in
    let id = c.requires in
    block_given_at (record { fixed = c.self.inside.fixed.items; variable = c.self.inside.variable.items; sizes = c.self.inside.sizes.items }) c.args.self.now c.args.id c.in-Some.pool c.take.new.self c.self.view_is
    (slot_at c.self.inside.fixed.items c.args.id c.index_mut-slot.result.now (omega (arith, all, id)) c.index_mut-slot.ensures.value ∙ c.in-Some.is) c.take.ensures.taken
