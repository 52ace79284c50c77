use Rattle.std.proofs.Common.{arith, ◌∙◌}
use Rattle.mem_pools.proofs.Slots.{block_back_at, no_fixed_back, slot_at, fixed_rewritten}
use Rattle.mem_pools.proofs.table.Pools.put_block_back.Goals as goal

pub returns-in_default : goal.returns-in_default
returns-in_default c =
    let all = c.self.invariant.all_fixed in
    let id = c.requires.id in
    no_fixed_back (record { fixed = c.self.inside.fixed.items; variable = c.self.inside.variable.items; sizes = c.self.inside.sizes.items }) c.args.self.now c.args.id c.args.number c.index_mut-slot.result.now c.self.view_is
    (slot_at c.self.inside.fixed.items c.args.id c.index_mut-slot.result.now (omega (arith, all, id)) c.index_mut-slot.ensures.value) c.in_default.is

pub invariant_of-self-2 : goal.invariant_of-self-2
invariant_of-self-2 c =
    let all = c.self.invariant.all_fixed in
    let id = c.requires.id in
    fixed_rewritten _ _ _ _ _ c.args.id c.in-Some.pool _ c.self.invariant
    (slot_at c.self.inside.fixed.items c.args.id c.index_mut-slot.result.now (omega (arith, all, id)) c.index_mut-slot.ensures.value ∙ c.in-Some.is)

pub returns : goal.returns
returns c =
    let all = c.self.invariant.all_fixed in
    let id = c.requires.id in
    block_back_at (record { fixed = c.self.inside.fixed.items; variable = c.self.inside.variable.items; sizes = c.self.inside.sizes.items }) c.args.self.now c.args.id c.args.number c.in-Some.pool c.put_back.new.self c.self.view_is
    (slot_at c.self.inside.fixed.items c.args.id c.index_mut-slot.result.now (omega (arith, all, id)) c.index_mut-slot.ensures.value ∙ c.in-Some.is) c.put_back.ensures
