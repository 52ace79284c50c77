use Rattle.std.proofs.Common.{arith, ap, ◌∙◌, Some}
use Rattle.mem_pools.proofs.Slots.{bytes_back_at, no_bytes_back, slot_at, variable_put, variable_rewritten}
use Rattle.mem_pools.proofs.table.Pools.put_bytes_back.Goals as goal

pub returns-in_default : goal.returns-in_default
returns-in_default c =
    let all = c.self.invariant.all_variable in
    let id = c.requires in
    no_bytes_back (record { fixed = c.self.inside.fixed.items; variable = c.self.inside.variable.items; sizes = c.self.inside.sizes.items }) c.args.self.now c.args.id c.args.offset c.index_mut-slot.result.now c.self.view_is
    (slot_at c.self.inside.variable.items c.args.id c.index_mut-slot.result.now (omega (arith, all, id)) c.index_mut-slot.ensures.value) c.in_default.is

pub invariant_of-self-2 : goal.invariant_of-self-2
invariant_of-self-2 c =
    let all = c.self.invariant.all_variable in
    let id = c.requires in
    variable_rewritten _ _ _ _ _ c.args.id c.in-Some.pool _ c.self.invariant
    (slot_at c.self.inside.variable.items c.args.id c.index_mut-slot.result.now (omega (arith, all, id)) c.index_mut-slot.ensures.value ∙ c.in-Some.is)

pub returns : goal.returns
returns c =
    let all = c.self.invariant.all_variable in
    let id = c.requires in
    bytes_back_at (record { fixed = c.self.inside.fixed.items; variable = c.self.inside.variable.items; sizes = c.self.inside.sizes.items }) c.args.self.now c.args.id c.args.offset c.in-Some.pool c.put_back.new.self c.self.view_is
    (slot_at c.self.inside.variable.items c.args.id c.index_mut-slot.result.now (omega (arith, all, id)) c.index_mut-slot.ensures.value ∙ c.in-Some.is) (ap (λ k. variable_put (record { fixed = c.self.inside.fixed.items; variable = c.self.inside.variable.items; sizes = c.self.inside.sizes.items }) c.args.id (Some k)) c.put_back.ensures)
