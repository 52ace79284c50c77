use Rattle.std.proofs.Common.{arith, sym, ◌∙◌}
use Rattle.std.specs.Prelude.{◌-◌}
use Rattle.dev_drivers.proofs.Accepts.{accepts_none, accepts_there}
use Rattle.dev_drivers.proofs.rows.accepts_at.Goals as goal

pub returns-then-is_there : goal.returns-then-is_there
returns-then-is_there g c = λ fleet same.
    let there = c.is_there.ensures.there c.if-is_there.true in
    c.accepts.ensures
    ∙ sym (accepts_there fleet c.args.lines.now.items (c.from.result - 1) c.index.result.now c.args.ending.now same (omega (arith, there.0, there.1)) (omega (arith, there.0)) c.index.ensures)

pub returns-else-is_there : goal.returns-else-is_there
returns-else-is_there g c = λ fleet same.
    c.if-is_there.false
    ∙ sym (accepts_none fleet c.args.lines.now.items c.args.ending.now same (λ some. let past = c.is_there.ensures.absent c.if-is_there.false some in omega (arith, past)))
