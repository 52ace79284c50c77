use Rattle.std.proofs.Common.{arith, refl}
use Rattle.std.specs.Prelude.{◌-◌}
use Rattle.dev_drivers.proofs.Fleets.{unmarked}
use Rattle.dev_drivers.proofs.Lines.{marked_set}
use Rattle.dev_drivers.proofs.rows.mark_at.Goals as goal

pub returns-then-is_there : goal.returns-then-is_there
returns-then-is_there g c =
    let there = c.is_there.ensures.there c.if-is_there.true in
    let done = marked_set c.args.lines.now.items (c.from.result - 1) c.args.device c.index_mut.result.now (record { link = c.mark.new.self; driver = c.index_mut.result.now.driver })
    (omega (arith, there.0, there.1)) (omega (arith, there.0)) c.index_mut.ensures.value c.mark.ensures.same c.mark.ensures.channel refl in
    record { kept = done.0; channels = done.1 }

pub returns : goal.returns
returns g c = unmarked c.args.lines.now.items c.args.device (λ some. let past = c.is_there.ensures.absent c.if-is_there.false some in omega (arith, past))
