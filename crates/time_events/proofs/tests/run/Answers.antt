use Rattle.std.proofs.Common.{arith}
use Rattle.time_events.proofs.Keeping.{Kept, after_call}
use Rattle.time_events.proofs.tests.run.Goals as goal

pub calls-preserved : goal.calls-preserved
calls-preserved c =
    let left : Kept c.calls.base c.call.new.base = after_call c.calls.base c.calls.table _ _ c.call.ensures in
    let made = left.made in
    let time = left.time in
    let few = c.calls.invariant.few in
    let early = c.calls.invariant.early in
    record { few = omega arith; early = omega arith }

pub returns-then-ne : goal.returns-then-ne
returns-then-ne c =
    let left : Kept c.calls.base c.call.new.base = after_call c.calls.base c.calls.table _ _ c.call.ensures in
    let made = left.made in
    let time = left.time in
    let few = c.calls.invariant.few in
    let early = c.calls.invariant.early in
    let test = c.calls-test.true in
    let short = c.requires.short in
    record { few = omega arith; early = omega arith }
