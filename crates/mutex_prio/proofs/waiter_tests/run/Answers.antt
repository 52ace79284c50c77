use Rattle.std.proofs.Common.{arith}
use Rattle.mutex_prio.proofs.Keeping.{Kept, after_call}
use Rattle.mutex_prio.proofs.waiter_tests.run.Goals as goal

pub calls-preserved : goal.calls-preserved
calls-preserved c =
    let left : Kept c.calls.base c.resettle.new.base = after_call c.calls.base c.resettle.new.base c.calls.table c.call.new.table _ _ _ c.call.ensures c.resettle.ensures in
    let made = left.made in
    let time = left.time in
    let few = c.calls.invariant.few in
    let early = c.calls.invariant.early in
    record { few = omega arith; early = omega arith }
