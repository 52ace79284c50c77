use Rattle.std.proofs.Common.{arith}
use Rattle.sem_flag.proofs.Keeping.{Kept, after_call}
use Rattle.sem_flag.proofs.waiter_tests.run.Goals as goal

pub calls-preserved : goal.calls-preserved
calls-preserved c =
    let left : Kept c.calls.base c.call.new.base = after_call c.calls.base c.calls.table _ _ _ c.call.ensures in
    let made = left.made in
    let time = left.time in
    let few = c.calls.invariant.few in
    let early = c.calls.invariant.early in
    record { few = omega arith; early = omega arith }
