use Rattle.std.proofs.Common.{arith}
use Rattle.mem_pools.specs.Parts.{parts_of}
use Rattle.mem_pools.proofs.Keeping.{Kept, after_call}
use Rattle.mem_pools.proofs.waiter_tests.run.Goals as goal

pub calls-preserved : goal.calls-preserved
calls-preserved c =
    let left : Kept c.calls.base c.call.new.base = after_call (parts_of c.calls.base c.calls.table) _ _ _ c.in_ok-outcome.ensures.done in
    let made = left.made in
    let time = left.time in
    let few = c.calls.invariant.few in
    let early = c.calls.invariant.early in
    record { few = omega (arith, made, few); early = omega (arith, time, early) }
