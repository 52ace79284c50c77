use Rattle.std.proofs.Common.{ap, arith}
use Rattle.kernel_model.specs.Tasks.Base.{Base}
use Rattle.time_events.proofs.Keeping.{Kept, after_tick}
use Rattle.time_events.proofs.tests.next_event.Goals as goal

pub ticks-preserved : goal.ticks-preserved
ticks-preserved c =
    let left : Kept c.ticks.base c.tick.new.base = after_tick c.ticks.base c.tick.new.base _ _ c.tick.ensures.left in
    let made = left.made in
    let time = left.time in
    let same = ap (λ (b : Base). b.made) c.advance.ensures in
    let later = ap (λ (b : Base). b.time) c.advance.ensures in
    let few = c.ticks.invariant.few in
    let early = c.ticks.invariant.early in
    record { few = omega arith; early = omega arith }

pub returns-in-Some : goal.returns-in-Some
returns-in-Some c =
    let left : Kept c.ticks.base c.tick.new.base = after_tick c.ticks.base c.tick.new.base _ _ c.tick.ensures.left in
    let made = left.made in
    let time = left.time in
    let few = c.ticks.invariant.few in
    let early = c.ticks.invariant.early in
    let test = c.ticks-test.true in
    record { few = omega arith; early = omega arith }
