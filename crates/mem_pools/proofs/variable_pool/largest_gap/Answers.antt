use Rattle.std.proofs.Common.{rules, arith, ◌≤◌}
use Rattle.std.specs.Prelude.{max}
use Rattle.std.proofs.Math.Nat.{max-le}
use Rattle.mem_pools.proofs.Blocks.{from_place, largest_further}
use Rattle.mem_pools.proofs.variable_pool.largest_gap.Goals as goal

pub overflow_add-start : goal.overflow_add-start
overflow_add-start c =
    let here = from_place c.live.start c.args.end c.live.index c.args.blocks.now (record { offset = 0; size = 0 }) c.live-test.true c.live.invariant.apart in
    let ends = here.ends in
    let fits = c.ranges.end.fits in
    omega (arith, ends, fits)

pub live-preserved : goal.live-preserved
live-preserved c =
    let here = from_place c.live.start c.args.end c.live.index c.args.blocks.now (record { offset = 0; size = 0 }) c.live-test.true c.live.invariant.apart in
    let ends = here.ends in
    let gap = c.saturating_sub.ensures in
    let short : c.saturating_sub.result ≤ c.args.end = omega (arith, ends, gap) in
    let both : max c.live.largest c.saturating_sub.result ≤ c.args.end = max-le c.live.invariant.within short in
    let is = c.max-largest.ensures in
    record {
      all = largest_further c.live.start c.args.end c.live.index c.live.largest c.max-largest.result c.args.blocks.now (record { offset = 0; size = 0 }) _ c.live-test.true (search rules) c.live.invariant.all;
      apart = here.apart;
      within = omega (arith, is, both);
    }
