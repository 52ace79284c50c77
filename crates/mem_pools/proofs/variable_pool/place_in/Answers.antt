use Rattle.std.proofs.Common.{arith}
use Rattle.mem_pools.proofs.Blocks.{from_place}
use Rattle.mem_pools.proofs.variable_pool.place_in.Goals as goal

pub overflow_add-start-in-live : goal.overflow_add-start-in-live
overflow_add-start-in-live c =
    let here = from_place c.live.start c.args.end c.live.index c.args.blocks.now (record { offset = 0; size = 0 }) c.live-test.true c.live.invariant.apart in
    let ends = here.ends in
    let fits = c.ranges.end.fits in
    omega (arith, ends, fits)
