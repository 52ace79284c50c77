use Rattle.std.proofs.Common.{arith, sym, ◌∙◌}
use Rattle.object_model.specs.Pools.Fixed.{serve_fixed, serve_fixed_pools}
use Rattle.mem_pools.specs.Parts.{parts_of}
use Rattle.mem_pools.proofs.Firsts.{first_here, first_further, first_nowhere, fixed_there}
use Rattle.mem_pools.proofs.serving.serve_first_fixed.Goals as goal

pub returns-then-serve_fixed : goal.returns-then-serve_fixed
unfolding serve_fixed_pools
returns-then-serve_fixed c =
    first_here serve_fixed c.args.table.now.fixed c.pools.id (parts_of c.args.base.now c.args.table.now) (parts_of c.pools.base c.pools.table) (parts_of c.serve_fixed.new.base c.serve_fixed.new.table) _
    (fixed_there (parts_of c.args.base.now c.args.table.now) c.pools.id) c.pools.invariant.same (sym c.if-serve_fixed.true ∙ c.serve_fixed.ensures.served) c.serve_fixed.ensures.left c.pools.invariant.all

pub pools-preserved : goal.pools-preserved
pools-preserved c =
    first_further serve_fixed c.args.table.now.fixed c.pools.id (parts_of c.args.base.now c.args.table.now) (parts_of c.pools.base c.pools.table) (parts_of c.serve_fixed.new.base c.serve_fixed.new.table) _
    (omega arith) c.pools.invariant.same (sym c.if-serve_fixed.false ∙ c.serve_fixed.ensures.served) c.serve_fixed.ensures.left c.pools.invariant.all

pub returns : goal.returns
unfolding serve_fixed_pools
returns c =
    first_nowhere (serve_fixed (parts_of c.args.base.now c.args.table.now)) c.args.table.now.fixed c.fixed_used-used.result c.pools.id (parts_of c.args.base.now c.args.table.now) (parts_of c.pools.base c.pools.table) _
    c.fixed_used-used.ensures.free c.pools-test.false c.pools.invariant.same c.pools.invariant.all
