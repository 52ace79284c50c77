use Rattle.std.proofs.Common.{arith, sym, ◌∙◌}
use Rattle.object_model.specs.Pools.Variable.{serve_variable, serve_variable_pools}
use Rattle.mem_pools.specs.Parts.{parts_of}
use Rattle.mem_pools.proofs.Firsts.{first_here, first_further, first_nowhere, variable_there}
use Rattle.mem_pools.proofs.serving.serve_first_variable.Goals as goal

pub returns-then-serve_variable : goal.returns-then-serve_variable
unfolding serve_variable_pools
returns-then-serve_variable c =
    first_here serve_variable c.args.table.now.variable c.pools.id (parts_of c.args.base.now c.args.table.now) (parts_of c.pools.base c.pools.table) (parts_of c.serve_variable.new.base c.serve_variable.new.table) _
    (variable_there (parts_of c.args.base.now c.args.table.now) c.pools.id) c.pools.invariant.same (sym c.if-serve_variable.true ∙ c.serve_variable.ensures.served) c.serve_variable.ensures.left c.pools.invariant.all

pub pools-preserved : goal.pools-preserved
pools-preserved c =
    first_further serve_variable c.args.table.now.variable c.pools.id (parts_of c.args.base.now c.args.table.now) (parts_of c.pools.base c.pools.table) (parts_of c.serve_variable.new.base c.serve_variable.new.table) _
    (omega arith) c.pools.invariant.same (sym c.if-serve_variable.false ∙ c.serve_variable.ensures.served) c.serve_variable.ensures.left c.pools.invariant.all

pub returns : goal.returns
unfolding serve_variable_pools
returns c =
    first_nowhere (serve_variable (parts_of c.args.base.now c.args.table.now)) c.args.table.now.variable c.variable_used-used.result c.pools.id (parts_of c.args.base.now c.args.table.now) (parts_of c.pools.base c.pools.table) _
    c.variable_used-used.ensures.free c.pools-test.false c.pools.invariant.same c.pools.invariant.all
