use Rattle.std.proofs.Common.{arith, sym, ◌∙◌}
use Rattle.object_model.specs.Mutexes.Tables.{serve_mutexes}
use Rattle.mutex_prio.specs.Parts.{parts_of}
use Rattle.mutex_prio.proofs.Firsts.{first_here, first_further, first_nowhere}
use Rattle.mutex_prio.proofs.serving.serve_first.Goals as goal

pub returns-then-serve_mutex : goal.returns-then-serve_mutex
unfolding serve_mutexes
returns-then-serve_mutex c =
    first_here c.mutexes.id (parts_of c.args.base.now c.args.table.now) (parts_of c.mutexes.base c.mutexes.table) (parts_of c.serve_mutex.new.base c.serve_mutex.new.table) _
    c.mutexes.invariant.same (sym c.if-serve_mutex.true ∙ c.serve_mutex.ensures.served) c.serve_mutex.ensures.left c.mutexes.invariant.all

pub mutexes-preserved : goal.mutexes-preserved
mutexes-preserved c =
    first_further c.mutexes.id (parts_of c.args.base.now c.args.table.now) (parts_of c.mutexes.base c.mutexes.table) (parts_of c.serve_mutex.new.base c.serve_mutex.new.table) _
    (omega arith) c.mutexes.invariant.same (sym c.if-serve_mutex.false ∙ c.serve_mutex.ensures.served) c.serve_mutex.ensures.left c.mutexes.invariant.all

pub returns : goal.returns
unfolding serve_mutexes
returns c =
    first_nowhere c.used-used.result c.mutexes.id (parts_of c.args.base.now c.args.table.now) (parts_of c.mutexes.base c.mutexes.table) _
    c.used-used.ensures.free c.mutexes-test.false c.mutexes.invariant.same c.mutexes.invariant.all
