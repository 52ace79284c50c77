use Rattle.std.proofs.Common.{arith, sym, ◌∙◌}
use Rattle.kernel_model.specs.SemFlags.Tables.{serve_sem}
use Rattle.sem_flag.specs.Parts.{parts_of}
use Rattle.sem_flag.proofs.Firsts.{first_here, first_further, first_nowhere, sem_there}
use Rattle.sem_flag.proofs.serving.serve_first_sem.Goals as goal

pub returns-then-serve_sem : goal.returns-then-serve_sem
returns-then-serve_sem c =
    first_here serve_sem c.args.table.now.sems c.sems.id (parts_of c.args.base.now c.args.table.now) (parts_of c.sems.base c.sems.table) (parts_of c.serve_sem.new.base c.serve_sem.new.table) _
    (sem_there c.args.base.now c.args.table.now c.sems.id) c.sems.invariant.same (sym c.if-serve_sem.true ∙ c.serve_sem.ensures.served) c.serve_sem.ensures.left c.sems.invariant.all

pub sems-preserved : goal.sems-preserved
sems-preserved c =
    first_further serve_sem c.args.table.now.sems c.sems.id (parts_of c.args.base.now c.args.table.now) (parts_of c.sems.base c.sems.table) (parts_of c.serve_sem.new.base c.serve_sem.new.table) _
    (omega arith) c.sems.invariant.same (sym c.if-serve_sem.false ∙ c.serve_sem.ensures.served) c.serve_sem.ensures.left c.sems.invariant.all

pub returns : goal.returns
returns c =
    first_nowhere (serve_sem c.args.base.now c.args.table.now) c.args.table.now.sems c.sems_used-used.result c.sems.id (parts_of c.args.base.now c.args.table.now) (parts_of c.sems.base c.sems.table) _
    c.sems_used-used.ensures.free c.sems-test.false c.sems.invariant.same c.sems.invariant.all
