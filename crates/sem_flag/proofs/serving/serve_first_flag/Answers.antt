use Rattle.std.proofs.Common.{arith, sym, ◌∙◌}
use Rattle.kernel_model.specs.SemFlags.Tables.{serve_flag}
use Rattle.sem_flag.specs.Parts.{parts_of}
use Rattle.sem_flag.proofs.Firsts.{first_here, first_further, first_nowhere, flag_there}
use Rattle.sem_flag.proofs.serving.serve_first_flag.Goals as goal

pub returns-then-serve_flag : goal.returns-then-serve_flag
returns-then-serve_flag c =
    first_here serve_flag c.args.table.now.flags c.flags.id (parts_of c.args.base.now c.args.table.now) (parts_of c.flags.base c.flags.table) (parts_of c.serve_flag.new.base c.serve_flag.new.table) _
    (flag_there c.args.base.now c.args.table.now c.flags.id) c.flags.invariant.same (sym c.if-serve_flag.true ∙ c.serve_flag.ensures.served) c.serve_flag.ensures.left c.flags.invariant.all

pub flags-preserved : goal.flags-preserved
flags-preserved c =
    first_further serve_flag c.args.table.now.flags c.flags.id (parts_of c.args.base.now c.args.table.now) (parts_of c.flags.base c.flags.table) (parts_of c.serve_flag.new.base c.serve_flag.new.table) _
    (omega arith) c.flags.invariant.same (sym c.if-serve_flag.false ∙ c.serve_flag.ensures.served) c.serve_flag.ensures.left c.flags.invariant.all

pub returns : goal.returns
returns c =
    first_nowhere (serve_flag c.args.base.now c.args.table.now) c.args.table.now.flags c.flags_used-used.result c.flags.id (parts_of c.args.base.now c.args.table.now) (parts_of c.flags.base c.flags.table) _
    c.flags_used-used.ensures.free c.flags-test.false c.flags.invariant.same c.flags.invariant.all
