use Rattle.std.proofs.Common.{sym, ◌∙◌}
use Rattle.kernel_model.specs.Tasks.Base.{queue}
use Rattle.kernel_model.specs.SemFlags.Tables.{is_there}
use Rattle.sem_flag.proofs.Finding.{find_here, find_further}
use Rattle.sem_flag.proofs.serving.find_there.Goals as goal

pub returns-then-is_there : goal.returns-then-is_there
returns-then-is_there c =
    find_here (is_there c.args.table.now c.args.row) (queue c.args.row.order c.args.base.now c.args.obj) c.waiters.place c.in_ok-task.task _
    (sym c.waiter.ensures ∙ c.in_ok-task.was) (sym c.is_there.ensures ∙ c.if-is_there.true) c.waiters.invariant

pub waiters-preserved : goal.waiters-preserved
waiters-preserved c =
    find_further (is_there c.args.table.now c.args.row) (queue c.args.row.order c.args.base.now c.args.obj) c.waiters.place c.in_ok-task.task _
    (sym c.waiter.ensures ∙ c.in_ok-task.was) (sym c.is_there.ensures ∙ c.if-is_there.false) c.waiters.invariant
