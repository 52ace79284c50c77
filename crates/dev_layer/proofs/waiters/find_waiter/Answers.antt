use Rattle.std.proofs.Common.{sym, ◌∙◌}
use Rattle.kernel_model.specs.Tasks.Base.{fifo_queue}
use Rattle.dev_layer.specs.Waiters.{is_sought}
use Rattle.dev_layer.proofs.Sought.{find_here, find_further}
use Rattle.dev_layer.proofs.waiters.find_waiter.Goals as goal

pub returns-then-is_sought : goal.returns-then-is_sought
returns-then-is_sought c =
    find_here (is_sought c.args.table.now c.args.sought) (fifo_queue c.args.base.now c.args.object) c.waiters.place c.in_ok-task.task _
    (sym c.waiter.ensures ∙ c.in_ok-task.was) (sym c.is_sought.ensures ∙ c.if-is_sought.true) c.waiters.invariant

pub waiters-preserved : goal.waiters-preserved
waiters-preserved c =
    find_further (is_sought c.args.table.now c.args.sought) (fifo_queue c.args.base.now c.args.object) c.waiters.place c.in_ok-task.task _
    (sym c.waiter.ensures ∙ c.in_ok-task.was) (sym c.is_sought.ensures ∙ c.if-is_sought.false) c.waiters.invariant
