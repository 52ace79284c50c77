use Rattle.std.proofs.Common.{arith}
use Rattle.mutex_prio.proofs.Folded.{refresh_further, refresh_long, refresh_over}
use Rattle.mutex_prio.proofs.priorities.refresh_each.Goals as goal

pub tasks-preserved : goal.tasks-preserved
tasks-preserved c =
    let long = refresh_long c.tasks.base c.refresh.new.base c.args.table.now c.tasks.task c.refresh.ensures in
    let before = c.tasks.invariant.long in
    record {
      all = refresh_further c.tasks.base c.refresh.new.base c.args.table.now c.tasks.task _ c.refresh.ensures c.tasks.invariant.all;
      long = omega (arith, long, before);
    }

pub returns : goal.returns
returns c =
    let long = c.tasks.invariant.long in
    refresh_over c.tasks.base c.args.table.now c.tasks.task _ (omega (arith, long)) c.tasks.invariant.all
