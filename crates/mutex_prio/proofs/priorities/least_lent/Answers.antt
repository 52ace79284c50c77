use Rattle.std.proofs.Common.{arith, rules}
use Rattle.mutex_prio.proofs.Folded.{lowered_further, lowered_over}
use Rattle.mutex_prio.proofs.priorities.least_lent.Goals as goal

pub tasks-preserved : goal.tasks-preserved
tasks-preserved c = record {
  all = lowered_further c.args.base.now c.args.table.now c.args.task c.tasks.least c.lowered-least.result c.tasks.from _ c.lowered-least.ensures.lowered c.tasks.invariant.all;
  low = λ there. c.lowered-least.ensures.low (c.tasks.invariant.low there);
  high = omega arith;
}

pub returns-clause-least : goal.returns-clause-least
returns-clause-least c = lowered_over c.args.base.now c.args.table.now c.args.task c.tasks.least c.tasks.from _ (omega arith) c.tasks.invariant.all
