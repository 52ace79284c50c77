use Rattle.std.proofs.Common.{get_or}
use Rattle.mutex_prio.proofs.Folded.{lowered_further}
use Rattle.mutex_prio.proofs.lent.lent.Goals as goal

pub tasks-preserved : goal.tasks-preserved
tasks-preserved c = record {
  all = λ t below. lowered_further c.args.base.now c.args.table.now t (get_or c.tasks.all t 0) (get_or c.lend.new.all t 0) c.tasks.from _ (c.lend.ensures.lent t below) (c.tasks.invariant.all t below);
  fit = c.lend.ensures.fit;
}
