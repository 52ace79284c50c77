use Rattle.kernel_base.proofs.Queued.{taken_out}
use Rattle.kernel_base.proofs.queueing.requeue_counted.Goals as goal

pub put_back-requires-clause-outside : goal.put_back-requires-clause-outside
put_back-requires-clause-outside g c = taken_out c.args.task _ _ c.take_out.ensures
