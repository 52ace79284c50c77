use Rattle.std.proofs.Common.{rules}
use Rattle.kernel_base.proofs.Queued.{not_inside}
use Rattle.kernel_base.proofs.queueing.take_out.Goals as goal

pub returns-else-holds : goal.returns-else-holds
returns-else-holds g c = not_inside c.args.task c.args.ready.now (search rules)
