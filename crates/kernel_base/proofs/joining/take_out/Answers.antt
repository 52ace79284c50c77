use Rattle.std.proofs.Common.{rules}
use Rattle.kernel_base.proofs.Waited.{not_waiting}
use Rattle.kernel_base.proofs.joining.take_out.Goals as goal

pub returns-else-waits : goal.returns-else-waits
returns-else-waits g c = not_waiting c.args.task c.args.waits.now (search rules)
