use Rattle.std.proofs.Common.{rules}
use Rattle.kernel_base.proofs.Waited.{not_noted}
use Rattle.kernel_base.proofs.joining.reorder_counted.Goals as goal

pub returns : goal.returns
returns g c = not_noted c.args.task c.args.pri c.args.waits.now (search rules)
