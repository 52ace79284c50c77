use Rattle.std.proofs.Common.{◌∙◌}
use Rattle.kernel_base.proofs.Heads.{count_stands}
use Rattle.kernel_base.proofs.base.Base.waiter_count.Goals as goal

pub returns : goal.returns
returns c = c.count.ensures ∙ count_stands c.args.order _ _ _ c.args.obj c.requires.order c.self.invariant.waits c.self.view_is
