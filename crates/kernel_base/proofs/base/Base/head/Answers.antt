use Rattle.std.proofs.Common.{◌∙◌}
use Rattle.kernel_base.proofs.Heads.{head_stands}
use Rattle.kernel_base.proofs.base.Base.head.Goals as goal

pub returns : goal.returns
returns c = c.head.ensures ∙ head_stands _ _ _ c.args.obj c.self.invariant.waits c.self.view_is
