use Rattle.std.proofs.Common.{◌∙◌}
use Rattle.kernel_base.proofs.Firsts.{first_is_ready}
use Rattle.kernel_base.proofs.base.Base.first_ready.Goals as goal

pub returns : goal.returns
returns c = c.first_of.ensures ∙ first_is_ready _ _ _ c.args.pri c.self.invariant.queue.places c.self.view_is
