use Rattle.std.proofs.Common.{◌∙◌}
use Rattle.kernel_base.proofs.Heads.{place_stands}
use Rattle.kernel_base.proofs.base.Base.waiter.Goals as goal

pub returns : goal.returns
returns c = c.in_place.ensures ∙ place_stands c.args.order _ _ _ c.args.obj c.args.place c.requires.order c.self.invariant.waits c.self.view_is
