use Rattle.std.proofs.Common.{sym, ◌∙◌}
use Rattle.kernel_base.proofs.Firsts.{next_is_ready}
use Rattle.kernel_base.proofs.base.Base.next_ready.Goals as goal

pub returns-then-holds : goal.returns-then-holds
returns-then-holds c = c.next_of.ensures ∙ next_is_ready _ _ _ c.args.task c.self.invariant.queue.places c.self.view_is (sym c.holds.ensures ∙ c.if-holds.true)
