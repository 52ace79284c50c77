use Rattle.std.proofs.Common.{◌∙◌, rules, sym}
use Rattle.kernel_base.proofs.Heads.{next_waits, none_next}
use Rattle.kernel_base.proofs.base.Base.next_after.Goals as goal

pub returns : goal.returns
returns c = c.next_after.ensures ∙ next_waits _ _ _ c.args.task c.self.invariant.waits c.self.view_is

pub returns-then-not-waits : goal.returns-then-not-waits
returns-then-not-waits c = sym (none_next c.args.task c.self.inside.waits.waiters (search rules)) ∙ next_waits _ _ _ c.args.task c.self.invariant.waits c.self.view_is
