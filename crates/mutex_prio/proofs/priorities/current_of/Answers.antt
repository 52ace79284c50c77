use Rattle.std.proofs.Common.{rules, sym, ◌∙◌}
use Rattle.mutex_prio.proofs.Folded.{current_unlocked}
use Rattle.mutex_prio.proofs.priorities.current_of.Goals as goal

pub returns-then-is_unlocked-clause-priority : goal.returns-then-is_unlocked-clause-priority
returns-then-is_unlocked-clause-priority c =
    c.base_of-then-is_unlocked.ensures.priority ∙ sym (current_unlocked c.args.base.now c.args.table.now c.args.task (c.is_unlocked.ensures.none c.if-is_unlocked.true) (c.is_unlocked.ensures.free c.if-is_unlocked.true))
