-- The table gets shorter.
use Rattle.std.proofs.Common.{length}
use Rattle.tk_text.proofs.list.+push_chosen.Given as goal

abbrev pub decreases-push_chosen : goal.decreases-push_chosen
decreases-push_chosen l = length l.table.now
