-- The table gets shorter.
use Rattle.std.proofs.Common.{length}
use Rattle.tk_text.proofs.list.+push_barred.Given as goal

abbrev pub decreases-push_barred : goal.decreases-push_barred
decreases-push_barred l = length l.table.now
