-- The table gets shorter.
use Rattle.std.proofs.Common.{length}
use Rattle.tk_text.proofs.list.+bits_of.Given as goal

abbrev pub decreases-bits_of : goal.decreases-bits_of
decreases-bits_of l = length l.table.now
