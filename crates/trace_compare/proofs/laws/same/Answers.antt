-- No difference is that the lines are the same.
use Rattle.trace_compare.proofs.DifferenceLaws.{no_difference}
use Rattle.trace_compare.proofs.laws.same.Goals as goal

pub returns : goal.returns
returns c = no_difference
