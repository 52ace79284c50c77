-- The first place at which the lines aren't the same.
use Rattle.trace_compare.proofs.DifferenceLaws.{difference_is}
use Rattle.trace_compare.proofs.laws.differing.Goals as goal

pub returns : goal.returns
returns c = difference_is
