-- A whole line decides.
use Rattle.trace_compare.proofs.DifferenceLaws.{whole_line_decides}
use Rattle.trace_compare.proofs.laws.decided.Goals as goal

pub returns : goal.returns
returns c = whole_line_decides
