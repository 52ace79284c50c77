-- No line is left.
use Rattle.std.proofs.Common.{rules}
use Rattle.tk_session.proofs.LineLaws.{lines_counted}
use Rattle.tk_session.proofs.lines.line_count.Goals as goal

pub returns-clause-count : goal.returns-clause-count
returns-clause-count c = lines_counted _ _ _ (search rules) c.lines.invariant.same
