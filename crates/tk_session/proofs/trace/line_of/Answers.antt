-- A line is read exactly.
use Rattle.tk_session.proofs.TraceLaws.{line_read}
use Rattle.tk_session.proofs.trace.line_of.Goals as goal

pub returns : goal.returns
returns c = line_read _ _ c.read_line.ensures.some c.read_line.ensures.none
