-- A line is read exactly.
use Rattle.tk_session.proofs.EntryLaws.{line_read}
use Rattle.tk_session.proofs.journal.line_entry.Goals as goal

pub returns : goal.returns
returns c = line_read _ _ c.read_entry.ensures.some c.read_entry.ensures.none
