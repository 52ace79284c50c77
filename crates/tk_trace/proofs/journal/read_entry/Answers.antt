-- The words are read exactly.
use Rattle.tk_trace.proofs.Texts.{entry_found, entry_not_found}
use Rattle.tk_trace.proofs.journal.read_entry.Goals as goal

pub returns-clause-some : goal.returns-clause-some
returns-clause-some c = entry_found _ _ c.entry_at.ensures.value c.entry_at.ensures.entry

pub returns-clause-none : goal.returns-clause-none
returns-clause-none c = entry_not_found _ _ c.entry_at.ensures.value
