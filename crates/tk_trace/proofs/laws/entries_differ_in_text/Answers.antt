-- The law of that name.
use Rattle.tk_trace.proofs.Texts.{entries_same}
use Rattle.tk_trace.proofs.laws.entries_differ_in_text.Goals as goal

pub returns : goal.returns
returns c = entries_same
