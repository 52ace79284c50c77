-- The law of that name.
use Rattle.tk_trace.proofs.Texts.{lines_same}
use Rattle.tk_trace.proofs.laws.lines_differ_in_text.Goals as goal

pub returns : goal.returns
returns c = lines_same
