-- The law of that name.
use Rattle.tk_trace.proofs.Texts.{no_line_feed}
use Rattle.tk_trace.proofs.laws.no_text_has_a_line_feed.Goals as goal

pub returns : goal.returns
returns c = no_line_feed
