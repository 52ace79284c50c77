-- A text that was read has bodies of few lines.
use Rattle.tk_script.proofs.ShortBodies.{spelled_short}
use Rattle.tk_script.proofs.read.answer_text.Goals as goal

pub answer_resolved-requires : goal.answer_resolved-requires
answer_resolved-requires c = spelled_short c.args.text.now c.in-Raw.raw (c.in_ok-raw.ensures.found c.in-Raw.raw c.in-Raw.is)
