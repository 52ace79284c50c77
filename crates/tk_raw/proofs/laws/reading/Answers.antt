use Rattle.tk_raw.proofs.TextAgain.{reading_is}
use Rattle.tk_raw.proofs.laws.reading.Goals as goal

pub returns : goal.returns
returns c = reading_is
