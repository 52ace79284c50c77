use Rattle.tk_session.proofs.Readings.{reading_is}
use Rattle.tk_session.proofs.laws.reading.Goals as goal

pub returns : goal.returns
returns c = reading_is
