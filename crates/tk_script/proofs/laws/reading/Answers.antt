use Rattle.tk_script.proofs.Readings.{reading_is}
use Rattle.tk_script.proofs.laws.reading.Goals as goal

pub returns : goal.returns
returns c = reading_is
