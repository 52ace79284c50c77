use Rattle.tk_session.proofs.Readings.{spells_one}
use Rattle.tk_session.proofs.laws.one_session.Goals as goal

pub returns : goal.returns
returns c = spells_one
