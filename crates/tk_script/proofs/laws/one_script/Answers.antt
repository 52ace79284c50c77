use Rattle.tk_script.proofs.Readings.{spells_one}
use Rattle.tk_script.proofs.laws.one_script.Goals as goal

pub returns : goal.returns
returns c = spells_one
