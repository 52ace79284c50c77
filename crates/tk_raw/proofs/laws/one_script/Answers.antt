use Rattle.tk_raw.proofs.TextAgain.{one_raw}
use Rattle.tk_raw.proofs.laws.one_script.Goals as goal

pub returns : goal.returns
returns c = one_raw
