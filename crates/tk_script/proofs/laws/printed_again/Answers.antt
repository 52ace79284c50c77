use Rattle.tk_script.proofs.PlainTexts.{printed_spells, longer_whole, longer_open}
use Rattle.tk_script.proofs.laws.printed_again.Goals as goal

pub returns-clause-again : goal.returns-clause-again
returns-clause-again c = printed_spells

pub returns-clause-longer : goal.returns-clause-longer
returns-clause-longer c = longer_whole

pub returns-clause-open_ended : goal.returns-clause-open_ended
returns-clause-open_ended c = longer_open
