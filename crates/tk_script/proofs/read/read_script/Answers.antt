-- What is read is what is spelled.
use Rattle.tk_script.proofs.Readings.{reading_found, reading_only}
use Rattle.tk_script.proofs.read.read_script.Goals as goal

pub returns-clause-found : goal.returns-clause-found
returns-clause-found c = reading_found c.args.text.now c.answer_text.result c.answer_text.ensures

pub returns-clause-only : goal.returns-clause-only
returns-clause-only c = reading_only c.args.text.now c.answer_text.result c.answer_text.ensures
