use Rattle.tk_raw.proofs.Readings.{reading_found, reading_only}
use Rattle.tk_raw.proofs.read.read_raw.Goals as goal

pub returns-clause-found : goal.returns-clause-found
returns-clause-found c = reading_found c.args.text.now c.answer.result c.answer.ensures

pub returns-clause-only : goal.returns-clause-only
returns-clause-only c = reading_only c.args.text.now c.answer.result c.answer.ensures
