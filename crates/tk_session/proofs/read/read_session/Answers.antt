-- What is read is what is spelled.
use Rattle.tk_session.proofs.Readings.{answer_found, answer_only}
use Rattle.tk_session.proofs.read.read_session.Goals as goal

pub returns-clause-found : goal.returns-clause-found
returns-clause-found c = answer_found c.args.text.now c.answer_text.result c.answer_text.ensures

pub returns-clause-only : goal.returns-clause-only
returns-clause-only c = answer_only c.args.text.now c.answer_text.result c.answer_text.ensures
