-- What is read is what is spelled.
use Rattle.tk_session.proofs.TracedReadings.{answer_few, answer_found, answer_only}
use Rattle.tk_session.proofs.read_trace.read_traced.Goals as goal

pub returns-clause-found : goal.returns-clause-found
returns-clause-found c = answer_found c.args.text.now c.answer_text.result c.answer_text.ensures.answer

pub returns-clause-only : goal.returns-clause-only
returns-clause-only c = answer_only c.args.text.now c.answer_text.result c.answer_text.ensures.answer

pub returns-clause-few : goal.returns-clause-few
returns-clause-few c = answer_few c.args.text.now c.answer_text.result c.answer_text.ensures.answer
