-- The entries are those of the lines.
use Rattle.tk_session.proofs.TracedReadings.{entries_answer}
use Rattle.tk_session.proofs.read_trace.with_trace.Goals as goal

pub returns-in-Ok-clause-answer : goal.returns-in-Ok-clause-answer
returns-in-Ok-clause-answer c = entries_answer c.args.script c.in-Ok.journal c.args.lines c.args.first c.in-Ok.ensures
