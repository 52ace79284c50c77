use Rattle.tk_session.proofs.TracedReadings.{never_refused, else_refused}
use Rattle.tk_session.proofs.laws.traced_refused.Goals as goal

pub returns-clause-spelled : goal.returns-clause-spelled
returns-clause-spelled c = never_refused

pub returns-clause-unspelled : goal.returns-clause-unspelled
returns-clause-unspelled c = else_refused
