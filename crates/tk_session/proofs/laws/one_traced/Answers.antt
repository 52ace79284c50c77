use Rattle.tk_session.proofs.TracedReadings.{traced_one}
use Rattle.tk_session.proofs.laws.one_traced.Goals as goal

pub returns : goal.returns
returns c = traced_one
