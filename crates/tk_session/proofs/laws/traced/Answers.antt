use Rattle.tk_session.proofs.TracedReadings.{traced_is}
use Rattle.tk_session.proofs.laws.traced.Goals as goal

pub returns : goal.returns
returns c = traced_is
