use Rattle.mail_laws.proofs.laws.a_call_that_is_refused_changes_nothing.Goals as goal
use Rattle.mail_laws.proofs.Refusals.{refused_call}

pub returns : goal.returns
returns c = refused_call
