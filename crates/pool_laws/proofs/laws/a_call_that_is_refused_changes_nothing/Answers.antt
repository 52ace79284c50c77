use Rattle.pool_laws.proofs.Refusals.{refused_call}
use Rattle.pool_laws.proofs.laws.a_call_that_is_refused_changes_nothing.Goals as goal

pub returns : goal.returns
returns c = refused_call
