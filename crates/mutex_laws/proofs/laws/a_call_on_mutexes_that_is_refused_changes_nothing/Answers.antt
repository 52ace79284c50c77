use Rattle.mutex_laws.proofs.Refusals.{refused_mutex_call}
use Rattle.mutex_laws.proofs.laws.a_call_on_mutexes_that_is_refused_changes_nothing.Goals as goal

pub returns : goal.returns
returns c = record { calls = refused_mutex_call }
