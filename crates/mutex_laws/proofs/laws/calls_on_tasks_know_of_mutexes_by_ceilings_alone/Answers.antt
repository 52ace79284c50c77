use Rattle.mutex_laws.proofs.Refusals.{allowed_as_without, beside_or_refused, refused_by_ceiling}
use Rattle.mutex_laws.proofs.laws.calls_on_tasks_know_of_mutexes_by_ceilings_alone.Goals as goal

pub returns-clause-same : goal.returns-clause-same
returns-clause-same c = beside_or_refused

pub returns-clause-allowed : goal.returns-clause-allowed
returns-clause-allowed c = allowed_as_without

pub returns-clause-refused : goal.returns-clause-refused
returns-clause-refused c = refused_by_ceiling
