use Rattle.mutex_laws.proofs.Owners.{call_leaves_owner, freeing_leaves_owner, serving_leaves_owner}
use Rattle.mutex_laws.proofs.laws.nobody_takes_a_mutex_from_its_owner.Goals as goal

pub returns-clause-call : goal.returns-clause-call
returns-clause-call c = call_leaves_owner

pub returns-clause-serving : goal.returns-clause-serving
returns-clause-serving c = serving_leaves_owner

pub returns-clause-freeing : goal.returns-clause-freeing
returns-clause-freeing c = freeing_leaves_owner
