use Rattle.pool_laws.proofs.Waits.{fixed_ends, variable_ends}
use Rattle.pool_laws.proofs.laws.a_serving_ends_one_wait.Goals as goal

pub returns-clause-fixed : goal.returns-clause-fixed
returns-clause-fixed c = fixed_ends

pub returns-clause-variable : goal.returns-clause-variable
returns-clause-variable c = variable_ends
