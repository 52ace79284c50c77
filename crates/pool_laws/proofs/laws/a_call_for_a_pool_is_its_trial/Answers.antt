use Rattle.pool_laws.proofs.Trial.{fixed_call_is_trial, variable_call_is_trial}
use Rattle.pool_laws.proofs.laws.a_call_for_a_pool_is_its_trial.Goals as goal

pub returns-clause-fixed : goal.returns-clause-fixed
returns-clause-fixed c = fixed_call_is_trial

pub returns-clause-variable : goal.returns-clause-variable
returns-clause-variable c = variable_call_is_trial
