use Rattle.mutex_laws.proofs.Trial.{mutex_call_is_trial, over_at_once}
use Rattle.mutex_laws.proofs.laws.a_call_for_a_mutex_is_its_trial.Goals as goal

pub returns-clause-trial : goal.returns-clause-trial
returns-clause-trial c = mutex_call_is_trial

pub returns-clause-over : goal.returns-clause-over
returns-clause-over c = over_at_once
