use Rattle.call_lemmas.proofs.Trial.{sem_call_is_trial, flag_call_is_trial}
use Rattle.kernel_laws.proofs.laws.a_waiting_call_is_its_trial.Goals as goal

pub returns-clause-semaphore : goal.returns-clause-semaphore
returns-clause-semaphore c = sem_call_is_trial

pub returns-clause-event_flag : goal.returns-clause-event_flag
returns-clause-event_flag c = flag_call_is_trial
