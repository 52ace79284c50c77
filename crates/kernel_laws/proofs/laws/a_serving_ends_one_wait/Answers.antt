use Rattle.call_lemmas.proofs.Serving.{flag_ends_one, sem_ends_one}
use Rattle.kernel_laws.proofs.laws.a_serving_ends_one_wait.Goals as goal

pub returns-clause-semaphore : goal.returns-clause-semaphore
returns-clause-semaphore c = sem_ends_one

pub returns-clause-event_flag : goal.returns-clause-event_flag
returns-clause-event_flag c = flag_ends_one
