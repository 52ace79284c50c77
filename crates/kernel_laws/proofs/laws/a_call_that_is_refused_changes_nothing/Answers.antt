use Rattle.kernel_laws.proofs.Refusals.{refused_call, refused_sem_flag_call}
use Rattle.kernel_laws.proofs.laws.a_call_that_is_refused_changes_nothing.Goals as goal

pub returns-clause-tasks : goal.returns-clause-tasks
returns-clause-tasks c = refused_call

pub returns-clause-sem_flags : goal.returns-clause-sem_flags
returns-clause-sem_flags c = refused_sem_flag_call
