use Rattle.kernel_laws.proofs.Latest.{started_last, released_last, resumed_last}
use Rattle.kernel_laws.proofs.laws.released_task_stands_last.Goals as goal

pub returns-clause-started : goal.returns-clause-started
returns-clause-started c = started_last

pub returns-clause-wait_ends : goal.returns-clause-wait_ends
returns-clause-wait_ends c = released_last

pub returns-clause-resumed : goal.returns-clause-resumed
returns-clause-resumed c = resumed_last
