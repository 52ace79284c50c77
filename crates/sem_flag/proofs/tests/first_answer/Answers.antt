-- No semaphore and no event flag stands yet.
use Rattle.sem_flag.proofs.Starting.{queued_at_start}
use Rattle.sem_flag.proofs.tests.first_answer.Goals as goal

pub call-requires-clause-queued : goal.call-requires-clause-queued
call-requires-clause-queued c = queued_at_start c.in_ok-base.base c.in_ok-table.table c.in_ok-table.ensures
