-- No mutex stands yet.
use Rattle.mutex_prio.proofs.Starting.{queued_at_start}
use Rattle.mutex_prio.proofs.tests.first_answer.Goals as goal

pub call-requires-clause-queued : goal.call-requires-clause-queued
call-requires-clause-queued c = queued_at_start c.in_ok-base.base c.in_ok-table.table c.in_ok-table.ensures
