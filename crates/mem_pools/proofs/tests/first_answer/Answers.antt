-- No pool stands yet, and nobody waits.
use Rattle.mem_pools.proofs.Starting.{queued_at_start}
use Rattle.mem_pools.proofs.tests.first_answer.Goals as goal

pub call-requires-clause-queued : goal.call-requires-clause-queued
call-requires-clause-queued c = queued_at_start c.in_ok-base.base c.in_ok-table.table 10 c.in_ok-base.ensures c.in_ok-table.ensures
