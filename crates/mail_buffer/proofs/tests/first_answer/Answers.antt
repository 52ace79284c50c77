-- No mailbox and no message buffer stands yet.
use Rattle.mail_buffer.proofs.Starting.{asked_at_start, queued_at_start}
use Rattle.mail_buffer.proofs.tests.first_answer.Goals as goal

pub call-requires-clause-queued : goal.call-requires-clause-queued
call-requires-clause-queued c = queued_at_start c.in_ok-base.base c.in_ok-table.table c.in_ok-table.ensures

pub call-requires-clause-asked : goal.call-requires-clause-asked
call-requires-clause-asked c = asked_at_start c.in_ok-base.base c.in_ok-table.table c.in_ok-table.ensures
