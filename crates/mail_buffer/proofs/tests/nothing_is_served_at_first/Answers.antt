-- No mailbox and no message buffer stands yet.
use Rattle.mail_buffer.proofs.Starting.{asked_at_start, queued_at_start}
use Rattle.mail_buffer.proofs.tests.nothing_is_served_at_first.Goals as goal

pub serve-requires : goal.serve-requires
serve-requires g c = record { queued = queued_at_start c.in_ok-base.base c.in_ok-table.table c.in_ok-table.ensures; asked = asked_at_start c.in_ok-base.base c.in_ok-table.table c.in_ok-table.ensures }
