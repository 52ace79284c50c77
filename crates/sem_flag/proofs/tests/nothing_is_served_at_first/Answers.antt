-- No semaphore and no event flag stands yet.
use Rattle.sem_flag.proofs.Starting.{queued_at_start}
use Rattle.sem_flag.proofs.tests.nothing_is_served_at_first.Goals as goal

pub serve-requires : goal.serve-requires
serve-requires g c = record { queued = queued_at_start c.in_ok-base.base c.in_ok-table.table c.in_ok-table.ensures }
