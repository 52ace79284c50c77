-- No mutex stands yet.
use Rattle.mutex_prio.proofs.Starting.{queued_at_start}
use Rattle.mutex_prio.proofs.tests.nothing_is_held_at_first.Goals as goal

pub serve-requires : goal.serve-requires
serve-requires g c = record { queued = queued_at_start c.in_ok-base.base c.in_ok-table.table c.in_ok-table.ensures }
