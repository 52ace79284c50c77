-- No pool stands yet, and nobody waits.
use Rattle.mem_pools.proofs.Starting.{queued_at_start}
use Rattle.mem_pools.proofs.tests.nothing_is_served_at_first.Goals as goal

pub serve-requires : goal.serve-requires
serve-requires g c = record { queued = queued_at_start c.in_ok-base.base c.in_ok-table.table 10 c.in_ok-base.ensures c.in_ok-table.ensures }
