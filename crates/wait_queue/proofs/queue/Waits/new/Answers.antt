use Rattle.wait_queue.proofs.Kept.{table_empty}
use Rattle.wait_queue.proofs.queue.Waits.new.Goals as goal

pub invariant_of-result : goal.invariant_of-result
invariant_of-result c = table_empty _ _ _ c.in_ok-with_capacity.ensures.capacity c.in_ok-with_capacity.ensures.items
