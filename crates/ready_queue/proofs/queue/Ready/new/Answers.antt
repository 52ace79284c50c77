use Rattle.ready_queue.proofs.Kept.{queue_empty}
use Rattle.ready_queue.proofs.queue.Ready.new.Goals as goal

pub invariant_of-result : goal.invariant_of-result
invariant_of-result c = queue_empty _ _ c.in_ok-with_capacity.ensures.capacity c.in_ok-with_capacity.ensures.items
