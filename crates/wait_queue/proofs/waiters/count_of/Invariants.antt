use Rattle.std.proofs.Common.{◌≡◌, ◌+◌, ◌≤◌, drop, length}
use Rattle.wait_queue.specs.Queues.{queue_of}
use Rattle.wait_queue.proofs.waiters.count_of.Given as goal

-- what was counted, and what is left
abbrev pub invariant-places : goal.invariant-places
invariant-places l = record {
  all : l.count + length (queue_of l.object (drop l.waiter-index l.waiters)) ≡ length (queue_of l.object l.waiters);
  within : l.count ≤ l.waiter-index;
}
