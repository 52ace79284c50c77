use Rattle.std.proofs.Common.{◌≡◌, drop}
use Rattle.wait_queue.specs.Queues.{task_in_place}
use Rattle.wait_queue.proofs.waiters.task_in_place.Given as goal

-- the place in what is left is that of all
abbrev pub invariant-places : goal.invariant-places
invariant-places l = task_in_place l.object l.left (drop l.waiter-index l.waiters) ≡ task_in_place l.object l.place l.waiters
