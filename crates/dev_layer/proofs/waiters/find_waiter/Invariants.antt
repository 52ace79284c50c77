use Rattle.std.proofs.Common.{◌≡◌, drop}
use Rattle.std.specs.List.{find}
use Rattle.kernel_model.specs.Tasks.Base.{fifo_queue}
use Rattle.dev_layer.specs.Waiters.{is_sought}
use Rattle.dev_layer.proofs.waiters.find_waiter.Given as goal

-- the first that is found in what is left is the first of all
abbrev pub invariant-waiters : goal.invariant-waiters
invariant-waiters l = find (is_sought l.table l.sought) (drop l.place (fifo_queue l.base l.object)) ≡ find (is_sought l.table l.sought) (fifo_queue l.base l.object)
