use Rattle.std.proofs.Common.{◌≡◌, ◌+◌, ◌≤◌, drop}
use Rattle.std.specs.List.{position_or_len}
use Rattle.wait_queue.specs.Sought.{is_sought}
use Rattle.wait_queue.proofs.waiters.first_place.Given as goal

abbrev pub invariant-places : goal.invariant-places
invariant-places g l = record {
  index : l.index + position_or_len (is_sought l.sought) (drop l.index l.waiters) ≡ position_or_len (is_sought l.sought) l.waiters;
  forward : l.fn.steps ≤ l.steps;
}
