use Rattle.std.proofs.Common.{◌≤◌}
use Rattle.mutex_prio.proofs.waiter_tests.run.Given as goal

-- each call made one event at most
abbrev pub invariant-calls : goal.invariant-calls
invariant-calls l = record {
  few : l.base.made ≤ l.place;
  early : l.base.time ≤ 0;
}
