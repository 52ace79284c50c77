use Rattle.std.proofs.Common.{◌≤◌, ◌+◌}
use Rattle.time_events.proofs.tests.next_event.Given as goal

-- each tick made one event at most
abbrev pub invariant-ticks : goal.invariant-ticks
invariant-ticks l = record {
  few : l.base.made ≤ l.fn.base.made + l._tick;
  early : l.base.time ≤ l.fn.base.time + l._tick;
}
