use Rattle.std.proofs.Common.{◌≡◌, None, replicate}
use Rattle.time_events.proofs.table.free_slots.Given as goal

abbrev pub invariant-slots : goal.invariant-slots
invariant-slots g l = l.slots.items ≡ replicate l._id None
