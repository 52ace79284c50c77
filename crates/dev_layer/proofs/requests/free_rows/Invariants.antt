use Rattle.std.proofs.Common.{◌≡◌, None, replicate}
use Rattle.dev_layer.proofs.requests.free_rows.Given as goal

abbrev pub invariant-slots : goal.invariant-slots
invariant-slots l = l.slots.items ≡ replicate l._id None
