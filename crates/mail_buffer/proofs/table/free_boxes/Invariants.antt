use Rattle.std.proofs.Common.{◌≡◌, None, replicate}
use Rattle.mail_buffer.proofs.table.free_boxes.Given as goal

abbrev pub invariant-slots : goal.invariant-slots
invariant-slots l = l.slots.items ≡ replicate l._id None
