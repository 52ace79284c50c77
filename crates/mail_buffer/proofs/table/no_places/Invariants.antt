use Rattle.std.proofs.Common.{◌≡◌, replicate}
use Rattle.mail_buffer.proofs.table.no_places.Given as goal

abbrev pub invariant-tasks : goal.invariant-tasks
invariant-tasks l = l.places.items ≡ replicate l._task 0
