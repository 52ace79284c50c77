use Rattle.std.proofs.Common.{◌≡◌, [], replicate}
use Rattle.mail_buffer.proofs.table.no_bytes.Given as goal

abbrev pub invariant-tasks : goal.invariant-tasks
invariant-tasks l = l.sending.items ≡ replicate l._task []
