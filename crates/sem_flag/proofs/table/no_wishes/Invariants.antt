use Rattle.std.proofs.Common.{◌≡◌, replicate}
use Rattle.kernel_model.specs.SemFlags.Tables.{no_wish}
use Rattle.sem_flag.proofs.table.no_wishes.Given as goal

abbrev pub invariant-tasks : goal.invariant-tasks
invariant-tasks l = l.wishes.items ≡ replicate l._task no_wish
