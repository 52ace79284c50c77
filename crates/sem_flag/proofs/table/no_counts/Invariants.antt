use Rattle.std.proofs.Common.{◌≡◌, replicate}
use Rattle.sem_flag.proofs.table.no_counts.Given as goal

abbrev pub invariant-tasks : goal.invariant-tasks
invariant-tasks l = l.counts.items ≡ replicate l._task 0
