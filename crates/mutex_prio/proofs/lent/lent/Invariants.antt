use Rattle.std.proofs.Common.{◌≡◌, ◌<◌, ℕ, drop, get_or}
use Rattle.std.specs.Prelude.{fold}
use Rattle.kernel_model.specs.Words.Orders.{taken_from}
use Rattle.object_model.specs.Mutexes.Priority.{lowered}
use Rattle.mutex_prio.specs.Lent.{AreFit, least_lent}
use Rattle.mutex_prio.proofs.lent.lent.Given as goal

-- the tasks that are left bring the least of each task so far to that of all
abbrev pub invariant-tasks : goal.invariant-tasks
invariant-tasks l = record {
  all : (t : ℕ) → t < 256 → fold (lowered l.base l.table t) (get_or l.all t 0) (taken_from l.from (drop l.from l.base.tasks)) ≡ least_lent l.base l.table t;
  fit : AreFit l.base l.all;
}
