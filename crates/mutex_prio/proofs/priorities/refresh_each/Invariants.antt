use Rattle.std.proofs.Common.{◌≡◌, ◌≤◌, length}
use Rattle.object_model.specs.Mutexes.Priority.{resettle}
use Rattle.mutex_prio.proofs.Folded.{left_from}
use Rattle.mutex_prio.proofs.priorities.refresh_each.Given as goal

-- the tasks that are left bring the base so far to that of all
abbrev pub invariant-tasks : goal.invariant-tasks
invariant-tasks l = record {
  all : left_from l.table l.task l.base ≡ resettle l.fn.base l.table;
  long : length l.base.tasks ≤ 256;
}
