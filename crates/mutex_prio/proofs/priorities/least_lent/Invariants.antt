use Rattle.std.proofs.Common.{◌≡◌, ◌≤◌, drop, true}
use Rattle.std.specs.Option.{is_some}
use Rattle.std.specs.Prelude.{fold}
use Rattle.kernel_model.specs.Tasks.Base.{task_at}
use Rattle.kernel_model.specs.Words.Orders.{taken_from}
use Rattle.object_model.specs.Mutexes.Priority.{lowered, own}
use Rattle.mutex_prio.proofs.priorities.least_lent.Given as goal

-- the tasks that are left bring the least so far to that of all
abbrev pub invariant-tasks : goal.invariant-tasks
invariant-tasks l = record {
  all : fold (lowered l.base l.table l.task) l.least (taken_from l.from (drop l.from l.base.tasks)) ≡ fold (lowered l.base l.table l.task) (own l.base l.table l.task) (taken_from 1 (drop 1 l.base.tasks));
  low : is_some (task_at l.base l.task) ≡ true → 1 ≤ l.least;
  high : l.least ≤ 140;
}
