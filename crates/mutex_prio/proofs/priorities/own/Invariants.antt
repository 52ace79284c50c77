use Rattle.std.proofs.Common.{◌≡◌, ◌≤◌, drop, true}
use Rattle.std.specs.Bool.{◌==◌}
use Rattle.std.specs.Option.{is_some}
use Rattle.std.specs.Prelude.{filter, fold}
use Rattle.kernel_model.specs.Tasks.Base.{task_at}
use Rattle.object_model.specs.Mutexes.Priority.{capped, own}
use Rattle.object_model.specs.Mutexes.Tables.{owner_of}
use Rattle.mutex_prio.proofs.priorities.own.Given as goal

-- the ceilings that are left bring the priority so far to that of all
abbrev pub invariant-locks : goal.invariant-locks
invariant-locks l = record {
  all : fold (capped l.table) l.pri (filter (λ id. owner_of l.table id == l.task) (drop l.id-index l.table.locks)) ≡ own l.base l.table l.task;
  low : is_some (task_at l.base l.task) ≡ true → 1 ≤ l.pri;
  high : l.pri ≤ 140;
}
