use Rattle.std.proofs.Common.{◌≡◌, ◌<◌, ◌≤◌, ℕ, get_or, length, true}
use Rattle.kernel_model.specs.Tasks.Base.{task_at}
use Rattle.object_model.specs.Mutexes.Priority.{is_alive, own}
use Rattle.mutex_prio.proofs.lent.owns.Given as goal

-- those so far have what they have by themselves
abbrev pub invariant-tasks : goal.invariant-tasks
invariant-tasks l = record {
  long : length l.all ≡ 256;
  owns : (t : ℕ) → t < l.task → get_or l.all t 0 ≡ own l.base l.table t;
  low : (t : ℕ) → t < l.task → is_alive (task_at l.base t) ≡ true → 1 ≤ get_or l.all t 0;
  high : (t : ℕ) → t < l.task → get_or l.all t 0 ≤ 140;
}
