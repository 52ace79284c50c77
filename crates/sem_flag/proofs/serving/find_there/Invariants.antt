use Rattle.std.proofs.Common.{◌≡◌, drop}
use Rattle.std.specs.List.{find}
use Rattle.kernel_model.specs.Tasks.Base.{queue}
use Rattle.kernel_model.specs.SemFlags.Tables.{is_there}
use Rattle.sem_flag.proofs.serving.find_there.Given as goal

-- the first that is found in what is left is the first of all
abbrev pub invariant-waiters : goal.invariant-waiters
invariant-waiters l = find (is_there l.table l.row) (drop l.place (queue l.row.order l.base l.obj)) ≡ find (is_there l.table l.row) (queue l.row.order l.base l.obj)
