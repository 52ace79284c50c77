use Rattle.std.proofs.Common.{◌≡◌, ◌≤◌, None, drop}
use Rattle.std.specs.Bool.{◌==◌}
use Rattle.std.specs.List.{last_or}
use Rattle.std.specs.Prelude.{IfSome, filter}
use Rattle.object_model.specs.Mutexes.Tables.{held, owner_of}
use Rattle.mutex_prio.proofs.owners.last_held.Given as goal

-- the last of what is left, or the one so far, is the last of all
abbrev pub invariant-locks : goal.invariant-locks
invariant-locks l = record {
  all : last_or l.last (filter (λ id. owner_of l.table id == l.task) (drop l.id-index l.table.locks)) ≡ last_or None (held l.table l.task);
  known : IfSome l.last (λ id. id ≤ 64);
}
