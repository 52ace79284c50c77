use Rattle.std.proofs.Common.{◌≡◌, drop}
use Rattle.std.specs.Bool.{◌==◌}
use Rattle.std.specs.List.{list_all}
use Rattle.std.specs.Prelude.{filter}
use Rattle.object_model.specs.Mutexes.Tables.{ceiling_of, held, is_under, owner_of}
use Rattle.mutex_prio.proofs.ceilings.held_allow.Given as goal

-- whether those that are left allow it is whether all do
abbrev pub invariant-locks : goal.invariant-locks
invariant-locks l =
    list_all (λ id. is_under (ceiling_of l.table id) l.pri) (filter (λ id. owner_of l.table id == l.task) (drop l.id-index l.table.locks)) ≡ list_all (λ id. is_under (ceiling_of l.table id) l.pri) (held l.table l.task)
