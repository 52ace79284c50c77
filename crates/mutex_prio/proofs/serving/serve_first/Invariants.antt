use Rattle.std.proofs.Common.{◌≡◌, drop}
use Rattle.kernel_model.specs.Words.Orders.{taken_from}
use Rattle.object_model.specs.Mutexes.Tables.{serve_mutex}
use Rattle.object_model.specs.Servings.{first_serving}
use Rattle.mutex_prio.specs.Parts.{parts_of}
use Rattle.mutex_prio.proofs.serving.serve_first.Given as goal

-- the first of what is left is the first of all, and nothing changed so far
abbrev pub invariant-mutexes : goal.invariant-mutexes
invariant-mutexes l = record {
  all : first_serving (serve_mutex l.fn.base l.fn.table) (taken_from l.id (drop l.id l.fn.table.table)) ≡ first_serving (serve_mutex l.fn.base l.fn.table) (taken_from 1 (drop 1 l.fn.table.table));
  same : parts_of l.base l.table ≡ parts_of l.fn.base l.fn.table;
}
