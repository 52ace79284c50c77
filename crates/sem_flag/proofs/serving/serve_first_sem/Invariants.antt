use Rattle.std.proofs.Common.{◌≡◌, drop}
use Rattle.kernel_model.specs.Words.Orders.{taken_from}
use Rattle.kernel_model.specs.SemFlags.Tables.{first_served, serve_sem}
use Rattle.sem_flag.specs.Parts.{parts_of}
use Rattle.sem_flag.proofs.serving.serve_first_sem.Given as goal

-- the first of what is left is the first of all, and nothing changed so far
abbrev pub invariant-sems : goal.invariant-sems
invariant-sems l = record {
  all : first_served (serve_sem l.fn.base l.fn.table) (taken_from l.id (drop l.id l.fn.table.sems)) ≡ first_served (serve_sem l.fn.base l.fn.table) (taken_from 1 (drop 1 l.fn.table.sems));
  same : parts_of l.base l.table ≡ parts_of l.fn.base l.fn.table;
}
