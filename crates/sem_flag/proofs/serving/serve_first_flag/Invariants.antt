use Rattle.std.proofs.Common.{◌≡◌, drop}
use Rattle.kernel_model.specs.Words.Orders.{taken_from}
use Rattle.kernel_model.specs.SemFlags.Tables.{first_served, serve_flag}
use Rattle.sem_flag.specs.Parts.{parts_of}
use Rattle.sem_flag.proofs.serving.serve_first_flag.Given as goal

-- the first of what is left is the first of all, and nothing changed so far
abbrev pub invariant-flags : goal.invariant-flags
invariant-flags l = record {
  all : first_served (serve_flag l.fn.base l.fn.table) (taken_from l.id (drop l.id l.fn.table.flags)) ≡ first_served (serve_flag l.fn.base l.fn.table) (taken_from 1 (drop 1 l.fn.table.flags));
  same : parts_of l.base l.table ≡ parts_of l.fn.base l.fn.table;
}
