use Rattle.std.proofs.Common.{◌≡◌, drop}
use Rattle.kernel_model.specs.Words.Orders.{taken_from}
use Rattle.object_model.specs.Servings.{first_serving}
use Rattle.object_model.specs.Pools.Variable.{serve_variable}
use Rattle.mem_pools.specs.Parts.{parts_of}
use Rattle.mem_pools.proofs.serving.serve_first_variable.Given as goal

-- the first of what is left is the first of all, and nothing changed so far
abbrev pub invariant-pools : goal.invariant-pools
invariant-pools l = record {
  all : first_serving (serve_variable (parts_of l.fn.base l.fn.table)) (taken_from l.id (drop l.id l.fn.table.variable)) ≡ first_serving (serve_variable (parts_of l.fn.base l.fn.table)) (taken_from 1 (drop 1 l.fn.table.variable));
  same : parts_of l.base l.table ≡ parts_of l.fn.base l.fn.table;
}
