use Rattle.std.proofs.Common.{◌≡◌, ◌+◌, ◌++◌, drop}
use Rattle.machine_model.specs.Runs.Generator.{main_statements, making_from}
use Rattle.tk_gen.proofs.statements.main_statements.Given as goal

-- the statements so far, and those that make the tasks that are left, are all
abbrev pub invariant-making : goal.invariant-making
invariant-making l = record {
  all : l.list ++ making_from l.task (drop l.draw-index l.priorities) ≡ main_statements l.priorities;
  task : l.task ≡ l.draw-index + 1;
}
