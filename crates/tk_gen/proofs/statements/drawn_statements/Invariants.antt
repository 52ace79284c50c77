use Rattle.std.proofs.Common.{◌≡◌, ◌-◌, ◌*◌, ◌++◌, drop}
use Rattle.machine_model.specs.Runs.Generator.{drawn_statements}
use Rattle.tk_gen.proofs.statements.drawn_statements.Given as goal

-- the statements so far, and those that are left, are all
abbrev pub invariant-drawing : goal.invariant-drawing
invariant-drawing l = l.list ++ drawn_statements (l.count - l.k) (drop (2 * l.k) l.draws) ≡ drawn_statements l.count l.draws
