use Rattle.std.proofs.Common.{◌≡◌, [], drop}
use Rattle.tk_script.specs.Resolving.{stmts_from}
use Rattle.tk_script.proofs.lines.stmts_from.Given as goal

abbrev pub invariant-lines : goal.invariant-lines
invariant-lines l = stmts_from l.bodies l.labels l.kind l.left (drop l.item-index l.items) l.stmts ≡ stmts_from l.bodies l.labels l.kind l.numbers l.items []
