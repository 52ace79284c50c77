use Rattle.std.proofs.Common.{◌≡◌, [], drop}
use Rattle.tk_script.specs.Resolving.{bodies_from}
use Rattle.tk_script.proofs.lines.bodies_from.Given as goal

abbrev pub invariant-bodies : goal.invariant-bodies
invariant-bodies l = bodies_from l.bodies l.left (drop l.body-index l.bodies) l.done ≡ bodies_from l.bodies l.numbers l.bodies []
