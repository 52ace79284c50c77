-- What is printed, and the lines that are left, are all lines.
use Rattle.std.proofs.Common.{◌≡◌, ◌++◌, drop}
use Rattle.std.specs.List.{flat_map}
use Rattle.tk_model.specs.ScriptText.{body_lines}
use Rattle.tk_script.specs.Words.{lines_text}
use Rattle.tk_script.proofs.print_lines.print_bodies.Given as goal

abbrev pub invariant-bodies : goal.invariant-bodies
invariant-bodies l = l.out.items ++ lines_text (flat_map (body_lines l.bodies) (drop l.body-index l.bodies)) ≡ l.fn.out.items ++ lines_text (flat_map (body_lines l.bodies) l.bodies)
