use Rattle.std.proofs.Common.{◌≡◌, ◌+◌, ◌-◌, ◌*◌, ◌≤◌, ◌++◌, length}
use Rattle.machine_model.specs.Runs.Generator.{drawn_bodies}
use Rattle.tk_gen.proofs.script.push_drawn.Given as goal

-- the bodies so far, and those that are left, are all
abbrev pub invariant-drawing : goal.invariant-drawing
invariant-drawing l = record {
  all : l.bodies ++ drawn_bodies ((l.count + 1) - l.task) l.task l.left ≡ l.fn.bodies ++ drawn_bodies l.count 1 l.draws;
  enough : 80 * ((l.count + 1) - l.task) ≤ length l.left;
}
