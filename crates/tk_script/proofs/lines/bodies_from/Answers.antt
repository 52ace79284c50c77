-- What is there already, and what is left, give all bodies.
use Rattle.tk_script.proofs.Loops.{bodies_go_on, bodies_stop, bodies_end}
use Rattle.tk_script.proofs.lines.bodies_from.Goals as goal

pub bodies-preserved : goal.bodies-preserved
bodies-preserved c = bodies_go_on c.args.bodies.now c.bodies.left.now c.behind_body-left.result.now c.args.bodies.now c.bodies.body-index c.body-item.result c.bodies.done c.in-Ok.next _ c.bodies-test.true c.body-item.is c.behind_body-left.ensures c.bodies.invariant c.in-Ok.ensures

pub returns-in-Err : goal.returns-in-Err
returns-in-Err c = bodies_stop c.args.bodies.now c.bodies.left.now c.args.bodies.now c.bodies.body-index c.body-item.result c.bodies.done c.in-Err.error _ c.bodies-test.true c.body-item.is c.bodies.invariant c.in-Err.ensures

pub returns : goal.returns
returns c = bodies_end c.args.bodies.now c.bodies.left.now c.args.bodies.now c.bodies.body-index c.bodies.done _ c.bodies-test.false c.bodies.invariant
