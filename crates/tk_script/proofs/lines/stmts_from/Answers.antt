-- What is there already, and what is left, give all statements.
use Rattle.tk_script.proofs.Loops.{stmts_go_on, stmts_stop, stmts_end}
use Rattle.tk_script.proofs.lines.stmts_from.Goals as goal

pub lines-preserved : goal.lines-preserved
lines-preserved c = stmts_go_on c.args.bodies.now c.args.labels.now c.args.kind c.lines.left.now c.behind-left.result.now c.first_number.result c.args.items.now c.lines.item-index c.item-item.result c.lines.stmts c.in-Ok.next _ c.lines-test.true c.item-item.is c.first_number.ensures c.behind-left.ensures c.lines.invariant c.in-Ok.ensures

pub returns-in-Err : goal.returns-in-Err
returns-in-Err c = stmts_stop c.args.bodies.now c.args.labels.now c.args.kind c.lines.left.now c.first_number.result c.args.items.now c.lines.item-index c.item-item.result c.lines.stmts c.in-Err.error _ c.lines-test.true c.item-item.is c.first_number.ensures c.lines.invariant c.in-Err.ensures

pub returns : goal.returns
returns c = stmts_end c.args.bodies.now c.args.labels.now c.args.kind c.lines.left.now c.args.items.now c.lines.item-index c.lines.stmts _ c.lines-test.false c.lines.invariant
