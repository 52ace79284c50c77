use Rattle.std.proofs.Common.{arith}
use Rattle.std.proofs.lemmas.List.{length-drop, take_rest}
use Rattle.tk_gen.proofs.Bodies.{last_body, next_body}
use Rattle.tk_gen.proofs.script.push_drawn.Goals as goal

pub drawing-preserved : goal.drawing-preserved
drawing-preserved c =
    let more = c.drawing-test.true in
    let enough = c.drawing.invariant.enough in
    let many = length-drop 80 c.drawing.left.now in
    rw take_rest
    (record {
      all = rw (c.in_ok-push.ensures.grown, c.new.ensures, c.in_ok-name.ensures, c.in_ok-stmts.ensures)
          (next_body c.drawing.bodies _ c.drawing.left.now c.args.count c.drawing.task (omega (arith, more)) c.drawing.invariant.all);
      enough = omega (arith, many, enough, more);
    })

pub returns : goal.returns
returns c =
    let end = c.drawing-test.false in
    let most = c.drawing.auto.task-end in
    last_body c.drawing.bodies _ c.drawing.left.now c.args.count c.drawing.task (omega (arith, end, most)) c.drawing.invariant.all
