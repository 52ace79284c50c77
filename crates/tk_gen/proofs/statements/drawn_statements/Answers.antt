use Rattle.std.proofs.Common.{arith}
use Rattle.tk_gen.proofs.Bodies.{last_statement, next_statement}
use Rattle.tk_gen.proofs.statements.drawn_statements.Goals as goal

pub drawing-preserved : goal.drawing-preserved
drawing-preserved c =
    let more = c.drawing-test.true in
    rw (c.in_ok-push.ensures.grown, c.in_ok-stmt.ensures)
    (next_statement c.drawing.list _ c.args.draws.now c.args.count c.drawing.k (omega (arith, more)) c.drawing.invariant)

pub returns : goal.returns
returns c =
    let end = c.drawing-test.false in
    let most = c.drawing.auto.k-end in
    last_statement c.drawing.list _ c.args.draws.now c.args.count c.drawing.k (omega (arith, end, most)) c.drawing.invariant
