use Rattle.std.proofs.Common.{arith}
use Rattle.tk_gen.proofs.DrawnNumbers.{last_draw}
use Rattle.tk_gen.proofs.draws.draws.Goals as goal

pub returns-clause-drawn : goal.returns-clause-drawn
returns-clause-drawn c =
    let end = c.drawing-test.false in
    let most = c.drawing.auto._done-end in
    last_draw c.drawing.list.items _ c.args.count c.drawing._done c.drawing.last (omega (arith, end, most)) c.drawing.invariant.all
