use Rattle.std.proofs.Common.{arith, refl}
use Rattle.tk_gen.proofs.Bodies.{last_making, next_making}
use Rattle.tk_gen.proofs.statements.main_statements.Goals as goal

pub making-preserved : goal.making-preserved
making-preserved c =
    let more = c.making-test.true in
    let task = c.making.invariant.task in
    record {
      all = rw c.in_ok-push_making.ensures
          (next_making c.making.list _ c.args.priorities.now c.making.draw-index c.making.task _ (omega (arith, more)) refl c.making.invariant.all);
      task = omega (arith, task);
    }

pub returns : goal.returns
returns c =
    let end = c.making-test.false in
    let most = c.making.auto.draw-index-end in
    last_making c.making.list _ c.args.priorities.now c.making.draw-index c.making.task (omega (arith, end, most)) c.making.invariant.all
