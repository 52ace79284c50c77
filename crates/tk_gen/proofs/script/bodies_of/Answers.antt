use Rattle.std.proofs.Common.{arith, refl}
use Rattle.std.proofs.lemmas.List.{length-take, take_rest}
use Rattle.tk_gen.proofs.script.bodies_of.Goals as goal

pub slice_bounds-main_statements-end : goal.slice_bounds-main_statements-end
slice_bounds-main_statements-end c =
    let many = c.requires.many in
    let taken = length-take 100 c.args.draws.now in
    grind (arith, many, taken)

pub main_statements-requires-clause-few : goal.main_statements-requires-clause-few
main_statements-requires-clause-few c =
    let taken = length-take 100 c.args.draws.now in
    grind (arith, taken)

pub returns : goal.returns
returns c =
    rw (c.in_ok-push_drawn.ensures, take_rest, c.in_ok-push.ensures.grown, c.new-bodies.ensures, c.new.ensures, c.named.ensures, c.in_ok-stmts.ensures) refl
