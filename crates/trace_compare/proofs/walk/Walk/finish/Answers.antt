-- Nothing is left of the one text, and of the other nothing or a line.
use Rattle.std.proofs.Common.{◌∙◌, sym}
use Rattle.trace_compare.proofs.WalkLaws.{walk_ended, walk_left}
use Rattle.trace_compare.proofs.walk.Walk.finish.Goals as goal

pub returns-in-None-clause-same : goal.returns-in-None-clause-same
returns-in-None-clause-same c =
    sym c.closed-number.ensures.same
    ∙ walk_ended c.closed-number.result c.first_only-have.result c.if-differs.false (c.closed-number.ensures.begun c.if-differs.false) c.in-None.is c.first_only-have.ensures

pub returns-clause-differs : goal.returns-clause-differs
returns-clause-differs c =
    sym c.closed-number.ensures.same
    ∙ walk_left c.closed-number.result c.first_only-have.result c.in-Some.field-0 c.if-differs.false (c.closed-number.ensures.begun c.if-differs.false) c.in-Some.is c.first_only-have.ensures
