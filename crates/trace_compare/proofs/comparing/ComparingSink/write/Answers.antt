-- Nothing was taken, for a cause.
use Rattle.std.proofs.Common.{◌<◌, length, inl, inr, arith}
use Rattle.trace_compare.proofs.comparing.ComparingSink.write.Goals as goal

pub returns-then-not-is_empty-clause-failed : goal.returns-then-not-is_empty-clause-failed
returns-then-not-is_empty-clause-failed c =
    let cut : c.take_front-count.result < length c.args.piece.now = grind arith in
    rw (← c.self.view_is) at (c.take_front-count.ensures.cause cut)

pub invariant_of-self : goal.invariant_of-self
invariant_of-self c =
    let cut : c.take_front-count.result < length c.args.piece.now = grind arith in
    let why = rw (← c.self.view_is) at (c.take_front-count.ensures.cause cut) in
    record {
      fair = c.self.invariant.fair;
      difference = c.self.invariant.difference;
      lines = c.self.invariant.lines;
      cause = λ _. elim why [ inl short ↦ inl short | inr both ↦ inr both.1 ];
    }
