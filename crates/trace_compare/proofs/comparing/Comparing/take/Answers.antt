-- A byte more was taken, or none is.
use Rattle.std.proofs.Common.{◌∙◌, sym, ap, inl, inr, ◌||◌, ◌&&◌}
use Rattle.trace_compare.proofs.WalkLaws.{decided_walk, never_over, walk_decided, why_over}
use Rattle.trace_compare.proofs.comparing.Comparing.take.Goals as goal

pub returns-then-is_over-clause-cause : goal.returns-then-is_over-clause-cause
returns-then-is_over-clause-cause c = λ _. rw (← c.self.view_is)
    (elim (why_over c.self.inside.is_short c.self.inside.stops c.self.inside.walk.differs
    (ap (λ differs. c.self.inside.is_short || (c.self.inside.stops && differs)) (sym c.has_decided.ensures) ∙ sym c.is_over.ensures ∙ c.if-is_over.true)) [
      | inl short ↦ inl short
      | inr both ↦ inr (both.0, walk_decided c.self.inside.walk c.self.inside.taken c.self.inside.given.now c.self.invariant.difference both.1)
    ])

pub returns-clause-over : goal.returns-clause-over
returns-clause-over c = λ over. absurd
    (never_over c.self.inside.is_short c.self.inside.stops c.self.inside.walk.differs
    (ap (λ differs. c.self.inside.is_short || (c.self.inside.stops && differs)) (sym c.has_decided.ensures) ∙ sym c.is_over.ensures ∙ c.if-is_over.false)
    (elim (rw (← c.self.view_is) at over) [
      | inl short ↦ inl short
      | inr both ↦ inr (both.0, decided_walk c.self.inside.walk c.self.inside.taken c.self.inside.given.now c.self.invariant.fair c.self.invariant.difference both.1)
    ]))
