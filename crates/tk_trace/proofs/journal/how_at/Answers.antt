-- Three words and more.
use Rattle.std.proofs.Common.{sym, ◌∙◌}
use Rattle.tk_trace.proofs.Takes.{too_many}
use Rattle.tk_trace.proofs.journal.how_at.Goals as goal

pub returns-then-is_some-clause-value : goal.returns-then-is_some-clause-value
returns-then-is_some-clause-value c =
    too_many _ _ _ _ _ _ c.cut.ensures.parts c.in-Some.is c.cut-2.ensures.parts (sym c.is_some.ensures ∙ c.if-is_some.true)
