-- Where no line is found, and where the line that is found has another text.
use Rattle.std.proofs.Common.{sym, ◌∙◌}
use Rattle.tk_trace.proofs.Texts.{nothing_found, other_text}
use Rattle.tk_trace.proofs.reading.read_line.Goals as goal

pub returns-in_default-clause-none : goal.returns-in_default-clause-none
returns-in_default-clause-none c = nothing_found _ (sym c.in_ok-found.ensures.value ∙ c.in_default.is)

pub returns-else-branch-clause-none : goal.returns-else-branch-clause-none
returns-else-branch-clause-none c =
    other_text _ _ (sym c.in_ok-found.ensures.value ∙ c.in-Some.is) (sym c.in_ok-is_text_of.ensures ∙ c.if-branch.false)
