-- One line after another.
use Rattle.std.proofs.Common.{ap, ◌∙◌, sym, rules, arith, Some}
use Rattle.std.specs.Option.{option_copied}
use Rattle.tk_text.specs.Tokens.{parts_left}
use Rattle.tk_text.proofs.Sessions.{is_first_divider, divider_found, divider_passed, divider_never}
use Rattle.tk_text.proofs.session.first_divider.Goals as goal

pub returns-then-has_only-clause-value : goal.returns-then-has_only-clause-value
returns-then-has_only-clause-value c =
    divider_found _ _ _ _ _ _ _ (ap (λ left. parts_left 10 (option_copied left)) c.in-Some.is ∙ c.cut.ensures.parts) (sym c.has_only.ensures ∙ c.if-has_only.true) c.lines.invariant.same

pub lines-preserved : goal.lines-preserved
lines-preserved c = record {
  same = divider_passed _ _ _ _ _ _ _ (ap (λ left. parts_left 10 (option_copied left)) c.in-Some.is ∙ c.cut.ensures.parts) (sym c.has_only.ensures ∙ c.if-has_only.false) c.lines.invariant.same;
  room = search rules;
  counted = omega arith;
}

pub returns-clause-value : goal.returns-clause-value
returns-clause-value c = divider_never _ _ _ _ _ (ap (λ left. parts_left 10 (option_copied left)) c.in_default.is) c.lines.invariant.same

pub returns-then-has_only-clause-first : goal.returns-then-has_only-clause-first
returns-then-has_only-clause-first c =
    is_first_divider _ _ (Some _)
    (divider_found _ _ _ _ _ _ _ (ap (λ left. parts_left 10 (option_copied left)) c.in-Some.is ∙ c.cut.ensures.parts) (sym c.has_only.ensures ∙ c.if-has_only.true) c.lines.invariant.same)
