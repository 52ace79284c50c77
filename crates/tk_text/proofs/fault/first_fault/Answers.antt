-- One line after another, what is left shows the first fault.
use Rattle.std.proofs.Common.{ap, ◌∙◌, sym, rules}
use Rattle.std.specs.Option.{option_copied}
use Rattle.tk_text.specs.Tokens.{parts_left}
use Rattle.tk_text.proofs.Faults.{fault_found, fault_passed, fault_never}
use Rattle.tk_text.proofs.fault.first_fault.Goals as goal

pub returns-in-Some-line_fault : goal.returns-in-Some-line_fault
returns-in-Some-line_fault c =
    fault_found _ _ _ _ c.in-Some-line_fault.why _ (ap (λ left. parts_left 10 (option_copied left)) c.in-Some.is ∙ c.cut.ensures.parts) (sym c.in-Some-line_fault.ensures.value) c.lines.invariant.same

pub lines-preserved : goal.lines-preserved
lines-preserved c = record {
  same = fault_passed _ _ _ _ _ (ap (λ left. parts_left 10 (option_copied left)) c.in-Some.is ∙ c.cut.ensures.parts) (sym c.in_default-line_fault.ensures.value) c.lines.invariant.same;
  room = search rules;
}

pub returns : goal.returns
returns c = fault_never _ _ _ (ap (λ left. parts_left 10 (option_copied left)) c.in_default.is) c.lines.invariant.same
