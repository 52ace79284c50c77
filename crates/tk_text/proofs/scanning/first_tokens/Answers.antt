-- One line after another.
use Rattle.std.proofs.Common.{ap, ◌∙◌, rules, arith}
use Rattle.std.specs.Option.{option_copied}
use Rattle.tk_text.specs.Tokens.{parts_left}
use Rattle.tk_text.proofs.Tokens.{line_pushed, lines_over, lines_enough}
use Rattle.tk_text.proofs.scanning.first_tokens.Goals as goal
use Rattle.tk_text.proofs.scanning.first_tokens.Goals.{in-Some+then-number-most, in_default}

pub lines-preserved : goal.lines-preserved
lines-preserved c = record {
  same = line_pushed c.lines.tokens _ _ _ _ _ _ _ _ (omega arith) (ap (λ left. parts_left 10 (option_copied left)) c.in-Some.is ∙ c.cut.ensures.parts) c.in_ok-push_line.ensures c.lines.invariant.same;
  room = search rules;
  counted = search rules;
  within = search rules;
}

pub returns : goal.returns
returns c =
    elim c.match-left.branch [
      | in-Some+then-number-most w ↦ lines_enough _ _ _ _ _ _ _ w.if-number-most.true c.lines.invariant.same
      | in_default w ↦ lines_over _ _ _ _ _ _ (ap (λ left. parts_left 10 (option_copied left)) w.in_default.is) c.lines.invariant.same
    ]
