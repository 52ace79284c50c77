-- One part after another.
use Rattle.std.proofs.Common.{ap, ◌∙◌, rules}
use Rattle.std.specs.Option.{option_copied}
use Rattle.tk_text.specs.Tokens.{parts_left}
use Rattle.tk_text.proofs.Tokens.{part_pushed, parts_ended}
use Rattle.tk_text.proofs.scanning.push_line.Goals as goal

pub parts-preserved : goal.parts-preserved
parts-preserved c = record {
  same = part_pushed c.parts.tokens _ _ _ _ _ _ _ (ap (λ left. parts_left 32 (option_copied left)) c.in-Some.is ∙ c.cut.ensures.parts) c.in_ok-push_part.ensures c.parts.invariant.same;
  room = search rules;
  counted = search rules;
}

pub returns : goal.returns
returns c = parts_ended _ _ _ _ _ (ap (λ left. parts_left 32 (option_copied left)) c.in_default.is) c.parts.invariant.same
