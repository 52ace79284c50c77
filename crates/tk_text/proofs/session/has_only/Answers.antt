-- A second word, or another one, is none alone.
use Rattle.std.proofs.Common.{ap, ◌∙◌, sym, rules}
use Rattle.std.specs.Option.{option_copied}
use Rattle.tk_text.specs.Sessions.{is_divider}
use Rattle.tk_text.specs.Tokens.{parts_left}
use Rattle.tk_text.proofs.Sessions.{second_word, other_word, none_left}
use Rattle.tk_text.proofs.session.has_only.Goals as goal
use Rattle.tk_text.proofs.session.has_only.Goals.{then-found-via-then-found, then-found-via-else-found+then-ne}

pub returns-then-found : goal.returns-then-found
unfolding is_divider
returns-then-found c =
    let cut = ap (λ left. parts_left 32 (option_copied left)) c.in-Some.is ∙ c.cut.ensures.parts in
    elim c.then-found.branch [
      | then-found-via-then-found w ↦ second_word _ _ _ _ _ _ cut c.if-not-is_empty.ensures w.if-found.true c.parts.invariant
      | then-found-via-else-found+then-ne w ↦ other_word _ _ _ _ _ _ cut c.if-not-is_empty.ensures w.if-found.false (search rules) c.parts.invariant
    ]

pub returns : goal.returns
unfolding is_divider
returns c = none_left _ _ _ _ (ap (λ left. parts_left 32 (option_copied left)) c.in_default.is) c.parts.invariant
