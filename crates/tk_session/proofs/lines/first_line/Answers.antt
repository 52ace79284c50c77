-- The first line, and those behind it.
use Rattle.std.proofs.Common.{◌∷◌, ap, sym, ◌∙◌, ℕ, List}
use Rattle.std.specs.Option.{option_copied}
use Rattle.tk_model.specs.TextLines.{text_lines}
use Rattle.tk_raw.proofs.TextLoops.{next_line}
use Rattle.tk_session.proofs.lines.first_line.Goals as goal

pub returns-clause-lines : goal.returns-clause-lines
returns-clause-lines c =
    next_line _ _ (option_copied c.cut.result.1) c.requires c.cut.ensures.parts c.cut.ensures.room
    ∙ ap (λ (bytes : List ℕ). c.cut.result.0.now ∷ text_lines bytes) (sym c.behind.ensures)
