-- A word that isn't read, or is read as a number with another text, is no number's text.
use Rattle.std.proofs.Common.{◌∙◌}
use Rattle.std.proofs.lemmas.Slice.Eq.{slice_eq-Decides}
use Rattle.std.proofs.lemmas.Bool.Decides.{Decides-eqb, not_from_Decides}
use Rattle.tk_text.proofs.Decimals.{decimal_is_utf8, unread_natural, other_natural}
use Rattle.tk_text.proofs.decimal.unsigned_of_text.Goals as goal

pub returns-in_default-clause-none : goal.returns-in_default-clause-none
returns-in_default-clause-none c z fits is = c.in_default.ensures.cases.0 (decimal_is_utf8 c.args.word.now z fits is)

pub returns-in_default-parse-clause-none : goal.returns-in_default-parse-clause-none
returns-in_default-parse-clause-none c = unread_natural c.in-Ok.text.now c.args.word.now c.parse.result _ c.in-Ok.ensures.cases.0 c.in_default-parse.is c.parse.ensures.value.0

pub returns-else-eq-clause-none : goal.returns-else-eq-clause-none
returns-else-eq-clause-none c =
    let other = not_from_Decides c.eq.result (slice_eq-Decides Decides-eqb c.as_bytes.result.now c.args.word.now c.eq.result c.eq.ensures) c.if-eq.false in
    other_natural c.in-Ok.text.now c.args.word.now c.parse.result c.in-Ok-parse.read c.in-Ok.ensures.cases.0 c.in-Ok-parse.is c.parse.ensures.value.0
    (λ same. other (c.as_bytes.ensures.value ∙ (c.format.ensures.text ∙ same)))
