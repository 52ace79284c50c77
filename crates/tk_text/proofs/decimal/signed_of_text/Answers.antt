-- A word that isn't read, or is read as a number with another text, is no number's text.
use Rattle.std.proofs.Common.{◌≡◌, ◌∙◌, ap, rules}
use Rattle.std.proofs.lemmas.Slice.Eq.{slice_eq-Decides}
use Rattle.std.proofs.lemmas.Bool.Decides.{Decides-eqb, not_from_Decides}
use Rattle.std.specs.Fmt.{signed_decimal}
use Rattle.std.specs.Int.{w32}
use Rattle.std.specs.Int.RustNames.{FitsSigned}
use Rattle.std.proofs.Math.Facts.{to_z-of_z}
use Rattle.tk_text.proofs.Decimals.{signed_is_utf8, unread_number, other_number}
use Rattle.tk_text.proofs.decimal.signed_of_text.Goals as goal

pub returns-in_default-clause-none : goal.returns-in_default-clause-none
returns-in_default-clause-none c z fits is = c.in_default.ensures.cases.0 (signed_is_utf8 c.args.word.now z fits is)

pub returns-in_default-parse-clause-none : goal.returns-in_default-parse-clause-none
returns-in_default-parse-clause-none c = unread_number c.in-Ok.text.now c.args.word.now c.parse.result _ c.in-Ok.ensures.cases.0 c.in_default-parse.is c.parse.ensures.value.0

pub returns-else-eq-clause-none : goal.returns-else-eq-clause-none
returns-else-eq-clause-none c =
    let other = not_from_Decides c.eq.result (slice_eq-Decides Decides-eqb c.as_bytes.result.now c.args.word.now c.eq.result c.eq.ensures) c.if-eq.false in
    let fits : FitsSigned w32 c.in-Ok-parse.read = search rules in
    let printed : c.format.result.now ≡ signed_decimal c.in-Ok-parse.read = c.format.ensures.text ∙ ap signed_decimal (to_z-of_z fits) in
    other_number c.in-Ok.text.now c.args.word.now c.parse.result c.in-Ok-parse.read c.in-Ok.ensures.cases.0 c.in-Ok-parse.is c.parse.ensures.value.0
    (λ same. other (c.as_bytes.ensures.value ∙ (printed ∙ same)))
