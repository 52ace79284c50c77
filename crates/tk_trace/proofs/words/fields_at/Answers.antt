-- One more field, one that isn't read, and the end.
use Rattle.std.proofs.Common.{◌<◌, length, sym, ◌∙◌, arith}
use Rattle.std.proofs.Math.Facts.{to_z-of_z}
use Rattle.std.proofs.lemmas.List.{length-set}
use Rattle.std.proofs.lemmas.List.Elements.{All-set}
use Rattle.std.specs.Int.{w32}
use Rattle.std.specs.Int.RustNames.{FitsSigned}
use Rattle.tk_trace.proofs.Fields.{field_read, behind_more, field_not_read, fields_read}
use Rattle.tk_trace.proofs.words.fields_at.Goals as goal

pub returns-in_err-fields-clause-value : goal.returns-in_err-fields-clause-value
returns-in_err-fields-clause-value c =
    c.from_residual.ensures ∙ field_not_read _ _ _ _ c.words-test.true (sym c.number.ensures.value ∙ c.in_err-fields.was) c.words.invariant.same

pub words-preserved : goal.words-preserved
words-preserved c =
    let fits : FitsSigned w32 c.in_ok-fields.field-0 = c.in_ok-fields.ensures.some.1 in
    let place : c.words.place < length c.words.fields = omega (arith, c.words.invariant.places) in
    rw to_z-of_z record {
      same = field_read _ _ _ _ _ _ c.words-test.true place (sym c.number.ensures.value ∙ c.in_ok-fields.was) c.words.invariant.same;
      behind = behind_more _ _ _ c.words.invariant.behind;
      places = length-set _ _ _ ∙ c.words.invariant.places;
      fits = All-set (FitsSigned w32) _ _ _ fits c.words.invariant.fits;
    }

pub returns-clause-value : goal.returns-clause-value
returns-clause-value c =
    fields_read _ _ _ c.words.auto.place-end c.words-test.false c.if-words-gt5.false c.words.invariant.places c.words.invariant.behind c.words.invariant.same
