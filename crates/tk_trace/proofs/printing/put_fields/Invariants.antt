-- The fields so far stand behind the text.
use Rattle.std.proofs.Common.{◌≡◌, ◌++◌, map, take}
use Rattle.std.specs.Fmt.{signed_decimal}
use Rattle.tk_model.specs.LineText.{spaced}
use Rattle.tk_trace.proofs.printing.put_fields.Given as goal

abbrev pub invariant-fields : goal.invariant-fields
invariant-fields l = l.out.items ≡ l.fn.out.items ++ spaced (map signed_decimal (take l.field-index l.fields))
