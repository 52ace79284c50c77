-- One more field, or what a failed one leaves.
use Rattle.std.proofs.Common.{rules, ◌≡◌, length, take}
use Rattle.tk_trace.proofs.Growth.{front_kept, field_more}
use Rattle.tk_trace.proofs.printing.put_fields.Goals as goal

pub returns-in_err-put_field-clause-front : goal.returns-in_err-put_field-clause-front
returns-in_err-put_field-clause-front c =
    let front : take (length c.args.out.now.items) c.put_field.new.out.items ≡ c.args.out.now.items = front_kept _ _ _ _ c.fields.invariant c.in_err-put_field.ensures.front in
    search rules

pub fields-preserved : goal.fields-preserved
fields-preserved c = field_more _ _ _ _ _ (search rules) c.fields-test.true c.fields.invariant c.in_ok-put_field.ensures.grown
