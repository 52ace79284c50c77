use Rattle.std.proofs.Common.{◌≡◌, true, rules}
use Rattle.std.specs.Prelude.{int_le, negsuc}
use Rattle.tk_types.specs.declared.error_code.Er.TheVariants as er
use Rattle.kernel_model.specs.Words.Checks.{within}
use Rattle.object_model.specs.Mails.Calls.{is_inside}
use Rattle.dev_layer.proofs.Checked.{four_hold}
use Rattle.dev_layer.proofs.requesting.checked_numbers.Goals as goal

pub returns-clause-ok : goal.returns-clause-ok
returns-clause-ok c =
    let one : within 1 32 c.args.wanted.now.descriptor ≡ true = search rules in
    let two : int_le (negsuc 0) c.args.wanted.now.start ≡ true = search rules in
    let three : is_inside c.args.wanted.now.address c.args.wanted.now.size ≡ true = search rules in
    let four : int_le (negsuc 0) c.args.timeout ≡ true = search rules in
    four_hold _ _ _ _ er.Id er.Par er.Par er.Par one two three four
