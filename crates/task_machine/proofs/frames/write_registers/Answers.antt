use Rattle.std.proofs.Common.{◌∙◌, ap, get_or, pos, rules}
use Rattle.std.specs.Int.{cast_unsigned, w32}
use Rattle.std.specs.Int.RustNames.{FitsSigned}
use Rattle.std.proofs.lemmas.Int.{to_z-of_z}
use Rattle.task_machine.proofs.Registers.{written_more}
use Rattle.task_machine.proofs.frames.write_registers.Goals as goal

pub fields-preserved : goal.fields-preserved
fields-preserved c =
    let fits : FitsSigned w32 (get_or c.args.fields.now c.fields.place (pos 0)) = search rules in
    let bits = c.cast_unsigned.ensures ∙ ap (cast_unsigned w32) (to_z-of_z w32 (get_or c.args.fields.now c.fields.place (pos 0)) fits) in
    rw c.fields.invariant (written_more _ _ _ _ _ c.fields-test.true c.requires bits)
