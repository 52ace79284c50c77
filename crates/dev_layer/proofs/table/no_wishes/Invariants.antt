use Rattle.std.proofs.Common.{◌≡◌, replicate}
use Rattle.device_model.specs.declared.rows.Wish.TheVariants.{Nothing}
use Rattle.dev_layer.proofs.table.no_wishes.Given as goal

abbrev pub invariant-tasks : goal.invariant-tasks
invariant-tasks l = l.wishes.items ≡ replicate l._task Nothing
