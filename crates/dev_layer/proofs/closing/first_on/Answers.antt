use Rattle.std.proofs.Common.{◌+◌, ◌-◌, ℕ, ap, ◌∙◌}
use Rattle.std.specs.List.{find}
use Rattle.std.specs.Prelude.{slice_get}
use Rattle.kernel_model.specs.Tasks.Base.{fifo_queue}
use Rattle.device_model.specs.Devices.Calls.{wish_is_of}
use Rattle.device_model.specs.Devices.Tables.{wish_of}
use Rattle.dev_layer.proofs.Aborting.{first_of_all}
use Rattle.dev_layer.proofs.closing.first_on.Goals as goal

pub returns : goal.returns
returns c =
    c.earlier.ensures
    ∙ first_of_all c.args.base.now (584 + (c.args.descriptor - 1)) (575 + c.args.device) (λ t. wish_is_of c.args.descriptor (wish_of c.args.table.now t)) c.first_waiter-ending.result c.find_waiter-accepted.result
    (c.first_waiter-ending.ensures ∙ ap (λ (o : ℕ). slice_get (fifo_queue c.args.base.now o) 0) c.ending_object.ensures)
    (c.find_waiter-accepted.ensures ∙ ap (λ (o : ℕ). find (λ t. wish_is_of c.args.descriptor (wish_of c.args.table.now t)) (fifo_queue c.args.base.now o)) c.acceptance_object.ensures)
