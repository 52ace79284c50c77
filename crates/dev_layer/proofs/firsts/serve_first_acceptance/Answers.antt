use Rattle.std.proofs.Common.{◌≡◌, ◌<◌, true, false, ap, sym, ◌∙◌, arith, length}
use Rattle.std.specs.Option.{is_some}
use Rattle.std.specs.Prelude.{unwrap_or}
use Rattle.device_model.specs.Devices.Endings.{DevParts}
use Rattle.dev_layer.specs.Parts.{parts_of}
use Rattle.dev_layer.specs.Serving.{at_device}
use Rattle.mail_buffer.proofs.Firsts.{first_further, first_here, first_nowhere}
use Rattle.dev_layer.proofs.FirstServed.{acceptances_same, device_there, free_behind}
use Rattle.dev_layer.proofs.firsts.serve_first_acceptance.Goals as goal

pub returns-then-branch-clause-served : goal.returns-then-branch-clause-served
returns-then-branch-clause-served c =
    let old : DevParts = parts_of c.args.base.now c.args.table.now c.args.mails.now c.args.memory.now in
    let turn : DevParts = parts_of c.devices.base c.devices.table c.args.mails.now c.devices.memory in
    let some : true ≡ is_some (at_device turn c.devices.device) = sym c.if-branch.true ∙ c.in_ok-serve_device.ensures.served in
    (first_here at_device c.args.table.now.links c.devices.device old turn _ _ (device_there old c.devices.device) c.devices.invariant.same some c.in_ok-serve_device.ensures.left c.devices.invariant.all).served
    ∙ ap is_some (acceptances_same old)

pub returns-then-branch-clause-left : goal.returns-then-branch-clause-left
returns-then-branch-clause-left c =
    let old : DevParts = parts_of c.args.base.now c.args.table.now c.args.mails.now c.args.memory.now in
    let turn : DevParts = parts_of c.devices.base c.devices.table c.args.mails.now c.devices.memory in
    let some : true ≡ is_some (at_device turn c.devices.device) = sym c.if-branch.true ∙ c.in_ok-serve_device.ensures.served in
    (first_here at_device c.args.table.now.links c.devices.device old turn _ _ (device_there old c.devices.device) c.devices.invariant.same some c.in_ok-serve_device.ensures.left c.devices.invariant.all).left
    ∙ ap (λ o. unwrap_or o old) (acceptances_same old)

pub devices-preserved : goal.devices-preserved
devices-preserved c =
    let old : DevParts = parts_of c.args.base.now c.args.table.now c.args.mails.now c.args.memory.now in
    let turn : DevParts = parts_of c.devices.base c.devices.table c.args.mails.now c.devices.memory in
    let count = c.device_slots-count.ensures.count in
    let inside : c.devices.device < length c.args.table.now.links = omega (arith, count) in
    let none : false ≡ is_some (at_device turn c.devices.device) = sym c.if-branch.false ∙ c.in_ok-serve_device.ensures.served in
    first_further at_device c.args.table.now.links c.devices.device old turn _ _ inside c.devices.invariant.same none c.in_ok-serve_device.ensures.left c.devices.invariant.all

pub returns-clause-served : goal.returns-clause-served
returns-clause-served c =
    let old : DevParts = parts_of c.args.base.now c.args.table.now c.args.mails.now c.args.memory.now in
    let turn : DevParts = parts_of c.devices.base c.devices.table c.args.mails.now c.devices.memory in
    let count = c.device_slots-count.ensures.count in
    (first_nowhere (at_device old) c.args.table.now.links c.device_slots-count.result c.devices.device old turn _ (free_behind c.args.table.now.links c.device_slots-count.result (omega (arith, count))) c.devices-test.false c.devices.invariant.same c.devices.invariant.all).served
    ∙ ap is_some (acceptances_same old)

pub returns-clause-left : goal.returns-clause-left
returns-clause-left c =
    let old : DevParts = parts_of c.args.base.now c.args.table.now c.args.mails.now c.args.memory.now in
    let turn : DevParts = parts_of c.devices.base c.devices.table c.args.mails.now c.devices.memory in
    let count = c.device_slots-count.ensures.count in
    (first_nowhere (at_device old) c.args.table.now.links c.device_slots-count.result c.devices.device old turn _ (free_behind c.args.table.now.links c.device_slots-count.result (omega (arith, count))) c.devices-test.false c.devices.invariant.same c.devices.invariant.all).left
    ∙ ap (λ o. unwrap_or o old) (acceptances_same old)
