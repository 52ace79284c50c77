use Rattle.std.proofs.Common.{◌≡◌, ◌+◌, ◌-◌, ◌<◌, ℕ, arith, length, ap, ◌∙◌}
use Rattle.std.specs.List.{fold}
use Rattle.std.specs.Prelude.{reverse}
use Rattle.device_model.specs.Devices.Suspension.{event_sent}
use Rattle.dev_layer.specs.Parts.{parts_of}
use Rattle.dev_layer.proofs.Events.{below, one_falling}
use Rattle.dev_layer.proofs.suspending.send_falling.Goals as goal

pub devices-preserved : goal.devices-preserved
devices-preserved c =
    let slots = c.device_slots-count.ensures.count in
    let inside : c.device_slots-count.result - c.devices.passed < length c.args.table.now.links = omega (arith, slots) in
    let same : c.device_slots-count.result + 1 - (c.devices.passed + 1) ≡ c.device_slots-count.result - c.devices.passed = omega arith in
    record {
      all = ap (λ (n : ℕ). fold (event_sent c.args.event) (parts_of c.send_if.new.base c.args.table.now c.send_if.new.mails c.send_if.new.memory) (reverse (below c.args.table.now.links n))) same
          ∙ one_falling (event_sent c.args.event) c.args.table.now.links (c.device_slots-count.result - c.devices.passed) (c.device_slots-count.result + 1 - c.devices.passed)
          (parts_of c.devices.base c.args.table.now c.devices.mails c.devices.memory) (parts_of c.send_if.new.base c.args.table.now c.send_if.new.mails c.send_if.new.memory) _
          (omega arith) inside (omega arith) c.send_if.ensures.sent c.devices.invariant.all;
      fit = c.send_if.ensures.fit;
    }
