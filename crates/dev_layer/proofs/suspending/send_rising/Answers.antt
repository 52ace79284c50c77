use Rattle.std.proofs.Common.{◌<◌, arith, length}
use Rattle.device_model.specs.Devices.Suspension.{event_sent}
use Rattle.dev_layer.specs.Parts.{parts_of}
use Rattle.dev_layer.proofs.Events.{one_rising}
use Rattle.dev_layer.proofs.suspending.send_rising.Goals as goal

pub devices-preserved : goal.devices-preserved
devices-preserved c =
    let slots = c.device_slots-count.ensures.count in
    let inside : c.devices.device < length c.args.table.now.links = omega (arith, slots) in
    record {
      all = one_rising (event_sent c.args.event) c.args.table.now.links c.devices.device (parts_of c.devices.base c.args.table.now c.devices.mails c.devices.memory) (parts_of c.send_if.new.base c.args.table.now c.send_if.new.mails c.send_if.new.memory) _
          inside c.send_if.ensures.sent c.devices.invariant.all;
      fit = c.send_if.ensures.fit;
    }
