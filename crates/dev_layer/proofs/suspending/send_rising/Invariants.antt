use Rattle.std.proofs.Common.{◌≡◌, drop}
use Rattle.std.specs.List.{fold}
use Rattle.kernel_model.specs.Words.Orders.{taken_from}
use Rattle.device_model.specs.Devices.Suspension.{event_sent}
use Rattle.device_model.specs.Devices.Tables.{device_ids}
use Rattle.dev_layer.specs.Parts.{AreFit, parts_of}
use Rattle.dev_layer.proofs.suspending.send_rising.Given as goal

-- what is left to send comes to what all comes to
abbrev pub invariant-devices : goal.invariant-devices
invariant-devices l = record {
  all : fold (event_sent l.event) (parts_of l.base l.table l.mails l.memory) (taken_from l.device (drop l.device l.table.links)) ≡ fold (event_sent l.event) (parts_of l.fn.base l.table l.fn.mails l.fn.memory) (device_ids l.table);
  fit : AreFit l.base l.mails;
}
