use Rattle.std.proofs.Common.{◌≡◌, ◌+◌, ◌-◌}
use Rattle.std.specs.List.{fold}
use Rattle.std.specs.Prelude.{reverse}
use Rattle.device_model.specs.Devices.Suspension.{event_sent}
use Rattle.device_model.specs.Devices.Tables.{device_ids}
use Rattle.dev_layer.specs.Parts.{AreFit, parts_of}
use Rattle.dev_layer.proofs.Events.{below}
use Rattle.dev_layer.proofs.suspending.send_falling.Given as goal

-- what is left to send comes to what all comes to
abbrev pub invariant-devices : goal.invariant-devices
invariant-devices l = record {
  all : fold (event_sent l.event) (parts_of l.base l.table l.mails l.memory) (reverse (below l.table.links (l.count + 1 - l.passed))) ≡ fold (event_sent l.event) (parts_of l.fn.base l.table l.fn.mails l.fn.memory) (reverse (device_ids l.table));
  fit : AreFit l.base l.mails;
}
