use Rattle.std.proofs.Common.{◌≡◌, ℕ, ◌+◌, ◌≤◌, drop, length}
use Rattle.std.specs.List.{fold}
use Rattle.kernel_model.specs.Words.Orders.{entry, taken_from}
use Rattle.device_model.specs.Devices.Handing.{handed_all}
use Rattle.device_model.specs.Devices.Tables.{Devices, device_ids, handed}
use Rattle.dev_layer.specs.Handing.{with_parts}
use Rattle.dev_layer.specs.Tables.{requests_of}
use Rattle.dev_layer.proofs.handing.hand_each.Given as goal

-- what is left to hand comes to what all comes to, there are places for that, and the devices that are left are as they were
abbrev pub invariant-devices : goal.invariant-devices
invariant-devices l = record {
  all : (dv : Devices) → dv.links ≡ l.fn.links.links → requests_of dv ≡ l.fn.requests →
      fold handed (with_parts dv l.links.links l.requests) (taken_from l.device (drop l.device l.fn.links.links)) ≡ handed_all (device_ids dv) dv;
  places : length l.fn.links.links ≤ l.links.places + l.device;
  same : (n : ℕ) → l.device ≤ n → entry l.links.links n ≡ entry l.fn.links.links n;
}
