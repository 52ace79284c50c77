use Rattle.std.proofs.Common.{◌≡◌, ◌∷◌, None, take, map}
use Rattle.device_model.specs.Devices.Tables.{link_start}
use Rattle.dev_layer.proofs.links.slots_of.Given as goal

-- the devices so far
abbrev pub invariant-devices : goal.invariant-devices
invariant-devices l = l.slots.items ≡ None ∷ map link_start (take l.place l.devices)
