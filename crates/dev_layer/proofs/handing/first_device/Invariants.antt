use Rattle.std.proofs.Common.{◌≡◌, drop}
use Rattle.std.specs.List.{find}
use Rattle.std.specs.Option.{is_some}
use Rattle.kernel_model.specs.Words.Orders.{taken_from}
use Rattle.dev_layer.specs.Requests.{first_waiting}
use Rattle.dev_layer.proofs.handing.first_device.Given as goal

-- the first of what is left is the first of all
abbrev pub invariant-devices : goal.invariant-devices
invariant-devices l =
    find (λ d. is_some (first_waiting l.requests d)) (taken_from l.device (drop l.device l.links.links)) ≡ find (λ d. is_some (first_waiting l.requests d)) (taken_from 1 (drop 1 l.links.links))
