use Rattle.std.proofs.Common.{◌≡◌, drop}
use Rattle.std.specs.List.{find}
use Rattle.kernel_model.specs.Words.Orders.{entry}
use Rattle.device_model.specs.Devices.Requests.{has_ended_of}
use Rattle.dev_layer.proofs.requests.Requests.first_ended.Given as goal

-- the first from here on is the first of all
abbrev pub invariant-ended : goal.invariant-ended
invariant-ended l = find (λ id. has_ended_of l.descriptor (entry l.self.rows id)) (drop l.place l.ended) ≡ find (λ id. has_ended_of l.descriptor (entry l.self.rows id)) l.self.ended
