use Rattle.std.proofs.Common.{◌≡◌, drop}
use Rattle.std.specs.List.{find}
use Rattle.kernel_model.specs.Words.Orders.{entry}
use Rattle.device_model.specs.Devices.Tables.{queues_on}
use Rattle.dev_layer.specs.Requests.{first_waiting}
use Rattle.dev_layer.proofs.requests.Requests.first_waiting.Given as goal

-- the first from here on is the first of all
abbrev pub invariant-queued : goal.invariant-queued
invariant-queued l = find (λ id. queues_on l.device (entry l.self.rows id)) (drop l.place l.queued) ≡ first_waiting l.self l.device
