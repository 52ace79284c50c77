use Rattle.std.proofs.Common.{◌<◌, sym, ◌∙◌, arith, length}
use Rattle.std.specs.Option.{is_some}
use Rattle.dev_layer.specs.Requests.{first_waiting}
use Rattle.dev_layer.proofs.Handed.{further_first, here_first}
use Rattle.dev_layer.proofs.handing.first_device.Goals as goal

pub returns-then-waits_at : goal.returns-then-waits_at
returns-then-waits_at c =
    here_first (λ d. is_some (first_waiting c.args.requests.now d)) c.args.links.now.links c.devices.device _ (sym c.waits_at.ensures ∙ c.if-waits_at.true) c.devices.invariant

pub devices-preserved : goal.devices-preserved
devices-preserved c =
    let inside : c.devices.device < length c.args.links.now.links = omega arith in
    further_first (λ d. is_some (first_waiting c.args.requests.now d)) c.args.links.now.links c.devices.device _ inside (sym c.waits_at.ensures ∙ c.if-waits_at.false) c.devices.invariant
