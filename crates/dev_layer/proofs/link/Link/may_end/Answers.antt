use Rattle.std.proofs.Common.{ap, refl, arith}
use Rattle.device_model.specs.Devices.Tables.{Link}
use Rattle.device_model.specs.Units.Stores.{Store}
use Rattle.dev_layer.proofs.LinkEnds.{allowed_is}
use Rattle.dev_layer.proofs.link.Link.may_end.Goals as goal

pub returns : goal.returns
returns c =
    let store : Store = record { bytes = c.self.inside.bytes.items; begun = c.self.inside.begun } in
    allowed_is c.is_allowed.result c.self.inside.kind store c.request.result.now c.is_asked.result c.args.how c.args.self.now c.args.given.now
    (c.is_allowed.ensures store (record { many = omega (arith, c.len.ensures, c.self.inside.bytes.ok.0); done = refl })) (ap (λ (l : Link). l.kind) c.self.view_is) (ap (λ (l : Link). l.store) c.self.view_is) c.request.ensures.request c.is_asked.ensures
