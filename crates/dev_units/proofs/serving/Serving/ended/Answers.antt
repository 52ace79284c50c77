use Rattle.std.proofs.Common.{◌≡◌, subst}
use Rattle.device_model.specs.Devices.Endings.{ending_of}
use Rattle.dev_units.specs.Cores.{Progress, served_with}
use Rattle.dev_units.proofs.serving.Serving.ended.Goals as goal

pub returns : goal.returns
returns c store =
    subst (λ (it : Progress). c.ending.result ≡ ending_of c.args.device it.request c.args.how (served_with store c.args.size c.args.error it.content)) c.self.view_is
    (c.ending.ensures store)
