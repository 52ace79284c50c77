use Rattle.std.proofs.Common.{◌≡◌, Some, ap, ◌∙◌, rules}
use Rattle.device_model.specs.declared.messages.Request.{Request}
use Rattle.device_model.specs.Devices.Tables.{Given, Link}
use Rattle.device_model.specs.Devices.Endings.{says, served_of}
use Rattle.device_model.specs.Units.Function.{Served}
use Rattle.dev_layer.proofs.LinkEnds.{fits_at, read_at}
use Rattle.dev_layer.proofs.link.Link.fits.Goals as goal

pub returns : goal.returns
returns c =
    let link : Link = c.args.self.now in
    let given : Given = c.in-Some.given.now in
    let there : link.given ≡ Some given = search rules in
    let served : Served = served_of link.kind link.store given.request c.args.ending.now.how in
    let read : served.content ≡ c.content-content.result.now = read_at link.kind link.store given.request c.args.ending.now.how c.moved-moved.result.count c.content-content.result.now c.moved-moved.ensures.count c.content-content.ensures in
    let told : c.says.result ≡ says c.args.ending.now c.request.result.now served = c.says.ensures served c.moved-moved.ensures.served read in
    fits_at c.args.ending.now link given c.says.result c.may_end.result there c.may_end.ensures c.if-not-may_end.false (told ∙ ap (λ (r : Request). says c.args.ending.now r served) c.request.ensures.request)
