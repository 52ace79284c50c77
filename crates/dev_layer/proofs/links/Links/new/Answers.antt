use Rattle.std.proofs.Common.{◌≡◌, ◌∷◌, Option, List, None, ap, ◌∙◌, rules, map}
use Rattle.device_model.specs.declared.messages.Message.{Message}
use Rattle.device_model.specs.Devices.Tables.{Link, link_start}
use Rattle.dev_layer.specs.Messages.{attached}
use Rattle.dev_layer.proofs.Attached.{start_attached}
use Rattle.dev_layer.proofs.links.Links.new.Goals as goal

pub returns : goal.returns
returns c =
    let slots : c.in_ok-slots_of.field-0.items ≡ None ∷ map link_start c.args.devices.now = search rules in
    ap (λ (xs : List (Option Link)). attached xs 0 c.new.result.items) slots
    ∙ ap (λ (out : List Message). attached (None ∷ map link_start c.args.devices.now) 0 out) c.new.ensures.items
    ∙ ap (λ (rest : List (Option Link)). None ∷ rest) (start_attached c.args.devices.now 1)
