use Rattle.std.proofs.Common.{◌≡◌, Option, List, ap, ◌∙◌, subst}
use Rattle.std.specs.Prelude.{option_copied}
use Rattle.kernel_model.specs.Words.Orders.{entry}
use Rattle.device_model.specs.Devices.Tables.{Link}
use Rattle.dev_layer.specs.Messages.{LinkTable, attached, out_in, with_out}
use Rattle.dev_layer.proofs.Linked.{slot_is}
use Rattle.dev_layer.proofs.links.Links.slot.Goals as goal

pub returns : goal.returns
returns c =
    let raw : option_copied c.in_slot.result ≡ entry c.self.inside.slots.items c.args.device = c.in_slot.ensures ∙ ap (λ (slots : List (Option Link)). entry slots c.args.device) c.deref.ensures.value in
    let shown : attached c.self.inside.slots.items 0 c.self.inside.out.items ≡ c.args.self.now.links = ap (λ (l : LinkTable). l.links) c.self.view_is in
    subst (λ (links : List (Option Link)). with_out (out_in (entry links c.args.device)) (option_copied c.in_slot.result) ≡ entry links c.args.device) shown
    (ap (with_out (out_in (entry (attached c.self.inside.slots.items 0 c.self.inside.out.items) c.args.device))) raw ∙ slot_is c.self.inside.slots.items c.self.inside.out.items c.args.device)
