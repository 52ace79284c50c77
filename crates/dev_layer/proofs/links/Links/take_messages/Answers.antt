use Rattle.std.proofs.Common.{List, ap, sym, ◌∙◌}
use Rattle.std.specs.Prelude.{map}
use Rattle.device_model.specs.declared.messages.Message.{Message}
use Rattle.device_model.specs.Devices.Handing.{link_emptied, out_of}
use Rattle.dev_layer.specs.Messages.{LinkTable, attached}
use Rattle.dev_layer.proofs.Attached.{emptied_attached, out_is}
use Rattle.dev_layer.proofs.links.Links.take_messages.Goals as goal

pub returns-clause-taken : goal.returns-clause-taken
returns-clause-taken c =
    ap (λ v. v.items) c.replace.ensures.value
    ∙ sym (out_is c.self.inside.slots.items c.self.inside.out.items c.self.invariant.sorted c.self.invariant.known)
    ∙ ap (λ (l : LinkTable). out_of l.links) c.self.view_is

pub returns-clause-left : goal.returns-clause-left
returns-clause-left c =
    ap (λ (out : List Message). attached c.self.inside.slots.items 0 out) (ap (λ v. v.items) c.replace.ensures.after ∙ c.new-none.ensures.items)
    ∙ sym (emptied_attached c.self.inside.slots.items 0 c.self.inside.out.items)
    ∙ ap (λ (l : LinkTable). map link_emptied l.links) c.self.view_is
