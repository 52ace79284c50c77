use Rattle.std.proofs.Common.{◌≡◌, List, Option, Some, ap, ◌∙◌}
use Rattle.std.specs.Prelude.{slice_set}
use Rattle.kernel_model.specs.Words.Orders.{entry}
use Rattle.device_model.specs.Devices.Tables.{Link}
use Rattle.dev_layer.specs.Messages.{LinkTable, allows_link, attached, ended_entry}
use Rattle.dev_layer.proofs.Linked.{allows_there, bare_of, finished_fit, finished_is}
use Rattle.dev_layer.proofs.links.Links.finish.Goals as goal

pub finish_in-requires : goal.finish_in-requires
finish_in-requires c =
    allows_there c.self.inside.slots.items c.self.inside.out.items c.args.device c.args.how (ap (λ (l : LinkTable). allows_link c.args.how (entry l.links c.args.device)) c.self.view_is ∙ c.requires)

pub invariant_of-self : goal.invariant_of-self
invariant_of-self c = finished_fit c.self.inside.slots.items c.finish_in.new.slots.items c.self.inside.out.items c.args.device c.args.how c.finish_in.ensures.left c.self.invariant

pub returns-clause-left : goal.returns-clause-left
returns-clause-left c =
    ap (λ (slots : List (Option Link)). attached slots 0 c.self.inside.out.items) c.finish_in.ensures.left
    ∙ finished_is c.self.inside.slots.items c.self.inside.out.items c.args.device c.args.how
    ∙ ap (λ (l : LinkTable). slice_set l.links c.args.device (ended_entry c.args.how (entry l.links c.args.device))) c.self.view_is

pub returns-clause-served : goal.returns-clause-served
returns-clause-served c = λ link given there has.
    let shown : entry (attached c.self.inside.slots.items 0 c.self.inside.out.items) c.args.device ≡ Some link = ap (λ (l : LinkTable). entry l.links c.args.device) c.self.view_is ∙ there in
    c.finish_in.ensures.served _ given (bare_of c.self.inside.slots.items c.self.inside.out.items c.args.device link shown) has
