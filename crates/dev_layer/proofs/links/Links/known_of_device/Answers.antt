use Rattle.std.proofs.Common.{ap, ◌∙◌}
use Rattle.std.specs.Option.{is_some}
use Rattle.kernel_model.specs.Words.Orders.{entry}
use Rattle.dev_layer.specs.Messages.{LinkTable}
use Rattle.dev_layer.proofs.Linked.{named_by, some_there}
use Rattle.dev_layer.proofs.links.Links.known_of_device.Goals as goal

pub returns : goal.returns
returns c = λ some.
    named_by c.self.inside.slots.items c.self.inside.out.items c.args.device c.self.invariant
    (some_there c.self.inside.slots.items c.self.inside.out.items c.args.device ∙ ap (λ (l : LinkTable). is_some (entry l.links c.args.device)) c.self.view_is ∙ some)
