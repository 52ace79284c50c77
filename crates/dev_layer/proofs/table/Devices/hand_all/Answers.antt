use Rattle.std.proofs.Common.{subst, sym, ◌∙◌}
use Rattle.dev_layer.specs.Handing.{MayCount}
use Rattle.dev_layer.proofs.Handed.{may_count}
use Rattle.dev_layer.proofs.table.Devices.hand_all.Goals as goal

pub hand_each-requires-clause-few : goal.hand_each-requires-clause-few
hand_each-requires-clause-few c = subst MayCount (sym c.reserve.ensures.links) (may_count c.self.inside.links.links (sym c.any_worn.ensures ∙ c.if-any_worn.false))
