use Rattle.std.proofs.Common.{◌≡◌, ◌<◌, length, rules, Some}
use Rattle.kernel_model.specs.Words.Orders.{entry}
use Rattle.kernel_lemmas.proofs.Tables.{entry_inside}
use Rattle.dev_layer.proofs.Listed.{dropped_fit}
use Rattle.dev_layer.proofs.requests.Requests.drop_request.Goals as goal

pub invariant_of-self : goal.invariant_of-self
invariant_of-self c =
    let there : entry c.self.inside.rows.items c.args.id ≡ Some c.in-Some.row.now = search rules in
    let inside : c.args.id < length c.self.inside.rows.items = entry_inside c.self.inside.rows.items c.args.id c.in-Some.row.now there in
    dropped_fit c.self.inside.rows.items c.self.inside.queued.items c.self.inside.ended.items _ _ _ _ _ _ c.args.id c.self.invariant inside c.take_out.ensures.items c.take_out-2.ensures.items c.take_out.ensures.capacity c.take_out-2.ensures.capacity
