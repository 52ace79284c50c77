use Rattle.std.proofs.Common.{◌≡◌, ◌+◌, ℕ, Some, true, ap, sym, ◌∙◌}
use Rattle.kernel_model.specs.Words.Orders.{entry}
use Rattle.device_model.specs.Devices.Tables.{Row, request_of}
use Rattle.dev_layer.specs.Messages.{number_in}
use Rattle.dev_layer.specs.Requests.{first_waiting, queues_some}
use Rattle.dev_layer.proofs.Handed.{busy_handed, first_handed, idle_handed, none_handed, others_kept, waits_there}
use Rattle.dev_layer.proofs.Slots.{not_some}
use Rattle.dev_layer.proofs.handing.hand_one.Goals as goal

pub returns-then-not-has-clause-handed : goal.returns-then-not-has-clause-handed
returns-then-not-has-clause-handed c = λ dv one other.
    none_handed dv c.args.links.now.links c.args.requests.now c.args.device one other (not_some (entry c.args.links.now.links c.args.device) (sym c.has.ensures ∙ c.if-not-has.true))

pub returns-then-has_given-clause-handed : goal.returns-then-has_given-clause-handed
returns-then-has_given-clause-handed c = λ dv one other.
    busy_handed dv c.args.links.now.links c.args.requests.now c.args.device one other (sym c.has_given.ensures ∙ c.if-has_given.true)

pub returns-in_default-clause-handed : goal.returns-in_default-clause-handed
returns-in_default-clause-handed c = λ dv one other.
    idle_handed dv c.args.links.now.links c.args.requests.now c.args.device one other (sym c.has.ensures ∙ c.if-not-has.false) (sym c.has_given.ensures ∙ c.if-has_given.false) (sym c.first_waiting.ensures.first ∙ c.in_default.is)

pub returns-clause-handed : goal.returns-clause-handed
returns-clause-handed c = λ dv one other.
    let first : first_waiting c.args.requests.now c.args.device ≡ Some c.in-Some.id = sym c.first_waiting.ensures.first ∙ c.in-Some.is in
    let waits : queues_some (entry c.args.requests.now.rows c.in-Some.id) ≡ true = waits_there c.args.requests.now c.args.device c.in-Some.id c.in-Some.ensures.waits in
    let told : (row : Row) → entry c.args.requests.now.rows c.in-Some.id ≡ Some row → c.in-Some-hand.handed.request ≡ request_of c.in-Some.id (number_in (entry c.args.links.now.links c.args.device) + 1) row =
    λ row has. c.in-Some-hand.ensures.request row has ∙ ap (λ (n : ℕ). request_of c.in-Some.id (n + 1) row) c.number.ensures in
    first_handed dv c.args.links.now.links c.hand-2.new.self.links c.args.requests.now c.hand.new.self c.args.device c.in-Some.id c.in-Some-hand.handed.request one other (sym c.has.ensures ∙ c.if-not-has.false) (sym c.has_given.ensures ∙ c.if-has_given.false)
    first waits told c.hand-2.ensures.links c.in-Some-hand.ensures.left

pub returns-clause-others : goal.returns-clause-others
returns-clause-others c = others_kept c.args.links.now.links c.hand-2.new.self.links c.args.device c.in-Some-hand.handed.request c.hand-2.ensures.links
