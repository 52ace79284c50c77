use Rattle.std.proofs.Common.{◌≡◌, ◌-◌, ◌≤◌, List, true, ap, sym, ◌∙◌, refl, arith, subst, length}
use Rattle.std.specs.Option.{is_some}
use Rattle.std.specs.Prelude.{insert, vec_capacity}
use Rattle.kernel_model.specs.Words.Orders.{entry}
use Rattle.device_model.specs.declared.messages.Message.{Message}
use Rattle.device_model.specs.declared.messages.Message.TheVariants as message
use Rattle.device_model.specs.declared.messages.Request.{Request}
use Rattle.device_model.specs.Devices.Tables.{given_in}
use Rattle.dev_layer.specs.Messages.{LinkTable, links_handed, number_in, put_out, slot_hands}
use Rattle.dev_layer.proofs.Linked.{given_there, handed_is, inserted, number_there, put_fit, some_hands, some_there}
use Rattle.dev_layer.proofs.links.Links.hand.Goals as goal

pub hand_in-requires-clause-free : goal.hand_in-requires-clause-free
hand_in-requires-clause-free c =
    given_there c.self.inside.slots.items c.self.inside.out.items c.args.device ∙ ap (λ (l : LinkTable). given_in (entry l.links c.args.device)) c.self.view_is ∙ c.requires.free

pub hand_in-requires-clause-few : goal.hand_in-requires-clause-few
hand_in-requires-clause-few c =
    let same : number_in (entry c.self.inside.slots.items c.args.device) ≡ number_in (entry c.args.self.now.links c.args.device) =
    number_there c.self.inside.slots.items c.self.inside.out.items c.args.device ∙ ap (λ (l : LinkTable). number_in (entry l.links c.args.device)) c.self.view_is in
    let few = c.requires.few in
    omega (arith, same, few)

pub invariant_of-self : goal.invariant_of-self
invariant_of-self c =
    let slots = c.self.inside.slots.items in
    let some : is_some (entry c.self.inside.slots.items c.args.device) ≡ true =
    some_there c.self.inside.slots.items c.self.inside.out.items c.args.device ∙ ap (λ (l : LinkTable). is_some (entry l.links c.args.device)) c.self.view_is ∙ sym c.has.ensures ∙ c.if-not-has.false in
    let places : 1 ≤ vec_capacity c.self.inside.out - length c.self.inside.out.items = subst (λ (l : LinkTable). 1 ≤ l.places) (sym c.self.view_is) c.requires.place in
    let put : c.insert-put.new.self.items ≡ insert c.self.inside.out.items c.place_of-place.result (message.Serve c.args.device c.for_driver.result) = c.insert-put.ensures.items ∙ inserted _ _ _ (c.insert-put.ensures.succeeds (omega (arith, places, c.self.inside.out.ok.0))) in
    let placed : insert c.self.inside.out.items c.place_of-place.result (message.Serve c.args.device c.for_driver.result) ≡ put_out (message.Serve c.args.device c.for_driver.result) c.self.inside.out.items =
    subst (λ (out : List Message). insert out c.place_of-place.result (message.Serve c.args.device c.for_driver.result) ≡ put_out (message.Serve c.args.device c.for_driver.result) out) c.deref.ensures.value (c.place_of-place.ensures.place (message.Serve c.args.device c.for_driver.result) refl) in
    put_fit c.self.inside.slots.items c.hand_in.new.slots.items c.self.inside.out.items c.insert-put.new.self.items c.args.device (slot_hands c.args.handed.request (entry c.self.inside.slots.items c.args.device)) (message.Serve c.args.device c.for_driver.result) refl some
    (some_hands c.args.handed.request (entry c.self.inside.slots.items c.args.device) ∙ some) c.hand_in.ensures (put ∙ placed) c.self.invariant

pub returns-clause-links : goal.returns-clause-links
returns-clause-links c =
    let some : is_some (entry c.self.inside.slots.items c.args.device) ≡ true =
    some_there c.self.inside.slots.items c.self.inside.out.items c.args.device ∙ ap (λ (l : LinkTable). is_some (entry l.links c.args.device)) c.self.view_is ∙ sym c.has.ensures ∙ c.if-not-has.false in
    let places : 1 ≤ vec_capacity c.self.inside.out - length c.self.inside.out.items = subst (λ (l : LinkTable). 1 ≤ l.places) (sym c.self.view_is) c.requires.place in
    let put : c.insert-put.new.self.items ≡ insert c.self.inside.out.items c.place_of-place.result (message.Serve c.args.device c.for_driver.result) = c.insert-put.ensures.items ∙ inserted _ _ _ (c.insert-put.ensures.succeeds (omega (arith, places, c.self.inside.out.ok.0))) in
    let placed : insert c.self.inside.out.items c.place_of-place.result (message.Serve c.args.device c.for_driver.result) ≡ put_out (message.Serve c.args.device c.for_driver.result) c.self.inside.out.items =
    subst (λ (out : List Message). insert out c.place_of-place.result (message.Serve c.args.device c.for_driver.result) ≡ put_out (message.Serve c.args.device c.for_driver.result) out) c.deref.ensures.value (c.place_of-place.ensures.place (message.Serve c.args.device c.for_driver.result) refl) in
    let same : put_out (message.Serve c.args.device c.for_driver.result) c.self.inside.out.items ≡ put_out (message.Serve c.args.device c.args.handed.request) c.self.inside.out.items = ap (λ (r : Request). put_out (message.Serve c.args.device r) c.self.inside.out.items) c.for_driver.ensures in
    handed_is c.self.inside.slots.items c.hand_in.new.slots.items c.self.inside.out.items c.insert-put.new.self.items c.args.device c.args.handed.request c.self.invariant.sorted some c.hand_in.ensures (put ∙ placed ∙ same)
    ∙ ap (λ (l : LinkTable). links_handed l.links c.args.device c.args.handed.request) c.self.view_is
