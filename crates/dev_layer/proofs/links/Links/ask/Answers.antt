use Rattle.std.proofs.Common.{◌≡◌, List, Some, true, ap, sym, ◌∙◌, refl, subst, rules}
use Rattle.std.specs.Option.{is_some, option_map}
use Rattle.std.specs.Prelude.{insert}
use Rattle.kernel_model.specs.Words.Orders.{entry}
use Rattle.device_model.specs.declared.messages.Message.{Message}
use Rattle.device_model.specs.declared.messages.Message.TheVariants as message
use Rattle.dev_layer.specs.Messages.{LinkTable, abort_number, link_asking, links_asked, put_out}
use Rattle.dev_layer.proofs.Linked.{abort_there, asked_is, put_fit, some_abort, some_asking}
use Rattle.dev_layer.proofs.links.Links.ask.Goals as goal

pub invariant_of-self-2 : goal.invariant_of-self-2
invariant_of-self-2 c =
    let number : abort_number (entry c.self.inside.slots.items c.args.device) ≡ Some c.in-Some.number =
    abort_there c.self.inside.slots.items c.self.inside.out.items c.args.device ∙ ap (λ (l : LinkTable). abort_number (entry l.links c.args.device)) c.self.view_is ∙ sym c.to_abort.ensures ∙ c.in-Some.is in
    let some : is_some (entry c.self.inside.slots.items c.args.device) ≡ true = some_abort (entry c.self.inside.slots.items c.args.device) c.in-Some.number number in
    let put : c.insert.new.self.items ≡ insert c.self.inside.out.items c.place_of-place.result (message.Abort c.args.device c.in-Some.number) = search rules in
    let placed : insert c.self.inside.out.items c.place_of-place.result (message.Abort c.args.device c.in-Some.number) ≡ put_out (message.Abort c.args.device c.in-Some.number) c.self.inside.out.items =
    subst (λ (out : List Message). insert out c.place_of-place.result (message.Abort c.args.device c.in-Some.number) ≡ put_out (message.Abort c.args.device c.in-Some.number) out) c.deref.ensures.value (c.place_of-place.ensures.place (message.Abort c.args.device c.in-Some.number) refl) in
    put_fit c.self.inside.slots.items c.ask_in.new.slots.items c.self.inside.out.items c.insert.new.self.items c.args.device (option_map link_asking (entry c.self.inside.slots.items c.args.device)) (message.Abort c.args.device c.in-Some.number) refl some
    (some_asking (entry c.self.inside.slots.items c.args.device) some) c.ask_in.ensures (put ∙ placed) c.self.invariant

pub returns-clause-ok : goal.returns-clause-ok
returns-clause-ok c =
    let number : abort_number (entry c.self.inside.slots.items c.args.device) ≡ Some c.in-Some.number =
    abort_there c.self.inside.slots.items c.self.inside.out.items c.args.device ∙ ap (λ (l : LinkTable). abort_number (entry l.links c.args.device)) c.self.view_is ∙ sym c.to_abort.ensures ∙ c.in-Some.is in
    let put : c.insert.new.self.items ≡ insert c.self.inside.out.items c.place_of-place.result (message.Abort c.args.device c.in-Some.number) = search rules in
    let placed : insert c.self.inside.out.items c.place_of-place.result (message.Abort c.args.device c.in-Some.number) ≡ put_out (message.Abort c.args.device c.in-Some.number) c.self.inside.out.items =
    subst (λ (out : List Message). insert out c.place_of-place.result (message.Abort c.args.device c.in-Some.number) ≡ put_out (message.Abort c.args.device c.in-Some.number) out) c.deref.ensures.value (c.place_of-place.ensures.place (message.Abort c.args.device c.in-Some.number) refl) in
    asked_is c.self.inside.slots.items c.ask_in.new.slots.items c.self.inside.out.items c.insert.new.self.items c.args.device c.in-Some.number c.self.invariant.sorted number c.ask_in.ensures (put ∙ placed)
    ∙ ap (λ (l : LinkTable). links_asked l.links c.args.device) c.self.view_is
