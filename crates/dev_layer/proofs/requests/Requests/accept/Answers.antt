use Rattle.std.proofs.Common.{◌≡◌, ◌<◌, length, rules, None, sym, ◌∙◌, arith, ap}
use Rattle.kernel_model.specs.Words.Orders.{entry}
use Rattle.device_model.specs.Devices.Tables.{has_ended, is_queued, joined}
use Rattle.std.specs.Option.{is_some}
use Rattle.std.specs.Prelude.{vec_capacity}
use Rattle.dev_layer.specs.Requests.{Requests, life_test}
use Rattle.dev_layer.proofs.Listed.{accepted_fit, room_done, room_waiting}
use Rattle.dev_layer.proofs.RequestMoves.{accepted_at}
use Rattle.dev_layer.proofs.Slots.{not_some}
use Rattle.dev_layer.proofs.requests.Requests.accept.Goals as goal

pub join-requires : goal.join-requires
join-requires c =
    let free : entry c.self.inside.rows.items c.args.id ≡ None = not_some (entry c.self.inside.rows.items c.args.id) (ap (λ (rq : Requests). is_some (entry rq.rows c.args.id)) c.self.view_is ∙ sym c.is_taken.ensures ∙ c.if-is_taken.false) in
    let few : length c.self.inside.queued.items < vec_capacity c.self.inside.queued = room_waiting c.self.inside.rows.items c.self.inside.queued.items c.self.inside.ended.items _ _ c.args.id c.self.invariant c.requires.within free in
    λ waits. omega (arith, few, c.self.inside.queued.ok.0)

pub join-requires-2 : goal.join-requires-2
join-requires-2 c =
    let free : entry c.self.inside.rows.items c.args.id ≡ None = not_some (entry c.self.inside.rows.items c.args.id) (ap (λ (rq : Requests). is_some (entry rq.rows c.args.id)) c.self.view_is ∙ sym c.is_taken.ensures ∙ c.if-is_taken.false) in
    let few : length c.self.inside.ended.items < vec_capacity c.self.inside.ended = room_done c.self.inside.rows.items c.self.inside.queued.items c.self.inside.ended.items _ _ c.args.id c.self.invariant c.requires.within (ap (life_test has_ended) free) in
    λ done. omega (arith, few, c.self.inside.ended.ok.0)

pub invariant_of-self : goal.invariant_of-self
invariant_of-self c =
    let free : entry c.self.inside.rows.items c.args.id ≡ None = not_some (entry c.self.inside.rows.items c.args.id) (ap (λ (rq : Requests). is_some (entry rq.rows c.args.id)) c.self.view_is ∙ sym c.is_taken.ensures ∙ c.if-is_taken.false) in
    let waits : c.join.new.list.items ≡ joined (is_queued c.set_serial.new.self.life) c.args.id c.self.inside.queued.items = search rules in
    let done : c.join-2.new.list.items ≡ joined (has_ended c.set_serial.new.self.life) c.args.id c.self.inside.ended.items = search rules in
    accepted_fit c.self.inside.rows.items c.self.inside.queued.items c.self.inside.ended.items _ _ _ _ _ _ c.args.id c.set_serial.new.self c.self.invariant c.requires.within free waits done c.join.ensures.capacity c.join-2.ensures.capacity

pub returns : goal.returns
returns c =
    let free : entry c.self.inside.rows.items c.args.id ≡ None = not_some (entry c.self.inside.rows.items c.args.id) (ap (λ (rq : Requests). is_some (entry rq.rows c.args.id)) c.self.view_is ∙ sym c.is_taken.ensures ∙ c.if-is_taken.false) in
    let waits : c.join.new.list.items ≡ joined (is_queued c.args.row.life) c.args.id c.self.inside.queued.items = search rules in
    let done : c.join-2.new.list.items ≡ joined (has_ended c.args.row.life) c.args.id c.self.inside.ended.items = search rules in
    accepted_at (record { rows = c.self.inside.rows.items; queued = c.self.inside.queued.items; ended = c.self.inside.ended.items; serial = c.self.inside.serial }) c.args.self.now c.args.id _ c.args.row c.set_serial.new.self _ _ c.self.view_is free c.set_serial.ensures waits done (search rules)
