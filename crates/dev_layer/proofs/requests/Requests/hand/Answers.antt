use Rattle.std.proofs.Common.{◌≡◌, ◌<◌, ◌≤◌, length, Some, true, false, sym, ◌∙◌, arith, ap}
use Rattle.kernel_model.specs.Words.Orders.{entry}
use Rattle.device_model.specs.Devices.Tables.{Row, has_ended}
use Rattle.kernel_lemmas.proofs.Tables.{entry_beyond}
use Rattle.dev_layer.specs.Requests.{Requests, queues_some}
use Rattle.dev_layer.proofs.Listed.{handed_fit}
use Rattle.dev_layer.proofs.RequestMoves.{handed_at, handed_none, queued_not_ended, request_is, waits_in}
use Rattle.dev_layer.proofs.Slots.{same_back, there_at}
use Rattle.dev_layer.proofs.requests.Requests.hand.Goals as goal

pub returns-in-None-clause-left : goal.returns-in-None-clause-left
returns-in-None-clause-left c =
    let inside : c.args.id < length c.self.inside.rows.items = omega arith in
    let there : entry c.self.inside.rows.items c.args.id ≡ c.index_mut.result.now = there_at c.self.inside.rows.items c.args.id c.index_mut.result.now inside c.index_mut.ensures.value in
    handed_none (record { rows = c.self.inside.rows.items; queued = c.self.inside.queued.items; ended = c.self.inside.ended.items; serial = c.self.inside.serial }) c.args.self.now c.args.id _ c.self.view_is
    (same_back c.self.inside.rows.items c.args.id c.index_mut.result.now c.index_mut.ensures.value) (there ∙ c.in-None.is)

pub returns-in-None-clause-some : goal.returns-in-None-clause-some
returns-in-None-clause-some c =
    let inside : c.args.id < length c.self.inside.rows.items = omega arith in
    let there : entry c.self.inside.rows.items c.args.id ≡ c.index_mut.result.now = there_at c.self.inside.rows.items c.args.id c.index_mut.result.now inside c.index_mut.ensures.value in
    let none : queues_some (entry c.self.inside.rows.items c.args.id) ≡ false = ap queues_some (there ∙ c.in-None.is) in
    let waits : queues_some (entry c.self.inside.rows.items c.args.id) ≡ true = ap (λ (rq : Requests). queues_some (entry rq.rows c.args.id)) c.self.view_is ∙ c.requires in
    absurd (cc (none, waits))

pub returns-then-id-len-clause-some : goal.returns-then-id-len-clause-some
returns-then-id-len-clause-some c =
    let beyond : length c.self.inside.rows.items ≤ c.args.id = omega arith in
    let none : queues_some (entry c.self.inside.rows.items c.args.id) ≡ false = ap queues_some (entry_beyond c.self.inside.rows.items c.args.id beyond) in
    let waits : queues_some (entry c.self.inside.rows.items c.args.id) ≡ true = ap (λ (rq : Requests). queues_some (entry rq.rows c.args.id)) c.self.view_is ∙ c.requires in
    absurd (cc (none, waits))

pub hand-handed-requires : goal.hand-handed-requires
hand-handed-requires c =
    let inside : c.args.id < length c.self.inside.rows.items = omega arith in
    let there : entry c.self.inside.rows.items c.args.id ≡ Some c.in-Some.row = there_at c.self.inside.rows.items c.args.id c.index_mut.result.now inside c.index_mut.ensures.value ∙ c.in-Some.is in
    let waits : queues_some (entry c.self.inside.rows.items c.args.id) ≡ true = ap (λ (rq : Requests). queues_some (entry rq.rows c.args.id)) c.self.view_is ∙ c.requires in
    waits_in (entry c.self.inside.rows.items c.args.id) c.in-Some.row there waits

pub invariant_of-self-2 : goal.invariant_of-self-2
invariant_of-self-2 c =
    let inside : c.args.id < length c.self.inside.rows.items = omega arith in
    let there : entry c.self.inside.rows.items c.args.id ≡ Some c.in-Some.row = there_at c.self.inside.rows.items c.args.id c.index_mut.result.now inside c.index_mut.ensures.value ∙ c.in-Some.is in
    let waits : queues_some (entry c.self.inside.rows.items c.args.id) ≡ true = ap (λ (rq : Requests). queues_some (entry rq.rows c.args.id)) c.self.view_is ∙ c.requires in
    handed_fit c.self.inside.rows.items c.self.inside.queued.items c.self.inside.ended.items _ _ _ _ c.args.id c.in-Some.row c.hand-handed.new.self c.self.invariant inside (ap (λ (row : Row). has_ended row.life) c.hand-handed.ensures.left)
    (queued_not_ended (entry c.self.inside.rows.items c.args.id) waits) c.take_out.ensures.items c.take_out.ensures.capacity

pub returns-clause-request : goal.returns-clause-request
returns-clause-request c =
    let inside : c.args.id < length c.self.inside.rows.items = omega arith in
    let there : entry c.self.inside.rows.items c.args.id ≡ Some c.in-Some.row = there_at c.self.inside.rows.items c.args.id c.index_mut.result.now inside c.index_mut.ensures.value ∙ c.in-Some.is in
    let now_there : entry c.args.self.now.rows c.args.id ≡ Some c.in-Some.row = ap (λ (rq : Requests). entry rq.rows c.args.id) (sym c.self.view_is) ∙ there in
    request_is c.args.self.now.rows c.args.id c.args.number c.in-Some.row c.hand-handed.result.request now_there c.hand-handed.ensures.request

pub returns-clause-left : goal.returns-clause-left
returns-clause-left c =
    let inside : c.args.id < length c.self.inside.rows.items = omega arith in
    let there : entry c.self.inside.rows.items c.args.id ≡ Some c.in-Some.row = there_at c.self.inside.rows.items c.args.id c.index_mut.result.now inside c.index_mut.ensures.value ∙ c.in-Some.is in
    handed_at (record { rows = c.self.inside.rows.items; queued = c.self.inside.queued.items; ended = c.self.inside.ended.items; serial = c.self.inside.serial }) c.args.self.now c.args.id c.in-Some.row c.hand-handed.new.self _ c.self.view_is there c.hand-handed.ensures.left c.take_out.ensures.items
