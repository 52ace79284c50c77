use Rattle.std.proofs.Common.{◌≡◌, ◌<◌, length, Some, true, sym, ◌∙◌, arith, ap}
use Rattle.std.specs.Prelude.{slice_set, vec_capacity}
use Rattle.kernel_model.specs.Words.Orders.{entry}
use Rattle.device_model.specs.Devices.Tables.{Row, has_ended, is_at_driver, is_queued}
use Rattle.dev_layer.specs.Requests.{life_test}
use Rattle.dev_layer.proofs.Listed.{ended_fit, room_done, there_not_ended, there_not_queued}
use Rattle.dev_layer.proofs.RequestMoves.{ended_at, ended_elsewhere, ended_none}
use Rattle.dev_layer.proofs.Slots.{same_back, there_at}
use Rattle.dev_layer.proofs.requests.Requests.end.Goals as goal

pub returns-in-None : goal.returns-in-None
returns-in-None c =
    let inside : c.args.id < length c.self.inside.rows.items = omega arith in
    let there : entry c.self.inside.rows.items c.args.id ≡ c.index_mut.result.now = there_at c.self.inside.rows.items c.args.id c.index_mut.result.now inside c.index_mut.ensures.value in
    ended_none (record { rows = c.self.inside.rows.items; queued = c.self.inside.queued.items; ended = c.self.inside.ended.items; serial = c.self.inside.serial }) c.args.self.now c.args.id c.args.size c.args.error _ c.self.view_is
    (same_back c.self.inside.rows.items c.args.id c.index_mut.result.now c.index_mut.ensures.value) (there ∙ c.in-None.is)

pub returns-then-not-is_at_driver : goal.returns-then-not-is_at_driver
returns-then-not-is_at_driver c =
    let inside : c.args.id < length c.self.inside.rows.items = omega arith in
    let slot : c.index_mut.result.now ≡ Some c.in-Some.row = c.in-Some.is in
    let there : entry c.self.inside.rows.items c.args.id ≡ Some c.in-Some.row = there_at c.self.inside.rows.items c.args.id c.index_mut.result.now inside c.index_mut.ensures.value ∙ slot in
    ended_elsewhere (record { rows = c.self.inside.rows.items; queued = c.self.inside.queued.items; ended = c.self.inside.ended.items; serial = c.self.inside.serial }) c.args.self.now c.args.id c.args.size c.args.error c.in-Some.row _ c.self.view_is
    (ap (λ o. slice_set c.self.inside.rows.items c.args.id o) (sym slot) ∙ same_back c.self.inside.rows.items c.args.id c.index_mut.result.now c.index_mut.ensures.value) there (sym c.is_at_driver.ensures ∙ c.if-not-is_at_driver.true)

pub push_reserved-requires : goal.push_reserved-requires
push_reserved-requires c =
    let inside : c.args.id < length c.self.inside.rows.items = omega arith in
    let slots : length c.self.inside.rows.items ≡ 65 = c.self.invariant.slots in
    let there : entry c.self.inside.rows.items c.args.id ≡ Some c.in-Some.row = there_at c.self.inside.rows.items c.args.id c.index_mut.result.now inside c.index_mut.ensures.value ∙ c.in-Some.is in
    let so : is_at_driver c.in-Some.row.life ≡ true = sym c.is_at_driver.ensures ∙ c.if-not-is_at_driver.false in
    let few : length c.self.inside.ended.items < vec_capacity c.self.inside.ended = room_done c.self.inside.rows.items c.self.inside.queued.items c.self.inside.ended.items _ _ c.args.id c.self.invariant (omega (arith, inside, slots)) (ap (life_test has_ended) there ∙ there_not_ended c.in-Some.row.life so) in
    omega (arith, few, c.self.inside.ended.ok.0)

pub invariant_of-self-2 : goal.invariant_of-self-2
invariant_of-self-2 c =
    let inside : c.args.id < length c.self.inside.rows.items = omega arith in
    let there : entry c.self.inside.rows.items c.args.id ≡ Some c.in-Some.row = there_at c.self.inside.rows.items c.args.id c.index_mut.result.now inside c.index_mut.ensures.value ∙ c.in-Some.is in
    let so : is_at_driver c.in-Some.row.life ≡ true = sym c.is_at_driver.ensures ∙ c.if-not-is_at_driver.false in
    ended_fit c.self.inside.rows.items c.self.inside.queued.items c.self.inside.ended.items _ _ _ _ c.args.id c.end.new.self c.self.invariant inside (ap (λ (row : Row). has_ended row.life) c.end.ensures)
    (ap (life_test has_ended) there ∙ there_not_ended c.in-Some.row.life so) (ap (life_test is_queued) there ∙ there_not_queued c.in-Some.row.life so) c.push_reserved.ensures.items c.push_reserved.ensures.capacity

pub returns : goal.returns
returns c =
    let inside : c.args.id < length c.self.inside.rows.items = omega arith in
    let there : entry c.self.inside.rows.items c.args.id ≡ Some c.in-Some.row = there_at c.self.inside.rows.items c.args.id c.index_mut.result.now inside c.index_mut.ensures.value ∙ c.in-Some.is in
    let so : is_at_driver c.in-Some.row.life ≡ true = sym c.is_at_driver.ensures ∙ c.if-not-is_at_driver.false in
    ended_at (record { rows = c.self.inside.rows.items; queued = c.self.inside.queued.items; ended = c.self.inside.ended.items; serial = c.self.inside.serial }) c.args.self.now c.args.id c.args.size c.args.error c.in-Some.row c.end.new.self _ c.self.view_is there so c.end.ensures c.push_reserved.ensures.items
