use Rattle.std.proofs.Common.{◌≡◌, ◌≤◌, Some, sym, ◌∙◌, ap, cond, length, rules, subst, true, ℕ}
use Rattle.device_model.specs.declared.messages.Request.{Request}
use Rattle.device_model.specs.RoomyBytes.{bytes_within}
use Rattle.device_model.specs.Devices.Tables.{Given, Link}
use Rattle.device_model.specs.Devices.Endings.{bytes_back, is_allowed, served_of}
use Rattle.device_model.specs.Units.Function.{Served}
use Rattle.dev_layer.proofs.LinkEnds.{back_fits, expected_at, read_at}
use Rattle.dev_layer.proofs.link.Link.expected.Goals as goal

pub bytes_within-requires : goal.bytes_within-requires
bytes_within-requires c =
    let link : Link = c.args.self.now in
    let given : Given = c.in-Some.given.now in
    let may : is_allowed link.kind link.store given c.args.how ≡ true = sym c.may_end.ensures ∙ c.if-not-may_end.false in
    let fits : length c.content-content.result.now ≤ cond given.request.write 0 given.request.bytes.room = back_fits link c.args.how given c.moved-moved.result.count c.content-content.result.now c.request-request.ensures.whole.whole may c.moved-moved.ensures.count c.content-content.ensures in
    subst (λ (n : ℕ). length c.content-content.result.now ≤ n)
    (ap (λ (r : Request). cond r.write 0 r.bytes.room) (sym c.request-request.ensures.request) ∙ sym c.room_back.ensures) fits

pub returns : goal.returns
returns c =
    let link : Link = c.args.self.now in
    let given : Given = c.in-Some.given.now in
    let there : link.given ≡ Some given = search rules in
    let served : Served = served_of link.kind link.store given.request c.args.how in
    let place : c.in_ok-bytes.bytes ≡ bytes_within c.room_back.result c.content-content.result.now = search rules in
    let back : c.in_ok-bytes.bytes ≡ bytes_back c.request-request.result.now c.content-content.result.now = place ∙ ap (λ (n : ℕ). bytes_within n c.content-content.result.now) c.room_back.ensures in
    let read : served.content ≡ c.content-content.result.now = read_at link.kind link.store given.request c.args.how c.moved-moved.result.count c.content-content.result.now c.moved-moved.ensures.count c.content-content.ensures in
    let may : is_allowed link.kind link.store given c.args.how ≡ true = sym c.may_end.ensures ∙ c.if-not-may_end.false in
    expected_at c.args.device c.args.how link given c.request-request.result.now c.moved-moved.result.size c.moved-moved.result.error c.content-content.result.now c.in_ok-bytes.bytes there may c.request-request.ensures.request c.moved-moved.ensures.served read back
