use Rattle.std.proofs.Common.{◌≡◌, ℕ, Bool, Some, ap, sym, ◌∙◌}
use Rattle.std.specs.List.{find}
use Rattle.std.specs.Option.{is_some}
use Rattle.std.specs.Prelude.{unwrap_or}
use Rattle.kernel_model.specs.Tasks.Base.{Base, fifo_queue, release}
use Rattle.device_model.specs.Devices.Endings.{DevParts}
use Rattle.device_model.specs.Devices.Requests.{claimed, ending_object, is_own, picked}
use Rattle.device_model.specs.Devices.Tables.{Devices, wish_of}
use Rattle.dev_layer.specs.Parts.{parts_of}
use Rattle.dev_layer.proofs.Served.{ending_is_served}
use Rattle.dev_layer.proofs.serving.serve_ending.Goals as goal

pub returns-clause-left : goal.returns-clause-left
returns-clause-left c = λ mails memory.
    let p : DevParts = parts_of c.args.base.now c.args.table.now mails memory in
    let first : find (λ u. is_some (picked p.table c.args.descriptor (wish_of p.table u))) (fifo_queue p.base (ending_object c.args.descriptor)) ≡ Some c.in-Some.task =
    ap (λ (o : ℕ). find (λ u. is_some (picked p.table c.args.descriptor (wish_of p.table u))) (fifo_queue p.base o)) (sym c.ending_object.ensures) ∙ sym c.find_waiter.ensures ∙ c.in-Some.is in
    let is : picked p.table c.args.descriptor (wish_of p.table c.in-Some.task) ≡ Some c.in-Some-picked.id = ap (picked p.table c.args.descriptor) (sym c.wish-wish.ensures.wish) ∙ sym c.picked.ensures ∙ c.in-Some-picked.is in
    let own : c.is_own.result ≡ is_own (wish_of p.table c.in-Some.task) = c.is_own.ensures ∙ ap is_own c.wish-wish.ensures.wish in
    let answer : c.claimed.result ≡ claimed p.table (is_own (wish_of p.table c.in-Some.task)) c.in-Some-picked.id = c.claimed.ensures ∙ ap (λ (b : Bool). claimed p.table b c.in-Some-picked.id) own in
    let base : c.release.new.self ≡ release p.base c.in-Some.task (claimed p.table (is_own (wish_of p.table c.in-Some.task)) c.in-Some-picked.id) = c.release.ensures ∙ ap (release p.base c.in-Some.task) answer in
    ap (λ (b : Base). parts_of b c.drop_request.new.self mails memory) base
    ∙ ap (λ (dv : Devices). parts_of (release p.base c.in-Some.task (claimed p.table (is_own (wish_of p.table c.in-Some.task)) c.in-Some-picked.id)) dv mails memory) c.drop_request.ensures
    ∙ ap (λ o. unwrap_or o p) (sym (ending_is_served p c.args.descriptor c.in-Some.task c.in-Some-picked.id first is))
