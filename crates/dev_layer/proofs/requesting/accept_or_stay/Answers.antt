use Rattle.std.proofs.Common.{◌≡◌, ℕ, ap, sym, ◌∙◌, true, false, rules}
use Rattle.std.specs.Option.{is_some}
use Rattle.device_model.specs.Devices.Endings.{DevParts}
use Rattle.device_model.specs.Devices.Requests.{accept, has_place}
use Rattle.device_model.specs.Devices.Calls.{claim}
use Rattle.dev_layer.specs.Parts.{parts_of}
use Rattle.dev_layer.proofs.RequestChecks.{stays_full, stays_not, stays_there}
use Rattle.dev_layer.proofs.requesting.accept_or_stay.Goals as goal

pub returns-then-is_some-clause-ok : goal.returns-then-is_some-clause-ok
returns-then-is_some-clause-ok c =
    let p : DevParts = parts_of c.args.base.now c.args.table.now c.args.mails.now c.args.memory.now in
    let some : is_some c.args.transfer.start ≡ true = search rules in
    stays_there p c.args.task c.args.device c.args.transfer c.args.transfer.start some ∙ c.stay.ensures c.args.mails.now c.args.memory.now

pub returns-then-not-has_place-clause-ok : goal.returns-then-not-has_place-clause-ok
returns-then-not-has_place-clause-ok c =
    let p : DevParts = parts_of c.args.base.now c.args.table.now c.args.mails.now c.args.memory.now in
    let none : is_some c.args.transfer.start ≡ false = search rules in
    let full : has_place p.table c.args.device ≡ false = sym c.has_place.ensures ∙ c.if-not-has_place.true in
    stays_full p c.args.task c.args.device c.args.transfer c.args.transfer.start none full ∙ c.stay-then-not-has_place.ensures c.args.mails.now c.args.memory.now

pub returns-clause-ok : goal.returns-clause-ok
returns-clause-ok c =
    let p : DevParts = parts_of c.args.base.now c.args.table.now c.args.mails.now c.args.memory.now in
    let none : is_some c.args.transfer.start ≡ false = search rules in
    let place : has_place p.table c.args.device ≡ true = sym c.has_place.ensures ∙ c.if-not-has_place.false in
    let moved : accept p c.args.device c.args.id c.args.transfer ≡ parts_of c.args.base.now c.accept.new.table c.args.mails.now c.accept.new.memory = c.in_ok-accept.ensures.ok c.args.base.now in
    stays_not p c.args.task c.args.device c.args.transfer c.args.transfer.start none place
    ∙ ap (λ (id : ℕ). claim (accept p c.args.device id c.args.transfer) true id) (sym c.requires.free)
    ∙ ap (λ (q : DevParts). claim q true c.args.id) moved
    ∙ c.claim.ensures c.args.base.now c.args.mails.now c.accept.new.memory
