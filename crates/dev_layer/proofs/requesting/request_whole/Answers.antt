use Rattle.std.proofs.Common.{◌≡◌, ℕ, Some, None, false, ap, sym, ◌∙◌, arith}
use Rattle.std.specs.List.{list_any}
use Rattle.tk_types.specs.declared.answer.Outcome.{Outcome}
use Rattle.kernel_model.specs.Words.Checks.{first_error, natural}
use Rattle.kernel_model.specs.Tasks.Base.{fifo_queue}
use Rattle.kernel_model.specs.Tasks.Calls.{caller}
use Rattle.device_model.specs.declared.rows.Transfer.{Transfer}
use Rattle.device_model.specs.Devices.Endings.{DevParts}
use Rattle.device_model.specs.Devices.Requests.{ending_object}
use Rattle.device_model.specs.Devices.Calls.{any_waits, device_of, start_of, stayed, transfer_of, wants_any}
use Rattle.device_model.specs.Devices.Tables.{free_request, wish_of}
use Rattle.dev_layer.specs.Accepting.{access_checks}
use Rattle.dev_layer.specs.Parts.{left_with, parts_of}
use Rattle.dev_layer.proofs.RequestChecks.{if_ok_then, whole_access_refused, whole_goes, whole_numbers_refused}
use Rattle.dev_layer.proofs.requesting.request_whole.Goals as goal

pub returns-in-Err-clause-ok : goal.returns-in-Err-clause-ok
returns-in-Err-clause-ok c =
    let p : DevParts = parts_of c.args.base.now c.args.table.now c.args.mails.now c.args.memory.now in
    whole_numbers_refused p c.args.who c.args.wanted.now c.in-Err.error c.in-Err.ensures.err ∙ ap (left_with p) (sym c.failed.ensures)

pub returns-in-Err-checked_access-clause-ok : goal.returns-in-Err-checked_access-clause-ok
returns-in-Err-checked_access-clause-ok c =
    let p : DevParts = parts_of c.args.base.now c.args.table.now c.args.mails.now c.args.memory.now in
    let access : first_error (access_checks p.base p.table c.args.who (natural c.args.wanted.now.descriptor) c.args.wanted.now.write) ≡ Some c.in-Err-checked_access.error =
    ap (λ (x : Transfer). first_error (access_checks p.base p.table c.args.who x.descriptor x.write)) (sym c.in-Ok.ensures.transfer) ∙ c.in-Err-checked_access.ensures.err in
    whole_access_refused p c.args.who c.args.wanted.now c.in-Err-checked_access.error c.in-Ok.ensures.ok access ∙ ap (left_with p) (sym c.failed-in-Err-checked_access.ensures)

pub returns-clause-ok : goal.returns-clause-ok
returns-clause-ok c =
    let p : DevParts = parts_of c.args.base.now c.args.table.now c.args.mails.now c.args.memory.now in
    let access : first_error (access_checks p.base p.table c.args.who (natural c.args.wanted.now.descriptor) c.args.wanted.now.write) ≡ None =
    ap (λ (x : Transfer). first_error (access_checks p.base p.table c.args.who x.descriptor x.write)) (sym c.in-Ok.ensures.transfer) ∙ c.in-Ok-checked_access.ensures.ok in
    let device : c.in-Ok-checked_access.device ≡ device_of p.table (natural c.args.wanted.now.descriptor) = c.in-Ok-checked_access.ensures.device ∙ ap (λ (x : Transfer). device_of p.table x.descriptor) c.in-Ok.ensures.transfer in
    let object : c.ending_object.result ≡ ending_object (natural c.args.wanted.now.descriptor) = c.ending_object.ensures ∙ ap (λ (x : Transfer). ending_object x.descriptor) c.in-Ok.ensures.transfer in
    let nobody : any_waits p (natural c.args.wanted.now.descriptor) ≡ false =
    ap (λ (o : ℕ). list_any (λ t. wants_any (wish_of p.table t)) (fifo_queue p.base o)) (sym object) ∙ sym c.any_waiter.ensures ∙ c.if-any_waiter.false in
    let free : free_request p.table ≡ 0 → ⊥ = λ is. (let same = c.free_request-id.ensures.free in omega (arith, same, is)) in
    let goes = whole_goes p c.args.who c.args.wanted.now c.in-Ok.ensures.ok access nobody free in
    if_ok_then c.accept_or_stay.result _ _ (λ (outcome : Outcome) is.
    goes
    ∙ ap (λ (d : ℕ). stayed p (caller c.args.who) d (transfer_of c.args.wanted.now.descriptor c.args.wanted.now.write c.args.wanted.now.start c.args.wanted.now.address c.args.wanted.now.size) (start_of c.args.wanted.now.start)) (sym device)
    ∙ ap (λ (x : Transfer). stayed p (caller c.args.who) c.in-Ok-checked_access.device x x.start) (sym c.in-Ok.ensures.transfer)
    ∙ ap (λ (t : ℕ). stayed p t c.in-Ok-checked_access.device c.in-Ok.transfer c.in-Ok.transfer.start) (sym c.caller.ensures)
    ∙ is) c.accept_or_stay.ensures.ok
