use mir.Val.{to_z, of_z}
use mir.Syntax.{w32}
use Rattle.std.proofs.lemmas.Int.{to_z-of_z}
use Rattle.std.proofs.Common.{◌≡◌, ℕ, Some, None, ap, sym, ◌∙◌, arith}
use Rattle.tk_types.specs.declared.answer.Outcome.{Outcome}
use Rattle.kernel_model.specs.Words.Checks.{first_error, natural}
use Rattle.kernel_model.specs.Tasks.Calls.{caller}
use Rattle.device_model.specs.declared.rows.Transfer.{Transfer}
use Rattle.device_model.specs.Devices.Endings.{DevParts}
use Rattle.device_model.specs.Devices.Calls.{device_of, requested, transfer_of}
use Rattle.device_model.specs.Devices.Tables.{free_request}
use Rattle.std.specs.Prelude.{ℤ}
use Rattle.dev_layer.specs.Accepting.{access_checks, number_checks}
use Rattle.dev_layer.specs.Parts.{left_with, parts_of}
use Rattle.dev_layer.proofs.RequestChecks.{access_refused, if_ok_then, numbers_refused, request_goes}
use Rattle.dev_layer.proofs.requesting.request.Goals as goal

pub returns-in-Err-clause-ok : goal.returns-in-Err-clause-ok
returns-in-Err-clause-ok c =
    let p : DevParts = parts_of c.args.base.now c.args.table.now c.args.mails.now c.args.memory.now in
    let same : to_z w32 (of_z w32 c.args.timeout) ≡ c.args.timeout = to_z-of_z w32 c.args.timeout c.ranges.timeout in
    numbers_refused p c.args.who c.args.wanted.now c.args.timeout c.in-Err.error (ap (λ (t : ℤ). first_error (number_checks c.args.wanted.now t)) (sym same) ∙ c.in-Err.ensures.err) ∙ ap (left_with p) (sym c.failed.ensures)

pub returns-in-Err-checked_access-clause-ok : goal.returns-in-Err-checked_access-clause-ok
returns-in-Err-checked_access-clause-ok c =
    let p : DevParts = parts_of c.args.base.now c.args.table.now c.args.mails.now c.args.memory.now in
    let access : first_error (access_checks p.base p.table c.args.who (natural c.args.wanted.now.descriptor) c.args.wanted.now.write) ≡ Some c.in-Err-checked_access.error =
    ap (λ (x : Transfer). first_error (access_checks p.base p.table c.args.who x.descriptor x.write)) (sym c.in-Ok.ensures.transfer) ∙ c.in-Err-checked_access.ensures.err in
    let same : to_z w32 (of_z w32 c.args.timeout) ≡ c.args.timeout = to_z-of_z w32 c.args.timeout c.ranges.timeout in
    access_refused p c.args.who c.args.wanted.now c.args.timeout c.in-Err-checked_access.error (ap (λ (t : ℤ). first_error (number_checks c.args.wanted.now t)) (sym same) ∙ c.in-Ok.ensures.ok) access ∙ ap (left_with p) (sym c.failed-in-Err-checked_access.ensures)

pub returns-clause-ok : goal.returns-clause-ok
returns-clause-ok c =
    let p : DevParts = parts_of c.args.base.now c.args.table.now c.args.mails.now c.args.memory.now in
    let access : first_error (access_checks p.base p.table c.args.who (natural c.args.wanted.now.descriptor) c.args.wanted.now.write) ≡ None =
    ap (λ (x : Transfer). first_error (access_checks p.base p.table c.args.who x.descriptor x.write)) (sym c.in-Ok.ensures.transfer) ∙ c.in-Ok-checked_access.ensures.ok in
    let device : c.in-Ok-checked_access.device ≡ device_of p.table (natural c.args.wanted.now.descriptor) = c.in-Ok-checked_access.ensures.device ∙ ap (λ (x : Transfer). device_of p.table x.descriptor) c.in-Ok.ensures.transfer in
    let free : free_request p.table ≡ 0 → ⊥ = λ is. (let same = c.free_request-id.ensures.free in omega (arith, same, is)) in
    let same : to_z w32 (of_z w32 c.args.timeout) ≡ c.args.timeout = to_z-of_z w32 c.args.timeout c.ranges.timeout in
    let goes = request_goes p c.args.who c.args.wanted.now c.args.timeout (ap (λ (t : ℤ). first_error (number_checks c.args.wanted.now t)) (sym same) ∙ c.in-Ok.ensures.ok) access free in
    if_ok_then c.accept_or_wait.result _ _ (λ (outcome : Outcome) is.
    goes
    ∙ ap (λ (d : ℕ). requested p (caller c.args.who) d (transfer_of c.args.wanted.now.descriptor c.args.wanted.now.write c.args.wanted.now.start c.args.wanted.now.address c.args.wanted.now.size) c.args.timeout) (sym device)
    ∙ ap (λ (x : Transfer). requested p (caller c.args.who) c.in-Ok-checked_access.device x c.args.timeout) (sym c.in-Ok.ensures.transfer)
    ∙ ap (λ (t : ℕ). requested p t c.in-Ok-checked_access.device c.in-Ok.transfer c.args.timeout) (sym c.caller.ensures)
    ∙ ap (λ (n : ℤ). requested p c.caller.result c.in-Ok-checked_access.device c.in-Ok.transfer n) (sym same)
    ∙ is) c.accept_or_wait.ensures.ok
