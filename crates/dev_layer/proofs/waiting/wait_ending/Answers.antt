use mir.Val.{to_z, of_z}
use mir.Syntax.{w32}
use Rattle.std.proofs.lemmas.Int.{to_z-of_z}
use Rattle.std.proofs.Common.{◌≡◌, ℕ, Some, None, true, false, ap, sym, ◌∙◌}
use Rattle.std.specs.Prelude.{ℤ}
use Rattle.kernel_model.specs.Words.Checks.{first_error, natural}
use Rattle.kernel_model.specs.Tasks.Calls.{caller}
use Rattle.device_model.specs.declared.rows.Wish.{Wish}
use Rattle.device_model.specs.Devices.Endings.{DevParts}
use Rattle.device_model.specs.Devices.Calls.{ending_wish, waited}
use Rattle.dev_layer.specs.Accepting.{if_obj, wait_access, wait_numbers, wait_others}
use Rattle.dev_layer.specs.Parts.{left_with, parts_of}
use Rattle.dev_layer.proofs.WaitChecks.{named_access, named_others, numbers_are, wait_access_refused, wait_goes, wait_numbers_refused, wait_others_refused}
use Rattle.dev_layer.proofs.waiting.wait_ending.Goals as goal

pub returns-in-Err : goal.returns-in-Err
returns-in-Err c = λ mails memory.
    let p : DevParts = parts_of c.args.base.now c.args.table.now mails memory in
    let numbers : first_error (wait_numbers c.args.descriptor c.args.request c.args.timeout) ≡ Some c.in-Err.error =
    numbers_are (to_z-of_z w32 c.args.descriptor c.ranges.descriptor) (to_z-of_z w32 c.args.request c.ranges.request) (to_z-of_z w32 c.args.timeout c.ranges.timeout) c.in-Err.ensures.err in
    wait_numbers_refused p c.args.who c.args.descriptor c.args.request c.args.timeout c.in-Err.error numbers ∙ ap (left_with p) (sym c.failed.ensures)

pub returns-in-Err-checked_access : goal.returns-in-Err-checked_access
returns-in-Err-checked_access c = λ mails memory.
    let p : DevParts = parts_of c.args.base.now c.args.table.now mails memory in
    let numbers : first_error (wait_numbers c.args.descriptor c.args.request c.args.timeout) ≡ None =
    numbers_are (to_z-of_z w32 c.args.descriptor c.ranges.descriptor) (to_z-of_z w32 c.args.request c.ranges.request) (to_z-of_z w32 c.args.timeout c.ranges.timeout) c.in-Ok.ensures.ok in
    let dd : c.in-Ok.named.descriptor ≡ natural c.args.descriptor = c.in-Ok.ensures.descriptor ∙ ap natural (to_z-of_z w32 c.args.descriptor c.ranges.descriptor) in
    let id : c.in-Ok.named.request ≡ natural c.args.request = c.in-Ok.ensures.request ∙ ap natural (to_z-of_z w32 c.args.request c.ranges.request) in
    let access : first_error (wait_access p.base p.table c.args.who (natural c.args.descriptor) (natural c.args.request)) ≡ Some c.in-Err-checked_access.error = named_access p.base p.table c.args.who dd id c.in-Err-checked_access.ensures.err in
    wait_access_refused p c.args.who c.args.descriptor c.args.request c.args.timeout c.in-Err-checked_access.error numbers access ∙ ap (left_with p) (sym c.failed-in-Err-checked_access.ensures)

pub returns-then-others_wait : goal.returns-then-others_wait
returns-then-others_wait c = λ mails memory.
    let p : DevParts = parts_of c.args.base.now c.args.table.now mails memory in
    let numbers : first_error (wait_numbers c.args.descriptor c.args.request c.args.timeout) ≡ None =
    numbers_are (to_z-of_z w32 c.args.descriptor c.ranges.descriptor) (to_z-of_z w32 c.args.request c.ranges.request) (to_z-of_z w32 c.args.timeout c.ranges.timeout) c.in-Ok.ensures.ok in
    let dd : c.in-Ok.named.descriptor ≡ natural c.args.descriptor = c.in-Ok.ensures.descriptor ∙ ap natural (to_z-of_z w32 c.args.descriptor c.ranges.descriptor) in
    let id : c.in-Ok.named.request ≡ natural c.args.request = c.in-Ok.ensures.request ∙ ap natural (to_z-of_z w32 c.args.request c.ranges.request) in
    let access : first_error (wait_access p.base p.table c.args.who (natural c.args.descriptor) (natural c.args.request)) ≡ None = named_access p.base p.table c.args.who dd id c.in-Ok-checked_access.ensures.ok in
    let others : first_error (wait_others p (natural c.args.descriptor) (natural c.args.request)) ≡ if_obj true = named_others p dd id (c.others_wait.ensures mails memory ∙ ap if_obj c.if-others_wait.true) in
    wait_others_refused p c.args.who c.args.descriptor c.args.request c.args.timeout numbers access others ∙ ap (left_with p) (sym c.failed-then-others_wait.ensures)

pub returns : goal.returns
returns c = λ mails memory.
    let p : DevParts = parts_of c.args.base.now c.args.table.now mails memory in
    let same : to_z w32 (of_z w32 c.args.timeout) ≡ c.args.timeout = to_z-of_z w32 c.args.timeout c.ranges.timeout in
    let numbers : first_error (wait_numbers c.args.descriptor c.args.request c.args.timeout) ≡ None =
    numbers_are (to_z-of_z w32 c.args.descriptor c.ranges.descriptor) (to_z-of_z w32 c.args.request c.ranges.request) same c.in-Ok.ensures.ok in
    let dd : c.in-Ok.named.descriptor ≡ natural c.args.descriptor = c.in-Ok.ensures.descriptor ∙ ap natural (to_z-of_z w32 c.args.descriptor c.ranges.descriptor) in
    let id : c.in-Ok.named.request ≡ natural c.args.request = c.in-Ok.ensures.request ∙ ap natural (to_z-of_z w32 c.args.request c.ranges.request) in
    let access : first_error (wait_access p.base p.table c.args.who (natural c.args.descriptor) (natural c.args.request)) ≡ None = named_access p.base p.table c.args.who dd id c.in-Ok-checked_access.ensures.ok in
    let others : first_error (wait_others p (natural c.args.descriptor) (natural c.args.request)) ≡ if_obj false = named_others p dd id (c.others_wait.ensures mails memory ∙ ap if_obj c.if-others_wait.false) in
    let wish : c.ending_wish-wish.result ≡ ending_wish c.args.table.now (natural c.args.request) = c.ending_wish-wish.ensures ∙ ap (ending_wish c.args.table.now) id in
    wait_goes p c.args.who c.args.descriptor c.args.request c.args.timeout numbers access others
    ∙ ap (λ (w : Wish). waited p (caller c.args.who) (natural c.args.descriptor) c.args.timeout w) (sym wish)
    ∙ ap (λ (n : ℤ). waited p (caller c.args.who) (natural c.args.descriptor) n c.ending_wish-wish.result) (sym same)
    ∙ ap (λ (k : ℕ). waited p (caller c.args.who) k (to_z w32 (of_z w32 c.args.timeout)) c.ending_wish-wish.result) (sym dd)
    ∙ ap (λ (t : ℕ). waited p t c.in-Ok.named.descriptor (to_z w32 (of_z w32 c.args.timeout)) c.ending_wish-wish.result) (sym c.caller.ensures)
    ∙ c.claim_or_wait.ensures mails memory
