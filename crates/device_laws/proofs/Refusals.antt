-- A call that answers an error has changed nothing.
use Rattle.std.proofs.Common.{◌≡◌, ℕ, ◌+◌, ◌-◌, Bool, true, false, List, [], ◌∷◌, Option, Some, None, refl, ap, sym, ◌∙◌, ℤ, pos, negsuc, arith}
use Rattle.std.specs.Prelude.{if◌then◌else◌, nat_lt, not}
use Rattle.std.specs.Int.{is_negative}
use Rattle.std.specs.Option.{is_some}
use Rattle.std.specs.Ordering.{int_eq}
use Rattle.std.proofs.lemmas.Bool.Decides.{nat_tests}
use Rattle.tk_types.specs.declared.answer.Answer.{Answer}
use Rattle.tk_types.specs.declared.answer.Outcome.{Outcome}
use Rattle.tk_types.specs.declared.answer.Outcome.TheVariants.{Returned, Blocked}
use Rattle.tk_types.specs.declared.answer.Who.{Who}
use Rattle.tk_types.specs.declared.calls.DeviceCall.{DeviceCall}
use Rattle.tk_types.specs.declared.calls.DeviceCall.TheVariants as call
use Rattle.tk_types.specs.declared.error_code.Er.{Er}
use Rattle.tk_types.specs.declared.error_code.Er.TheVariants as er
use Rattle.tk_types.specs.declared.modes.OpenMode.{OpenMode}
use Rattle.tk_types.specs.declared.modes.SuspendMode.{SuspendMode}
use Rattle.kernel_model.specs.Words.Checks.{Check, ◌otherwise◌, first_error, natural, done, failed}
use Rattle.kernel_model.specs.Tasks.Calls.{caller}
use Rattle.device_model.specs.declared.rows.Life.{Life}
use Rattle.device_model.specs.declared.rows.Life.TheVariants as life
use Rattle.device_model.specs.declared.rows.Transfer.{Transfer}
use Rattle.device_model.specs.declared.rows.Wish.{Wish}
use Rattle.device_model.specs.declared.rows.Wish.TheVariants as wish
use Rattle.device_model.specs.Devices.Tables.{Row, Devices, free_descriptor, free_request, link_at, row_at, with_open, with_wish}
use Rattle.device_model.specs.Devices.Handing as handing
use Rattle.device_model.specs.Devices.Endings.{DevParts}
use Rattle.device_model.specs.Devices.Requests as requests
use Rattle.device_model.specs.Devices.Suspension as suspension
use Rattle.device_model.specs.Devices.Servings as servings
use Rattle.device_model.specs.Devices.Calls as calls
use Rattle.device_model.specs.Devices.Calls.{DevDone}
use Rattle.device_laws.specs.Words.{may_answer_for_buffer}

-- where a call has answered an error, all is as it was
pub record IsKept (p : DevParts) (result : DevDone) : Type 0 where
  pub kept : (answer : Answer) → result.outcome ≡ Returned answer → is_negative answer.value ≡ true → result.parts ≡ p

abbrev value_in : Outcome → ℤ
value_in (Returned answer) = answer.value
value_in _ = pos 0

refused : (p : DevParts) (error : Er) → IsKept p (record { parts = p; outcome = failed error })
refused p error = record { kept = λ answer is negative. refl }

-- a call that answers a number from 0 on may change what it likes
answers_none : (p q : DevParts) (outcome : Outcome) (n : ℕ) → value_in outcome ≡ pos n → IsKept p (record { parts = q; outcome = outcome })
answers_none p q outcome n value = record { kept = λ answer is negative. absurd (no_error answer is negative) }
  where
    no_error : (answer : Answer) → outcome ≡ Returned answer → is_negative answer.value ≡ true → ⊥
    no_error answer is negative = let none : nat_lt n 0 ≡ true = ap is_negative (sym value) ∙ (ap (λ o. is_negative (value_in o)) is ∙ negative) in grind (arith, nat_tests, none)

-- and so may one that leaves its caller waiting
waits : (p q : DevParts) → IsKept p (record { parts = q; outcome = Blocked })
waits p q = record { kept = λ answer is negative. absurd (cc is) }

either : (p : DevParts) (test : Bool) (one other : DevDone) → IsKept p one → IsKept p other → IsKept p (if test then one else other)
either p true one other first second = first
either p false one other first second = second

refused_or : (p : DevParts) (error : Option Er) (effect : DevDone) → IsKept p effect → IsKept p (calls.refused_with error p effect)
refused_or p (Some error) effect kept = refused p error
refused_or p None effect kept = kept

checked : (p : DevParts) (checks : List Check) (effect : DevDone) → IsKept p effect → IsKept p (calls.device_checked checks p effect)
checked p checks effect kept = refused_or p (first_error checks) effect kept

ends_or_waits : (p : DevParts) (t object : ℕ) (timeout : ℤ) (dv : Devices) → IsKept p (calls.waits_or_ends p t object timeout dv)
ends_or_waits p t object timeout dv =
    either p (int_eq timeout (pos 0)) (record { parts = p; outcome = failed er.TmOut }) (calls.waits p t object timeout dv) (refused p er.TmOut) (waits p (calls.waits p t object timeout dv).parts)

open_kept : (p : DevParts) (d : ℕ) (mode : OpenMode) → IsKept p (calls.open_device p d mode)
unfolding calls.open_device
open_kept p d mode =
    let q : DevParts = requests.with_table p (with_open p.table (free_descriptor p.table) (calls.opened_for d mode)) in
    checked p (calls.open_checks p.table d mode) (calls.answers q (pos (free_descriptor p.table))) (answers_none p q (done (pos (free_descriptor p.table))) (free_descriptor p.table) refl)

refer_kept : (p : DevParts) (d : ℕ) → IsKept p (calls.refer_device p d)
unfolding calls.refer_device
refer_kept p d = checked p ((is_some (link_at p.table d) otherwise er.NoExs) ∷ []) (calls.answers p (pos d)) (answers_none p p (done (pos d)) d refl)

request_kept : (p : DevParts) (who : Who) (write : Bool) (descriptor start address size timeout : ℤ) → IsKept p (calls.request p who write descriptor start address size timeout)
unfolding calls.request
request_kept p who write descriptor start address size timeout =
    let d : ℕ = calls.device_of p.table (natural descriptor) in
    let id : ℕ = free_request p.table in
    let transfer : Transfer = calls.transfer_of descriptor write start address size in
    let asked_for : Devices = with_wish p.table (caller who) (wish.Acceptance transfer false) in
    checked p (calls.request_checks p who descriptor write start address size timeout []) (calls.requested p (caller who) d transfer timeout)
    (either p (requests.has_place p.table d) (calls.answers (requests.accept p d id transfer) (pos id)) (calls.waits_or_ends p (caller who) (requests.acceptance_object d) timeout asked_for)
    (answers_none p (requests.accept p d id transfer) (done (pos id)) id refl)
    (ends_or_waits p (caller who) (requests.acceptance_object d) timeout asked_for))

-- a call that stays with a request of its own for anything but the event buffer always waits
stayed_kept : (p : DevParts) (t d : ℕ) (transfer : Transfer) (start : ℤ) → is_negative start ≡ false → IsKept p (calls.stayed p t d transfer (calls.start_of start))
stayed_kept p t d transfer (pos start) is = waits p (calls.stays p t d transfer).parts
stayed_kept p t d transfer (negsuc start) is = absurd (cc is)

whole_kept : (p : DevParts) (who : Who) (write : Bool) (descriptor start address size : ℤ) → is_negative start ≡ false → IsKept p (calls.request_whole p who write descriptor start address size)
unfolding calls.request_whole
whole_kept p who write descriptor start address size is =
    let d : ℕ = calls.device_of p.table (natural descriptor) in
    let transfer : Transfer = calls.transfer_of descriptor write start address size in
    checked p (calls.request_checks p who descriptor write start address size (negsuc 0) ((not (calls.any_waits p (natural descriptor)) otherwise er.Obj) ∷ []))
    (calls.stayed p (caller who) d transfer (calls.start_of start)) (stayed_kept p (caller who) d transfer start is)

life_value : (id : ℕ) (now : Life) (P : ℤ → Type 0) → P (pos id) → P (pos 0) → P (requests.claimed_life false id now).value
life_value id (life.Ended size error) P one other = one
life_value id life.Queued P one other = other
life_value id life.AtDriver P one other = other

row_value : (id : ℕ) (slot : Option Row) (P : ℤ → Type 0) → P (pos id) → P (pos 0) → P (requests.claimed_row false id slot).value
row_value id None P one other = other
row_value id (Some row) P one other = life_value id row.life P one other

claim_kept : (p q : DevParts) (id : ℕ) (slot : Option Row) → IsKept p (record { parts = q; outcome = Returned (requests.claimed_row false id slot) })
claim_kept p q id slot = row_value id slot (λ (value : ℤ). value ≡ (requests.claimed_row false id slot).value → IsKept p (record { parts = q; outcome = Returned (requests.claimed_row false id slot) }))
    (λ value. answers_none p q (Returned (requests.claimed_row false id slot)) id (sym value))
    (λ value. answers_none p q (Returned (requests.claimed_row false id slot)) 0 (sym value)) refl

waited_kept : (p : DevParts) (t dd : ℕ) (timeout : ℤ) (asked_for : Wish) (picked : Option ℕ) → IsKept p (calls.ending_waited p t dd timeout asked_for picked)
waited_kept p t dd timeout asked_for (Some id) = claim_kept p (calls.claim p false id).parts id (row_at p.table id)
waited_kept p t dd timeout asked_for None = ends_or_waits p t (requests.ending_object dd) timeout (with_wish p.table t asked_for)

wait_kept : (p : DevParts) (who : Who) (descriptor id timeout : ℤ) → IsKept p (calls.wait_ending p who descriptor id timeout)
unfolding calls.wait_ending
wait_kept p who descriptor id timeout =
    let asked_for : Wish = calls.ending_wish p.table (natural id) in
    checked p (calls.wait_checks p who descriptor id timeout) (calls.waited p (caller who) (natural descriptor) timeout asked_for)
    (waited_kept p (caller who) (natural descriptor) timeout asked_for (requests.picked p.table (natural descriptor) asked_for))

closed_kept : (begun : Bool) (p q : DevParts) (t dd : ℕ) → IsKept p (calls.closed_or_begun begun q t dd)
closed_kept false p q t dd = answers_none p (requests.with_table q (with_open q.table dd None)) (done (pos 0)) 0 refl
closed_kept true p q t dd = waits p (calls.close_begun q t dd).parts

close_kept : (p : DevParts) (who : Who) (descriptor : ℤ) → IsKept p (calls.close_device p who descriptor)
unfolding calls.close_device
close_kept p who descriptor =
    let dd : ℕ = natural descriptor in
    checked p (calls.close_checks p who descriptor) (calls.closed_or_begun (servings.is_with_driver p.table dd) (calls.without_requests p dd) (caller who) dd)
    (closed_kept (servings.is_with_driver p.table dd) p (calls.without_requests p dd) (caller who) dd)

suspended_kept : (given : Bool) (p : DevParts) (t : ℕ) → IsKept p (calls.suspended given p t)
suspended_kept false p t = answers_none p (suspension.events_sent p) (done (pos p.table.off)) p.table.off refl
suspended_kept true p t = waits p (calls.suspended true p t).parts

counted_kept : (p : DevParts) (off : ℕ) → IsKept p (calls.counted p off)
counted_kept p off = answers_none p (calls.counted p off).parts (done (pos off)) off refl

suspend_kept : (p : DevParts) (who : Who) (mode : SuspendMode) → IsKept p (calls.suspend_devices p who mode)
unfolding calls.suspend_devices
suspend_kept p who mode =
    let off : ℕ = p.table.off in
    let enabled : DevDone = if mode.td_enasus then calls.counted p (off - 1) else calls.counted p off in
    let changed : DevDone = if mode.td_dissus then calls.counted p (off + 1) else enabled in
    checked p (calls.suspend_checks p who mode) (calls.suspend_effect p (caller who) mode)
    (either p mode.td_suspend (calls.suspended (handing.any_given p.table) p (caller who)) changed (suspended_kept (handing.any_given p.table) p (caller who))
    (either p mode.td_dissus (calls.counted p (off + 1)) enabled (counted_kept p (off + 1))
    (either p mode.td_enasus (calls.counted p (off - 1)) (calls.counted p off) (counted_kept p (off - 1)) (counted_kept p off))))

pub call_kept : (p : DevParts) (who : Who) (c : DeviceCall) → may_answer_for_buffer c ≡ false → IsKept p (calls.device_call p who c)
unfolding calls.device_call
call_kept p who (call.OpnDev device mode) own = open_kept p device mode
call_kept p who (call.ReaDev descriptor start address size timeout) own = request_kept p who false descriptor start address size timeout
call_kept p who (call.WriDev descriptor start address size timeout) own = request_kept p who true descriptor start address size timeout
call_kept p who (call.SreaDev descriptor start address size) own = whole_kept p who false descriptor start address size own
call_kept p who (call.SwriDev descriptor start address size) own = whole_kept p who true descriptor start address size own
call_kept p who (call.WaiDev descriptor id timeout) own = wait_kept p who descriptor id timeout
call_kept p who (call.ClsDev descriptor) own = close_kept p who descriptor
call_kept p who (call.SusDev mode) own = suspend_kept p who mode
call_kept p who (call.RefDev device) own = refer_kept p device
