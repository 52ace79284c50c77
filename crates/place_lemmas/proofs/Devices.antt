-- What passes through waits and their ends passes through each call on devices.
use Rattle.std.proofs.Common.{ℕ, Bool, true, false, not, cond, List, [], ◌∷◌, Option, Some, None, ℤ, pos, negsuc}
use Rattle.std.specs.Prelude.{filter, fold, is_some, reverse}
use Rattle.std.specs.Ordering.{int_eq}
use Rattle.tk_types.specs.declared.answer.Who.{Who}
use Rattle.tk_types.specs.declared.calls.DeviceCall.{DeviceCall}
use Rattle.tk_types.specs.declared.calls.DeviceCall.TheVariants as call
use Rattle.tk_types.specs.declared.error_code.Er.{Er}
use Rattle.tk_types.specs.declared.error_code.Er.TheVariants as er
use Rattle.tk_types.specs.declared.modes.OpenMode.{OpenMode}
use Rattle.tk_types.specs.declared.modes.SuspendMode.{SuspendMode}
use Rattle.tk_types.specs.declared.task.Order.TheVariants.{Fifo}
use Rattle.tk_types.specs.Codes.{code_of}
use Rattle.kernel_model.specs.Words.Checks.{Check, ◌otherwise◌, failed, first_error, natural, plain}
use Rattle.kernel_model.specs.Tasks.Base.{Base}
use Rattle.kernel_model.specs.Tasks.Calls.{caller}
use Rattle.object_model.specs.Mails.Tables.{MailParts}
use Rattle.object_model.specs.Mails.Buffers.{post}
use Rattle.device_model.specs.declared.rows.Transfer.{Transfer}
use Rattle.device_model.specs.declared.rows.Wish.{Wish}
use Rattle.device_model.specs.declared.rows.Wish.TheVariants as wish
use Rattle.device_model.specs.Devices.Tables.{Devices, buffer_of, device_ids, free_request, link_at, with_wish}
use Rattle.device_model.specs.Devices.Handing.{any_given, suspension_object}
use Rattle.device_model.specs.Devices.Endings.{DevParts, close_object}
use Rattle.device_model.specs.Devices.Requests as requests
use Rattle.device_model.specs.Devices.Servings.{is_with_driver}
use Rattle.device_model.specs.Devices.Suspension as suspension
use Rattle.device_model.specs.Devices.Calls as calls
use Rattle.device_model.specs.Devices.Calls.{DevDone}
use Rattle.call_walk.proofs.DeviceCalls.{accept_keeps}
use Rattle.place_lemmas.proofs.Mails.{Sent, post_keeps}
use Rattle.place_lemmas.proofs.Moves.{IsPassed}

refused_keeps : (P : Base → Type 0) (error : Option Er) (p : DevParts) (effect : DevDone) → P p.base → P effect.parts.base → P (calls.refused_with error p effect).parts.base
refused_keeps P (Some error) p effect has works = has
refused_keeps P None p effect has works = works

-- a call is refused and leaves the base, or has its effect
checked_keeps : (P : Base → Type 0) (checks : List Check) (p : DevParts) (effect : DevDone) → P p.base → P effect.parts.base → P (calls.device_checked checks p effect).parts.base
checked_keeps P checks p effect has works = refused_keeps P (first_error checks) p effect has works

either_done : (P : Base → Type 0) (test : Bool) (one other : DevDone) → P one.parts.base → P other.parts.base → P (cond {A = DevDone} test one other).parts.base
either_done P true one other first second = first
either_done P false one other first second = second

wait_keeps : (P R : Base → Type 0) → IsPassed P R → (p : DevParts) (t object : ℕ) (timeout : ℤ) (dv : Devices) → P p.base → R (calls.waits_or_ends p t object timeout dv).parts.base
wait_keeps P R is p t object timeout dv has =
    either_done R (int_eq timeout (pos 0)) (record { parts = p; outcome = failed er.TmOut }) (calls.waits p t object timeout dv) (is.ends p.base has)
    (is.waits p.base t object Fifo timeout has)

-- ---- requests

requested_keeps : (P R : Base → Type 0) → IsPassed P R → (p : DevParts) (t d : ℕ) (transfer : Transfer) (timeout : ℤ) → P p.base →
    R (calls.requested p t d transfer timeout).parts.base
requested_keeps P R is p t d transfer timeout has =
    either_done R (requests.has_place p.table d) (calls.answers (requests.accept p d (free_request p.table) transfer) (pos (free_request p.table)))
    (calls.waits_or_ends p t (requests.acceptance_object d) timeout (with_wish p.table t (wish.Acceptance transfer false)))
    (is.ends _ (accept_keeps P p d (free_request p.table) transfer has))
    (wait_keeps P R is p t (requests.acceptance_object d) timeout (with_wish p.table t (wish.Acceptance transfer false)) has)

request_keeps : (P R : Base → Type 0) → IsPassed P R → (p : DevParts) (who : Who) (write : Bool) (descriptor start address size timeout : ℤ) → P p.base →
    R (calls.request p who write descriptor start address size timeout).parts.base
unfolding calls.request
request_keeps P R is p who write descriptor start address size timeout has =
    checked_keeps R (calls.request_checks p who descriptor write start address size timeout []) p _ (is.ends p.base has)
    (requested_keeps P R is p (caller who) (calls.device_of p.table (natural descriptor)) (calls.transfer_of descriptor write start address size) timeout has)

stayed_keeps : (P R : Base → Type 0) → IsPassed P R → (p : DevParts) (t d : ℕ) (transfer : Transfer) (start : Option ℕ) → P p.base →
    R (calls.stayed p t d transfer start).parts.base
stayed_keeps P R is p t d transfer (Some start) has = is.waits p.base t (requests.acceptance_object d) Fifo (negsuc 0) has
stayed_keeps P R is p t d transfer None has =
    let id : ℕ = free_request p.table in
    either_done R (requests.has_place p.table d) (calls.claim (requests.accept p d id transfer) true id) (calls.stays p t d transfer)
    (is.ends _ (accept_keeps P p d id transfer has))
    (is.waits p.base t (requests.acceptance_object d) Fifo (negsuc 0) has)

whole_keeps : (P R : Base → Type 0) → IsPassed P R → (p : DevParts) (who : Who) (write : Bool) (descriptor start address size : ℤ) → P p.base →
    R (calls.request_whole p who write descriptor start address size).parts.base
unfolding calls.request_whole
whole_keeps P R is p who write descriptor start address size has =
    checked_keeps R
    (calls.request_checks p who descriptor write start address size (negsuc 0) ((not (calls.any_waits p (natural descriptor)) otherwise er.Obj) ∷ [])) p _
    (is.ends p.base has)
    (stayed_keeps P R is p (caller who) (calls.device_of p.table (natural descriptor)) (calls.transfer_of descriptor write start address size) (calls.start_of start) has)

-- ---- endings

waited_keeps : (P R : Base → Type 0) → IsPassed P R → (p : DevParts) (t dd : ℕ) (timeout : ℤ) (asked_for : Wish) (picked : Option ℕ) → P p.base →
    R (calls.ending_waited p t dd timeout asked_for picked).parts.base
waited_keeps P R is p t dd timeout asked_for (Some id) has = is.ends p.base has
waited_keeps P R is p t dd timeout asked_for None has = wait_keeps P R is p t (requests.ending_object dd) timeout (with_wish p.table t asked_for) has

wait_ending_keeps : (P R : Base → Type 0) → IsPassed P R → (p : DevParts) (who : Who) (descriptor id timeout : ℤ) → P p.base →
    R (calls.wait_ending p who descriptor id timeout).parts.base
unfolding calls.wait_ending
wait_ending_keeps P R is p who descriptor id timeout has =
    let asked_for : Wish = calls.ending_wish p.table (natural id) in
    checked_keeps R (calls.wait_checks p who descriptor id timeout) p _ (is.ends p.base has)
    (waited_keeps P R is p (caller who) (natural descriptor) timeout asked_for (requests.picked p.table (natural descriptor) asked_for) has)

-- ---- closing

aborted_keeps : (P R : Base → Type 0) → IsPassed P R → (ids : List ℕ) (b : Base) → P b → P (fold calls.aborted b ids)
aborted_keeps P R is [] b has = has
aborted_keeps P R is (t ∷ ids) b has = aborted_keeps P R is ids (calls.aborted b t) (is.released b t (plain (code_of er.Abort)) has)

closed_keeps : (P R : Base → Type 0) → IsPassed P R → (begun : Bool) (p : DevParts) (t dd : ℕ) → P p.base → R (calls.closed_or_begun begun p t dd).parts.base
closed_keeps P R is false p t dd has = is.ends p.base has
closed_keeps P R is true p t dd has = is.waits p.base t (close_object dd) Fifo (negsuc 0) has

close_keeps : (P R : Base → Type 0) → IsPassed P R → (p : DevParts) (who : Who) (descriptor : ℤ) → P p.base → R (calls.close_device p who descriptor).parts.base
unfolding calls.close_device
close_keeps P R is p who descriptor has =
    let dd : ℕ = natural descriptor in
    checked_keeps R (calls.close_checks p who descriptor) p _ (is.ends p.base has)
    (closed_keeps P R is (is_with_driver p.table dd) (calls.without_requests p dd) (caller who) dd (aborted_keeps P R is (filter (calls.waits_on p dd) p.base.since) p.base has))

-- ---- suspension

after_post_keeps : (P : Base → Type 0) (p : DevParts) (sent : Option MailParts) → P p.base → Sent P sent → P (suspension.after_post p sent).base
after_post_keeps P p None has sent = has
after_post_keeps P p (Some parts) has sent = sent

sent_keeps : (P R : Base → Type 0) → IsPassed P R → (type : ℕ) (ids : List ℕ) (p : DevParts) → P p.base → P (fold (suspension.event_sent type) p ids).base
sent_keeps P R is type [] p has = has
sent_keeps P R is type (d ∷ ids) p has =
    let id : ℕ = buffer_of p.table d in
    let bytes : List ℕ = suspension.event_bytes type d in
    sent_keeps P R is type ids (suspension.event_sent type p d)
    (after_post_keeps P p (post (suspension.mail_parts p) id bytes) has (post_keeps P R is (suspension.mail_parts p) id bytes has))

-- the events of a suspension
events_keep : (P R : Base → Type 0) → IsPassed P R → (p : DevParts) → P p.base → P (suspension.events_sent p).base
unfolding suspension.events_sent
events_keep P R is p has = sent_keeps P R is 2 (device_ids p.table) _ (sent_keeps P R is 1 (reverse (device_ids p.table)) p has)

suspended_keeps : (P R : Base → Type 0) → IsPassed P R → (given : Bool) (p : DevParts) (t : ℕ) → P p.base → R (calls.suspended given p t).parts.base
suspended_keeps P R is false p t has = is.ends _ (events_keep P R is p has)
suspended_keeps P R is true p t has = is.waits p.base t suspension_object Fifo (negsuc 0) has

effect_keeps : (P R : Base → Type 0) → IsPassed P R → (p : DevParts) (t : ℕ) (mode : SuspendMode) → P p.base → R (calls.suspend_effect p t mode).parts.base
effect_keeps P R is p t mode has =
    either_done R mode.td_suspend _ _ (suspended_keeps P R is (any_given p.table) p t has)
    (either_done R mode.td_dissus _ _ (is.ends p.base has) (either_done R mode.td_enasus _ _ (is.ends p.base has) (is.ends p.base has)))

suspend_keeps : (P R : Base → Type 0) → IsPassed P R → (p : DevParts) (who : Who) (mode : SuspendMode) → P p.base → R (calls.suspend_devices p who mode).parts.base
unfolding calls.suspend_devices
suspend_keeps P R is p who mode has = checked_keeps R (calls.suspend_checks p who mode) p _ (is.ends p.base has) (effect_keeps P R is p (caller who) mode has)

-- ---- all

open_keeps : (P R : Base → Type 0) → IsPassed P R → (p : DevParts) (d : ℕ) (mode : OpenMode) → P p.base → R (calls.open_device p d mode).parts.base
unfolding calls.open_device
open_keeps P R is p d mode has = checked_keeps R (calls.open_checks p.table d mode) p _ (is.ends p.base has) (is.ends p.base has)

refer_keeps : (P R : Base → Type 0) → IsPassed P R → (p : DevParts) (d : ℕ) → P p.base → R (calls.refer_device p d).parts.base
unfolding calls.refer_device
refer_keeps P R is p d has = checked_keeps R ((is_some (link_at p.table d) otherwise er.NoExs) ∷ []) p _ (is.ends p.base has) (is.ends p.base has)

-- each of them
pub device_calls_keep : (P R : Base → Type 0) → IsPassed P R → (p : DevParts) (who : Who) (c : DeviceCall) → P p.base → R (calls.device_call p who c).parts.base
unfolding calls.device_call
device_calls_keep P R is p who (call.OpnDev device mode) has = open_keeps P R is p device mode has
device_calls_keep P R is p who (call.ReaDev descriptor start address size timeout) has = request_keeps P R is p who false descriptor start address size timeout has
device_calls_keep P R is p who (call.WriDev descriptor start address size timeout) has = request_keeps P R is p who true descriptor start address size timeout has
device_calls_keep P R is p who (call.SreaDev descriptor start address size) has = whole_keeps P R is p who false descriptor start address size has
device_calls_keep P R is p who (call.SwriDev descriptor start address size) has = whole_keeps P R is p who true descriptor start address size has
device_calls_keep P R is p who (call.WaiDev descriptor id timeout) has = wait_ending_keeps P R is p who descriptor id timeout has
device_calls_keep P R is p who (call.ClsDev descriptor) has = close_keeps P R is p who descriptor has
device_calls_keep P R is p who (call.SusDev mode) has = suspend_keeps P R is p who mode has
device_calls_keep P R is p who (call.RefDev device) has = refer_keeps P R is p device has
