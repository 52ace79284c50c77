-- What each call on devices makes: a wait may make one event.
use Rattle.std.proofs.Common.{ℕ, Bool, true, false, not, cond, List, [], ◌∷◌, Option, Some, None, ℤ, pos, negsuc}
use Rattle.std.specs.Bool.{◌==◌}
use Rattle.std.specs.Prelude.{filter, fold, is_some, reverse}
use Rattle.std.specs.Ordering.{int_eq}
use Rattle.tk_types.specs.declared.answer.Who.{Who}
use Rattle.tk_types.specs.declared.calls.DeviceCall.{DeviceCall}
use Rattle.tk_types.specs.declared.calls.DeviceCall.TheVariants as call
use Rattle.tk_types.specs.declared.error_code.Er.{Er}
use Rattle.tk_types.specs.declared.error_code.Er.TheVariants as er
use Rattle.tk_types.specs.declared.modes.OpenMode.{OpenMode}
use Rattle.tk_types.specs.declared.modes.SuspendMode.{SuspendMode}
use Rattle.tk_types.specs.declared.task.Order.TheVariants.{Fifo}
use Rattle.tk_types.specs.Codes.{code_of}
use Rattle.kernel_model.specs.Words.Checks.{Check, ◌otherwise◌, failed, first_error, natural, plain}
use Rattle.kernel_model.specs.Tasks.Base.{Base}
use Rattle.kernel_model.specs.Tasks.Calls.{caller}
use Rattle.object_model.specs.Mails.Tables.{MailParts}
use Rattle.object_model.specs.Mails.Buffers.{post}
use Rattle.device_model.specs.declared.rows.Transfer.{Transfer}
use Rattle.device_model.specs.declared.rows.Wish.{Wish}
use Rattle.device_model.specs.declared.rows.Wish.TheVariants as wish
use Rattle.device_model.specs.Devices.Memory.{number_of, read_bytes}
use Rattle.device_model.specs.Devices.Tables.{Devices, buffer_of, device_ids, free_request, link_at, with_wish}
use Rattle.device_model.specs.Devices.Handing.{any_given, suspension_object}
use Rattle.device_model.specs.Devices.Endings.{DevParts, close_object}
use Rattle.device_model.specs.Devices.Requests as requests
use Rattle.device_model.specs.Devices.Servings.{is_with_driver}
use Rattle.device_model.specs.Devices.Suspension as suspension
use Rattle.device_model.specs.Devices.Calls as calls
use Rattle.device_model.specs.Devices.Calls.{DevDone}
use Rattle.count_lemmas.proofs.Making.{IsMaking, IsQuiet}
use Rattle.count_lemmas.proofs.Mails.{Sent, post_quiet}

refused_quiet : (P : Base → Type 0) (error : Option Er) (p : DevParts) (effect : DevDone) → P p.base → P effect.parts.base → P (calls.refused_with error p effect).parts.base
refused_quiet P (Some error) p effect has works = has
refused_quiet P None p effect has works = works

-- a call is refused and leaves the base, or has its effect
checked_quiet : (P : Base → Type 0) (checks : List Check) (p : DevParts) (effect : DevDone) → P p.base → P effect.parts.base → P (calls.device_checked checks p effect).parts.base
checked_quiet P checks p effect has works = refused_quiet P (first_error checks) p effect has works

either_done : (P : Base → Type 0) (test : Bool) (one other : DevDone) → P one.parts.base → P other.parts.base → P (cond {A = DevDone} test one other).parts.base
either_done P true one other first second = first
either_done P false one other first second = second

either_parts : (P : Base → Type 0) (test : Bool) (one other : DevParts) → P one.base → P other.base → P (cond {A = DevParts} test one other).base
either_parts P true one other first second = first
either_parts P false one other first second = second

wait_makes : (P Q : Base → Type 0) → IsMaking P Q → (p : DevParts) (t object : ℕ) (timeout : ℤ) (dv : Devices) → P p.base → Q (calls.waits_or_ends p t object timeout dv).parts.base
wait_makes P Q is p t object timeout dv has =
    either_done Q (int_eq timeout (pos 0)) (record { parts = p; outcome = failed er.TmOut }) (calls.waits p t object timeout dv) (is.more _ has) (is.waits p.base t object Fifo timeout has)

-- ---- requests

event_base : (P : Base → Type 0) (p : DevParts) (d id : ℕ) (transfer : Transfer) → P p.base → P (requests.accept_event p d id transfer).base
event_base P p d id transfer has =
    either_parts P (transfer.size == 0) _ _ has
    (either_parts P (transfer.size == requests.buffer_size) _ _
    (either_parts P transfer.write _ _
    (either_parts P (requests.may_be_buffer p (number_of (read_bytes requests.buffer_size transfer.address p.memory))) _ _ has has)
    has)
    has)

from_base : (P : Base → Type 0) (start : Option ℕ) (p : DevParts) (d id : ℕ) (transfer : Transfer) → P p.base → P (requests.accept_from start p d id transfer).base
from_base P (Some start) p d id transfer has = has
from_base P None p d id transfer has = event_base P p d id transfer has

-- a request that is accepted leaves the base
pub accept_quiet : (P : Base → Type 0) (p : DevParts) (d id : ℕ) (transfer : Transfer) → P p.base → P (requests.accept p d id transfer).base
unfolding requests.accept
accept_quiet P p d id transfer has = from_base P transfer.start p d id transfer has

requested_makes : (P Q : Base → Type 0) → IsMaking P Q → (p : DevParts) (t d : ℕ) (transfer : Transfer) (timeout : ℤ) → P p.base → Q (calls.requested p t d transfer timeout).parts.base
requested_makes P Q is p t d transfer timeout has =
    either_done Q (requests.has_place p.table d) (calls.answers (requests.accept p d (free_request p.table) transfer) (pos (free_request p.table)))
    (calls.waits_or_ends p t (requests.acceptance_object d) timeout (with_wish p.table t (wish.Acceptance transfer false)))
    (is.more _ (accept_quiet P p d (free_request p.table) transfer has))
    (wait_makes P Q is p t (requests.acceptance_object d) timeout (with_wish p.table t (wish.Acceptance transfer false)) has)

request_makes : (P Q : Base → Type 0) → IsMaking P Q → (p : DevParts) (who : Who) (write : Bool) (descriptor start address size timeout : ℤ) → P p.base → Q (calls.request p who write descriptor start address size timeout).parts.base
unfolding calls.request
request_makes P Q is p who write descriptor start address size timeout has =
    checked_quiet Q (calls.request_checks p who descriptor write start address size timeout []) p _ (is.more _ has)
    (requested_makes P Q is p (caller who) (calls.device_of p.table (natural descriptor)) (calls.transfer_of descriptor write start address size) timeout has)

stayed_makes : (P Q : Base → Type 0) → IsMaking P Q → (p : DevParts) (t d : ℕ) (transfer : Transfer) (start : Option ℕ) → P p.base → Q (calls.stayed p t d transfer start).parts.base
stayed_makes P Q is p t d transfer (Some start) has = is.waits p.base t (requests.acceptance_object d) Fifo (negsuc 0) has
stayed_makes P Q is p t d transfer None has =
    let id : ℕ = free_request p.table in
    either_done Q (requests.has_place p.table d) (calls.claim (requests.accept p d id transfer) true id) (calls.stays p t d transfer)
    (is.more _ (accept_quiet P p d id transfer has))
    (is.waits p.base t (requests.acceptance_object d) Fifo (negsuc 0) has)

whole_makes : (P Q : Base → Type 0) → IsMaking P Q → (p : DevParts) (who : Who) (write : Bool) (descriptor start address size : ℤ) → P p.base → Q (calls.request_whole p who write descriptor start address size).parts.base
unfolding calls.request_whole
whole_makes P Q is p who write descriptor start address size has =
    checked_quiet Q (calls.request_checks p who descriptor write start address size (negsuc 0) ((not (calls.any_waits p (natural descriptor)) otherwise er.Obj) ∷ [])) p _ (is.more _ has)
    (stayed_makes P Q is p (caller who) (calls.device_of p.table (natural descriptor)) (calls.transfer_of descriptor write start address size) (calls.start_of start) has)

-- ---- endings

waited_makes : (P Q : Base → Type 0) → IsMaking P Q → (p : DevParts) (t dd : ℕ) (timeout : ℤ) (asked_for : Wish) (picked : Option ℕ) → P p.base → Q (calls.ending_waited p t dd timeout asked_for picked).parts.base
waited_makes P Q is p t dd timeout asked_for (Some id) has = is.more _ has
waited_makes P Q is p t dd timeout asked_for None has = wait_makes P Q is p t (requests.ending_object dd) timeout (with_wish p.table t asked_for) has

wait_ending_makes : (P Q : Base → Type 0) → IsMaking P Q → (p : DevParts) (who : Who) (descriptor id timeout : ℤ) → P p.base → Q (calls.wait_ending p who descriptor id timeout).parts.base
unfolding calls.wait_ending
wait_ending_makes P Q is p who descriptor id timeout has =
    let asked_for : Wish = calls.ending_wish p.table (natural id) in
    checked_quiet Q (calls.wait_checks p who descriptor id timeout) p _ (is.more _ has)
    (waited_makes P Q is p (caller who) (natural descriptor) timeout asked_for (requests.picked p.table (natural descriptor) asked_for) has)

-- ---- closing

aborted_quiet : (P : Base → Type 0) → IsQuiet P → (ids : List ℕ) (b : Base) → P b → P (fold calls.aborted b ids)
aborted_quiet P is [] b has = has
aborted_quiet P is (t ∷ ids) b has = aborted_quiet P is ids (calls.aborted b t) (is.released b t (plain (code_of er.Abort)) has)

closed_makes : (P Q : Base → Type 0) → IsMaking P Q → (begun : Bool) (p : DevParts) (t dd : ℕ) → P p.base → Q (calls.closed_or_begun begun p t dd).parts.base
closed_makes P Q is false p t dd has = is.more _ has
closed_makes P Q is true p t dd has = is.waits p.base t (close_object dd) Fifo (negsuc 0) has

close_makes : (P Q : Base → Type 0) → IsMaking P Q → (p : DevParts) (who : Who) (descriptor : ℤ) → P p.base → Q (calls.close_device p who descriptor).parts.base
unfolding calls.close_device
close_makes P Q is p who descriptor has =
    let dd : ℕ = natural descriptor in
    checked_quiet Q (calls.close_checks p who descriptor) p _ (is.more _ has)
    (closed_makes P Q is (is_with_driver p.table dd) (calls.without_requests p dd) (caller who) dd (aborted_quiet P is.quiet (filter (calls.waits_on p dd) p.base.since) p.base has))

-- ---- suspension

after_post_quiet : (P : Base → Type 0) (p : DevParts) (sent : Option MailParts) → P p.base → Sent P sent → P (suspension.after_post p sent).base
after_post_quiet P p None has sent = has
after_post_quiet P p (Some parts) has sent = sent

sent_quiet : (P : Base → Type 0) → IsQuiet P → (type : ℕ) (ids : List ℕ) (p : DevParts) → P p.base → P (fold (suspension.event_sent type) p ids).base
sent_quiet P is type [] p has = has
sent_quiet P is type (d ∷ ids) p has =
    let id : ℕ = buffer_of p.table d in
    let bytes : List ℕ = suspension.event_bytes type d in
    sent_quiet P is type ids (suspension.event_sent type p d) (after_post_quiet P p (post (suspension.mail_parts p) id bytes) has (post_quiet P is (suspension.mail_parts p) id bytes has))

-- the events of a suspension
pub events_quiet : (P : Base → Type 0) → IsQuiet P → (p : DevParts) → P p.base → P (suspension.events_sent p).base
unfolding suspension.events_sent
events_quiet P is p has = sent_quiet P is 2 (device_ids p.table) _ (sent_quiet P is 1 (reverse (device_ids p.table)) p has)

suspended_makes : (P Q : Base → Type 0) → IsMaking P Q → (given : Bool) (p : DevParts) (t : ℕ) → P p.base → Q (calls.suspended given p t).parts.base
suspended_makes P Q is false p t has = is.more _ (events_quiet P is.quiet p has)
suspended_makes P Q is true p t has = is.waits p.base t suspension_object Fifo (negsuc 0) has

effect_makes : (P Q : Base → Type 0) → IsMaking P Q → (p : DevParts) (t : ℕ) (mode : SuspendMode) → P p.base → Q (calls.suspend_effect p t mode).parts.base
effect_makes P Q is p t mode has =
    either_done Q mode.td_suspend _ _ (suspended_makes P Q is (any_given p.table) p t has)
    (either_done Q mode.td_dissus _ _ (is.more _ has) (either_done Q mode.td_enasus _ _ (is.more _ has) (is.more _ has)))

suspend_makes : (P Q : Base → Type 0) → IsMaking P Q → (p : DevParts) (who : Who) (mode : SuspendMode) → P p.base → Q (calls.suspend_devices p who mode).parts.base
unfolding calls.suspend_devices
suspend_makes P Q is p who mode has = checked_quiet Q (calls.suspend_checks p who mode) p _ (is.more _ has) (effect_makes P Q is p (caller who) mode has)

-- ---- all

open_quiet : (P : Base → Type 0) (p : DevParts) (d : ℕ) (mode : OpenMode) → P p.base → P (calls.open_device p d mode).parts.base
unfolding calls.open_device
open_quiet P p d mode has = checked_quiet P (calls.open_checks p.table d mode) p _ has has

refer_quiet : (P : Base → Type 0) (p : DevParts) (d : ℕ) → P p.base → P (calls.refer_device p d).parts.base
unfolding calls.refer_device
refer_quiet P p d has = checked_quiet P ((is_some (link_at p.table d) otherwise er.NoExs) ∷ []) p _ has has

pub device_calls_make : (P Q : Base → Type 0) → IsMaking P Q → (p : DevParts) (who : Who) (c : DeviceCall) → P p.base → Q (calls.device_call p who c).parts.base
unfolding calls.device_call
device_calls_make P Q is p who (call.OpnDev device mode) has = is.more _ (open_quiet P p device mode has)
device_calls_make P Q is p who (call.ReaDev descriptor start address size timeout) has = request_makes P Q is p who false descriptor start address size timeout has
device_calls_make P Q is p who (call.WriDev descriptor start address size timeout) has = request_makes P Q is p who true descriptor start address size timeout has
device_calls_make P Q is p who (call.SreaDev descriptor start address size) has = whole_makes P Q is p who false descriptor start address size has
device_calls_make P Q is p who (call.SwriDev descriptor start address size) has = whole_makes P Q is p who true descriptor start address size has
device_calls_make P Q is p who (call.WaiDev descriptor id timeout) has = wait_ending_makes P Q is p who descriptor id timeout has
device_calls_make P Q is p who (call.ClsDev descriptor) has = close_makes P Q is p who descriptor has
device_calls_make P Q is p who (call.SusDev mode) has = suspend_makes P Q is p who mode has
device_calls_make P Q is p who (call.RefDev device) has = is.more _ (refer_quiet P p device has)
