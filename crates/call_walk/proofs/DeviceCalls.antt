-- What each move of the base keeps, each call on devices keeps; and an ending that arrives leaves the base.
use Rattle.std.proofs.Common.{◌≡◌, ℕ, Bool, true, false, not, cond, List, [], ◌∷◌, Option, Some, None, refl, ap, sym, subst, ◌∙◌, ℤ, pos, negsuc}
use Rattle.std.specs.Bool.{◌==◌}
use Rattle.std.specs.Prelude.{filter, fold, if◌then◌else◌, is_some, reverse}
use Rattle.std.specs.Ordering.{int_eq}
use Rattle.tk_types.specs.declared.answer.Who.{Who}
use Rattle.tk_types.specs.declared.calls.DeviceCall.{DeviceCall}
use Rattle.tk_types.specs.declared.calls.DeviceCall.TheVariants as call
use Rattle.tk_types.specs.declared.error_code.Er.{Er}
use Rattle.tk_types.specs.declared.error_code.Er.TheVariants as er
use Rattle.tk_types.specs.declared.modes.OpenMode.{OpenMode}
use Rattle.tk_types.specs.declared.modes.SuspendMode.{SuspendMode}
use Rattle.tk_types.specs.declared.task.Order.TheVariants.{Fifo}
use Rattle.tk_types.specs.Codes.{code_of}
use Rattle.kernel_model.specs.Words.Checks.{Check, ◌otherwise◌, failed, first_error, natural, plain}
use Rattle.kernel_model.specs.Tasks.Base.{Base}
use Rattle.kernel_model.specs.Tasks.Calls.{caller}
use Rattle.object_model.specs.Mails.Tables.{MailParts}
use Rattle.object_model.specs.Mails.Buffers.{post}
use Rattle.device_model.specs.declared.messages.Ending.{Ending}
use Rattle.device_model.specs.declared.rows.Transfer.{Transfer}
use Rattle.device_model.specs.declared.rows.Wish.{Wish}
use Rattle.device_model.specs.declared.rows.Wish.TheVariants as wish
use Rattle.device_model.specs.Units.Function.{Served}
use Rattle.device_model.specs.Devices.Memory.{number_of, read_bytes}
use Rattle.device_model.specs.Devices.Tables.{Devices, Given, Link, Row, buffer_of, device_ids, free_request, is_at_driver, link_at, row_at, with_wish}
use Rattle.device_model.specs.Devices.Handing.{any_given, suspension_object}
use Rattle.device_model.specs.Devices.Endings as endings
use Rattle.device_model.specs.Devices.Endings.{DevParts, arrive, close_object}
use Rattle.device_model.specs.Devices.Requests as requests
use Rattle.device_model.specs.Devices.Servings.{is_with_driver}
use Rattle.device_model.specs.Devices.Suspension as suspension
use Rattle.device_model.specs.Devices.Calls as calls
use Rattle.device_model.specs.Devices.Calls.{DevDone}
use Rattle.call_walk.proofs.BaseMoves.{IsStillProof}
use Rattle.call_walk.proofs.MailCalls.{Sent, post_keeps}

refused_keeps : (P : Base → Type 0) (error : Option Er) (p : DevParts) (effect : DevDone) → P p.base → P effect.parts.base → P (calls.refused_with error p effect).parts.base
refused_keeps P (Some error) p effect has works = has
refused_keeps P None p effect has works = works

-- a call is refused and leaves the base, or has its effect
checked_keeps : (P : Base → Type 0) (checks : List Check) (p : DevParts) (effect : DevDone) → P p.base → P effect.parts.base → P (calls.device_checked checks p effect).parts.base
checked_keeps P checks p effect has works = refused_keeps P (first_error checks) p effect has works

either_done : (P : Base → Type 0) (test : Bool) (one other : DevDone) → P one.parts.base → P other.parts.base → P (cond {A = DevDone} test one other).parts.base
either_done P true one other first second = first
either_done P false one other first second = second

either_parts : (P : Base → Type 0) (test : Bool) (one other : DevParts) → P one.base → P other.base → P (cond {A = DevParts} test one other).base
either_parts P true one other first second = first
either_parts P false one other first second = second

wait_keeps : (P : Base → Type 0) → IsStillProof P → (p : DevParts) (t object : ℕ) (timeout : ℤ) (dv : Devices) → P p.base → P (calls.waits_or_ends p t object timeout dv).parts.base
wait_keeps P is p t object timeout dv has =
    either_done P (int_eq timeout (pos 0)) (record { parts = p; outcome = failed er.TmOut }) (calls.waits p t object timeout dv) has (is.waits p.base t object Fifo timeout has)

-- ---- requests

event_base : (P : Base → Type 0) (p : DevParts) (d id : ℕ) (transfer : Transfer) → P p.base → P (requests.accept_event p d id transfer).base
event_base P p d id transfer has =
    either_parts P (transfer.size == 0) _ _ has
    (either_parts P (transfer.size == requests.buffer_size) _ _
    (either_parts P transfer.write _ _
    (either_parts P (requests.may_be_buffer p (number_of (read_bytes requests.buffer_size transfer.address p.memory))) _ _ has has)
    has)
    has)

from_base : (P : Base → Type 0) (start : Option ℕ) (p : DevParts) (d id : ℕ) (transfer : Transfer) → P p.base → P (requests.accept_from start p d id transfer).base
from_base P (Some start) p d id transfer has = has
from_base P None p d id transfer has = event_base P p d id transfer has

-- a request that is accepted leaves the base
pub accept_keeps : (P : Base → Type 0) (p : DevParts) (d id : ℕ) (transfer : Transfer) → P p.base → P (requests.accept p d id transfer).base
unfolding requests.accept
accept_keeps P p d id transfer has = from_base P transfer.start p d id transfer has

requested_keeps : (P : Base → Type 0) → IsStillProof P → (p : DevParts) (t d : ℕ) (transfer : Transfer) (timeout : ℤ) → P p.base → P (calls.requested p t d transfer timeout).parts.base
requested_keeps P is p t d transfer timeout has =
    either_done P (requests.has_place p.table d) (calls.answers (requests.accept p d (free_request p.table) transfer) (pos (free_request p.table)))
    (calls.waits_or_ends p t (requests.acceptance_object d) timeout (with_wish p.table t (wish.Acceptance transfer false)))
    (accept_keeps P p d (free_request p.table) transfer has)
    (wait_keeps P is p t (requests.acceptance_object d) timeout (with_wish p.table t (wish.Acceptance transfer false)) has)

request_keeps : (P : Base → Type 0) → IsStillProof P → (p : DevParts) (who : Who) (write : Bool) (descriptor start address size timeout : ℤ) → P p.base → P (calls.request p who write descriptor start address size timeout).parts.base
unfolding calls.request
request_keeps P is p who write descriptor start address size timeout has =
    checked_keeps P (calls.request_checks p who descriptor write start address size timeout []) p _ has
    (requested_keeps P is p (caller who) (calls.device_of p.table (natural descriptor)) (calls.transfer_of descriptor write start address size) timeout has)

stayed_keeps : (P : Base → Type 0) → IsStillProof P → (p : DevParts) (t d : ℕ) (transfer : Transfer) (start : Option ℕ) → P p.base → P (calls.stayed p t d transfer start).parts.base
stayed_keeps P is p t d transfer (Some start) has = is.waits p.base t (requests.acceptance_object d) Fifo (negsuc 0) has
stayed_keeps P is p t d transfer None has =
    let id : ℕ = free_request p.table in
    either_done P (requests.has_place p.table d) (calls.claim (requests.accept p d id transfer) true id) (calls.stays p t d transfer)
    (accept_keeps P p d id transfer has)
    (is.waits p.base t (requests.acceptance_object d) Fifo (negsuc 0) has)

whole_keeps : (P : Base → Type 0) → IsStillProof P → (p : DevParts) (who : Who) (write : Bool) (descriptor start address size : ℤ) → P p.base → P (calls.request_whole p who write descriptor start address size).parts.base
unfolding calls.request_whole
whole_keeps P is p who write descriptor start address size has =
    checked_keeps P (calls.request_checks p who descriptor write start address size (negsuc 0) ((not (calls.any_waits p (natural descriptor)) otherwise er.Obj) ∷ [])) p _ has
    (stayed_keeps P is p (caller who) (calls.device_of p.table (natural descriptor)) (calls.transfer_of descriptor write start address size) (calls.start_of start) has)

-- ---- endings

waited_keeps : (P : Base → Type 0) → IsStillProof P → (p : DevParts) (t dd : ℕ) (timeout : ℤ) (asked_for : Wish) (picked : Option ℕ) → P p.base → P (calls.ending_waited p t dd timeout asked_for picked).parts.base
waited_keeps P is p t dd timeout asked_for (Some id) has = has
waited_keeps P is p t dd timeout asked_for None has = wait_keeps P is p t (requests.ending_object dd) timeout (with_wish p.table t asked_for) has

wait_ending_keeps : (P : Base → Type 0) → IsStillProof P → (p : DevParts) (who : Who) (descriptor id timeout : ℤ) → P p.base → P (calls.wait_ending p who descriptor id timeout).parts.base
unfolding calls.wait_ending
wait_ending_keeps P is p who descriptor id timeout has =
    let asked_for : Wish = calls.ending_wish p.table (natural id) in
    checked_keeps P (calls.wait_checks p who descriptor id timeout) p _ has
    (waited_keeps P is p (caller who) (natural descriptor) timeout asked_for (requests.picked p.table (natural descriptor) asked_for) has)

-- ---- closing

aborted_keeps : (P : Base → Type 0) → IsStillProof P → (ids : List ℕ) (b : Base) → P b → P (fold calls.aborted b ids)
aborted_keeps P is [] b has = has
aborted_keeps P is (t ∷ ids) b has = aborted_keeps P is ids (calls.aborted b t) (is.released b t (plain (code_of er.Abort)) has)

closed_keeps : (P : Base → Type 0) → IsStillProof P → (begun : Bool) (p : DevParts) (t dd : ℕ) → P p.base → P (calls.closed_or_begun begun p t dd).parts.base
closed_keeps P is false p t dd has = has
closed_keeps P is true p t dd has = is.waits p.base t (close_object dd) Fifo (negsuc 0) has

close_keeps : (P : Base → Type 0) → IsStillProof P → (p : DevParts) (who : Who) (descriptor : ℤ) → P p.base → P (calls.close_device p who descriptor).parts.base
unfolding calls.close_device
close_keeps P is p who descriptor has =
    let dd : ℕ = natural descriptor in
    checked_keeps P (calls.close_checks p who descriptor) p _ has
    (closed_keeps P is (is_with_driver p.table dd) (calls.without_requests p dd) (caller who) dd (aborted_keeps P is (filter (calls.waits_on p dd) p.base.since) p.base has))

-- ---- suspension

after_post_keeps : (P : Base → Type 0) (p : DevParts) (sent : Option MailParts) → P p.base → Sent P sent → P (suspension.after_post p sent).base
after_post_keeps P p None has sent = has
after_post_keeps P p (Some parts) has sent = sent

sent_keeps : (P : Base → Type 0) → IsStillProof P → (type : ℕ) (ids : List ℕ) (p : DevParts) → P p.base → P (fold (suspension.event_sent type) p ids).base
sent_keeps P is type [] p has = has
sent_keeps P is type (d ∷ ids) p has =
    let id : ℕ = buffer_of p.table d in
    let bytes : List ℕ = suspension.event_bytes type d in
    sent_keeps P is type ids (suspension.event_sent type p d) (after_post_keeps P p (post (suspension.mail_parts p) id bytes) has (post_keeps P is (suspension.mail_parts p) id bytes has))

-- the events of a suspension
pub events_keep : (P : Base → Type 0) → IsStillProof P → (p : DevParts) → P p.base → P (suspension.events_sent p).base
unfolding suspension.events_sent
events_keep P is p has = sent_keeps P is 2 (device_ids p.table) _ (sent_keeps P is 1 (reverse (device_ids p.table)) p has)

suspended_keeps : (P : Base → Type 0) → IsStillProof P → (given : Bool) (p : DevParts) (t : ℕ) → P p.base → P (calls.suspended given p t).parts.base
suspended_keeps P is false p t has = events_keep P is p has
suspended_keeps P is true p t has = is.waits p.base t suspension_object Fifo (negsuc 0) has

effect_keeps : (P : Base → Type 0) → IsStillProof P → (p : DevParts) (t : ℕ) (mode : SuspendMode) → P p.base → P (calls.suspend_effect p t mode).parts.base
effect_keeps P is p t mode has =
    either_done P mode.td_suspend _ _ (suspended_keeps P is (any_given p.table) p t has)
    (either_done P mode.td_dissus _ _ has (either_done P mode.td_enasus _ _ has has))

suspend_keeps : (P : Base → Type 0) → IsStillProof P → (p : DevParts) (who : Who) (mode : SuspendMode) → P p.base → P (calls.suspend_devices p who mode).parts.base
unfolding calls.suspend_devices
suspend_keeps P is p who mode has = checked_keeps P (calls.suspend_checks p who mode) p _ has (effect_keeps P is p (caller who) mode has)

-- ---- all

open_keeps : (P : Base → Type 0) (p : DevParts) (d : ℕ) (mode : OpenMode) → P p.base → P (calls.open_device p d mode).parts.base
unfolding calls.open_device
open_keeps P p d mode has = checked_keeps P (calls.open_checks p.table d mode) p _ has has

refer_keeps : (P : Base → Type 0) (p : DevParts) (d : ℕ) → P p.base → P (calls.refer_device p d).parts.base
unfolding calls.refer_device
refer_keeps P p d has = checked_keeps P ((is_some (link_at p.table d) otherwise er.NoExs) ∷ []) p _ has has

pub device_calls_keep : (P : Base → Type 0) → IsStillProof P → (p : DevParts) (who : Who) (c : DeviceCall) → P p.base → P (calls.device_call p who c).parts.base
unfolding calls.device_call
device_calls_keep P is p who (call.OpnDev device mode) has = open_keeps P p device mode has
device_calls_keep P is p who (call.ReaDev descriptor start address size timeout) has = request_keeps P is p who false descriptor start address size timeout has
device_calls_keep P is p who (call.WriDev descriptor start address size timeout) has = request_keeps P is p who true descriptor start address size timeout has
device_calls_keep P is p who (call.SreaDev descriptor start address size) has = whole_keeps P is p who false descriptor start address size has
device_calls_keep P is p who (call.SwriDev descriptor start address size) has = whole_keeps P is p who true descriptor start address size has
device_calls_keep P is p who (call.WaiDev descriptor id timeout) has = wait_ending_keeps P is p who descriptor id timeout has
device_calls_keep P is p who (call.ClsDev descriptor) has = close_keeps P is p who descriptor has
device_calls_keep P is p who (call.SusDev mode) has = suspend_keeps P is p who mode has
device_calls_keep P is p who (call.RefDev device) has = refer_keeps P p device has

-- ---- endings that arrive

-- the base is that of the parts, where there are such parts
abbrev Leaves : Base → Option DevParts → Type 0
Leaves b None = Unit {0}
Leaves b (Some q) = q.base ≡ b

row_leaves : (p : DevParts) (d : ℕ) (link : Link) (id : ℕ) (served : Served) (slot : Option Row) → Leaves p.base (endings.arrive_row p d link id served slot)
row_leaves p d link id served None = tt
row_leaves p d link id served (Some row) = by_life (is_at_driver row.life)
  where
    by_life : (away : Bool) → Leaves p.base (if away then Some (endings.landed p d link id row served) else None)
    by_life true = refl
    by_life false = tt

fit_leaves : (fit : Bool) (p : DevParts) (ending : Ending) (link : Link) (given : Given) → Leaves p.base (endings.arrive_fit fit p ending link given)
fit_leaves false p ending link given = tt
fit_leaves true p ending link given = row_leaves p ending.device link given.request.id (endings.served_of link.kind link.store given.request ending.how) (row_at p.table given.request.id)

given_leaves : (p : DevParts) (ending : Ending) (link : Link) (given : Option Given) → Leaves p.base (endings.arrive_given p ending link given)
given_leaves p ending link None = tt
given_leaves p ending link (Some given) = fit_leaves (endings.is_fit ending link given) p ending link given

link_leaves : (p : DevParts) (ending : Ending) (link : Option Link) → Leaves p.base (endings.arrive_link p ending link)
link_leaves p ending None = tt
link_leaves p ending (Some link) = given_leaves p ending link link.given

arrive_leaves : (p : DevParts) (ending : Ending) → Leaves p.base (arrive p ending)
unfolding arrive
arrive_leaves p ending = link_leaves p ending (link_at p.table ending.device)

leaves_there : (b : Base) (left : Option DevParts) (q : DevParts) → left ≡ Some q → Leaves b left → q.base ≡ b
leaves_there b None q is leaves = absurd (cc is)
leaves_there b (Some other) q is leaves = let same : other ≡ q = cc is in ap (λ (parts : DevParts). parts.base) (sym same) ∙ leaves

-- an ending that arrives leaves the base
pub arrive_base : (p q : DevParts) (ending : Ending) → arrive p ending ≡ Some q → q.base ≡ p.base
arrive_base p q ending is = leaves_there p.base (arrive p ending) q is (arrive_leaves p ending)

-- and so what holds of it
pub arrive_keeps : (P : Base → Type 0) (p : DevParts) (ending : Ending) (q : DevParts) → arrive p ending ≡ Some q → P p.base → P q.base
arrive_keeps P p ending q is has = subst P (sym (arrive_base p q ending is)) has
