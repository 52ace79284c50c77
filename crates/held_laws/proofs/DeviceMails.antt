-- Devices change mailboxes and message buffers by the events of a suspension alone. What sends of the kernel itself keep, every call
-- on devices keeps, and every serving at a device.
use Rattle.std.proofs.Common.{◌≡◌, ℕ, zero, suc, Bool, true, false, cond, List, [], ◌∷◌, Option, Some, None, not, refl, sym, subst, ℤ, pos, negsuc}
use Rattle.std.specs.Prelude.{fold, is_some, reverse}
use Rattle.std.specs.List.{find}
use Rattle.std.specs.Ordering.{int_eq}
use Rattle.tk_types.specs.declared.answer.Who.{Who}
use Rattle.tk_types.specs.declared.calls.DeviceCall.{DeviceCall}
use Rattle.tk_types.specs.declared.calls.DeviceCall.TheVariants as call
use Rattle.tk_types.specs.declared.error_code.Er.{Er}
use Rattle.tk_types.specs.declared.error_code.Er.TheVariants as er
use Rattle.tk_types.specs.declared.modes.OpenMode.{OpenMode}
use Rattle.tk_types.specs.declared.modes.SuspendMode.{SuspendMode}
use Rattle.kernel_model.specs.Words.Checks.{Check, ◌otherwise◌, failed, first_error, natural, plain}
use Rattle.kernel_model.specs.Tasks.Base.{fifo_queue, release}
use Rattle.kernel_model.specs.Tasks.Calls.{caller}
use Rattle.object_model.specs.Mails.Tables.{Mails, MailParts}
use Rattle.object_model.specs.Mails.Buffers.{post}
use Rattle.device_model.specs.declared.rows.Transfer.{Transfer}
use Rattle.device_model.specs.declared.rows.Wish.{Wish}
use Rattle.device_model.specs.declared.rows.Wish.TheVariants as wish
use Rattle.device_model.specs.Devices.Tables.{Devices, buffer_of, device_ids, free_request, link_at, wish_of, with_wish}
use Rattle.device_model.specs.Devices.Handing.{any_given, suspension_object}
use Rattle.device_model.specs.Devices.Endings.{DevParts, close_object}
use Rattle.device_model.specs.Devices.Requests as requests
use Rattle.device_model.specs.Devices.Servings as servings
use Rattle.device_model.specs.Devices.Servings.{is_with_driver}
use Rattle.device_model.specs.Devices.Suspension as suspension
use Rattle.device_model.specs.Devices.Calls as calls
use Rattle.device_model.specs.Devices.Calls.{DevDone}
use Rattle.mail_laws.proofs.Waits.{of_first}
use Rattle.machine_lemmas.proofs.DeviceServings.{accept_leaves}

-- it survives each send of the kernel itself
abbrev pub Sends : (Mails → Type 0) → Type 0
Sends P = (p q : MailParts) (id : ℕ) (bytes : List ℕ) → P p.table → post p id bytes ≡ Some q → P q.table

-- ---- the events of a suspension

after_post_has : (P : Mails → Type 0) (p : DevParts) (sent : Option MailParts) → P p.mails → ((q : MailParts) → sent ≡ Some q → P q.table) → P (suspension.after_post p sent).mails
after_post_has P p None has sends = has
after_post_has P p (Some parts) has sends = sends parts refl

sent_has : (P : Mails → Type 0) → Sends P → (type : ℕ) (ids : List ℕ) (p : DevParts) → P p.mails → P (fold (suspension.event_sent type) p ids).mails
sent_has P sends type [] p has = has
sent_has P sends type (d ∷ ids) p has =
    let id : ℕ = buffer_of p.table d in
    let bytes : List ℕ = suspension.event_bytes type d in
    sent_has P sends type ids (suspension.event_sent type p d)
    (after_post_has P p (post (suspension.mail_parts p) id bytes) has (λ q is. sends (suspension.mail_parts p) q id bytes has is))

events_have : (P : Mails → Type 0) → Sends P → (p : DevParts) → P p.mails → P (suspension.events_sent p).mails
unfolding suspension.events_sent
events_have P sends p has = sent_has P sends 2 (device_ids p.table) _ (sent_has P sends 1 (reverse (device_ids p.table)) p has)

-- ---- calls

refused_has : (P : Mails → Type 0) (error : Option Er) (p : DevParts) (effect : DevDone) → P p.mails → P effect.parts.mails → P (calls.refused_with error p effect).parts.mails
refused_has P (Some error) p effect has works = has
refused_has P None p effect has works = works

checked_has : (P : Mails → Type 0) (checks : List Check) (p : DevParts) (effect : DevDone) → P p.mails → P effect.parts.mails → P (calls.device_checked checks p effect).parts.mails
checked_has P checks p effect has works = refused_has P (first_error checks) p effect has works

either_done : (P : Mails → Type 0) (test : Bool) (one other : DevDone) → P one.parts.mails → P other.parts.mails → P (cond {A = DevDone} test one other).parts.mails
either_done P true one other first second = first
either_done P false one other first second = second

wait_has : (P : Mails → Type 0) (p : DevParts) (t object : ℕ) (timeout : ℤ) (dv : Devices) → P p.mails → P (calls.waits_or_ends p t object timeout dv).parts.mails
wait_has P p t object timeout dv has =
    either_done P (int_eq timeout (pos 0)) (record { parts = p; outcome = failed er.TmOut }) (calls.waits p t object timeout dv) has has

accept_has : (P : Mails → Type 0) (p : DevParts) (d id : ℕ) (transfer : Transfer) → P p.mails → P (requests.accept p d id transfer).mails
accept_has P p d id transfer has = subst P (sym (accept_leaves p d id transfer).mails) has

requested_has : (P : Mails → Type 0) (p : DevParts) (t d : ℕ) (transfer : Transfer) (timeout : ℤ) → P p.mails → P (calls.requested p t d transfer timeout).parts.mails
requested_has P p t d transfer timeout has =
    either_done P (requests.has_place p.table d) (calls.answers (requests.accept p d (free_request p.table) transfer) (pos (free_request p.table)))
    (calls.waits_or_ends p t (requests.acceptance_object d) timeout (with_wish p.table t (wish.Acceptance transfer false)))
    (accept_has P p d (free_request p.table) transfer has)
    (wait_has P p t (requests.acceptance_object d) timeout (with_wish p.table t (wish.Acceptance transfer false)) has)

request_has : (P : Mails → Type 0) (p : DevParts) (who : Who) (write : Bool) (descriptor start address size timeout : ℤ) → P p.mails →
    P (calls.request p who write descriptor start address size timeout).parts.mails
unfolding calls.request
request_has P p who write descriptor start address size timeout has =
    checked_has P (calls.request_checks p who descriptor write start address size timeout []) p _ has
    (requested_has P p (caller who) (calls.device_of p.table (natural descriptor)) (calls.transfer_of descriptor write start address size) timeout has)

stayed_has : (P : Mails → Type 0) (p : DevParts) (t d : ℕ) (transfer : Transfer) (start : Option ℕ) → P p.mails → P (calls.stayed p t d transfer start).parts.mails
stayed_has P p t d transfer (Some start) has = has
stayed_has P p t d transfer None has =
    let id : ℕ = free_request p.table in
    either_done P (requests.has_place p.table d) (calls.claim (requests.accept p d id transfer) true id) (calls.stays p t d transfer) (accept_has P p d id transfer has) has

whole_has : (P : Mails → Type 0) (p : DevParts) (who : Who) (write : Bool) (descriptor start address size : ℤ) → P p.mails →
    P (calls.request_whole p who write descriptor start address size).parts.mails
unfolding calls.request_whole
whole_has P p who write descriptor start address size has =
    checked_has P (calls.request_checks p who descriptor write start address size (negsuc 0) ((not (calls.any_waits p (natural descriptor)) otherwise er.Obj) ∷ [])) p _ has
    (stayed_has P p (caller who) (calls.device_of p.table (natural descriptor)) (calls.transfer_of descriptor write start address size) (calls.start_of start) has)

waited_has : (P : Mails → Type 0) (p : DevParts) (t dd : ℕ) (timeout : ℤ) (asked_for : Wish) (picked : Option ℕ) → P p.mails →
    P (calls.ending_waited p t dd timeout asked_for picked).parts.mails
waited_has P p t dd timeout asked_for (Some id) has = has
waited_has P p t dd timeout asked_for None has = wait_has P p t (requests.ending_object dd) timeout (with_wish p.table t asked_for) has

wait_ending_has : (P : Mails → Type 0) (p : DevParts) (who : Who) (descriptor id timeout : ℤ) → P p.mails → P (calls.wait_ending p who descriptor id timeout).parts.mails
unfolding calls.wait_ending
wait_ending_has P p who descriptor id timeout has =
    let asked_for : Wish = calls.ending_wish p.table (natural id) in
    checked_has P (calls.wait_checks p who descriptor id timeout) p _ has
    (waited_has P p (caller who) (natural descriptor) timeout asked_for (requests.picked p.table (natural descriptor) asked_for) has)

closed_has : (P : Mails → Type 0) (begun : Bool) (p : DevParts) (t dd : ℕ) → P p.mails → P (calls.closed_or_begun begun p t dd).parts.mails
closed_has P false p t dd has = has
closed_has P true p t dd has = has

close_has : (P : Mails → Type 0) (p : DevParts) (who : Who) (descriptor : ℤ) → P p.mails → P (calls.close_device p who descriptor).parts.mails
unfolding calls.close_device
close_has P p who descriptor has =
    let dd : ℕ = natural descriptor in
    checked_has P (calls.close_checks p who descriptor) p _ has
    (closed_has P (is_with_driver p.table dd) (calls.without_requests p dd) (caller who) dd has)

suspended_has : (P : Mails → Type 0) → Sends P → (given : Bool) (p : DevParts) (t : ℕ) → P p.mails → P (calls.suspended given p t).parts.mails
suspended_has P sends false p t has = events_have P sends p has
suspended_has P sends true p t has = has

effect_has : (P : Mails → Type 0) → Sends P → (p : DevParts) (t : ℕ) (mode : SuspendMode) → P p.mails → P (calls.suspend_effect p t mode).parts.mails
effect_has P sends p t mode has =
    either_done P mode.td_suspend _ _ (suspended_has P sends (any_given p.table) p t has)
    (either_done P mode.td_dissus _ _ has (either_done P mode.td_enasus _ _ has has))

suspend_has : (P : Mails → Type 0) → Sends P → (p : DevParts) (who : Who) (mode : SuspendMode) → P p.mails → P (calls.suspend_devices p who mode).parts.mails
unfolding calls.suspend_devices
suspend_has P sends p who mode has = checked_has P (calls.suspend_checks p who mode) p _ has (effect_has P sends p (caller who) mode has)

open_has : (P : Mails → Type 0) (p : DevParts) (d : ℕ) (mode : OpenMode) → P p.mails → P (calls.open_device p d mode).parts.mails
unfolding calls.open_device
open_has P p d mode has = checked_has P (calls.open_checks p.table d mode) p _ has has

refer_has : (P : Mails → Type 0) (p : DevParts) (d : ℕ) → P p.mails → P (calls.refer_device p d).parts.mails
unfolding calls.refer_device
refer_has P p d has = checked_has P ((is_some (link_at p.table d) otherwise er.NoExs) ∷ []) p _ has has

-- every call on devices keeps what sends of the kernel itself keep
pub device_calls_have : (P : Mails → Type 0) → Sends P → (p : DevParts) (who : Who) (c : DeviceCall) → P p.mails → P (calls.device_call p who c).parts.mails
unfolding calls.device_call
device_calls_have P sends p who (call.OpnDev device mode) has = open_has P p device mode has
device_calls_have P sends p who (call.ReaDev descriptor start address size timeout) has = request_has P p who false descriptor start address size timeout has
device_calls_have P sends p who (call.WriDev descriptor start address size timeout) has = request_has P p who true descriptor start address size timeout has
device_calls_have P sends p who (call.SreaDev descriptor start address size) has = whole_has P p who false descriptor start address size has
device_calls_have P sends p who (call.SwriDev descriptor start address size) has = whole_has P p who true descriptor start address size has
device_calls_have P sends p who (call.WaiDev descriptor id timeout) has = wait_ending_has P p who descriptor id timeout has
device_calls_have P sends p who (call.ClsDev descriptor) has = close_has P p who descriptor has
device_calls_have P sends p who (call.SusDev mode) has = suspend_has P sends p who mode has
device_calls_have P sends p who (call.RefDev device) has = refer_has P p device has

-- ---- servings

-- it holds of what is served, where something is
HasIf : (Mails → Type 0) → Option DevParts → Type 0
HasIf P None = Unit {0}
HasIf P (Some q) = P q.mails

of_some : (P : Mails → Type 0) (served : Option DevParts) (q : DevParts) → HasIf P served → served ≡ Some q → P q.mails
unfolding HasIf
of_some P None q has is = absurd (cc is)
of_some P (Some now) q has is = let same : now ≡ q = cc is in subst (λ (it : DevParts). P it.mails) same has

after_acceptance_has : (P : Mails → Type 0) (p : DevParts) (t dd id serial : ℕ) (stays : Bool) → P p.mails → P (servings.after_acceptance p t dd id serial stays).mails
after_acceptance_has P p t dd id serial true has = has
after_acceptance_has P p t dd id serial false has = has

admitted_has : (P : Mails → Type 0) (p : DevParts) (d t : ℕ) (transfer : Transfer) (stays : Bool) (id : ℕ) → P p.mails → P (servings.admitted p d t transfer stays id).mails
admitted_has P p d t transfer stays zero has = has
admitted_has P p d t transfer stays (suc id) has =
    after_acceptance_has P (requests.accept p d (suc id) transfer) t transfer.descriptor (suc id) p.table.serial stays (accept_has P p d (suc id) transfer has)

wished_has : (P : Mails → Type 0) (p : DevParts) (d t : ℕ) (asked : Wish) → P p.mails → HasIf P (servings.admitted_wish p d t asked)
unfolding HasIf
wished_has P p d t (wish.Acceptance transfer stays) has = admitted_has P p d t transfer stays (free_request p.table) has
wished_has P p d t wish.Nothing has = tt
wished_has P p d t (wish.Ending request serial own) has = tt
wished_has P p d t wish.AnyEnding has = tt

place_has : (P : Mails → Type 0) (place : Bool) (p : DevParts) (d t : ℕ) → P p.mails → HasIf P (servings.admitted_if place p d t)
unfolding HasIf
place_has P false p d t has = tt
place_has P true p d t has = wished_has P p d t (wish_of p.table t) has

by_has : (P : Mails → Type 0) (p : DevParts) (d : ℕ) (waiters : List ℕ) → P p.mails → HasIf P (servings.acceptance_by p d waiters)
unfolding HasIf
by_has P p d [] has = tt
by_has P p d (t ∷ ts) has = place_has P (requests.has_place p.table d) p d t has

acceptance_has : (P : Mails → Type 0) (p q : DevParts) (d : ℕ) → P p.mails → servings.serve_acceptance p d ≡ Some q → P q.mails
unfolding servings.serve_acceptance
acceptance_has P p q d has is = let waiters : List ℕ = fifo_queue p.base (requests.acceptance_object d) in
    of_some P (servings.acceptance_by p d waiters) q (by_has P p d waiters has) is

-- the serving of an acceptance leaves mailboxes and message buffers
pub acceptances_have : (P : Mails → Type 0) (p q : DevParts) → P p.mails → servings.serve_acceptances p ≡ Some q → P q.mails
unfolding servings.serve_acceptances
acceptances_have P p q has is = of_first (λ (it : DevParts). P it.mails) (servings.serve_acceptance p) _ q (λ d. acceptance_has P p q d has) is

claimed_has : (P : Mails → Type 0) (p : DevParts) (t : ℕ) (picked : Option ℕ) → P p.mails → HasIf P (servings.ending_claimed p t picked)
unfolding HasIf
claimed_has P p t None has = tt
claimed_has P p t (Some id) has = has

first_has : (P : Mails → Type 0) (p : DevParts) (dd : ℕ) (found : Option ℕ) → P p.mails → HasIf P (servings.ending_of_first p dd found)
unfolding HasIf
first_has P p dd None has = tt
first_has P p dd (Some t) has = claimed_has P p t (requests.picked p.table dd (wish_of p.table t)) has

ending_has : (P : Mails → Type 0) (p q : DevParts) (dd : ℕ) → P p.mails → servings.serve_ending p dd ≡ Some q → P q.mails
unfolding servings.serve_ending
ending_has P p q dd has is =
    let found : Option ℕ = find (λ t. is_some (requests.picked p.table dd (wish_of p.table t))) (fifo_queue p.base (requests.ending_object dd)) in
    of_some P (servings.ending_of_first p dd found) q (first_has P p dd found has) is

-- and that of an ending
pub endings_have : (P : Mails → Type 0) (p q : DevParts) → P p.mails → servings.serve_endings p ≡ Some q → P q.mails
unfolding servings.serve_endings
endings_have P p q has is = of_first (λ (it : DevParts). P it.mails) (servings.serve_ending p) _ q (λ dd. ending_has P p q dd has) is

unless_has : (P : Mails → Type 0) (away : Bool) (p : DevParts) (dd t : ℕ) → P p.mails → HasIf P (servings.closed_unless away p dd t)
unfolding HasIf
unless_has P true p dd t has = tt
unless_has P false p dd t has = has

close_by_has : (P : Mails → Type 0) (p : DevParts) (dd : ℕ) (waiters : List ℕ) → P p.mails → HasIf P (servings.close_by p dd waiters)
unfolding HasIf
close_by_has P p dd [] has = tt
close_by_has P p dd (t ∷ ts) has = unless_has P (is_with_driver p.table dd) p dd t has

one_close_has : (P : Mails → Type 0) (p q : DevParts) (dd : ℕ) → P p.mails → servings.serve_close p dd ≡ Some q → P q.mails
unfolding servings.serve_close
one_close_has P p q dd has is = let waiters : List ℕ = fifo_queue p.base (close_object dd) in
    of_some P (servings.close_by p dd waiters) q (close_by_has P p dd waiters has) is

-- and that of a close
pub closes_have : (P : Mails → Type 0) (p q : DevParts) → P p.mails → servings.serve_closes p ≡ Some q → P q.mails
unfolding servings.serve_closes
closes_have P p q has is = of_first (λ (it : DevParts). P it.mails) (servings.serve_close p) _ q (λ dd. one_close_has P p q dd has) is

until_has : (P : Mails → Type 0) → Sends P → (given : Bool) (p : DevParts) (t : ℕ) → P p.mails → HasIf P (servings.suspended_unless given p t)
unfolding HasIf
until_has P sends true p t has = tt
until_has P sends false p t has = events_have P sends (record p { base = release p.base t (plain (pos p.table.off)) }) has

suspension_by_has : (P : Mails → Type 0) → Sends P → (p : DevParts) (waiters : List ℕ) → P p.mails → HasIf P (servings.suspension_by p waiters)
unfolding HasIf
suspension_by_has P sends p [] has = tt
suspension_by_has P sends p (t ∷ ts) has = until_has P sends (any_given p.table) p t has

-- the serving of the suspension sends its events
pub suspension_has : (P : Mails → Type 0) → Sends P → (p q : DevParts) → P p.mails → servings.serve_suspension p ≡ Some q → P q.mails
unfolding servings.serve_suspension
suspension_has P sends p q has is = let waiters : List ℕ = fifo_queue p.base suspension_object in
    of_some P (servings.suspension_by p waiters) q (suspension_by_has P sends p waiters has) is
