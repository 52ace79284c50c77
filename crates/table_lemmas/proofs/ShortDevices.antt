-- Every call on devices, and every serving at them, leaves the tables of mailboxes and message buffers short: the events of a
-- suspension alone change these.
use Rattle.std.proofs.Common.{ℕ, zero, suc, Bool, true, false, not, cond, List, [], ◌∷◌, Option, Some, None, sym, subst, ℤ, pos, negsuc}
use Rattle.std.specs.Prelude.{fold, reverse}
use Rattle.std.specs.Option.{is_some}
use Rattle.std.specs.Ordering.{int_eq}
use Rattle.tk_types.specs.declared.answer.Who.{Who}
use Rattle.tk_types.specs.declared.calls.DeviceCall.{DeviceCall}
use Rattle.tk_types.specs.declared.calls.DeviceCall.TheVariants as call
use Rattle.tk_types.specs.declared.error_code.Er.{Er}
use Rattle.tk_types.specs.declared.error_code.Er.TheVariants as er
use Rattle.tk_types.specs.declared.modes.SuspendMode.{SuspendMode}
use Rattle.kernel_model.specs.Words.Checks.{Check, ◌otherwise◌, first_error, natural, plain}
use Rattle.kernel_model.specs.Tasks.Base.{fifo_queue, release}
use Rattle.kernel_model.specs.Tasks.Calls.{caller}
use Rattle.object_model.specs.Mails.Tables.{MailParts}
use Rattle.object_model.specs.Mails.Buffers.{post}
use Rattle.device_model.specs.declared.rows.Transfer.{Transfer}
use Rattle.device_model.specs.declared.rows.Wish.{Wish}
use Rattle.device_model.specs.declared.rows.Wish.TheVariants as wish
use Rattle.device_model.specs.Devices.Tables.{buffer_of, device_ids, free_request, link_at, wish_of}
use Rattle.device_model.specs.Devices.Handing.{any_given, suspension_object}
use Rattle.device_model.specs.Devices.Endings.{DevParts, close_object}
use Rattle.device_model.specs.Devices.Requests as requests
use Rattle.device_model.specs.Devices.Requests.{acceptance_object, ending_object, has_place, picked}
use Rattle.device_model.specs.Devices.Servings.{acceptance_by, admitted, admitted_if, admitted_wish, after_acceptance, close_by, closed_unless, descriptors, ending_claimed, ending_of_first, is_with_driver, serve_acceptance, serve_acceptances, serve_close, serve_closes, serve_ending, serve_endings, serve_suspension, suspended_unless, suspension_by}
use Rattle.device_model.specs.Devices.Suspension.{after_post, event_bytes, event_sent, events_sent, mail_parts}
use Rattle.device_model.specs.Devices.Calls as calls
use Rattle.device_model.specs.Devices.Calls.{DevDone}
use Rattle.machine_lemmas.proofs.DeviceServings.{accept_leaves}
use Rattle.table_lemmas.proofs.ShortMails.{MailsShort, post_short}
use Rattle.table_lemmas.proofs.Slots.{IfServed, first_kept}

-- the tables of mailboxes and message buffers beside the devices are short
abbrev pub BesideShort : DevParts → Type 0
BesideShort p = MailsShort p.mails

accept_short : (p : DevParts) (d id : ℕ) (transfer : Transfer) → BesideShort p → BesideShort (requests.accept p d id transfer)
accept_short p d id transfer has = subst MailsShort (sym (accept_leaves p d id transfer).mails) has

-- ---- events

after_short : (p : DevParts) (sent : Option MailParts) → BesideShort p → IfServed (λ (q : MailParts). MailsShort q.table) sent → BesideShort (after_post p sent)
after_short p None has kept = has
after_short p (Some parts) has kept = kept

each_short : (type : ℕ) (ids : List ℕ) (p : DevParts) → BesideShort p → BesideShort (fold (event_sent type) p ids)
each_short type [] p has = has
each_short type (d ∷ ids) p has =
    each_short type ids (event_sent type p d)
    (after_short p (post (mail_parts p) (buffer_of p.table d) (event_bytes type d)) has (post_short (mail_parts p) (buffer_of p.table d) (event_bytes type d) has))

events_short : (p : DevParts) → BesideShort p → BesideShort (events_sent p)
unfolding events_sent
events_short p has =
    each_short 2 (device_ids p.table) (fold (event_sent 1) p (reverse (device_ids p.table))) (each_short 1 (reverse (device_ids p.table)) p has)

-- ---- calls

abbrev DoneShort : DevDone → Type 0
DoneShort done = BesideShort done.parts

refused_short : (error : Option Er) (p : DevParts) (effect : DevDone) → BesideShort p → DoneShort effect → DoneShort (calls.refused_with error p effect)
refused_short (Some error) p effect has works = has
refused_short None p effect has works = works

checked_short : (checks : List Check) (p : DevParts) (effect : DevDone) → BesideShort p → DoneShort effect → DoneShort (calls.device_checked checks p effect)
checked_short checks p effect has works = refused_short (first_error checks) p effect has works

either_short : (test : Bool) (one other : DevDone) → DoneShort one → DoneShort other → DoneShort (cond {A = DevDone} test one other)
either_short true one other first second = first
either_short false one other first second = second

requested_short : (p : DevParts) (t d : ℕ) (transfer : Transfer) (timeout : ℤ) → BesideShort p → DoneShort (calls.requested p t d transfer timeout)
requested_short p t d transfer timeout has =
    either_short (has_place p.table d) _ _ (accept_short p d (free_request p.table) transfer has) (either_short (int_eq timeout (pos 0)) _ _ has has)

request_short : (p : DevParts) (who : Who) (write : Bool) (descriptor start address size timeout : ℤ) → BesideShort p →
    DoneShort (calls.request p who write descriptor start address size timeout)
unfolding calls.request
request_short p who write descriptor start address size timeout has =
    checked_short (calls.request_checks p who descriptor write start address size timeout []) p _ has
    (requested_short p (caller who) (calls.device_of p.table (natural descriptor)) (calls.transfer_of descriptor write start address size) timeout has)

stayed_short : (p : DevParts) (t d : ℕ) (transfer : Transfer) (start : Option ℕ) → BesideShort p → DoneShort (calls.stayed p t d transfer start)
stayed_short p t d transfer (Some start) has = has
stayed_short p t d transfer None has =
    either_short (has_place p.table d) (calls.claim (requests.accept p d (free_request p.table) transfer) true (free_request p.table)) (calls.stays p t d transfer)
    (accept_short p d (free_request p.table) transfer has) has

whole_short : (p : DevParts) (who : Who) (write : Bool) (descriptor start address size : ℤ) → BesideShort p →
    DoneShort (calls.request_whole p who write descriptor start address size)
unfolding calls.request_whole
whole_short p who write descriptor start address size has =
    checked_short (calls.request_checks p who descriptor write start address size (negsuc 0) ((not (calls.any_waits p (natural descriptor)) otherwise er.Obj) ∷ [])) p _ has
    (stayed_short p (caller who) (calls.device_of p.table (natural descriptor)) (calls.transfer_of descriptor write start address size) (calls.start_of start) has)

ending_short : (p : DevParts) (t dd : ℕ) (timeout : ℤ) (asked_for : Wish) (found : Option ℕ) → BesideShort p → DoneShort (calls.ending_waited p t dd timeout asked_for found)
ending_short p t dd timeout asked_for (Some id) has = has
ending_short p t dd timeout asked_for None has = either_short (int_eq timeout (pos 0)) _ _ has has

wait_short : (p : DevParts) (who : Who) (descriptor id timeout : ℤ) → BesideShort p → DoneShort (calls.wait_ending p who descriptor id timeout)
unfolding calls.wait_ending
wait_short p who descriptor id timeout has =
    checked_short (calls.wait_checks p who descriptor id timeout) p _ has
    (ending_short p (caller who) (natural descriptor) timeout (calls.ending_wish p.table (natural id))
    (picked p.table (natural descriptor) (calls.ending_wish p.table (natural id))) has)

begun_short : (begun : Bool) (p : DevParts) (t dd : ℕ) → BesideShort p → DoneShort (calls.closed_or_begun begun p t dd)
begun_short false p t dd has = has
begun_short true p t dd has = has

close_short : (p : DevParts) (who : Who) (descriptor : ℤ) → BesideShort p → DoneShort (calls.close_device p who descriptor)
unfolding calls.close_device
close_short p who descriptor has =
    checked_short (calls.close_checks p who descriptor) p _ has
    (begun_short (is_with_driver p.table (natural descriptor)) (calls.without_requests p (natural descriptor)) (caller who) (natural descriptor) has)

suspended_short : (given : Bool) (p : DevParts) (t : ℕ) → BesideShort p → DoneShort (calls.suspended given p t)
suspended_short false p t has = events_short p has
suspended_short true p t has = has

suspend_short : (p : DevParts) (who : Who) (mode : SuspendMode) → BesideShort p → DoneShort (calls.suspend_devices p who mode)
unfolding calls.suspend_devices
suspend_short p who mode has =
    checked_short (calls.suspend_checks p who mode) p _ has
    (either_short mode.td_suspend _ _ (suspended_short (any_given p.table) p (caller who) has)
    (either_short mode.td_dissus _ _ has (either_short mode.td_enasus _ _ has has)))

-- every call on devices leaves the tables of mailboxes and message buffers short
pub device_calls_short : (p : DevParts) (who : Who) (c : DeviceCall) → MailsShort p.mails → MailsShort (calls.device_call p who c).parts.mails
unfolding calls.device_call calls.open_device calls.refer_device
device_calls_short p who (call.OpnDev device mode) has = checked_short (calls.open_checks p.table device mode) p _ has has
device_calls_short p who (call.ReaDev descriptor start address size timeout) has = request_short p who false descriptor start address size timeout has
device_calls_short p who (call.WriDev descriptor start address size timeout) has = request_short p who true descriptor start address size timeout has
device_calls_short p who (call.SreaDev descriptor start address size) has = whole_short p who false descriptor start address size has
device_calls_short p who (call.SwriDev descriptor start address size) has = whole_short p who true descriptor start address size has
device_calls_short p who (call.WaiDev descriptor id timeout) has = wait_short p who descriptor id timeout has
device_calls_short p who (call.ClsDev descriptor) has = close_short p who descriptor has
device_calls_short p who (call.SusDev mode) has = suspend_short p who mode has
device_calls_short p who (call.RefDev device) has = checked_short ((is_some (link_at p.table device) otherwise er.NoExs) ∷ []) p _ has has

-- ---- servings

accepted_short : (p : DevParts) (t dd id serial : ℕ) (stays : Bool) → BesideShort p → BesideShort (after_acceptance p t dd id serial stays)
accepted_short p t dd id serial true has = has
accepted_short p t dd id serial false has = has

admitted_short : (p : DevParts) (d t : ℕ) (transfer : Transfer) (stays : Bool) (id : ℕ) → BesideShort p → BesideShort (admitted p d t transfer stays id)
admitted_short p d t transfer stays zero has = has
admitted_short p d t transfer stays (suc id) has =
    accepted_short (requests.accept p d (suc id) transfer) t transfer.descriptor (suc id) p.table.serial stays (accept_short p d (suc id) transfer has)

wish_short : (p : DevParts) (d t : ℕ) (asked : Wish) → BesideShort p → IfServed BesideShort (admitted_wish p d t asked)
wish_short p d t (wish.Acceptance transfer stays) has = admitted_short p d t transfer stays (free_request p.table) has
wish_short p d t wish.Nothing has = tt
wish_short p d t (wish.Ending request serial own) has = tt
wish_short p d t wish.AnyEnding has = tt

place_short : (place : Bool) (p : DevParts) (d t : ℕ) → BesideShort p → IfServed BesideShort (admitted_if place p d t)
place_short true p d t has = wish_short p d t (wish_of p.table t) has
place_short false p d t has = tt

by_short : (p : DevParts) (d : ℕ) (waiters : List ℕ) → BesideShort p → IfServed BesideShort (acceptance_by p d waiters)
by_short p d [] has = tt
by_short p d (t ∷ ts) has = place_short (has_place p.table d) p d t has

-- a serving of an acceptance leaves the tables short
pub acceptance_short : (p : DevParts) → MailsShort p.mails → IfServed (λ (q : DevParts). MailsShort q.mails) (serve_acceptances p)
unfolding serve_acceptances serve_acceptance
acceptance_short p has = first_kept BesideShort (serve_acceptance p) (device_ids p.table) (λ d. by_short p d (fifo_queue p.base (acceptance_object d)) has)

claimed_short : (p : DevParts) (t : ℕ) (id : Option ℕ) → BesideShort p → IfServed BesideShort (ending_claimed p t id)
claimed_short p t None has = tt
claimed_short p t (Some id) has = has

found_short : (p : DevParts) (dd : ℕ) (found : Option ℕ) → BesideShort p → IfServed BesideShort (ending_of_first p dd found)
found_short p dd None has = tt
found_short p dd (Some t) has = claimed_short p t (picked p.table dd (wish_of p.table t)) has

-- a serving of an ending leaves the tables short
pub endings_short : (p : DevParts) → MailsShort p.mails → IfServed (λ (q : DevParts). MailsShort q.mails) (serve_endings p)
unfolding serve_endings serve_ending
endings_short p has = first_kept BesideShort (serve_ending p) (descriptors p.table) (λ dd. found_short p dd _ has)

closed_short : (with_driver : Bool) (p : DevParts) (dd t : ℕ) → BesideShort p → IfServed BesideShort (closed_unless with_driver p dd t)
closed_short true p dd t has = tt
closed_short false p dd t has = has

close_by_short : (p : DevParts) (dd : ℕ) (waiters : List ℕ) → BesideShort p → IfServed BesideShort (close_by p dd waiters)
close_by_short p dd [] has = tt
close_by_short p dd (t ∷ ts) has = closed_short (is_with_driver p.table dd) p dd t has

-- a serving of a close leaves the tables short
pub closes_short : (p : DevParts) → MailsShort p.mails → IfServed (λ (q : DevParts). MailsShort q.mails) (serve_closes p)
unfolding serve_closes serve_close
closes_short p has = first_kept BesideShort (serve_close p) (descriptors p.table) (λ dd. close_by_short p dd (fifo_queue p.base (close_object dd)) has)

unless_short : (busy : Bool) (p : DevParts) (t : ℕ) → BesideShort p → IfServed BesideShort (suspended_unless busy p t)
unless_short true p t has = tt
unless_short false p t has = events_short (record p { base = release p.base t (plain (pos p.table.off)) }) has

waiters_short : (p : DevParts) (waiters : List ℕ) → BesideShort p → IfServed BesideShort (suspension_by p waiters)
waiters_short p [] has = tt
waiters_short p (t ∷ ts) has = unless_short (any_given p.table) p t has

-- a serving of the suspension leaves the tables short
pub suspension_short : (p : DevParts) → MailsShort p.mails → IfServed (λ (q : DevParts). MailsShort q.mails) (serve_suspension p)
unfolding serve_suspension
suspension_short p has = waiters_short p (fifo_queue p.base suspension_object) has
