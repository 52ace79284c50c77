-- What each move keeps is kept by every call, by each serving, and when requests go to drivers.
use Rattle.std.proofs.Common.{◌≡◌, ℕ, zero, suc, ◌+◌, length, Bool, true, false, List, [], ◌∷◌, Option, Some, None, refl, ap, sym, subst, ◌∙◌, ◌-◌, ℤ, pos, negsuc}
use Rattle.std.specs.Prelude.{fold, if◌then◌else◌, reverse, drop, ◌==◌, ◌&&◌, not}
use Rattle.std.specs.Ordering.{int_eq}
use Rattle.std.specs.Option.{option_or, is_some}
use Rattle.tk_types.specs.declared.answer.Who.{Who}
use Rattle.tk_types.specs.declared.calls.DeviceCall.{DeviceCall}
use Rattle.tk_types.specs.declared.calls.DeviceCall.TheVariants as call
use Rattle.tk_types.specs.declared.error_code.Er.{Er}
use Rattle.tk_types.specs.declared.error_code.Er.TheVariants as er
use Rattle.tk_types.specs.declared.modes.OpenMode.{OpenMode}
use Rattle.tk_types.specs.declared.modes.SuspendMode.{SuspendMode}
use Rattle.kernel_model.specs.Words.Orders.{taken_from}
use Rattle.kernel_model.specs.Words.Checks.{Check, ◌otherwise◌, first_error, natural, failed}
use Rattle.kernel_model.specs.Tasks.Calls.{caller}
use Rattle.kernel_model.specs.Tasks.Base.{Base}
use Rattle.object_model.specs.Mails.Tables.{MailParts}
use Rattle.object_model.specs.Servings.{first_serving}
use Rattle.device_model.specs.declared.messages.Ending.{Ending}
use Rattle.device_model.specs.declared.rows.Life.TheVariants.{Queued, Ended}
use Rattle.device_model.specs.declared.rows.Opened.{Opened}
use Rattle.device_model.specs.declared.rows.Transfer.{Transfer}
use Rattle.device_model.specs.declared.rows.Wish.{Wish}
use Rattle.device_model.specs.declared.rows.Wish.TheVariants as wish
use Rattle.device_model.specs.Devices.Memory.{read_bytes, number_of}
use Rattle.device_model.specs.Devices.Tables.{Given, Link, Row, Devices, device_ids, free_descriptor, free_request, is_at_driver, link_at, row_at, wish_of, with_buffer, with_open, with_wish, accepted, handed}
use Rattle.device_model.specs.Devices.MoveProofs.{IsNew, is_abort, IsMoveProof, IsArrivalProof}
use Rattle.device_model.specs.Devices.Handing as handing
use Rattle.device_model.specs.Devices.Endings as endings
use Rattle.device_model.specs.Devices.Endings.{DevParts}
use Rattle.device_model.specs.Devices.Requests as requests
use Rattle.device_model.specs.Devices.Suspension as suspension
use Rattle.device_model.specs.Devices.Servings as servings
use Rattle.device_model.specs.Devices.Calls as calls
use Rattle.device_model.specs.Devices.Calls.{DevDone}

-- the word holds of the devices of these parts
pub record Holds (P : Devices → Type 0) (p : DevParts) : Type 0 where
  pub devices : P p.table

-- and of those that a call leaves
pub record Done (P : Devices → Type 0) (done : DevDone) : Type 0 where
  pub devices : P done.parts.table

-- and of those that a serving leaves, where one is served
abbrev pub Kept : (Devices → Type 0) → Option DevParts → Type 0
Kept P None = Unit {0}
Kept P (Some q) = P q.table

-- a call is refused, or has its effect
refused_done : (P : Devices → Type 0) (error : Option Er) (p : DevParts) (effect : DevDone) → P p.table → Done P effect → Done P (calls.refused_with error p effect)
refused_done P (Some error) p effect before after = record { devices = before }
refused_done P None p effect before after = after

either_done : (P : Devices → Type 0) (test : Bool) (one other : DevDone) → Done P one → Done P other → Done P (if test then one else other)
either_done P true one other first second = first
either_done P false one other first second = second

either_parts : (P : Devices → Type 0) (test : Bool) (one other : DevParts) → Holds P one → Holds P other → Holds P (if test then one else other)
either_parts P true one other first second = first
either_parts P false one other first second = second

either_table : (P : Devices → Type 0) (test : Bool) (one other : Devices) → P one → P other → P (if test then one else other)
either_table P true one other first second = first
either_table P false one other first second = second

each_kept : (P : Devices → Type 0) {A : Type 0} (step : Devices → A → Devices) → ((dv : Devices) (x : A) → P dv → P (step dv x)) → (xs : List A) (dv : Devices) → P dv → P (fold step dv xs)
each_kept P step keeps [] dv before = before
each_kept P step keeps (x ∷ xs) dv before = each_kept P step keeps xs (step dv x) (keeps dv x before)

-- ---- requests

-- as many bytes are read as were asked for
pub bytes_read : (n address : ℕ) (memory : List ℕ) → length (read_bytes n address memory) ≡ n
unfolding read_bytes
bytes_read zero address memory = refl
bytes_read (suc n) address memory = ap (λ (m : ℕ). suc m) (bytes_read n (address + 1) memory)

bytes_copied : (write : Bool) (n address : ℕ) (memory : List ℕ) → write ≡ true → length (if write then read_bytes n address memory else []) ≡ n
bytes_copied true n address memory is = bytes_read n address memory
bytes_copied false n address memory is = absurd (cc is)

none_copied : (write : Bool) (n address : ℕ) (memory : List ℕ) → write ≡ false → (if write then read_bytes n address memory else []) ≡ []
none_copied true n address memory is = absurd (cc is)
none_copied false n address memory is = refl

queued_new : (d : ℕ) (transfer : Transfer) (memory : List ℕ) → IsNew (requests.row_of d transfer (requests.copied transfer memory) Queued)
queued_new d transfer memory = record { whole = λ waits write. bytes_copied transfer.write transfer.size transfer.address memory write; none = λ read. none_copied transfer.write transfer.size transfer.address memory read; apart = refl; unaborted = refl }

ended_new : (d : ℕ) (transfer : Transfer) (size : ℕ) (error : Er) → is_abort error ≡ false → IsNew (requests.row_of d transfer [] (Ended size error))
ended_new d transfer size error plain = record { whole = λ waits write. absurd (cc waits); none = λ read. refl; apart = refl; unaborted = plain }

ends_kept : (P : Devices → Type 0) → IsMoveProof P → (d id : ℕ) (transfer : Transfer) (dv : Devices) (size : ℕ) (error : Er) → is_abort error ≡ false → P dv → P (accepted dv id (requests.row_of d transfer [] (Ended size error)))
ends_kept P is d id transfer dv size error plain kept = is.accepts dv id (requests.row_of d transfer [] (Ended size error)) (ended_new d transfer size error plain) kept

buffer_kept : (P : Devices → Type 0) → IsMoveProof P → (p : DevParts) (d id buffer : ℕ) (transfer : Transfer) → P p.table → Holds P (requests.set_buffer p d id buffer transfer)
buffer_kept P is p d id buffer transfer before =
    either_parts P (requests.may_be_buffer p buffer) _ _
    (record { devices = ends_kept P is d id transfer (with_buffer p.table d buffer) requests.buffer_size er.Ok refl (is.buffers p.table d buffer before) })
    (record { devices = ends_kept P is d id transfer p.table 0 er.NoExs refl before })

event_kept : (P : Devices → Type 0) → IsMoveProof P → (p : DevParts) (d id : ℕ) (transfer : Transfer) → P p.table → Holds P (requests.accept_event p d id transfer)
event_kept P is p d id transfer before =
    either_parts P (transfer.size == 0) _ _ (record { devices = ends_kept P is d id transfer p.table requests.buffer_size er.Ok refl before })
    (either_parts P (transfer.size == requests.buffer_size) _ _
    (either_parts P transfer.write _ _
    (buffer_kept P is p d id (number_of (read_bytes requests.buffer_size transfer.address p.memory)) transfer before)
    (record { devices = ends_kept P is d id transfer p.table requests.buffer_size er.Ok refl before }))
    (record { devices = ends_kept P is d id transfer p.table 0 er.Par refl before }))

accept_from_kept : (P : Devices → Type 0) → IsMoveProof P → (start : Option ℕ) (p : DevParts) (d id : ℕ) (transfer : Transfer) → P p.table → Holds P (requests.accept_from start p d id transfer)
accept_from_kept P is (Some start) p d id transfer before = record { devices = is.accepts p.table id (requests.row_of d transfer (requests.copied transfer p.memory) Queued) (queued_new d transfer p.memory) before }
accept_from_kept P is None p d id transfer before = event_kept P is p d id transfer before

-- a request that is accepted
pub accept_kept : (P : Devices → Type 0) → IsMoveProof P → (p : DevParts) (d id : ℕ) (transfer : Transfer) → P p.table → P (requests.accept p d id transfer).table
unfolding requests.accept
accept_kept P is p d id transfer before = (accept_from_kept P is transfer.start p d id transfer before).devices

-- ---- calls

checked_done : (P : Devices → Type 0) (checks : List Check) (p : DevParts) (effect : DevDone) → P p.table → Done P effect → Done P (calls.device_checked checks p effect)
checked_done P checks p effect before after = refused_done P (first_error checks) p effect before after

open_kept : (P : Devices → Type 0) → IsMoveProof P → (p : DevParts) (d : ℕ) (mode : OpenMode) → P p.table → Done P (calls.open_device p d mode)
unfolding calls.open_device
open_kept P is p d mode before =
    let opened : Devices = with_open p.table (free_descriptor p.table) (calls.opened_for d mode) in
    checked_done P (calls.open_checks p.table d mode) p (calls.answers (requests.with_table p opened) (pos (free_descriptor p.table))) before
    (record { devices = is.opens p.table (free_descriptor p.table) (calls.opened_for d mode) before })

refer_kept : (P : Devices → Type 0) → IsMoveProof P → (p : DevParts) (d : ℕ) → P p.table → Done P (calls.refer_device p d)
unfolding calls.refer_device
refer_kept P is p d before = checked_done P ((is_some (link_at p.table d) otherwise er.NoExs) ∷ []) p (calls.answers p (pos d)) before (record { devices = before })

ends_or_waits : (P : Devices → Type 0) (p : DevParts) (t object : ℕ) (timeout : ℤ) (dv : Devices) → P p.table → P dv → Done P (calls.waits_or_ends p t object timeout dv)
ends_or_waits P p t object timeout dv before after =
    either_done P (int_eq timeout (pos 0)) (record { parts = p; outcome = failed er.TmOut }) (calls.waits p t object timeout dv) (record { devices = before }) (record { devices = after })

requested_kept : (P : Devices → Type 0) → IsMoveProof P → (p : DevParts) (t d : ℕ) (transfer : Transfer) (timeout : ℤ) → P p.table → Done P (calls.requested p t d transfer timeout)
requested_kept P is p t d transfer timeout before =
    either_done P (requests.has_place p.table d) (calls.answers (requests.accept p d (free_request p.table) transfer) (pos (free_request p.table)))
    (calls.waits_or_ends p t (requests.acceptance_object d) timeout (with_wish p.table t (wish.Acceptance transfer false)))
    (record { devices = accept_kept P is p d (free_request p.table) transfer before })
    (ends_or_waits P p t (requests.acceptance_object d) timeout (with_wish p.table t (wish.Acceptance transfer false)) before (is.wishes p.table t (wish.Acceptance transfer false) before))

request_kept : (P : Devices → Type 0) → IsMoveProof P → (p : DevParts) (who : Who) (write : Bool) (descriptor start address size timeout : ℤ) → P p.table → Done P (calls.request p who write descriptor start address size timeout)
unfolding calls.request
request_kept P is p who write descriptor start address size timeout before =
    let d : ℕ = calls.device_of p.table (natural descriptor) in
    let transfer : Transfer = calls.transfer_of descriptor write start address size in
    checked_done P (calls.request_checks p who descriptor write start address size timeout []) p (calls.requested p (caller who) d transfer timeout) before
    (requested_kept P is p (caller who) d transfer timeout before)

stayed_kept : (P : Devices → Type 0) → IsMoveProof P → (p : DevParts) (t d : ℕ) (transfer : Transfer) (start : Option ℕ) → P p.table → Done P (calls.stayed p t d transfer start)
stayed_kept P is p t d transfer (Some start) before = record { devices = is.wishes p.table t (wish.Acceptance transfer true) before }
stayed_kept P is p t d transfer None before =
    let id : ℕ = free_request p.table in
    either_done P (requests.has_place p.table d) (calls.claim (requests.accept p d id transfer) true id) (calls.stays p t d transfer)
    (record { devices = is.drops (requests.accept p d id transfer).table id (accept_kept P is p d id transfer before) })
    (record { devices = is.wishes p.table t (wish.Acceptance transfer true) before })

whole_kept : (P : Devices → Type 0) → IsMoveProof P → (p : DevParts) (who : Who) (write : Bool) (descriptor start address size : ℤ) → P p.table → Done P (calls.request_whole p who write descriptor start address size)
unfolding calls.request_whole
whole_kept P is p who write descriptor start address size before =
    let d : ℕ = calls.device_of p.table (natural descriptor) in
    let transfer : Transfer = calls.transfer_of descriptor write start address size in
    checked_done P (calls.request_checks p who descriptor write start address size (negsuc 0) ((not (calls.any_waits p (natural descriptor)) otherwise er.Obj) ∷ [])) p
    (calls.stayed p (caller who) d transfer (calls.start_of start)) before
    (stayed_kept P is p (caller who) d transfer (calls.start_of start) before)

waited_kept : (P : Devices → Type 0) → IsMoveProof P → (p : DevParts) (t dd : ℕ) (timeout : ℤ) (asked_for : Wish) (picked : Option ℕ) → P p.table → Done P (calls.ending_waited p t dd timeout asked_for picked)
waited_kept P is p t dd timeout asked_for (Some id) before = record { devices = is.drops p.table id before }
waited_kept P is p t dd timeout asked_for None before =
    ends_or_waits P p t (requests.ending_object dd) timeout (with_wish p.table t asked_for) before (is.wishes p.table t asked_for before)

wait_kept : (P : Devices → Type 0) → IsMoveProof P → (p : DevParts) (who : Who) (descriptor id timeout : ℤ) → P p.table → Done P (calls.wait_ending p who descriptor id timeout)
unfolding calls.wait_ending
wait_kept P is p who descriptor id timeout before =
    let asked_for : Wish = calls.ending_wish p.table (natural id) in
    checked_done P (calls.wait_checks p who descriptor id timeout) p (calls.waited p (caller who) (natural descriptor) timeout asked_for) before
    (waited_kept P is p (caller who) (natural descriptor) timeout asked_for (requests.picked p.table (natural descriptor) asked_for) before)

dropped_kept : (P : Devices → Type 0) → IsMoveProof P → (dd : ℕ) (dv : Devices) → P dv → P (calls.requests_dropped dv dd)
dropped_kept P is dd dv before = each_kept P (calls.dropped_if dd) (λ now id kept. either_table P _ _ _ (is.drops now id kept) kept) (taken_from 1 (drop 1 dv.rows)) dv before

closed_kept : (P : Devices → Type 0) → IsMoveProof P → (begun : Bool) (p : DevParts) (t dd : ℕ) → P p.table → Done P (calls.closed_or_begun begun p t dd)
closed_kept P is false p t dd before = record { devices = is.opens p.table dd None before }
closed_kept P is true p t dd before = record { devices = is.asks _ _ (is.opens p.table dd _ before) }

close_kept : (P : Devices → Type 0) → IsMoveProof P → (p : DevParts) (who : Who) (descriptor : ℤ) → P p.table → Done P (calls.close_device p who descriptor)
unfolding calls.close_device
close_kept P is p who descriptor before =
    let dd : ℕ = natural descriptor in
    checked_done P (calls.close_checks p who descriptor) p (calls.closed_or_begun (servings.is_with_driver p.table dd) (calls.without_requests p dd) (caller who) dd) before
    (closed_kept P is (servings.is_with_driver p.table dd) (calls.without_requests p dd) (caller who) dd (dropped_kept P is dd p.table before))

post_table : (p : DevParts) (sent : Option MailParts) → (suspension.after_post p sent).table ≡ p.table
post_table p None = refl
post_table p (Some parts) = refl

sent_table : (type : ℕ) (ids : List ℕ) (p : DevParts) → (fold (suspension.event_sent type) p ids).table ≡ p.table
sent_table type [] p = refl
sent_table type (d ∷ ids) p = sent_table type ids (suspension.event_sent type p d) ∙ post_table p _

-- the events of a suspension leave the devices as they are
pub events_table : (p : DevParts) → (suspension.events_sent p).table ≡ p.table
unfolding suspension.events_sent
events_table p = sent_table 2 (device_ids p.table) _ ∙ sent_table 1 (reverse (device_ids p.table)) p

suspended_kept : (P : Devices → Type 0) → IsMoveProof P → (given : Bool) (p : DevParts) (t : ℕ) → P p.table → Done P (calls.suspended given p t)
suspended_kept P is false p t before = record { devices = subst P (sym (events_table p)) before }
suspended_kept P is true p t before = record { devices = before }

counted_kept : (P : Devices → Type 0) → IsMoveProof P → (p : DevParts) (off : ℕ) → P p.table → Done P (calls.counted p off)
counted_kept P is p off before = record { devices = is.offs p.table off before }

effect_kept : (P : Devices → Type 0) → IsMoveProof P → (p : DevParts) (t : ℕ) (mode : SuspendMode) → P p.table → Done P (calls.suspend_effect p t mode)
effect_kept P is p t mode before =
    let off : ℕ = p.table.off in
    let enabled : DevDone = if mode.td_enasus then calls.counted p (off - 1) else calls.counted p off in
    let changed : DevDone = if mode.td_dissus then calls.counted p (off + 1) else enabled in
    either_done P mode.td_suspend (calls.suspended (handing.any_given p.table) p t) changed
    (suspended_kept P is (handing.any_given p.table) p t before)
    (either_done P mode.td_dissus (calls.counted p (off + 1)) enabled (counted_kept P is p (off + 1) before)
    (either_done P mode.td_enasus (calls.counted p (off - 1)) (calls.counted p off) (counted_kept P is p (off - 1) before) (counted_kept P is p off before)))

suspend_kept : (P : Devices → Type 0) → IsMoveProof P → (p : DevParts) (who : Who) (mode : SuspendMode) → P p.table → Done P (calls.suspend_devices p who mode)
unfolding calls.suspend_devices
suspend_kept P is p who mode before =
    checked_done P (calls.suspend_checks p who mode) p (calls.suspend_effect p (caller who) mode) before (effect_kept P is p (caller who) mode before)

call_kept : (P : Devices → Type 0) → IsMoveProof P → (p : DevParts) (who : Who) (c : DeviceCall) → P p.table → Done P (calls.device_call p who c)
unfolding calls.device_call
call_kept P is p who (call.OpnDev device mode) before = open_kept P is p device mode before
call_kept P is p who (call.ReaDev descriptor start address size timeout) before = request_kept P is p who false descriptor start address size timeout before
call_kept P is p who (call.WriDev descriptor start address size timeout) before = request_kept P is p who true descriptor start address size timeout before
call_kept P is p who (call.SreaDev descriptor start address size) before = whole_kept P is p who false descriptor start address size before
call_kept P is p who (call.SwriDev descriptor start address size) before = whole_kept P is p who true descriptor start address size before
call_kept P is p who (call.WaiDev descriptor id timeout) before = wait_kept P is p who descriptor id timeout before
call_kept P is p who (call.ClsDev descriptor) before = close_kept P is p who descriptor before
call_kept P is p who (call.SusDev mode) before = suspend_kept P is p who mode before
call_kept P is p who (call.RefDev device) before = refer_kept P is p device before

-- what each move keeps, each call keeps
pub calls_keep : (P : Devices → Type 0) → IsMoveProof P → (p : DevParts) (who : Who) (c : DeviceCall) → P p.table → P (calls.device_call p who c).parts.table
calls_keep P is p who c before = (call_kept P is p who c before).devices

-- ---- servings

or_kept : (P : Devices → Type 0) (first later : Option DevParts) → Kept P first → Kept P later → Kept P (option_or first later)
or_kept P None later first then_kept = then_kept
or_kept P (Some q) later first then_kept = first

-- what each serving of a kind keeps, the first that there is keeps
first_kept : (P : Devices → Type 0) (serve : ℕ → Option DevParts) → ((id : ℕ) → Kept P (serve id)) → (ids : List ℕ) → Kept P (first_serving serve ids)
unfolding first_serving
first_kept P serve each [] = tt
first_kept P serve each (id ∷ ids) = or_kept P (serve id) (first_serving serve ids) (each id) (first_kept P serve each ids)

after_kept : (P : Devices → Type 0) → IsMoveProof P → (stays : Bool) (p : DevParts) (t dd id serial : ℕ) → P p.table → P (servings.after_acceptance p t dd id serial stays).table
after_kept P is true p t dd id serial before = is.wishes p.table t _ before
after_kept P is false p t dd id serial before = before

admitted_kept : (P : Devices → Type 0) → IsMoveProof P → (p : DevParts) (d t : ℕ) (transfer : Transfer) (stays : Bool) (id : ℕ) → P p.table → P (servings.admitted p d t transfer stays id).table
admitted_kept P is p d t transfer stays zero before = before
admitted_kept P is p d t transfer stays (suc id) before = after_kept P is stays (requests.accept p d (suc id) transfer) t transfer.descriptor (suc id) p.table.serial (accept_kept P is p d (suc id) transfer before)

wish_kept : (P : Devices → Type 0) → IsMoveProof P → (p : DevParts) (d t : ℕ) (asked_for : Wish) → P p.table → Kept P (servings.admitted_wish p d t asked_for)
wish_kept P is p d t (wish.Acceptance transfer stays) before = admitted_kept P is p d t transfer stays (free_request p.table) before
wish_kept P is p d t wish.Nothing before = tt
wish_kept P is p d t (wish.Ending id serial own) before = tt
wish_kept P is p d t wish.AnyEnding before = tt

if_kept : (P : Devices → Type 0) → IsMoveProof P → (place : Bool) (p : DevParts) (d t : ℕ) → P p.table → Kept P (servings.admitted_if place p d t)
if_kept P is false p d t before = tt
if_kept P is true p d t before = wish_kept P is p d t (wish_of p.table t) before

acceptance_kept : (P : Devices → Type 0) → IsMoveProof P → (p : DevParts) (d : ℕ) (waiters : List ℕ) → P p.table → Kept P (servings.acceptance_by p d waiters)
acceptance_kept P is p d [] before = tt
acceptance_kept P is p d (t ∷ ts) before = if_kept P is (requests.has_place p.table d) p d t before

pub acceptances_keep : (P : Devices → Type 0) → IsMoveProof P → (p : DevParts) → P p.table → Kept P (servings.serve_acceptances p)
unfolding servings.serve_acceptances servings.serve_acceptance
acceptances_keep P is p before = first_kept P _ (λ d. acceptance_kept P is p d _ before) _

claimed_kept : (P : Devices → Type 0) → IsMoveProof P → (p : DevParts) (t : ℕ) (picked : Option ℕ) → P p.table → Kept P (servings.ending_claimed p t picked)
claimed_kept P is p t None before = tt
claimed_kept P is p t (Some id) before = is.drops p.table id before

ending_kept : (P : Devices → Type 0) → IsMoveProof P → (p : DevParts) (dd : ℕ) (first : Option ℕ) → P p.table → Kept P (servings.ending_of_first p dd first)
ending_kept P is p dd None before = tt
ending_kept P is p dd (Some t) before = claimed_kept P is p t _ before

pub endings_keep : (P : Devices → Type 0) → IsMoveProof P → (p : DevParts) → P p.table → Kept P (servings.serve_endings p)
unfolding servings.serve_endings servings.serve_ending
endings_keep P is p before = first_kept P _ (λ dd. ending_kept P is p dd _ before) _

unless_kept : (P : Devices → Type 0) → IsMoveProof P → (busy : Bool) (p : DevParts) (dd t : ℕ) → P p.table → Kept P (servings.closed_unless busy p dd t)
unless_kept P is true p dd t before = tt
unless_kept P is false p dd t before = is.opens p.table dd None before

close_by_kept : (P : Devices → Type 0) → IsMoveProof P → (p : DevParts) (dd : ℕ) (waiters : List ℕ) → P p.table → Kept P (servings.close_by p dd waiters)
close_by_kept P is p dd [] before = tt
close_by_kept P is p dd (t ∷ ts) before = unless_kept P is _ p dd t before

pub closes_keep : (P : Devices → Type 0) → IsMoveProof P → (p : DevParts) → P p.table → Kept P (servings.serve_closes p)
unfolding servings.serve_closes servings.serve_close
closes_keep P is p before = first_kept P _ (λ dd. close_by_kept P is p dd _ before) _

suspended_unless_kept : (P : Devices → Type 0) (given : Bool) (p : DevParts) (t : ℕ) → P p.table → Kept P (servings.suspended_unless given p t)
suspended_unless_kept P true p t before = tt
suspended_unless_kept P false p t before = subst P (sym (events_table _)) before

suspension_by_kept : (P : Devices → Type 0) (p : DevParts) (waiters : List ℕ) → P p.table → Kept P (servings.suspension_by p waiters)
suspension_by_kept P p [] before = tt
suspension_by_kept P p (t ∷ ts) before = suspended_unless_kept P _ p t before

pub suspension_keeps : (P : Devices → Type 0) → (p : DevParts) → P p.table → Kept P (servings.serve_suspension p)
unfolding servings.serve_suspension
suspension_keeps P p before = suspension_by_kept P p _ before

-- ---- requests that go to drivers

handed_unless_kept : (P : Devices → Type 0) → IsMoveProof P → (waiters : List ℕ) (dv : Devices) → P dv → P (handing.handed_unless waiters dv)
handed_unless_kept P is [] dv before = each_kept P handed is.hands (device_ids dv) dv before
handed_unless_kept P is (t ∷ ts) dv before = before

pub hand_over_keeps : (P : Devices → Type 0) → IsMoveProof P → (b : Base) (dv : Devices) → P dv → P (handing.hand_over b dv)
unfolding handing.hand_over
hand_over_keeps P is b dv before = handed_unless_kept P is _ dv before

handed_one_kept : (P : Devices → Type 0) → IsMoveProof P → (first : Option ℕ) (dv : Devices) → P dv → P (handing.handed_one first dv)
handed_one_kept P is None dv before = before
handed_one_kept P is (Some d) dv before = is.hands dv d before

pub hand_first_keeps : (P : Devices → Type 0) → IsMoveProof P → (dv : Devices) → P dv → P (handing.hand_first dv)
unfolding handing.hand_first
hand_first_keeps P is dv before = handed_one_kept P is _ dv before

-- ---- endings that arrive

free_kept : (P : Devices → Type 0) → IsMoveProof P → (waiters : List ℕ) (dv : Devices) (dd : ℕ) → P dv → P (endings.free_unless waiters dv dd)
free_kept P is [] dv dd before = is.opens dv dd None before
free_kept P is (t ∷ ts) dv dd before = before

closed_after_kept : (P : Devices → Type 0) → IsMoveProof P → (b : Base) (dv : Devices) (id dd : ℕ) (slot : Option Opened) → P dv → P (endings.closed_after b dv id dd slot)
closed_after_kept P is b dv id dd None before = before
closed_after_kept P is b dv id dd (Some opened) before = either_table P opened.closing _ _ (free_kept P is _ _ dd (is.drops dv id before)) before

both : (one other : Bool) → (one && other) ≡ true → (one ≡ true) × (other ≡ true)
both true other is = (refl, is)
both false other is = absurd (cc is)

row_kept : (P : Devices → Type 0) → IsMoveProof P → IsArrivalProof P → (p : DevParts) (ending : Ending) (link : Link) (given : Given) →
    link_at p.table ending.device ≡ Some link → link.given ≡ Some given → endings.is_allowed link.kind link.store given ending.how ≡ true → P p.table →
    (slot : Option Row) → row_at p.table given.request.id ≡ slot →
    Kept P (endings.arrive_row p ending.device link given.request.id (endings.served_of link.kind link.store given.request ending.how) slot)
row_kept P is come p ending link given linked has fit before None there = tt
row_kept P is come p ending link given linked has fit before (Some row) there = by_life (is_at_driver row.life) refl
  where
    by_life : (away : Bool) → is_at_driver row.life ≡ away →
        Kept P (if away then Some (endings.landed p ending.device link given.request.id row (endings.served_of link.kind link.store given.request ending.how)) else None)
    by_life true away = closed_after_kept P is p.base _ given.request.id row.descriptor _ (come.arrives p.table ending.device link given row ending.how linked has there away fit before)
    by_life false away = tt

fit_kept : (P : Devices → Type 0) → IsMoveProof P → IsArrivalProof P → (p : DevParts) (ending : Ending) (link : Link) (given : Given) →
    link_at p.table ending.device ≡ Some link → link.given ≡ Some given → P p.table → (fit : Bool) → endings.is_fit ending link given ≡ fit →
    Kept P (endings.arrive_fit fit p ending link given)
fit_kept P is come p ending link given linked has before false fit = tt
fit_kept P is come p ending link given linked has before true fit = row_kept P is come p ending link given linked has (both (endings.is_allowed link.kind link.store given ending.how) (endings.says ending given.request (endings.served_of link.kind link.store given.request ending.how)) fit).0 before (row_at p.table given.request.id) refl

given_kept : (P : Devices → Type 0) → IsMoveProof P → IsArrivalProof P → (p : DevParts) (ending : Ending) (link : Link) →
    link_at p.table ending.device ≡ Some link → P p.table → (given : Option Given) → link.given ≡ given → Kept P (endings.arrive_given p ending link given)
given_kept P is come p ending link linked before None has = tt
given_kept P is come p ending link linked before (Some given) has = fit_kept P is come p ending link given linked has before (endings.is_fit ending link given) refl

link_kept : (P : Devices → Type 0) → IsMoveProof P → IsArrivalProof P → (p : DevParts) (ending : Ending) → P p.table →
    (link : Option Link) → link_at p.table ending.device ≡ link → Kept P (endings.arrive_link p ending link)
link_kept P is come p ending before None linked = tt
link_kept P is come p ending before (Some link) linked = given_kept P is come p ending link linked before link.given refl

-- an ending that arrives
pub arrival_keeps : (P : Devices → Type 0) → IsMoveProof P → IsArrivalProof P → (p : DevParts) (ending : Ending) → P p.table → Kept P (endings.arrive p ending)
unfolding endings.arrive
arrival_keeps P is come p ending before = link_kept P is come p ending before (link_at p.table ending.device) refl
