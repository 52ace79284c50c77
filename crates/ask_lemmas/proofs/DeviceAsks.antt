-- Every call on devices leaves what the tasks that wait have asked for: whoever waits for a device asks for nothing of a buffer or
-- a pool.
use Rattle.std.proofs.Common.{◌≡◌, ℕ, ◌≤◌, Bool, true, false, not, cond, List, [], ◌∷◌, Option, Some, None, refl, sym, subst, arith, ℤ, pos, negsuc}
use Rattle.std.specs.Prelude.{filter, fold}
use Rattle.std.specs.Option.{is_some}
use Rattle.std.specs.Ordering.{int_eq}
use Rattle.tk_types.specs.declared.answer.Who.{Who}
use Rattle.tk_types.specs.declared.calls.DeviceCall.{DeviceCall}
use Rattle.tk_types.specs.declared.calls.DeviceCall.TheVariants as call
use Rattle.tk_types.specs.declared.error_code.Er.{Er}
use Rattle.tk_types.specs.declared.error_code.Er.TheVariants as er
use Rattle.tk_types.specs.declared.modes.SuspendMode.{SuspendMode}
use Rattle.tk_types.specs.declared.task.Order.TheVariants.{Fifo}
use Rattle.tk_types.specs.Codes.{code_of}
use Rattle.kernel_model.specs.Words.Checks.{Check, ◌otherwise◌, first_error, natural, plain}
use Rattle.kernel_model.specs.Tasks.Base.{Base, make_wait}
use Rattle.kernel_model.specs.Tasks.Calls.{caller}
use Rattle.object_model.specs.Mails.Tables.{Mails}
use Rattle.device_model.specs.declared.rows.Opened.{Opened}
use Rattle.device_model.specs.declared.rows.Transfer.{Transfer}
use Rattle.device_model.specs.declared.rows.Wish.{Wish}
use Rattle.device_model.specs.declared.rows.Wish.TheVariants as wish
use Rattle.device_model.specs.Devices.Tables.{Devices, asked, free_request, link_at, opened_at, with_open, with_wish}
use Rattle.device_model.specs.Devices.Handing.{any_given, suspension_object}
use Rattle.device_model.specs.Devices.Endings.{DevParts, close_object}
use Rattle.device_model.specs.Devices.Requests as requests
use Rattle.device_model.specs.Devices.Requests.{acceptance_object, ending_object}
use Rattle.device_model.specs.Devices.Servings.{is_with_driver}
use Rattle.device_model.specs.Devices.Suspension as suspension
use Rattle.device_model.specs.Devices.Suspension.{events_sent}
use Rattle.device_model.specs.Devices.Calls as calls
use Rattle.device_model.specs.Devices.Calls.{DevDone}
use Rattle.call_lemmas.proofs.Checked.{holds_at}
use Rattle.machine_lemmas.proofs.Changes.{Survives, no_moves}
use Rattle.machine_lemmas.proofs.DeviceServings.{accept_leaves, events_sending}
use Rattle.machine_lemmas.proofs.KnownDevices.{AreKnown, OpenFits}
use Rattle.ask_lemmas.proofs.Asked.{Asked, Quietly, asked_quietly, quiet_high}
use Rattle.ask_lemmas.proofs.Asks.{AllAsk, Asks, move_asks, release_asks, wait_asks}
use Rattle.ask_lemmas.proofs.MailAsks.{MailHolds, then_holds}
use Rattle.ask_lemmas.proofs.Passing.{accept_passes, events_pass}

-- ends of waits leave what was asked for, and so do moves to the ending of a descriptor
pub asks_survive : (asks : Asks) → Quietly asks → (may : ℕ → Type 0) → Survives may (AllAsk asks)
asks_survive asks quiet may = record {
  released = λ b t object answer above waits all. release_asks asks b t answer all;
  moved = λ b t d dd least most moves waits all. move_asks asks b t (ending_object dd) Fifo (quiet t (ending_object dd) (quiet_high (ending_object dd) (omega arith))) all;
  given = λ b n all. all;
}

-- what holds of the base, the table of mailboxes and message buffers, and the script's memory beside devices
abbrev pub BesideHolds : List ℕ → DevParts → Type 0
BesideHolds sizes p = MailHolds sizes p.mails p.base p.memory

abbrev DoneHolds : List ℕ → DevDone → Type 0
DoneHolds sizes done = BesideHolds sizes done.parts

based : (sizes : List ℕ) (p : DevParts) (b : Base) → BesideHolds sizes p → AllAsk (Asked p.mails sizes) b → MailHolds sizes p.mails b p.memory
based sizes p b has asks = record { asks = asks; sending = has.sending; into = has.into; long = has.long }

refused_holds : (sizes : List ℕ) (error : Option Er) (p : DevParts) (effect : DevDone) → BesideHolds sizes p → (error ≡ None → DoneHolds sizes effect) →
    DoneHolds sizes (calls.refused_with error p effect)
refused_holds sizes (Some error) p effect has works = has
refused_holds sizes None p effect has works = works refl

checked_holds : (sizes : List ℕ) (checks : List Check) (p : DevParts) (effect : DevDone) → BesideHolds sizes p → (first_error checks ≡ None → DoneHolds sizes effect) →
    DoneHolds sizes (calls.device_checked checks p effect)
checked_holds sizes checks p effect has works = refused_holds sizes (first_error checks) p effect has works

either_holds : (sizes : List ℕ) (test : Bool) (one other : DevDone) → DoneHolds sizes one → DoneHolds sizes other → DoneHolds sizes (cond {A = DevDone} test one other)
either_holds sizes true one other first second = first
either_holds sizes false one other first second = second

-- ---- waits

waits_hold : (sizes : List ℕ) (p : DevParts) (t object : ℕ) (timeout : ℤ) (dv : Devices) → 576 ≤ object → BesideHolds sizes p → DoneHolds sizes (calls.waits p t object timeout dv)
waits_hold sizes p t object timeout dv least has =
    based sizes p (make_wait p.base t object Fifo timeout) has
    (wait_asks (Asked p.mails sizes) p.base t object Fifo timeout (asked_quietly p.mails sizes t object (quiet_high object least)) has.asks)

waits_or_ends_hold : (sizes : List ℕ) (p : DevParts) (t object : ℕ) (timeout : ℤ) (dv : Devices) → 576 ≤ object → BesideHolds sizes p →
    DoneHolds sizes (calls.waits_or_ends p t object timeout dv)
waits_or_ends_hold sizes p t object timeout dv least has = either_holds sizes (int_eq timeout (pos 0)) _ _ has (waits_hold sizes p t object timeout dv least has)

-- ---- requests

accept_holds : (sizes : List ℕ) (p : DevParts) (d id : ℕ) (transfer : Transfer) → BesideHolds sizes p → BesideHolds sizes (requests.accept p d id transfer)
accept_holds sizes p d id transfer has =
    let leaves = accept_leaves p d id transfer in
    let passes = accept_passes p d id transfer in
    let q : DevParts = requests.accept p d id transfer in
    subst (λ (b : Base). MailHolds sizes q.mails b q.memory) (sym leaves.base)
    (subst (λ (m : Mails). MailHolds sizes m p.base q.memory) (sym leaves.mails)
    (record { asks = has.asks; sending = has.sending; into = has.into; long = passes.long has.long }))

device_fits : (slot : Option Opened) → OpenFits slot → calls.stays_open slot ≡ true → 1 ≤ calls.device_in slot
device_fits None fits on = absurd (cc on)
device_fits (Some opened) fits on = fits.0

requested_holds : (sizes : List ℕ) (p : DevParts) (t d : ℕ) (transfer : Transfer) (timeout : ℤ) → 1 ≤ d → BesideHolds sizes p →
    DoneHolds sizes (calls.requested p t d transfer timeout)
requested_holds sizes p t d transfer timeout least has =
    either_holds sizes (requests.has_place p.table d) _ _ (accept_holds sizes p d (free_request p.table) transfer has)
    (waits_or_ends_hold sizes p t (acceptance_object d) timeout (with_wish p.table t (wish.Acceptance transfer false)) (omega (arith, least)) has)

request_holds : (sizes : List ℕ) (p : DevParts) (who : Who) (write : Bool) (descriptor start address size timeout : ℤ) → AreKnown p.table → BesideHolds sizes p →
    DoneHolds sizes (calls.request p who write descriptor start address size timeout)
unfolding calls.request
request_holds sizes p who write descriptor start address size timeout known has =
    let checks : List Check = calls.request_checks p who descriptor write start address size timeout [] in
    checked_holds sizes checks p _ has
    (λ none.
    let device = device_fits (opened_at p.table (natural descriptor)) (known.opened (natural descriptor)) (holds_at 5 checks none) in
    requested_holds sizes p (caller who) (calls.device_of p.table (natural descriptor)) (calls.transfer_of descriptor write start address size) timeout device has)

stays_hold : (sizes : List ℕ) (p : DevParts) (t d : ℕ) (transfer : Transfer) → 1 ≤ d → BesideHolds sizes p → DoneHolds sizes (calls.stays p t d transfer)
stays_hold sizes p t d transfer least has =
    waits_hold sizes p t (acceptance_object d) (negsuc 0) (with_wish p.table t (wish.Acceptance transfer true)) (omega (arith, least)) has

stayed_holds : (sizes : List ℕ) (p : DevParts) (t d : ℕ) (transfer : Transfer) (start : Option ℕ) → 1 ≤ d → BesideHolds sizes p →
    DoneHolds sizes (calls.stayed p t d transfer start)
stayed_holds sizes p t d transfer (Some start) least has = stays_hold sizes p t d transfer least has
stayed_holds sizes p t d transfer None least has =
    let id : ℕ = free_request p.table in
    either_holds sizes (requests.has_place p.table d) (calls.claim (requests.accept p d id transfer) true id) (calls.stays p t d transfer)
    (accept_holds sizes p d id transfer has) (stays_hold sizes p t d transfer least has)

whole_holds : (sizes : List ℕ) (p : DevParts) (who : Who) (write : Bool) (descriptor start address size : ℤ) → AreKnown p.table → BesideHolds sizes p →
    DoneHolds sizes (calls.request_whole p who write descriptor start address size)
unfolding calls.request_whole
whole_holds sizes p who write descriptor start address size known has =
    let checks : List Check = calls.request_checks p who descriptor write start address size (negsuc 0) ((not (calls.any_waits p (natural descriptor)) otherwise er.Obj) ∷ []) in
    checked_holds sizes checks p _ has
    (λ none.
    let device = device_fits (opened_at p.table (natural descriptor)) (known.opened (natural descriptor)) (holds_at 5 checks none) in
    stayed_holds sizes p (caller who) (calls.device_of p.table (natural descriptor)) (calls.transfer_of descriptor write start address size)
    (calls.start_of start) device has)

-- ---- endings

ending_holds : (sizes : List ℕ) (p : DevParts) (t dd : ℕ) (timeout : ℤ) (asked_for : Wish) (picked : Option ℕ) → BesideHolds sizes p →
    DoneHolds sizes (calls.ending_waited p t dd timeout asked_for picked)
ending_holds sizes p t dd timeout asked_for (Some id) has = has
ending_holds sizes p t dd timeout asked_for None has =
    waits_or_ends_hold sizes p t (ending_object dd) timeout (with_wish p.table t asked_for) (omega arith) has

wait_ending_holds : (sizes : List ℕ) (p : DevParts) (who : Who) (descriptor id timeout : ℤ) → BesideHolds sizes p → DoneHolds sizes (calls.wait_ending p who descriptor id timeout)
unfolding calls.wait_ending
wait_ending_holds sizes p who descriptor id timeout has =
    checked_holds sizes (calls.wait_checks p who descriptor id timeout) p _ has
    (λ none. ending_holds sizes p (caller who) (natural descriptor) timeout (calls.ending_wish p.table (natural id))
    (requests.picked p.table (natural descriptor) (calls.ending_wish p.table (natural id))) has)

-- ---- closing

aborted_asks : (asks : Asks) (ids : List ℕ) (b : Base) → AllAsk asks b → AllAsk asks (fold calls.aborted b ids)
aborted_asks asks [] b all = all
aborted_asks asks (t ∷ ids) b all = aborted_asks asks ids (calls.aborted b t) (release_asks asks b t (plain (code_of er.Abort)) all)

begun_holds : (sizes : List ℕ) (begun : Bool) (p : DevParts) (t dd : ℕ) → BesideHolds sizes p → DoneHolds sizes (calls.closed_or_begun begun p t dd)
begun_holds sizes false p t dd has = has
begun_holds sizes true p t dd has =
    let dv : Devices = with_open p.table dd (calls.now_closing (opened_at p.table dd)) in
    let d : ℕ = calls.device_of p.table dd in
    waits_hold sizes p t (close_object dd) (negsuc 0) (asked dv d) (omega arith) has

close_holds : (sizes : List ℕ) (p : DevParts) (who : Who) (descriptor : ℤ) → BesideHolds sizes p → DoneHolds sizes (calls.close_device p who descriptor)
unfolding calls.close_device
close_holds sizes p who descriptor has =
    let dd : ℕ = natural descriptor in
    checked_holds sizes (calls.close_checks p who descriptor) p _ has
    (λ none. begun_holds sizes (is_with_driver p.table dd) (calls.without_requests p dd) (caller who) dd
    (based sizes p (calls.waits_aborted p dd) has (aborted_asks (Asked p.mails sizes) (filter (calls.waits_on p dd) p.base.since) p.base has.asks)))

-- ---- suspension

-- the events of a suspension
pub events_hold : (sizes : List ℕ) (p : DevParts) → BesideHolds sizes p → BesideHolds sizes (events_sent p)
events_hold sizes p has =
    let passes = events_pass p in
    then_holds sizes (suspension.mail_parts p) (events_sent p).mails (events_sent p).base (events_sent p).memory passes.alike has
    ((events_sending p).changes.keeps (AllAsk (Asked p.mails sizes)) (asks_survive (Asked p.mails sizes) (asked_quietly p.mails sizes) no_moves) has.asks)
    (passes.long has.long)

suspended_holds : (sizes : List ℕ) (given : Bool) (p : DevParts) (t : ℕ) → BesideHolds sizes p → DoneHolds sizes (calls.suspended given p t)
suspended_holds sizes false p t has = events_hold sizes p has
suspended_holds sizes true p t has = waits_hold sizes p t suspension_object (negsuc 0) p.table (omega arith) has

effect_holds : (sizes : List ℕ) (p : DevParts) (t : ℕ) (mode : SuspendMode) → BesideHolds sizes p → DoneHolds sizes (calls.suspend_effect p t mode)
effect_holds sizes p t mode has =
    either_holds sizes mode.td_suspend _ _ (suspended_holds sizes (any_given p.table) p t has)
    (either_holds sizes mode.td_dissus _ _ has (either_holds sizes mode.td_enasus _ _ has has))

suspend_holds : (sizes : List ℕ) (p : DevParts) (who : Who) (mode : SuspendMode) → BesideHolds sizes p → DoneHolds sizes (calls.suspend_devices p who mode)
unfolding calls.suspend_devices
suspend_holds sizes p who mode has = checked_holds sizes (calls.suspend_checks p who mode) p _ has (λ none. effect_holds sizes p (caller who) mode has)

-- every call on devices
pub device_calls_hold : (sizes : List ℕ) (p : DevParts) (who : Who) (c : DeviceCall) → AreKnown p.table → BesideHolds sizes p →
    BesideHolds sizes (calls.device_call p who c).parts
unfolding calls.device_call calls.open_device calls.refer_device
device_calls_hold sizes p who (call.OpnDev device mode) known has = checked_holds sizes (calls.open_checks p.table device mode) p _ has (λ none. has)
device_calls_hold sizes p who (call.ReaDev descriptor start address size timeout) known has = request_holds sizes p who false descriptor start address size timeout known has
device_calls_hold sizes p who (call.WriDev descriptor start address size timeout) known has = request_holds sizes p who true descriptor start address size timeout known has
device_calls_hold sizes p who (call.SreaDev descriptor start address size) known has = whole_holds sizes p who false descriptor start address size known has
device_calls_hold sizes p who (call.SwriDev descriptor start address size) known has = whole_holds sizes p who true descriptor start address size known has
device_calls_hold sizes p who (call.WaiDev descriptor id timeout) known has = wait_ending_holds sizes p who descriptor id timeout has
device_calls_hold sizes p who (call.ClsDev descriptor) known has = close_holds sizes p who descriptor has
device_calls_hold sizes p who (call.SusDev mode) known has = suspend_holds sizes p who mode has
device_calls_hold sizes p who (call.RefDev device) known has = checked_holds sizes ((is_some (link_at p.table device) otherwise er.NoExs) ∷ []) p _ has (λ none. has)
