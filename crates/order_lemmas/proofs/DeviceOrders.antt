-- Every call on devices leaves the tasks that wait in the order of what they wait for, and knows what is opened and wished for:
-- the number of each object that a task waits for is one of those for devices.
use Rattle.std.proofs.Common.{◌≡◌, ℕ, suc, zero, ◌+◌, ◌-◌, ◌≤◌, ◌<◌, length, Bool, true, false, not, cond, List, [], ◌∷◌, Option, Some, None, refl, ap, sym, subst, arith, ℤ, pos, negsuc}
use Rattle.std.specs.Bool.{◌==◌}
use Rattle.std.specs.Prelude.{drop, filter, fold, nat_lt}
use Rattle.std.specs.Option.{is_some}
use Rattle.std.specs.Ordering.{int_eq}
use Rattle.tk_types.specs.declared.answer.Who.{Who}
use Rattle.tk_types.specs.declared.calls.DeviceCall.{DeviceCall}
use Rattle.tk_types.specs.declared.calls.DeviceCall.TheVariants as call
use Rattle.tk_types.specs.declared.error_code.Er.{Er}
use Rattle.tk_types.specs.declared.error_code.Er.TheVariants as er
use Rattle.tk_types.specs.declared.modes.OpenMode.{OpenMode}
use Rattle.tk_types.specs.declared.modes.SuspendMode.{SuspendMode}
use Rattle.tk_types.specs.declared.task.Order.{Order}
use Rattle.tk_types.specs.declared.task.Order.TheVariants.{Fifo}
use Rattle.tk_types.specs.Codes.{code_of}
use Rattle.kernel_model.specs.Words.Checks.{Check, ◌otherwise◌, first_error, natural, plain}
use Rattle.kernel_model.specs.Words.Orders.{taken_from}
use Rattle.kernel_model.specs.Tasks.Base.{Base}
use Rattle.kernel_model.specs.Tasks.Calls.{caller}
use Rattle.kernel_model.specs.SemFlags.Orders.{sem_flag_order}
use Rattle.object_model.specs.Mutexes.Orders.{mutex_order}
use Rattle.object_model.specs.Mails.Tables.{Mails}
use Rattle.object_model.specs.Mails.Orders.{mail_order}
use Rattle.object_model.specs.Pools.Orders.{pool_order}
use Rattle.device_model.specs.declared.rows.Opened.{Opened}
use Rattle.device_model.specs.declared.rows.Transfer.{Transfer}
use Rattle.device_model.specs.declared.rows.Wish.{Wish}
use Rattle.device_model.specs.declared.rows.Wish.TheVariants as wish
use Rattle.device_model.specs.Devices.Orders.{device_order}
use Rattle.device_model.specs.Devices.Tables.{Devices, Link, asked, dropped, free_request, link_at, opened_at, row_at, with_open, with_wish}
use Rattle.device_model.specs.Devices.Handing.{any_given, suspension_object}
use Rattle.device_model.specs.Devices.Endings.{DevParts, close_object}
use Rattle.device_model.specs.Devices.Requests as requests
use Rattle.device_model.specs.Devices.Requests.{acceptance_object, ending_object}
use Rattle.device_model.specs.Devices.Servings.{is_of_descriptor, is_with_driver}
use Rattle.device_model.specs.Devices.Suspension.{events_sent}
use Rattle.device_model.specs.Devices.Calls as calls
use Rattle.device_model.specs.Devices.Calls.{DevDone}
use Rattle.machine_model.specs.States.Objects.{Objects}
use Rattle.machine_model.specs.States.Waits.{order_for, or_order}
use Rattle.kernel_lemmas.proofs.Tables.{entry_inside}
use Rattle.call_lemmas.proofs.Checked.{holds_at}
use Rattle.machine_lemmas.proofs.Changes.{Survives, no_moves}
use Rattle.machine_lemmas.proofs.DeviceServings.{Leaves, accept_leaves, events_sending}
use Rattle.machine_lemmas.proofs.KnownDevices.{AreKnown, OpenFits, WishFits, asked_beside, beside_known, dropped_beside, open_known, wish_known}
use Rattle.order_lemmas.proofs.Rights.{AreRight, move_fits, release_fits, right_same, wait_fits}
use Rattle.order_lemmas.proofs.Ranges.{device_is, known_id}

-- the tasks that wait stand in order, and what is opened and wished for is known
pub record DevRight (o : Objects) (p : DevParts) : Type 0 where
  pub orders : AreRight (order_for (record o { mails = p.mails })) p.base
  pub known : AreKnown p.table

-- ends of waits keep the order, and moves to the ending of a descriptor
pub right_survives : (o : Objects) (may : ℕ → Type 0) → ((dd : ℕ) → may dd → dd ≤ 32) → Survives may (AreRight (order_for o))
right_survives o may few = record {
  released = λ b t object answer above waits all. release_fits (order_for o) b t answer all;
  moved = λ b t d dd least most moves waits all. let last : dd ≤ 32 = few dd moves in move_fits (order_for o) b t (ending_object dd) Fifo
      (device_is o (ending_object dd) (omega arith) (omega (arith, last))) all;
  given = λ b n all. all;
}

-- the orders of all objects stay where those of mailboxes and message buffers do
pub mails_same : (o : Objects) (m now : Mails) (object : ℕ) → mail_order now object ≡ mail_order m object →
    order_for (record o { mails = now }) object ≡ order_for (record o { mails = m }) object
mails_same o m now object same =
    ap (λ (x : Option Order). cond (nat_lt object 2) (Some Fifo) (or_order (sem_flag_order o.sem_flags object)
    (or_order (mutex_order o.mutexes object) (or_order x (or_order (pool_order o.pools object) (device_order object)))))) same

refused_fits : (o : Objects) (error : Option Er) (p : DevParts) (effect : DevDone) → DevRight o p → (error ≡ None → DevRight o effect.parts) →
    DevRight o (calls.refused_with error p effect).parts
refused_fits o (Some error) p effect has works = has
refused_fits o None p effect has works = works refl

checked_fits : (o : Objects) (checks : List Check) (p : DevParts) (effect : DevDone) → DevRight o p → (first_error checks ≡ None → DevRight o effect.parts) →
    DevRight o (calls.device_checked checks p effect).parts
checked_fits o checks p effect has works = refused_fits o (first_error checks) p effect has works

either_fits : (o : Objects) (test : Bool) (one other : DevDone) → DevRight o one.parts → DevRight o other.parts → DevRight o (cond {A = DevDone} test one other).parts
either_fits o true one other first second = first
either_fits o false one other first second = second

-- ---- waits

waits_fit : (o : Objects) (p : DevParts) (t object : ℕ) (timeout : ℤ) (dv : Devices) → 576 ≤ object → object ≤ 648 → AreKnown dv → DevRight o p →
    DevRight o (calls.waits p t object timeout dv).parts
waits_fit o p t object timeout dv least most known has = record {
  orders = wait_fits (order_for (record o { mails = p.mails })) p.base t object Fifo timeout (device_is (record o { mails = p.mails }) object least most) has.orders;
  known = known;
}

waits_or_ends_fit : (o : Objects) (p : DevParts) (t object : ℕ) (timeout : ℤ) (dv : Devices) → 576 ≤ object → object ≤ 648 → AreKnown dv → DevRight o p →
    DevRight o (calls.waits_or_ends p t object timeout dv).parts
waits_or_ends_fit o p t object timeout dv least most known has = either_fits o (int_eq timeout (pos 0)) _ _ has (waits_fit o p t object timeout dv least most known has)

-- ---- requests

leaves_fit : (o : Objects) (p q : DevParts) → Leaves p q → DevRight o p → DevRight o q
leaves_fit o p q leaves has = record {
  orders = subst (λ (b : Base). AreRight (order_for (record o { mails = q.mails })) b) (sym leaves.base)
      (subst (λ (m : Mails). AreRight (order_for (record o { mails = m })) p.base) (sym leaves.mails) has.orders);
  known = beside_known p.table q.table leaves.beside has.known;
}

accept_fits : (o : Objects) (p : DevParts) (d id : ℕ) (transfer : Transfer) → DevRight o p → DevRight o (requests.accept p d id transfer)
accept_fits o p d id transfer has = leaves_fit o p (requests.accept p d id transfer) (accept_leaves p d id transfer) has

claim_fits : (o : Objects) (p : DevParts) (own : Bool) (id : ℕ) → DevRight o p → DevRight o (calls.claim p own id).parts
claim_fits o p own id has = record { orders = has.orders; known = beside_known p.table (dropped p.table id) (dropped_beside p.table id) has.known }

device_fits : (slot : Option Opened) → OpenFits slot → calls.stays_open slot ≡ true → (1 ≤ calls.device_in slot) × (calls.device_in slot ≤ 8)
device_fits None fits on = absurd (cc on)
device_fits (Some opened) fits on = fits

requested_fits : (o : Objects) (p : DevParts) (t d : ℕ) (transfer : Transfer) (timeout : ℤ) → 1 ≤ d → d ≤ 8 → transfer.descriptor ≤ 32 → DevRight o p →
    DevRight o (calls.requested p t d transfer timeout).parts
requested_fits o p t d transfer timeout least most fits has =
    either_fits o (requests.has_place p.table d) _ _ (accept_fits o p d (free_request p.table) transfer has)
    (waits_or_ends_fit o p t (acceptance_object d) timeout (with_wish p.table t (wish.Acceptance transfer false)) (omega (arith, least)) (omega (arith, most))
    (wish_known p.table t (wish.Acceptance transfer false) fits has.known) has)

request_fits : (o : Objects) (p : DevParts) (who : Who) (write : Bool) (descriptor start address size timeout : ℤ) → DevRight o p →
    DevRight o (calls.request p who write descriptor start address size timeout).parts
unfolding calls.request
request_fits o p who write descriptor start address size timeout has =
    let checks : List Check = calls.request_checks p who descriptor write start address size timeout [] in
    checked_fits o checks p _ has
    (λ none. let known = known_id 32 descriptor (holds_at 0 checks none) in
    let device = device_fits (opened_at p.table (natural descriptor)) (has.known.opened (natural descriptor)) (holds_at 5 checks none) in
    requested_fits o p (caller who) (calls.device_of p.table (natural descriptor)) (calls.transfer_of descriptor write start address size) timeout device.0 device.1 known.1 has)

stays_fit : (o : Objects) (p : DevParts) (t d : ℕ) (transfer : Transfer) → 1 ≤ d → d ≤ 8 → transfer.descriptor ≤ 32 → DevRight o p → DevRight o (calls.stays p t d transfer).parts
stays_fit o p t d transfer least most fits has =
    waits_fit o p t (acceptance_object d) (negsuc 0) (with_wish p.table t (wish.Acceptance transfer true)) (omega (arith, least)) (omega (arith, most))
    (wish_known p.table t (wish.Acceptance transfer true) fits has.known) has

stayed_fits : (o : Objects) (p : DevParts) (t d : ℕ) (transfer : Transfer) (start : Option ℕ) → 1 ≤ d → d ≤ 8 → transfer.descriptor ≤ 32 → DevRight o p →
    DevRight o (calls.stayed p t d transfer start).parts
stayed_fits o p t d transfer (Some start) least most fits has = stays_fit o p t d transfer least most fits has
stayed_fits o p t d transfer None least most fits has =
    let id : ℕ = free_request p.table in
    either_fits o (requests.has_place p.table d) (calls.claim (requests.accept p d id transfer) true id) (calls.stays p t d transfer)
    (claim_fits o (requests.accept p d id transfer) true id (accept_fits o p d id transfer has)) (stays_fit o p t d transfer least most fits has)

whole_fits : (o : Objects) (p : DevParts) (who : Who) (write : Bool) (descriptor start address size : ℤ) → DevRight o p →
    DevRight o (calls.request_whole p who write descriptor start address size).parts
unfolding calls.request_whole
whole_fits o p who write descriptor start address size has =
    let checks : List Check = calls.request_checks p who descriptor write start address size (negsuc 0) ((not (calls.any_waits p (natural descriptor)) otherwise er.Obj) ∷ []) in
    checked_fits o checks p _ has
    (λ none. let known = known_id 32 descriptor (holds_at 0 checks none) in
    let device = device_fits (opened_at p.table (natural descriptor)) (has.known.opened (natural descriptor)) (holds_at 5 checks none) in
    stayed_fits o p (caller who) (calls.device_of p.table (natural descriptor)) (calls.transfer_of descriptor write start address size)
    (calls.start_of start) device.0 device.1 known.1 has)

-- ---- endings

wish_if : (any : Bool) (id serial : ℕ) → WishFits (cond any wish.AnyEnding (wish.Ending id serial false))
wish_if true id serial = tt
wish_if false id serial = tt

ending_fits : (o : Objects) (p : DevParts) (t dd : ℕ) (timeout : ℤ) (asked_for : Wish) (picked : Option ℕ) → dd ≤ 32 → WishFits asked_for → DevRight o p →
    DevRight o (calls.ending_waited p t dd timeout asked_for picked).parts
ending_fits o p t dd timeout asked_for (Some id) most fits has = claim_fits o p false id has
ending_fits o p t dd timeout asked_for None most fits has =
    waits_or_ends_fit o p t (ending_object dd) timeout (with_wish p.table t asked_for) (omega arith) (omega (arith, most)) (wish_known p.table t asked_for fits has.known) has

wait_ending_fits : (o : Objects) (p : DevParts) (who : Who) (descriptor id timeout : ℤ) → DevRight o p → DevRight o (calls.wait_ending p who descriptor id timeout).parts
unfolding calls.wait_ending
wait_ending_fits o p who descriptor id timeout has =
    let checks : List Check = calls.wait_checks p who descriptor id timeout in
    checked_fits o checks p _ has
    (λ none. let known = known_id 32 descriptor (holds_at 0 checks none) in
    ending_fits o p (caller who) (natural descriptor) timeout (calls.ending_wish p.table (natural id))
    (requests.picked p.table (natural descriptor) (calls.ending_wish p.table (natural id))) known.1
    (wish_if (natural id == 0) (natural id) (calls.serial_in (row_at p.table (natural id)))) has)

-- ---- closing

aborted_fits : (o : Objects) (m : Mails) (ids : List ℕ) (b : Base) → AreRight (order_for (record o { mails = m })) b →
    AreRight (order_for (record o { mails = m })) (fold calls.aborted b ids)
aborted_fits o m [] b all = all
aborted_fits o m (t ∷ ids) b all = aborted_fits o m ids (calls.aborted b t) (release_fits (order_for (record o { mails = m })) b t (plain (code_of er.Abort)) all)

dropped_known : (of_it : Bool) (dv : Devices) (id : ℕ) → AreKnown dv → AreKnown (cond of_it (dropped dv id) dv)
dropped_known true dv id known = beside_known dv (dropped dv id) (dropped_beside dv id) known
dropped_known false dv id known = known

all_dropped : (dd : ℕ) (ids : List ℕ) (dv : Devices) → AreKnown dv → AreKnown (fold (calls.dropped_if dd) dv ids)
all_dropped dd [] dv known = known
all_dropped dd (id ∷ ids) dv known = all_dropped dd ids (calls.dropped_if dd dv id) (dropped_known (is_of_descriptor dd (row_at dv id)) dv id known)

closing_fits : (slot : Option Opened) → OpenFits slot → OpenFits (calls.now_closing slot)
closing_fits None fits = tt
closing_fits (Some opened) fits = fits

begun_fits : (o : Objects) (begun : Bool) (p : DevParts) (t dd : ℕ) → dd ≤ 32 → DevRight o p → DevRight o (calls.closed_or_begun begun p t dd).parts
begun_fits o false p t dd most has = record { orders = has.orders; known = open_known p.table dd None tt has.known }
begun_fits o true p t dd most has =
    let dv : Devices = with_open p.table dd (calls.now_closing (opened_at p.table dd)) in
    let d : ℕ = calls.device_of p.table dd in
    waits_fit o p t (close_object dd) (negsuc 0) (asked dv d) (omega arith) (omega (arith, most))
    (beside_known dv (asked dv d) (asked_beside dv d) (open_known p.table dd (calls.now_closing (opened_at p.table dd))
    (closing_fits (opened_at p.table dd) (has.known.opened dd)) has.known)) has

close_fits : (o : Objects) (p : DevParts) (who : Who) (descriptor : ℤ) → DevRight o p → DevRight o (calls.close_device p who descriptor).parts
unfolding calls.close_device
close_fits o p who descriptor has =
    let dd : ℕ = natural descriptor in
    let checks : List Check = calls.close_checks p who descriptor in
    checked_fits o checks p _ has
    (λ none. let known = known_id 32 descriptor (holds_at 0 checks none) in
    begun_fits o (is_with_driver p.table dd) (calls.without_requests p dd) (caller who) dd known.1 (record {
      orders = aborted_fits o p.mails (filter (calls.waits_on p dd) p.base.since) p.base has.orders;
      known = all_dropped dd (taken_from 1 (drop 1 p.table.rows)) p.table has.known;
    }))

-- ---- suspension

-- the events of a suspension
events_fit : (o : Objects) (p : DevParts) → DevRight o p → DevRight o (events_sent p)
events_fit o p has =
    let sending = events_sending p in
    record {
      orders = right_same (order_for (record o { mails = p.mails })) (order_for (record o { mails = (events_sent p).mails })) (events_sent p).base
          (λ object. mails_same o p.mails (events_sent p).mails object (sending.orders object))
          (sending.changes.keeps (AreRight (order_for (record o { mails = p.mails }))) (right_survives (record o { mails = p.mails }) no_moves
          (λ dd none. absurd none)) has.orders);
      known = subst AreKnown (sym sending.table) has.known;
    }

suspended_fits : (o : Objects) (given : Bool) (p : DevParts) (t : ℕ) → DevRight o p → DevRight o (calls.suspended given p t).parts
suspended_fits o false p t has = events_fit o p has
suspended_fits o true p t has = waits_fit o p t suspension_object (negsuc 0) p.table (omega arith) (omega arith) has.known has

counted_fits : (o : Objects) (p : DevParts) (off : ℕ) → DevRight o p → DevRight o (calls.counted p off).parts
counted_fits o p off has = record { orders = has.orders; known = record { opened = has.known.opened; wished = has.known.wished } }

effect_fits : (o : Objects) (p : DevParts) (t : ℕ) (mode : SuspendMode) → DevRight o p → DevRight o (calls.suspend_effect p t mode).parts
effect_fits o p t mode has =
    either_fits o mode.td_suspend _ _ (suspended_fits o (any_given p.table) p t has)
    (either_fits o mode.td_dissus _ _ (counted_fits o p (p.table.off + 1) has) (either_fits o mode.td_enasus _ _ (counted_fits o p (p.table.off - 1) has)
    (counted_fits o p p.table.off has)))

suspend_fits : (o : Objects) (p : DevParts) (who : Who) (mode : SuspendMode) → DevRight o p → DevRight o (calls.suspend_devices p who mode).parts
unfolding calls.suspend_devices
suspend_fits o p who mode has = checked_fits o (calls.suspend_checks p who mode) p _ has (λ none. effect_fits o p (caller who) mode has)

-- ---- opening

some_link : (slot : Option Link) → is_some slot ≡ true → (link : Link) × (slot ≡ Some link)
some_link None is = absurd (cc is)
some_link (Some link) is = (link, refl)

least_device : (dv : Devices) (d : ℕ) (link : Link) → link_at dv 0 ≡ None → link_at dv d ≡ Some link → 1 ≤ d
least_device dv zero link first there = absurd (cc (first, there))
least_device dv (suc d) link first there = omega arith

open_fits : (o : Objects) (p : DevParts) (d : ℕ) (mode : OpenMode) → link_at p.table 0 ≡ None → length p.table.links ≤ 9 → DevRight o p →
    DevRight o (calls.open_device p d mode).parts
unfolding calls.open_device
open_fits o p d mode first few has =
    let checks : List Check = calls.open_checks p.table d mode in
    checked_fits o checks p _ has
    (λ none. let link = some_link (link_at p.table d) (holds_at 1 checks none) in
    let inside : d < length p.table.links = entry_inside p.table.links d link.0 link.1 in
    record { orders = has.orders; known = open_known p.table _ (calls.opened_for d mode) (least_device p.table d link.0 first link.1, omega (arith, inside, few)) has.known })

refer_fits : (o : Objects) (p : DevParts) (d : ℕ) → DevRight o p → DevRight o (calls.refer_device p d).parts
unfolding calls.refer_device
refer_fits o p d has = checked_fits o ((is_some (link_at p.table d) otherwise er.NoExs) ∷ []) p _ has (λ none. has)

-- every call on devices, of which there are at most eight, the first with ID 1
pub device_calls_fit : (o : Objects) (p : DevParts) (who : Who) (c : DeviceCall) → link_at p.table 0 ≡ None → length p.table.links ≤ 9 → DevRight o p →
    DevRight o (calls.device_call p who c).parts
unfolding calls.device_call
device_calls_fit o p who (call.OpnDev device mode) first few has = open_fits o p device mode first few has
device_calls_fit o p who (call.ReaDev descriptor start address size timeout) first few has = request_fits o p who false descriptor start address size timeout has
device_calls_fit o p who (call.WriDev descriptor start address size timeout) first few has = request_fits o p who true descriptor start address size timeout has
device_calls_fit o p who (call.SreaDev descriptor start address size) first few has = whole_fits o p who false descriptor start address size has
device_calls_fit o p who (call.SwriDev descriptor start address size) first few has = whole_fits o p who true descriptor start address size has
device_calls_fit o p who (call.WaiDev descriptor id timeout) first few has = wait_ending_fits o p who descriptor id timeout has
device_calls_fit o p who (call.ClsDev descriptor) first few has = close_fits o p who descriptor has
device_calls_fit o p who (call.SusDev mode) first few has = suspend_fits o p who mode has
device_calls_fit o p who (call.RefDev device) first few has = refer_fits o p device has
