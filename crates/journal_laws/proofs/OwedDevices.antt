-- How many endings may still come, by calls on devices and by what serves those that wait for them: a call adds one at most, and
-- nothing else adds any.
use Rattle.std.proofs.Common.{◌≡◌, ℕ, ◌+◌, ◌≤◌, Bool, true, false, not, cond, List, [], ◌∷◌, Option, Some, None, ℤ, pos, negsuc, refl, ◌∙◌, ap, arith}
use Rattle.std.specs.Bool.{◌==◌}
use Rattle.std.specs.Prelude.{drop, filter, fold}
use Rattle.std.specs.Option.{is_some}
use Rattle.std.specs.Ordering.{int_eq}
use Rattle.tk_types.specs.declared.answer.Who.{Who}
use Rattle.tk_types.specs.declared.calls.DeviceCall.{DeviceCall}
use Rattle.tk_types.specs.declared.calls.DeviceCall.TheVariants as call
use Rattle.tk_types.specs.declared.error_code.Er.{Er}
use Rattle.tk_types.specs.declared.error_code.Er.TheVariants as er
use Rattle.tk_types.specs.declared.modes.OpenMode.{OpenMode}
use Rattle.tk_types.specs.declared.modes.SuspendMode.{SuspendMode}
use Rattle.tk_types.specs.declared.task.Order.TheVariants.{Fifo}
use Rattle.tk_types.specs.Codes.{code_of}
use Rattle.kernel_model.specs.Words.Orders.{taken_from}
use Rattle.kernel_model.specs.Words.Checks.{Check, ◌otherwise◌, failed, first_error, natural, plain}
use Rattle.kernel_model.specs.Tasks.Base.{Base, make_wait}
use Rattle.kernel_model.specs.Tasks.Calls.{caller}
use Rattle.device_model.specs.declared.rows.Transfer.{Transfer}
use Rattle.device_model.specs.declared.rows.Wish.{Wish}
use Rattle.device_model.specs.declared.rows.Wish.TheVariants as wish
use Rattle.device_model.specs.Devices.Memory.{number_of, read_bytes}
use Rattle.device_model.specs.Devices.Tables.{Devices, asked, dropped, free_request, link_at, opened_at, row_at, with_buffer, with_open, with_wish}
use Rattle.device_model.specs.Devices.Handing.{any_given, suspension_object}
use Rattle.device_model.specs.Devices.Endings.{DevParts, close_object}
use Rattle.device_model.specs.Devices.Requests as requests
use Rattle.device_model.specs.Devices.Servings as servings
use Rattle.device_model.specs.Devices.Suspension.{events_sent}
use Rattle.device_model.specs.Devices.Calls as calls
use Rattle.device_model.specs.Devices.Calls.{DevDone}
use Rattle.machine_lemmas.proofs.DeviceServings.{accept_leaves, events_sending}
use Rattle.machine_lemmas.proofs.KnownDevices.{asked_beside, dropped_beside}
use Rattle.count_lemmas.proofs.Devices.{events_quiet}
use Rattle.journal_laws.specs.Owed.{asks_in, open_in, owed}
use Rattle.journal_laws.proofs.Asks.{Asks, asked_wait, asks_making, asks_quiet}
use Rattle.journal_laws.proofs.Unended.{IsLess, accepted_open, asked_open, dropped_open}

-- at most so many endings may still come
abbrev pub Owes : ℕ → DevParts → Type 0
Owes n p = owed p.base p.table ≤ n

-- ---- a table that asks for no more, and a base

pub table_owes : (b : Base) (dv now : Devices) → IsLess dv now → owed b now ≤ owed b dv
table_owes b dv now is =
    let rows = is.rows in
    let same : asks_in now.wishes b.tasks ≡ asks_in dv.wishes b.tasks = ap (λ wishes. asks_in wishes b.tasks) is.wishes in
    omega (arith, rows, same)

base_owes : (b c : Base) (dv : Devices) → Asks dv.wishes (asks_in dv.wishes b.tasks) c → owed c dv ≤ owed b dv
base_owes b c dv few = omega (arith, few)

-- a task begins to wait, without a wish
wait_owes : (b : Base) (dv : Devices) (t object : ℕ) (timeout : ℤ) → owed (make_wait b t object Fifo timeout) dv ≤ owed b dv + 1
wait_owes b dv t object timeout = let more = (asks_making dv.wishes (asks_in dv.wishes b.tasks)).waits b t object Fifo timeout (omega arith) in omega (arith, more)

-- or with one
wished_owes : (b : Base) (dv : Devices) (t object : ℕ) (timeout : ℤ) (asked_for : Wish) → owed (make_wait b t object Fifo timeout) (with_wish dv t asked_for) ≤ owed b dv + 1
wished_owes b dv t object timeout asked_for = let more = asked_wait dv.wishes b t object Fifo timeout asked_for in omega (arith, more)

pub dropped_less : (dv : Devices) (id : ℕ) → IsLess dv (dropped dv id)
dropped_less dv id = record { rows = dropped_open dv id; wishes = (dropped_beside dv id).wishes }

-- ---- requests that are accepted

-- one more at most
abbrev OneMore : DevParts → DevParts → Type 0
OneMore p q = open_in q.table.rows ≤ open_in p.table.rows + 1

one_more_if : (p one other : DevParts) (test : Bool) → OneMore p one → OneMore p other → OneMore p (cond test one other)
one_more_if p one other true first second = first
one_more_if p one other false first second = second

event_open : (p : DevParts) (d id : ℕ) (transfer : Transfer) → OneMore p (requests.accept_event p d id transfer)
event_open p d id transfer =
    one_more_if p _ _ (transfer.size == 0) (accepted_open p.table id _)
    (one_more_if p _ _ (transfer.size == requests.buffer_size)
    (one_more_if p _ _ transfer.write
    (one_more_if p _ _ (requests.may_be_buffer p (number_of (read_bytes requests.buffer_size transfer.address p.memory)))
    (accepted_open (with_buffer p.table d (number_of (read_bytes requests.buffer_size transfer.address p.memory))) id _)
    (accepted_open p.table id _))
    (accepted_open p.table id _))
    (accepted_open p.table id _))

from_open : (start : Option ℕ) (p : DevParts) (d id : ℕ) (transfer : Transfer) → OneMore p (requests.accept_from start p d id transfer)
from_open None p d id transfer = event_open p d id transfer
from_open (Some start) p d id transfer = accepted_open p.table id _

pub accept_open : (p : DevParts) (d id : ℕ) (transfer : Transfer) → OneMore p (requests.accept p d id transfer)
unfolding requests.accept
accept_open p d id transfer = from_open transfer.start p d id transfer

-- as many ask as before
pub accept_asks : (p : DevParts) (d id : ℕ) (transfer : Transfer) → asks_in (requests.accept p d id transfer).table.wishes (requests.accept p d id transfer).base.tasks ≡ asks_in p.table.wishes p.base.tasks
accept_asks p d id transfer =
    let leaves = accept_leaves p d id transfer in
    ap (λ wishes. asks_in wishes (requests.accept p d id transfer).base.tasks) leaves.beside.wishes ∙ ap (λ (b : Base). asks_in p.table.wishes b.tasks) leaves.base

accept_owes : (p : DevParts) (d id : ℕ) (transfer : Transfer) → Owes (owed p.base p.table + 1) (requests.accept p d id transfer)
accept_owes p d id transfer = let more = accept_open p d id transfer in let same = accept_asks p d id transfer in omega (arith, more, same)

-- ---- calls

-- a call leaves one more at most
abbrev Done : DevParts → DevDone → Type 0
Done p done = Owes (owed p.base p.table + 1) done.parts

refused_done : (error : Option Er) (p : DevParts) (effect : DevDone) → Done p effect → Done p (calls.refused_with error p effect)
refused_done (Some error) p effect works = omega arith
refused_done None p effect works = works

-- a call is refused, or has its effect
checked_done : (checks : List Check) (p : DevParts) (effect : DevDone) → Done p effect → Done p (calls.device_checked checks p effect)
checked_done checks p effect works = refused_done (first_error checks) p effect works

done_if : (p : DevParts) (test : Bool) (one other : DevDone) → Done p one → Done p other → Done p (cond {A = DevDone} test one other)
done_if p true one other first second = first
done_if p false one other first second = second

wait_done : (p : DevParts) (t object : ℕ) (timeout : ℤ) (asked_for : Wish) → Done p (calls.waits_or_ends p t object timeout (with_wish p.table t asked_for))
wait_done p t object timeout asked_for =
    done_if p (int_eq timeout (pos 0)) (record { parts = p; outcome = failed er.TmOut }) (calls.waits p t object timeout (with_wish p.table t asked_for)) (omega arith)
    (wished_owes p.base p.table t object timeout asked_for)

requested_done : (p : DevParts) (t d : ℕ) (transfer : Transfer) (timeout : ℤ) → Done p (calls.requested p t d transfer timeout)
requested_done p t d transfer timeout =
    done_if p (requests.has_place p.table d) (calls.answers (requests.accept p d (free_request p.table) transfer) (pos (free_request p.table)))
    (calls.waits_or_ends p t (requests.acceptance_object d) timeout (with_wish p.table t (wish.Acceptance transfer false)))
    (accept_owes p d (free_request p.table) transfer)
    (wait_done p t (requests.acceptance_object d) timeout (wish.Acceptance transfer false))

request_done : (p : DevParts) (who : Who) (write : Bool) (descriptor start address size timeout : ℤ) → Done p (calls.request p who write descriptor start address size timeout)
unfolding calls.request
request_done p who write descriptor start address size timeout =
    checked_done (calls.request_checks p who descriptor write start address size timeout []) p _
    (requested_done p (caller who) (calls.device_of p.table (natural descriptor)) (calls.transfer_of descriptor write start address size) timeout)

stays_done : (p : DevParts) (t d : ℕ) (transfer : Transfer) → Done p (calls.stays p t d transfer)
stays_done p t d transfer = wished_owes p.base p.table t (requests.acceptance_object d) (negsuc 0) (wish.Acceptance transfer true)

-- a claim lets a request go
claim_owes : (n : ℕ) (p : DevParts) (own : Bool) (id : ℕ) → Owes n p → Owes n (calls.claim p own id).parts
claim_owes n p own id owes = let less = table_owes p.base p.table (dropped p.table id) (dropped_less p.table id) in omega (arith, less, owes)

stayed_done : (p : DevParts) (t d : ℕ) (transfer : Transfer) (start : Option ℕ) → Done p (calls.stayed p t d transfer start)
stayed_done p t d transfer (Some start) = stays_done p t d transfer
stayed_done p t d transfer None =
    let id : ℕ = free_request p.table in
    done_if p (requests.has_place p.table d) (calls.claim (requests.accept p d id transfer) true id) (calls.stays p t d transfer)
    (claim_owes (owed p.base p.table + 1) (requests.accept p d id transfer) true id (accept_owes p d id transfer))
    (stays_done p t d transfer)

whole_done : (p : DevParts) (who : Who) (write : Bool) (descriptor start address size : ℤ) → Done p (calls.request_whole p who write descriptor start address size)
unfolding calls.request_whole
whole_done p who write descriptor start address size =
    checked_done (calls.request_checks p who descriptor write start address size (negsuc 0) ((not (calls.any_waits p (natural descriptor)) otherwise er.Obj) ∷ [])) p _
    (stayed_done p (caller who) (calls.device_of p.table (natural descriptor)) (calls.transfer_of descriptor write start address size) (calls.start_of start))

waited_done : (p : DevParts) (t dd : ℕ) (timeout : ℤ) (asked_for : Wish) (picked : Option ℕ) → Done p (calls.ending_waited p t dd timeout asked_for picked)
waited_done p t dd timeout asked_for (Some id) = claim_owes (owed p.base p.table + 1) p false id (omega arith)
waited_done p t dd timeout asked_for None = wait_done p t (requests.ending_object dd) timeout asked_for

wait_ending_done : (p : DevParts) (who : Who) (descriptor id timeout : ℤ) → Done p (calls.wait_ending p who descriptor id timeout)
unfolding calls.wait_ending
wait_ending_done p who descriptor id timeout =
    let asked_for : Wish = calls.ending_wish p.table (natural id) in
    checked_done (calls.wait_checks p who descriptor id timeout) p _
    (waited_done p (caller who) (natural descriptor) timeout asked_for (requests.picked p.table (natural descriptor) asked_for))

-- ---- closing

aborted_asks : (wishes : List Wish) (n : ℕ) (ids : List ℕ) (b : Base) → Asks wishes n b → Asks wishes n (fold calls.aborted b ids)
aborted_asks wishes n [] b few = few
aborted_asks wishes n (t ∷ ids) b few = aborted_asks wishes n ids (calls.aborted b t) ((asks_quiet wishes n).released b t (plain (code_of er.Abort)) few)

less_then : (dv now later : Devices) → IsLess dv now → IsLess now later → IsLess dv later
less_then dv now later first then = let one = first.rows in let other = then.rows in record { rows = omega (arith, one, other); wishes = then.wishes ∙ first.wishes }

less_if : (dv one other : Devices) (test : Bool) → IsLess dv one → IsLess dv other → IsLess dv (cond test one other)
less_if dv one other true first second = first
less_if dv one other false first second = second

requests_less : (dd : ℕ) (ids : List ℕ) (dv : Devices) → IsLess dv (fold (calls.dropped_if dd) dv ids)
requests_less dd [] dv = record { rows = omega arith; wishes = refl }
requests_less dd (id ∷ ids) dv =
    let now : Devices = calls.dropped_if dd dv id in
    less_then dv now (fold (calls.dropped_if dd) now ids)
    (less_if dv (dropped dv id) dv (servings.is_of_descriptor dd (row_at dv id)) (dropped_less dv id) (record { rows = omega arith; wishes = refl }))
    (requests_less dd ids now)

without_owes : (p : DevParts) (dd : ℕ) → Owes (owed p.base p.table) (calls.without_requests p dd)
without_owes p dd =
    let now : Base = calls.waits_aborted p dd in
    let few = aborted_asks p.table.wishes (asks_in p.table.wishes p.base.tasks) (filter (calls.waits_on p dd) p.base.since) p.base (omega arith) in
    let less = table_owes now p.table (calls.requests_dropped p.table dd) (requests_less dd (taken_from 1 (drop 1 p.table.rows)) p.table) in
    omega (arith, few, less)

begun_less : (dv : Devices) (dd d : ℕ) → IsLess dv (asked (with_open dv dd (calls.now_closing (opened_at dv dd))) d)
begun_less dv dd d =
    let now : Devices = with_open dv dd (calls.now_closing (opened_at dv dd)) in
    let rows = asked_open now d in
    record { rows = omega (arith, rows); wishes = (asked_beside now d).wishes }

closed_owes : (begun : Bool) (p : DevParts) (t dd : ℕ) → Owes (owed p.base p.table + 1) (calls.closed_or_begun begun p t dd).parts
closed_owes false p t dd = omega arith
closed_owes true p t dd =
    let less = begun_less p.table dd (calls.device_of p.table dd) in
    let table = table_owes (make_wait p.base t (close_object dd) Fifo (negsuc 0)) p.table _ less in
    let more = wait_owes p.base p.table t (close_object dd) (negsuc 0) in
    omega (arith, table, more)

close_done : (p : DevParts) (who : Who) (descriptor : ℤ) → Done p (calls.close_device p who descriptor)
unfolding calls.close_device
close_done p who descriptor =
    let dd : ℕ = natural descriptor in
    let less = without_owes p dd in
    let more = closed_owes (servings.is_with_driver p.table dd) (calls.without_requests p dd) (caller who) dd in
    checked_done (calls.close_checks p who descriptor) p _ (omega (arith, less, more))

-- ---- suspension

-- the events of a suspension end waits, and leave the devices
pub events_owe : (p : DevParts) → Owes (owed p.base p.table) (events_sent p)
events_owe p =
    let few = events_quiet (Asks p.table.wishes (asks_in p.table.wishes p.base.tasks)) (asks_quiet p.table.wishes (asks_in p.table.wishes p.base.tasks)) p (omega arith) in
    let same : owed (events_sent p).base (events_sent p).table ≡ owed (events_sent p).base p.table = ap (owed (events_sent p).base) (events_sending p).table in
    omega (arith, few, same)

suspended_done : (given : Bool) (p : DevParts) (t : ℕ) → Done p (calls.suspended given p t)
suspended_done false p t = let less = events_owe p in omega (arith, less)
suspended_done true p t = wait_owes p.base p.table t suspension_object (negsuc 0)

effect_done : (p : DevParts) (t : ℕ) (mode : SuspendMode) → Done p (calls.suspend_effect p t mode)
effect_done p t mode =
    done_if p mode.td_suspend _ _ (suspended_done (any_given p.table) p t)
    (done_if p mode.td_dissus _ _ (omega arith) (done_if p mode.td_enasus _ _ (omega arith) (omega arith)))

suspend_done : (p : DevParts) (who : Who) (mode : SuspendMode) → Done p (calls.suspend_devices p who mode)
unfolding calls.suspend_devices
suspend_done p who mode = checked_done (calls.suspend_checks p who mode) p _ (effect_done p (caller who) mode)

-- ---- all

open_done : (p : DevParts) (d : ℕ) (mode : OpenMode) → Done p (calls.open_device p d mode)
unfolding calls.open_device
open_done p d mode = checked_done (calls.open_checks p.table d mode) p _ (omega arith)

refer_done : (p : DevParts) (d : ℕ) → Done p (calls.refer_device p d)
unfolding calls.refer_device
refer_done p d = checked_done ((is_some (link_at p.table d) otherwise er.NoExs) ∷ []) p _ (omega arith)

-- a call on devices adds one at most
pub device_call_owes : (p : DevParts) (who : Who) (c : DeviceCall) → Owes (owed p.base p.table + 1) (calls.device_call p who c).parts
unfolding calls.device_call
device_call_owes p who (call.OpnDev device mode) = open_done p device mode
device_call_owes p who (call.ReaDev descriptor start address size timeout) = request_done p who false descriptor start address size timeout
device_call_owes p who (call.WriDev descriptor start address size timeout) = request_done p who true descriptor start address size timeout
device_call_owes p who (call.SreaDev descriptor start address size) = whole_done p who false descriptor start address size
device_call_owes p who (call.SwriDev descriptor start address size) = whole_done p who true descriptor start address size
device_call_owes p who (call.WaiDev descriptor id timeout) = wait_ending_done p who descriptor id timeout
device_call_owes p who (call.ClsDev descriptor) = close_done p who descriptor
device_call_owes p who (call.SusDev mode) = suspend_done p who mode
device_call_owes p who (call.RefDev device) = refer_done p device
