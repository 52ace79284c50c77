-- The system calls on devices: the checks of each in their order, and its effect up to the first settling.
use Rattle.std.specs.Prelude.{ℕ, ◌+◌, ◌-◌, ◌==◌, Bool, true, false, not, ◌&&◌, ◌||◌, if◌then◌else◌, ℤ, pos, negsuc, int_le, List, [], ◌∷◌, ◌++◌, Option, Some, None, filter, fold, drop}
use Rattle.std.specs.List.{list_any}
use Rattle.std.specs.Option.{is_some}
use Rattle.std.specs.Ordering.{int_eq}
use Rattle.tk_types.specs.declared.answer.Outcome.{Outcome}
use Rattle.tk_types.specs.declared.answer.Outcome.TheVariants.{Returned, Blocked}
use Rattle.tk_types.specs.declared.answer.Who.{Who}
use Rattle.tk_types.specs.declared.calls.DeviceCall.{DeviceCall}
use Rattle.tk_types.specs.declared.calls.DeviceCall.TheVariants as call
use Rattle.tk_types.specs.declared.error_code.Er.{Er}
use Rattle.tk_types.specs.declared.error_code.Er.TheVariants as er
use Rattle.tk_types.specs.declared.modes.OpenMode.{OpenMode}
use Rattle.tk_types.specs.declared.modes.SuspendMode.{SuspendMode}
use Rattle.tk_types.specs.declared.task.Order.TheVariants.{Fifo}
use Rattle.tk_types.specs.Codes.{code_of}
use Rattle.kernel_model.specs.declared.marks.Mark.TheVariants.{MayWait}
use Rattle.kernel_model.specs.Words.Orders.{taken_from}
use Rattle.kernel_model.specs.Words.Checks.{Check, ◌otherwise◌, first_error, within, natural, plain, failed, done}
use Rattle.kernel_model.specs.Tasks.Base.{Base, fifo_queue, make_wait, release, waits_for}
use Rattle.kernel_model.specs.Tasks.Calls.{caller, most_requests}
use Rattle.kernel_model.specs.Tasks.Marks.{allows}
use Rattle.object_model.specs.Mails.Calls.{is_inside}
use Rattle.device_model.specs.declared.rows.Opened.{Opened}
use Rattle.device_model.specs.declared.rows.Transfer.{Transfer}
use Rattle.device_model.specs.declared.rows.Wish.{Wish}
use Rattle.device_model.specs.declared.rows.Wish.TheVariants as wish
use Rattle.device_model.specs.Devices.Tables.{Row, Devices, free_descriptor, free_request, link_at, opened_at, row_at, wish_of, with_open, with_wish, with_off, dropped, asked}
use Rattle.device_model.specs.Devices.Handing.{any_given, suspension_object}
use Rattle.device_model.specs.Devices.Endings.{DevParts, close_object}
use Rattle.device_model.specs.Devices.Requests.{acceptance_object, ending_object, has_place, accept, picked, claimed, with_table}
use Rattle.device_model.specs.Devices.Suspension.{events_sent}
use Rattle.device_model.specs.Devices.Servings.{is_of_descriptor, is_with_driver}

-- the parts, and what became of the call
pub record DevDone : Type 0 where
  pub parts : DevParts
  pub outcome : Outcome

abbrev pub refused_with : Option Er → DevParts → DevDone → DevDone
refused_with (Some error) p effect = record { parts = p; outcome = failed error }
refused_with None p effect = effect

-- a call is refused with the first error of its checks, and nothing is changed then; else it has its effect
abbrev pub device_checked : List Check → DevParts → DevDone → DevDone
device_checked checks p effect = refused_with (first_error checks) p effect

-- a call that answers a value
abbrev pub answers : DevParts → ℤ → DevDone
answers p value = record { parts = p; outcome = done value }

-- a call that leaves its task waiting, with what it asked for
abbrev pub waits : DevParts → ℕ → ℕ → ℤ → Devices → DevDone
waits p t object timeout dv =
    record { parts = record p { base = make_wait p.base t object Fifo timeout; table = dv }; outcome = Blocked }

-- the same of a call that may ask with a time-out of 0: it ends at once then, and nothing has happened
abbrev pub waits_or_ends : DevParts → ℕ → ℕ → ℤ → Devices → DevDone
waits_or_ends p t object timeout dv =
    if int_eq timeout (pos 0) then record { parts = p; outcome = failed er.TmOut } else waits p t object timeout dv

-- ---- opening

-- one of three words and no other
abbrev pub one_of_three : Bool → Bool → Bool → Bool
one_of_three a b c = (a && not (b || c)) || (not a && ((b && not c) || (not b && c)))

-- a device is opened to read, to write or for both, with one exclusion at most
abbrev pub is_open_mode : OpenMode → Bool
is_open_mode mode =
    one_of_three mode.td_read mode.td_write mode.td_update
    && (not (mode.td_excl || (mode.td_wexcl || mode.td_rexcl)) || one_of_three mode.td_excl mode.td_wexcl mode.td_rexcl)

abbrev pub reads : OpenMode → Bool
reads mode = mode.td_read || mode.td_update

abbrev pub writes : OpenMode → Bool
writes mode = mode.td_write || mode.td_update

-- whether one way of opening leaves no room for another's access
abbrev pub excludes : OpenMode → OpenMode → Bool
excludes mode other = mode.td_excl || ((mode.td_wexcl && writes other) || (mode.td_rexcl && reads other))

abbrev pub clashes_with : ℕ → OpenMode → Option Opened → Bool
clashes_with d mode None = false
clashes_with d mode (Some opened) = opened.device == d && (excludes mode opened.mode || excludes opened.mode mode)

-- whether a device is open already in a way that clashes, also where that descriptor is being closed
abbrev pub is_busy : Devices → ℕ → OpenMode → Bool
is_busy dv d mode = list_any (clashes_with d mode) dv.opened

abbrev pub open_checks : Devices → ℕ → OpenMode → List Check
open_checks dv d mode =
    (is_open_mode mode otherwise er.Par)
    ∷ (is_some (link_at dv d) otherwise er.NoExs)
    ∷ (not (is_busy dv d mode) otherwise er.Busy)
    ∷ (not (free_descriptor dv == 0) otherwise er.Limit)
    ∷ []

abbrev pub opened_for : ℕ → OpenMode → Option Opened
opened_for d mode = Some (record { device = d; mode = mode; closing = false })

-- `tk_opn_dev`: the least free descriptor for a device
unfoldable pub open_device : DevParts → ℕ → OpenMode → DevDone
open_device p d mode = device_checked (open_checks p.table d mode) p
    (answers (with_table p (with_open p.table (free_descriptor p.table) (opened_for d mode))) (pos (free_descriptor p.table)))

-- `tk_ref_dev`: the ID of a device
unfoldable pub refer_device : DevParts → ℕ → DevDone
refer_device p d = device_checked ((is_some (link_at p.table d) otherwise er.NoExs) ∷ []) p (answers p (pos d))

-- ---- requests

abbrev pub stays_open : Option Opened → Bool
stays_open None = false
stays_open (Some opened) = not opened.closing

-- whether a descriptor is open for calls
abbrev pub is_open : Devices → ℕ → Bool
is_open dv dd = stays_open (opened_at dv dd)

abbrev pub device_in : Option Opened → ℕ
device_in None = 0
device_in (Some opened) = opened.device

-- the device of a descriptor
abbrev pub device_of : Devices → ℕ → ℕ
device_of dv dd = device_in (opened_at dv dd)

abbrev pub permits_in : Bool → Option Opened → Bool
permits_in write None = false
permits_in write (Some opened) = if write then writes opened.mode else reads opened.mode

-- whether a descriptor may be read from, or written to
abbrev pub permits : Devices → ℕ → Bool → Bool
permits dv dd write = permits_in write (opened_at dv dd)

-- what a call asks for; a start of -1 is the event buffer
abbrev pub start_of : ℤ → Option ℕ
start_of (pos start) = Some start
start_of (negsuc start) = None

abbrev pub transfer_of : ℤ → Bool → ℤ → ℤ → ℤ → Transfer
transfer_of descriptor write start address size = record {
  descriptor = natural descriptor;
  write = write;
  start = start_of start;
  address = natural address;
  size = natural size;
}

abbrev pub wants_any : Wish → Bool
wants_any wish.AnyEnding = true
wants_any _ = false

-- the tasks that wait for an ending of a descriptor
abbrev pub ending_waiters : DevParts → ℕ → List ℕ
ending_waiters p dd = fifo_queue p.base (ending_object dd)

-- whether a task waits for any ending of a descriptor
abbrev pub any_waits : DevParts → ℕ → Bool
any_waits p dd = list_any (λ t. wants_any (wish_of p.table t)) (ending_waiters p dd)

-- the checks of a call that makes a request, with those that one of its kind has besides
abbrev pub request_checks : DevParts → Who → ℤ → Bool → ℤ → ℤ → ℤ → ℤ → List Check → List Check
request_checks p who descriptor write start address size timeout own =
    (within 1 32 descriptor otherwise er.Id)
    ∷ (int_le (negsuc 0) start otherwise er.Par)
    ∷ (is_inside address size otherwise er.Par)
    ∷ (int_le (negsuc 0) timeout otherwise er.Par)
    ∷ (allows p.base.flags who MayWait otherwise er.Ctx)
    ∷ (is_open p.table (natural descriptor) otherwise er.Id)
    ∷ (permits p.table (natural descriptor) write otherwise er.OaCv)
    ∷ (own ++ (not (free_request p.table == 0) otherwise er.Limit) ∷ [])

-- a request is accepted at once where its device has a place; else the task waits for that
abbrev pub requested : DevParts → ℕ → ℕ → Transfer → ℤ → DevDone
requested p t d transfer timeout =
    if has_place p.table d
    then answers (accept p d (free_request p.table) transfer) (pos (free_request p.table))
    else waits_or_ends p t (acceptance_object d) timeout (with_wish p.table t (wish.Acceptance transfer false))

-- `tk_rea_dev` and `tk_wri_dev`: a request, of which the ending is claimed later
unfoldable pub request : DevParts → Who → Bool → ℤ → ℤ → ℤ → ℤ → ℤ → DevDone
request p who write descriptor start address size timeout =
    device_checked (request_checks p who descriptor write start address size timeout []) p
    (requested p (caller who) (device_of p.table (natural descriptor)) (transfer_of descriptor write start address size) timeout)

-- a request is let go, and its ending answered
abbrev pub claim : DevParts → Bool → ℕ → DevDone
claim p own id = record { parts = with_table p (dropped p.table id); outcome = Returned (claimed p.table own id) }

-- a caller joins those that wait for an acceptance, and stays for its ending
abbrev pub stays : DevParts → ℕ → ℕ → Transfer → DevDone
stays p t d transfer = waits p t (acceptance_object d) (negsuc 0) (with_wish p.table t (wish.Acceptance transfer true))

-- a request for the event buffer has ended once it is accepted
abbrev pub stayed : DevParts → ℕ → ℕ → Transfer → Option ℕ → DevDone
stayed p t d transfer (Some start) = stays p t d transfer
stayed p t d transfer None =
    if has_place p.table d
    then claim (accept p d (free_request p.table) transfer) true (free_request p.table)
    else stays p t d transfer

-- `tk_srea_dev` and `tk_swri_dev`: a request, and the wait for its ending, which is claimed. It is refused while a task waits
-- for any ending of the descriptor
unfoldable pub request_whole : DevParts → Who → Bool → ℤ → ℤ → ℤ → ℤ → DevDone
request_whole p who write descriptor start address size =
    device_checked (request_checks p who descriptor write start address size (negsuc 0) ((not (any_waits p (natural descriptor)) otherwise er.Obj) ∷ [])) p
    (stayed p (caller who) (device_of p.table (natural descriptor)) (transfer_of descriptor write start address size) (start_of start))

-- ---- endings

-- whether a number names a request of a descriptor; 0 names any
abbrev pub names_request : Devices → ℕ → ℕ → Bool
names_request dv dd id = id == 0 || is_of_descriptor dd (row_at dv id)

abbrev pub has_request : Devices → ℕ → Bool
has_request dv dd = list_any (is_of_descriptor dd) dv.rows

abbrev pub wants : ℕ → Wish → Bool
wants id (wish.Ending other serial own) = other == id
wants id _ = false

-- whether a task waits for a request
abbrev pub one_waits : DevParts → ℕ → ℕ → Bool
one_waits p dd id = list_any (λ t. wants id (wish_of p.table t)) (ending_waiters p dd)

abbrev pub will_stay : ℕ → Wish → Bool
will_stay dd (wish.Acceptance transfer stays) = stays && transfer.descriptor == dd
will_stay dd _ = false

abbrev pub is_any_task : List ℕ → Bool
is_any_task [] = false
is_any_task (t ∷ ts) = true

-- whether a task waits for an ending of a descriptor, or for the acceptance of a request with which it will stay
abbrev pub somebody_waits : DevParts → ℕ → Bool
somebody_waits p dd =
    is_any_task (ending_waiters p dd)
    || list_any (λ t. will_stay dd (wish_of p.table t)) (fifo_queue p.base (acceptance_object (device_of p.table dd)))

abbrev pub wait_checks : DevParts → Who → ℤ → ℤ → ℤ → List Check
wait_checks p who descriptor id timeout =
    (within 1 32 descriptor otherwise er.Id)
    ∷ (within 0 64 id otherwise er.Id)
    ∷ (int_le (negsuc 0) timeout otherwise er.Par)
    ∷ (allows p.base.flags who MayWait otherwise er.Ctx)
    ∷ (is_open p.table (natural descriptor) otherwise er.Id)
    ∷ (names_request p.table (natural descriptor) (natural id) otherwise er.Id)
    ∷ (not (natural id == 0) || has_request p.table (natural descriptor) otherwise er.NoExs)
    ∷ (not (one_waits p (natural descriptor) (natural id)) otherwise er.Obj)
    ∷ (not (any_waits p (natural descriptor)) otherwise er.Obj)
    ∷ (not (natural id == 0 && somebody_waits p (natural descriptor)) otherwise er.Obj)
    ∷ []

abbrev pub serial_in : Option Row → ℕ
serial_in None = 0
serial_in (Some row) = row.serial

-- what a task asks for by the ID of a request; 0 is the earliest ending of any
abbrev pub ending_wish : Devices → ℕ → Wish
ending_wish dv id = if id == 0 then wish.AnyEnding else wish.Ending id (serial_in (row_at dv id)) false

-- an ending that there is is claimed at once; else the task waits
abbrev pub ending_waited : DevParts → ℕ → ℕ → ℤ → Wish → Option ℕ → DevDone
ending_waited p t dd timeout asked_for (Some id) = claim p false id
ending_waited p t dd timeout asked_for None =
    waits_or_ends p t (ending_object dd) timeout (with_wish p.table t asked_for)

abbrev pub waited : DevParts → ℕ → ℕ → ℤ → Wish → DevDone
waited p t dd timeout asked_for = ending_waited p t dd timeout asked_for (picked p.table dd asked_for)

-- `tk_wai_dev`: claims the ending of a request, or waits for it
unfoldable pub wait_ending : DevParts → Who → ℤ → ℤ → ℤ → DevDone
wait_ending p who descriptor id timeout = device_checked (wait_checks p who descriptor id timeout) p
    (waited p (caller who) (natural descriptor) timeout (ending_wish p.table (natural id)))

-- ---- closing

abbrev pub wish_is_of : ℕ → Wish → Bool
wish_is_of dd (wish.Acceptance transfer stays) = transfer.descriptor == dd
wish_is_of dd _ = false

-- whether a task waits on a descriptor: for an ending, or for an acceptance
abbrev pub waits_on : DevParts → ℕ → ℕ → Bool
waits_on p dd t =
    waits_for p.base (ending_object dd) t
    || (waits_for p.base (acceptance_object (device_of p.table dd)) t && wish_is_of dd (wish_of p.table t))

abbrev pub aborted : Base → ℕ → Base
aborted b t = release b t (plain (code_of er.Abort))

-- the waits on a descriptor end with E_ABORT, in the order in which they began
abbrev pub waits_aborted : DevParts → ℕ → Base
waits_aborted p dd = fold aborted p.base (filter (waits_on p dd) p.base.since)

abbrev pub dropped_if : ℕ → Devices → ℕ → Devices
dropped_if dd dv id = if is_of_descriptor dd (row_at dv id) then dropped dv id else dv

-- all requests of a descriptor are let go but the one that is with a driver
abbrev pub requests_dropped : Devices → ℕ → Devices
requests_dropped dv dd = fold (dropped_if dd) dv (taken_from 1 (drop 1 dv.rows))

abbrev pub without_requests : DevParts → ℕ → DevParts
without_requests p dd = record p { base = waits_aborted p dd; table = requests_dropped p.table dd }

abbrev pub now_closing : Option Opened → Option Opened
now_closing None = None
now_closing (Some opened) = Some (record opened { closing = true })

-- a request that is with the driver is asked to abort, and the caller waits for its ending
abbrev pub close_begun : DevParts → ℕ → ℕ → DevDone
close_begun p t dd = waits p t (close_object dd) (negsuc 0)
    (asked (with_open p.table dd (now_closing (opened_at p.table dd))) (device_of p.table dd))

abbrev pub closed_or_begun : Bool → DevParts → ℕ → ℕ → DevDone
closed_or_begun false p t dd = answers (with_table p (with_open p.table dd None)) (pos 0)
closed_or_begun true p t dd = close_begun p t dd

abbrev pub close_checks : DevParts → Who → ℤ → List Check
close_checks p who descriptor =
    (within 1 32 descriptor otherwise er.Id)
    ∷ (allows p.base.flags who MayWait otherwise er.Ctx)
    ∷ (is_open p.table (natural descriptor) otherwise er.Id)
    ∷ []

-- `tk_cls_dev`: the waits on a descriptor and its requests end, and it is free once no driver has one of them
unfoldable pub close_device : DevParts → Who → ℤ → DevDone
close_device p who descriptor = device_checked (close_checks p who descriptor) p
    (closed_or_begun (is_with_driver p.table (natural descriptor)) (without_requests p (natural descriptor)) (caller who) (natural descriptor))

-- ---- suspension

-- one of the four words, and TD_FORCE beside TD_SUSPEND alone
abbrev pub is_suspend_mode : SuspendMode → Bool
is_suspend_mode mode =
    ((mode.td_suspend && not (mode.td_dissus || (mode.td_enasus || mode.td_check)))
    || (not mode.td_suspend && one_of_three mode.td_dissus mode.td_enasus mode.td_check))
    && (mode.td_suspend || not mode.td_force)

abbrev pub suspension_waiters : DevParts → List ℕ
suspension_waiters p = fifo_queue p.base suspension_object

-- whether the devices may be suspended: it isn't disabled, or is forced, and no other task waits for that
abbrev pub may_suspend : DevParts → SuspendMode → Bool
may_suspend p mode = (p.table.off == 0 || mode.td_force) && not (is_any_task (suspension_waiters p))

abbrev pub suspend_checks : DevParts → Who → SuspendMode → List Check
suspend_checks p who mode =
    (is_suspend_mode mode otherwise er.Par)
    ∷ (allows p.base.flags who MayWait otherwise er.Ctx)
    ∷ (not (mode.td_dissus && p.table.off == most_requests) otherwise er.QOvr)
    ∷ (not mode.td_suspend || may_suspend p mode otherwise er.Busy)
    ∷ []

-- a call that sets how often suspending is disabled, and answers that
abbrev pub counted : DevParts → ℕ → DevDone
counted p off = answers (with_table p (with_off p.table off)) (pos off)

-- the devices are suspended once no driver has a request
abbrev pub suspended : Bool → DevParts → ℕ → DevDone
suspended false p t = answers (events_sent p) (pos p.table.off)
suspended true p t = waits p t suspension_object (negsuc 0) p.table

abbrev pub suspend_effect : DevParts → ℕ → SuspendMode → DevDone
suspend_effect p t mode =
    if mode.td_suspend then suspended (any_given p.table) p t
    else (if mode.td_dissus then counted p (p.table.off + 1)
    else (if mode.td_enasus then counted p (p.table.off - 1) else counted p p.table.off))

-- `tk_sus_dev`: suspends the devices, disables or enables that, or asks
unfoldable pub suspend_devices : DevParts → Who → SuspendMode → DevDone
suspend_devices p who mode = device_checked (suspend_checks p who mode) p (suspend_effect p (caller who) mode)

-- a call on devices by its row
unfoldable pub device_call : DevParts → Who → DeviceCall → DevDone
device_call p who (call.OpnDev device mode) = open_device p device mode
device_call p who (call.ReaDev descriptor start address size timeout) = request p who false descriptor start address size timeout
device_call p who (call.WriDev descriptor start address size timeout) = request p who true descriptor start address size timeout
device_call p who (call.SreaDev descriptor start address size) = request_whole p who false descriptor start address size
device_call p who (call.SwriDev descriptor start address size) = request_whole p who true descriptor start address size
device_call p who (call.WaiDev descriptor id timeout) = wait_ending p who descriptor id timeout
device_call p who (call.ClsDev descriptor) = close_device p who descriptor
device_call p who (call.SusDev mode) = suspend_devices p who mode
device_call p who (call.RefDev device) = refer_device p device
