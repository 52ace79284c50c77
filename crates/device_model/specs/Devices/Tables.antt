-- Devices, descriptors and requests: their table, and the moves on it. All else is made of these moves. Each is guarded: where
-- it can't be done it changes nothing. Two more stand apart: the arrival of an ending, and the taking of messages to drivers.
use Rattle.std.specs.Prelude.{ℕ, ◌+◌, ◌==◌, Bool, true, false, ◌&&◌, if◌then◌else◌, List, [], ◌∷◌, ◌++◌, Option, Some, None, map, replicate, slice_index, slice_set, drop}
use Rattle.std.specs.List.{find, slice_index_or}
use Rattle.tk_types.specs.declared.script.Device.{Device}
use Rattle.tk_types.specs.declared.script.Kind.{Kind}
use Rattle.tk_types.specs.declared.script.Script.{Script}
use Rattle.kernel_model.specs.Words.Orders.{entry, free_from, taken_from, without}
use Rattle.device_model.specs.declared.messages.Message.{Message}
use Rattle.device_model.specs.declared.messages.Message.TheVariants as message
use Rattle.device_model.specs.declared.messages.Request.{Request}
use Rattle.device_model.specs.declared.rows.Life.{Life}
use Rattle.device_model.specs.declared.rows.Life.TheVariants.{Queued, AtDriver, Ended}
use Rattle.device_model.specs.declared.rows.Opened.{Opened}
use Rattle.device_model.specs.declared.rows.Wish.{Wish}
use Rattle.device_model.specs.declared.rows.Wish.TheVariants.{Nothing}
use Rattle.device_model.specs.RoomyBytes.{bytes_within}
use Rattle.device_model.specs.Units.Stores.{Store, store_start}

-- the request that is with a driver, and whether it was asked to abort it
pub record Given : Type 0 where
  pub request : Request
  pub asked : Bool

-- all that the kernel has to do with the driver of a device
pub record Link : Type 0 where
  pub kind : Kind
  pub store : Store
  pub given : Option Given
  pub number : ℕ  -- requests that were handed over so far
  pub out : List Message  -- messages that weren't taken yet

-- a request. The bytes of a write stand in it until it is handed over
pub record Row : Type 0 where
  pub serial : ℕ  -- no other request ever has it
  pub descriptor : ℕ
  pub device : ℕ
  pub write : Bool
  pub start : ℕ
  pub size : ℕ
  pub address : ℕ  -- where in the script's memory bytes that are read go
  pub bytes : List ℕ
  pub life : Life

pub record Devices : Type 0 where
  pub links : List (Option Link)  -- by device
  pub buffers : List ℕ  -- by device, 9 slots: the ID of its event buffer, or 0
  pub off : ℕ  -- how often suspending is disabled
  pub opened : List (Option Opened)  -- by descriptor, 33 slots
  pub rows : List (Option Row)  -- the requests by ID, 65 slots
  pub queued : List ℕ  -- those that wait for a driver, in the order of their acceptance
  pub ended : List ℕ  -- those that have ended, in that order
  pub serial : ℕ  -- the serial of the next one
  pub wishes : List Wish  -- by task: what it asked for when it last waited for a device

-- ---- reading

abbrev pub link_at : Devices → ℕ → Option Link
link_at dv d = entry dv.links d

abbrev pub opened_at : Devices → ℕ → Option Opened
opened_at dv dd = entry dv.opened dd

abbrev pub row_at : Devices → ℕ → Option Row
row_at dv id = entry dv.rows id

abbrev pub buffer_of : Devices → ℕ → ℕ
buffer_of dv d = slice_index dv.buffers d

abbrev pub wish_of : Devices → ℕ → Wish
wish_of dv t = slice_index_or dv.wishes t Nothing

-- the devices that there are, by rising ID
abbrev pub device_ids : Devices → List ℕ
device_ids dv = taken_from 1 (drop 1 dv.links)

-- the least free descriptor, and the least free request ID; 0 where none is free
unfoldable pub free_descriptor : Devices → ℕ
free_descriptor dv = free_from 1 (drop 1 dv.opened)

unfoldable pub free_request : Devices → ℕ
free_request dv = free_from 1 (drop 1 dv.rows)

abbrev pub is_queued : Life → Bool
is_queued Queued = true
is_queued _ = false

abbrev pub is_at_driver : Life → Bool
is_at_driver AtDriver = true
is_at_driver _ = false

abbrev pub has_ended : Life → Bool
has_ended (Ended size error) = true
has_ended _ = false

-- whether a request waits for the driver of a device
abbrev pub queues_on : ℕ → Option Row → Bool
queues_on d None = false
queues_on d (Some row) = row.device == d && is_queued row.life

-- the first request that waits for the driver of a device
unfoldable pub first_queued : Devices → ℕ → Option ℕ
first_queued dv d = find (λ id. queues_on d (row_at dv id)) dv.queued

abbrev pub given_in : Option Link → Option Given
given_in None = None
given_in (Some link) = link.given

abbrev pub request_in : Option Given → Option ℕ
request_in None = None
request_in (Some given) = Some given.request.id

-- the request that is with the driver of a device
unfoldable pub at_driver : Devices → ℕ → Option ℕ
at_driver dv d = request_in (given_in (link_at dv d))

-- ---- moves

-- a descriptor is taken, is being closed, or is free again
abbrev pub with_open : Devices → ℕ → Option Opened → Devices
with_open dv dd slot = record dv { opened = slice_set dv.opened dd slot }

-- a task asks for something
abbrev pub with_wish : Devices → ℕ → Wish → Devices
with_wish dv t wish = record dv { wishes = slice_set dv.wishes t wish }

-- a device has another event buffer
abbrev pub with_buffer : Devices → ℕ → ℕ → Devices
with_buffer dv d id = record dv { buffers = slice_set dv.buffers d id }

-- suspending is disabled so many times
abbrev pub with_off : Devices → ℕ → Devices
with_off dv off = record dv { off = off }

-- the IDs with one more behind the last, where it belongs there
abbrev pub joined : Bool → ℕ → List ℕ → List ℕ
joined belongs id ids = if belongs then ids ++ id ∷ [] else ids

abbrev pub accepted_in : Option Row → Devices → ℕ → Row → Devices
accepted_in (Some other) dv id row = dv
accepted_in None dv id row = record dv {
  rows = slice_set dv.rows id (Some (record row { serial = dv.serial }));
  queued = joined (is_queued row.life) id dv.queued;
  ended = joined (has_ended row.life) id dv.ended;
  serial = dv.serial + 1;
}

-- a request takes an ID that is free, and the next serial
unfoldable pub accepted : Devices → ℕ → Row → Devices
accepted dv id row = accepted_in (row_at dv id) dv id row

abbrev pub dropped_in : Option Row → Devices → ℕ → Devices
dropped_in None dv id = dv
dropped_in (Some row) dv id =
    if is_at_driver row.life then dv
    else record dv { rows = slice_set dv.rows id None; queued = without id dv.queued; ended = without id dv.ended }

-- a request is let go, unless it is with a driver
unfoldable pub dropped : Devices → ℕ → Devices
dropped dv id = dropped_in (row_at dv id) dv id

-- a request as its driver gets it: there is room for as many bytes as it moves at most
abbrev pub request_of : ℕ → ℕ → Row → Request
request_of id number row = record {
  id = id;
  number = number;
  write = row.write;
  start = row.start;
  size = row.size;
  bytes = bytes_within row.size row.bytes;
}

abbrev pub link_handed : ℕ → Link → Request → Link
link_handed d link request = record link {
  given = Some (record { request = request; asked = false });
  number = link.number + 1;
  out = link.out ++ message.Serve d request ∷ [];
}

abbrev pub handed_row : Devices → ℕ → Link → ℕ → Option Row → Devices
handed_row dv d link id None = dv
handed_row dv d link id (Some row) = record dv {
  links = slice_set dv.links d (Some (link_handed d link (request_of id (link.number + 1) row)));
  rows = slice_set dv.rows id (Some (record row { bytes = []; life = AtDriver }));
  queued = without id dv.queued;
}

abbrev pub handed_first : Devices → ℕ → Link → Option ℕ → Devices
handed_first dv d link None = dv
handed_first dv d link (Some id) = handed_row dv d link id (row_at dv id)

abbrev pub handed_given : Devices → ℕ → Link → Option Given → Devices
handed_given dv d link (Some given) = dv
handed_given dv d link None = handed_first dv d link (first_queued dv d)

abbrev pub handed_link : Devices → ℕ → Option Link → Devices
handed_link dv d None = dv
handed_link dv d (Some link) = handed_given dv d link link.given

-- the first request that waits for a driver goes to it, where it has none
unfoldable pub handed : Devices → ℕ → Devices
handed dv d = handed_link dv d (link_at dv d)

abbrev pub link_asked : ℕ → Link → Given → Link
link_asked d link given = record link {
  given = Some (record given { asked = true });
  out = link.out ++ message.Abort d given.request.number ∷ [];
}

abbrev pub asked_given : Devices → ℕ → Link → Option Given → Devices
asked_given dv d link None = dv
asked_given dv d link (Some given) =
    if given.asked then dv else record dv { links = slice_set dv.links d (Some (link_asked d link given)) }

abbrev pub asked_link : Devices → ℕ → Option Link → Devices
asked_link dv d None = dv
asked_link dv d (Some link) = asked_given dv d link link.given

-- the driver of a device is asked to abort the request that it has, once
unfoldable pub asked : Devices → ℕ → Devices
asked dv d = asked_link dv d (link_at dv d)

-- ---- the start

abbrev pub link_start : Device → Option Link
link_start device = Some (record { kind = device.kind; store = store_start device.kind; given = None; number = 0; out = [] })

-- the devices of a script have the IDs 1, 2, .. in order; nothing is open
unfoldable pub devices_start : Script → Devices
devices_start script = record {
  links = None ∷ map link_start script.devices;
  buffers = replicate 9 0;
  off = 0;
  opened = replicate 33 None;
  rows = replicate 65 None;
  queued = [];
  ended = [];
  serial = 0;
  wishes = replicate 256 Nothing;
}
