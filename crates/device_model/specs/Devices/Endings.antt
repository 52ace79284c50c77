-- Endings: which of them is fit, and what its arrival does.
use Rattle.std.specs.Prelude.{ℕ, ◌+◌, ◌-◌, ◌==◌, Bool, true, false, ◌&&◌, if◌then◌else◌, bytes_eq, List, [], ◌∷◌, ◌++◌, Option, Some, None, slice_set}
use Rattle.std.specs.Ordering.{int_eq}
use Rattle.tk_types.specs.declared.error_code.Er.{Er}
use Rattle.tk_types.specs.declared.line.How.{How}
use Rattle.tk_types.specs.declared.line.How.TheVariants.{Done, Cut}
use Rattle.tk_types.specs.declared.script.Kind.{Kind}
use Rattle.tk_types.specs.Codes.{code_of}
use Rattle.kernel_model.specs.Tasks.Base.{Base, fifo_queue}
use Rattle.object_model.specs.Mails.Tables.{Mails}
use Rattle.device_model.specs.declared.messages.Ending.{Ending}
use Rattle.device_model.specs.declared.messages.Request.{Request}
use Rattle.device_model.specs.declared.rows.Life.TheVariants.{Ended}
use Rattle.device_model.specs.declared.rows.Opened.{Opened}
use Rattle.device_model.specs.RoomyBytes.{RoomyBytes, bytes_within}
use Rattle.device_model.specs.Units.Stores.{Store}
use Rattle.device_model.specs.Units.Function.{Served, unit, cut, may_cut}
use Rattle.device_model.specs.Devices.Memory.{write_bytes}
use Rattle.device_model.specs.Devices.Tables.{Given, Link, Row, Devices, link_at, opened_at, row_at, is_at_driver, with_open, dropped}

-- a base with the devices, the mailboxes and message buffers, and the script's memory
pub record DevParts : Type 0 where
  pub base : Base
  pub table : Devices
  pub mails : Mails
  pub memory : List ℕ

-- the object for which the closer of a descriptor waits
abbrev pub close_object : ℕ → ℕ
close_object dd = 616 + (dd - 1)

-- ---- which endings are fit

-- a request may end whole, and cut off only where its abort was asked, and between blocks
abbrev pub is_allowed : Kind → Store → Given → How → Bool
is_allowed kind store given Done = true
is_allowed kind store given (Cut count) = given.asked && may_cut kind store given.request count

-- what a unit does with a request that ends so
abbrev pub served_of : Kind → Store → Request → How → Served
served_of kind store request Done = unit kind store request
served_of kind store request (Cut count) = cut kind store request count

-- the bytes that were read, in the room that the request came with; a write brings none back
abbrev pub bytes_back : Request → List ℕ → RoomyBytes
bytes_back request content = bytes_within (if request.write then 0 else request.bytes.room) content

-- the ending of a request, by a driver that has taken no message
abbrev pub ending_of : ℕ → Request → How → Served → Ending
ending_of d request how served = record {
  device = d;
  request = request.id;
  number = request.number;
  how = how;
  size = served.size;
  error = served.error;
  taken = 0;
  bytes = bytes_back request served.content;
}

abbrev pub expected_given : ℕ → How → Link → Option Given → Option Ending
expected_given d how link None = None
expected_given d how link (Some given) =
    if is_allowed link.kind link.store given how
    then Some (ending_of d given.request how (served_of link.kind link.store given.request how))
    else None

abbrev pub expected_link : ℕ → How → Option Link → Option Ending
expected_link d how None = None
expected_link d how (Some link) = expected_given d how link link.given

-- the ending of that kind that is fit now for a device
unfoldable pub expected : Devices → ℕ → How → Option Ending
expected dv d how = expected_link d how (link_at dv d)

abbrev pub is_error : Er → Er → Bool
is_error one other = int_eq (code_of one) (code_of other)

-- whether an ending names the request, and says of it what its unit does; how many messages were taken plays no part
abbrev pub says : Ending → Request → Served → Bool
says ending request served =
    ending.request == request.id && (ending.number == request.number
    && (ending.size == served.size && (is_error ending.error served.error && bytes_eq ending.bytes.items served.content)))

abbrev pub is_fit : Ending → Link → Given → Bool
is_fit ending link given =
    is_allowed link.kind link.store given ending.how
    && says ending given.request (served_of link.kind link.store given.request ending.how)

-- ---- arriving

-- the store is that of the unit, the driver has no request, and the request has ended
abbrev pub ended_at : Devices → ℕ → Link → ℕ → Row → Served → Devices
ended_at dv d link id row served = record dv {
  links = slice_set dv.links d (Some (record link { store = served.store; given = None }));
  rows = slice_set dv.rows id (Some (record row { life = Ended served.size served.error }));
  ended = dv.ended ++ id ∷ [];
}

abbrev pub free_unless : List ℕ → Devices → ℕ → Devices
free_unless [] dv dd = with_open dv dd None
free_unless (t ∷ ts) dv dd = dv

abbrev pub closed_after : Base → Devices → ℕ → ℕ → Option Opened → Devices
closed_after b dv id dd None = dv
closed_after b dv id dd (Some opened) =
    if opened.closing then free_unless (fifo_queue b (close_object dd)) (dropped dv id) dd else dv

-- an ended request whose descriptor is being closed is let go at once, and the descriptor with it, where its closer no
-- longer waits
abbrev pub closed : Base → Devices → ℕ → ℕ → Devices
closed b dv id dd = closed_after b dv id dd (opened_at dv dd)

-- the bytes that were read land in the script's memory
abbrev pub landed : DevParts → ℕ → Link → ℕ → Row → Served → DevParts
landed p d link id row served = record p {
  table = closed p.base (ended_at p.table d link id row served) id row.descriptor;
  memory = write_bytes served.content row.address p.memory;
}

abbrev pub arrive_row : DevParts → ℕ → Link → ℕ → Served → Option Row → Option DevParts
arrive_row p d link id served None = None
arrive_row p d link id served (Some row) = if is_at_driver row.life then Some (landed p d link id row served) else None

abbrev pub arrive_fit : Bool → DevParts → Ending → Link → Given → Option DevParts
arrive_fit false p ending link given = None
arrive_fit true p ending link given =
    arrive_row p ending.device link given.request.id (served_of link.kind link.store given.request ending.how)
    (row_at p.table given.request.id)

abbrev pub arrive_given : DevParts → Ending → Link → Option Given → Option DevParts
arrive_given p ending link None = None
arrive_given p ending link (Some given) = arrive_fit (is_fit ending link given) p ending link given

abbrev pub arrive_link : DevParts → Ending → Option Link → Option DevParts
arrive_link p ending None = None
arrive_link p ending (Some link) = arrive_given p ending link link.given

-- an ending arrives, where it is fit
unfoldable pub arrive : DevParts → Ending → Option DevParts
arrive p ending = arrive_link p ending (link_at p.table ending.device)
