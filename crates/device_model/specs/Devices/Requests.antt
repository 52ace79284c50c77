-- How a request is accepted, and how its ending is claimed.
use Rattle.std.specs.Prelude.{ℕ, ◌+◌, ◌-◌, ◌==◌, Bool, true, false, not, ◌&&◌, ◌||◌, nat_lt, if◌then◌else◌, ℤ, pos, List, [], ◌∷◌, Option, Some, None, count_by, unwrap_or}
use Rattle.std.specs.List.{find}
use Rattle.std.specs.Ordering.{int_eq}
use Rattle.tk_types.specs.declared.answer.Answer.{Answer}
use Rattle.tk_types.specs.declared.error_code.Er.{Er}
use Rattle.tk_types.specs.declared.error_code.Er.TheVariants as er
use Rattle.tk_types.specs.Codes.{code_of}
use Rattle.kernel_model.specs.Words.Checks.{answer, plain}
use Rattle.object_model.specs.Mails.Tables.{has_mbf}
use Rattle.device_model.specs.declared.rows.Life.{Life}
use Rattle.device_model.specs.declared.rows.Life.TheVariants.{Queued, Ended}
use Rattle.device_model.specs.declared.rows.Transfer.{Transfer}
use Rattle.device_model.specs.declared.rows.Wish.{Wish}
use Rattle.device_model.specs.declared.rows.Wish.TheVariants as wish
use Rattle.device_model.specs.Devices.Memory.{read_bytes, write_bytes, four_bytes, number_of}
use Rattle.device_model.specs.Devices.Tables.{Row, Devices, row_at, buffer_of, has_ended, with_buffer, accepted}
use Rattle.device_model.specs.Devices.Endings.{DevParts}

-- the object for which tasks wait that want a request of theirs to be accepted by a device, and the one for an ending of
-- a descriptor's requests
abbrev pub acceptance_object : ℕ → ℕ
acceptance_object d = 575 + d

abbrev pub ending_object : ℕ → ℕ
ending_object dd = 584 + (dd - 1)

-- ---- acceptance

-- the most unfinished requests of a device
abbrev pub most_unfinished : ℕ
most_unfinished = 16

abbrev pub is_unfinished_on : ℕ → Option Row → Bool
is_unfinished_on d None = false
is_unfinished_on d (Some row) = row.device == d && not (has_ended row.life)

-- whether a device takes one request more
abbrev pub has_place : Devices → ℕ → Bool
has_place dv d = nat_lt (count_by (is_unfinished_on d) dv.rows) most_unfinished

-- a request as it is accepted; its serial is given then
abbrev pub row_of : ℕ → Transfer → List ℕ → Life → Row
row_of d transfer bytes life = record {
  serial = 0;
  descriptor = transfer.descriptor;
  device = d;
  write = transfer.write;
  start = unwrap_or transfer.start 0;
  size = transfer.size;
  address = transfer.address;
  bytes = bytes;
  life = life;
}

-- the bytes to write are copied when the request is accepted
abbrev pub copied : Transfer → List ℕ → List ℕ
copied transfer memory = if transfer.write then read_bytes transfer.size transfer.address memory else []

abbrev pub with_table : DevParts → Devices → DevParts
with_table p dv = record p { table = dv }

-- the ID of an event buffer is four bytes
abbrev pub buffer_size : ℕ
buffer_size = 4

-- 0 stands for no event buffer; else there is to be that message buffer
abbrev pub may_be_buffer : DevParts → ℕ → Bool
may_be_buffer p id = id == 0 || has_mbf p.mails id

abbrev pub set_buffer : DevParts → ℕ → ℕ → ℕ → Transfer → DevParts
set_buffer p d id buffer transfer =
    if may_be_buffer p buffer
    then with_table p (accepted (with_buffer p.table d buffer) id (row_of d transfer [] (Ended buffer_size er.Ok)))
    else with_table p (accepted p.table id (row_of d transfer [] (Ended 0 er.NoExs)))

abbrev pub shown_buffer : DevParts → ℕ → ℕ → Transfer → DevParts
shown_buffer p d id transfer = record p {
  table = accepted p.table id (row_of d transfer [] (Ended buffer_size er.Ok));
  memory = write_bytes (four_bytes (buffer_of p.table d)) transfer.address p.memory;
}

-- a request for the device's event buffer ends as it is accepted, without the driver
abbrev pub accept_event : DevParts → ℕ → ℕ → Transfer → DevParts
accept_event p d id transfer =
    if transfer.size == 0 then with_table p (accepted p.table id (row_of d transfer [] (Ended buffer_size er.Ok)))
    else (if transfer.size == buffer_size
    then (if transfer.write
    then set_buffer p d id (number_of (read_bytes buffer_size transfer.address p.memory)) transfer
    else shown_buffer p d id transfer)
    else with_table p (accepted p.table id (row_of d transfer [] (Ended 0 er.Par))))

abbrev pub accept_from : Option ℕ → DevParts → ℕ → ℕ → Transfer → DevParts
accept_from None p d id transfer = accept_event p d id transfer
accept_from (Some start) p d id transfer =
    with_table p (accepted p.table id (row_of d transfer (copied transfer p.memory) Queued))

-- a request is accepted by a device under an ID
unfoldable pub accept : DevParts → ℕ → ℕ → Transfer → DevParts
accept p d id transfer = accept_from transfer.start p d id transfer

-- ---- claims

-- whether a request of a descriptor has ended
abbrev pub has_ended_of : ℕ → Option Row → Bool
has_ended_of dd None = false
has_ended_of dd (Some row) = row.descriptor == dd && has_ended row.life

-- the same of the one with that serial
abbrev pub has_ended_with : ℕ → ℕ → Option Row → Bool
has_ended_with dd serial None = false
has_ended_with dd serial (Some row) = row.serial == serial && (row.descriptor == dd && has_ended row.life)

-- the ended request of a descriptor that fulfils a wish: the very one, or of all the earliest
unfoldable pub picked : Devices → ℕ → Wish → Option ℕ
picked dv dd (wish.Ending id serial own) = if has_ended_with dd serial (row_at dv id) then Some id else None
picked dv dd wish.AnyEnding = find (λ id. has_ended_of dd (row_at dv id)) dv.ended
picked dv dd _ = None

-- what a call that stayed for its own request answers: the size, or the error
abbrev pub own_value : ℕ → Er → ℤ
own_value size error = if int_eq (code_of error) (pos 0) then pos size else code_of error

abbrev pub is_own : Wish → Bool
is_own (wish.Ending id serial own) = own
is_own _ = false

abbrev pub claimed_life : Bool → ℕ → Life → Answer
claimed_life true id (Ended size error) = plain (own_value size error)
claimed_life false id (Ended size error) = answer (pos id) (pos size ∷ code_of error ∷ [])
claimed_life own id _ = plain (pos 0)

abbrev pub claimed_row : Bool → ℕ → Option Row → Answer
claimed_row own id None = plain (pos 0)
claimed_row own id (Some row) = claimed_life own id row.life

-- the answer by which an ending is claimed: else the request's ID, with its size and error
abbrev pub claimed : Devices → Bool → ℕ → Answer
claimed dv own id = claimed_row own id (row_at dv id)
