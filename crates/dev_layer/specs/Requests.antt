-- The requests by ID with the two orders in which they stand, and why no move on them needs memory.
use Rattle.std.specs.Prelude.{ℕ, ◌≡◌, ◌+◌, ◌≤◌, Bool, true, false, cond, if◌then◌else◌, List, [], ◌∷◌, ◌++◌, Option, Some, None, length, slice_set}
use Rattle.std.specs.List.{find}
use Rattle.tk_types.specs.declared.error_code.Er.{Er}
use Rattle.kernel_model.specs.LawWords.Once.{times}
use Rattle.kernel_model.specs.Words.Orders.{entry, without}
use Rattle.device_model.specs.declared.rows.Life.{Life}
use Rattle.device_model.specs.declared.rows.Life.TheVariants.{AtDriver, Ended}
use Rattle.device_model.specs.RoomyBytes.{RoomyBytes, bytes_within}
use Rattle.device_model.specs.Devices.Tables.{Row, has_ended, is_queued, is_at_driver, joined, queues_on}

-- an ended request has moved no more bytes than there are
abbrev pub IsShort : Life → Type 0
IsShort (Ended size error) = size ≤ 65536
IsShort _ = Unit {0}

-- a request: its bytes lie inside the script's memory. One that waits for its driver has a place for all of them, twice; that of
-- a write is full, and that of a read is empty
pub record IsRow (descriptor address size : ℕ) (write : Bool) (bytes copy : RoomyBytes) (life : Life) : Type 0 where
  pub descriptor_small : descriptor ≤ 32
  pub inside : address + size ≤ 65536
  pub place : is_queued life ≡ true → bytes ≡ bytes_within size bytes.items
  pub full : is_queued life ≡ true → write ≡ true → length bytes.items ≡ size
  pub empty : is_queued life ≡ true → write ≡ false → bytes.items ≡ []
  pub alike : copy ≡ bytes
  pub short : IsShort life

-- the part of the devices that has their requests
pub record Requests : Type 0 where
  pub rows : List (Option Row)
  pub queued : List ℕ
  pub ended : List ℕ
  pub serial : ℕ

abbrev pub life_test : (Life → Bool) → Option Row → Bool
life_test test None = false
life_test test (Some row) = test row.life

-- each ID stands in an order once at most, and only where its request is in that part of its life
pub record AreListed (test : Life → Bool) (rows : List (Option Row)) (ids : List ℕ) : Type 0 where
  pub listed : (id : ℕ) → times id ids ≤ cond (life_test test (entry rows id)) 1 0

pub record AreRequests (rows : List (Option Row)) (queued ended : List ℕ) (queued_room ended_room : ℕ) : Type 0 where
  pub slots : length rows ≡ 65
  pub waiting : AreListed is_queued rows queued
  pub done : AreListed has_ended rows ended
  pub room_waiting : 65 ≤ queued_room
  pub room_done : 65 ≤ ended_room

-- ---- the moves on requests, as they stand in those of the devices

abbrev pub accepted_slot : Option Row → Requests → ℕ → Row → Requests
accepted_slot (Some other) rq id row = rq
accepted_slot None rq id row = record rq {
  rows = slice_set rq.rows id (Some (record row { serial = rq.serial }));
  queued = joined (is_queued row.life) id rq.queued;
  ended = joined (has_ended row.life) id rq.ended;
  serial = rq.serial + 1;
}

-- a request takes an ID that is free, and the next serial
abbrev pub request_accepted : Requests → ℕ → Row → Requests
request_accepted rq id row = accepted_slot (entry rq.rows id) rq id row

abbrev pub dropped_slot : Option Row → Requests → ℕ → Requests
dropped_slot None rq id = rq
dropped_slot (Some row) rq id =
    if is_at_driver row.life then rq
    else record rq { rows = slice_set rq.rows id None; queued = without id rq.queued; ended = without id rq.ended }

-- a request is let go, unless it is with a driver
abbrev pub request_dropped : Requests → ℕ → Requests
request_dropped rq id = dropped_slot (entry rq.rows id) rq id

abbrev pub handed_slot : Option Row → Requests → ℕ → Requests
handed_slot None rq id = rq
handed_slot (Some row) rq id = record rq { rows = slice_set rq.rows id (Some (record row { bytes = []; life = AtDriver })); queued = without id rq.queued }

-- a request goes to its driver
abbrev pub request_handed : Requests → ℕ → Requests
request_handed rq id = handed_slot (entry rq.rows id) rq id

abbrev pub ended_slot : Option Row → Requests → ℕ → ℕ → Er → Requests
ended_slot None rq id size error = rq
ended_slot (Some row) rq id size error =
    if is_at_driver row.life then record rq { rows = slice_set rq.rows id (Some (record row { life = Ended size error })); ended = rq.ended ++ id ∷ [] } else rq

-- a request that is with a driver has ended
abbrev pub request_ended : Requests → ℕ → ℕ → Er → Requests
request_ended rq id size error = ended_slot (entry rq.rows id) rq id size error

-- the first request that waits for the driver of a device
abbrev pub first_waiting : Requests → ℕ → Option ℕ
first_waiting rq d = find (λ id. queues_on d (entry rq.rows id)) rq.queued

-- whether a slot has a request that waits for its driver
abbrev pub queues_some : Option Row → Bool
queues_some None = false
queues_some (Some row) = is_queued row.life
