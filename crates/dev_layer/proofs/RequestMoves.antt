-- The moves on requests, where what stands in the slot is known.
use Rattle.std.proofs.Common.{◌≡◌, ℕ, ◌+◌, ◌-◌, Bool, true, false, List, [], ◌∷◌, ◌++◌, Option, Some, None, refl, ap, sym, ◌∙◌, arith, length}
use Rattle.std.specs.Prelude.{slice_set}
use Rattle.tk_types.specs.declared.error_code.Er.{Er}
use Rattle.kernel_model.specs.Words.Orders.{entry, without}
use Rattle.device_model.specs.declared.rows.Life.{Life}
use Rattle.device_model.specs.declared.rows.Life.TheVariants.{AtDriver, Ended, Queued}
use Rattle.device_model.specs.declared.messages.Request.{Request}
use Rattle.device_model.specs.Devices.Tables.{Row, has_ended, is_at_driver, is_queued, joined, request_of}
use Rattle.device_model.specs.RoomyBytes.{RoomyBytes, bytes_within}
use Rattle.device_model.specs.Units.Function.{IsWhole}
use Rattle.dev_layer.specs.Requests.{Requests, accepted_slot, ended_slot, handed_slot, life_test, queues_some, request_accepted, request_ended, request_handed}

pub accepted_at : (rq now : Requests) (id serial : ℕ) (given row : Row) (queued ended : List ℕ) → rq ≡ now → entry rq.rows id ≡ None → row ≡ record given { serial = rq.serial } →
    queued ≡ joined (is_queued given.life) id rq.queued → ended ≡ joined (has_ended given.life) id rq.ended → serial ≡ rq.serial + 1 →
    record { rows = slice_set rq.rows id (Some row); queued = queued; ended = ended; serial = serial } ≡ request_accepted now id given
accepted_at rq now id serial given row queued ended is free has waits ends next =
    ap (λ r. record { rows = slice_set rq.rows id (Some r); queued = queued; ended = ended; serial = serial }) has
    ∙ ap (λ ids. record { rows = slice_set rq.rows id (Some (record given { serial = rq.serial })); queued = ids; ended = ended; serial = serial }) waits
    ∙ ap (λ ids. record { rows = slice_set rq.rows id (Some (record given { serial = rq.serial })); queued = joined (is_queued given.life) id rq.queued; ended = ids; serial = serial }) ends
    ∙ ap (λ n. record { rows = slice_set rq.rows id (Some (record given { serial = rq.serial })); queued = joined (is_queued given.life) id rq.queued; ended = joined (has_ended given.life) id rq.ended; serial = n }) next
    ∙ ap (λ slot. accepted_slot slot rq id given) (sym free)
    ∙ ap (λ r. request_accepted r id given) is

pub handed_at : (rq now : Requests) (id : ℕ) (given row : Row) (queued : List ℕ) → rq ≡ now → entry rq.rows id ≡ Some given → row ≡ record given { bytes = []; life = AtDriver } → queued ≡ without id rq.queued →
    record { rows = slice_set rq.rows id (Some row); queued = queued; ended = rq.ended; serial = rq.serial } ≡ request_handed now id
handed_at rq now id given row queued is there has taken =
    ap (λ r. record { rows = slice_set rq.rows id (Some r); queued = queued; ended = rq.ended; serial = rq.serial }) has
    ∙ ap (λ ids. record { rows = slice_set rq.rows id (Some (record given { bytes = []; life = AtDriver })); queued = ids; ended = rq.ended; serial = rq.serial }) taken
    ∙ ap (λ slot. handed_slot slot rq id) (sym there)
    ∙ ap (λ r. request_handed r id) is

pub handed_none : (rq now : Requests) (id : ℕ) (rows : List (Option Row)) → rq ≡ now → rows ≡ rq.rows → entry rq.rows id ≡ None →
    record { rows = rows; queued = rq.queued; ended = rq.ended; serial = rq.serial } ≡ request_handed now id
handed_none rq now id rows is same none =
    ap (λ all. record { rows = all; queued = rq.queued; ended = rq.ended; serial = rq.serial }) same
    ∙ ap (λ slot. handed_slot slot rq id) (sym none) ∙ ap (λ r. request_handed r id) is

pub ended_none : (rq now : Requests) (id size : ℕ) (error : Er) (rows : List (Option Row)) → rq ≡ now → rows ≡ rq.rows → entry rq.rows id ≡ None →
    record { rows = rows; queued = rq.queued; ended = rq.ended; serial = rq.serial } ≡ request_ended now id size error
ended_none rq now id size error rows is same none =
    ap (λ all. record { rows = all; queued = rq.queued; ended = rq.ended; serial = rq.serial }) same
    ∙ ap (λ slot. ended_slot slot rq id size error) (sym none) ∙ ap (λ r. request_ended r id size error) is

not_there : (rq : Requests) (id size : ℕ) (error : Er) (row : Row) (b : Bool) → is_at_driver row.life ≡ b → b ≡ false → ended_slot (Some row) rq id size error ≡ rq
not_there rq id size error row b is not_so = rw (is ∙ not_so) refl

pub ended_elsewhere : (rq now : Requests) (id size : ℕ) (error : Er) (row : Row) (rows : List (Option Row)) → rq ≡ now → rows ≡ rq.rows → entry rq.rows id ≡ Some row → is_at_driver row.life ≡ false →
    record { rows = rows; queued = rq.queued; ended = rq.ended; serial = rq.serial } ≡ request_ended now id size error
ended_elsewhere rq now id size error row rows is same there not_so =
    ap (λ all. record { rows = all; queued = rq.queued; ended = rq.ended; serial = rq.serial }) same
    ∙ sym (not_there rq id size error row (is_at_driver row.life) refl not_so)
    ∙ ap (λ slot. ended_slot slot rq id size error) (sym there) ∙ ap (λ r. request_ended r id size error) is

is_there : (rq : Requests) (id size : ℕ) (error : Er) (row : Row) → is_at_driver row.life ≡ true →
    ended_slot (Some row) rq id size error ≡ record rq { rows = slice_set rq.rows id (Some (record row { life = Ended size error })); ended = rq.ended ++ id ∷ [] }
is_there rq id size error row so = rw so refl

pub ended_at : (rq now : Requests) (id size : ℕ) (error : Er) (given row : Row) (ended : List ℕ) → rq ≡ now → entry rq.rows id ≡ Some given → is_at_driver given.life ≡ true → row ≡ record given { life = Ended size error } → ended ≡ rq.ended ++ id ∷ [] →
    record { rows = slice_set rq.rows id (Some row); queued = rq.queued; ended = ended; serial = rq.serial } ≡ request_ended now id size error
ended_at rq now id size error given row ended is there so has behind =
    ap (λ r. record { rows = slice_set rq.rows id (Some r); queued = rq.queued; ended = ended; serial = rq.serial }) has
    ∙ ap (λ ids. record { rows = slice_set rq.rows id (Some (record given { life = Ended size error })); queued = rq.queued; ended = ids; serial = rq.serial }) behind
    ∙ sym (is_there rq id size error given so)
    ∙ ap (λ slot. ended_slot slot rq id size error) (sym there) ∙ ap (λ r. request_ended r id size error) is

pub same_row : (slots : List (Option Row)) (id : ℕ) (one other : Row) → entry slots id ≡ Some one → entry slots id ≡ Some other → one ≡ other
same_row slots id one other first second = cc (first, second)

-- a row that is known to wait
pub waits_in : (slot : Option Row) (row : Row) → slot ≡ Some row → queues_some slot ≡ true → is_queued row.life ≡ true
waits_in slot row there waits = ap queues_some (sym there) ∙ waits

-- the request that a driver gets is whole, where its row is full or empty
pub whole_request : (request : Request) (size : ℕ) (bytes : RoomyBytes) → request.bytes ≡ bytes → request.size ≡ size → bytes ≡ bytes_within size bytes.items →
    (request.write ≡ true → length bytes.items ≡ size) → (request.write ≡ false → bytes.items ≡ []) → IsWhole request
whole_request request size bytes is sized place full empty = record {
  size = λ write. ap (λ (b : RoomyBytes). length b.items) is ∙ full write ∙ sym sized;
  none = λ read. ap (λ (b : RoomyBytes). b.items) is ∙ empty read;
  room = λ read.
      let room : request.bytes.room ≡ size - length bytes.items = ap (λ (b : RoomyBytes). b.room) (is ∙ place) in
      let none : length bytes.items ≡ 0 = ap (λ (xs : List ℕ). length xs) (empty read) in
      omega (arith, sized, room, none);
}

life_not_ended : (life : Life) → is_queued life ≡ true → has_ended life ≡ false
life_not_ended Queued is = refl
life_not_ended AtDriver is = absurd (cc is)
life_not_ended (Ended size error) is = absurd (cc is)

-- what waits hasn't ended
pub queued_not_ended : (slot : Option Row) → queues_some slot ≡ true → life_test has_ended slot ≡ false
queued_not_ended None waits = refl
queued_not_ended (Some row) waits = life_not_ended row.life waits

pub request_is : (rows : List (Option Row)) (id number : ℕ) (row : Row) (request : Request) → entry rows id ≡ Some row → request ≡ request_of id number row → (other : Row) → entry rows id ≡ Some other → request ≡ request_of id number other
request_is rows id number row request there is other same = is ∙ ap (request_of id number) (same_row rows id row other there same)
