-- What lies in a message buffer takes no more than its size, whatever happens.
use Rattle.std.proofs.Common.{◌≡◌, ℕ, zero, suc, ◌+◌, ◌≤◌, true, List, [], ◌∷◌, ◌++◌, Option, Some, None, length, refl, ap, sym, subst, arith}
use Rattle.std.specs.Prelude.{replicate}
use Rattle.std.proofs.lemmas.Bool.Decides.{nat_tests}
use Rattle.std.proofs.lemmas.List.Sums.{sum_by-cons, sum_by_push}
use Rattle.kernel_lemmas.proofs.Tables.{entry_each, entry_same}
use Rattle.kernel_model.specs.Words.Orders.{entry}
use Rattle.object_model.specs.Mails.Tables.{MessageBuffer, Mails, mails_start, buffer_at, with_buffer}
use Rattle.object_model.specs.Mails.Buffers.{space_of, space_taken, has_space}
use Rattle.object_model.specs.Mails.Calls.{new_buffer}
use Rattle.mail_laws.specs.Rooms.{HasRoom, HaveRoom}
use Rattle.mail_laws.proofs.Keeps.{IsKept}

-- ---- one buffer

-- a message that fits leaves room, and so does taking the oldest one
fits_room : (k : MessageBuffer) (bytes : List ℕ) → has_space k bytes ≡ true → space_taken (k.messages ++ bytes ∷ []) ≤ k.size
fits_room k bytes fits =
    let more : space_taken (k.messages ++ bytes ∷ []) ≡ space_taken k.messages + space_of (length bytes) = sum_by_push (λ (message : List ℕ). space_of (length message)) k.messages bytes in
    let below : space_taken k.messages + space_of (length bytes) ≤ k.size = grind (arith, nat_tests, fits) in
    omega (arith, more, below)

taken_room : (k : MessageBuffer) (oldest : List ℕ) (later : List (List ℕ)) → k.messages ≡ oldest ∷ later → space_taken k.messages ≤ k.size → space_taken later ≤ k.size
taken_room k oldest later is room =
    let all : space_taken (oldest ∷ later) ≡ space_of (length oldest) + space_taken later = sum_by-cons (λ (message : List ℕ). space_of (length message)) oldest later in
    let here : space_taken k.messages ≡ space_taken (oldest ∷ later) = ap space_taken is in
    omega (arith, all, here, room)

-- ---- a table

-- writing a buffer that has room
written : (m : Mails) (id : ℕ) (slot : Option MessageBuffer) → HaveRoom m → HasRoom slot → HaveRoom (with_buffer m id slot)
written m id slot rooms room = entry_each (λ j (o : Option MessageBuffer). HasRoom o) m.buffers id slot (entry_same HasRoom m.buffers id slot room tt) (λ j apart. rooms j)

slot_room : (m : Mails) (id : ℕ) (k : MessageBuffer) → HaveRoom m → buffer_at m id ≡ Some k → space_taken k.messages ≤ k.size
slot_room m id k rooms at = subst HasRoom at (rooms id)

-- every call and every serving leaves room
pub room_kept : IsKept HaveRoom
room_kept = record {
  to_send = λ m t bytes rooms. rooms;
  to_receive = λ m t address rooms. rooms;
  stored = λ m id k bytes at fits rooms. written m id (Some (record k { messages = k.messages ++ bytes ∷ [] })) rooms (fits_room k bytes fits);
  taken = λ m id k oldest later at is rooms. written m id (Some (record k { messages = later })) rooms (taken_room k oldest later is (slot_room m id k rooms at));
  new_buffer = λ m id attributes size most rooms. written m id (Some (new_buffer attributes size most)) rooms (omega arith);
  no_buffer = λ m id rooms. written m id None rooms tt;
  put = λ m id k message at rooms. rooms;
  rest = λ m id k first rest at is rooms. rooms;
  new_box = λ m id attributes rooms. rooms;
  no_box = λ m id rooms. rooms;
}

-- a table without a buffer has room
none_there : (n id : ℕ) → entry (replicate {A = Option MessageBuffer} n None) id ≡ None
none_there zero id = refl
none_there (suc n) zero = refl
none_there (suc n) (suc id) = none_there n id

pub start_room : HaveRoom mails_start
start_room id = subst HasRoom (sym (none_there 65 id)) tt
