-- The base and the script's memory beside the tables, as parts of one state, and what the crate asks of them.
use Rattle.std.specs.Prelude.{ℕ, ◌≡◌, ◌≤◌, ◌-◌, true, nat_le, nat_lt, ◌&&◌, if◌then◌else◌, length, List, Option, Some, None}
use Rattle.tk_types.specs.declared.answer.Outcome.{Outcome}
use Rattle.tk_types.specs.declared.calls.MailCall.{MailCall}
use Rattle.tk_types.specs.declared.calls.MailCall.TheVariants as call
use Rattle.tk_types.specs.declared.task.Order.TheVariants.{Fifo}
use Rattle.kernel_model.specs.Tasks.Base.{Base, waits_for}
use Rattle.kernel_model.specs.Tasks.Queues.{AreOfOrder}
use Rattle.object_model.specs.Mails.Tables.{Mailbox, MessageBuffer, Mails, MailParts, box_at, buffer_at, box_object, senders_object, receivers_object, bytes_of, place_of}
use Rattle.object_model.specs.Mails.Boxes.{serve_box}
use Rattle.object_model.specs.Mails.Buffers.{serve_buffer, takes_length}
use Rattle.object_model.specs.Mails.Calls.{MailDone, has_place}

abbrev pub parts_of : Base → Mails → List ℕ → MailParts
parts_of b m memory = record { base = b; table = m; memory = memory }

-- what a call leaves of a state, and its outcome
abbrev pub left_with : Base → Mails → List ℕ → Outcome → MailDone
left_with b m memory outcome = record { base = b; table = m; memory = memory; outcome = outcome }

-- the waiters of each mailbox and the senders of each message buffer queue as its attributes say, and the receivers of each in
-- the order in which they began to wait
pub record AreQueued (b : Base) (m : Mails) : Type 0 where
  pub boxes : (id : ℕ) (k : Mailbox) → 1 ≤ id → id ≤ 64 → box_at m id ≡ Some k → AreOfOrder k.order b (box_object id)
  pub senders : (id : ℕ) (k : MessageBuffer) → 1 ≤ id → id ≤ 64 → buffer_at m id ≡ Some k → AreOfOrder k.order b (senders_object id)
  pub receivers : (id : ℕ) (k : MessageBuffer) → 1 ≤ id → id ≤ 64 → buffer_at m id ≡ Some k → AreOfOrder Fifo b (receivers_object id)

-- whoever waits as a sender of a message buffer sends as many bytes as it takes, and whoever waits as a receiver has a place for
-- its longest message
pub record HaveAsked (b : Base) (m : Mails) : Type 0 where
  pub senders : (id t : ℕ) (k : MessageBuffer) → 1 ≤ id → id ≤ 64 → buffer_at m id ≡ Some k → waits_for b (senders_object id) t ≡ true → takes_length (length (bytes_of m t)) k ≡ true
  pub receivers : (id t : ℕ) (k : MessageBuffer) → 1 ≤ id → id ≤ 64 → buffer_at m id ≡ Some k → waits_for b (receivers_object id) t ≡ true → has_place (place_of m t) k ≡ true

-- one waiter of the object with that number is served, where one can be: mailboxes have the numbers from 192 on, message
-- buffers, by their senders, those from 320 on
abbrev pub serve_object : MailParts → ℕ → Option MailParts
serve_object p object =
    if nat_le 192 object && nat_lt object 256 then serve_box p (object - 191)
    else (if nat_le 320 object && nat_lt object 384 then serve_buffer p (object - 319) else None)

-- the calls that take memory of the host
abbrev pub TakesMemory : MailCall → Type 0
TakesMemory (call.SndMbx id priority value) = Unit {0}
TakesMemory (call.CreMbf attributes size most) = Unit {0}
TakesMemory (call.SndMbf id address n timeout) = Unit {0}
TakesMemory _ = ⊥
