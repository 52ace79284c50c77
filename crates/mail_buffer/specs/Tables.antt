-- The tables have a slot for each ID, and a place for each task.
use Rattle.std.specs.Prelude.{ℕ, ◌≡◌, ◌≤◌, List, Option, None, length}
use Rattle.kernel_model.specs.Words.Orders.{entry}
use Rattle.object_model.specs.Mails.Tables.{Mailbox, MessageBuffer, Mails, buffer_at}

-- every slot from a place on is free
pub record AreFreeFrom {A : Type 0} (used : ℕ) (slots : List (Option A)) : Type 0 where
  pub free : (id : ℕ) → used ≤ id → entry slots id ≡ None

-- there are no more slots for message buffers than there are IDs, and none has the ID 0
pub record AreNamed (m : Mails) : Type 0 where
  pub few : length m.buffers ≤ 65
  pub unnamed : buffer_at m 0 ≡ None

-- what was ever written of a table lies before the place up to which it is used, and no message buffer has the ID 0
pub record AreTables (boxes : List (Option Mailbox)) (buffers : List (Option MessageBuffer)) (sending : List (List ℕ)) (into : List ℕ) (boxes_used buffers_used : ℕ) : Type 0 where
  pub all_boxes : length boxes ≡ 65
  pub all_buffers : length buffers ≡ 65
  pub all_sending : length sending ≡ 256
  pub all_into : length into ≡ 256
  pub used_boxes : boxes_used ≤ 65
  pub used_buffers : buffers_used ≤ 65
  pub free_boxes : AreFreeFrom boxes_used boxes
  pub free_buffers : AreFreeFrom buffers_used buffers
  pub unnamed : entry buffers 0 ≡ None
