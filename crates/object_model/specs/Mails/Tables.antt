-- Mailboxes and message buffers: their table, and the numbers of their objects.
use Rattle.std.specs.Prelude.{ℕ, ◌+◌, Bool, List, [], Option, None, replicate, slice_set, slice_index}
use Rattle.std.specs.Option.{is_some}
use Rattle.std.specs.List.{slice_index_or}
use Rattle.tk_types.specs.declared.task.Order.{Order}
use Rattle.kernel_model.specs.Words.Orders.{entry}
use Rattle.kernel_model.specs.Tasks.Base.{Base}
use Rattle.object_model.specs.declared.mails.Message.{Message}

-- a mailbox: how its waiters queue, whether its messages go by their priority, and the messages that lie in it, the one
-- that goes first in front
pub record Mailbox : Type 0 where
  pub order : Order
  pub by_priority : Bool
  pub messages : List Message

-- a message buffer: how its senders queue, how many bytes it has for messages, the most bytes of a message, and the
-- messages that lie in it, the oldest in front
pub record MessageBuffer : Type 0 where
  pub order : Order
  pub size : ℕ
  pub most : ℕ
  pub messages : List (List ℕ)

pub record Mails : Type 0 where
  pub boxes : List (Option Mailbox)  -- by ID, 65 slots
  pub buffers : List (Option MessageBuffer)  -- by ID, 65 slots
  pub sending : List (List ℕ)  -- by task: the bytes that it was to send when it last waited as a sender
  pub into : List ℕ  -- by task: where its message was to go when it last waited as a receiver of a buffer

-- a base, the table beside it, and the script's memory
pub record MailParts : Type 0 where
  pub base : Base
  pub table : Mails
  pub memory : List ℕ

-- the numbers of the objects: a message buffer has one for its senders and one for its receivers
abbrev pub box_object : ℕ → ℕ
box_object id = 191 + id

abbrev pub senders_object : ℕ → ℕ
senders_object id = 319 + id

abbrev pub receivers_object : ℕ → ℕ
receivers_object id = 383 + id

abbrev pub box_at : Mails → ℕ → Option Mailbox
box_at m id = entry m.boxes id

abbrev pub buffer_at : Mails → ℕ → Option MessageBuffer
buffer_at m id = entry m.buffers id

-- whether there is that mailbox, and that message buffer
abbrev pub has_mbx : Mails → ℕ → Bool
has_mbx m id = is_some (box_at m id)

abbrev pub has_mbf : Mails → ℕ → Bool
has_mbf m id = is_some (buffer_at m id)

abbrev pub with_box : Mails → ℕ → Option Mailbox → Mails
with_box m id slot = record m { boxes = slice_set m.boxes id slot }

abbrev pub with_buffer : Mails → ℕ → Option MessageBuffer → Mails
with_buffer m id slot = record m { buffers = slice_set m.buffers id slot }

-- the bytes that a task sends
abbrev pub bytes_of : Mails → ℕ → List ℕ
bytes_of m t = slice_index_or m.sending t []

-- where a task's message goes
abbrev pub place_of : Mails → ℕ → ℕ
place_of m t = slice_index m.into t

-- the start: no mailbox and no message buffer
abbrev pub mails_start : Mails
mails_start = record { boxes = replicate 65 None; buffers = replicate 65 None; sending = replicate 256 []; into = replicate 256 0 }
