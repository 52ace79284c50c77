-- Message buffers: the space that messages take, who can be served, and what serving does. Serving does the first that
-- applies: a waiting receiver takes the oldest message; a waiting receiver takes the first sender's message, and both
-- waits end, the receiver's first; the first sender's message fits and goes in.
use Rattle.std.specs.Prelude.{ℕ, ◌+◌, Bool, true, false, nat_le, ◌&&◌, if◌then◌else◌, pos, length, List, [], ◌∷◌, ◌++◌, Option, Some, None, drop}
use Rattle.std.specs.List.{sum_by}
use Rattle.tk_types.specs.declared.task.Order.TheVariants.{Fifo}
use Rattle.kernel_model.specs.Words.Orders.{taken_from}
use Rattle.kernel_model.specs.Words.Checks.{plain}
use Rattle.kernel_model.specs.Tasks.Base.{Base, queue, release}
use Rattle.object_model.specs.Servings.{first_serving, rounded_up}
use Rattle.object_model.specs.Mails.Tables.{MessageBuffer, MailParts, senders_object, receivers_object, buffer_at, with_buffer, bytes_of, place_of}
use Rattle.object_model.specs.Mails.Bytes.{with_bytes}

-- the space that a message of so many bytes takes: 4 bytes and its length rounded up to 4
abbrev pub space_of : ℕ → ℕ
space_of n = 4 + rounded_up 4 n

-- the space that messages take together
abbrev pub space_taken : List (List ℕ) → ℕ
space_taken messages = sum_by (λ message. space_of (length message)) messages

-- whether a message fits into what is free
abbrev pub has_space : MessageBuffer → List ℕ → Bool
has_space k bytes = nat_le (space_taken k.messages + space_of (length bytes)) k.size

abbrev pub senders : Base → MessageBuffer → ℕ → List ℕ
senders b k id = queue k.order b (senders_object id)

-- the receivers stand in the order in which they began to wait, whatever the senders do
abbrev pub receivers : Base → ℕ → List ℕ
receivers b id = queue Fifo b (receivers_object id)

abbrev pub first_of : List ℕ → Option ℕ
first_of [] = None
first_of (t ∷ ts) = Some t

-- what a buffer has from now on
abbrev pub with_messages : MailParts → ℕ → MessageBuffer → List (List ℕ) → MailParts
with_messages p id k messages = record p { table = with_buffer p.table id (Some (record k { messages = messages })) }

-- a message goes behind all that lie in the buffer
abbrev pub message_stored : MailParts → ℕ → MessageBuffer → List ℕ → MailParts
message_stored p id k bytes = with_messages p id k (k.messages ++ bytes ∷ [])

-- a receiver's wait ends with the length of its message, whose bytes go where it asked for them
abbrev pub delivered : MailParts → ℕ → List ℕ → MailParts
delivered p receiver bytes = record p {
  base = release p.base receiver (plain (pos (length bytes)));
  memory = with_bytes p.memory (place_of p.table receiver) bytes;
}

-- a sender's wait ends with 0
abbrev pub sender_ended : MailParts → ℕ → MailParts
sender_ended p sender = record p { base = release p.base sender (plain (pos 0)) }

-- one serving by the first receiver, the first sender, and the messages that lie in the buffer
abbrev pub buffer_serves : MailParts → ℕ → MessageBuffer → Option ℕ → Option ℕ → List (List ℕ) → Option MailParts
buffer_serves p id k (Some receiver) sender (oldest ∷ later) = Some (delivered (with_messages p id k later) receiver oldest)
buffer_serves p id k (Some receiver) (Some sender) [] = Some (sender_ended (delivered p receiver (bytes_of p.table sender)) sender)
buffer_serves p id k (Some receiver) None [] = None
buffer_serves p id k None (Some sender) messages =
    if has_space k (bytes_of p.table sender)
    then Some (sender_ended (message_stored p id k (bytes_of p.table sender)) sender)
    else None
buffer_serves p id k None None messages = None

abbrev pub serve_buffer_at : MailParts → ℕ → Option MessageBuffer → Option MailParts
serve_buffer_at p id None = None
serve_buffer_at p id (Some k) = buffer_serves p id k (first_of (receivers p.base id)) (first_of (senders p.base k id)) k.messages

-- one serving of a message buffer, where one can be
unfoldable pub serve_buffer : MailParts → ℕ → Option MailParts
serve_buffer p id = serve_buffer_at p id (buffer_at p.table id)

-- the first message buffer by ID that can serve serves once
unfoldable pub serve_buffers : MailParts → Option MailParts
serve_buffers p = first_serving (serve_buffer p) (taken_from 1 (drop 1 p.table.buffers))

-- ---- sending at once

-- a message that needn't wait, where its sender would be the first: it goes to the first receiver, unless that has an
-- older one to take, or where nobody receives into the buffer, if it fits
abbrev pub sent_at_once : MailParts → ℕ → MessageBuffer → Bool → Option ℕ → List (List ℕ) → List ℕ → Option MailParts
sent_at_once p id k false receiver messages bytes = None
sent_at_once p id k true (Some receiver) (oldest ∷ later) bytes = None
sent_at_once p id k true (Some receiver) [] bytes = Some (delivered p receiver bytes)
sent_at_once p id k true None messages bytes = if has_space k bytes then Some (message_stored p id k bytes) else None

-- whether a buffer takes messages of a length
abbrev pub takes_length : ℕ → MessageBuffer → Bool
takes_length n k = nat_le 1 n && nat_le n k.most

-- a sender that joins behind all that wait is the first where none does
abbrev pub none_waits : List ℕ → Bool
none_waits [] = true
none_waits (t ∷ ts) = false

abbrev pub posted : MailParts → ℕ → List ℕ → Option MessageBuffer → Option MailParts
posted p id bytes None = None
posted p id bytes (Some k) =
    if takes_length (length bytes) k
    then sent_at_once p id k (none_waits (senders p.base k id)) (first_of (receivers p.base id)) k.messages bytes
    else None

-- bytes are sent to a message buffer from the kernel itself, as by `tk_snd_mbf` with a time-out of 0, behind all senders
-- that wait; none where there is no such buffer or the send would be refused
unfoldable pub post : MailParts → ℕ → List ℕ → Option MailParts
post p id bytes = posted p id bytes (buffer_at p.table id)
