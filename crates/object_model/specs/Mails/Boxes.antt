-- Mailboxes: in which order their messages go, who can be served, and what serving does.
use Rattle.std.specs.Prelude.{ℕ, int_lt, if◌then◌else◌, pos, List, [], ◌∷◌, ◌++◌, Option, Some, None, drop}
use Rattle.tk_types.specs.declared.answer.Answer.{Answer}
use Rattle.kernel_model.specs.Words.Orders.{taken_from}
use Rattle.kernel_model.specs.Words.Checks.{answer}
use Rattle.kernel_model.specs.Tasks.Base.{Base, queue, release, give_bytes}
use Rattle.object_model.specs.declared.mails.Message.{Message}
use Rattle.object_model.specs.Servings.{first_serving}
use Rattle.object_model.specs.Mails.Tables.{Mailbox, MailParts, box_object, box_at, with_box}

-- how many bytes of simulated memory a message takes while it lies in a box
abbrev pub message_bytes : ℕ
message_bytes = 16

-- a message goes in front of the first one of a lower priority, so behind its equals
abbrev pub by_priority : Message → List Message → List Message
by_priority message [] = message ∷ []
by_priority message (first ∷ rest) =
    if int_lt message.priority first.priority then message ∷ first ∷ rest else first ∷ by_priority message rest

-- a message goes behind all others, or by its priority where the box's attribute says so
abbrev pub put_in : Mailbox → Message → Mailbox
put_in k message = record k {
  messages = if k.by_priority then by_priority message k.messages else k.messages ++ message ∷ [];
}

-- the answer of a call that receives a message
abbrev pub message_answer : Message → Answer
message_answer message = answer (pos 0) (message.priority ∷ message.value ∷ [])

abbrev pub box_waiters : Base → Mailbox → ℕ → List ℕ
box_waiters b k id = queue k.order b (box_object id)

-- what is left of a box once its first message has gone: the rest, and the message's bytes are given back
abbrev pub left_in_box : MailParts → ℕ → Mailbox → List Message → MailParts
left_in_box p id k rest = record p {
  base = give_bytes p.base message_bytes;
  table = with_box p.table id (Some (record k { messages = rest }));
}

-- the first waiter gets the first message
abbrev pub box_serves : MailParts → ℕ → Mailbox → List ℕ → List Message → Option MailParts
box_serves p id k [] messages = None
box_serves p id k (t ∷ waiters) [] = None
box_serves p id k (t ∷ waiters) (first ∷ rest) =
    Some (left_in_box (record p { base = release p.base t (message_answer first) }) id k rest)

abbrev pub serve_box_at : MailParts → ℕ → Option Mailbox → Option MailParts
serve_box_at p id None = None
serve_box_at p id (Some k) = box_serves p id k (box_waiters p.base k id) k.messages

-- one waiter of a mailbox is served, where one can be
unfoldable pub serve_box : MailParts → ℕ → Option MailParts
serve_box p id = serve_box_at p id (box_at p.table id)

-- the first mailbox by ID that can serve a waiter serves one
unfoldable pub serve_mailboxes : MailParts → Option MailParts
serve_mailboxes p = first_serving (serve_box p) (taken_from 1 (drop 1 p.table.boxes))
