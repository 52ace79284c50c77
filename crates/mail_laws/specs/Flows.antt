-- What moves through a message buffer: steps that may move messages, and the messages that enter and leave in each.
use Rattle.std.specs.Prelude.{ℕ, ◌≡◌, Bool, false, not, if◌then◌else◌, ℤ, pos, length, List, [], ◌∷◌, ◌++◌, Option, Some, None, unwrap_or}
use Rattle.std.specs.Int.{is_negative}
use Rattle.std.specs.Option.{is_some}
use Rattle.tk_types.specs.declared.answer.Outcome.{Outcome}
use Rattle.tk_types.specs.declared.answer.Outcome.TheVariants.{Returned}
use Rattle.kernel_model.specs.Words.Checks.{done}
use Rattle.object_model.specs.Mails.Tables.{MessageBuffer, Mails, MailParts, buffer_at, bytes_of, place_of}
use Rattle.object_model.specs.Mails.Bytes.{with_bytes}
use Rattle.object_model.specs.Mails.Buffers.{first_of, receivers, senders, serve_buffer, post}
use Rattle.object_model.specs.Mails.Calls.{MailDone, sent_to_buffer, received_from_buffer}

-- the messages that entered, and those that left, each the earliest first
pub record Flow : Type 0 where
  pub entered : List (List ℕ)
  pub left : List (List ℕ)

-- what lay there, and then what entered, is what left, and then what lies there now
abbrev pub IsFlow : List (List ℕ) → List (List ℕ) → Flow → Type 0
IsFlow before after flow = before ++ flow.entered ≡ flow.left ++ after

abbrev pub no_flow : Flow
no_flow = record { entered = []; left = [] }

-- one flow, and then another
abbrev pub then_flow : Flow → Flow → Flow
then_flow first second = record { entered = first.entered ++ second.entered; left = first.left ++ second.left }

-- the messages that lie in the buffer with that ID
abbrev pub messages_in : Option MessageBuffer → List (List ℕ)
messages_in None = []
messages_in (Some k) = k.messages

abbrev pub messages_at : Mails → ℕ → List (List ℕ)
messages_at m id = messages_in (buffer_at m id)

-- ---- steps

-- a serving of the buffer, a send of bytes by a task and a receive at an address by a task, with their time-outs, and a send
-- by the kernel itself
pub data Step : Type 0 where
  Serve : Step
  Send : ℕ → List ℕ → ℤ → Step
  Receive : ℕ → ℕ → ℤ → Step
  Post : List ℕ → Step

abbrev pub left_by : MailDone → MailParts
left_by done = record { base = done.base; table = done.table; memory = done.memory }

-- what a step leaves
abbrev pub after : ℕ → MailParts → Step → MailParts
after id p Serve = unwrap_or (serve_buffer p id) p
after id p (Send t bytes timeout) = left_by (sent_to_buffer p t id bytes timeout (buffer_at p.table id))
after id p (Receive t address timeout) = left_by (received_from_buffer p t id address timeout (buffer_at p.table id))
after id p (Post bytes) = unwrap_or (post p id bytes) p

-- whether a call has answered without an error
abbrev pub succeeded : Outcome → Bool
succeeded (Returned answer) = not (is_negative answer.value)
succeeded _ = false

-- a message that is sent goes in, and on to a receiver at once, where one waits
abbrev pub sent_flow : Option ℕ → List ℕ → Flow
sent_flow None bytes = record { entered = bytes ∷ []; left = [] }
sent_flow (Some receiver) bytes = record { entered = bytes ∷ []; left = bytes ∷ [] }

-- a receiver takes the oldest message, and where there is none that of the first sender goes in, and on to it
abbrev pub taken_flow : List ℕ → List (List ℕ) → Flow
taken_flow bytes (oldest ∷ later) = record { entered = []; left = oldest ∷ [] }
taken_flow bytes [] = record { entered = bytes ∷ []; left = bytes ∷ [] }

-- the bytes of the first sender
abbrev pub first_bytes : Mails → Option ℕ → List ℕ
first_bytes m None = []
first_bytes m (Some sender) = bytes_of m sender

-- a serving is for the first receiver, and where nobody receives, for the first sender
abbrev pub served_flow : Mails → Option ℕ → Option ℕ → List (List ℕ) → Flow
served_flow m (Some receiver) sender messages = taken_flow (first_bytes m sender) messages
served_flow m None sender messages = record { entered = first_bytes m sender ∷ []; left = [] }

abbrev pub flow_if : Bool → Flow → Flow
flow_if moved flow = if moved then flow else no_flow

abbrev pub first_receiver : MailParts → ℕ → Option ℕ
first_receiver p id = first_of (receivers p.base id)

abbrev pub senders_of : MailParts → ℕ → Option MessageBuffer → List ℕ
senders_of p id None = []
senders_of p id (Some k) = senders p.base k id

abbrev pub first_sender : MailParts → ℕ → Option ℕ
first_sender p id = first_of (senders_of p id (buffer_at p.table id))

-- what moves in a step: a serving that isn't done and a call that doesn't succeed move nothing
abbrev pub flow_of : ℕ → MailParts → Step → Flow
flow_of id p Serve = flow_if (is_some (serve_buffer p id)) (served_flow p.table (first_receiver p id) (first_sender p id) (messages_at p.table id))
flow_of id p (Send t bytes timeout) = flow_if (succeeded (sent_to_buffer p t id bytes timeout (buffer_at p.table id)).outcome) (sent_flow (first_receiver p id) bytes)
flow_of id p (Receive t address timeout) =
    flow_if (succeeded (received_from_buffer p t id address timeout (buffer_at p.table id)).outcome) (taken_flow (first_bytes p.table (first_sender p id)) (messages_at p.table id))
flow_of id p (Post bytes) = flow_if (is_some (post p id bytes)) (sent_flow (first_receiver p id) bytes)

-- ---- many steps

abbrev pub after_all : ℕ → MailParts → List Step → MailParts
after_all id p [] = p
after_all id p (step ∷ steps) = after_all id (after id p step) steps

abbrev pub flow_of_all : ℕ → MailParts → List Step → Flow
flow_of_all id p [] = no_flow
flow_of_all id p (step ∷ steps) = then_flow (flow_of id p step) (flow_of_all id (after id p step) steps)

-- ---- where it goes

-- memory with what left a buffer, at most one message, at a place
abbrev pub written : List ℕ → ℕ → List (List ℕ) → List ℕ
written memory place [] = memory
written memory place (bytes ∷ more) = with_bytes memory place bytes

abbrev pub place_in : Mails → Option ℕ → ℕ
place_in m None = 0
place_in m (Some receiver) = place_of m receiver

-- where a message that leaves in a step goes: to the address of a receive, and else to the place of the first receiver
abbrev pub place_of_step : ℕ → MailParts → Step → ℕ
place_of_step id p (Receive t address timeout) = address
place_of_step id p _ = place_in p.table (first_receiver p id)

-- a receive answers the length of the message that left
abbrev pub TellsLength : Outcome → List (List ℕ) → Type 0
TellsLength outcome [] = Unit {0}
TellsLength outcome (bytes ∷ more) = outcome ≡ done (pos (length bytes))
