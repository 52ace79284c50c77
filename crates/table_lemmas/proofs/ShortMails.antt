-- Every call on mailboxes and message buffers, every serving, and every message that the kernel posts leaves their tables short.
use Rattle.std.proofs.Common.{ℕ, ◌≤◌, length, Bool, true, false, cond, List, [], ◌∷◌, Option, Some, None, ℤ, pos}
use Rattle.std.specs.Prelude.{drop}
use Rattle.std.specs.Ordering.{int_eq}
use Rattle.tk_types.specs.declared.answer.Who.{Who}
use Rattle.tk_types.specs.declared.calls.MailCall.{MailCall}
use Rattle.tk_types.specs.declared.calls.MailCall.TheVariants as call
use Rattle.tk_types.specs.declared.error_code.Er.{Er}
use Rattle.tk_types.specs.declared.task.Order.{Order}
use Rattle.tk_types.specs.declared.task.Order.TheVariants.{Fifo}
use Rattle.kernel_model.specs.Words.Checks.{Check, first_error, natural}
use Rattle.kernel_model.specs.Words.Orders.{taken_from}
use Rattle.kernel_model.specs.Tasks.Calls.{caller}
use Rattle.kernel_model.specs.SemFlags.Calls.{object_checks, would_be_first}
use Rattle.object_model.specs.declared.mails.Message.{Message}
use Rattle.object_model.specs.Mails.Tables.{MailParts, Mailbox, Mails, MessageBuffer, box_at, box_object, buffer_at, bytes_of, has_mbf, has_mbx, receivers_object, senders_object, with_box, with_buffer}
use Rattle.object_model.specs.Mails.Bytes.{bytes_at}
use Rattle.object_model.specs.Mails.Boxes.{box_serves, box_waiters, serve_box, serve_box_at, serve_mailboxes}
use Rattle.object_model.specs.Mails.Buffers.{buffer_serves, first_of, has_space, message_stored, none_waits, post, posted, receivers, senders, sent_at_once, serve_buffer, serve_buffer_at, serve_buffers, takes_length}
use Rattle.object_model.specs.Mails.Calls as calls
use Rattle.object_model.specs.Mails.Calls.{MailDone, asked_into, asked_to_send, mail_call, mail_checked, refused_with, waits_or_ends}
use Rattle.table_lemmas.proofs.Slots.{IfServed, first_kept, set_short}

-- the tables of mailboxes and message buffers have no more slots than those have numbers
pub record MailsShort (m : Mails) : Type 0 where
  pub boxes : length m.boxes ≤ 65
  pub buffers : length m.buffers ≤ 65

abbrev DoneShort : MailDone → Type 0
DoneShort done = MailsShort done.table

abbrev PartsShort : MailParts → Type 0
PartsShort q = MailsShort q.table

box_short : (m : Mails) (id : ℕ) (slot : Option Mailbox) → MailsShort m → MailsShort (with_box m id slot)
box_short m id slot has = record { boxes = set_short m.boxes id slot has.boxes; buffers = has.buffers }

buffer_short : (m : Mails) (id : ℕ) (slot : Option MessageBuffer) → MailsShort m → MailsShort (with_buffer m id slot)
buffer_short m id slot has = record { boxes = has.boxes; buffers = set_short m.buffers id slot has.buffers }

-- ---- calls

refused_short : (error : Option Er) (p : MailParts) (effect : MailDone) → PartsShort p → DoneShort effect → DoneShort (refused_with error p effect)
refused_short (Some error) p effect has works = has
refused_short None p effect has works = works

checked_short : (checks : List Check) (p : MailParts) (effect : MailDone) → PartsShort p → DoneShort effect → DoneShort (mail_checked checks p effect)
checked_short checks p effect has works = refused_short (first_error checks) p effect has works

either_short : (test : Bool) (one other : MailDone) → DoneShort one → DoneShort other → DoneShort (cond {A = MailDone} test one other)
either_short true one other first second = first
either_short false one other first second = second

waits_short : (p : MailParts) (t object : ℕ) (order : Order) (timeout : ℤ) (asked : Mails) → PartsShort p → MailsShort asked → DoneShort (waits_or_ends p t object order timeout asked)
waits_short p t object order timeout asked has after = either_short (int_eq timeout (pos 0)) _ _ has after

put_short : (p : MailParts) (id : ℕ) (message : Message) (slot : Option Mailbox) → PartsShort p → PartsShort (calls.put_in_box p id message slot)
put_short p id message None has = has
put_short p id message (Some k) has = box_short p.table id _ has

first_short : (p : MailParts) (t id : ℕ) (timeout : ℤ) (k : Mailbox) (messages : List Message) → PartsShort p → DoneShort (calls.taken_from_box p t id timeout k messages)
first_short p t id timeout k [] has = waits_short p t (box_object id) k.order timeout p.table has has
first_short p t id timeout k (first ∷ rest) has = box_short p.table id _ has

box_received : (p : MailParts) (t id : ℕ) (timeout : ℤ) (slot : Option Mailbox) → PartsShort p → DoneShort (calls.received_from_box p t id timeout slot)
box_received p t id timeout None has = has
box_received p t id timeout (Some k) has = first_short p t id timeout k k.messages has

stored_short : (test : Bool) (q : MailParts) → PartsShort q → IfServed PartsShort (cond {A = Option MailParts} test (Some q) None)
stored_short true q has = has
stored_short false q has = tt

at_once_short : (p : MailParts) (id : ℕ) (k : MessageBuffer) (first : Bool) (receiver : Option ℕ) (messages : List (List ℕ)) (bytes : List ℕ) → PartsShort p →
    IfServed PartsShort (sent_at_once p id k first receiver messages bytes)
at_once_short p id k false receiver messages bytes has = tt
at_once_short p id k true (Some receiver) (oldest ∷ later) bytes has = tt
at_once_short p id k true (Some receiver) [] bytes has = has
at_once_short p id k true None messages bytes has = stored_short (has_space k bytes) (message_stored p id k bytes) (buffer_short p.table id _ has)

sent_short : (p : MailParts) (t id : ℕ) (k : MessageBuffer) (timeout : ℤ) (bytes : List ℕ) (left : Option MailParts) → PartsShort p → IfServed PartsShort left →
    DoneShort (calls.sent_or_waits p t id k timeout bytes left)
sent_short p t id k timeout bytes (Some left) has sent = sent
sent_short p t id k timeout bytes None has sent =
    waits_short p t (senders_object id) k.order timeout (asked_to_send p.table t bytes) has (record { boxes = has.boxes; buffers = has.buffers })

send_short : (p : MailParts) (t id : ℕ) (bytes : List ℕ) (timeout : ℤ) (slot : Option MessageBuffer) → PartsShort p → DoneShort (calls.sent_to_buffer p t id bytes timeout slot)
send_short p t id bytes timeout None has = has
send_short p t id bytes timeout (Some k) has =
    sent_short p t id k timeout bytes _ has
    (at_once_short p id k (would_be_first k.order p.base t (senders p.base k id)) (first_of (receivers p.base id)) k.messages bytes has)

by_caller_short : (p : MailParts) (t id : ℕ) (k : MessageBuffer) (address : ℕ) (timeout : ℤ) (receiver sender : Option ℕ) (messages : List (List ℕ)) → PartsShort p →
    DoneShort (calls.taken_by_caller p t id k address timeout receiver sender messages)
by_caller_short p t id k address timeout (Some receiver) sender messages has =
    waits_short p t (receivers_object id) Fifo timeout (asked_into p.table t address) has (record { boxes = has.boxes; buffers = has.buffers })
by_caller_short p t id k address timeout None sender (oldest ∷ later) has = buffer_short p.table id _ has
by_caller_short p t id k address timeout None (Some sender) [] has = has
by_caller_short p t id k address timeout None None [] has =
    waits_short p t (receivers_object id) Fifo timeout (asked_into p.table t address) has (record { boxes = has.boxes; buffers = has.buffers })

receive_short : (p : MailParts) (t id address : ℕ) (timeout : ℤ) (slot : Option MessageBuffer) → PartsShort p → DoneShort (calls.received_from_buffer p t id address timeout slot)
receive_short p t id address timeout None has = has
receive_short p t id address timeout (Some k) has = by_caller_short p t id k address timeout (first_of (receivers p.base id)) (first_of (senders p.base k id)) k.messages has

-- every call on mailboxes and message buffers leaves their tables short
pub mail_calls_short : (p : MailParts) (who : Who) (c : MailCall) → MailsShort p.table → MailsShort (mail_call p who c).table
unfolding mail_call calls.create_box calls.delete_box calls.send_box calls.receive_box calls.refer_box calls.create_buffer calls.delete_buffer calls.send_buffer calls.receive_buffer calls.refer_buffer
mail_calls_short p who (call.CreMbx attributes) has = checked_short (calls.create_box_checks p.table attributes) p _ has (box_short p.table _ _ has)
mail_calls_short p who (call.DelMbx id) has = checked_short (object_checks id (has_mbx p.table (natural id)) []) p _ has (box_short p.table (natural id) None has)
mail_calls_short p who (call.SndMbx id priority value) has =
    checked_short (calls.send_box_checks p id priority value) p _ has
    (put_short p (natural id) (record { priority = priority; value = value }) (box_at p.table (natural id)) has)
mail_calls_short p who (call.RcvMbx id timeout) has =
    checked_short (calls.receive_box_checks p who id timeout) p _ has (box_received p (caller who) (natural id) timeout (box_at p.table (natural id)) has)
mail_calls_short p who (call.RefMbx id) has = checked_short (object_checks id (has_mbx p.table (natural id)) []) p _ has has
mail_calls_short p who (call.CreMbf attributes size most) has = checked_short (calls.create_buffer_checks p attributes size most) p _ has (buffer_short p.table _ _ has)
mail_calls_short p who (call.SndMbf id address n timeout) has =
    checked_short (calls.send_buffer_checks p who id address n timeout) p _ has
    (send_short p (caller who) (natural id) (bytes_at p.memory (natural address) (natural n)) timeout (buffer_at p.table (natural id)) has)
mail_calls_short p who (call.RcvMbf id address timeout) has =
    checked_short (calls.receive_buffer_checks p who id address timeout) p _ has
    (receive_short p (caller who) (natural id) (natural address) timeout (buffer_at p.table (natural id)) has)
mail_calls_short p who (call.RefMbf id) has = checked_short (object_checks id (has_mbf p.table (natural id)) []) p _ has has
mail_calls_short p who (call.DelMbf id) has = checked_short (object_checks id (has_mbf p.table (natural id)) []) p _ has (buffer_short p.table (natural id) None has)

-- ---- servings

box_of : (p : MailParts) (id : ℕ) (k : Mailbox) (waiters : List ℕ) (messages : List Message) → PartsShort p → IfServed PartsShort (box_serves p id k waiters messages)
box_of p id k [] messages has = tt
box_of p id k (t ∷ waiters) [] has = tt
box_of p id k (t ∷ waiters) (first ∷ rest) has = box_short p.table id _ has

box_in : (p : MailParts) (id : ℕ) (slot : Option Mailbox) → PartsShort p → IfServed PartsShort (serve_box_at p id slot)
box_in p id None has = tt
box_in p id (Some k) has = box_of p id k (box_waiters p.base k id) k.messages has

box_serving : (p : MailParts) (id : ℕ) → PartsShort p → IfServed PartsShort (serve_box p id)
unfolding serve_box
box_serving p id has = box_in p id (box_at p.table id) has

-- a serving of a mailbox leaves the tables short
pub box_served_short : (p : MailParts) → MailsShort p.table → IfServed (λ (q : MailParts). MailsShort q.table) (serve_mailboxes p)
unfolding serve_mailboxes
box_served_short p has = first_kept PartsShort (serve_box p) (taken_from 1 (drop 1 p.table.boxes)) (λ id. box_serving p id has)

buffer_of : (p : MailParts) (id : ℕ) (k : MessageBuffer) (receiver sender : Option ℕ) (messages : List (List ℕ)) → PartsShort p →
    IfServed PartsShort (buffer_serves p id k receiver sender messages)
buffer_of p id k (Some receiver) sender (oldest ∷ later) has = buffer_short p.table id _ has
buffer_of p id k (Some receiver) (Some sender) [] has = has
buffer_of p id k (Some receiver) None [] has = tt
buffer_of p id k None (Some sender) messages has = stored_short (has_space k (bytes_of p.table sender)) _ (buffer_short p.table id _ has)
buffer_of p id k None None messages has = tt

buffer_in : (p : MailParts) (id : ℕ) (slot : Option MessageBuffer) → PartsShort p → IfServed PartsShort (serve_buffer_at p id slot)
buffer_in p id None has = tt
buffer_in p id (Some k) has = buffer_of p id k (first_of (receivers p.base id)) (first_of (senders p.base k id)) k.messages has

buffer_serving : (p : MailParts) (id : ℕ) → PartsShort p → IfServed PartsShort (serve_buffer p id)
unfolding serve_buffer
buffer_serving p id has = buffer_in p id (buffer_at p.table id) has

-- a serving of a message buffer leaves the tables short
pub buffer_served_short : (p : MailParts) → MailsShort p.table → IfServed (λ (q : MailParts). MailsShort q.table) (serve_buffers p)
unfolding serve_buffers
buffer_served_short p has = first_kept PartsShort (serve_buffer p) (taken_from 1 (drop 1 p.table.buffers)) (λ id. buffer_serving p id has)

-- ---- messages of the kernel

taken_short : (takes : Bool) (sent : Option MailParts) → IfServed PartsShort sent → IfServed PartsShort (cond {A = Option MailParts} takes sent None)
taken_short true sent has = has
taken_short false sent has = tt

posted_short : (p : MailParts) (id : ℕ) (bytes : List ℕ) (slot : Option MessageBuffer) → PartsShort p → IfServed PartsShort (posted p id bytes slot)
posted_short p id bytes None has = tt
posted_short p id bytes (Some k) has =
    taken_short (takes_length (length bytes) k) _ (at_once_short p id k (none_waits (senders p.base k id)) (first_of (receivers p.base id)) k.messages bytes has)

-- a message that the kernel posts leaves the tables short
pub post_short : (p : MailParts) (id : ℕ) (bytes : List ℕ) → MailsShort p.table → IfServed (λ (q : MailParts). MailsShort q.table) (post p id bytes)
unfolding post
post_short p id bytes has = posted_short p id bytes (buffer_at p.table id) has
