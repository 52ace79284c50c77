-- What each move of the base keeps, each call on mailboxes and message buffers keeps, and what the kernel itself sends to a
-- buffer.
use Rattle.std.proofs.Common.{ℕ, ◌*◌, length, Bool, true, false, cond, List, [], ◌∷◌, Option, Some, None, ℤ, pos}
use Rattle.std.specs.Ordering.{int_eq}
use Rattle.tk_types.specs.declared.answer.Who.{Who}
use Rattle.tk_types.specs.declared.answer.Outcome.TheVariants as outcomes
use Rattle.tk_types.specs.declared.calls.MailCall.{MailCall}
use Rattle.tk_types.specs.declared.calls.MailCall.TheVariants as call
use Rattle.tk_types.specs.declared.error_code.Er.{Er}
use Rattle.tk_types.specs.declared.error_code.Er.TheVariants as er
use Rattle.tk_types.specs.declared.task.Order.{Order}
use Rattle.tk_types.specs.declared.task.Order.TheVariants.{Fifo}
use Rattle.kernel_model.specs.Words.Checks.{Check, failed, first_error, natural, plain}
use Rattle.kernel_model.specs.Tasks.Base.{Base, make_wait}
use Rattle.kernel_model.specs.Tasks.Calls.{caller}
use Rattle.kernel_model.specs.SemFlags.Calls.{end_waits, object_checks, would_be_first}
use Rattle.object_model.specs.declared.mails.Message.{Message}
use Rattle.object_model.specs.Mails.Tables.{Mailbox, MailParts, Mails, MessageBuffer, box_at, box_object, buffer_at, has_mbf, has_mbx, receivers_object, senders_object}
use Rattle.object_model.specs.Mails.Bytes.{bytes_at}
use Rattle.object_model.specs.Mails.Boxes.{message_bytes}
use Rattle.object_model.specs.Mails.Buffers.{first_of, has_space, message_stored, none_waits, post, posted, receivers, senders, sent_at_once, takes_length}
use Rattle.object_model.specs.Mails.Calls as calls
use Rattle.object_model.specs.Mails.Calls.{MailDone, asked_into, asked_to_send, mail_call, mail_checked, mail_done, refused_with, waits_or_ends}
use Rattle.call_walk.proofs.BaseMoves.{IsStillProof, end_waits_keeps}

refused_keeps : (P : Base → Type 0) (error : Option Er) (p : MailParts) (effect : MailDone) → P p.base → P effect.base → P (refused_with error p effect).base
refused_keeps P (Some error) p effect has works = has
refused_keeps P None p effect has works = works

-- a call is refused and leaves the base, or has its effect
checked_keeps : (P : Base → Type 0) (checks : List Check) (p : MailParts) (effect : MailDone) → P p.base → P effect.base → P (mail_checked checks p effect).base
checked_keeps P checks p effect has works = refused_keeps P (first_error checks) p effect has works

either_done : (P : Base → Type 0) (test : Bool) (one other : MailDone) → P one.base → P other.base → P (cond {A = MailDone} test one other).base
either_done P true one other first second = first
either_done P false one other first second = second

wait_keeps : (P : Base → Type 0) → IsStillProof P → (p : MailParts) (t object : ℕ) (order : Order) (timeout : ℤ) (asked : Mails) → P p.base → P (waits_or_ends p t object order timeout asked).base
wait_keeps P is p t object order timeout asked has =
    either_done P (int_eq timeout (pos 0)) (mail_done p (failed er.TmOut)) (mail_done (record p { base = make_wait p.base t object order timeout; table = asked }) outcomes.Blocked) has (is.waits p.base t object order timeout has)

-- ---- mailboxes

box_emptied_keeps : (P : Base → Type 0) → IsStillProof P → (b : Base) (id : ℕ) (slot : Option Mailbox) → P b → P (calls.box_emptied b id slot)
box_emptied_keeps P is b id None has = has
box_emptied_keeps P is b id (Some k) has = is.given (end_waits k.order (box_object id) b) (length k.messages * message_bytes) (end_waits_keeps P is k.order (box_object id) b has)

put_keeps : (P : Base → Type 0) → IsStillProof P → (p : MailParts) (id : ℕ) (message : Message) (slot : Option Mailbox) → P p.base → P (calls.put_in_box p id message slot).base
put_keeps P is p id message None has = has
put_keeps P is p id message (Some k) has = is.taken p.base message_bytes has

taken_keeps : (P : Base → Type 0) → IsStillProof P → (p : MailParts) (t id : ℕ) (timeout : ℤ) (k : Mailbox) (messages : List Message) → P p.base → P (calls.taken_from_box p t id timeout k messages).base
taken_keeps P is p t id timeout k [] has = wait_keeps P is p t (box_object id) k.order timeout p.table has
taken_keeps P is p t id timeout k (first ∷ rest) has = is.given p.base message_bytes has

box_keeps : (P : Base → Type 0) → IsStillProof P → (p : MailParts) (t id : ℕ) (timeout : ℤ) (slot : Option Mailbox) → P p.base → P (calls.received_from_box p t id timeout slot).base
box_keeps P is p t id timeout None has = has
box_keeps P is p t id timeout (Some k) has = taken_keeps P is p t id timeout k k.messages has

-- ---- message buffers

buffer_emptied_keeps : (P : Base → Type 0) → IsStillProof P → (b : Base) (id : ℕ) (slot : Option MessageBuffer) → P b → P (calls.buffer_emptied b id slot)
buffer_emptied_keeps P is b id None has = has
buffer_emptied_keeps P is b id (Some k) has =
    is.given _ k.size (end_waits_keeps P is Fifo (receivers_object id) (end_waits k.order (senders_object id) b) (end_waits_keeps P is k.order (senders_object id) b has))

-- it holds of the base that a send left, where there was one
abbrev pub Sent : (Base → Type 0) → Option MailParts → Type 0
Sent P None = Unit {0}
Sent P (Some q) = P q.base

either_sent : (P : Base → Type 0) (test : Bool) (one other : Option MailParts) → Sent P one → Sent P other → Sent P (cond {A = Option MailParts} test one other)
either_sent P true one other first second = first
either_sent P false one other first second = second

at_once_keeps : (P : Base → Type 0) → IsStillProof P → (p : MailParts) (id : ℕ) (k : MessageBuffer) (first : Bool) (receiver : Option ℕ) (messages : List (List ℕ)) (bytes : List ℕ) → P p.base → Sent P (sent_at_once p id k first receiver messages bytes)
at_once_keeps P is p id k false receiver messages bytes has = tt
at_once_keeps P is p id k true (Some receiver) (oldest ∷ later) bytes has = tt
at_once_keeps P is p id k true (Some receiver) [] bytes has = is.released p.base receiver (plain (pos (length bytes))) has
at_once_keeps P is p id k true None messages bytes has = either_sent P (has_space k bytes) (Some (message_stored p id k bytes)) None has tt

sent_or_waits_keeps : (P : Base → Type 0) → IsStillProof P → (p : MailParts) (t id : ℕ) (k : MessageBuffer) (timeout : ℤ) (bytes : List ℕ) (left : Option MailParts) → P p.base → Sent P left → P (calls.sent_or_waits p t id k timeout bytes left).base
sent_or_waits_keeps P is p t id k timeout bytes (Some left) has sent = sent
sent_or_waits_keeps P is p t id k timeout bytes None has sent = wait_keeps P is p t (senders_object id) k.order timeout (asked_to_send p.table t bytes) has

send_keeps : (P : Base → Type 0) → IsStillProof P → (p : MailParts) (t id : ℕ) (bytes : List ℕ) (timeout : ℤ) (slot : Option MessageBuffer) → P p.base → P (calls.sent_to_buffer p t id bytes timeout slot).base
send_keeps P is p t id bytes timeout None has = has
send_keeps P is p t id bytes timeout (Some k) has =
    sent_or_waits_keeps P is p t id k timeout bytes _ has (at_once_keeps P is p id k (would_be_first k.order p.base t (senders p.base k id)) (first_of (receivers p.base id)) k.messages bytes has)

by_caller_keeps : (P : Base → Type 0) → IsStillProof P → (p : MailParts) (t id : ℕ) (k : MessageBuffer) (address : ℕ) (timeout : ℤ) (receiver sender : Option ℕ) (messages : List (List ℕ)) → P p.base → P (calls.taken_by_caller p t id k address timeout receiver sender messages).base
by_caller_keeps P is p t id k address timeout (Some receiver) sender messages has = wait_keeps P is p t (receivers_object id) Fifo timeout (asked_into p.table t address) has
by_caller_keeps P is p t id k address timeout None sender (oldest ∷ later) has = has
by_caller_keeps P is p t id k address timeout None (Some sender) [] has = is.released p.base sender (plain (pos 0)) has
by_caller_keeps P is p t id k address timeout None None [] has = wait_keeps P is p t (receivers_object id) Fifo timeout (asked_into p.table t address) has

receive_keeps : (P : Base → Type 0) → IsStillProof P → (p : MailParts) (t id address : ℕ) (timeout : ℤ) (slot : Option MessageBuffer) → P p.base → P (calls.received_from_buffer p t id address timeout slot).base
receive_keeps P is p t id address timeout None has = has
receive_keeps P is p t id address timeout (Some k) has = by_caller_keeps P is p t id k address timeout (first_of (receivers p.base id)) (first_of (senders p.base k id)) k.messages has

-- ---- sending from the kernel itself

posted_keeps : (P : Base → Type 0) → IsStillProof P → (p : MailParts) (id : ℕ) (bytes : List ℕ) (slot : Option MessageBuffer) → P p.base → Sent P (posted p id bytes slot)
posted_keeps P is p id bytes None has = tt
posted_keeps P is p id bytes (Some k) has =
    either_sent P (takes_length (length bytes) k) (sent_at_once p id k (none_waits (senders p.base k id)) (first_of (receivers p.base id)) k.messages bytes) None
    (at_once_keeps P is p id k (none_waits (senders p.base k id)) (first_of (receivers p.base id)) k.messages bytes has) tt

pub post_keeps : (P : Base → Type 0) → IsStillProof P → (p : MailParts) (id : ℕ) (bytes : List ℕ) → P p.base → Sent P (post p id bytes)
unfolding post
post_keeps P is p id bytes has = posted_keeps P is p id bytes (buffer_at p.table id) has

-- ---- all

pub mail_calls_keep : (P : Base → Type 0) → IsStillProof P → (p : MailParts) (who : Who) (c : MailCall) → P p.base → P (mail_call p who c).base
unfolding mail_call calls.create_box calls.delete_box calls.send_box calls.receive_box calls.refer_box calls.create_buffer calls.delete_buffer calls.send_buffer calls.receive_buffer calls.refer_buffer
mail_calls_keep P is p who (call.CreMbx attributes) has = checked_keeps P (calls.create_box_checks p.table attributes) p _ has has
mail_calls_keep P is p who (call.DelMbx id) has =
    checked_keeps P (object_checks id (has_mbx p.table (natural id)) []) p _ has (box_emptied_keeps P is p.base (natural id) (box_at p.table (natural id)) has)
mail_calls_keep P is p who (call.SndMbx id priority value) has = checked_keeps P (calls.send_box_checks p id priority value) p _ has (put_keeps P is p (natural id) _ (box_at p.table (natural id)) has)
mail_calls_keep P is p who (call.RcvMbx id timeout) has =
    checked_keeps P (calls.receive_box_checks p who id timeout) p _ has (box_keeps P is p (caller who) (natural id) timeout (box_at p.table (natural id)) has)
mail_calls_keep P is p who (call.RefMbx id) has = checked_keeps P (object_checks id (has_mbx p.table (natural id)) []) p _ has has
mail_calls_keep P is p who (call.CreMbf attributes size most) has = checked_keeps P (calls.create_buffer_checks p attributes size most) p _ has (is.taken p.base (natural size) has)
mail_calls_keep P is p who (call.SndMbf id address n timeout) has =
    checked_keeps P (calls.send_buffer_checks p who id address n timeout) p _ has
    (send_keeps P is p (caller who) (natural id) (bytes_at p.memory (natural address) (natural n)) timeout (buffer_at p.table (natural id)) has)
mail_calls_keep P is p who (call.RcvMbf id address timeout) has =
    checked_keeps P (calls.receive_buffer_checks p who id address timeout) p _ has
    (receive_keeps P is p (caller who) (natural id) (natural address) timeout (buffer_at p.table (natural id)) has)
mail_calls_keep P is p who (call.RefMbf id) has = checked_keeps P (object_checks id (has_mbf p.table (natural id)) []) p _ has has
mail_calls_keep P is p who (call.DelMbf id) has =
    checked_keeps P (object_checks id (has_mbf p.table (natural id)) []) p _ has (buffer_emptied_keeps P is p.base (natural id) (buffer_at p.table (natural id)) has)
