-- What each call on mailboxes and message buffers makes: a wait may make one event. What the kernel itself sends to a buffer
-- makes none.
use Rattle.std.proofs.Common.{ℕ, ◌*◌, length, Bool, true, false, cond, List, [], ◌∷◌, Option, Some, None, ℤ, pos}
use Rattle.std.specs.Ordering.{int_eq}
use Rattle.tk_types.specs.declared.answer.Who.{Who}
use Rattle.tk_types.specs.declared.answer.Outcome.TheVariants as outcomes
use Rattle.tk_types.specs.declared.calls.MailCall.{MailCall}
use Rattle.tk_types.specs.declared.calls.MailCall.TheVariants as call
use Rattle.tk_types.specs.declared.error_code.Er.{Er}
use Rattle.tk_types.specs.declared.error_code.Er.TheVariants as er
use Rattle.tk_types.specs.declared.task.Order.{Order}
use Rattle.tk_types.specs.declared.task.Order.TheVariants.{Fifo}
use Rattle.kernel_model.specs.Words.Checks.{Check, failed, first_error, natural, plain}
use Rattle.kernel_model.specs.Tasks.Base.{Base, make_wait}
use Rattle.kernel_model.specs.Tasks.Calls.{caller}
use Rattle.kernel_model.specs.SemFlags.Calls.{end_waits, object_checks, would_be_first}
use Rattle.object_model.specs.declared.mails.Message.{Message}
use Rattle.object_model.specs.Mails.Tables.{Mailbox, MailParts, Mails, MessageBuffer, box_at, box_object, buffer_at, has_mbf, has_mbx, receivers_object, senders_object}
use Rattle.object_model.specs.Mails.Bytes.{bytes_at}
use Rattle.object_model.specs.Mails.Boxes.{message_bytes}
use Rattle.object_model.specs.Mails.Buffers.{first_of, has_space, message_stored, none_waits, post, posted, receivers, senders, sent_at_once, takes_length}
use Rattle.object_model.specs.Mails.Calls as calls
use Rattle.object_model.specs.Mails.Calls.{MailDone, asked_into, asked_to_send, mail_call, mail_checked, mail_done, refused_with, waits_or_ends}
use Rattle.count_lemmas.proofs.Making.{IsMaking, IsQuiet, ends_quiet}

refused_quiet : (P : Base → Type 0) (error : Option Er) (p : MailParts) (effect : MailDone) → P p.base → P effect.base → P (refused_with error p effect).base
refused_quiet P (Some error) p effect has works = has
refused_quiet P None p effect has works = works

-- a call is refused and leaves the base, or has its effect
checked_quiet : (P : Base → Type 0) (checks : List Check) (p : MailParts) (effect : MailDone) → P p.base → P effect.base → P (mail_checked checks p effect).base
checked_quiet P checks p effect has works = refused_quiet P (first_error checks) p effect has works

either_done : (P : Base → Type 0) (test : Bool) (one other : MailDone) → P one.base → P other.base → P (cond {A = MailDone} test one other).base
either_done P true one other first second = first
either_done P false one other first second = second

wait_makes : (P Q : Base → Type 0) → IsMaking P Q → (p : MailParts) (t object : ℕ) (order : Order) (timeout : ℤ) (asked : Mails) → P p.base → Q (waits_or_ends p t object order timeout asked).base
wait_makes P Q is p t object order timeout asked has =
    either_done Q (int_eq timeout (pos 0)) (mail_done p (failed er.TmOut)) (mail_done (record p { base = make_wait p.base t object order timeout; table = asked }) outcomes.Blocked) (is.more _ has) (is.waits p.base t object order timeout has)

-- ---- mailboxes

box_emptied_quiet : (P : Base → Type 0) → IsQuiet P → (b : Base) (id : ℕ) (slot : Option Mailbox) → P b → P (calls.box_emptied b id slot)
box_emptied_quiet P is b id None has = has
box_emptied_quiet P is b id (Some k) has = is.given (end_waits k.order (box_object id) b) (length k.messages * message_bytes) (ends_quiet P is k.order (box_object id) b has)

put_quiet : (P : Base → Type 0) → IsQuiet P → (p : MailParts) (id : ℕ) (message : Message) (slot : Option Mailbox) → P p.base → P (calls.put_in_box p id message slot).base
put_quiet P is p id message None has = has
put_quiet P is p id message (Some k) has = is.taken p.base message_bytes has

taken_makes : (P Q : Base → Type 0) → IsMaking P Q → (p : MailParts) (t id : ℕ) (timeout : ℤ) (k : Mailbox) (messages : List Message) → P p.base → Q (calls.taken_from_box p t id timeout k messages).base
taken_makes P Q is p t id timeout k [] has = wait_makes P Q is p t (box_object id) k.order timeout p.table has
taken_makes P Q is p t id timeout k (first ∷ rest) has = is.more _ (is.quiet.given p.base message_bytes has)

box_makes : (P Q : Base → Type 0) → IsMaking P Q → (p : MailParts) (t id : ℕ) (timeout : ℤ) (slot : Option Mailbox) → P p.base → Q (calls.received_from_box p t id timeout slot).base
box_makes P Q is p t id timeout None has = is.more _ has
box_makes P Q is p t id timeout (Some k) has = taken_makes P Q is p t id timeout k k.messages has

-- ---- message buffers

buffer_emptied_quiet : (P : Base → Type 0) → IsQuiet P → (b : Base) (id : ℕ) (slot : Option MessageBuffer) → P b → P (calls.buffer_emptied b id slot)
buffer_emptied_quiet P is b id None has = has
buffer_emptied_quiet P is b id (Some k) has =
    is.given _ k.size (ends_quiet P is Fifo (receivers_object id) (end_waits k.order (senders_object id) b) (ends_quiet P is k.order (senders_object id) b has))

-- it holds of the base that a send left, where there was one
abbrev pub Sent : (Base → Type 0) → Option MailParts → Type 0
Sent P None = Unit {0}
Sent P (Some q) = P q.base

either_sent : (P : Base → Type 0) (test : Bool) (one other : Option MailParts) → Sent P one → Sent P other → Sent P (cond {A = Option MailParts} test one other)
either_sent P true one other first second = first
either_sent P false one other first second = second

at_once_quiet : (P : Base → Type 0) → IsQuiet P → (p : MailParts) (id : ℕ) (k : MessageBuffer) (first : Bool) (receiver : Option ℕ) (messages : List (List ℕ)) (bytes : List ℕ) → P p.base → Sent P (sent_at_once p id k first receiver messages bytes)
at_once_quiet P is p id k false receiver messages bytes has = tt
at_once_quiet P is p id k true (Some receiver) (oldest ∷ later) bytes has = tt
at_once_quiet P is p id k true (Some receiver) [] bytes has = is.released p.base receiver (plain (pos (length bytes))) has
at_once_quiet P is p id k true None messages bytes has = either_sent P (has_space k bytes) (Some (message_stored p id k bytes)) None has tt

sent_or_waits_makes : (P Q : Base → Type 0) → IsMaking P Q → (p : MailParts) (t id : ℕ) (k : MessageBuffer) (timeout : ℤ) (bytes : List ℕ) (left : Option MailParts) → P p.base → Sent P left → Q (calls.sent_or_waits p t id k timeout bytes left).base
sent_or_waits_makes P Q is p t id k timeout bytes (Some left) has sent = is.more _ sent
sent_or_waits_makes P Q is p t id k timeout bytes None has sent = wait_makes P Q is p t (senders_object id) k.order timeout (asked_to_send p.table t bytes) has

send_makes : (P Q : Base → Type 0) → IsMaking P Q → (p : MailParts) (t id : ℕ) (bytes : List ℕ) (timeout : ℤ) (slot : Option MessageBuffer) → P p.base → Q (calls.sent_to_buffer p t id bytes timeout slot).base
send_makes P Q is p t id bytes timeout None has = is.more _ has
send_makes P Q is p t id bytes timeout (Some k) has =
    sent_or_waits_makes P Q is p t id k timeout bytes _ has (at_once_quiet P is.quiet p id k (would_be_first k.order p.base t (senders p.base k id)) (first_of (receivers p.base id)) k.messages bytes has)

by_caller_makes : (P Q : Base → Type 0) → IsMaking P Q → (p : MailParts) (t id : ℕ) (k : MessageBuffer) (address : ℕ) (timeout : ℤ) (receiver sender : Option ℕ) (messages : List (List ℕ)) → P p.base → Q (calls.taken_by_caller p t id k address timeout receiver sender messages).base
by_caller_makes P Q is p t id k address timeout (Some receiver) sender messages has = wait_makes P Q is p t (receivers_object id) Fifo timeout (asked_into p.table t address) has
by_caller_makes P Q is p t id k address timeout None sender (oldest ∷ later) has = is.more _ has
by_caller_makes P Q is p t id k address timeout None (Some sender) [] has = is.more _ (is.quiet.released p.base sender (plain (pos 0)) has)
by_caller_makes P Q is p t id k address timeout None None [] has = wait_makes P Q is p t (receivers_object id) Fifo timeout (asked_into p.table t address) has

receive_makes : (P Q : Base → Type 0) → IsMaking P Q → (p : MailParts) (t id address : ℕ) (timeout : ℤ) (slot : Option MessageBuffer) → P p.base → Q (calls.received_from_buffer p t id address timeout slot).base
receive_makes P Q is p t id address timeout None has = is.more _ has
receive_makes P Q is p t id address timeout (Some k) has = by_caller_makes P Q is p t id k address timeout (first_of (receivers p.base id)) (first_of (senders p.base k id)) k.messages has

-- ---- sending from the kernel itself

posted_quiet : (P : Base → Type 0) → IsQuiet P → (p : MailParts) (id : ℕ) (bytes : List ℕ) (slot : Option MessageBuffer) → P p.base → Sent P (posted p id bytes slot)
posted_quiet P is p id bytes None has = tt
posted_quiet P is p id bytes (Some k) has =
    either_sent P (takes_length (length bytes) k) (sent_at_once p id k (none_waits (senders p.base k id)) (first_of (receivers p.base id)) k.messages bytes) None
    (at_once_quiet P is p id k (none_waits (senders p.base k id)) (first_of (receivers p.base id)) k.messages bytes has) tt

pub post_quiet : (P : Base → Type 0) → IsQuiet P → (p : MailParts) (id : ℕ) (bytes : List ℕ) → P p.base → Sent P (post p id bytes)
unfolding post
post_quiet P is p id bytes has = posted_quiet P is p id bytes (buffer_at p.table id) has

-- ---- all

pub mail_calls_make : (P Q : Base → Type 0) → IsMaking P Q → (p : MailParts) (who : Who) (c : MailCall) → P p.base → Q (mail_call p who c).base
unfolding mail_call calls.create_box calls.delete_box calls.send_box calls.receive_box calls.refer_box calls.create_buffer calls.delete_buffer calls.send_buffer calls.receive_buffer calls.refer_buffer
mail_calls_make P Q is p who (call.CreMbx attributes) has = is.more _ (checked_quiet P (calls.create_box_checks p.table attributes) p _ has has)
mail_calls_make P Q is p who (call.DelMbx id) has = is.more _ (checked_quiet P (object_checks id (has_mbx p.table (natural id)) []) p _ has (box_emptied_quiet P is.quiet p.base (natural id) (box_at p.table (natural id)) has))
mail_calls_make P Q is p who (call.SndMbx id priority value) has = is.more _ (checked_quiet P (calls.send_box_checks p id priority value) p _ has (put_quiet P is.quiet p (natural id) _ (box_at p.table (natural id)) has))
mail_calls_make P Q is p who (call.RcvMbx id timeout) has =
    checked_quiet Q (calls.receive_box_checks p who id timeout) p _ (is.more _ has) (box_makes P Q is p (caller who) (natural id) timeout (box_at p.table (natural id)) has)
mail_calls_make P Q is p who (call.RefMbx id) has = is.more _ (checked_quiet P (object_checks id (has_mbx p.table (natural id)) []) p _ has has)
mail_calls_make P Q is p who (call.CreMbf attributes size most) has = is.more _ (checked_quiet P (calls.create_buffer_checks p attributes size most) p _ has (is.quiet.taken p.base (natural size) has))
mail_calls_make P Q is p who (call.SndMbf id address n timeout) has =
    checked_quiet Q (calls.send_buffer_checks p who id address n timeout) p _ (is.more _ has)
    (send_makes P Q is p (caller who) (natural id) (bytes_at p.memory (natural address) (natural n)) timeout (buffer_at p.table (natural id)) has)
mail_calls_make P Q is p who (call.RcvMbf id address timeout) has =
    checked_quiet Q (calls.receive_buffer_checks p who id address timeout) p _ (is.more _ has)
    (receive_makes P Q is p (caller who) (natural id) (natural address) timeout (buffer_at p.table (natural id)) has)
mail_calls_make P Q is p who (call.RefMbf id) has = is.more _ (checked_quiet P (object_checks id (has_mbf p.table (natural id)) []) p _ has has)
mail_calls_make P Q is p who (call.DelMbf id) has = is.more _ (checked_quiet P (object_checks id (has_mbf p.table (natural id)) []) p _ has (buffer_emptied_quiet P is.quiet p.base (natural id) (buffer_at p.table (natural id)) has))
