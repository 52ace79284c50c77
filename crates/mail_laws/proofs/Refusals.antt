-- A call on mailboxes and message buffers that answers an error has changed nothing.
use Rattle.std.proofs.Common.{◌≡◌, ℕ, Bool, true, false, List, [], ◌∷◌, Option, Some, None, length, refl, cond, ◌∙◌, ap, sym, ℤ, pos, arith}
use Rattle.std.specs.Prelude.{nat_lt}
use Rattle.std.specs.Int.{is_negative}
use Rattle.std.specs.Ordering.{int_eq}
use Rattle.std.proofs.lemmas.Bool.Decides.{nat_tests}
use Rattle.tk_types.specs.declared.answer.Answer.{Answer}
use Rattle.tk_types.specs.declared.answer.Who.{Who}
use Rattle.tk_types.specs.declared.answer.Outcome.{Outcome}
use Rattle.tk_types.specs.declared.answer.Outcome.TheVariants.{Returned, Blocked}
use Rattle.tk_types.specs.declared.error_code.Er.{Er}
use Rattle.tk_types.specs.declared.error_code.Er.TheVariants as er
use Rattle.tk_types.specs.declared.calls.MailCall.{MailCall}
use Rattle.tk_types.specs.declared.calls.MailCall.TheVariants as call
use Rattle.kernel_model.specs.Words.Checks.{Check, first_error, natural, failed, done}
use Rattle.kernel_model.specs.Tasks.Calls.{caller}
use Rattle.kernel_model.specs.SemFlags.Calls.{object_checks, would_be_first}
use Rattle.object_model.specs.declared.mails.Message.{Message}
use Rattle.object_model.specs.Mails.Tables.{Mailbox, MessageBuffer, MailParts, box_at, buffer_at, has_mbx, has_mbf, bytes_of}
use Rattle.object_model.specs.Mails.Bytes.{bytes_at}
use Rattle.object_model.specs.Mails.Boxes.{message_answer}
use Rattle.object_model.specs.Mails.Buffers.{senders, receivers, first_of, sent_at_once}
use Rattle.object_model.specs.Mails.Calls as Calls
use Rattle.object_model.specs.Mails.Calls.{MailDone, mail_done, refused_with, mail_checked, mail_call, create_box, delete_box, send_box, receive_box, refer_box, create_buffer, delete_buffer, send_buffer, receive_buffer, refer_buffer}

-- where a call has answered an error, base, table and memory are as they were
abbrev pub IsKept : MailParts → MailDone → Type 0
IsKept p result = (answer : Answer) → result.outcome ≡ Returned answer → is_negative answer.value ≡ true → result ≡ mail_done p (Returned answer)

abbrev value_in : Outcome → ℤ
value_in (Returned answer) = answer.value
value_in _ = pos 0

-- a number from 0 on is no error
no_error : (n : ℕ) (given answer : Answer) → given.value ≡ pos n → Returned given ≡ Returned answer → is_negative answer.value ≡ true → ⊥
no_error n given answer value is error =
    let none : nat_lt n 0 ≡ true = ap is_negative (sym value) ∙ ap (λ outcome. is_negative (value_in outcome)) is ∙ error in grind (arith, nat_tests, none)

works : (p q : MailParts) (n : ℕ) → IsKept p (mail_done q (done (pos n)))
works p q n answer is error = absurd (no_error n _ answer refl is error)

hands : (p q : MailParts) (message : Message) → IsKept p (mail_done q (Returned (message_answer message)))
hands p q message answer is error = absurd (no_error 0 _ answer refl is error)

leaves : (p : MailParts) (outcome : Outcome) → IsKept p (mail_done p outcome)
leaves p outcome answer is error = ap (mail_done p) is

waits : (p q : MailParts) → IsKept p (mail_done q Blocked)
waits p q answer is error = absurd (cc is)

kept_or : (p : MailParts) (error : Option Er) (effect : MailDone) → IsKept p effect → IsKept p (refused_with error p effect)
kept_or p (Some error) effect kept = leaves p (failed error)
kept_or p None effect kept = kept

checked : (p : MailParts) (checks : List Check) (effect : MailDone) → IsKept p effect → IsKept p (mail_checked checks p effect)
checked p checks effect kept = kept_or p (first_error checks) effect kept

waits_if : (p q : MailParts) (over : Bool) → IsKept p (cond {A = MailDone} over (mail_done p (failed er.TmOut)) (mail_done q Blocked))
waits_if p q true = leaves p (failed er.TmOut)
waits_if p q false = waits p q

from_box : (p : MailParts) (t id : ℕ) (timeout : ℤ) (k : Mailbox) (messages : List Message) → IsKept p (Calls.taken_from_box p t id timeout k messages)
from_box p t id timeout k [] = waits_if p _ (int_eq timeout (pos 0))
from_box p t id timeout k (first ∷ rest) = hands p _ first

box_received : (p : MailParts) (t id : ℕ) (timeout : ℤ) (slot : Option Mailbox) → IsKept p (Calls.received_from_box p t id timeout slot)
box_received p t id timeout None = leaves p (failed er.NoExs)
box_received p t id timeout (Some k) = from_box p t id timeout k k.messages

sent_or : (p : MailParts) (t id : ℕ) (k : MessageBuffer) (timeout : ℤ) (bytes : List ℕ) (left : Option MailParts) → IsKept p (Calls.sent_or_waits p t id k timeout bytes left)
sent_or p t id k timeout bytes None = waits_if p _ (int_eq timeout (pos 0))
sent_or p t id k timeout bytes (Some left) = works p left 0

sent : (p : MailParts) (t id : ℕ) (bytes : List ℕ) (timeout : ℤ) (slot : Option MessageBuffer) → IsKept p (Calls.sent_to_buffer p t id bytes timeout slot)
sent p t id bytes timeout None = leaves p (failed er.NoExs)
sent p t id bytes timeout (Some k) = sent_or p t id k timeout bytes (sent_at_once p id k (would_be_first k.order p.base t (senders p.base k id)) (first_of (receivers p.base id)) k.messages bytes)

taken : (p : MailParts) (t id : ℕ) (k : MessageBuffer) (address : ℕ) (timeout : ℤ) (receiver sender : Option ℕ) (messages : List (List ℕ)) → IsKept p (Calls.taken_by_caller p t id k address timeout receiver sender messages)
taken p t id k address timeout (Some receiver) sender messages = waits_if p _ (int_eq timeout (pos 0))
taken p t id k address timeout None sender (oldest ∷ later) = works p _ (length oldest)
taken p t id k address timeout None (Some sender) [] = works p _ (length (bytes_of p.table sender))
taken p t id k address timeout None None [] = waits_if p _ (int_eq timeout (pos 0))

buffer_received : (p : MailParts) (t id address : ℕ) (timeout : ℤ) (slot : Option MessageBuffer) → IsKept p (Calls.received_from_buffer p t id address timeout slot)
buffer_received p t id address timeout None = leaves p (failed er.NoExs)
buffer_received p t id address timeout (Some k) = taken p t id k address timeout (first_of (receivers p.base id)) (first_of (senders p.base k id)) k.messages

-- a call on mailboxes and message buffers that answers an error has changed nothing
pub refused_call : (p : MailParts) (who : Who) (c : MailCall) → IsKept p (mail_call p who c)
unfolding mail_call create_box delete_box send_box receive_box refer_box create_buffer delete_buffer send_buffer receive_buffer refer_buffer
refused_call p who (call.CreMbx attributes) = checked p (Calls.create_box_checks p.table attributes) _ (works p _ (Calls.free_box p.table))
refused_call p who (call.DelMbx id) = checked p (object_checks id (has_mbx p.table (natural id)) []) _ (works p _ 0)
refused_call p who (call.SndMbx id priority value) = checked p (Calls.send_box_checks p id priority value) _ (works p _ 0)
refused_call p who (call.RcvMbx id timeout) = checked p (Calls.receive_box_checks p who id timeout) _ (box_received p (caller who) (natural id) timeout (box_at p.table (natural id)))
refused_call p who (call.RefMbx id) = checked p (object_checks id (has_mbx p.table (natural id)) []) _ (leaves p _)
refused_call p who (call.CreMbf attributes size most) = checked p (Calls.create_buffer_checks p attributes size most) _ (works p _ (Calls.free_buffer p.table))
refused_call p who (call.SndMbf id address n timeout) = checked p (Calls.send_buffer_checks p who id address n timeout) _
    (sent p (caller who) (natural id) (bytes_at p.memory (natural address) (natural n)) timeout (buffer_at p.table (natural id)))
refused_call p who (call.RcvMbf id address timeout) = checked p (Calls.receive_buffer_checks p who id address timeout) _
    (buffer_received p (caller who) (natural id) (natural address) timeout (buffer_at p.table (natural id)))
refused_call p who (call.RefMbf id) = checked p (object_checks id (has_mbf p.table (natural id)) []) _ (leaves p _)
refused_call p who (call.DelMbf id) = checked p (object_checks id (has_mbf p.table (natural id)) []) _ (works p _ 0)
