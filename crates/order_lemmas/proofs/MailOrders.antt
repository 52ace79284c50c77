-- Every call on mailboxes and message buffers leaves the tasks that wait in the order of what they wait for.
use Rattle.std.proofs.Common.{◌≡◌, ℕ, ◌≤◌, length, Bool, true, false, cond, List, [], ◌∷◌, Option, Some, None, refl, ◌∙◌, ap, ℤ, pos}
use Rattle.std.specs.Prelude.{slice_set}
use Rattle.std.specs.Option.{option_map}
use Rattle.std.specs.Ordering.{int_eq}
use Rattle.tk_types.specs.declared.answer.Who.{Who}
use Rattle.tk_types.specs.declared.calls.MailCall.{MailCall}
use Rattle.tk_types.specs.declared.calls.MailCall.TheVariants as call
use Rattle.tk_types.specs.declared.error_code.Er.{Er}
use Rattle.tk_types.specs.declared.task.Order.{Order}
use Rattle.tk_types.specs.declared.task.Order.TheVariants.{Fifo}
use Rattle.kernel_model.specs.Words.Checks.{Check, first_error, natural, plain}
use Rattle.kernel_model.specs.Tasks.Base.{Base, make_wait, take_bytes}
use Rattle.kernel_model.specs.Tasks.Calls.{caller}
use Rattle.kernel_model.specs.Tasks.Waits.{HavePlaces}
use Rattle.kernel_model.specs.SemFlags.Calls.{end_waits, object_checks, would_be_first}
use Rattle.object_model.specs.declared.mails.Message.{Message}
use Rattle.object_model.specs.Mails.Tables.{Mailbox, MailParts, Mails, MessageBuffer, box_at, box_object, buffer_at, has_mbf, has_mbx, receivers_object, senders_object, with_box, with_buffer}
use Rattle.object_model.specs.Mails.Bytes.{bytes_at}
use Rattle.object_model.specs.Mails.Boxes.{message_bytes}
use Rattle.object_model.specs.Mails.Buffers.{first_of, has_space, message_stored, receivers, senders, sent_at_once}
use Rattle.object_model.specs.Mails.Calls as calls
use Rattle.object_model.specs.Mails.Calls.{MailDone, asked_into, asked_to_send, mail_call, mail_checked, refused_with, waits_or_ends}
use Rattle.machine_model.specs.States.Objects.{Objects}
use Rattle.machine_model.specs.States.Waits.{order_for}
use Rattle.call_lemmas.proofs.Checked.{holds_at}
use Rattle.order_lemmas.proofs.Rights.{AreRight, ended_fits, ended_idle, ended_places, idle_waits, release_fits, right_same, wait_fits}
use Rattle.order_lemmas.proofs.Ranges.{box_named, known_id, receivers_named, senders_named}
use Rattle.order_lemmas.proofs.TaskOrders.{taken_fits}
use Rattle.order_lemmas.proofs.Written.{box_free, box_idle, box_made, box_same, buffer_free, buffer_idle, buffer_made, buffer_same}

-- what holds of the base beside the tables of mailboxes and message buffers
abbrev pub MailRight : Objects → Mails → Base → Type 0
MailRight o m b = AreRight (order_for (record o { mails = m })) b

abbrev DoneRight : Objects → MailDone → Type 0
DoneRight o done = MailRight o done.table done.base

abbrev parts : Objects → Base → List ℕ → MailParts
parts o b memory = record { base = b; table = o.mails; memory = memory }

refused_fits : (o : Objects) (error : Option Er) (b : Base) (memory : List ℕ) (effect : MailDone) → MailRight o o.mails b → (error ≡ None → DoneRight o effect) →
    DoneRight o (refused_with error (parts o b memory) effect)
refused_fits o (Some error) b memory effect all works = all
refused_fits o None b memory effect all works = works refl

checked_fits : (o : Objects) (checks : List Check) (b : Base) (memory : List ℕ) (effect : MailDone) → MailRight o o.mails b → (first_error checks ≡ None → DoneRight o effect) →
    DoneRight o (mail_checked checks (parts o b memory) effect)
checked_fits o checks b memory effect all works = refused_fits o (first_error checks) b memory effect all works

either_fits : (o : Objects) (test : Bool) (one other : MailDone) → DoneRight o one → DoneRight o other → DoneRight o (cond {A = MailDone} test one other)
either_fits o true one other first second = first
either_fits o false one other first second = second

-- what a task asked for says nothing of the orders
asked_fits : (o : Objects) (b : Base) (sending : List (List ℕ)) (into : List ℕ) → AreRight (order_for o) b → MailRight o (record o.mails { sending = sending; into = into }) b
asked_fits o b sending into all = right_same (order_for o) (order_for (record o { mails = record o.mails { sending = sending; into = into } })) b (λ object. refl) all

wait_or_ends_fits : (o : Objects) (b : Base) (memory : List ℕ) (t object : ℕ) (order : Order) (timeout : ℤ) (sending : List (List ℕ)) (into : List ℕ) →
    order_for o object ≡ Some order → AreRight (order_for o) b →
    DoneRight o (waits_or_ends (parts o b memory) t object order timeout (record o.mails { sending = sending; into = into }))
wait_or_ends_fits o b memory t object order timeout sending into there all =
    either_fits o (int_eq timeout (pos 0)) _ _ all
    (asked_fits o (make_wait b t object order timeout) sending into (wait_fits (order_for o) b t object order timeout there all))

-- ---- mailboxes

box_deleted : (o : Objects) (b : Base) (id : ℕ) (slot : Option Mailbox) → box_at o.mails id ≡ slot → HavePlaces b → AreRight (order_for o) b →
    MailRight o (with_box o.mails id None) (calls.box_emptied b id slot)
box_deleted o b id None at has all = box_free o b id None (λ least. at) all
box_deleted o b id (Some k) at has all =
    box_idle o (end_waits k.order (box_object id) b) id None (ended_idle k.order (box_object id) b has) (ended_fits (order_for o) k.order (box_object id) b all)

put_fits : (o : Objects) (b : Base) (memory : List ℕ) (id : ℕ) (message : Message) (slot : Option Mailbox) → box_at o.mails id ≡ slot → AreRight (order_for o) b →
    MailRight o (calls.put_in_box (parts o b memory) id message slot).table (calls.put_in_box (parts o b memory) id message slot).base
put_fits o b memory id message None at all = all
put_fits o b memory id message (Some k) at all = box_same o (take_bytes b message_bytes) id k _ at refl (taken_fits (order_for o) b message_bytes all)

first_fits : (o : Objects) (b : Base) (memory : List ℕ) (t id : ℕ) (timeout : ℤ) (k : Mailbox) (messages : List Message) → box_at o.mails id ≡ Some k → 1 ≤ id → id ≤ 64 →
    AreRight (order_for o) b →
    DoneRight o (calls.taken_from_box (parts o b memory) t id timeout k messages)
first_fits o b memory t id timeout k [] at least most all =
    wait_or_ends_fits o b memory t (box_object id) k.order timeout o.mails.sending o.mails.into (box_named o id least most ∙ ap (option_map (λ k. k.order)) at) all
first_fits o b memory t id timeout k (first ∷ rest) at least most all = box_same o b id k _ at refl all

box_fits : (o : Objects) (b : Base) (memory : List ℕ) (t id : ℕ) (timeout : ℤ) (slot : Option Mailbox) → box_at o.mails id ≡ slot → 1 ≤ id → id ≤ 64 → AreRight (order_for o) b →
    DoneRight o (calls.received_from_box (parts o b memory) t id timeout slot)
box_fits o b memory t id timeout None at least most all = all
box_fits o b memory t id timeout (Some k) at least most all = first_fits o b memory t id timeout k k.messages at least most all

-- ---- message buffers

buffer_deleted : (o : Objects) (b : Base) (id : ℕ) (slot : Option MessageBuffer) → buffer_at o.mails id ≡ slot → HavePlaces b → AreRight (order_for o) b →
    MailRight o (with_buffer o.mails id None) (calls.buffer_emptied b id slot)
buffer_deleted o b id None at has all = buffer_free o b id None (λ least. at) all
buffer_deleted o b id (Some k) at has all =
    let c : Base = end_waits k.order (senders_object id) b in
    buffer_idle o (end_waits Fifo (receivers_object id) c) id None
    (idle_waits (senders_object id) Fifo (receivers_object id) c (ended_idle k.order (senders_object id) b has))
    (ended_idle Fifo (receivers_object id) c (ended_places k.order (senders_object id) b has))
    (ended_fits (order_for o) Fifo (receivers_object id) c (ended_fits (order_for o) k.order (senders_object id) b all))

-- what a send left, where there was one
abbrev pub SentRight : Objects → Option MailParts → Type 0
SentRight o None = Unit {0}
SentRight o (Some q) = MailRight o q.table q.base

stored_fits : (o : Objects) (test : Bool) (q : MailParts) → MailRight o q.table q.base → SentRight o (cond {A = Option MailParts} test (Some q) None)
stored_fits o true q all = all
stored_fits o false q all = tt

-- a message that needn't wait
at_once_fits : (o : Objects) (b : Base) (memory : List ℕ) (id : ℕ) (k : MessageBuffer) (first : Bool) (receiver : Option ℕ) (messages : List (List ℕ)) (bytes : List ℕ) →
    buffer_at o.mails id ≡ Some k → AreRight (order_for o) b →
    SentRight o (sent_at_once (parts o b memory) id k first receiver messages bytes)
at_once_fits o b memory id k false receiver messages bytes at all = tt
at_once_fits o b memory id k true (Some receiver) (oldest ∷ later) bytes at all = tt
at_once_fits o b memory id k true (Some receiver) [] bytes at all = release_fits (order_for o) b receiver (plain (pos (length bytes))) all
at_once_fits o b memory id k true None messages bytes at all = stored_fits o (has_space k bytes) (message_stored (parts o b memory) id k bytes)
    (buffer_same o b id k _ at refl all)

sent_or_waits_fits : (o : Objects) (b : Base) (memory : List ℕ) (t id : ℕ) (k : MessageBuffer) (timeout : ℤ) (bytes : List ℕ) (left : Option MailParts) →
    buffer_at o.mails id ≡ Some k → 1 ≤ id → id ≤ 64 →
    AreRight (order_for o) b → SentRight o left → DoneRight o (calls.sent_or_waits (parts o b memory) t id k timeout bytes left)
sent_or_waits_fits o b memory t id k timeout bytes (Some left) at least most all sent = sent
sent_or_waits_fits o b memory t id k timeout bytes None at least most all sent =
    wait_or_ends_fits o b memory t (senders_object id) k.order timeout (slice_set o.mails.sending t bytes) o.mails.into
    (senders_named o id least most ∙ ap (option_map (λ k. k.order)) at) all

send_fits : (o : Objects) (b : Base) (memory : List ℕ) (t id : ℕ) (bytes : List ℕ) (timeout : ℤ) (slot : Option MessageBuffer) → buffer_at o.mails id ≡ slot → 1 ≤ id → id ≤ 64 →
    AreRight (order_for o) b →
    DoneRight o (calls.sent_to_buffer (parts o b memory) t id bytes timeout slot)
send_fits o b memory t id bytes timeout None at least most all = all
send_fits o b memory t id bytes timeout (Some k) at least most all =
    sent_or_waits_fits o b memory t id k timeout bytes _ at least most all
    (at_once_fits o b memory id k (would_be_first k.order b t (senders b k id)) (first_of (receivers b id)) k.messages bytes at all)

by_caller_fits : (o : Objects) (b : Base) (memory : List ℕ) (t id : ℕ) (k : MessageBuffer) (address : ℕ) (timeout : ℤ) (receiver sender : Option ℕ) (messages : List (List ℕ)) →
    buffer_at o.mails id ≡ Some k → 1 ≤ id → id ≤ 64 →
    AreRight (order_for o) b → DoneRight o (calls.taken_by_caller (parts o b memory) t id k address timeout receiver sender messages)
by_caller_fits o b memory t id k address timeout (Some receiver) sender messages at least most all =
    wait_or_ends_fits o b memory t (receivers_object id) Fifo timeout o.mails.sending (slice_set o.mails.into t address) (receivers_named o id least most ∙ ap (option_map {T = MessageBuffer} (λ k. Fifo)) at) all
by_caller_fits o b memory t id k address timeout None sender (oldest ∷ later) at least most all = buffer_same o b id k _ at refl all
by_caller_fits o b memory t id k address timeout None (Some sender) [] at least most all = release_fits (order_for o) b sender (plain (pos 0)) all
by_caller_fits o b memory t id k address timeout None None [] at least most all =
    wait_or_ends_fits o b memory t (receivers_object id) Fifo timeout o.mails.sending (slice_set o.mails.into t address) (receivers_named o id least most ∙ ap (option_map {T = MessageBuffer} (λ k. Fifo)) at) all

receive_fits : (o : Objects) (b : Base) (memory : List ℕ) (t id address : ℕ) (timeout : ℤ) (slot : Option MessageBuffer) → buffer_at o.mails id ≡ slot → 1 ≤ id → id ≤ 64 →
    AreRight (order_for o) b →
    DoneRight o (calls.received_from_buffer (parts o b memory) t id address timeout slot)
receive_fits o b memory t id address timeout None at least most all = all
receive_fits o b memory t id address timeout (Some k) at least most all =
    by_caller_fits o b memory t id k address timeout (first_of (receivers b id)) (first_of (senders b k id)) k.messages at least most all

-- every call on mailboxes and message buffers leaves the tasks that wait in order
pub mail_calls_fit : (o : Objects) (b : Base) (memory : List ℕ) (who : Who) (c : MailCall) → HavePlaces b → AreRight (order_for o) b →
    MailRight o (mail_call (record { base = b; table = o.mails; memory = memory }) who c).table (mail_call (record { base = b; table = o.mails; memory = memory }) who c).base
unfolding mail_call calls.create_box calls.delete_box calls.send_box calls.receive_box calls.refer_box calls.create_buffer calls.delete_buffer calls.send_buffer calls.receive_buffer calls.refer_buffer
mail_calls_fit o b memory who (call.CreMbx attributes) has all = checked_fits o (calls.create_box_checks o.mails attributes) b memory _ all
    (λ none. box_made o b (Some (calls.new_box attributes)) all)
mail_calls_fit o b memory who (call.DelMbx id) has all =
    checked_fits o (object_checks id (has_mbx o.mails (natural id)) []) b memory _ all (λ none. box_deleted o b (natural id) (box_at o.mails (natural id)) refl has all)
mail_calls_fit o b memory who (call.SndMbx id priority value) has all =
    checked_fits o (calls.send_box_checks (parts o b memory) id priority value) b memory _ all
    (λ none. put_fits o b memory (natural id) (record { priority = priority; value = value }) (box_at o.mails (natural id)) refl all)
mail_calls_fit o b memory who (call.RcvMbx id timeout) has all =
    checked_fits o (calls.receive_box_checks (parts o b memory) who id timeout) b memory _ all
    (λ none. let known = known_id 64 id (holds_at 0 (calls.receive_box_checks (parts o b memory) who id timeout) none) in
    box_fits o b memory (caller who) (natural id) timeout (box_at o.mails (natural id)) refl known.0 known.1 all)
mail_calls_fit o b memory who (call.RefMbx id) has all = checked_fits o (object_checks id (has_mbx o.mails (natural id)) []) b memory _ all (λ none. all)
mail_calls_fit o b memory who (call.CreMbf attributes size most) has all =
    checked_fits o (calls.create_buffer_checks (parts o b memory) attributes size most) b memory _ all
    (λ none. buffer_made o (take_bytes b (natural size)) (Some (calls.new_buffer attributes size most)) (taken_fits (order_for o) b (natural size) all))
mail_calls_fit o b memory who (call.SndMbf id address n timeout) has all =
    checked_fits o (calls.send_buffer_checks (parts o b memory) who id address n timeout) b memory _ all
    (λ none. let known = known_id 64 id (holds_at 0 (calls.send_buffer_checks (parts o b memory) who id address n timeout) none) in
    send_fits o b memory (caller who) (natural id) (bytes_at memory (natural address) (natural n)) timeout (buffer_at o.mails (natural id)) refl known.0 known.1 all)
mail_calls_fit o b memory who (call.RcvMbf id address timeout) has all =
    checked_fits o (calls.receive_buffer_checks (parts o b memory) who id address timeout) b memory _ all
    (λ none. let known = known_id 64 id (holds_at 0 (calls.receive_buffer_checks (parts o b memory) who id address timeout) none) in
    receive_fits o b memory (caller who) (natural id) (natural address) timeout (buffer_at o.mails (natural id)) refl known.0 known.1 all)
mail_calls_fit o b memory who (call.RefMbf id) has all = checked_fits o (object_checks id (has_mbf o.mails (natural id)) []) b memory _ all (λ none. all)
mail_calls_fit o b memory who (call.DelMbf id) has all =
    checked_fits o (object_checks id (has_mbf o.mails (natural id)) []) b memory _ all (λ none. buffer_deleted o b (natural id) (buffer_at o.mails (natural id)) refl has all)
