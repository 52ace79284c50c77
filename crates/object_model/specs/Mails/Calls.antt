-- The system calls on mailboxes and message buffers: the checks of each in their order, and its effect up to the first
-- settling. A call that may wait decides at the object.
use Rattle.std.specs.Prelude.{ℕ, ◌+◌, ◌-◌, ◌*◌, ◌==◌, Bool, false, not, ◌&&◌, ◌||◌, nat_le, if◌then◌else◌, ℤ, pos, negsuc, int_le, length, List, [], ◌∷◌, Option, Some, None, drop, slice_set}
use Rattle.std.specs.Ordering.{int_eq}
use Rattle.std.specs.Option.{option_map_or}
use Rattle.tk_types.specs.declared.task.Order.{Order}
use Rattle.tk_types.specs.declared.task.Order.TheVariants.{Fifo}
use Rattle.tk_types.specs.declared.answer.Who.{Who}
use Rattle.tk_types.specs.declared.answer.Outcome.{Outcome}
use Rattle.tk_types.specs.declared.answer.Outcome.TheVariants.{Returned, Blocked}
use Rattle.tk_types.specs.declared.error_code.Er.{Er}
use Rattle.tk_types.specs.declared.error_code.Er.TheVariants as er
use Rattle.tk_types.specs.declared.modes.Attributes.{Attributes}
use Rattle.tk_types.specs.declared.calls.MailCall.{MailCall}
use Rattle.tk_types.specs.declared.calls.MailCall.TheVariants as call
use Rattle.kernel_model.specs.declared.marks.Mark.TheVariants.{MayWait}
use Rattle.kernel_model.specs.Words.Orders.{free_from, head_or_zero}
use Rattle.kernel_model.specs.Words.Checks.{Check, ◌otherwise◌, first_error, within, natural, answer, failed, done}
use Rattle.kernel_model.specs.Tasks.Base.{Base, has_room, make_wait, take_bytes, give_bytes}
use Rattle.kernel_model.specs.Tasks.Marks.{allows}
use Rattle.kernel_model.specs.Tasks.Calls.{caller}
use Rattle.kernel_model.specs.SemFlags.Calls.{not_both, order_of, object_checks, end_waits, would_be_first}
use Rattle.kernel_model.specs.Bodies.Statements.{memory_size}
use Rattle.object_model.specs.declared.mails.Message.{Message}
use Rattle.object_model.specs.Mails.Tables.{Mailbox, MessageBuffer, Mails, MailParts, box_object, senders_object, receivers_object, box_at, buffer_at, has_mbx, has_mbf, with_box, with_buffer, bytes_of}
use Rattle.object_model.specs.Mails.Bytes.{bytes_at, with_bytes}
use Rattle.object_model.specs.Mails.Boxes.{message_bytes, put_in, message_answer, box_waiters, left_in_box}
use Rattle.object_model.specs.Mails.Buffers.{space_of, space_taken, senders, receivers, first_of, with_messages, sent_at_once, sender_ended, takes_length}

-- a base, the table and the script's memory, and what became of the call
pub record MailDone : Type 0 where
  pub base : Base
  pub table : Mails
  pub memory : List ℕ
  pub outcome : Outcome

-- what a call left, and what became of it
abbrev pub mail_done : MailParts → Outcome → MailDone
mail_done p outcome = record { base = p.base; table = p.table; memory = p.memory; outcome = outcome }

abbrev pub refused_with : Option Er → MailParts → MailDone → MailDone
refused_with (Some error) p effect = mail_done p (failed error)
refused_with None p effect = effect

-- a call is refused with the first error of its checks, and nothing is changed then; else it has its effect
abbrev pub mail_checked : List Check → MailParts → MailDone → MailDone
mail_checked checks p effect = refused_with (first_error checks) p effect

-- with a time-out of 0 a wait that isn't served is over at once, and nothing has happened; else the task waits, and the
-- table keeps what it asked for
abbrev pub waits_or_ends : MailParts → ℕ → ℕ → Order → ℤ → Mails → MailDone
waits_or_ends p t object order timeout asked =
    if int_eq timeout (pos 0)
    then mail_done p (failed er.TmOut)
    else mail_done (record p { base = make_wait p.base t object order timeout; table = asked }) Blocked

-- ---- attributes

-- beside those without an effect a mailbox has the order of its waiters, and that of its messages
abbrev pub has_box_attributes : Attributes → Bool
has_box_attributes a =
    not (a.ta_first || a.ta_cnt || a.ta_wsgl || a.ta_wmul || a.ta_inherit || a.ta_ceiling || a.ta_sta || a.ta_phs)
    && (not_both a.ta_tfifo a.ta_tpri && not_both a.ta_mfifo a.ta_mpri)

-- and a message buffer, as each other object, the order of its waiters alone
abbrev pub has_order_attributes : Attributes → Bool
has_order_attributes a =
    not (a.ta_first || a.ta_cnt || a.ta_wsgl || a.ta_wmul || a.ta_mfifo || a.ta_mpri || a.ta_inherit || a.ta_ceiling || a.ta_sta || a.ta_phs)
    && not_both a.ta_tfifo a.ta_tpri

-- ---- mailboxes: making and deleting

abbrev pub free_box : Mails → ℕ
free_box m = free_from 1 (drop 1 m.boxes)

abbrev pub new_box : Attributes → Mailbox
new_box attributes = record { order = order_of attributes; by_priority = attributes.ta_mpri; messages = [] }

abbrev pub create_box_checks : Mails → Attributes → List Check
create_box_checks m attributes =
    (has_box_attributes attributes otherwise er.RsAtr)
    ∷ (not (free_box m == 0) otherwise er.Limit)
    ∷ []

-- `tk_cre_mbx`: a mailbox with the least free ID
unfoldable pub create_box : MailParts → Attributes → MailDone
create_box p attributes = mail_checked (create_box_checks p.table attributes) p
    (mail_done (record p { table = with_box p.table (free_box p.table) (Some (new_box attributes)) }) (done (pos (free_box p.table))))

-- the waits for a box end, and the bytes of the messages in it are given back
abbrev pub box_emptied : Base → ℕ → Option Mailbox → Base
box_emptied b id None = b
box_emptied b id (Some k) = give_bytes (end_waits k.order (box_object id) b) (length k.messages * message_bytes)

-- `tk_del_mbx`: the box is gone, its messages with it, and its waiters' waits end in queue order
unfoldable pub delete_box : MailParts → ℤ → MailDone
delete_box p id = mail_checked (object_checks id (has_mbx p.table (natural id)) []) p
    (mail_done (record p {
      base = box_emptied p.base (natural id) (box_at p.table (natural id));
      table = with_box p.table (natural id) None;
    }) (done (pos 0)))

-- ---- mailboxes: sending, receiving, asking

abbrev pub put_in_box : MailParts → ℕ → Message → Option Mailbox → MailParts
put_in_box p id message None = p
put_in_box p id message (Some k) = record p {
  base = take_bytes p.base message_bytes;
  table = with_box p.table id (Some (put_in k message));
}

abbrev pub send_box_checks : MailParts → ℤ → ℤ → ℤ → List Check
send_box_checks p id priority value =
    (within 1 64 id otherwise er.Id)
    ∷ (int_le (pos 1) priority otherwise er.Par)
    ∷ (int_le (pos 0) value otherwise er.Par)
    ∷ (has_mbx p.table (natural id) otherwise er.NoExs)
    ∷ (has_room p.base message_bytes otherwise er.NoMem)
    ∷ []

-- `tk_snd_mbx`: a message goes into the box, and its bytes are counted; a waiter is served by settling
unfoldable pub send_box : MailParts → ℤ → ℤ → ℤ → MailDone
send_box p id priority value = mail_checked (send_box_checks p id priority value) p
    (mail_done (put_in_box p (natural id) (record { priority = priority; value = value }) (box_at p.table (natural id))) (done (pos 0)))

-- a caller takes the first message; without one it waits
abbrev pub taken_from_box : MailParts → ℕ → ℕ → ℤ → Mailbox → List Message → MailDone
taken_from_box p t id timeout k [] = waits_or_ends p t (box_object id) k.order timeout p.table
taken_from_box p t id timeout k (first ∷ rest) = mail_done (left_in_box p id k rest) (Returned (message_answer first))

abbrev pub received_from_box : MailParts → ℕ → ℕ → ℤ → Option Mailbox → MailDone
received_from_box p t id timeout None = mail_done p (failed er.NoExs)
received_from_box p t id timeout (Some k) = taken_from_box p t id timeout k k.messages

abbrev pub receive_box_checks : MailParts → Who → ℤ → ℤ → List Check
receive_box_checks p who id timeout =
    (within 1 64 id otherwise er.Id)
    ∷ (int_le (negsuc 0) timeout otherwise er.Par)
    ∷ (allows p.base.flags who MayWait otherwise er.Ctx)
    ∷ (has_mbx p.table (natural id) otherwise er.NoExs)
    ∷ []

-- `tk_rcv_mbx`: answers the first message, or waits
unfoldable pub receive_box : MailParts → Who → ℤ → ℤ → MailDone
receive_box p who id timeout = mail_checked (receive_box_checks p who id timeout) p
    (received_from_box p (caller who) (natural id) timeout (box_at p.table (natural id)))

abbrev pub box_shown : Base → ℕ → Option Mailbox → Outcome
box_shown b id None = failed er.NoExs
box_shown b id (Some k) = Returned (answer (pos 0) (pos (length k.messages) ∷ pos (head_or_zero (box_waiters b k id)) ∷ []))

-- `tk_ref_mbx`: how many messages lie in the box, and the first waiter or 0
unfoldable pub refer_box : MailParts → ℤ → MailDone
refer_box p id = mail_checked (object_checks id (has_mbx p.table (natural id)) []) p
    (mail_done p (box_shown p.base (natural id) (box_at p.table (natural id))))

-- ---- message buffers: making and deleting

abbrev pub free_buffer : Mails → ℕ
free_buffer m = free_from 1 (drop 1 m.buffers)

abbrev pub new_buffer : Attributes → ℤ → ℤ → MessageBuffer
new_buffer attributes size most = record { order = order_of attributes; size = natural size; most = natural most; messages = [] }

-- a buffer has no bytes for messages, or enough for one of the greatest length
abbrev pub is_size : ℤ → ℤ → Bool
is_size most size = int_eq size (pos 0) || within (space_of (natural most)) 65536 size

abbrev pub create_buffer_checks : MailParts → Attributes → ℤ → ℤ → List Check
create_buffer_checks p attributes size most =
    (has_order_attributes attributes otherwise er.RsAtr)
    ∷ (within 1 65532 most otherwise er.Par)
    ∷ (is_size most size otherwise er.Par)
    ∷ (not (free_buffer p.table == 0) otherwise er.Limit)
    ∷ (has_room p.base (natural size) otherwise er.NoMem)
    ∷ []

-- `tk_cre_mbf`: a message buffer with the least free ID, whose bytes are counted
unfoldable pub create_buffer : MailParts → Attributes → ℤ → ℤ → MailDone
create_buffer p attributes size most = mail_checked (create_buffer_checks p attributes size most) p
    (mail_done (record p {
      base = take_bytes p.base (natural size);
      table = with_buffer p.table (free_buffer p.table) (Some (new_buffer attributes size most));
    }) (done (pos (free_buffer p.table))))

-- the waits of senders end, then those of receivers, and the buffer's bytes are given back
abbrev pub buffer_emptied : Base → ℕ → Option MessageBuffer → Base
buffer_emptied b id None = b
buffer_emptied b id (Some k) = give_bytes (end_waits Fifo (receivers_object id) (end_waits k.order (senders_object id) b)) k.size

-- `tk_del_mbf`: the buffer is gone, its messages with it; waits end in queue order, those of senders before receivers'
unfoldable pub delete_buffer : MailParts → ℤ → MailDone
delete_buffer p id = mail_checked (object_checks id (has_mbf p.table (natural id)) []) p
    (mail_done (record p {
      base = buffer_emptied p.base (natural id) (buffer_at p.table (natural id));
      table = with_buffer p.table (natural id) None;
    }) (done (pos 0)))

-- ---- message buffers: sending

-- the table with the bytes that a task sends, and with the place where a task's message goes
abbrev pub asked_to_send : Mails → ℕ → List ℕ → Mails
asked_to_send m t bytes = record m { sending = slice_set m.sending t bytes }

abbrev pub asked_into : Mails → ℕ → ℕ → Mails
asked_into m t address = record m { into = slice_set m.into t address }

-- a caller's message has gone at once, or the caller waits with it
abbrev pub sent_or_waits : MailParts → ℕ → ℕ → MessageBuffer → ℤ → List ℕ → Option MailParts → MailDone
sent_or_waits p t id k timeout bytes (Some left) = mail_done left (done (pos 0))
sent_or_waits p t id k timeout bytes None = waits_or_ends p t (senders_object id) k.order timeout (asked_to_send p.table t bytes)

abbrev pub sent_to_buffer : MailParts → ℕ → ℕ → List ℕ → ℤ → Option MessageBuffer → MailDone
sent_to_buffer p t id bytes timeout None = mail_done p (failed er.NoExs)
sent_to_buffer p t id bytes timeout (Some k) = sent_or_waits p t id k timeout bytes
    (sent_at_once p id k (would_be_first k.order p.base t (senders p.base k id)) (first_of (receivers p.base id)) k.messages bytes)

-- whether a run of so many bytes from an address on lies inside the script's memory
abbrev pub is_inside : ℤ → ℤ → Bool
is_inside address n =
    int_le (pos 0) address && (int_le (pos 0) n && nat_le (natural address + natural n) memory_size)

abbrev pub send_buffer_checks : MailParts → Who → ℤ → ℤ → ℤ → ℤ → List Check
send_buffer_checks p who id address n timeout =
    (within 1 64 id otherwise er.Id)
    ∷ (is_inside address n otherwise er.Par)
    ∷ (int_le (negsuc 0) timeout otherwise er.Par)
    ∷ (allows p.base.flags who MayWait otherwise er.Ctx)
    ∷ (has_mbf p.table (natural id) otherwise er.NoExs)
    ∷ (option_map_or (takes_length (natural n)) (buffer_at p.table (natural id)) false otherwise er.Par)
    ∷ []

-- `tk_snd_mbf`: sends bytes, as they stand in memory at the call, or waits
unfoldable pub send_buffer : MailParts → Who → ℤ → ℤ → ℤ → ℤ → MailDone
send_buffer p who id address n timeout = mail_checked (send_buffer_checks p who id address n timeout) p
    (sent_to_buffer p (caller who) (natural id) (bytes_at p.memory (natural address) (natural n)) timeout (buffer_at p.table (natural id)))

-- ---- message buffers: receiving

-- a caller's message goes into memory, and its length is the answer
abbrev pub received : MailParts → ℕ → List ℕ → MailDone
received p address bytes = mail_done (record p { memory = with_bytes p.memory address bytes }) (done (pos (length bytes)))

-- a caller takes the oldest message, or the first sender's, whose wait ends; where somebody receives already, or nothing
-- is there, it waits
abbrev pub taken_by_caller : MailParts → ℕ → ℕ → MessageBuffer → ℕ → ℤ → Option ℕ → Option ℕ → List (List ℕ) → MailDone
taken_by_caller p t id k address timeout (Some receiver) sender messages =
    waits_or_ends p t (receivers_object id) Fifo timeout (asked_into p.table t address)
taken_by_caller p t id k address timeout None sender (oldest ∷ later) = received (with_messages p id k later) address oldest
taken_by_caller p t id k address timeout None (Some sender) [] =
    received (sender_ended p sender) address (bytes_of p.table sender)
taken_by_caller p t id k address timeout None None [] =
    waits_or_ends p t (receivers_object id) Fifo timeout (asked_into p.table t address)

abbrev pub received_from_buffer : MailParts → ℕ → ℕ → ℕ → ℤ → Option MessageBuffer → MailDone
received_from_buffer p t id address timeout None = mail_done p (failed er.NoExs)
received_from_buffer p t id address timeout (Some k) =
    taken_by_caller p t id k address timeout (first_of (receivers p.base id)) (first_of (senders p.base k id)) k.messages

-- whether the longest message of a buffer lies inside the script's memory from an address on
abbrev pub has_place : ℕ → MessageBuffer → Bool
has_place address k = nat_le (address + k.most) memory_size

abbrev pub receive_buffer_checks : MailParts → Who → ℤ → ℤ → ℤ → List Check
receive_buffer_checks p who id address timeout =
    (within 1 64 id otherwise er.Id)
    ∷ (within 0 memory_size address otherwise er.Par)
    ∷ (int_le (negsuc 0) timeout otherwise er.Par)
    ∷ (allows p.base.flags who MayWait otherwise er.Ctx)
    ∷ (has_mbf p.table (natural id) otherwise er.NoExs)
    ∷ (option_map_or (has_place (natural address)) (buffer_at p.table (natural id)) false otherwise er.Par)
    ∷ []

-- `tk_rcv_mbf`: answers the length of the message that it puts into memory, or waits
unfoldable pub receive_buffer : MailParts → Who → ℤ → ℤ → ℤ → MailDone
receive_buffer p who id address timeout = mail_checked (receive_buffer_checks p who id address timeout) p
    (received_from_buffer p (caller who) (natural id) (natural address) timeout (buffer_at p.table (natural id)))

-- ---- message buffers: asking

abbrev pub first_length : List (List ℕ) → ℕ
first_length [] = 0
first_length (oldest ∷ later) = length oldest

abbrev pub buffer_shown : Base → ℕ → Option MessageBuffer → Outcome
buffer_shown b id None = failed er.NoExs
buffer_shown b id (Some k) = Returned (answer (pos 0)
    (pos (head_or_zero (receivers b id))
    ∷ pos (head_or_zero (senders b k id))
    ∷ pos (k.size - space_taken k.messages)
    ∷ pos (first_length k.messages)
    ∷ []))

-- `tk_ref_mbf`: the first receiver or 0, the first sender or 0, the free bytes, and the length of the first message or 0
unfoldable pub refer_buffer : MailParts → ℤ → MailDone
refer_buffer p id = mail_checked (object_checks id (has_mbf p.table (natural id)) []) p
    (mail_done p (buffer_shown p.base (natural id) (buffer_at p.table (natural id))))

-- a call on mailboxes and message buffers by its row
unfoldable pub mail_call : MailParts → Who → MailCall → MailDone
mail_call p who (call.CreMbx attributes) = create_box p attributes
mail_call p who (call.DelMbx id) = delete_box p id
mail_call p who (call.SndMbx id priority value) = send_box p id priority value
mail_call p who (call.RcvMbx id timeout) = receive_box p who id timeout
mail_call p who (call.RefMbx id) = refer_box p id
mail_call p who (call.CreMbf attributes size most) = create_buffer p attributes size most
mail_call p who (call.SndMbf id address n timeout) = send_buffer p who id address n timeout
mail_call p who (call.RcvMbf id address timeout) = receive_buffer p who id address timeout
mail_call p who (call.RefMbf id) = refer_buffer p id
mail_call p who (call.DelMbf id) = delete_buffer p id
