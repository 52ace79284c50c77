-- What a property of the table has to survive so that every call and every serving keeps it.
use Rattle.std.proofs.Common.{◌≡◌, ℕ, Bool, true, false, cond, List, [], ◌∷◌, ◌++◌, Option, Some, None, length, refl, subst, ℤ, pos}
use Rattle.std.specs.Ordering.{int_eq}
use Rattle.tk_types.specs.declared.task.Order.{Order}
use Rattle.tk_types.specs.declared.task.Order.TheVariants.{Fifo}
use Rattle.tk_types.specs.declared.answer.Who.{Who}
use Rattle.tk_types.specs.declared.answer.Outcome.TheVariants.{Blocked}
use Rattle.tk_types.specs.declared.modes.Attributes.{Attributes}
use Rattle.tk_types.specs.declared.error_code.Er.{Er}
use Rattle.tk_types.specs.declared.error_code.Er.TheVariants as er
use Rattle.tk_types.specs.declared.calls.MailCall.{MailCall}
use Rattle.tk_types.specs.declared.calls.MailCall.TheVariants as call
use Rattle.kernel_model.specs.Words.Checks.{Check, first_error, natural, failed}
use Rattle.kernel_model.specs.Tasks.Base.{make_wait}
use Rattle.kernel_model.specs.Tasks.Calls.{caller}
use Rattle.kernel_model.specs.SemFlags.Calls.{object_checks, would_be_first}
use Rattle.object_model.specs.declared.mails.Message.{Message}
use Rattle.object_model.specs.Mails.Tables.{Mailbox, MessageBuffer, Mails, MailParts, senders_object, receivers_object, box_at, buffer_at, has_mbx, has_mbf, with_box, with_buffer, bytes_of}
use Rattle.object_model.specs.Mails.Bytes.{bytes_at}
use Rattle.object_model.specs.Mails.Boxes.{put_in, serve_box, serve_box_at, box_serves, box_waiters, serve_mailboxes}
use Rattle.object_model.specs.Mails.Buffers.{first_of, senders, receivers, has_space, message_stored, sender_ended, serve_buffer, serve_buffer_at, buffer_serves, serve_buffers, sent_at_once, post, posted, takes_length, none_waits}
use Rattle.object_model.specs.Mails.Calls as Calls
use Rattle.object_model.specs.Mails.Calls.{MailDone, mail_done, refused_with, mail_checked, mail_call, create_box, delete_box, send_box, receive_box, refer_box, create_buffer, delete_buffer, send_buffer, receive_buffer, refer_buffer}
use Rattle.mail_laws.proofs.Waits.{of_first}

pub record IsKept (P : Mails → Type 0) : Type 1 where
  pub to_send : (m : Mails) (t : ℕ) (bytes : List ℕ) → P m → P (Calls.asked_to_send m t bytes)
  pub to_receive : (m : Mails) (t address : ℕ) → P m → P (Calls.asked_into m t address)
  pub stored : (m : Mails) (id : ℕ) (k : MessageBuffer) (bytes : List ℕ) → buffer_at m id ≡ Some k → has_space k bytes ≡ true → P m → P (with_buffer m id (Some (record k { messages = k.messages ++ bytes ∷ [] })))
  pub taken : (m : Mails) (id : ℕ) (k : MessageBuffer) (oldest : List ℕ) (later : List (List ℕ)) → buffer_at m id ≡ Some k → k.messages ≡ oldest ∷ later → P m → P (with_buffer m id (Some (record k { messages = later })))
  pub new_buffer : (m : Mails) (id : ℕ) (attributes : Attributes) (size most : ℤ) → P m → P (with_buffer m id (Some (Calls.new_buffer attributes size most)))
  pub no_buffer : (m : Mails) (id : ℕ) → P m → P (with_buffer m id None)
  pub put : (m : Mails) (id : ℕ) (k : Mailbox) (message : Message) → box_at m id ≡ Some k → P m → P (with_box m id (Some (put_in k message)))
  pub rest : (m : Mails) (id : ℕ) (k : Mailbox) (first : Message) (rest : List Message) → box_at m id ≡ Some k → k.messages ≡ first ∷ rest → P m → P (with_box m id (Some (record k { messages = rest })))
  pub new_box : (m : Mails) (id : ℕ) (attributes : Attributes) → P m → P (with_box m id (Some (Calls.new_box attributes)))
  pub no_box : (m : Mails) (id : ℕ) → P m → P (with_box m id None)

module _ (P : Mails → Type 0) (keeps : IsKept P) where
  -- ---- servings

  HoldsIf : Option MailParts → Type 0
  HoldsIf None = Unit {0}
  HoldsIf (Some q) = P q.table

  stored_if : (p : MailParts) (id : ℕ) (k : MessageBuffer) (sender : ℕ) (test : Bool) → P p.table → buffer_at p.table id ≡ Some k → has_space k (bytes_of p.table sender) ≡ test →
      HoldsIf (cond test (Some (sender_ended (message_stored p id k (bytes_of p.table sender)) sender)) None)
  unfolding HoldsIf
  stored_if p id k sender true holds at fits = keeps.stored p.table id k (bytes_of p.table sender) at fits holds
  stored_if p id k sender false holds at fits = tt

  buffer_case : (p : MailParts) (id : ℕ) (k : MessageBuffer) (receiver sender : Option ℕ) (messages : List (List ℕ)) → P p.table → buffer_at p.table id ≡ Some k → k.messages ≡ messages →
      HoldsIf (buffer_serves p id k receiver sender messages)
  unfolding HoldsIf
  buffer_case p id k (Some receiver) sender (oldest ∷ later) holds at is = keeps.taken p.table id k oldest later at is holds
  buffer_case p id k (Some receiver) (Some sender) [] holds at is = holds
  buffer_case p id k (Some receiver) None [] holds at is = tt
  buffer_case p id k None (Some sender) messages holds at is = stored_if p id k sender (has_space k (bytes_of p.table sender)) holds at refl
  buffer_case p id k None None messages holds at is = tt

  buffer_slot : (p : MailParts) (id : ℕ) (slot : Option MessageBuffer) → P p.table → buffer_at p.table id ≡ slot → HoldsIf (serve_buffer_at p id slot)
  unfolding HoldsIf
  buffer_slot p id None holds at = tt
  buffer_slot p id (Some k) holds at = buffer_case p id k (first_of (receivers p.base id)) (first_of (senders p.base k id)) k.messages holds at refl

  of_some : (o : Option MailParts) (q : MailParts) → HoldsIf o → o ≡ Some q → P q.table
  unfolding HoldsIf
  of_some None q holds is = absurd (cc is)
  of_some (Some now) q holds is = let same : now ≡ q = cc is in subst (λ (parts : MailParts). P parts.table) same holds

  buffer_keeps : (p q : MailParts) (id : ℕ) → P p.table → serve_buffer p id ≡ Some q → P q.table
  unfolding serve_buffer
  buffer_keeps p q id holds served = of_some (serve_buffer_at p id (buffer_at p.table id)) q (buffer_slot p id (buffer_at p.table id) holds refl) served

  pub buffers_keep : (p q : MailParts) → P p.table → serve_buffers p ≡ Some q → P q.table
  unfolding serve_buffers
  buffers_keep p q holds served = of_first (λ (parts : MailParts). P parts.table) (serve_buffer p) _ q (λ id. buffer_keeps p q id holds) served

  -- mailboxes leave the buffers as they are
  box_case : (p : MailParts) (id : ℕ) (k : Mailbox) (waiters : List ℕ) (messages : List Message) → P p.table → box_at p.table id ≡ Some k → k.messages ≡ messages → HoldsIf (box_serves p id k waiters messages)
  unfolding HoldsIf
  box_case p id k [] messages holds at is = tt
  box_case p id k (t ∷ ts) [] holds at is = tt
  box_case p id k (t ∷ ts) (first ∷ rest) holds at is = keeps.rest p.table id k first rest at is holds

  box_slot : (p : MailParts) (id : ℕ) (slot : Option Mailbox) → P p.table → box_at p.table id ≡ slot → HoldsIf (serve_box_at p id slot)
  unfolding HoldsIf
  box_slot p id None holds at = tt
  box_slot p id (Some k) holds at = box_case p id k (box_waiters p.base k id) k.messages holds at refl

  box_keeps : (p q : MailParts) (id : ℕ) → P p.table → serve_box p id ≡ Some q → P q.table
  unfolding serve_box
  box_keeps p q id holds served = of_some (serve_box_at p id (box_at p.table id)) q (box_slot p id (box_at p.table id) holds refl) served

  pub boxes_keep : (p q : MailParts) → P p.table → serve_mailboxes p ≡ Some q → P q.table
  unfolding serve_mailboxes
  boxes_keep p q holds served = of_first (λ (parts : MailParts). P parts.table) (serve_box p) _ q (λ id. box_keeps p q id holds) served

  -- ---- sends at once

  fits_case : (p : MailParts) (id : ℕ) (k : MessageBuffer) (bytes : List ℕ) (test : Bool) → P p.table → buffer_at p.table id ≡ Some k → has_space k bytes ≡ test → HoldsIf (cond test (Some (message_stored p id k bytes)) None)
  unfolding HoldsIf
  fits_case p id k bytes true holds at fits = keeps.stored p.table id k bytes at fits holds
  fits_case p id k bytes false holds at fits = tt

  at_once : (p : MailParts) (id : ℕ) (k : MessageBuffer) (is_first : Bool) (receiver : Option ℕ) (messages : List (List ℕ)) (bytes : List ℕ) → P p.table → buffer_at p.table id ≡ Some k → HoldsIf (sent_at_once p id k is_first receiver messages bytes)
  unfolding HoldsIf
  at_once p id k false receiver messages bytes holds at = tt
  at_once p id k true (Some receiver) (oldest ∷ later) bytes holds at = tt
  at_once p id k true (Some receiver) [] bytes holds at = holds
  at_once p id k true None messages bytes holds at = fits_case p id k bytes (has_space k bytes) holds at refl

  length_case : (o : Option MailParts) (test : Bool) → HoldsIf o → HoldsIf (cond test o None)
  unfolding HoldsIf
  length_case o true holds = holds
  length_case o false holds = tt

  posted_slot : (p : MailParts) (id : ℕ) (bytes : List ℕ) (slot : Option MessageBuffer) → P p.table → buffer_at p.table id ≡ slot → HoldsIf (posted p id bytes slot)
  unfolding HoldsIf
  posted_slot p id bytes None holds at = tt
  posted_slot p id bytes (Some k) holds at =
      length_case (sent_at_once p id k (none_waits (senders p.base k id)) (first_of (receivers p.base id)) k.messages bytes) (takes_length (length bytes) k) (at_once p id k (none_waits (senders p.base k id)) (first_of (receivers p.base id)) k.messages bytes holds at)

  pub post_keeps : (p q : MailParts) (id : ℕ) (bytes : List ℕ) → P p.table → post p id bytes ≡ Some q → P q.table
  unfolding post
  post_keeps p q id bytes holds served = of_some (posted p id bytes (buffer_at p.table id)) q (posted_slot p id bytes (buffer_at p.table id) holds refl) served

  -- ---- calls

  refused_or : (p : MailParts) (error : Option Er) (effect : MailDone) → P p.table → P effect.table → P (refused_with error p effect).table
  refused_or p (Some error) effect holds now = holds
  refused_or p None effect holds now = now

  checked : (p : MailParts) (checks : List Check) (effect : MailDone) → P p.table → P effect.table → P (mail_checked checks p effect).table
  checked p checks effect holds now = refused_or p (first_error checks) effect holds now

  waits_if : (p : MailParts) (t object : ℕ) (order : Order) (asked : Mails) (over : Bool) (timeout : ℤ) → P p.table → P asked →
      P (cond over (mail_done p (failed er.TmOut)) (mail_done (record p { base = make_wait p.base t object order timeout; table = asked }) Blocked)).table
  waits_if p t object order asked true timeout holds now = holds
  waits_if p t object order asked false timeout holds now = now

  from_box : (p : MailParts) (t id : ℕ) (timeout : ℤ) (k : Mailbox) (messages : List Message) → P p.table → box_at p.table id ≡ Some k → k.messages ≡ messages → P (Calls.taken_from_box p t id timeout k messages).table
  from_box p t id timeout k [] holds at is = waits_if p t _ k.order p.table (int_eq timeout (pos 0)) timeout holds holds
  from_box p t id timeout k (first ∷ rest) holds at is = keeps.rest p.table id k first rest at is holds

  box_received : (p : MailParts) (t id : ℕ) (timeout : ℤ) (slot : Option Mailbox) → P p.table → box_at p.table id ≡ slot → P (Calls.received_from_box p t id timeout slot).table
  box_received p t id timeout None holds at = holds
  box_received p t id timeout (Some k) holds at = from_box p t id timeout k k.messages holds at refl

  box_sent : (p : MailParts) (id : ℕ) (message : Message) (slot : Option Mailbox) → P p.table → box_at p.table id ≡ slot → P (Calls.put_in_box p id message slot).table
  box_sent p id message None holds at = holds
  box_sent p id message (Some k) holds at = keeps.put p.table id k message at holds

  sent_or : (p : MailParts) (t id : ℕ) (k : MessageBuffer) (timeout : ℤ) (bytes : List ℕ) (left : Option MailParts) → P p.table → HoldsIf left → P (Calls.sent_or_waits p t id k timeout bytes left).table
  unfolding HoldsIf
  sent_or p t id k timeout bytes None holds now = waits_if p t (senders_object id) k.order (Calls.asked_to_send p.table t bytes) (int_eq timeout (pos 0)) timeout holds (keeps.to_send p.table t bytes holds)
  sent_or p t id k timeout bytes (Some left) holds now = now

  sent : (p : MailParts) (t id : ℕ) (bytes : List ℕ) (timeout : ℤ) (slot : Option MessageBuffer) → P p.table → buffer_at p.table id ≡ slot → P (Calls.sent_to_buffer p t id bytes timeout slot).table
  sent p t id bytes timeout None holds at = holds
  sent p t id bytes timeout (Some k) holds at =
      sent_or p t id k timeout bytes (sent_at_once p id k (would_be_first k.order p.base t (senders p.base k id)) (first_of (receivers p.base id)) k.messages bytes) holds
      (at_once p id k (would_be_first k.order p.base t (senders p.base k id)) (first_of (receivers p.base id)) k.messages bytes holds at)

  taken : (p : MailParts) (t id : ℕ) (k : MessageBuffer) (address : ℕ) (timeout : ℤ) (receiver sender : Option ℕ) (messages : List (List ℕ)) → P p.table → buffer_at p.table id ≡ Some k → k.messages ≡ messages →
      P (Calls.taken_by_caller p t id k address timeout receiver sender messages).table
  taken p t id k address timeout (Some receiver) sender messages holds at is = waits_if p t (receivers_object id) Fifo (Calls.asked_into p.table t address) (int_eq timeout (pos 0)) timeout holds (keeps.to_receive p.table t address holds)
  taken p t id k address timeout None sender (oldest ∷ later) holds at is = keeps.taken p.table id k oldest later at is holds
  taken p t id k address timeout None (Some sender) [] holds at is = holds
  taken p t id k address timeout None None [] holds at is = waits_if p t (receivers_object id) Fifo (Calls.asked_into p.table t address) (int_eq timeout (pos 0)) timeout holds (keeps.to_receive p.table t address holds)

  buffer_received : (p : MailParts) (t id address : ℕ) (timeout : ℤ) (slot : Option MessageBuffer) → P p.table → buffer_at p.table id ≡ slot → P (Calls.received_from_buffer p t id address timeout slot).table
  buffer_received p t id address timeout None holds at = holds
  buffer_received p t id address timeout (Some k) holds at = taken p t id k address timeout (first_of (receivers p.base id)) (first_of (senders p.base k id)) k.messages holds at refl

  pub call_keeps : (p : MailParts) (who : Who) (c : MailCall) → P p.table → P (mail_call p who c).table
  unfolding mail_call create_box delete_box send_box receive_box refer_box create_buffer delete_buffer send_buffer receive_buffer refer_buffer
  call_keeps p who (call.CreMbx attributes) holds = checked p (Calls.create_box_checks p.table attributes) _ holds (keeps.new_box p.table (Calls.free_box p.table) attributes holds)
  call_keeps p who (call.DelMbx id) holds = checked p (object_checks id (has_mbx p.table (natural id)) []) _ holds (keeps.no_box p.table (natural id) holds)
  call_keeps p who (call.SndMbx id priority value) holds = checked p (Calls.send_box_checks p id priority value) _ holds (box_sent p (natural id) (record { priority = priority; value = value }) (box_at p.table (natural id)) holds refl)
  call_keeps p who (call.RcvMbx id timeout) holds = checked p (Calls.receive_box_checks p who id timeout) _ holds (box_received p (caller who) (natural id) timeout (box_at p.table (natural id)) holds refl)
  call_keeps p who (call.RefMbx id) holds = checked p (object_checks id (has_mbx p.table (natural id)) []) _ holds holds
  call_keeps p who (call.CreMbf attributes size most) holds = checked p (Calls.create_buffer_checks p attributes size most) _ holds
      (keeps.new_buffer p.table (Calls.free_buffer p.table) attributes size most holds)
  call_keeps p who (call.SndMbf id address n timeout) holds = checked p (Calls.send_buffer_checks p who id address n timeout) _ holds
      (sent p (caller who) (natural id) (bytes_at p.memory (natural address) (natural n)) timeout (buffer_at p.table (natural id)) holds refl)
  call_keeps p who (call.RcvMbf id address timeout) holds = checked p (Calls.receive_buffer_checks p who id address timeout) _ holds
      (buffer_received p (caller who) (natural id) (natural address) timeout (buffer_at p.table (natural id)) holds refl)
  call_keeps p who (call.RefMbf id) holds = checked p (object_checks id (has_mbf p.table (natural id)) []) _ holds holds
  call_keeps p who (call.DelMbf id) holds = checked p (object_checks id (has_mbf p.table (natural id)) []) _ holds (keeps.no_buffer p.table (natural id) holds)
