-- Every call on mailboxes and message buffers leaves what the tasks that wait have asked for, and a task that begins to wait for a
-- message buffer has asked for what fits there.
use Rattle.std.proofs.Common.{◌≡◌, ℕ, ◌+◌, ◌≤◌, ◌<◌, length, Bool, true, false, ◌&&◌, cond, List, [], ◌∷◌, Option, Some, None, refl, ◌∙◌, ap, sym, subst, ℤ, pos, arith}
use Rattle.std.specs.Prelude.{drop, int_le}
use Rattle.std.specs.Option.{option_map, option_map_or}
use Rattle.std.specs.Ordering.{int_eq}
use Rattle.std.proofs.lemmas.List.{get_or-set_other, get_or-set_same}
use Rattle.tk_types.specs.declared.answer.Who.{Who}
use Rattle.tk_types.specs.declared.calls.MailCall.{MailCall}
use Rattle.tk_types.specs.declared.calls.MailCall.TheVariants as call
use Rattle.tk_types.specs.declared.error_code.Er.{Er}
use Rattle.tk_types.specs.declared.task.Order.TheVariants.{Fifo}
use Rattle.kernel_model.specs.Words.Checks.{Check, first_error, natural, plain}
use Rattle.kernel_model.specs.Words.Orders.{free_from}
use Rattle.kernel_model.specs.Tasks.Base.{Base, give_bytes, make_wait, release, take_bytes, waits_for}
use Rattle.kernel_model.specs.Tasks.Calls.{caller}
use Rattle.kernel_model.specs.SemFlags.Calls.{end_waits, object_checks, would_be_first}
use Rattle.kernel_lemmas.proofs.Tables.{entry_other}
use Rattle.object_model.specs.declared.mails.Message.{Message}
use Rattle.object_model.specs.Mails.Tables.{Mailbox, MailParts, Mails, MessageBuffer, box_at, box_object, buffer_at, bytes_of, has_mbf, has_mbx, place_of, receivers_object, senders_object, with_box, with_buffer}
use Rattle.object_model.specs.Mails.Bytes.{bytes_at}
use Rattle.object_model.specs.Mails.Boxes.{message_bytes}
use Rattle.object_model.specs.Mails.Buffers.{delivered, first_of, has_space, message_stored, receivers, senders, sent_at_once, takes_length}
use Rattle.object_model.specs.Mails.Calls as calls
use Rattle.object_model.specs.Mails.Calls.{MailDone, asked_into, asked_to_send, has_place, is_inside, mail_call, mail_checked, refused_with, waits_or_ends}
use Rattle.machine_model.specs.States.Objects.{Objects}
use Rattle.machine_model.specs.States.Waits.{order_for}
use Rattle.call_lemmas.proofs.Checked.{holds_at}
use Rattle.machine_lemmas.proofs.Handing.{set_length}
use Rattle.order_lemmas.proofs.Ranges.{free_slot, known_id, receivers_named, senders_named}
use Rattle.order_lemmas.proofs.Rights.{AreRight, IsIdle, none_idle}
use Rattle.ask_lemmas.proofs.Asked.{Asked, IsAlike, alike_asked, alike_same, asked_quietly, box_alike, buffer_alike, gone_alike, quiet_low}
use Rattle.ask_lemmas.proofs.Asks.{AllAsk, asks_then, ended_asks, release_asks, same_or_apart, taken_asks, wait_asks, wait_with}
use Rattle.ask_lemmas.proofs.LongMemory.{IsLong, read_whole, with_bytes_long}

-- what the tasks that wait have asked for, places for what each task asks for, and all bytes of the script's memory
pub record MailHolds (sizes : List ℕ) (m : Mails) (b : Base) (memory : List ℕ) : Type 0 where
  pub asks : AllAsk (Asked m sizes) b
  pub sending : length m.sending ≡ 256
  pub into : length m.into ≡ 256
  pub long : IsLong memory

abbrev pub PartsHold : List ℕ → MailParts → Type 0
PartsHold sizes p = MailHolds sizes p.table p.base p.memory

abbrev DoneHolds : List ℕ → MailDone → Type 0
DoneHolds sizes done = MailHolds sizes done.table done.base done.memory

-- what a table alike holds, beside another base and another memory
pub then_holds : (sizes : List ℕ) (p : MailParts) (m : Mails) (b : Base) (memory : List ℕ) → IsAlike p.table m → PartsHold sizes p → AllAsk (Asked p.table sizes) b → IsLong memory →
    MailHolds sizes m b memory
then_holds sizes p m b memory alike has asks long = record {
  asks = asks_then (Asked p.table sizes) (Asked m sizes) b (λ t object waits. alike_asked p.table m sizes t object alike) asks;
  sending = ap (λ (it : List (List ℕ)). length it) alike.sending ∙ has.sending;
  into = ap (λ (it : List ℕ). length it) alike.into ∙ has.into;
  long = long;
}

refused_holds : (sizes : List ℕ) (error : Option Er) (p : MailParts) (effect : MailDone) → PartsHold sizes p → (error ≡ None → DoneHolds sizes effect) →
    DoneHolds sizes (refused_with error p effect)
refused_holds sizes (Some error) p effect has works = has
refused_holds sizes None p effect has works = works refl

checked_holds : (sizes : List ℕ) (checks : List Check) (p : MailParts) (effect : MailDone) → PartsHold sizes p → (first_error checks ≡ None → DoneHolds sizes effect) →
    DoneHolds sizes (mail_checked checks p effect)
checked_holds sizes checks p effect has works = refused_holds sizes (first_error checks) p effect has works

either_holds : (sizes : List ℕ) (test : Bool) (one other : MailDone) → DoneHolds sizes one → DoneHolds sizes other → DoneHolds sizes (cond {A = MailDone} test one other)
either_holds sizes true one other first second = first
either_holds sizes false one other first second = second

-- ---- mailboxes

box_emptied : (sizes : List ℕ) (m : Mails) (b : Base) (id : ℕ) (slot : Option Mailbox) → AllAsk (Asked m sizes) b → AllAsk (Asked m sizes) (calls.box_emptied b id slot)
box_emptied sizes m b id None all = all
box_emptied sizes m b id (Some k) all = ended_asks (Asked m sizes) k.order (box_object id) b all

put_holds : (sizes : List ℕ) (p : MailParts) (id : ℕ) (message : Message) (slot : Option Mailbox) → PartsHold sizes p → PartsHold sizes (calls.put_in_box p id message slot)
put_holds sizes p id message None has = has
put_holds sizes p id message (Some k) has =
    then_holds sizes p _ (take_bytes p.base message_bytes) p.memory (box_alike p.table id _) has (taken_asks (Asked p.table sizes) p.base message_bytes has.asks) has.long

first_holds : (sizes : List ℕ) (p : MailParts) (t id : ℕ) (timeout : ℤ) (k : Mailbox) (messages : List Message) → id ≤ 64 → PartsHold sizes p →
    DoneHolds sizes (calls.taken_from_box p t id timeout k messages)
first_holds sizes p t id timeout k [] most has =
    let quiet = asked_quietly p.table sizes t (box_object id) (quiet_low (box_object id) (omega (arith, most))) in
    either_holds sizes (int_eq timeout (pos 0)) _ _ has
    (then_holds sizes p p.table (make_wait p.base t (box_object id) k.order timeout) p.memory (alike_same p.table) has
    (wait_asks (Asked p.table sizes) p.base t (box_object id) k.order timeout quiet has.asks) has.long)
first_holds sizes p t id timeout k (first ∷ rest) most has = then_holds sizes p _ (give_bytes p.base message_bytes) p.memory (box_alike p.table id _) has has.asks has.long

box_holds : (sizes : List ℕ) (p : MailParts) (t id : ℕ) (timeout : ℤ) (slot : Option Mailbox) → id ≤ 64 → PartsHold sizes p →
    DoneHolds sizes (calls.received_from_box p t id timeout slot)
box_holds sizes p t id timeout None most has = has
box_holds sizes p t id timeout (Some k) most has = first_holds sizes p t id timeout k k.messages most has

-- ---- making and deleting message buffers

-- nobody waits for a message buffer that isn't there
pub record AreIdle (m : Mails) (b : Base) : Type 0 where
  pub sends : (id : ℕ) → 1 ≤ id → id ≤ 64 → buffer_at m id ≡ None → IsIdle b (senders_object id)
  pub receives : (id : ℕ) → 1 ≤ id → id ≤ 64 → buffer_at m id ≡ None → IsIdle b (receivers_object id)

-- so it is where all queues are in order
pub idle_buffers : (o : Objects) (b : Base) → AreRight (order_for o) b → AreIdle o.mails b
idle_buffers o b all = record {
  sends = λ id least most none. none_idle (order_for o) b (senders_object id) all
      (senders_named o id least most ∙ ap (option_map {T = MessageBuffer} (λ k. k.order)) none);
  receives = λ id least most none. none_idle (order_for o) b (receivers_object id) all
      (receivers_named o id least most ∙ ap (option_map {T = MessageBuffer} (λ k. Fifo)) none);
}

-- a message buffer is made where there is none
made_asked : (sizes : List ℕ) (m : Mails) (b : Base) (made : ℕ) (slot : Option MessageBuffer) → (1 ≤ made → buffer_at m made ≡ None) → AreIdle m b →
    (t object : ℕ) → waits_for b object t ≡ true → Asked m sizes t object → Asked (with_buffer m made slot) sizes t object
made_asked sizes m b made slot free idle t object waits asked = record {
  sends = λ id k least most is at. same_or_apart (takes_length (length (bytes_of m t)) k ≡ true) id made
      (λ same. let none = idle.sends id least most (at_free id least same) t in
      let on : waits_for b (senders_object id) t ≡ true = subst (λ (n : ℕ). waits_for b n t ≡ true) is waits in absurd (cc (none, on)))
      (λ apart. asked.sends id k least most is (sym (entry_other m.buffers made id slot apart) ∙ at));
  receives = λ id k least most is at. same_or_apart (has_place (place_of m t) k ≡ true) id made
      (λ same. let none = idle.receives id least most (at_free id least same) t in
      let on : waits_for b (receivers_object id) t ≡ true = subst (λ (n : ℕ). waits_for b n t ≡ true) is waits in absurd (cc (none, on)))
      (λ apart. asked.receives id k least most is (sym (entry_other m.buffers made id slot apart) ∙ at));
  bytes = asked.bytes;
}
  where
    at_free : (id : ℕ) → 1 ≤ id → id ≡ made → buffer_at m id ≡ None
    at_free id least same = subst (λ (n : ℕ). buffer_at m n ≡ None) (sym same) (free (subst (λ (n : ℕ). 1 ≤ n) same least))

made_holds : (sizes : List ℕ) (p : MailParts) (n : ℕ) (slot : Option MessageBuffer) → AreIdle p.table p.base → PartsHold sizes p →
    MailHolds sizes (with_buffer p.table (free_from 1 (drop 1 p.table.buffers)) slot) (take_bytes p.base n) p.memory
made_holds sizes p n slot idle has =
    let made : ℕ = free_from 1 (drop 1 p.table.buffers) in
    let now : Mails = with_buffer p.table made slot in
    record {
      asks = taken_asks (Asked now sizes) p.base n (asks_then (Asked p.table sizes) (Asked now sizes) p.base
          (made_asked sizes p.table p.base made slot (λ least. free_slot p.table.buffers made least refl) idle) has.asks);
      sending = has.sending;
      into = has.into;
      long = has.long;
    }

buffer_emptied : (sizes : List ℕ) (m : Mails) (b : Base) (id : ℕ) (slot : Option MessageBuffer) → AllAsk (Asked m sizes) b → AllAsk (Asked m sizes) (calls.buffer_emptied b id slot)
buffer_emptied sizes m b id None all = all
buffer_emptied sizes m b id (Some k) all =
    ended_asks (Asked m sizes) Fifo (receivers_object id) (end_waits k.order (senders_object id) b) (ended_asks (Asked m sizes) k.order (senders_object id) b all)

-- ---- waits for a message buffer

one_buffer : (m : Mails) (id other : ℕ) (k now : MessageBuffer) → id ≡ other → buffer_at m id ≡ Some k → buffer_at m other ≡ Some now → k ≡ now
one_buffer m id other k now same at there = let here : buffer_at m other ≡ Some k = subst (λ (n : ℕ). buffer_at m n ≡ Some k) same at in cc (here, there)

-- a task that waits as a sender sends what the buffer takes
asks_to_send : (sizes : List ℕ) (m : Mails) (t id : ℕ) (k : MessageBuffer) (bytes : List ℕ) → id ≤ 64 → buffer_at m id ≡ Some k → takes_length (length bytes) k ≡ true →
    t < length m.sending → Asked (asked_to_send m t bytes) sizes t (senders_object id)
asks_to_send sizes m t id k bytes most at takes inside = record {
  sends = λ other now low high is there.
      let e : 319 + id ≡ 319 + other = is in
      let same : k ≡ now = one_buffer m id other k now (omega (arith, e)) at there in
      subst (λ (it : List ℕ). takes_length (length it) now ≡ true) (sym (get_or-set_same m.sending t bytes [] inside))
      (subst (λ (it : MessageBuffer). takes_length (length bytes) it ≡ true) same takes);
  receives = λ other now low high is there. absurd (let e : 319 + id ≡ 383 + other = is in omega (arith, most, low, e));
  bytes = λ other low high is. absurd (let e : 319 + id ≡ 511 + other = is in omega (arith, most, low, e));
}

-- and others send what they sent
others_send : (sizes : List ℕ) (m : Mails) (t : ℕ) (bytes : List ℕ) (u object : ℕ) → (u ≡ t → ⊥) → Asked m sizes u object → Asked (asked_to_send m t bytes) sizes u object
others_send sizes m t bytes u object apart asked = record {
  sends = λ id k least most is at. subst (λ (it : List ℕ). takes_length (length it) k ≡ true) (sym (get_or-set_other m.sending t u bytes [] apart))
      (asked.sends id k least most is at);
  receives = asked.receives;
  bytes = asked.bytes;
}

-- a task that waits as a receiver has a place for the longest message
asks_into : (sizes : List ℕ) (m : Mails) (t id : ℕ) (k : MessageBuffer) (address : ℕ) → 1 ≤ id → id ≤ 64 → buffer_at m id ≡ Some k → has_place address k ≡ true →
    t < length m.into → Asked (asked_into m t address) sizes t (receivers_object id)
asks_into sizes m t id k address least most at place inside = record {
  sends = λ other now low high is there. absurd (let e : 383 + id ≡ 319 + other = is in omega (arith, least, high, e));
  receives = λ other now low high is there.
      let e : 383 + id ≡ 383 + other = is in
      let same : k ≡ now = one_buffer m id other k now (omega (arith, e)) at there in
      subst (λ (it : ℕ). has_place it now ≡ true) (sym (get_or-set_same m.into t address 0 inside))
      (subst (λ (it : MessageBuffer). has_place address it ≡ true) same place);
  bytes = λ other low high is. absurd (let e : 383 + id ≡ 511 + other = is in omega (arith, most, low, e));
}

-- and others receive where they asked to
others_into : (sizes : List ℕ) (m : Mails) (t address u object : ℕ) → (u ≡ t → ⊥) → Asked m sizes u object → Asked (asked_into m t address) sizes u object
others_into sizes m t address u object apart asked = record {
  sends = asked.sends;
  receives = λ id k least most is at. subst (λ (it : ℕ). has_place it k ≡ true) (sym (get_or-set_other m.into t u address 0 apart)) (asked.receives id k least most is at);
  bytes = asked.bytes;
}

send_waits : (sizes : List ℕ) (p : MailParts) (t id : ℕ) (k : MessageBuffer) (timeout : ℤ) (bytes : List ℕ) → id ≤ 64 → buffer_at p.table id ≡ Some k →
    takes_length (length bytes) k ≡ true → length p.base.tasks ≡ 256 → PartsHold sizes p →
    DoneHolds sizes (waits_or_ends p t (senders_object id) k.order timeout (asked_to_send p.table t bytes))
send_waits sizes p t id k timeout bytes most at takes slots has =
    let many = has.sending in
    either_holds sizes (int_eq timeout (pos 0)) _ _ has (record {
      asks = wait_with (Asked p.table sizes) (Asked (asked_to_send p.table t bytes) sizes) p.base t (senders_object id) k.order timeout
          (λ inside. let there : t < length p.base.tasks = inside in asks_to_send sizes p.table t id k bytes most at takes (omega (arith, slots, many, there)))
          (λ u object apart asked. others_send sizes p.table t bytes u object apart asked) has.asks;
      sending = set_length p.table.sending t bytes ∙ has.sending;
      into = has.into;
      long = has.long;
    })

receive_waits : (sizes : List ℕ) (p : MailParts) (t id : ℕ) (k : MessageBuffer) (timeout : ℤ) (address : ℕ) → 1 ≤ id → id ≤ 64 → buffer_at p.table id ≡ Some k →
    has_place address k ≡ true → length p.base.tasks ≡ 256 → PartsHold sizes p →
    DoneHolds sizes (waits_or_ends p t (receivers_object id) Fifo timeout (asked_into p.table t address))
receive_waits sizes p t id k timeout address least most at place slots has =
    let many = has.into in
    either_holds sizes (int_eq timeout (pos 0)) _ _ has (record {
      asks = wait_with (Asked p.table sizes) (Asked (asked_into p.table t address) sizes) p.base t (receivers_object id) Fifo timeout
          (λ inside. let there : t < length p.base.tasks = inside in asks_into sizes p.table t id k address least most at place (omega (arith, slots, many, there)))
          (λ u object apart asked. others_into sizes p.table t address u object apart asked) has.asks;
      sending = has.sending;
      into = set_length p.table.into t address ∙ has.into;
      long = has.long;
    })

-- ---- sending and receiving

-- what a send left, where there was one
abbrev SentHolds : List ℕ → Option MailParts → Type 0
SentHolds sizes None = Unit {0}
SentHolds sizes (Some q) = PartsHold sizes q

stored_holds : (sizes : List ℕ) (test : Bool) (q : MailParts) → PartsHold sizes q → SentHolds sizes (cond {A = Option MailParts} test (Some q) None)
stored_holds sizes true q has = has
stored_holds sizes false q has = tt

-- the wait of a receiver ends, and its message goes into memory
delivered_holds : (sizes : List ℕ) (p : MailParts) (receiver : ℕ) (bytes : List ℕ) → PartsHold sizes p → PartsHold sizes (delivered p receiver bytes)
delivered_holds sizes p receiver bytes has = record {
  asks = release_asks (Asked p.table sizes) p.base receiver (plain (pos (length bytes))) has.asks;
  sending = has.sending;
  into = has.into;
  long = with_bytes_long p.memory bytes (place_of p.table receiver) has.long;
}

-- a message buffer takes messages, or gives them
messages_hold : (sizes : List ℕ) (p : MailParts) (id : ℕ) (k : MessageBuffer) (messages : List (List ℕ)) → buffer_at p.table id ≡ Some k → PartsHold sizes p →
    MailHolds sizes (with_buffer p.table id (Some (record k { messages = messages }))) p.base p.memory
messages_hold sizes p id k messages at has = then_holds sizes p _ p.base p.memory (buffer_alike p.table id k (record k { messages = messages }) at refl) has has.asks has.long

-- a message that needn't wait
at_once_holds : (sizes : List ℕ) (p : MailParts) (id : ℕ) (k : MessageBuffer) (first : Bool) (receiver : Option ℕ) (messages : List (List ℕ)) (bytes : List ℕ) →
    buffer_at p.table id ≡ Some k → PartsHold sizes p → SentHolds sizes (sent_at_once p id k first receiver messages bytes)
at_once_holds sizes p id k false receiver messages bytes at has = tt
at_once_holds sizes p id k true (Some receiver) (oldest ∷ later) bytes at has = tt
at_once_holds sizes p id k true (Some receiver) [] bytes at has = delivered_holds sizes p receiver bytes has
at_once_holds sizes p id k true None messages bytes at has = stored_holds sizes (has_space k bytes) (message_stored p id k bytes) (messages_hold sizes p id k _ at has)

sent_or_waits_holds : (sizes : List ℕ) (p : MailParts) (t id : ℕ) (k : MessageBuffer) (timeout : ℤ) (bytes : List ℕ) (left : Option MailParts) → id ≤ 64 →
    buffer_at p.table id ≡ Some k → takes_length (length bytes) k ≡ true → length p.base.tasks ≡ 256 → PartsHold sizes p → SentHolds sizes left →
    DoneHolds sizes (calls.sent_or_waits p t id k timeout bytes left)
sent_or_waits_holds sizes p t id k timeout bytes (Some left) most at takes slots has sent = sent
sent_or_waits_holds sizes p t id k timeout bytes None most at takes slots has sent = send_waits sizes p t id k timeout bytes most at takes slots has

send_holds : (sizes : List ℕ) (p : MailParts) (t id : ℕ) (bytes : List ℕ) (timeout : ℤ) (slot : Option MessageBuffer) → id ≤ 64 → buffer_at p.table id ≡ slot →
    option_map_or (takes_length (length bytes)) slot false ≡ true → length p.base.tasks ≡ 256 → PartsHold sizes p →
    DoneHolds sizes (calls.sent_to_buffer p t id bytes timeout slot)
send_holds sizes p t id bytes timeout None most at takes slots has = has
send_holds sizes p t id bytes timeout (Some k) most at takes slots has =
    sent_or_waits_holds sizes p t id k timeout bytes _ most at takes slots has
    (at_once_holds sizes p id k (would_be_first k.order p.base t (senders p.base k id)) (first_of (receivers p.base id)) k.messages bytes at has)

received_holds : (sizes : List ℕ) (p : MailParts) (address : ℕ) (bytes : List ℕ) → PartsHold sizes p → DoneHolds sizes (calls.received p address bytes)
received_holds sizes p address bytes has = record { asks = has.asks; sending = has.sending; into = has.into; long = with_bytes_long p.memory bytes address has.long }

by_caller_holds : (sizes : List ℕ) (p : MailParts) (t id : ℕ) (k : MessageBuffer) (address : ℕ) (timeout : ℤ) (receiver sender : Option ℕ) (messages : List (List ℕ)) →
    1 ≤ id → id ≤ 64 → buffer_at p.table id ≡ Some k → has_place address k ≡ true → length p.base.tasks ≡ 256 → PartsHold sizes p →
    DoneHolds sizes (calls.taken_by_caller p t id k address timeout receiver sender messages)
by_caller_holds sizes p t id k address timeout (Some receiver) sender messages least most at place slots has =
    receive_waits sizes p t id k timeout address least most at place slots has
by_caller_holds sizes p t id k address timeout None sender (oldest ∷ later) least most at place slots has =
    received_holds sizes (record p { table = with_buffer p.table id (Some (record k { messages = later })) }) address oldest (messages_hold sizes p id k later at has)
by_caller_holds sizes p t id k address timeout None (Some sender) [] least most at place slots has =
    received_holds sizes (record p { base = release p.base sender (plain (pos 0)) }) address (bytes_of p.table sender) (record {
      asks = release_asks (Asked p.table sizes) p.base sender (plain (pos 0)) has.asks;
      sending = has.sending;
      into = has.into;
      long = has.long;
    })
by_caller_holds sizes p t id k address timeout None None [] least most at place slots has =
    receive_waits sizes p t id k timeout address least most at place slots has

receive_holds : (sizes : List ℕ) (p : MailParts) (t id address : ℕ) (timeout : ℤ) (slot : Option MessageBuffer) → 1 ≤ id → id ≤ 64 → buffer_at p.table id ≡ slot →
    option_map_or (has_place address) slot false ≡ true → length p.base.tasks ≡ 256 → PartsHold sizes p →
    DoneHolds sizes (calls.received_from_buffer p t id address timeout slot)
receive_holds sizes p t id address timeout None least most at place slots has = has
receive_holds sizes p t id address timeout (Some k) least most at place slots has =
    by_caller_holds sizes p t id k address timeout (first_of (receivers p.base id)) (first_of (senders p.base k id)) k.messages least most at place slots has

second_true : (a b : Bool) → (a && b) ≡ true → b ≡ true
second_true true b both = both
second_true false b both = absurd (cc both)

-- as many bytes are sent as were asked for
sent_whole : (memory : List ℕ) (address n : ℤ) → is_inside address n ≡ true → IsLong memory → natural n ≡ length (bytes_at memory (natural address) (natural n))
sent_whole memory address n inside long =
    sym (read_whole memory (natural address) (natural n)
    (second_true (int_le (pos 0) n) _ (second_true (int_le (pos 0) address) _ inside)) long)

-- ---- all

-- every call on mailboxes and message buffers
pub mail_calls_hold : (sizes : List ℕ) (p : MailParts) (who : Who) (c : MailCall) → AreIdle p.table p.base → length p.base.tasks ≡ 256 → PartsHold sizes p →
    MailHolds sizes (mail_call p who c).table (mail_call p who c).base (mail_call p who c).memory
unfolding mail_call calls.create_box calls.delete_box calls.send_box calls.receive_box calls.refer_box calls.create_buffer calls.delete_buffer calls.send_buffer calls.receive_buffer calls.refer_buffer
mail_calls_hold sizes p who (call.CreMbx attributes) idle slots has =
    checked_holds sizes (calls.create_box_checks p.table attributes) p _ has
    (λ none. then_holds sizes p _ p.base p.memory (box_alike p.table (calls.free_box p.table) _) has has.asks has.long)
mail_calls_hold sizes p who (call.DelMbx id) idle slots has =
    checked_holds sizes (object_checks id (has_mbx p.table (natural id)) []) p _ has
    (λ none. then_holds sizes p (with_box p.table (natural id) None) (calls.box_emptied p.base (natural id) (box_at p.table (natural id))) p.memory
    (box_alike p.table (natural id) None) has (box_emptied sizes p.table p.base (natural id) (box_at p.table (natural id)) has.asks) has.long)
mail_calls_hold sizes p who (call.SndMbx id priority value) idle slots has =
    checked_holds sizes (calls.send_box_checks p id priority value) p _ has
    (λ none. put_holds sizes p (natural id) (record { priority = priority; value = value }) (box_at p.table (natural id)) has)
mail_calls_hold sizes p who (call.RcvMbx id timeout) idle slots has =
    checked_holds sizes (calls.receive_box_checks p who id timeout) p _ has
    (λ none. let known = known_id 64 id (holds_at 0 (calls.receive_box_checks p who id timeout) none) in
    box_holds sizes p (caller who) (natural id) timeout (box_at p.table (natural id)) known.1 has)
mail_calls_hold sizes p who (call.RefMbx id) idle slots has = checked_holds sizes (object_checks id (has_mbx p.table (natural id)) []) p _ has (λ none. has)
mail_calls_hold sizes p who (call.CreMbf attributes size most) idle slots has =
    checked_holds sizes (calls.create_buffer_checks p attributes size most) p _ has
    (λ none. made_holds sizes p (natural size) (Some (calls.new_buffer attributes size most)) idle has)
mail_calls_hold sizes p who (call.SndMbf id address n timeout) idle slots has =
    checked_holds sizes (calls.send_buffer_checks p who id address n timeout) p _ has
    (λ none.
    let checks : List Check = calls.send_buffer_checks p who id address n timeout in
    let known = known_id 64 id (holds_at 0 checks none) in
    let bytes : List ℕ = bytes_at p.memory (natural address) (natural n) in
    let takes : option_map_or (takes_length (natural n)) (buffer_at p.table (natural id)) false ≡ true = holds_at 5 checks none in
    send_holds sizes p (caller who) (natural id) bytes timeout (buffer_at p.table (natural id)) known.1 refl
    (subst (λ (length_of : ℕ). option_map_or (takes_length length_of) (buffer_at p.table (natural id)) false ≡ true)
    (sent_whole p.memory address n (holds_at 1 checks none) has.long) takes) slots has)
mail_calls_hold sizes p who (call.RcvMbf id address timeout) idle slots has =
    checked_holds sizes (calls.receive_buffer_checks p who id address timeout) p _ has
    (λ none.
    let checks : List Check = calls.receive_buffer_checks p who id address timeout in
    let known = known_id 64 id (holds_at 0 checks none) in
    receive_holds sizes p (caller who) (natural id) (natural address) timeout (buffer_at p.table (natural id)) known.0 known.1 refl (holds_at 5 checks none) slots has)
mail_calls_hold sizes p who (call.RefMbf id) idle slots has = checked_holds sizes (object_checks id (has_mbf p.table (natural id)) []) p _ has (λ none. has)
mail_calls_hold sizes p who (call.DelMbf id) idle slots has =
    checked_holds sizes (object_checks id (has_mbf p.table (natural id)) []) p _ has
    (λ none. then_holds sizes p (with_buffer p.table (natural id) None) (calls.buffer_emptied p.base (natural id) (buffer_at p.table (natural id))) p.memory
    (gone_alike p.table (natural id)) has (buffer_emptied sizes p.table p.base (natural id) (buffer_at p.table (natural id)) has.asks) has.long)
