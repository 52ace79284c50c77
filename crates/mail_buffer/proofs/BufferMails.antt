-- Message buffers: what those that wait asked for, and what a serving and a send come to.
use Rattle.std.proofs.Common.{◌≡◌, ◌≤◌, ◌+◌, ℕ, suc, Bool, true, false, cond, List, [], ◌∷◌, Option, Some, None, length, refl, ap, sym, ◌∙◌, drop, arith}
use Rattle.std.specs.Bool.{◌==◌}
use Rattle.std.specs.Prelude.{nat_le, ◌&&◌, slice_get}
use Rattle.std.proofs.lemmas.Bool.Decides.{nat_tests}
use Rattle.tk_types.specs.declared.task.Order.{Order}
use Rattle.tk_types.specs.declared.task.Order.TheVariants.{Fifo, Priority}
use Rattle.kernel_model.specs.LawWords.Once.{times}
use Rattle.kernel_model.specs.Tasks.Base.{Base, fifo_queue, priority_queue, queue, waits_for}
use Rattle.kernel_lemmas.proofs.Once.{times_without}
use Rattle.kernel_lemmas.proofs.Queues.{fifo_absent, priority_absent}
use Rattle.object_model.specs.Mails.Tables.{MessageBuffer, Mails, MailParts, buffer_at, bytes_of, place_of, receivers_object, senders_object}
use Rattle.object_model.specs.Mails.Buffers.{buffer_serves, delivered, first_of, has_space, message_stored, receivers, sender_ended, senders, serve_buffer, serve_buffer_at, takes_length, with_messages}
use Rattle.std.specs.Prelude.{ℤ, negsuc, int_le}
use Rattle.std.specs.Option.{is_some}
use Rattle.tk_types.specs.declared.answer.Who.{Who}
use Rattle.tk_types.specs.declared.error_code.Er.TheVariants as er
use Rattle.kernel_model.specs.declared.marks.Mark.TheVariants.{MayWait}
use Rattle.kernel_model.specs.Words.Checks.{failed, natural, within}
use Rattle.kernel_model.specs.Tasks.Marks.{allows}
use Rattle.kernel_model.specs.Tasks.Calls.{caller}
use Rattle.object_model.specs.Mails.Bytes.{bytes_at}
use Rattle.object_model.specs.Mails.Calls.{has_place, is_inside, mail_done, received, received_from_buffer, send_buffer, sent_to_buffer, taken_by_caller}
use Rattle.mail_buffer.specs.Cuts.{oldest_of}
use Rattle.mail_buffer.specs.Parts.{HaveAsked}

-- ---- who waits

absent : (order : Order) (b : Base) (t object : ℕ) → waits_for b object t ≡ false → times t (queue order b object) ≡ 0
absent Fifo b t object idle = ap (times t) (sym (fifo_absent b t object idle)) ∙ times_without t (fifo_queue b object)
absent Priority b t object idle = ap (times t) (sym (priority_absent b t object idle)) ∙ times_without t (priority_queue b object)

stands_once : (t u : ℕ) (ts : List ℕ) → u ≡ t → times t (u ∷ ts) ≡ 0 → ⊥
stands_once t u ts same none =
    let itself : (u == t) ≡ true = grind (arith, nat_tests, same) in
    let counted : cond (u == t) 1 0 + times t ts ≡ 0 = none in
    let one : 1 + times t ts ≡ 0 = rw itself at counted in
    absurd (omega (arith, one))

not_absent : (ts : List ℕ) (t : ℕ) → slice_get ts 0 ≡ Some t → times t ts ≡ 0 → ⊥
not_absent [] t first none = absurd (cc first)
not_absent (u ∷ ts) t first none = let same : u ≡ t = cc first in stands_once t u ts same none

waits_if : (b : Base) (object t : ℕ) (test : Bool) → waits_for b object t ≡ test → (waits_for b object t ≡ false → ⊥) → waits_for b object t ≡ true
waits_if b object t true is stands = is
waits_if b object t false is stands = absurd (stands is)

-- the first of a queue waits
pub first_waits : (order : Order) (b : Base) (object t : ℕ) → slice_get (queue order b object) 0 ≡ Some t → waits_for b object t ≡ true
first_waits order b object t first = waits_if b object t (waits_for b object t) refl (λ idle. not_absent (queue order b object) t first (absent order b t object idle))

-- the first receiver has a place for the longest message
pub placed : (b : Base) (m : Mails) (id t : ℕ) (k : MessageBuffer) → HaveAsked b m → 1 ≤ id → id ≤ 64 → buffer_at m id ≡ Some k → slice_get (receivers b id) 0 ≡ Some t → has_place (place_of m t) k ≡ true
placed b m id t k asked low high there first = asked.receivers id t k low high there (first_waits Fifo b (receivers_object id) t first)

-- the first sender sends as many bytes as the buffer takes
pub sized : (b : Base) (m : Mails) (id t : ℕ) (k : MessageBuffer) → HaveAsked b m → 1 ≤ id → id ≤ 64 → buffer_at m id ≡ Some k → slice_get (senders b k id) 0 ≡ Some t → takes_length (length (bytes_of m t)) k ≡ true
sized b m id t k asked low high there first = asked.senders id t k low high there (first_waits k.order b (senders_object id) t first)

-- in numbers
pub room_at : (place n : ℕ) (k : MessageBuffer) → has_place place k ≡ true → n ≤ k.most → place + n ≤ 65536
room_at place n k has least = let fits : nat_le (place + k.most) 65536 ≡ true = has in grind (arith, nat_tests, fits)

pub short_of : (n : ℕ) (k : MessageBuffer) → takes_length n k ≡ true → n ≤ k.most
short_of n k takes = let fits : (nat_le 1 n && nat_le n k.most) ≡ true = takes in grind (arith, nat_tests, fits)

-- ---- servings

pub first_is : (ts : List ℕ) → first_of ts ≡ slice_get ts 0
first_is [] = refl
first_is (t ∷ ts) = refl

-- what the first receiver and the first sender make of a serving
pub serves_by : (p : MailParts) (id : ℕ) (k : MessageBuffer) (receiver sender : Option ℕ) → buffer_at p.table id ≡ Some k → slice_get (receivers p.base id) 0 ≡ receiver → slice_get (senders p.base k id) 0 ≡ sender →
    serve_buffer p id ≡ buffer_serves p id k receiver sender k.messages
unfolding serve_buffer
serves_by p id k receiver sender there receiving sending =
    ap (serve_buffer_at p id) there
    ∙ ap (λ r. buffer_serves p id k r (first_of (senders p.base k id)) k.messages) (first_is (receivers p.base id) ∙ receiving)
    ∙ ap (λ s. buffer_serves p id k receiver s k.messages) (first_is (senders p.base k id) ∙ sending)

pub no_messages : (messages : List (List ℕ)) → (length messages == 0) ≡ true → messages ≡ []
no_messages [] empty = refl
no_messages (oldest ∷ later) empty = let none : length (oldest ∷ later) ≡ 0 = grind (arith, nat_tests, empty) in let more : length (oldest ∷ later) ≡ suc (length later) = refl in absurd (omega (arith, none, more))

full : (p : MailParts) (id : ℕ) (k : MessageBuffer) (receiver : ℕ) (sender : Option ℕ) (messages : List (List ℕ)) → (length messages == 0) ≡ false →
    buffer_serves p id k (Some receiver) sender messages ≡ Some (delivered (with_messages p id k (drop 1 messages)) receiver (oldest_of messages))
full p id k receiver sender [] some = absurd (cc some)
full p id k receiver sender (oldest ∷ later) some = refl

pub receiver_served : (p : MailParts) (id : ℕ) (k : MessageBuffer) (receiver : ℕ) → buffer_at p.table id ≡ Some k → slice_get (receivers p.base id) 0 ≡ Some receiver → (length k.messages == 0) ≡ false →
    serve_buffer p id ≡ Some (delivered (with_messages p id k (drop 1 k.messages)) receiver (oldest_of k.messages))
receiver_served p id k receiver there receiving some = serves_by p id k (Some receiver) (slice_get (senders p.base k id) 0) there receiving refl ∙ full p id k receiver (slice_get (senders p.base k id) 0) k.messages some

pub both_served : (p : MailParts) (id : ℕ) (k : MessageBuffer) (receiver sender : ℕ) → buffer_at p.table id ≡ Some k → slice_get (receivers p.base id) 0 ≡ Some receiver → slice_get (senders p.base k id) 0 ≡ Some sender →
    (length k.messages == 0) ≡ true → serve_buffer p id ≡ Some (sender_ended (delivered p receiver (bytes_of p.table sender)) sender)
both_served p id k receiver sender there receiving sending empty =
    serves_by p id k (Some receiver) (Some sender) there receiving sending ∙ ap (buffer_serves p id k (Some receiver) (Some sender)) (no_messages k.messages empty)

pub nothing_served : (p : MailParts) (id : ℕ) (k : MessageBuffer) (receiver : ℕ) → buffer_at p.table id ≡ Some k → slice_get (receivers p.base id) 0 ≡ Some receiver → slice_get (senders p.base k id) 0 ≡ None →
    (length k.messages == 0) ≡ true → serve_buffer p id ≡ None
nothing_served p id k receiver there receiving sending empty =
    serves_by p id k (Some receiver) None there receiving sending ∙ ap (buffer_serves p id k (Some receiver) None) (no_messages k.messages empty)

pub nobody_served : (p : MailParts) (id : ℕ) (k : MessageBuffer) → buffer_at p.table id ≡ Some k → slice_get (receivers p.base id) 0 ≡ None → slice_get (senders p.base k id) 0 ≡ None → serve_buffer p id ≡ None
nobody_served p id k there receiving sending = serves_by p id k None None there receiving sending

pub sender_served : (p : MailParts) (id : ℕ) (k : MessageBuffer) (sender : ℕ) → buffer_at p.table id ≡ Some k → slice_get (receivers p.base id) 0 ≡ None → slice_get (senders p.base k id) 0 ≡ Some sender →
    has_space k (bytes_of p.table sender) ≡ true → serve_buffer p id ≡ Some (sender_ended (message_stored p id k (bytes_of p.table sender)) sender)
sender_served p id k sender there receiving sending room = serves_by p id k None (Some sender) there receiving sending ∙ rw room refl

pub sender_stays : (p : MailParts) (id : ℕ) (k : MessageBuffer) (sender : ℕ) → buffer_at p.table id ≡ Some k → slice_get (receivers p.base id) 0 ≡ None → slice_get (senders p.base k id) 0 ≡ Some sender →
    has_space k (bytes_of p.table sender) ≡ false → serve_buffer p id ≡ None
sender_stays p id k sender there receiving sending room = serves_by p id k None (Some sender) there receiving sending ∙ rw room refl

pub missing : (p : MailParts) (id : ℕ) → buffer_at p.table id ≡ None → serve_buffer p id ≡ None
unfolding serve_buffer
missing p id there = ap (serve_buffer_at p id) there

-- ---- receives

pub not_some : (o : Option ℕ) → is_some o ≡ false → o ≡ None
not_some None is = refl
not_some (Some t) is = absurd (cc is)

taken_by : (p : MailParts) (t id address : ℕ) (timeout : ℤ) (k : MessageBuffer) (receiver sender : Option ℕ) → buffer_at p.table id ≡ Some k → slice_get (receivers p.base id) 0 ≡ receiver → slice_get (senders p.base k id) 0 ≡ sender →
    received_from_buffer p t id address timeout (buffer_at p.table id) ≡ taken_by_caller p t id k address timeout receiver sender k.messages
taken_by p t id address timeout k receiver sender there receiving sending =
    ap (received_from_buffer p t id address timeout) there
    ∙ ap (λ r. taken_by_caller p t id k address timeout r (first_of (senders p.base k id)) k.messages) (first_is (receivers p.base id) ∙ receiving)
    ∙ ap (λ s. taken_by_caller p t id k address timeout receiver s k.messages) (first_is (senders p.base k id) ∙ sending)

oldest_taken : (p : MailParts) (t id address : ℕ) (timeout : ℤ) (k : MessageBuffer) (sender : Option ℕ) (messages : List (List ℕ)) → (length messages == 0) ≡ false →
    taken_by_caller p t id k address timeout None sender messages ≡ received (with_messages p id k (drop 1 messages)) address (oldest_of messages)
oldest_taken p t id address timeout k sender [] some = absurd (cc some)
oldest_taken p t id address timeout k sender (oldest ∷ later) some = refl

pub received_oldest : (p : MailParts) (t id address : ℕ) (timeout : ℤ) (k : MessageBuffer) → buffer_at p.table id ≡ Some k → slice_get (receivers p.base id) 0 ≡ None → (length k.messages == 0) ≡ false →
    received_from_buffer p t id address timeout (buffer_at p.table id) ≡ received (with_messages p id k (drop 1 k.messages)) address (oldest_of k.messages)
received_oldest p t id address timeout k there receiving some =
    taken_by p t id address timeout k None (slice_get (senders p.base k id) 0) there receiving refl ∙ oldest_taken p t id address timeout k (slice_get (senders p.base k id) 0) k.messages some

pub received_sent : (p : MailParts) (t id address : ℕ) (timeout : ℤ) (k : MessageBuffer) (sender : ℕ) → buffer_at p.table id ≡ Some k → slice_get (receivers p.base id) 0 ≡ None → slice_get (senders p.base k id) 0 ≡ Some sender →
    (length k.messages == 0) ≡ true → received_from_buffer p t id address timeout (buffer_at p.table id) ≡ received (sender_ended p sender) address (bytes_of p.table sender)
received_sent p t id address timeout k sender there receiving sending empty =
    taken_by p t id address timeout k None (Some sender) there receiving sending ∙ ap (taken_by_caller p t id k address timeout None (Some sender)) (no_messages k.messages empty)

-- ---- calls whose checks hold

named_if : (test : Bool) (n at : ℕ) → cond test (Some n) None ≡ Some at → (test ≡ true) × (n ≡ at)
named_if true n at is = (refl, cc is)
named_if false n at is = absurd (cc is)

pub sent_when : (p : MailParts) (who : Who) (id address n timeout : ℤ) (at : ℕ) (k : MessageBuffer) → cond (within 1 64 id) (Some (natural id)) None ≡ Some at → is_inside address n ≡ true → int_le (negsuc 0) timeout ≡ true →
    allows p.base.flags who MayWait ≡ true → buffer_at p.table at ≡ Some k → takes_length (natural n) k ≡ true →
    send_buffer p who id address n timeout ≡ sent_to_buffer p (caller who) at (bytes_at p.memory (natural address) (natural n)) timeout (buffer_at p.table at)
unfolding send_buffer
sent_when p who id address n timeout at k known lies limit allowed there takes =
    let named = named_if (within 1 64 id) (natural id) at known in
    let inside : within 1 64 id ≡ true = named.0 in
    let here : buffer_at p.table (natural id) ≡ Some k = ap (buffer_at p.table) named.1 ∙ there in
    rw (inside, lies, limit, allowed, here, takes)
    (ap (λ m. sent_to_buffer p (caller who) m (bytes_at p.memory (natural address) (natural n)) timeout (Some k)) named.1
    ∙ ap (sent_to_buffer p (caller who) at (bytes_at p.memory (natural address) (natural n)) timeout) (sym there))

pub send_not_allowed : (p : MailParts) (who : Who) (id address n timeout : ℤ) (at : ℕ) → cond (within 1 64 id) (Some (natural id)) None ≡ Some at → is_inside address n ≡ true → int_le (negsuc 0) timeout ≡ true →
    allows p.base.flags who MayWait ≡ false → send_buffer p who id address n timeout ≡ mail_done p (failed er.Ctx)
unfolding send_buffer
send_not_allowed p who id address n timeout at known lies limit allowed =
    let inside : within 1 64 id ≡ true = (named_if (within 1 64 id) (natural id) at known).0 in
    rw (inside, lies, limit, allowed) refl

pub send_no_buffer : (p : MailParts) (who : Who) (id address n timeout : ℤ) (at : ℕ) → cond (within 1 64 id) (Some (natural id)) None ≡ Some at → is_inside address n ≡ true → int_le (negsuc 0) timeout ≡ true →
    allows p.base.flags who MayWait ≡ true → buffer_at p.table at ≡ None → send_buffer p who id address n timeout ≡ mail_done p (failed er.NoExs)
unfolding send_buffer
send_no_buffer p who id address n timeout at known lies limit allowed there =
    let named = named_if (within 1 64 id) (natural id) at known in
    let inside : within 1 64 id ≡ true = named.0 in
    let here : buffer_at p.table (natural id) ≡ None = ap (buffer_at p.table) named.1 ∙ there in
    rw (inside, lies, limit, allowed, here) refl

pub send_wrong_length : (p : MailParts) (who : Who) (id address n timeout : ℤ) (at : ℕ) (k : MessageBuffer) → cond (within 1 64 id) (Some (natural id)) None ≡ Some at → is_inside address n ≡ true → int_le (negsuc 0) timeout ≡ true →
    allows p.base.flags who MayWait ≡ true → buffer_at p.table at ≡ Some k → takes_length (natural n) k ≡ false → send_buffer p who id address n timeout ≡ mail_done p (failed er.Par)
unfolding send_buffer
send_wrong_length p who id address n timeout at k known lies limit allowed there takes =
    let named = named_if (within 1 64 id) (natural id) at known in
    let inside : within 1 64 id ≡ true = named.0 in
    let here : buffer_at p.table (natural id) ≡ Some k = ap (buffer_at p.table) named.1 ∙ there in
    rw (inside, lies, limit, allowed, here, takes) refl
