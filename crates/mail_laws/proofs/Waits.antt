-- A serving of a mailbox ends one wait, and one of a message buffer ends one or, where a message passes from a sender to a
-- receiver, two.
use Rattle.std.proofs.Common.{◌≡◌, ℕ, ◌+◌, ◌⊎◌, inl, inr, Bool, true, false, cond, List, [], ◌∷◌, Option, Some, None, length, refl, ◌∙◌, ap, sym, pos, arith}
use Rattle.std.specs.Option.{option_or}
use Rattle.std.specs.Bool.{◌==◌}
use Rattle.std.proofs.lemmas.Bool.Decides.{nat_tests}
use Rattle.tk_types.specs.declared.answer.Answer.{Answer}
use Rattle.tk_types.specs.declared.task.Order.{Order}
use Rattle.tk_types.specs.declared.task.Order.TheVariants.{Fifo}
use Rattle.tk_types.specs.declared.task.Task.{Task}
use Rattle.tk_types.specs.declared.task.Phase.{Phase}
use Rattle.tk_types.specs.declared.task.Phase.TheVariants.{Dormant, Ready, Waiting}
use Rattle.kernel_model.specs.LawWords.Once.{times}
use Rattle.kernel_model.specs.LawWords.Waiters.{waiting_count}
use Rattle.kernel_model.specs.Words.Checks.{plain}
use Rattle.kernel_model.specs.Tasks.Base.{Base, task_at, waits_in, waiting_in, waits_for, is_waiting, waits_somewhere, queue, release}
use Rattle.kernel_lemmas.proofs.Releases.{release_ends_one, release_others}
use Rattle.call_lemmas.proofs.Serving.{queue_absent, waits_for_waits}
use Rattle.object_model.specs.declared.mails.Message.{Message}
use Rattle.object_model.specs.Servings.{first_serving}
use Rattle.object_model.specs.Mails.Tables.{Mailbox, MessageBuffer, MailParts, box_object, senders_object, receivers_object, box_at, buffer_at, bytes_of}
use Rattle.object_model.specs.Mails.Boxes.{serve_box, serve_box_at, box_serves, box_waiters, serve_mailboxes}
use Rattle.object_model.specs.Mails.Buffers.{first_of, senders, receivers, has_space, message_stored, sender_ended, serve_buffer, serve_buffer_at, buffer_serves, serve_buffers}

-- ---- who stands first

stands_once : (t : ℕ) (ts : List ℕ) → times t (t ∷ ts) ≡ 0 → ⊥
stands_once t ts none = let itself : (t == t) ≡ true = grind (arith, nat_tests) in let counted : cond (t == t) 1 0 + times t ts ≡ 0 = none in let one : 1 + times t ts ≡ 0 = rw itself at counted in absurd (omega (arith, one))

waits_if : (b : Base) (object t : ℕ) (test : Bool) → waits_for b object t ≡ test → (waits_for b object t ≡ false → ⊥) → waits_for b object t ≡ true
waits_if b object t true is stands = is
waits_if b object t false is stands = absurd (stands is)

-- the first of a queue waits
pub first_waits : (order : Order) (b : Base) (object t : ℕ) (ts : List ℕ) → queue order b object ≡ t ∷ ts → waits_for b object t ≡ true
first_waits order b object t ts is = waits_if b object t (waits_for b object t) refl
    (λ idle. stands_once t ts (ap (times t) (sym is) ∙ queue_absent order b t object idle))

found_first : (order : Order) (b : Base) (object t : ℕ) (ids : List ℕ) → queue order b object ≡ ids → first_of ids ≡ Some t → waits_for b object t ≡ true
found_first order b object t [] stand is = absurd (cc is)
found_first order b object t (first ∷ rest) stand is = first_waits order b object t rest (stand ∙ ap (λ u. u ∷ rest) (cc is))

pub first_of_waits : (order : Order) (b : Base) (object t : ℕ) → first_of (queue order b object) ≡ Some t → waits_for b object t ≡ true
first_of_waits order b object t is = found_first order b object t (queue order b object) refl is

-- a task waits for one object alone
one_phase : (one other : ℕ) (phase : Phase) → waits_in one phase ≡ true → waits_in other phase ≡ true → one ≡ other
one_phase one other Ready here there = absurd (cc here)
one_phase one other Dormant here there = absurd (cc here)
one_phase one other (Waiting object) here there = let first : object ≡ one = grind (arith, nat_tests, here) in let second : object ≡ other = grind (arith, nat_tests, there) in omega (arith, first, second)

one_row : (one other : ℕ) (o : Option Task) → waiting_in one o ≡ true → waiting_in other o ≡ true → one ≡ other
one_row one other None here there = absurd (cc here)
one_row one other (Some k) here there = one_phase one other k.phase here there

-- the release of one task leaves another one's wait
still_waits : (b : Base) (t u one other : ℕ) (result : Answer) → waits_for b one t ≡ true → waits_for b other u ≡ true → (one ≡ other → ⊥) → is_waiting (release b t result) u ≡ true
still_waits b t u one other result here there apart =
    ap waits_somewhere (release_others b t u result (λ same. apart (one_row one other (task_at b t) here (ap (λ v. waits_for b other v) (sym same) ∙ there))))
    ∙ waits_for_waits b u other there

-- ---- the first object that serves

pub or_cases : {A : Type 0} → (o later : Option A) (x : A) → option_or o later ≡ Some x → (o ≡ Some x) ⊎ (later ≡ Some x)
or_cases None later x is = inr is
or_cases (Some y) later x is = inl is

-- what holds of each serving holds of that of the first object that can serve
pub of_first : {A : Type 0} → (P : A → Type 0) (serve : ℕ → Option A) (ids : List ℕ) (x : A) → ((id : ℕ) → serve id ≡ Some x → P x) → first_serving serve ids ≡ Some x → P x
unfolding first_serving
of_first P serve [] x each is = absurd (cc is)
of_first P serve (id ∷ ids) x each is = elim (or_cases (serve id) (first_serving serve ids) x is) [
  | inl here ↦ each id here
  | inr later ↦ of_first P serve ids x each later
]

-- ---- mailboxes

abbrev pub EndsOne : MailParts → MailParts → Type 0
EndsOne p q = waiting_count p.base ≡ waiting_count q.base + 1

ended : (p left q : MailParts) → EndsOne p left → Some left ≡ Some q → EndsOne p q
ended p left q one served = let same : left ≡ q = cc served in one ∙ ap (λ (now : MailParts). waiting_count now.base + 1) same

box_of : (p q : MailParts) (id : ℕ) (k : Mailbox) (waiters : List ℕ) (messages : List Message) → box_waiters p.base k id ≡ waiters → box_serves p id k waiters messages ≡ Some q → EndsOne p q
box_of p q id k [] messages stand served = absurd (cc served)
box_of p q id k (t ∷ ts) [] stand served = absurd (cc served)
box_of p q id k (t ∷ ts) (first ∷ rest) stand served =
    ended p _ q (release_ends_one p.base t _ (waits_for_waits p.base t (box_object id) (first_waits k.order p.base (box_object id) t ts stand))) served

box_slot : (p q : MailParts) (id : ℕ) (slot : Option Mailbox) → serve_box_at p id slot ≡ Some q → EndsOne p q
box_slot p q id None served = absurd (cc served)
box_slot p q id (Some k) served = box_of p q id k (box_waiters p.base k id) k.messages refl served

box_one : (p q : MailParts) (id : ℕ) → serve_box p id ≡ Some q → EndsOne p q
unfolding serve_box
box_one p q id served = box_slot p q id (box_at p.table id) served

pub boxes_end : (p q : MailParts) → serve_mailboxes p ≡ Some q → EndsOne p q
unfolding serve_mailboxes
boxes_end p q served = of_first (EndsOne p) (serve_box p) _ q (box_one p q) served

-- ---- message buffers

abbrev pub EndsSome : MailParts → MailParts → Type 0
EndsSome p q = (waiting_count p.base ≡ waiting_count q.base + 1) ⊎ (waiting_count p.base ≡ waiting_count q.base + 2)

ended_some : (p left q : MailParts) → EndsSome p left → Some left ≡ Some q → EndsSome p q
ended_some p left q (inl one) served = let same : left ≡ q = cc served in inl (one ∙ ap (λ (now : MailParts). waiting_count now.base + 1) same)
ended_some p left q (inr two) served = let same : left ≡ q = cc served in inr (two ∙ ap (λ (now : MailParts). waiting_count now.base + 2) same)

stored_if : (p q : MailParts) (id : ℕ) (k : MessageBuffer) (sender : ℕ) (test : Bool) → waits_for p.base (senders_object id) sender ≡ true →
    cond test (Some (sender_ended (message_stored p id k (bytes_of p.table sender)) sender)) None ≡ Some q → EndsSome p q
stored_if p q id k sender true waits served = ended_some p _ q (inl (release_ends_one p.base sender _ (waits_for_waits p.base sender (senders_object id) waits))) served
stored_if p q id k sender false waits served = absurd (cc served)

buffer_of : (p q : MailParts) (id : ℕ) (k : MessageBuffer) (receiver sender : Option ℕ) (messages : List (List ℕ)) → first_of (receivers p.base id) ≡ receiver → first_of (senders p.base k id) ≡ sender →
    buffer_serves p id k receiver sender messages ≡ Some q → EndsSome p q
buffer_of p q id k (Some receiver) sender (oldest ∷ later) receives sends served =
    ended_some p _ q (inl (release_ends_one p.base receiver _ (waits_for_waits p.base receiver (receivers_object id) (first_of_waits Fifo p.base (receivers_object id) receiver receives)))) served
buffer_of p q id k (Some receiver) (Some sender) [] receives sends served =
    let result : Answer = plain (pos (length (bytes_of p.table sender))) in
    let waits_in = first_of_waits Fifo p.base (receivers_object id) receiver receives in
    let waits_out = first_of_waits k.order p.base (senders_object id) sender sends in
    let first = release_ends_one p.base receiver result (waits_for_waits p.base receiver (receivers_object id) waits_in) in
    let second = release_ends_one (release p.base receiver result) sender (plain (pos 0)) (still_waits p.base receiver sender (receivers_object id) (senders_object id) result waits_in waits_out (λ same. omega (arith, same))) in
    ended_some p _ q (inr (omega (arith, first, second))) served
buffer_of p q id k (Some receiver) None [] receives sends served = absurd (cc served)
buffer_of p q id k None (Some sender) messages receives sends served = stored_if p q id k sender (has_space k (bytes_of p.table sender)) (first_of_waits k.order p.base (senders_object id) sender sends) served
buffer_of p q id k None None messages receives sends served = absurd (cc served)

buffer_slot : (p q : MailParts) (id : ℕ) (slot : Option MessageBuffer) → serve_buffer_at p id slot ≡ Some q → EndsSome p q
buffer_slot p q id None served = absurd (cc served)
buffer_slot p q id (Some k) served = buffer_of p q id k (first_of (receivers p.base id)) (first_of (senders p.base k id)) k.messages refl refl served

buffer_some : (p q : MailParts) (id : ℕ) → serve_buffer p id ≡ Some q → EndsSome p q
unfolding serve_buffer
buffer_some p q id served = buffer_slot p q id (buffer_at p.table id) served

pub buffers_end : (p q : MailParts) → serve_buffers p ≡ Some q → EndsSome p q
unfolding serve_buffers
buffers_end p q served = of_first (EndsSome p) (serve_buffer p) _ q (buffer_some p q) served
