-- Mailboxes: what is received from one, and who is served.
use Rattle.std.proofs.Common.{◌≡◌, ℕ, zero, suc, Bool, true, false, cond, List, [], ◌∷◌, Option, Some, None, refl, ap, sym, ◌∙◌, drop, ℤ, negsuc}
use Rattle.std.specs.Prelude.{int_le, slice_get, slice_set}
use Rattle.tk_types.specs.declared.answer.Who.{Who}
use Rattle.tk_types.specs.declared.answer.Outcome.TheVariants.{Returned}
use Rattle.kernel_model.specs.declared.marks.Mark.TheVariants.{MayWait}
use Rattle.kernel_model.specs.Words.Checks.{natural, within}
use Rattle.kernel_model.specs.Words.Orders.{entry}
use Rattle.kernel_model.specs.Tasks.Base.{release}
use Rattle.kernel_model.specs.Tasks.Marks.{allows}
use Rattle.kernel_model.specs.Tasks.Calls.{caller}
use Rattle.object_model.specs.declared.mails.Message.{Message}
use Rattle.object_model.specs.Mails.Tables.{Mailbox, Mails, MailParts, box_at, box_object, with_box}
use Rattle.object_model.specs.Mails.Boxes.{box_serves, box_waiters, left_in_box, message_answer, serve_box, serve_box_at}
use Rattle.object_model.specs.Mails.Calls.{mail_done, receive_box, taken_from_box, waits_or_ends}

-- a slot that is written as it is stays as it is
pub same_slot : {A : Type 0} (xs : List (Option A)) (id : ℕ) (k : A) → entry xs id ≡ Some k → slice_set xs id (Some k) ≡ xs
same_slot [] id k is = absurd (cc is)
same_slot (x ∷ xs) zero k is = let here : x ≡ Some k = is in ap (λ y. y ∷ xs) (sym here)
same_slot (x ∷ xs) (suc id) k is = ap (λ ys. x ∷ ys) (same_slot xs id k is)

-- nothing is in front of an empty list
pub none_first : {A : Type 0} (xs : List A) → slice_get xs 0 ≡ None → xs ≡ []
none_first [] is = refl
none_first (x ∷ xs) is = absurd (cc is)

-- a box without a message stays as it is when the first one is to leave
pub kept_box : (m : Mails) (id : ℕ) (k : Mailbox) → box_at m id ≡ Some k → slice_get k.messages 0 ≡ None → with_box m id (Some (record k { messages = drop 1 k.messages })) ≡ m
kept_box m id k at none =
    let empty : k.messages ≡ [] = none_first k.messages none in
    let left : drop 1 k.messages ≡ k.messages = ap (drop 1) empty ∙ sym empty in
    ap (λ messages. with_box m id (Some (record k { messages = messages }))) left ∙ ap (λ boxes. record m { boxes = boxes }) (same_slot m.boxes id k at)

named_if : (test : Bool) (n at : ℕ) → cond test (Some n) None ≡ Some at → (test ≡ true) × (n ≡ at)
named_if true n at is = (refl, cc is)
named_if false n at is = absurd (cc is)

-- the checks hold, and the mailbox with that ID answers or lets the task wait
received : (p : MailParts) (who : Who) (id timeout : ℤ) (at : ℕ) (k : Mailbox) → cond (within 1 64 id) (Some (natural id)) None ≡ Some at → int_le (negsuc 0) timeout ≡ true → allows p.base.flags who MayWait ≡ true →
    box_at p.table at ≡ Some k → receive_box p who id timeout ≡ taken_from_box p (caller who) at timeout k k.messages
unfolding receive_box
received p who id timeout at k known limit allowed there =
    let named = named_if (within 1 64 id) (natural id) at known in
    let inside : within 1 64 id ≡ true = named.0 in
    let here : box_at p.table (natural id) ≡ Some k = ap (box_at p.table) named.1 ∙ there in
    rw (inside, limit, allowed, here) (ap (λ n. taken_from_box p (caller who) n timeout k k.messages) named.1)

taken_first : (p : MailParts) (t id : ℕ) (timeout : ℤ) (k : Mailbox) (messages : List Message) (message : Message) → slice_get messages 0 ≡ Some message →
    taken_from_box p t id timeout k messages ≡ mail_done (left_in_box p id k (drop 1 messages)) (Returned (message_answer message))
taken_first p t id timeout k [] message is = absurd (cc is)
taken_first p t id timeout k (first ∷ rest) message is = let same : first ≡ message = cc is in ap (λ one. mail_done (left_in_box p id k rest) (Returned (message_answer one))) same

-- a message lies there
pub received_first : (p : MailParts) (who : Who) (id timeout : ℤ) (at : ℕ) (k : Mailbox) (message : Message) → cond (within 1 64 id) (Some (natural id)) None ≡ Some at → int_le (negsuc 0) timeout ≡ true →
    allows p.base.flags who MayWait ≡ true → box_at p.table at ≡ Some k → slice_get k.messages 0 ≡ Some message →
    receive_box p who id timeout ≡ mail_done (left_in_box p at k (drop 1 k.messages)) (Returned (message_answer message))
received_first p who id timeout at k message known limit allowed there is = received p who id timeout at k known limit allowed there ∙ taken_first p (caller who) at timeout k k.messages message is

-- none lies there
pub received_none : (p : MailParts) (who : Who) (id timeout : ℤ) (at : ℕ) (k : Mailbox) → cond (within 1 64 id) (Some (natural id)) None ≡ Some at → int_le (negsuc 0) timeout ≡ true →
    allows p.base.flags who MayWait ≡ true → box_at p.table at ≡ Some k → slice_get k.messages 0 ≡ None →
    receive_box p who id timeout ≡ waits_or_ends p (caller who) (box_object at) k.order timeout p.table
received_none p who id timeout at k known limit allowed there none =
    received p who id timeout at k known limit allowed there ∙ ap (taken_from_box p (caller who) at timeout k) (none_first k.messages none)

serves_first : (p : MailParts) (id : ℕ) (k : Mailbox) (waiters : List ℕ) (messages : List Message) (t : ℕ) (message : Message) → slice_get waiters 0 ≡ Some t → slice_get messages 0 ≡ Some message →
    box_serves p id k waiters messages ≡ Some (left_in_box (record p { base = release p.base t (message_answer message) }) id k (drop 1 messages))
serves_first p id k [] messages t message first is = absurd (cc first)
serves_first p id k (u ∷ waiters) [] t message first is = absurd (cc is)
serves_first p id k (u ∷ waiters) (one ∷ rest) t message first is =
    let who : u ≡ t = cc first in
    let what : one ≡ message = cc is in
    ap (λ v. Some (left_in_box (record p { base = release p.base v (message_answer one) }) id k rest)) who
    ∙ ap (λ m. Some (left_in_box (record p { base = release p.base t (message_answer m) }) id k rest)) what

serves_none : (p : MailParts) (id : ℕ) (k : Mailbox) (waiters : List ℕ) → box_serves p id k waiters [] ≡ None
serves_none p id k [] = refl
serves_none p id k (t ∷ waiters) = refl

-- the first waiter gets the first message
pub served_box : (p : MailParts) (id : ℕ) (k : Mailbox) (t : ℕ) (message : Message) → box_at p.table id ≡ Some k → slice_get (box_waiters p.base k id) 0 ≡ Some t → slice_get k.messages 0 ≡ Some message →
    serve_box p id ≡ Some (left_in_box (record p { base = release p.base t (message_answer message) }) id k (drop 1 k.messages))
unfolding serve_box
served_box p id k t message there first is = ap (serve_box_at p id) there ∙ serves_first p id k (box_waiters p.base k id) k.messages t message first is

pub unserved_box : (p : MailParts) (id : ℕ) (k : Mailbox) → box_at p.table id ≡ Some k → slice_get k.messages 0 ≡ None → serve_box p id ≡ None
unfolding serve_box
unserved_box p id k there none =
    ap (serve_box_at p id) there ∙ ap (box_serves p id k (box_waiters p.base k id)) (none_first k.messages none) ∙ serves_none p id k (box_waiters p.base k id)
