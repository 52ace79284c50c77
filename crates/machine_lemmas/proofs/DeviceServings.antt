-- A serving at a device, at a descriptor or of the suspension ends a wait, or moves it from the acceptance of a request to its
-- ending, and leaves the orders of all queues. The events of a suspension end waits of receivers at most.
use Rattle.std.proofs.Common.{◌≡◌, ℕ, zero, suc, ◌≤◌, length, Bool, true, false, cond, List, [], ◌∷◌, Option, Some, None, refl, ◌∙◌, ap, sym, subst, pos, arith}
use Rattle.std.specs.Prelude.{drop, fold, reverse}
use Rattle.std.specs.Bool.{◌==◌}
use Rattle.std.specs.List.{find}
use Rattle.std.specs.Option.{is_some}
use Rattle.tk_types.specs.declared.error_code.Er.TheVariants as er
use Rattle.tk_types.specs.declared.task.Order.TheVariants.{Fifo}
use Rattle.tk_types.specs.Codes.{code_of}
use Rattle.kernel_model.specs.Words.Checks.{plain}
use Rattle.kernel_model.specs.Tasks.Base.{Base, fifo_queue, move_wait, release, waits_for}
use Rattle.object_model.specs.Mails.Tables.{MessageBuffer, MailParts, receivers_object, buffer_at}
use Rattle.object_model.specs.Mails.Buffers.{first_of, has_space, none_waits, post, posted, receivers, senders, sent_at_once, takes_length}
use Rattle.object_model.specs.Mails.Orders.{mail_order}
use Rattle.device_model.specs.declared.rows.Transfer.{Transfer}
use Rattle.device_model.specs.declared.rows.Wish.{Wish}
use Rattle.device_model.specs.declared.rows.Wish.TheVariants as wish
use Rattle.device_model.specs.Devices.Memory.{number_of, read_bytes}
use Rattle.device_model.specs.Devices.Tables.{Devices, Row, accepted, accepted_in, dropped, dropped_in, is_at_driver, with_buffer, buffer_of, device_ids, free_request, row_at, wish_of}
use Rattle.device_model.specs.Devices.Handing.{any_given, suspension_object}
use Rattle.device_model.specs.Devices.Endings.{DevParts, close_object}
use Rattle.device_model.specs.Devices.Requests.{accept, acceptance_object, accept_event, accept_from, buffer_size, ending_object, has_place, may_be_buffer, picked}
use Rattle.device_model.specs.Devices.Suspension.{after_post, event_bytes, event_sent, events_sent, mail_parts}
use Rattle.device_model.specs.Devices.Servings.{acceptance_by, admitted, admitted_if, admitted_wish, after_acceptance, close_by, closed_unless, ending_claimed, ending_of_first, is_with_driver, serve_acceptance, serve_acceptances, serve_close, serve_closes, serve_ending, serve_endings, serve_suspension, suspended_unless, suspension_by}
use Rattle.machine_lemmas.proofs.Changes.{IsChange, IsEnding, change_then, ends_then, one_ends, one_moves, releasing, unchanged}
use Rattle.machine_lemmas.proofs.KnownDevices.{AreKnown, IsBeside, IsWished, accepted_beside, beside_known, dropped_beside, open_known, wish_known}
use Rattle.machine_lemmas.proofs.Finding.{first_from, first_waits, found_waits}
use Rattle.machine_lemmas.proofs.ObjectServings.{buffers_order, first_in_queue}

-- a wait ends or moves, and the queues of mailboxes and message buffers keep their orders
pub record IsDevServing (p q : DevParts) : Type 1 where
  pub ends : IsEnding (IsWished p.table) p.base q.base
  pub known : AreKnown p.table → AreKnown q.table
  pub links : q.table.links ≡ p.table.links
  pub orders : (object : ℕ) → mail_order q.mails object ≡ mail_order p.mails object

dev_parts_of : (p left q : DevParts) → Some left ≡ Some q → IsDevServing p left → IsDevServing p q
dev_parts_of p left q same is = let e : left ≡ q = cc same in subst (IsDevServing p) e is

-- ---- acceptance

row_cases : (dv : Devices) (id : ℕ) (row : Row) (slot : Option Row) → (accepted_in slot dv id row).links ≡ dv.links
row_cases dv id row None = refl
row_cases dv id row (Some other) = refl

-- a request that is accepted or let go leaves the links to drivers
pub accepted_links : (dv : Devices) (id : ℕ) (row : Row) → (accepted dv id row).links ≡ dv.links
unfolding accepted
accepted_links dv id row = row_cases dv id row (row_at dv id)

dropped_if_free : (dv now : Devices) (kept : Bool) → now.links ≡ dv.links → (cond kept dv now).links ≡ dv.links
dropped_if_free dv now true same = refl
dropped_if_free dv now false same = same

dropped_cases : (dv : Devices) (id : ℕ) (slot : Option Row) → (dropped_in slot dv id).links ≡ dv.links
dropped_cases dv id None = refl
dropped_cases dv id (Some row) = dropped_if_free dv _ (is_at_driver row.life) refl

pub dropped_links : (dv : Devices) (id : ℕ) → (dropped dv id).links ≡ dv.links
unfolding dropped
dropped_links dv id = dropped_cases dv id (row_at dv id)

-- the acceptance of a request leaves the base, the mailboxes and message buffers, and the links to drivers
pub record Leaves (p q : DevParts) : Type 0 where
  pub base : q.base ≡ p.base
  pub mails : q.mails ≡ p.mails
  pub links : q.table.links ≡ p.table.links
  pub beside : IsBeside p.table q.table

leaves_if : (p a b : DevParts) (test : Bool) → Leaves p a → Leaves p b → Leaves p (cond test a b)
leaves_if p a b true first second = first
leaves_if p a b false first second = second

set_beside : (dv : Devices) (d buffer id : ℕ) (row : Row) → IsBeside dv (accepted (with_buffer dv d buffer) id row)
set_beside dv d buffer id row = let is = accepted_beside (with_buffer dv d buffer) id row in record { opened = is.opened; wishes = is.wishes }

event_leaves : (p : DevParts) (d id : ℕ) (transfer : Transfer) → Leaves p (accept_event p d id transfer)
event_leaves p d id transfer =
    leaves_if p _ _ (transfer.size == 0) (record { base = refl; mails = refl; links = accepted_links p.table id _; beside = accepted_beside p.table id _ })
    (leaves_if p _ _ (transfer.size == buffer_size)
    (leaves_if p _ _ transfer.write
    (leaves_if p _ _ (may_be_buffer p (number_of (read_bytes buffer_size transfer.address p.memory)))
    (record { base = refl; mails = refl; links = accepted_links (with_buffer p.table d (number_of (read_bytes buffer_size transfer.address p.memory))) id _; beside = set_beside p.table d (number_of (read_bytes buffer_size transfer.address p.memory)) id _ })
    (record { base = refl; mails = refl; links = accepted_links p.table id _; beside = accepted_beside p.table id _ }))
    (record { base = refl; mails = refl; links = accepted_links p.table id _; beside = accepted_beside p.table id _ }))
    (record { base = refl; mails = refl; links = accepted_links p.table id _; beside = accepted_beside p.table id _ }))

from_leaves : (start : Option ℕ) (p : DevParts) (d id : ℕ) (transfer : Transfer) → Leaves p (accept_from start p d id transfer)
from_leaves None p d id transfer = event_leaves p d id transfer
from_leaves (Some start) p d id transfer = record { base = refl; mails = refl; links = accepted_links p.table id _; beside = accepted_beside p.table id _ }

pub accept_leaves : (p : DevParts) (d id : ℕ) (transfer : Transfer) → Leaves p (accept p d id transfer)
unfolding accept
accept_leaves p d id transfer = from_leaves transfer.start p d id transfer

-- an acceptance ends the wait, or moves it to that for the ending
accepted_serving : (p q : DevParts) (d t dd id serial : ℕ) (stays : Bool) → 1 ≤ d → d ≤ 8 → IsWished p.table dd → waits_for p.base (acceptance_object d) t ≡ true → Leaves p q → IsDevServing p (after_acceptance q t dd id serial stays)
accepted_serving p q d t dd id serial true least most moves waits leaves = record {
  links = leaves.links;
  known = λ known. wish_known q.table t (wish.Ending id serial true) tt (beside_known p.table q.table leaves.beside known);
  ends = subst (λ (b : Base). IsEnding (IsWished p.table) p.base (move_wait b t (ending_object dd) Fifo)) (sym leaves.base) (one_moves p.base t d dd least most moves waits);
  orders = λ object. ap (λ mails. mail_order mails object) leaves.mails;
}
accepted_serving p q d t dd id serial false least most moves waits leaves = record {
  links = leaves.links;
  known = beside_known p.table q.table leaves.beside;
  ends = subst (λ (b : Base). IsEnding (IsWished p.table) p.base (release b t (plain (pos id)))) (sym leaves.base) (one_ends p.base t (acceptance_object d) (plain (pos id)) (omega arith) waits);
  orders = λ object. ap (λ mails. mail_order mails object) leaves.mails;
}

admitted_serving : (p : DevParts) (d t : ℕ) (transfer : Transfer) (stays : Bool) (id : ℕ) → 1 ≤ d → d ≤ 8 → IsWished p.table transfer.descriptor → waits_for p.base (acceptance_object d) t ≡ true → IsDevServing p (admitted p d t transfer stays id)
admitted_serving p d t transfer stays zero least most moves waits = record {
  known = λ known. known;
  links = refl;
  ends = one_ends p.base t (acceptance_object d) (plain (code_of er.Limit)) (omega arith) waits;
  orders = λ object. refl;
}
admitted_serving p d t transfer stays (suc id) least most moves waits =
    accepted_serving p (accept p d (suc id) transfer) d t transfer.descriptor (suc id) p.table.serial stays least most moves waits (accept_leaves p d (suc id) transfer)

wish_serving : (p : DevParts) (d t : ℕ) (q : DevParts) (asked : Wish) → wish_of p.table t ≡ asked → 1 ≤ d → d ≤ 8 → waits_for p.base (acceptance_object d) t ≡ true → admitted_wish p d t asked ≡ Some q → IsDevServing p q
wish_serving p d t q (wish.Acceptance transfer stays) at least most waits is =
    dev_parts_of p _ q is (admitted_serving p d t transfer stays (free_request p.table) least most (record { task = t; transfer = transfer; stays = stays; at = at; same = refl }) waits)
wish_serving p d t q wish.Nothing at least most waits is = absurd (cc is)
wish_serving p d t q (wish.Ending request serial own) at least most waits is = absurd (cc is)
wish_serving p d t q wish.AnyEnding at least most waits is = absurd (cc is)

place_serving : (place : Bool) (p : DevParts) (d t : ℕ) (q : DevParts) → 1 ≤ d → d ≤ 8 → waits_for p.base (acceptance_object d) t ≡ true → admitted_if place p d t ≡ Some q → IsDevServing p q
place_serving true p d t q least most waits is = wish_serving p d t q (wish_of p.table t) refl least most waits is
place_serving false p d t q least most waits is = absurd (cc is)

by_serving : (p : DevParts) (d : ℕ) (q : DevParts) (waiters : List ℕ) → 1 ≤ d → d ≤ 8 → fifo_queue p.base (acceptance_object d) ≡ waiters → acceptance_by p d waiters ≡ Some q → IsDevServing p q
by_serving p d q [] least most is served = absurd (cc served)
by_serving p d q (t ∷ ts) least most is served = place_serving (has_place p.table d) p d t q least most (first_waits Fifo p.base (acceptance_object d) t ts is) served

acceptance_serving : (p : DevParts) (d : ℕ) (q : DevParts) → 1 ≤ d → d ≤ 8 → serve_acceptance p d ≡ Some q → IsDevServing p q
unfolding serve_acceptance
acceptance_serving p d q least most served = by_serving p d q (fifo_queue p.base (acceptance_object d)) least most refl served

dropped_length : {A : Type 0} → (xs : List A) → length xs ≤ 9 → length (drop 1 xs) ≤ 8
dropped_length [] most = omega arith
dropped_length (x ∷ xs) most = omega (arith, most)

pub acceptances_serving : (p q : DevParts) → length p.table.links ≤ 9 → serve_acceptances p ≡ Some q → IsDevServing p q
unfolding serve_acceptances
acceptances_serving p q few is =
    let from = first_from (serve_acceptance p) q (drop 1 p.table.links) is in
    let most = dropped_length p.table.links few in
    let greatest = from.greatest in
    acceptance_serving p from.id q from.least (omega (arith, most, greatest)) from.at

-- ---- endings

claimed_serving : (p : DevParts) (dd t : ℕ) (q : DevParts) (picked_id : Option ℕ) → waits_for p.base (ending_object dd) t ≡ true → ending_claimed p t picked_id ≡ Some q → IsDevServing p q
claimed_serving p dd t q None waits is = absurd (cc is)
claimed_serving p dd t q (Some id) waits is = dev_parts_of p _ q is (record {
  links = dropped_links p.table id;
  known = beside_known p.table (dropped p.table id) (dropped_beside p.table id);
  ends = one_ends p.base t (ending_object dd) _ (omega arith) waits;
  orders = λ object. refl;
})

found_serving : (p : DevParts) (dd : ℕ) (q : DevParts) (found : Option ℕ) → find (λ t. is_some (picked p.table dd (wish_of p.table t))) (fifo_queue p.base (ending_object dd)) ≡ found → ending_of_first p dd found ≡ Some q → IsDevServing p q
found_serving p dd q None is served = absurd (cc served)
found_serving p dd q (Some t) is served =
    claimed_serving p dd t q (picked p.table dd (wish_of p.table t)) (found_waits Fifo (λ t. is_some (picked p.table dd (wish_of p.table t))) p.base (ending_object dd) t is) served

ending_serving : (p : DevParts) (dd : ℕ) (q : DevParts) → serve_ending p dd ≡ Some q → IsDevServing p q
unfolding serve_ending
ending_serving p dd q served = found_serving p dd q _ refl served

pub endings_serving : (p q : DevParts) → serve_endings p ≡ Some q → IsDevServing p q
unfolding serve_endings
endings_serving p q is = let from = first_from (serve_ending p) q (drop 1 p.table.opened) is in ending_serving p from.id q from.at

-- ---- close

closed_serving : (with_driver : Bool) (p : DevParts) (dd t : ℕ) (q : DevParts) → waits_for p.base (close_object dd) t ≡ true → closed_unless with_driver p dd t ≡ Some q → IsDevServing p q
closed_serving true p dd t q waits is = absurd (cc is)
closed_serving false p dd t q waits is = dev_parts_of p _ q is (record {
  known = open_known p.table dd None tt;
  links = refl;
  ends = one_ends p.base t (close_object dd) _ (omega arith) waits;
  orders = λ object. refl;
})

close_by_serving : (p : DevParts) (dd : ℕ) (q : DevParts) (waiters : List ℕ) → fifo_queue p.base (close_object dd) ≡ waiters → close_by p dd waiters ≡ Some q → IsDevServing p q
close_by_serving p dd q [] is served = absurd (cc served)
close_by_serving p dd q (t ∷ ts) is served = closed_serving (is_with_driver p.table dd) p dd t q (first_waits Fifo p.base (close_object dd) t ts is) served

close_serving : (p : DevParts) (dd : ℕ) (q : DevParts) → serve_close p dd ≡ Some q → IsDevServing p q
unfolding serve_close
close_serving p dd q served = close_by_serving p dd q (fifo_queue p.base (close_object dd)) refl served

pub closes_serving : (p q : DevParts) → serve_closes p ≡ Some q → IsDevServing p q
unfolding serve_closes
closes_serving p q is = let from = first_from (serve_close p) q (drop 1 p.table.opened) is in close_serving p from.id q from.at

-- ---- suspension

-- what a message that is posted changes: the wait of a receiver ends at most
pub record IsPosting (p q : MailParts) : Type 1 where
  pub changes : IsChange p.base q.base
  pub orders : (object : ℕ) → mail_order q.table object ≡ mail_order p.table object

posting_of : (p left q : MailParts) → Some left ≡ Some q → IsPosting p left → IsPosting p q
posting_of p left q same is = let e : left ≡ q = cc same in subst (IsPosting p) e is

stored_if : (p : MailParts) (q left : MailParts) (fits : Bool) → cond fits (Some left) None ≡ Some q → IsPosting p left → IsPosting p q
stored_if p q left true is posting = posting_of p left q is posting
stored_if p q left false is posting = absurd (cc is)

sent_posting : (p : MailParts) (id : ℕ) (k : MessageBuffer) (is_first : Bool) (receiver : Option ℕ) (messages : List (List ℕ)) (bytes : List ℕ) (q : MailParts) → buffer_at p.table id ≡ Some k →
    first_of (receivers p.base id) ≡ receiver → sent_at_once p id k is_first receiver messages bytes ≡ Some q → IsPosting p q
sent_posting p id k false receiver messages bytes q at is_r served = absurd (cc served)
sent_posting p id k true (Some r) (oldest ∷ later) bytes q at is_r served = absurd (cc served)
sent_posting p id k true (Some r) [] bytes q at is_r served = posting_of p _ q served (record {
  changes = releasing p.base r (receivers_object id) _ (omega arith) (first_in_queue Fifo p.base (receivers_object id) r is_r);
  orders = λ object. refl;
})
sent_posting p id k true None messages bytes q at is_r served = stored_if p q _ (has_space k bytes) served (record {
  changes = unchanged p.base;
  orders = buffers_order p id k _ at refl;
})

taken_if : (p q : MailParts) (takes : Bool) (sent : Option MailParts) → cond takes sent None ≡ Some q → (sent ≡ Some q → IsPosting p q) → IsPosting p q
taken_if p q true sent is posting = posting is
taken_if p q false sent is posting = absurd (cc is)

posted_posting : (p : MailParts) (id : ℕ) (bytes : List ℕ) (q : MailParts) (slot : Option MessageBuffer) → buffer_at p.table id ≡ slot → posted p id bytes slot ≡ Some q → IsPosting p q
posted_posting p id bytes q None at served = absurd (cc served)
posted_posting p id bytes q (Some k) at served = taken_if p q (takes_length (length bytes) k) _ served
    (λ sent. sent_posting p id k (none_waits (senders p.base k id)) (first_of (receivers p.base id)) k.messages bytes q at refl sent)

pub post_posting : (p : MailParts) (id : ℕ) (bytes : List ℕ) (q : MailParts) → post p id bytes ≡ Some q → IsPosting p q
unfolding post
post_posting p id bytes q served = posted_posting p id bytes q (buffer_at p.table id) refl served

-- what events change
pub record IsSending (p q : DevParts) : Type 1 where
  pub table : q.table ≡ p.table
  pub changes : IsChange p.base q.base
  pub orders : (object : ℕ) → mail_order q.mails object ≡ mail_order p.mails object

sending_then : (p q r : DevParts) → IsSending p q → IsSending q r → IsSending p r
sending_then p q r first then = record {
  table = then.table ∙ first.table;
  changes = change_then p.base q.base r.base first.changes then.changes;
  orders = λ object. then.orders object ∙ first.orders object;
}

after_sending : (p : DevParts) (id : ℕ) (bytes : List ℕ) (sent : Option MailParts) → post (mail_parts p) id bytes ≡ sent → IsSending p (after_post p sent)
after_sending p id bytes None is = record { table = refl; changes = unchanged p.base; orders = λ object. refl }
after_sending p id bytes (Some parts) is = let posting = post_posting (mail_parts p) id bytes parts is in record { table = refl; changes = posting.changes; orders = posting.orders }

event_sending : (type : ℕ) (p : DevParts) (d : ℕ) → IsSending p (event_sent type p d)
event_sending type p d = after_sending p (buffer_of p.table d) (event_bytes type d) _ refl

each_sending : (type : ℕ) (ids : List ℕ) (p : DevParts) → IsSending p (fold (event_sent type) p ids)
each_sending type [] p = record { table = refl; changes = unchanged p.base; orders = λ object. refl }
each_sending type (d ∷ ids) p = sending_then p (event_sent type p d) (fold (event_sent type) (event_sent type p d) ids) (event_sending type p d) (each_sending type ids (event_sent type p d))

pub events_sending : (p : DevParts) → IsSending p (events_sent p)
unfolding events_sent
events_sending p =
    let ids : List ℕ = device_ids p.table in
    let first : DevParts = fold (event_sent 1) p (reverse ids) in
    sending_then p first (fold (event_sent 2) first ids) (each_sending 1 (reverse ids) p) (each_sending 2 ids first)

suspended_serving : (busy : Bool) (p : DevParts) (t : ℕ) (q : DevParts) → waits_for p.base suspension_object t ≡ true → suspended_unless busy p t ≡ Some q → IsDevServing p q
suspended_serving true p t q waits is = absurd (cc is)
suspended_serving false p t q waits is =
    let ended : DevParts = record p { base = release p.base t (plain (pos p.table.off)) } in
    let sending = events_sending ended in
    dev_parts_of p (events_sent ended) q is (record {
      links = ap (λ (dv : Devices). dv.links) sending.table;
      known = subst AreKnown (sym sending.table);
      ends = ends_then p.base (events_sent ended).base t suspension_object (plain (pos p.table.off)) (omega arith) waits sending.changes;
      orders = sending.orders;
    })

suspension_by_serving : (p : DevParts) (q : DevParts) (waiters : List ℕ) → fifo_queue p.base suspension_object ≡ waiters → suspension_by p waiters ≡ Some q → IsDevServing p q
suspension_by_serving p q [] is served = absurd (cc served)
suspension_by_serving p q (t ∷ ts) is served = suspended_serving (any_given p.table) p t q (first_waits Fifo p.base suspension_object t ts is) served

pub suspension_serving : (p q : DevParts) → serve_suspension p ≡ Some q → IsDevServing p q
unfolding serve_suspension
suspension_serving p q served = suspension_by_serving p q (fifo_queue p.base suspension_object) refl served
