-- What a serving, or a message of the kernel itself, leaves of what tasks asked for: message buffers take messages of the same
-- lengths, and the script's memory has all its bytes.
use Rattle.std.proofs.Common.{◌≡◌, ℕ, zero, suc, length, Bool, true, false, cond, List, [], ◌∷◌, Option, Some, None, refl, sym, subst, pos}
use Rattle.std.specs.Prelude.{drop, fold, reverse, slice_set}
use Rattle.std.specs.Bool.{◌==◌}
use Rattle.std.specs.Option.{option_map, option_or}
use Rattle.kernel_model.specs.Words.Checks.{plain}
use Rattle.kernel_model.specs.Words.Orders.{taken_from}
use Rattle.kernel_model.specs.Tasks.Base.{fifo_queue, release}
use Rattle.kernel_model.specs.SemFlags.Tables.{serve_sem_flag}
use Rattle.object_model.specs.declared.mails.Message.{Message}
use Rattle.object_model.specs.Servings.{first_serving}
use Rattle.object_model.specs.Mutexes.Tables.{serve_mutexes}
use Rattle.object_model.specs.Mails.Tables.{MailParts, Mailbox, Mails, MessageBuffer, box_at, buffer_at, bytes_of, place_of}
use Rattle.object_model.specs.Mails.Boxes.{box_serves, box_waiters, serve_box, serve_box_at, serve_mailboxes}
use Rattle.object_model.specs.Mails.Buffers.{buffer_serves, first_of, has_space, message_stored, none_waits, post, posted, receivers, sender_ended, senders, sent_at_once, serve_buffer, serve_buffer_at, serve_buffers, takes_length}
use Rattle.object_model.specs.Pools.Tables.{FixedPool, PoolParts, VariablePool, fixed_at, size_of, variable_at}
use Rattle.object_model.specs.Pools.Fixed.{fixed_serves, fixed_waiters, free_block, serve_fixed, serve_fixed_at, serve_fixed_pools}
use Rattle.object_model.specs.Pools.Variable.{block_given, place_in, serve_variable, serve_variable_at, serve_variable_pools, variable_serves, variable_waiters}
use Rattle.device_model.specs.declared.rows.Transfer.{Transfer}
use Rattle.device_model.specs.declared.rows.Wish.{Wish}
use Rattle.device_model.specs.declared.rows.Wish.TheVariants as wish
use Rattle.device_model.specs.Devices.Memory.{four_bytes, number_of, read_bytes}
use Rattle.device_model.specs.Devices.Tables.{buffer_of, device_ids, free_request, wish_of}
use Rattle.device_model.specs.Devices.Handing.{any_given, suspension_object}
use Rattle.device_model.specs.Devices.Endings.{DevParts, close_object}
use Rattle.device_model.specs.Devices.Requests.{accept, accept_event, accept_from, acceptance_object, buffer_size, has_place, may_be_buffer, picked}
use Rattle.device_model.specs.Devices.Servings.{acceptance_by, admitted, admitted_if, admitted_wish, after_acceptance, close_by, closed_unless, descriptors, ending_claimed, ending_of_first, is_with_driver, serve_acceptance, serve_acceptances, serve_close, serve_closes, serve_ending, serve_endings, serve_suspension, suspended_unless, suspension_by}
use Rattle.device_model.specs.Devices.Suspension as suspension
use Rattle.device_model.specs.Devices.Suspension.{after_post, event_bytes, event_sent, events_sent}
use Rattle.machine_model.specs.States.Objects as objects
use Rattle.machine_model.specs.States.Objects.{Parts, dev_parts, mail_parts, pool_parts, serve_object, with_devices, with_mails, with_mutexes, with_pools, with_sem_flags}
use Rattle.ask_lemmas.proofs.Asked.{IsAlike, alike_same, alike_then, box_alike, buffer_alike}
use Rattle.ask_lemmas.proofs.LongMemory.{IsLong, with_bytes_long, write_long}

-- ---- servings of any kind

-- it holds of what a serving left, where there was one
abbrev pub IfServed : {A : Type 0} → (A → Type 0) → Option A → Type 0
IfServed P None = Unit {0}
IfServed P (Some q) = P q

either_served : {A : Type 0} → (P : A → Type 0) (one other : Option A) → IfServed P one → IfServed P other → IfServed P (option_or one other)
either_served P None other first second = second
either_served P (Some q) other first second = first

first_kept : {A : Type 0} → (P : A → Type 0) (serve : ℕ → Option A) (ids : List ℕ) → ((id : ℕ) → IfServed P (serve id)) → IfServed P (first_serving serve ids)
unfolding first_serving
first_kept P serve [] each = tt
first_kept P serve (id ∷ ids) each = either_served P (serve id) (first_serving serve ids) (each id) (first_kept P serve ids each)

if_served : {A : Type 0} → (P : A → Type 0) (test : Bool) (q : A) → P q → IfServed P (cond {A = Option A} test (Some q) None)
if_served P true q has = has
if_served P false q has = tt

-- ---- tables and memory

-- a table alike, and a memory that is as long as before where that was long
pub record IsPassing (m : Mails) (memory : List ℕ) (now : Mails) (after : List ℕ) : Type 0 where
  pub alike : IsAlike m now
  pub long : IsLong memory → IsLong after

same_passing : (m : Mails) (memory : List ℕ) → IsPassing m memory m memory
same_passing m memory = record { alike = alike_same m; long = λ long. long }

abbrev pub Passed : MailParts → MailParts → Type 0
Passed p q = IsPassing p.table p.memory q.table q.memory

-- ---- mailboxes and message buffers

box_of : (p : MailParts) (id : ℕ) (k : Mailbox) (waiters : List ℕ) (messages : List Message) → IfServed (Passed p) (box_serves p id k waiters messages)
box_of p id k [] messages = tt
box_of p id k (t ∷ waiters) [] = tt
box_of p id k (t ∷ waiters) (first ∷ rest) = record { alike = box_alike p.table id _; long = λ long. long }

box_in : (p : MailParts) (id : ℕ) (slot : Option Mailbox) → IfServed (Passed p) (serve_box_at p id slot)
box_in p id None = tt
box_in p id (Some k) = box_of p id k (box_waiters p.base k id) k.messages

box_serving : (p : MailParts) (id : ℕ) → IfServed (Passed p) (serve_box p id)
unfolding serve_box
box_serving p id = box_in p id (box_at p.table id)

boxes_pass : (p : MailParts) → IfServed (Passed p) (serve_mailboxes p)
unfolding serve_mailboxes
boxes_pass p = first_kept (Passed p) (serve_box p) (taken_from 1 (drop 1 p.table.boxes)) (box_serving p)

messages_pass : (p : MailParts) (id : ℕ) (k : MessageBuffer) (messages : List (List ℕ)) → buffer_at p.table id ≡ Some k →
    IsAlike p.table (record p.table { buffers = slice_set p.table.buffers id (Some (record k { messages = messages })) })
messages_pass p id k messages at = buffer_alike p.table id k (record k { messages = messages }) at refl

buffer_of_kind : (p : MailParts) (id : ℕ) (k : MessageBuffer) (receiver sender : Option ℕ) (messages : List (List ℕ)) → buffer_at p.table id ≡ Some k →
    IfServed (Passed p) (buffer_serves p id k receiver sender messages)
buffer_of_kind p id k (Some receiver) sender (oldest ∷ later) at = record {
  alike = messages_pass p id k later at;
  long = with_bytes_long p.memory oldest (place_of p.table receiver);
}
buffer_of_kind p id k (Some receiver) (Some sender) [] at = record {
  alike = alike_same p.table;
  long = with_bytes_long p.memory (bytes_of p.table sender) (place_of p.table receiver);
}
buffer_of_kind p id k (Some receiver) None [] at = tt
buffer_of_kind p id k None (Some sender) messages at =
    if_served (Passed p) (has_space k (bytes_of p.table sender)) (sender_ended (message_stored p id k (bytes_of p.table sender)) sender)
    (record { alike = messages_pass p id k _ at; long = λ long. long })
buffer_of_kind p id k None None messages at = tt

buffer_in : (p : MailParts) (id : ℕ) (slot : Option MessageBuffer) → buffer_at p.table id ≡ slot → IfServed (Passed p) (serve_buffer_at p id slot)
buffer_in p id None at = tt
buffer_in p id (Some k) at = buffer_of_kind p id k (first_of (receivers p.base id)) (first_of (senders p.base k id)) k.messages at

buffer_serving : (p : MailParts) (id : ℕ) → IfServed (Passed p) (serve_buffer p id)
unfolding serve_buffer
buffer_serving p id = buffer_in p id (buffer_at p.table id) refl

buffers_pass : (p : MailParts) → IfServed (Passed p) (serve_buffers p)
unfolding serve_buffers
buffers_pass p = first_kept (Passed p) (serve_buffer p) (taken_from 1 (drop 1 p.table.buffers)) (buffer_serving p)

-- ---- messages of the kernel itself

at_once_passes : (p : MailParts) (id : ℕ) (k : MessageBuffer) (first : Bool) (receiver : Option ℕ) (messages : List (List ℕ)) (bytes : List ℕ) → buffer_at p.table id ≡ Some k →
    IfServed (Passed p) (sent_at_once p id k first receiver messages bytes)
at_once_passes p id k false receiver messages bytes at = tt
at_once_passes p id k true (Some receiver) (oldest ∷ later) bytes at = tt
at_once_passes p id k true (Some receiver) [] bytes at = record { alike = alike_same p.table; long = with_bytes_long p.memory bytes (place_of p.table receiver) }
at_once_passes p id k true None messages bytes at =
    if_served (Passed p) (has_space k bytes) (message_stored p id k bytes) (record { alike = messages_pass p id k _ at; long = λ long. long })

taken_passes : (p : MailParts) (takes : Bool) (sent : Option MailParts) → IfServed (Passed p) sent → IfServed (Passed p) (cond {A = Option MailParts} takes sent None)
taken_passes p true sent has = has
taken_passes p false sent has = tt

posted_passes : (p : MailParts) (id : ℕ) (bytes : List ℕ) (slot : Option MessageBuffer) → buffer_at p.table id ≡ slot → IfServed (Passed p) (posted p id bytes slot)
posted_passes p id bytes None at = tt
posted_passes p id bytes (Some k) at =
    taken_passes p (takes_length (length bytes) k) _ (at_once_passes p id k (none_waits (senders p.base k id)) (first_of (receivers p.base id)) k.messages bytes at)

post_passes : (p : MailParts) (id : ℕ) (bytes : List ℕ) → IfServed (Passed p) (post p id bytes)
unfolding post
post_passes p id bytes = posted_passes p id bytes (buffer_at p.table id) refl

-- ---- devices

abbrev pub DevPassed : DevParts → DevParts → Type 0
DevPassed p q = IsPassing p.mails p.memory q.mails q.memory

same_parts : (p : DevParts) → DevPassed p p
same_parts p = same_passing p.mails p.memory

passed_then : (p q r : DevParts) → DevPassed p q → DevPassed q r → DevPassed p r
passed_then p q r first second = record {
  alike = alike_then p.mails q.mails r.mails first.alike second.alike;
  long = λ long. second.long (first.long long);
}

after_passes : (p : DevParts) (sent : Option MailParts) → IfServed (Passed (suspension.mail_parts p)) sent → DevPassed p (after_post p sent)
after_passes p None has = same_parts p
after_passes p (Some parts) has = record { alike = has.alike; long = has.long }

each_passes : (type : ℕ) (ids : List ℕ) (p : DevParts) → DevPassed p (fold (event_sent type) p ids)
each_passes type [] p = same_parts p
each_passes type (d ∷ ids) p =
    passed_then p (event_sent type p d) (fold (event_sent type) (event_sent type p d) ids)
    (after_passes p (post (suspension.mail_parts p) (buffer_of p.table d) (event_bytes type d)) (post_passes (suspension.mail_parts p) (buffer_of p.table d) (event_bytes type d)))
    (each_passes type ids (event_sent type p d))

-- the events of a suspension
pub events_pass : (p : DevParts) → DevPassed p (events_sent p)
unfolding events_sent
events_pass p =
    let first : DevParts = fold (event_sent 1) p (reverse (device_ids p.table)) in
    passed_then p first (fold (event_sent 2) first (device_ids p.table)) (each_passes 1 (reverse (device_ids p.table)) p) (each_passes 2 (device_ids p.table) first)

either_passes : (p : DevParts) (test : Bool) (one other : DevParts) → DevPassed p one → DevPassed p other → DevPassed p (cond {A = DevParts} test one other)
either_passes p true one other first second = first
either_passes p false one other first second = second

event_passes : (p : DevParts) (d id : ℕ) (transfer : Transfer) → DevPassed p (accept_event p d id transfer)
event_passes p d id transfer =
    either_passes p (transfer.size == 0) _ _ (same_parts p)
    (either_passes p (transfer.size == buffer_size) _ _
    (either_passes p transfer.write _ _
    (either_passes p (may_be_buffer p (number_of (read_bytes buffer_size transfer.address p.memory))) _ _ (same_parts p) (same_parts p))
    (record { alike = alike_same p.mails; long = write_long (four_bytes (buffer_of p.table d)) transfer.address p.memory }))
    (same_parts p))

from_passes : (start : Option ℕ) (p : DevParts) (d id : ℕ) (transfer : Transfer) → DevPassed p (accept_from start p d id transfer)
from_passes None p d id transfer = event_passes p d id transfer
from_passes (Some start) p d id transfer = same_parts p

-- a request is accepted
pub accept_passes : (p : DevParts) (d id : ℕ) (transfer : Transfer) → DevPassed p (accept p d id transfer)
unfolding accept
accept_passes p d id transfer = from_passes transfer.start p d id transfer

accepted_passes : (p q : DevParts) (t dd id serial : ℕ) (stays : Bool) → DevPassed p q → DevPassed p (after_acceptance q t dd id serial stays)
accepted_passes p q t dd id serial true has = has
accepted_passes p q t dd id serial false has = has

admitted_passes : (p : DevParts) (d t : ℕ) (transfer : Transfer) (stays : Bool) (id : ℕ) → DevPassed p (admitted p d t transfer stays id)
admitted_passes p d t transfer stays zero = same_parts p
admitted_passes p d t transfer stays (suc id) =
    accepted_passes p (accept p d (suc id) transfer) t transfer.descriptor (suc id) p.table.serial stays (accept_passes p d (suc id) transfer)

wish_passes : (p : DevParts) (d t : ℕ) (asked : Wish) → IfServed (DevPassed p) (admitted_wish p d t asked)
wish_passes p d t (wish.Acceptance transfer stays) = admitted_passes p d t transfer stays (free_request p.table)
wish_passes p d t wish.Nothing = tt
wish_passes p d t (wish.Ending request serial own) = tt
wish_passes p d t wish.AnyEnding = tt

place_passes : (place : Bool) (p : DevParts) (d t : ℕ) → IfServed (DevPassed p) (admitted_if place p d t)
place_passes true p d t = wish_passes p d t (wish_of p.table t)
place_passes false p d t = tt

by_passes : (p : DevParts) (d : ℕ) (waiters : List ℕ) → IfServed (DevPassed p) (acceptance_by p d waiters)
by_passes p d [] = tt
by_passes p d (t ∷ ts) = place_passes (has_place p.table d) p d t

acceptances_pass : (p : DevParts) → IfServed (DevPassed p) (serve_acceptances p)
unfolding serve_acceptances serve_acceptance
acceptances_pass p = first_kept (DevPassed p) (serve_acceptance p) (device_ids p.table) (λ d. by_passes p d (fifo_queue p.base (acceptance_object d)))

claimed_passes : (p : DevParts) (t : ℕ) (id : Option ℕ) → IfServed (DevPassed p) (ending_claimed p t id)
claimed_passes p t None = tt
claimed_passes p t (Some id) = same_parts p

found_passes : (p : DevParts) (dd : ℕ) (found : Option ℕ) → IfServed (DevPassed p) (ending_of_first p dd found)
found_passes p dd None = tt
found_passes p dd (Some t) = claimed_passes p t (picked p.table dd (wish_of p.table t))

endings_pass : (p : DevParts) → IfServed (DevPassed p) (serve_endings p)
unfolding serve_endings serve_ending
endings_pass p = first_kept (DevPassed p) (serve_ending p) (descriptors p.table) (λ dd. found_passes p dd _)

closed_passes : (with_driver : Bool) (p : DevParts) (dd t : ℕ) → IfServed (DevPassed p) (closed_unless with_driver p dd t)
closed_passes true p dd t = tt
closed_passes false p dd t = same_parts p

close_by_passes : (p : DevParts) (dd : ℕ) (waiters : List ℕ) → IfServed (DevPassed p) (close_by p dd waiters)
close_by_passes p dd [] = tt
close_by_passes p dd (t ∷ ts) = closed_passes (is_with_driver p.table dd) p dd t

closes_pass : (p : DevParts) → IfServed (DevPassed p) (serve_closes p)
unfolding serve_closes serve_close
closes_pass p = first_kept (DevPassed p) (serve_close p) (descriptors p.table) (λ dd. close_by_passes p dd (fifo_queue p.base (close_object dd)))

unless_passes : (busy : Bool) (p : DevParts) (t : ℕ) → IfServed (DevPassed p) (suspended_unless busy p t)
unless_passes true p t = tt
unless_passes false p t = events_pass (record p { base = release p.base t (plain (pos p.table.off)) })

waiters_pass : (p : DevParts) (waiters : List ℕ) → IfServed (DevPassed p) (suspension_by p waiters)
waiters_pass p [] = tt
waiters_pass p (t ∷ ts) = unless_passes (any_given p.table) p t

suspension_passes : (p : DevParts) → IfServed (DevPassed p) (serve_suspension p)
unfolding serve_suspension
suspension_passes p = waiters_pass p (fifo_queue p.base suspension_object)

-- ---- memory pools

-- the sizes that tasks asked for stay
abbrev StaysSized : PoolParts → PoolParts → Type 0
StaysSized p q = q.table.sizes ≡ p.table.sizes

fixed_case : (p : PoolParts) (id : ℕ) (k : FixedPool) (waiters : List ℕ) (number : ℕ) → IfServed (StaysSized p) (fixed_serves p id k waiters number)
fixed_case p id k [] number = tt
fixed_case p id k (t ∷ ts) zero = tt
fixed_case p id k (t ∷ ts) (suc before) = refl

fixed_slot : (p : PoolParts) (id : ℕ) (slot : Option FixedPool) → IfServed (StaysSized p) (serve_fixed_at p id slot)
fixed_slot p id None = tt
fixed_slot p id (Some k) = fixed_case p id k (fixed_waiters p.base k id) (free_block k)

fixed_stays : (p : PoolParts) → IfServed (StaysSized p) (serve_fixed_pools p)
unfolding serve_fixed_pools serve_fixed
fixed_stays p = first_kept (StaysSized p) (serve_fixed p) (taken_from 1 (drop 1 p.table.fixed)) (λ id. fixed_slot p id (fixed_at p.table id))

given_case : (p : PoolParts) (id : ℕ) (k : VariablePool) (t : ℕ) (place : Option ℕ) → IfServed (StaysSized p) (block_given p id k t place)
given_case p id k t None = tt
given_case p id k t (Some offset) = refl

variable_case : (p : PoolParts) (id : ℕ) (k : VariablePool) (waiters : List ℕ) → IfServed (StaysSized p) (variable_serves p id k waiters)
variable_case p id k [] = tt
variable_case p id k (t ∷ ts) = given_case p id k t (place_in k (size_of p.table t))

variable_slot : (p : PoolParts) (id : ℕ) (slot : Option VariablePool) → IfServed (StaysSized p) (serve_variable_at p id slot)
variable_slot p id None = tt
variable_slot p id (Some k) = variable_case p id k (variable_waiters p.base k id)

variable_stays : (p : PoolParts) → IfServed (StaysSized p) (serve_variable_pools p)
unfolding serve_variable_pools serve_variable
variable_stays p = first_kept (StaysSized p) (serve_variable p) (taken_from 1 (drop 1 p.table.variable)) (λ id. variable_slot p id (variable_at p.table id))

-- ---- all kinds

-- what a serving leaves of what tasks asked for
pub record LeavesAsked (p q : Parts) : Type 0 where
  pub mails : IsPassing p.objects.mails p.memory q.objects.mails q.memory
  pub sizes : q.objects.pools.sizes ≡ p.objects.pools.sizes

mapped_leaves : {A : Type 0} → (p : Parts) (Q : A → Type 0) (put : A → Parts) (served : Option A) → IfServed Q served → ((l : A) → Q l → LeavesAsked p (put l)) →
    IfServed (LeavesAsked p) (option_map put served)
mapped_leaves p Q put None kept all = tt
mapped_leaves p Q put (Some l) kept all = all l kept

two_leave : (p : Parts) (here next : Option Parts) → IfServed (LeavesAsked p) here → IfServed (LeavesAsked p) next →
    IfServed (LeavesAsked p) (elim here as (λ _. Option Parts) [ Some served ↦ Some served | None ↦ next ])
two_leave p (Some served) next first later = first
two_leave p None next first later = later

same_leaves : (p q : Parts) → q.objects.mails ≡ p.objects.mails → q.memory ≡ p.memory → q.objects.pools.sizes ≡ p.objects.pools.sizes → LeavesAsked p q
same_leaves p q mails memory sizes = record {
  mails = subst (λ (m : Mails). IsPassing p.objects.mails p.memory m q.memory) (sym mails)
      (subst (λ (after : List ℕ). IsPassing p.objects.mails p.memory p.objects.mails after) (sym memory) (same_passing p.objects.mails p.memory));
  sizes = sizes;
}

anything : {A : Type 0} → (served : Option A) → IfServed (λ (q : A). Unit {0}) served
anything None = tt
anything (Some q) = tt

-- each serving leaves it
pub served_leaves : (p : Parts) → IfServed (LeavesAsked p) (serve_object p)
unfolding serve_object objects.first_serving
served_leaves p =
    two_leave p _ _ (mapped_leaves p (λ q. Unit {0}) (with_sem_flags p) (serve_sem_flag p.base p.objects.sem_flags) (anything _) (λ l kept. same_leaves p (with_sem_flags p l) refl refl refl))
    (two_leave p _ _ (mapped_leaves p (Passed (mail_parts p)) (with_mails p) (serve_mailboxes (mail_parts p)) (boxes_pass (mail_parts p)) (λ l kept. record { mails = kept; sizes = refl }))
    (two_leave p _ _ (mapped_leaves p (λ q. Unit {0}) (with_mutexes p) (serve_mutexes p.base p.objects.mutexes) (anything _) (λ l kept. same_leaves p (with_mutexes p l) refl refl refl))
    (two_leave p _ _ (mapped_leaves p (Passed (mail_parts p)) (with_mails p) (serve_buffers (mail_parts p)) (buffers_pass (mail_parts p)) (λ l kept. record { mails = kept; sizes = refl }))
    (two_leave p _ _ (mapped_leaves p (StaysSized (pool_parts p)) (with_pools p) (serve_fixed_pools (pool_parts p)) (fixed_stays (pool_parts p)) (λ l kept. same_leaves p (with_pools p l) refl refl kept))
    (two_leave p _ _ (mapped_leaves p (StaysSized (pool_parts p)) (with_pools p) (serve_variable_pools (pool_parts p)) (variable_stays (pool_parts p)) (λ l kept. same_leaves p (with_pools p l) refl refl kept))
    (two_leave p _ _ (mapped_leaves p (DevPassed (dev_parts p)) (with_devices p) (serve_acceptances (dev_parts p)) (acceptances_pass (dev_parts p)) (λ l kept. record { mails = kept; sizes = refl }))
    (two_leave p _ _ (mapped_leaves p (DevPassed (dev_parts p)) (with_devices p) (serve_endings (dev_parts p)) (endings_pass (dev_parts p)) (λ l kept. record { mails = kept; sizes = refl }))
    (two_leave p _ _ (mapped_leaves p (DevPassed (dev_parts p)) (with_devices p) (serve_closes (dev_parts p)) (closes_pass (dev_parts p)) (λ l kept. record { mails = kept; sizes = refl }))
    (two_leave p _ None (mapped_leaves p (DevPassed (dev_parts p)) (with_devices p) (serve_suspension (dev_parts p)) (suspension_passes (dev_parts p)) (λ l kept. record { mails = kept; sizes = refl }))
    tt)))))))))
