-- A task that waits for a mutex which somebody owns waits on while all settles, whoever is served and whatever becomes of priorities.
use Rattle.std.proofs.Common.{◌≡◌, ℕ, zero, suc, ◌≤◌, Bool, true, false, cond, length, List, [], ◌∷◌, Option, Some, None, refl, ◌∙◌, ap, sym, subst, pos, arith}
use Rattle.std.specs.Bool.{◌==◌}
use Rattle.std.specs.List.{find}
use Rattle.std.specs.Option.{is_some, option_map}
use Rattle.std.specs.Prelude.{drop, fold, reverse, slice_set}
use Rattle.std.proofs.lemmas.Bool.Decides.{nat_tests}
use Rattle.tk_types.specs.declared.answer.Answer.{Answer}
use Rattle.tk_types.specs.declared.error_code.Er.TheVariants as er
use Rattle.tk_types.specs.declared.run.Mode.{Mode}
use Rattle.tk_types.specs.declared.run.Mode.TheVariants as modes
use Rattle.tk_types.specs.declared.task.Order.{Order}
use Rattle.tk_types.specs.declared.task.Order.TheVariants.{Fifo}
use Rattle.tk_types.specs.declared.task.Phase.TheVariants.{Waiting}
use Rattle.tk_types.specs.declared.task.Task.{Task}
use Rattle.tk_types.specs.Codes.{code_of}
use Rattle.kernel_model.specs.declared.objects.EventFlag.{EventFlag}
use Rattle.kernel_model.specs.declared.objects.Semaphore.{Semaphore}
use Rattle.kernel_model.specs.Words.Checks.{plain}
use Rattle.kernel_model.specs.Words.Events.{without_wait}
use Rattle.kernel_model.specs.Words.Orders.{taken_from}
use Rattle.kernel_model.specs.Tasks.Base.{Base, fifo_queue, is_waiting_phase, move_wait, release, set_current, task_at, waiting_in, waits_for}
use Rattle.kernel_model.specs.SemFlags.Tables.{SemFlagParts, SemFlags, flag_at, flag_object, flag_served, or_else, sem_at, sem_object, sem_served, serve_flag, serve_flag_at, serve_flag_of, serve_sem, serve_sem_at, serve_sem_flag, serve_sem_of}
use Rattle.kernel_lemmas.proofs.Tables.{entry_cases, entry_each, entry_inside, entry_other, entry_there}
use Rattle.call_lemmas.proofs.Serving.{flag_served_waits, sem_served_waits}
use Rattle.object_model.specs.declared.mails.Message.{Message}
use Rattle.object_model.specs.declared.mutexes.Mutex.{Mutex}
use Rattle.object_model.specs.Servings.{first_serving}
use Rattle.object_model.specs.Mails.Boxes.{box_serves, box_waiters, serve_box, serve_box_at, serve_mailboxes}
use Rattle.object_model.specs.Mails.Buffers.{buffer_serves, first_of, has_space, message_stored, none_waits, post, posted, receivers, sender_ended, senders, sent_at_once, serve_buffer, serve_buffer_at, serve_buffers, takes_length}
use Rattle.object_model.specs.Mails.Tables.{Mailbox, MailParts, MessageBuffer, box_at, box_object, buffer_at, bytes_of, receivers_object, senders_object}
use Rattle.object_model.specs.Mutexes.Tables.{MutexParts, Mutexes, mutex_at, mutex_object, mutex_waiters, owner_in, owner_of, serve_mutex, serve_mutex_at, serve_mutex_of, serve_mutexes}
use Rattle.object_model.specs.Pools.Fixed.{fixed_serves, fixed_waiters, free_block, serve_fixed, serve_fixed_at, serve_fixed_pools}
use Rattle.object_model.specs.Pools.Tables.{FixedPool, PoolParts, VariablePool, fixed_at, fixed_object, size_of, variable_at, variable_object}
use Rattle.object_model.specs.Pools.Variable.{block_given, place_in, serve_variable, serve_variable_at, serve_variable_pools, variable_serves, variable_waiters}
use Rattle.device_model.specs.declared.rows.Transfer.{Transfer}
use Rattle.device_model.specs.declared.rows.Wish.{Wish}
use Rattle.device_model.specs.declared.rows.Wish.TheVariants as wish
use Rattle.device_model.specs.Devices.Endings.{DevParts, close_object}
use Rattle.device_model.specs.Devices.Handing.{any_given, suspension_object}
use Rattle.device_model.specs.Devices.Requests.{accept, acceptance_object, ending_object, has_place, picked}
use Rattle.device_model.specs.Devices.Servings.{acceptance_by, admitted, admitted_if, admitted_wish, after_acceptance, close_by, closed_unless, descriptors, ending_claimed, ending_of_first, is_with_driver, serve_acceptance, serve_acceptances, serve_close, serve_closes, serve_ending, serve_endings, serve_suspension, suspended_unless, suspension_by}
use Rattle.device_model.specs.Devices.Suspension.{after_post, event_bytes, event_sent, events_sent, mail_parts as mails_of}
use Rattle.device_model.specs.Devices.Tables.{buffer_of, device_ids, free_request, wish_of}
use Rattle.mail_laws.proofs.Waits.{first_of_waits}
use Rattle.machine_model.specs.Events.Settle.{handed, settle}
use Rattle.machine_model.specs.States.Objects.{Parts, dev_parts, first_serving as first_kind, mail_parts, pool_parts, serve_object, with_devices, with_mails, with_mutexes, with_pools, with_sem_flags}
use Rattle.machine_lemmas.proofs.DeviceServings.{accept_leaves}
use Rattle.machine_lemmas.proofs.Finding.{first_from, first_waits, found_waits, waits_on}
use Rattle.machine_lemmas.proofs.Servings.{FewDevices}
use Rattle.machine_lemmas.proofs.Settling.{settle_keeps}
use Rattle.table_lemmas.proofs.ReachedShort.{AllShort, served_short, there}
use Rattle.table_lemmas.proofs.Slots.{IfServed, first_kept}
use Rattle.paragraph_laws.proofs.NearBuffer.{sender_waits, waits_apart, waits_once}
use Rattle.paragraph_laws.proofs.Still.{sem_flag_firsts}

-- ---- the ends of others' waits

-- the task waits for the mutex
abbrev Holds : ℕ → ℕ → Base → Type 0
Holds t id b = waits_for b (mutex_object id) t ≡ true

-- the wait of a task for another object ends
holds_released : (t id : ℕ) (b : Base) (v object : ℕ) (answer : Answer) → waits_for b object v ≡ true → (object ≡ mutex_object id → ⊥) → Holds t id b → Holds t id (release b v answer)
holds_released t id b v object answer waits apart has = waits_on b v t object (mutex_object id) answer waits has apart

moved_if : (t id : ℕ) (b : Base) (v object : ℕ) (order : Order) (k : Task) (waits : Bool) → (v ≡ t → ⊥) → Holds t id b →
    Holds t id (cond waits (record b { tasks = slice_set b.tasks v (Some (record k { phase = Waiting object; queue = order })); events = without_wait v b.events }) b)
moved_if t id b v object order k true apart has =
    ap (waiting_in (mutex_object id)) (entry_other b.tasks v t (Some (record k { phase = Waiting object; queue = order })) (λ e. apart (sym e))) ∙ has
moved_if t id b v object order k false apart has = has

-- it goes on to wait for another object
holds_moved : (t id : ℕ) (b : Base) (v from object : ℕ) (order : Order) → waits_for b from v ≡ true → (from ≡ mutex_object id → ⊥) → Holds t id b → Holds t id (move_wait b v object order)
holds_moved t id b v from object order waits apart has =
    let other : v ≡ t → ⊥ = waits_apart b t v from (waits_once b t (mutex_object id) from has apart) waits in
    entry_cases (Holds t id) (task_at b v) b _ has (λ k at. moved_if t id b v object order k (is_waiting_phase k.phase) other has)

-- a current priority changes
holds_refreshed : (t id : ℕ) (b : Base) (v priority : ℕ) → Holds t id b → Holds t id (set_current b v priority)
holds_refreshed t id b v priority has =
    entry_cases (Holds t id) (task_at b v) b _ has
    (λ k at. entry_each (λ u slot. waiting_in (mutex_object id) slot ≡ waits_for b (mutex_object id) u) b.tasks v (Some (record k { current = priority }))
    (ap (waiting_in (mutex_object id)) (entry_there b.tasks v k (Some (record k { current = priority })) at) ∙ ap (waiting_in (mutex_object id)) (sym at))
    (λ u apart. refl) t ∙ has)

-- ---- each kind of objects

-- the parts that a family's serving left, where there was one
abbrev SemHolds : ℕ → ℕ → Option SemFlagParts → Type 0
SemHolds t id served = IfServed (λ (left : SemFlagParts). Holds t id left.base) served

abbrev MailHolds : ℕ → ℕ → Option MailParts → Type 0
MailHolds t id served = IfServed (λ (left : MailParts). Holds t id left.base) served

abbrev PoolHolds : ℕ → ℕ → Option PoolParts → Type 0
PoolHolds t id served = IfServed (λ (left : PoolParts). Holds t id left.base) served

abbrev DevHolds : ℕ → ℕ → Option DevParts → Type 0
DevHolds t id served = IfServed (λ (left : DevParts). Holds t id left.base) served

-- semaphores and event flags

sem_of : (t id : ℕ) (b : Base) (s : SemFlags) (other : ℕ) (k : Semaphore) (picked : Option ℕ) → other ≤ 64 → 1 ≤ id → sem_served s k b other ≡ picked → Holds t id b →
    SemHolds t id (serve_sem_of b s other k picked)
sem_of t id b s other k None most least is has = tt
sem_of t id b s other k (Some v) most least is has =
    holds_released t id b v (sem_object other) _ (sem_served_waits b s other k v is) (λ e. omega (arith, e, most, least)) has

sem_in : (t id : ℕ) (b : Base) (s : SemFlags) (other : ℕ) (slot : Option Semaphore) → sem_at s other ≡ slot → length s.sems ≤ 65 → 1 ≤ id → Holds t id b → SemHolds t id (serve_sem_at b s other slot)
sem_in t id b s other None at few least has = tt
sem_in t id b s other (Some k) at few least has =
    let inside = entry_inside s.sems other k at in
    sem_of t id b s other k (sem_served s k b other) (omega (arith, inside, few)) least refl has

sem_holds : (t id : ℕ) (b : Base) (s : SemFlags) (other : ℕ) → length s.sems ≤ 65 → 1 ≤ id → Holds t id b → SemHolds t id (serve_sem b s other)
unfolding serve_sem
sem_holds t id b s other few least has = sem_in t id b s other (sem_at s other) refl few least has

flag_of : (t id : ℕ) (b : Base) (s : SemFlags) (other : ℕ) (k : EventFlag) (picked : Option ℕ) → other ≤ 64 → 1 ≤ id → flag_served s k b other ≡ picked → Holds t id b →
    SemHolds t id (serve_flag_of b s other k picked)
flag_of t id b s other k None most least is has = tt
flag_of t id b s other k (Some v) most least is has =
    holds_released t id b v (flag_object other) _ (flag_served_waits b s other k v is) (λ e. omega (arith, e, most, least)) has

flag_in : (t id : ℕ) (b : Base) (s : SemFlags) (other : ℕ) (slot : Option EventFlag) → flag_at s other ≡ slot → length s.flags ≤ 65 → 1 ≤ id → Holds t id b → SemHolds t id (serve_flag_at b s other slot)
flag_in t id b s other None at few least has = tt
flag_in t id b s other (Some k) at few least has =
    let inside = entry_inside s.flags other k at in
    flag_of t id b s other k (flag_served s k b other) (omega (arith, inside, few)) least refl has

flag_holds : (t id : ℕ) (b : Base) (s : SemFlags) (other : ℕ) → length s.flags ≤ 65 → 1 ≤ id → Holds t id b → SemHolds t id (serve_flag b s other)
unfolding serve_flag
flag_holds t id b s other few least has = flag_in t id b s other (flag_at s other) refl few least has

either_holds : (t id : ℕ) (here later : Option SemFlagParts) → SemHolds t id here → SemHolds t id later → SemHolds t id (or_else here later)
either_holds t id None later first second = second
either_holds t id (Some found) later first second = first

sem_flag_holds : (t id : ℕ) (b : Base) (s : SemFlags) → length s.sems ≤ 65 → length s.flags ≤ 65 → 1 ≤ id → Holds t id b → SemHolds t id (serve_sem_flag b s)
sem_flag_holds t id b s sems flags least has =
    subst (SemHolds t id) (sym (sem_flag_firsts b s))
    (either_holds t id _ _ (first_kept (λ (left : SemFlagParts). Holds t id left.base) (serve_sem b s) (taken_from 1 (drop 1 s.sems)) (λ other. sem_holds t id b s other sems least has))
    (first_kept (λ (left : SemFlagParts). Holds t id left.base) (serve_flag b s) (taken_from 1 (drop 1 s.flags)) (λ other. flag_holds t id b s other flags least has)))

-- mailboxes

box_by : (t id : ℕ) (p : MailParts) (other : ℕ) (k : Mailbox) (waiters : List ℕ) (messages : List Message) → other ≤ 64 → 1 ≤ id → box_waiters p.base k other ≡ waiters → Holds t id p.base →
    MailHolds t id (box_serves p other k waiters messages)
box_by t id p other k [] messages most least is has = tt
box_by t id p other k (v ∷ rest) [] most least is has = tt
box_by t id p other k (v ∷ rest) (first ∷ later) most least is has =
    holds_released t id p.base v (box_object other) _ (first_waits k.order p.base (box_object other) v rest is) (λ e. omega (arith, e, most, least)) has

box_in : (t id : ℕ) (p : MailParts) (other : ℕ) (slot : Option Mailbox) → box_at p.table other ≡ slot → length p.table.boxes ≤ 65 → 1 ≤ id → Holds t id p.base → MailHolds t id (serve_box_at p other slot)
box_in t id p other None at few least has = tt
box_in t id p other (Some k) at few least has =
    let inside = entry_inside p.table.boxes other k at in
    box_by t id p other k (box_waiters p.base k other) k.messages (omega (arith, inside, few)) least refl has

boxes_hold : (t id : ℕ) (p : MailParts) → length p.table.boxes ≤ 65 → 1 ≤ id → Holds t id p.base → MailHolds t id (serve_mailboxes p)
unfolding serve_mailboxes serve_box
boxes_hold t id p few least has =
    first_kept (λ (left : MailParts). Holds t id left.base) (serve_box p) (taken_from 1 (drop 1 p.table.boxes)) (λ other. box_in t id p other (box_at p.table other) refl few least has)

-- message buffers

stored_holds : (t id : ℕ) (p : MailParts) (other : ℕ) (k : MessageBuffer) (s : ℕ) (fits : Bool) → 1 ≤ other → id ≤ 64 → waits_for p.base (senders_object other) s ≡ true → Holds t id p.base →
    MailHolds t id (cond fits (Some (sender_ended (message_stored p other k (bytes_of p.table s)) s)) None)
stored_holds t id p other k s true one most waits has = holds_released t id p.base s (senders_object other) (plain (pos 0)) waits (λ e. omega (arith, e, one, most)) has
stored_holds t id p other k s false one most waits has = tt

buffer_by : (t id : ℕ) (p : MailParts) (other : ℕ) (k : MessageBuffer) (receiver sender : Option ℕ) (messages : List (List ℕ)) → 1 ≤ other → id ≤ 64 →
    first_of (receivers p.base other) ≡ receiver → first_of (senders p.base k other) ≡ sender → Holds t id p.base → MailHolds t id (buffer_serves p other k receiver sender messages)
buffer_by t id p other k (Some r) sender (oldest ∷ later) one most receives sends has =
    holds_released t id p.base r (receivers_object other) _ (first_of_waits Fifo p.base (receivers_object other) r receives) (λ e. omega (arith, e, most)) has
buffer_by t id p other k (Some r) (Some s) [] one most receives sends has =
    let result : Answer = plain (pos (length (bytes_of p.table s))) in
    let waits_in = first_of_waits Fifo p.base (receivers_object other) r receives in
    let waits_out = first_of_waits k.order p.base (senders_object other) s sends in
    holds_released t id (release p.base r result) s (senders_object other) (plain (pos 0)) (sender_waits p.base other r s result waits_in waits_out) (λ e. omega (arith, e, one, most))
    (holds_released t id p.base r (receivers_object other) result waits_in (λ e. omega (arith, e, most)) has)
buffer_by t id p other k (Some r) None [] one most receives sends has = tt
buffer_by t id p other k None (Some s) messages one most receives sends has =
    stored_holds t id p other k s (has_space k (bytes_of p.table s)) one most (first_of_waits k.order p.base (senders_object other) s sends) has
buffer_by t id p other k None None messages one most receives sends has = tt

buffer_in : (t id : ℕ) (p : MailParts) (other : ℕ) (slot : Option MessageBuffer) → 1 ≤ other → id ≤ 64 → Holds t id p.base → MailHolds t id (serve_buffer_at p other slot)
buffer_in t id p other None one most has = tt
buffer_in t id p other (Some k) one most has = buffer_by t id p other k (first_of (receivers p.base other)) (first_of (senders p.base k other)) k.messages one most refl refl has

from_one : {A B : Type 0} → (P : A → Type 0) (serve : ℕ → Option A) (slots : List (Option B)) (found : Option A) → first_serving serve (taken_from 1 slots) ≡ found →
    ((other : ℕ) → 1 ≤ other → IfServed P (serve other)) → IfServed P found
from_one P serve slots None is each = tt
from_one P serve slots (Some q) is each =
    let from = first_from serve q slots is in
    subst (IfServed P) from.at (each from.id from.least)

buffers_hold : (t id : ℕ) (p : MailParts) → id ≤ 64 → Holds t id p.base → MailHolds t id (serve_buffers p)
unfolding serve_buffers serve_buffer
buffers_hold t id p most has =
    from_one (λ (left : MailParts). Holds t id left.base) (serve_buffer p) (drop 1 p.table.buffers) (serve_buffers p) refl (λ other one. buffer_in t id p other (buffer_at p.table other) one most has)

-- pools

fixed_by : (t id : ℕ) (p : PoolParts) (other : ℕ) (k : FixedPool) (waiters : List ℕ) (number : ℕ) → id ≤ 64 → fixed_waiters p.base k other ≡ waiters → Holds t id p.base →
    PoolHolds t id (fixed_serves p other k waiters number)
fixed_by t id p other k [] number most is has = tt
fixed_by t id p other k (v ∷ rest) zero most is has = tt
fixed_by t id p other k (v ∷ rest) (suc before) most is has =
    holds_released t id p.base v (fixed_object other) _ (first_waits k.order p.base (fixed_object other) v rest is) (λ e. omega (arith, e, most)) has

fixed_in : (t id : ℕ) (p : PoolParts) (other : ℕ) (slot : Option FixedPool) → id ≤ 64 → Holds t id p.base → PoolHolds t id (serve_fixed_at p other slot)
fixed_in t id p other None most has = tt
fixed_in t id p other (Some k) most has = fixed_by t id p other k (fixed_waiters p.base k other) (free_block k) most refl has

fixed_hold : (t id : ℕ) (p : PoolParts) → id ≤ 64 → Holds t id p.base → PoolHolds t id (serve_fixed_pools p)
unfolding serve_fixed_pools serve_fixed
fixed_hold t id p most has =
    first_kept (λ (left : PoolParts). Holds t id left.base) (serve_fixed p) (taken_from 1 (drop 1 p.table.fixed)) (λ other. fixed_in t id p other (fixed_at p.table other) most has)

given_by : (t id : ℕ) (p : PoolParts) (other : ℕ) (k : VariablePool) (v : ℕ) (place : Option ℕ) → id ≤ 64 → waits_for p.base (variable_object other) v ≡ true → Holds t id p.base →
    PoolHolds t id (block_given p other k v place)
given_by t id p other k v None most waits has = tt
given_by t id p other k v (Some offset) most waits has = holds_released t id p.base v (variable_object other) _ waits (λ e. omega (arith, e, most)) has

variable_by : (t id : ℕ) (p : PoolParts) (other : ℕ) (k : VariablePool) (waiters : List ℕ) → id ≤ 64 → variable_waiters p.base k other ≡ waiters → Holds t id p.base →
    PoolHolds t id (variable_serves p other k waiters)
variable_by t id p other k [] most is has = tt
variable_by t id p other k (v ∷ rest) most is has =
    given_by t id p other k v (place_in k (size_of p.table v)) most (first_waits k.order p.base (variable_object other) v rest is) has

variable_in : (t id : ℕ) (p : PoolParts) (other : ℕ) (slot : Option VariablePool) → id ≤ 64 → Holds t id p.base → PoolHolds t id (serve_variable_at p other slot)
variable_in t id p other None most has = tt
variable_in t id p other (Some k) most has = variable_by t id p other k (variable_waiters p.base k other) most refl has

variable_hold : (t id : ℕ) (p : PoolParts) → id ≤ 64 → Holds t id p.base → PoolHolds t id (serve_variable_pools p)
unfolding serve_variable_pools serve_variable
variable_hold t id p most has =
    first_kept (λ (left : PoolParts). Holds t id left.base) (serve_variable p) (taken_from 1 (drop 1 p.table.variable)) (λ other. variable_in t id p other (variable_at p.table other) most has)

-- devices: the acceptance of a request, its ending, a close and a suspension

after_holds : (t id : ℕ) (p q : DevParts) (d v dd request serial : ℕ) (stays : Bool) → id ≤ 64 → q.base ≡ p.base → waits_for p.base (acceptance_object d) v ≡ true → Holds t id p.base →
    Holds t id (after_acceptance q v dd request serial stays).base
after_holds t id p q d v dd request serial true most same waits has =
    ap (λ base. waits_for (move_wait base v (ending_object dd) Fifo) (mutex_object id) t) same
    ∙ holds_moved t id p.base v (acceptance_object d) (ending_object dd) Fifo waits (λ e. omega (arith, e, most)) has
after_holds t id p q d v dd request serial false most same waits has =
    ap (λ base. waits_for (release base v (plain (pos request))) (mutex_object id) t) same
    ∙ holds_released t id p.base v (acceptance_object d) (plain (pos request)) waits (λ e. omega (arith, e, most)) has

admitted_holds : (t id : ℕ) (p : DevParts) (d v : ℕ) (transfer : Transfer) (stays : Bool) (request : ℕ) → id ≤ 64 → waits_for p.base (acceptance_object d) v ≡ true → Holds t id p.base →
    Holds t id (admitted p d v transfer stays request).base
admitted_holds t id p d v transfer stays zero most waits has = holds_released t id p.base v (acceptance_object d) (plain (code_of er.Limit)) waits (λ e. omega (arith, e, most)) has
admitted_holds t id p d v transfer stays (suc request) most waits has =
    after_holds t id p (accept p d (suc request) transfer) d v transfer.descriptor (suc request) p.table.serial stays most (accept_leaves p d (suc request) transfer).base waits has

wish_holds : (t id : ℕ) (p : DevParts) (d v : ℕ) (asked : Wish) → id ≤ 64 → waits_for p.base (acceptance_object d) v ≡ true → Holds t id p.base → DevHolds t id (admitted_wish p d v asked)
wish_holds t id p d v (wish.Acceptance transfer stays) most waits has = admitted_holds t id p d v transfer stays (free_request p.table) most waits has
wish_holds t id p d v wish.Nothing most waits has = tt
wish_holds t id p d v (wish.Ending request serial own) most waits has = tt
wish_holds t id p d v wish.AnyEnding most waits has = tt

place_holds : (t id : ℕ) (p : DevParts) (d v : ℕ) (place : Bool) → id ≤ 64 → waits_for p.base (acceptance_object d) v ≡ true → Holds t id p.base → DevHolds t id (admitted_if place p d v)
place_holds t id p d v true most waits has = wish_holds t id p d v (wish_of p.table v) most waits has
place_holds t id p d v false most waits has = tt

acceptance_holds : (t id : ℕ) (p : DevParts) (d : ℕ) (waiters : List ℕ) → id ≤ 64 → fifo_queue p.base (acceptance_object d) ≡ waiters → Holds t id p.base → DevHolds t id (acceptance_by p d waiters)
acceptance_holds t id p d [] most is has = tt
acceptance_holds t id p d (v ∷ rest) most is has = place_holds t id p d v (has_place p.table d) most (first_waits Fifo p.base (acceptance_object d) v rest is) has

acceptances_hold : (t id : ℕ) (p : DevParts) → id ≤ 64 → Holds t id p.base → DevHolds t id (serve_acceptances p)
unfolding serve_acceptances serve_acceptance
acceptances_hold t id p most has =
    first_kept (λ (left : DevParts). Holds t id left.base) (serve_acceptance p) (device_ids p.table) (λ d. acceptance_holds t id p d (fifo_queue p.base (acceptance_object d)) most refl has)

claimed_holds : (t id : ℕ) (p : DevParts) (dd v : ℕ) (found : Option ℕ) → id ≤ 64 → waits_for p.base (ending_object dd) v ≡ true → Holds t id p.base → DevHolds t id (ending_claimed p v found)
claimed_holds t id p dd v None most waits has = tt
claimed_holds t id p dd v (Some request) most waits has = holds_released t id p.base v (ending_object dd) _ waits (λ e. omega (arith, e, most)) has

ending_holds : (t id : ℕ) (p : DevParts) (dd : ℕ) (found : Option ℕ) → id ≤ 64 → find (λ v. is_some (picked p.table dd (wish_of p.table v))) (fifo_queue p.base (ending_object dd)) ≡ found →
    Holds t id p.base → DevHolds t id (ending_of_first p dd found)
ending_holds t id p dd None most is has = tt
ending_holds t id p dd (Some v) most is has =
    claimed_holds t id p dd v (picked p.table dd (wish_of p.table v)) most (found_waits Fifo (λ v. is_some (picked p.table dd (wish_of p.table v))) p.base (ending_object dd) v is) has

endings_hold : (t id : ℕ) (p : DevParts) → id ≤ 64 → Holds t id p.base → DevHolds t id (serve_endings p)
unfolding serve_endings serve_ending
endings_hold t id p most has = first_kept (λ (left : DevParts). Holds t id left.base) (serve_ending p) (descriptors p.table) (λ dd. ending_holds t id p dd _ most refl has)

closed_holds : (t id : ℕ) (p : DevParts) (dd v : ℕ) (busy : Bool) → id ≤ 64 → waits_for p.base (close_object dd) v ≡ true → Holds t id p.base → DevHolds t id (closed_unless busy p dd v)
closed_holds t id p dd v true most waits has = tt
closed_holds t id p dd v false most waits has = holds_released t id p.base v (close_object dd) (plain (pos 0)) waits (λ e. omega (arith, e, most)) has

close_holds : (t id : ℕ) (p : DevParts) (dd : ℕ) (waiters : List ℕ) → id ≤ 64 → fifo_queue p.base (close_object dd) ≡ waiters → Holds t id p.base → DevHolds t id (close_by p dd waiters)
close_holds t id p dd [] most is has = tt
close_holds t id p dd (v ∷ rest) most is has = closed_holds t id p dd v (is_with_driver p.table dd) most (first_waits Fifo p.base (close_object dd) v rest is) has

closes_hold : (t id : ℕ) (p : DevParts) → id ≤ 64 → Holds t id p.base → DevHolds t id (serve_closes p)
unfolding serve_closes serve_close
closes_hold t id p most has =
    first_kept (λ (left : DevParts). Holds t id left.base) (serve_close p) (descriptors p.table) (λ dd. close_holds t id p dd (fifo_queue p.base (close_object dd)) most refl has)

fits_holds : (t id : ℕ) (p : MailParts) (other : ℕ) (k : MessageBuffer) (bytes : List ℕ) (fits : Bool) → Holds t id p.base → MailHolds t id (cond fits (Some (message_stored p other k bytes)) None)
fits_holds t id p other k bytes true has = has
fits_holds t id p other k bytes false has = tt

at_once_holds : (t id : ℕ) (p : MailParts) (other : ℕ) (k : MessageBuffer) (first : Bool) (receiver : Option ℕ) (messages : List (List ℕ)) (bytes : List ℕ) → id ≤ 64 →
    first_of (receivers p.base other) ≡ receiver → Holds t id p.base → MailHolds t id (sent_at_once p other k first receiver messages bytes)
at_once_holds t id p other k false receiver messages bytes most is has = tt
at_once_holds t id p other k true (Some r) (oldest ∷ later) bytes most is has = tt
at_once_holds t id p other k true (Some r) [] bytes most is has =
    holds_released t id p.base r (receivers_object other) _ (first_of_waits Fifo p.base (receivers_object other) r is) (λ e. omega (arith, e, most)) has
at_once_holds t id p other k true None messages bytes most is has = fits_holds t id p other k bytes (has_space k bytes) has

takes_holds : (t id : ℕ) (takes : Bool) (sent : Option MailParts) → MailHolds t id sent → MailHolds t id (cond takes sent None)
takes_holds t id true sent has = has
takes_holds t id false sent has = tt

posted_holds : (t id : ℕ) (p : MailParts) (other : ℕ) (bytes : List ℕ) (slot : Option MessageBuffer) → id ≤ 64 → Holds t id p.base → MailHolds t id (posted p other bytes slot)
posted_holds t id p other bytes None most has = tt
posted_holds t id p other bytes (Some k) most has =
    takes_holds t id (takes_length (length bytes) k) _
    (at_once_holds t id p other k (none_waits (senders p.base k other)) (first_of (receivers p.base other)) k.messages bytes most refl has)

after_post_holds : (t id : ℕ) (p : DevParts) (sent : Option MailParts) → MailHolds t id sent → Holds t id p.base → Holds t id (after_post p sent).base
after_post_holds t id p None sent has = has
after_post_holds t id p (Some left) sent has = sent

event_holds : (t id type : ℕ) (p : DevParts) (d : ℕ) → id ≤ 64 → Holds t id p.base → Holds t id (event_sent type p d).base
unfolding post
event_holds t id type p d most has =
    after_post_holds t id p (post (mails_of p) (buffer_of p.table d) (event_bytes type d))
    (posted_holds t id (mails_of p) (buffer_of p.table d) (event_bytes type d) (buffer_at p.mails (buffer_of p.table d)) most has) has

each_holds : (t id type : ℕ) (ids : List ℕ) (p : DevParts) → id ≤ 64 → Holds t id p.base → Holds t id (fold (event_sent type) p ids).base
each_holds t id type [] p most has = has
each_holds t id type (d ∷ ids) p most has = each_holds t id type ids (event_sent type p d) most (event_holds t id type p d most has)

events_hold : (t id : ℕ) (p : DevParts) → id ≤ 64 → Holds t id p.base → Holds t id (events_sent p).base
unfolding events_sent
events_hold t id p most has =
    each_holds t id 2 (device_ids p.table) (fold (event_sent 1) p (reverse (device_ids p.table))) most (each_holds t id 1 (reverse (device_ids p.table)) p most has)

suspended_holds : (t id : ℕ) (p : DevParts) (v : ℕ) (busy : Bool) → id ≤ 64 → waits_for p.base suspension_object v ≡ true → Holds t id p.base → DevHolds t id (suspended_unless busy p v)
suspended_holds t id p v true most waits has = tt
suspended_holds t id p v false most waits has =
    events_hold t id (record p { base = release p.base v (plain (pos p.table.off)) }) most
    (holds_released t id p.base v suspension_object (plain (pos p.table.off)) waits (λ e. omega (arith, e, most)) has)

suspension_holds : (t id : ℕ) (p : DevParts) (waiters : List ℕ) → id ≤ 64 → fifo_queue p.base suspension_object ≡ waiters → Holds t id p.base → DevHolds t id (suspension_by p waiters)
suspension_holds t id p [] most is has = tt
suspension_holds t id p (v ∷ rest) most is has = suspended_holds t id p v (any_given p.table) most (first_waits Fifo p.base suspension_object v rest is) has

suspensions_hold : (t id : ℕ) (p : DevParts) → id ≤ 64 → Holds t id p.base → DevHolds t id (serve_suspension p)
unfolding serve_suspension
suspensions_hold t id p most has = suspension_holds t id p (fifo_queue p.base suspension_object) most refl has

-- ---- mutexes

-- the mutex is owned
abbrev IsOwned : ℕ → Mutexes → Type 0
IsOwned id m = owner_of m id ≡ 0 → ⊥

record MutexHolds (t id : ℕ) (left : MutexParts) : Type 0 where
  waits : Holds t id left.base
  owned : IsOwned id left.table

waiter_holds : (t id : ℕ) (b : Base) (m : Mutexes) (other : ℕ) (k : Mutex) (waiters : List ℕ) → mutex_waiters b k other ≡ waiters → (id ≡ other → ⊥) → IsOwned id m → Holds t id b →
    IfServed (MutexHolds t id) (serve_mutex_of b m other k waiters)
waiter_holds t id b m other k [] is apart owned has = tt
waiter_holds t id b m other k (v ∷ rest) is apart owned has = record {
  waits = holds_released t id b v (mutex_object other) _ (first_waits k.order b (mutex_object other) v rest is) (λ e. apart (omega (arith, e))) has;
  owned = λ none. owned (ap owner_in (sym (entry_other m.table other id (Some (record k { owner = v })) apart)) ∙ none);
}

free_holds : (t id : ℕ) (b : Base) (m : Mutexes) (other : ℕ) (k : Mutex) (free : Bool) → (k.owner == 0) ≡ free → mutex_at m other ≡ Some k → IsOwned id m → Holds t id b →
    IfServed (MutexHolds t id) (cond free (serve_mutex_of b m other k (mutex_waiters b k other)) None)
free_holds t id b m other k true is at owned has =
    let none : k.owner ≡ 0 = grind (arith, nat_tests, is) in
    waiter_holds t id b m other k (mutex_waiters b k other) refl (λ e. owned (ap (owner_of m) e ∙ ap owner_in at ∙ none)) owned has
free_holds t id b m other k false is at owned has = tt

mutex_in : (t id : ℕ) (b : Base) (m : Mutexes) (other : ℕ) (slot : Option Mutex) → mutex_at m other ≡ slot → IsOwned id m → Holds t id b → IfServed (MutexHolds t id) (serve_mutex_at b m other slot)
mutex_in t id b m other None at owned has = tt
mutex_in t id b m other (Some k) at owned has = free_holds t id b m other k (k.owner == 0) refl at owned has

mutexes_hold : (t id : ℕ) (b : Base) (m : Mutexes) → IsOwned id m → Holds t id b → IfServed (MutexHolds t id) (serve_mutexes b m)
unfolding serve_mutexes serve_mutex
mutexes_hold t id b m owned has = first_kept (MutexHolds t id) (serve_mutex b m) (taken_from 1 (drop 1 m.table)) (λ other. mutex_in t id b m other (mutex_at m other) refl owned has)

-- ---- any serving

record PartsHold (t id : ℕ) (p : Parts) : Type 0 where
  waits : Holds t id p.base
  owned : IsOwned id p.objects.mutexes

mapped_hold : {A : Type 0} → (t id : ℕ) (Q : A → Type 0) (put : A → Parts) (served : Option A) → IfServed Q served → ((left : A) → Q left → PartsHold t id (put left)) →
    IfServed (PartsHold t id) (option_map put served)
mapped_hold t id Q put None kept all = tt
mapped_hold t id Q put (Some left) kept all = all left kept

two_hold : (t id : ℕ) (here next : Option Parts) → IfServed (PartsHold t id) here → IfServed (PartsHold t id) next →
    IfServed (PartsHold t id) (elim here as (λ _. Option Parts) [ Some served ↦ Some served | None ↦ next ])
two_hold t id (Some served) next first later = first
two_hold t id None next first later = later

served_hold : (t id : ℕ) (p : Parts) → AllShort p → 1 ≤ id → id ≤ 64 → PartsHold t id p → IfServed (PartsHold t id) (serve_object p)
unfolding serve_object first_kind
served_hold t id p short least most has =
    two_hold t id _ _ (mapped_hold t id (λ (l : SemFlagParts). Holds t id l.base) (with_sem_flags p) (serve_sem_flag p.base p.objects.sem_flags)
    (sem_flag_holds t id p.base p.objects.sem_flags short.sem_flags.sems short.sem_flags.flags least has.waits) (λ l waits. record { waits = waits; owned = has.owned }))
    (two_hold t id _ _ (mapped_hold t id (λ (l : MailParts). Holds t id l.base) (with_mails p) (serve_mailboxes (mail_parts p)) (boxes_hold t id (mail_parts p) short.mails.boxes least has.waits)
    (λ l waits. record { waits = waits; owned = has.owned }))
    (two_hold t id _ _ (mapped_hold t id (MutexHolds t id) (with_mutexes p) (serve_mutexes p.base p.objects.mutexes) (mutexes_hold t id p.base p.objects.mutexes has.owned has.waits)
    (λ l both. record { waits = both.waits; owned = both.owned }))
    (two_hold t id _ _ (mapped_hold t id (λ (l : MailParts). Holds t id l.base) (with_mails p) (serve_buffers (mail_parts p)) (buffers_hold t id (mail_parts p) most has.waits)
    (λ l waits. record { waits = waits; owned = has.owned }))
    (two_hold t id _ _ (mapped_hold t id (λ (l : PoolParts). Holds t id l.base) (with_pools p) (serve_fixed_pools (pool_parts p)) (fixed_hold t id (pool_parts p) most has.waits)
    (λ l waits. record { waits = waits; owned = has.owned }))
    (two_hold t id _ _ (mapped_hold t id (λ (l : PoolParts). Holds t id l.base) (with_pools p) (serve_variable_pools (pool_parts p)) (variable_hold t id (pool_parts p) most has.waits)
    (λ l waits. record { waits = waits; owned = has.owned }))
    (two_hold t id _ _ (mapped_hold t id (λ (l : DevParts). Holds t id l.base) (with_devices p) (serve_acceptances (dev_parts p)) (acceptances_hold t id (dev_parts p) most has.waits)
    (λ l waits. record { waits = waits; owned = has.owned }))
    (two_hold t id _ _ (mapped_hold t id (λ (l : DevParts). Holds t id l.base) (with_devices p) (serve_endings (dev_parts p)) (endings_hold t id (dev_parts p) most has.waits)
    (λ l waits. record { waits = waits; owned = has.owned }))
    (two_hold t id _ _ (mapped_hold t id (λ (l : DevParts). Holds t id l.base) (with_devices p) (serve_closes (dev_parts p)) (closes_hold t id (dev_parts p) most has.waits)
    (λ l waits. record { waits = waits; owned = has.owned }))
    (two_hold t id _ None (mapped_hold t id (λ (l : DevParts). Holds t id l.base) (with_devices p) (serve_suspension (dev_parts p)) (suspensions_hold t id (dev_parts p) most has.waits)
    (λ l waits. record { waits = waits; owned = has.owned }))
    tt)))))))))

-- ---- one serving

holds_there : (t id : ℕ) (q : Parts) (found : Option Parts) → found ≡ Some q → IfServed (PartsHold t id) found → PartsHold t id q
holds_there t id q None is kept = absurd (cc is)
holds_there t id q (Some r) is kept = let same : r ≡ q = cc is in subst (PartsHold t id) same kept

-- the task waits on through a serving
pub served_waits : (t id : ℕ) (p q : Parts) → AllShort p → 1 ≤ id → id ≤ 64 → waits_for p.base (mutex_object id) t ≡ true → (owner_of p.objects.mutexes id ≡ 0 → ⊥) → serve_object p ≡ Some q →
    waits_for q.base (mutex_object id) t ≡ true
served_waits t id p q short least most waits owned is = (holds_there t id q (serve_object p) is (served_hold t id p short least most (record { waits = waits; owned = owned }))).waits

-- ---- all settles

record StillWaits (t id : ℕ) (p : Parts) : Type 0 where
  holds : PartsHold t id p
  short : AllShort p

handed_waits : (t id : ℕ) (mode : Mode) (p : Parts) → StillWaits t id p → StillWaits t id (handed mode p)
handed_waits t id modes.Sync p has = has
handed_waits t id modes.Free p has = record {
  holds = record { waits = has.holds.waits; owned = has.holds.owned };
  short = record { sem_flags = has.short.sem_flags; mutexes = has.short.mutexes; mails = has.short.mails; pools = has.short.pools };
}

-- the task waits on for the mutex
pub settled_waits : (t id : ℕ) (mode : Mode) (p : Parts) → FewDevices p → AllShort p → 1 ≤ id → id ≤ 64 → waits_for p.base (mutex_object id) t ≡ true → (owner_of p.objects.mutexes id ≡ 0 → ⊥) →
    waits_for (settle mode p).base (mutex_object id) t ≡ true
settled_waits t id mode p few short least most waits owned =
    (settle_keeps (StillWaits t id)
    (λ q u priority has. record {
      holds = record { waits = holds_refreshed t id q.base u priority has.holds.waits; owned = has.holds.owned };
      short = record { sem_flags = has.short.sem_flags; mutexes = has.short.mutexes; mails = has.short.mails; pools = has.short.pools };
    })
    (λ q r few is has. record {
      holds = holds_there t id r (serve_object q) is (served_hold t id q has.short least most has.holds);
      short = there r (serve_object q) is (served_short q has.short);
    })
    (handed_waits t id) mode p few (record { holds = record { waits = waits; owned = owned }; short = short })).holds.waits
