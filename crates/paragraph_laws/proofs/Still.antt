-- An object that could serve nobody can't, with its queue as it stood and the same in its table.
use Rattle.std.proofs.Common.{◌≡◌, ℕ, zero, suc, ◌≤◌, Bool, true, false, cond, length, List, [], ◌∷◌, Option, Some, None, refl, ◌∙◌, ap, sym}
use Rattle.std.specs.Prelude.{drop, slice_index}
use Rattle.std.specs.Bool.{◌==◌}
use Rattle.std.specs.List.{find, slice_index_or}
use Rattle.tk_types.specs.declared.task.Order.{Order}
use Rattle.tk_types.specs.declared.task.Order.TheVariants.{Fifo}
use Rattle.kernel_model.specs.declared.objects.Semaphore.{Semaphore}
use Rattle.kernel_model.specs.declared.objects.EventFlag.{EventFlag}
use Rattle.kernel_model.specs.Words.Orders.{entry, taken_from}
use Rattle.kernel_model.specs.Tasks.Base.{Base, fifo_queue, queue}
use Rattle.kernel_model.specs.SemFlags.Tables.{SemFlags, SemFlagParts, flag_object, is_fulfilled, is_there, sem_object, sem_pick, sem_at, flag_at, sem_served, flag_served, serve_sem, serve_sem_at, serve_sem_of, serve_flag, serve_flag_at, serve_flag_of, first_served, or_else, serve_sem_flag}
use Rattle.object_model.specs.declared.mails.Message.{Message}
use Rattle.object_model.specs.declared.mutexes.Mutex.{Mutex}
use Rattle.object_model.specs.Servings.{first_serving}
use Rattle.object_model.specs.Mutexes.Tables.{MutexParts, Mutexes, mutex_at, mutex_object, mutex_waiters, serve_mutex, serve_mutex_at, serve_mutex_of, serve_mutexes}
use Rattle.object_model.specs.Mails.Tables.{Mailbox, MessageBuffer, MailParts, box_at, box_object, buffer_at, senders_object, receivers_object, bytes_of}
use Rattle.object_model.specs.Mails.Boxes.{box_serves, box_waiters, serve_box, serve_box_at, serve_mailboxes}
use Rattle.object_model.specs.Mails.Buffers.{buffer_serves, first_of, has_space, receivers, senders, serve_buffer, serve_buffer_at, serve_buffers}
use Rattle.object_model.specs.Pools.Tables.{FixedPool, VariablePool, PoolParts, fixed_at, fixed_object, size_of, variable_at, variable_object}
use Rattle.object_model.specs.Pools.Fixed.{fixed_serves, fixed_waiters, free_block, serve_fixed, serve_fixed_at, serve_fixed_pools}
use Rattle.object_model.specs.Pools.Variable.{block_given, place_in, serve_variable, serve_variable_at, serve_variable_pools, variable_serves, variable_waiters}
use Rattle.device_model.specs.Devices.Tables.{wish_of}
use Rattle.device_model.specs.Devices.Handing.{any_given, suspension_object}
use Rattle.device_model.specs.Devices.Endings.{DevParts, close_object}
use Rattle.device_model.specs.Devices.Requests.{acceptance_object, ending_object, has_place, picked}
use Rattle.device_model.specs.Devices.Servings.{acceptance_by, close_by, closed_unless, ending_of_first, is_with_driver, serve_acceptance, serve_acceptances, serve_close, serve_closes, serve_ending, serve_endings, serve_suspension, suspended_unless, suspension_by}
use Rattle.std.specs.Option.{is_some, option_or}
use Rattle.machine_lemmas.proofs.HandingServes.{claimed_none, place_none}
use Rattle.paragraph_laws.proofs.Tables.{IsIn, none_still}

-- the queue of an object stands as it stood, by either order
abbrev pub SameQueue : Base → Base → ℕ → Type 0
SameQueue b c object = (order : Order) → queue order c object ≡ queue order b object

-- ---- semaphores and event flags

-- the first of two families' servings is that of any other
pub served_first : (serve : ℕ → Option SemFlagParts) (ids : List ℕ) → first_served serve ids ≡ first_serving serve ids
unfolding first_served first_serving
served_first serve [] = refl
served_first serve (id ∷ ids) = ap (or_else (serve id)) (served_first serve ids) ∙ else_or (serve id) (first_serving serve ids)
  where
    else_or : (here later : Option SemFlagParts) → or_else here later ≡ option_or here later
    else_or None later = refl
    else_or (Some found) later = refl

sem_of : (b c : Base) (s now : SemFlags) (id : ℕ) (k : Semaphore) (found : Option ℕ) → serve_sem_of b s id k found ≡ None → serve_sem_of c now id k found ≡ None
sem_of b c s now id k None is = refl
sem_of b c s now id k (Some t) is = absurd (cc is)

sem_in : (b c : Base) (s now : SemFlags) (id : ℕ) (slot : Option Semaphore) → now.counts ≡ s.counts → SameQueue b c (sem_object id) → serve_sem_at b s id slot ≡ None →
    serve_sem_at c now id slot ≡ None
sem_in b c s now id None counts queues is = refl
sem_in b c s now id (Some k) counts queues is =
    ap (λ waiters. serve_sem_of c now id k (sem_pick k.any_place (is_there now k) waiters)) (queues k.order)
    ∙ ap (λ (all : List ℕ). serve_sem_of c now id k (sem_pick k.any_place (is_there (record s { counts = all }) k) (queue k.order b (sem_object id)))) counts
    ∙ sem_of b c s now id k (sem_served s k b id) is

-- the semaphores serve nobody still
pub sems_still : (b c : Base) (s now : SemFlags) → now.sems ≡ s.sems → now.counts ≡ s.counts → ((id : ℕ) → IsIn s.sems id → SameQueue b c (sem_object id)) →
    first_serving (serve_sem b s) (taken_from 1 (drop 1 s.sems)) ≡ None → first_serving (serve_sem c now) (taken_from 1 (drop 1 now.sems)) ≡ None
unfolding serve_sem
sems_still b c s now same counts queues none =
    none_still (serve_sem b s) (serve_sem c now) s.sems now.sems (ap length same) (ap (λ table. taken_from 1 (drop 1 table)) same)
    (λ id in_it is. ap (λ table. serve_sem_at c now id (entry table id)) same ∙ sem_in b c s now id (sem_at s id) counts (queues id in_it) is) none

flag_of : (b c : Base) (s now : SemFlags) (id : ℕ) (k : EventFlag) (found : Option ℕ) → serve_flag_of b s id k found ≡ None → serve_flag_of c now id k found ≡ None
flag_of b c s now id k None is = refl
flag_of b c s now id k (Some t) is = absurd (cc is)

flag_in : (b c : Base) (s now : SemFlags) (id : ℕ) (slot : Option EventFlag) → now.wishes ≡ s.wishes → SameQueue b c (flag_object id) → serve_flag_at b s id slot ≡ None →
    serve_flag_at c now id slot ≡ None
flag_in b c s now id None wishes queues is = refl
flag_in b c s now id (Some k) wishes queues is =
    ap (λ waiters. serve_flag_of c now id k (find (is_fulfilled now k) waiters)) (queues k.order)
    ∙ ap (λ all. serve_flag_of c now id k (find (is_fulfilled (record s { wishes = all }) k) (queue k.order b (flag_object id)))) wishes
    ∙ flag_of b c s now id k (flag_served s k b id) is

-- nor do the event flags
pub flags_still : (b c : Base) (s now : SemFlags) → now.flags ≡ s.flags → now.wishes ≡ s.wishes → ((id : ℕ) → IsIn s.flags id → SameQueue b c (flag_object id)) →
    first_serving (serve_flag b s) (taken_from 1 (drop 1 s.flags)) ≡ None → first_serving (serve_flag c now) (taken_from 1 (drop 1 now.flags)) ≡ None
unfolding serve_flag
flags_still b c s now same wishes queues none =
    none_still (serve_flag b s) (serve_flag c now) s.flags now.flags (ap length same) (ap (λ table. taken_from 1 (drop 1 table)) same)
    (λ id in_it is. ap (λ table. serve_flag_at c now id (entry table id)) same ∙ flag_in b c s now id (flag_at s id) wishes (queues id in_it) is) none

none_of_two : (here later : Option SemFlagParts) → or_else here later ≡ None → (here ≡ None) × (later ≡ None)
none_of_two None later is = (refl, is)
none_of_two (Some found) later is = absurd (cc is)

-- where neither the semaphores nor the event flags serve anyone, each of both don't
pub both_none : (b : Base) (s : SemFlags) → serve_sem_flag b s ≡ None →
    (first_serving (serve_sem b s) (taken_from 1 (drop 1 s.sems)) ≡ None) × (first_serving (serve_flag b s) (taken_from 1 (drop 1 s.flags)) ≡ None)
unfolding serve_sem_flag
both_none b s is =
    let both = none_of_two (first_served (serve_sem b s) (taken_from 1 (drop 1 s.sems))) (first_served (serve_flag b s) (taken_from 1 (drop 1 s.flags))) is in
    (sym (served_first (serve_sem b s) (taken_from 1 (drop 1 s.sems))) ∙ both.0, sym (served_first (serve_flag b s) (taken_from 1 (drop 1 s.flags))) ∙ both.1)

-- what semaphores and flags serve first, by the first of each
pub sem_flag_firsts : (b : Base) (s : SemFlags) →
    serve_sem_flag b s ≡ or_else (first_serving (serve_sem b s) (taken_from 1 (drop 1 s.sems))) (first_serving (serve_flag b s) (taken_from 1 (drop 1 s.flags)))
unfolding serve_sem_flag
sem_flag_firsts b s =
    ap (λ here. or_else here (first_served (serve_flag b s) (taken_from 1 (drop 1 s.flags)))) (served_first (serve_sem b s) (taken_from 1 (drop 1 s.sems)))
    ∙ ap (or_else (first_serving (serve_sem b s) (taken_from 1 (drop 1 s.sems)))) (served_first (serve_flag b s) (taken_from 1 (drop 1 s.flags)))

-- semaphores and event flags with the same tables and queues serve nobody still
pub sem_flags_still : (b c : Base) (s : SemFlags) → ((id : ℕ) → IsIn s.sems id → SameQueue b c (sem_object id)) → ((id : ℕ) → IsIn s.flags id → SameQueue b c (flag_object id)) →
    serve_sem_flag b s ≡ None → serve_sem_flag c s ≡ None
sem_flags_still b c s sems flags is =
    let both = both_none b s is in
    sem_flag_firsts c s
    ∙ ap (λ here. or_else here (first_serving (serve_flag c s) (taken_from 1 (drop 1 s.flags)))) (sems_still b c s s refl refl sems both.0)
    ∙ flags_still b c s s refl refl flags both.1

-- ---- mutexes

mutex_of : (b c : Base) (m : Mutexes) (id : ℕ) (k : Mutex) (waiters : List ℕ) → serve_mutex_of b m id k waiters ≡ None → serve_mutex_of c m id k waiters ≡ None
mutex_of b c m id k [] is = refl
mutex_of b c m id k (t ∷ rest) is = absurd (cc is)

free_if : (free : Bool) (one other : Option MutexParts) → (one ≡ None → other ≡ None) → cond free one None ≡ None → cond free other None ≡ None
free_if true one other by is = by is
free_if false one other by is = refl

mutex_in : (b c : Base) (m : Mutexes) (id : ℕ) (slot : Option Mutex) → SameQueue b c (mutex_object id) → serve_mutex_at b m id slot ≡ None → serve_mutex_at c m id slot ≡ None
mutex_in b c m id None queues is = refl
mutex_in b c m id (Some k) queues is =
    ap (λ waiters. cond (k.owner == 0) (serve_mutex_of c m id k waiters) None) (queues k.order)
    ∙ free_if (k.owner == 0) (serve_mutex_of b m id k (mutex_waiters b k id)) (serve_mutex_of c m id k (mutex_waiters b k id)) (mutex_of b c m id k (mutex_waiters b k id)) is

-- a mutex serves nobody still
pub mutex_still : (b c : Base) (m : Mutexes) (id : ℕ) → SameQueue b c (mutex_object id) → serve_mutex b m id ≡ None → serve_mutex c m id ≡ None
unfolding serve_mutex
mutex_still b c m id queues is = mutex_in b c m id (mutex_at m id) queues is

-- so do all mutexes
pub mutexes_still : (b c : Base) (m : Mutexes) → ((id : ℕ) → IsIn m.table id → SameQueue b c (mutex_object id)) → serve_mutexes b m ≡ None → serve_mutexes c m ≡ None
unfolding serve_mutexes
mutexes_still b c m queues is = none_still (serve_mutex b m) (serve_mutex c m) m.table m.table refl refl (λ id in_it none. mutex_still b c m id (queues id in_it) none) is

-- ---- mailboxes

box_by : (p q : MailParts) (id : ℕ) (k : Mailbox) (waiters : List ℕ) (messages : List Message) → box_serves p id k waiters messages ≡ None →
    box_serves q id k waiters messages ≡ None
box_by p q id k [] messages is = refl
box_by p q id k (t ∷ waiters) [] is = refl
box_by p q id k (t ∷ waiters) (first ∷ rest) is = absurd (cc is)

box_in : (p q : MailParts) (id : ℕ) (slot : Option Mailbox) → SameQueue p.base q.base (box_object id) → serve_box_at p id slot ≡ None → serve_box_at q id slot ≡ None
box_in p q id None queues is = refl
box_in p q id (Some k) queues is = ap (λ waiters. box_serves q id k waiters k.messages) (queues k.order) ∙ box_by p q id k (box_waiters p.base k id) k.messages is

-- a mailbox serves nobody still
pub box_still : (p q : MailParts) (id : ℕ) → box_at q.table id ≡ box_at p.table id → SameQueue p.base q.base (box_object id) → serve_box p id ≡ None → serve_box q id ≡ None
unfolding serve_box
box_still p q id same queues is = ap (serve_box_at q id) same ∙ box_in p q id (box_at p.table id) queues is

-- so do all mailboxes
pub boxes_still : (p q : MailParts) → q.table.boxes ≡ p.table.boxes → ((id : ℕ) → IsIn p.table.boxes id → SameQueue p.base q.base (box_object id)) → serve_mailboxes p ≡ None →
    serve_mailboxes q ≡ None
unfolding serve_mailboxes
boxes_still p q same queues is =
    none_still (serve_box p) (serve_box q) p.table.boxes q.table.boxes (ap length same) (ap (λ table. taken_from 1 (drop 1 table)) same)
    (λ id in_it none. box_still p q id (ap (λ table. entry table id) same) (queues id in_it) none) is

-- ---- message buffers

space_if : (fits now : Bool) (one other : MailParts) → now ≡ fits → cond fits (Some one) None ≡ None → cond now (Some other) None ≡ None
space_if true now one other same is = absurd (cc is)
space_if false true one other same is = absurd (cc same)
space_if false false one other same is = refl

buffer_by : (p q : MailParts) (id : ℕ) (k : MessageBuffer) (receiver sender : Option ℕ) (messages : List (List ℕ)) → q.table.sending ≡ p.table.sending →
    buffer_serves p id k receiver sender messages ≡ None → buffer_serves q id k receiver sender messages ≡ None
buffer_by p q id k (Some receiver) sender (oldest ∷ later) sending is = absurd (cc is)
buffer_by p q id k (Some receiver) (Some sender) [] sending is = absurd (cc is)
buffer_by p q id k (Some receiver) None [] sending is = refl
buffer_by p q id k None (Some sender) messages sending is =
    space_if (has_space k (bytes_of p.table sender)) (has_space k (bytes_of q.table sender)) _ _
    (ap (λ (all : List (List ℕ)). has_space k (slice_index_or all sender [])) sending) is
buffer_by p q id k None None messages sending is = refl

buffer_in : (p q : MailParts) (id : ℕ) (slot : Option MessageBuffer) → q.table.sending ≡ p.table.sending → SameQueue p.base q.base (senders_object id) →
    SameQueue p.base q.base (receivers_object id) →
    serve_buffer_at p id slot ≡ None → serve_buffer_at q id slot ≡ None
buffer_in p q id None sending sends receives is = refl
buffer_in p q id (Some k) sending sends receives is =
    ap (λ waiters. buffer_serves q id k (first_of (receivers q.base id)) (first_of waiters) k.messages) (sends k.order)
    ∙ ap (λ waiters. buffer_serves q id k (first_of waiters) (first_of (senders p.base k id)) k.messages) (receives Fifo)
    ∙ buffer_by p q id k (first_of (receivers p.base id)) (first_of (senders p.base k id)) k.messages sending is

-- a message buffer serves nobody still
pub buffer_still : (p q : MailParts) (id : ℕ) → buffer_at q.table id ≡ buffer_at p.table id → q.table.sending ≡ p.table.sending → SameQueue p.base q.base (senders_object id) →
    SameQueue p.base q.base (receivers_object id) →
    serve_buffer p id ≡ None → serve_buffer q id ≡ None
unfolding serve_buffer
buffer_still p q id same sending sends receives is = ap (serve_buffer_at q id) same ∙ buffer_in p q id (buffer_at p.table id) sending sends receives is

-- so do all message buffers
pub buffers_still : (p q : MailParts) → q.table.buffers ≡ p.table.buffers → q.table.sending ≡ p.table.sending →
    ((id : ℕ) → IsIn p.table.buffers id → SameQueue p.base q.base (senders_object id)) →
    ((id : ℕ) → IsIn p.table.buffers id → SameQueue p.base q.base (receivers_object id)) → serve_buffers p ≡ None → serve_buffers q ≡ None
unfolding serve_buffers
buffers_still p q same sending sends receives is =
    none_still (serve_buffer p) (serve_buffer q) p.table.buffers q.table.buffers (ap length same) (ap (λ table. taken_from 1 (drop 1 table)) same)
    (λ id in_it none. buffer_still p q id (ap (λ table. entry table id) same) sending (sends id in_it) (receives id in_it) none) is

-- ---- pools

fixed_by : (p q : PoolParts) (id : ℕ) (k : FixedPool) (waiters : List ℕ) (number : ℕ) → fixed_serves p id k waiters number ≡ None → fixed_serves q id k waiters number ≡ None
fixed_by p q id k [] number is = refl
fixed_by p q id k (t ∷ waiters) zero is = refl
fixed_by p q id k (t ∷ waiters) (suc before) is = absurd (cc is)

fixed_in : (p q : PoolParts) (id : ℕ) (slot : Option FixedPool) → SameQueue p.base q.base (fixed_object id) → serve_fixed_at p id slot ≡ None → serve_fixed_at q id slot ≡ None
fixed_in p q id None queues is = refl
fixed_in p q id (Some k) queues is = ap (λ waiters. fixed_serves q id k waiters (free_block k)) (queues k.order) ∙ fixed_by p q id k (fixed_waiters p.base k id) (free_block k) is

-- a fixed pool serves nobody still
pub fixed_still : (p q : PoolParts) (id : ℕ) → fixed_at q.table id ≡ fixed_at p.table id → SameQueue p.base q.base (fixed_object id) → serve_fixed p id ≡ None →
    serve_fixed q id ≡ None
unfolding serve_fixed
fixed_still p q id same queues is = ap (serve_fixed_at q id) same ∙ fixed_in p q id (fixed_at p.table id) queues is

-- so do all fixed pools
pub fixed_pools_still : (p q : PoolParts) → q.table.fixed ≡ p.table.fixed → ((id : ℕ) → IsIn p.table.fixed id → SameQueue p.base q.base (fixed_object id)) →
    serve_fixed_pools p ≡ None → serve_fixed_pools q ≡ None
unfolding serve_fixed_pools
fixed_pools_still p q same queues is =
    none_still (serve_fixed p) (serve_fixed q) p.table.fixed q.table.fixed (ap length same) (ap (λ table. taken_from 1 (drop 1 table)) same)
    (λ id in_it none. fixed_still p q id (ap (λ table. entry table id) same) (queues id in_it) none) is

given_by : (p q : PoolParts) (id : ℕ) (k : VariablePool) (t : ℕ) (place : Option ℕ) → block_given p id k t place ≡ None → block_given q id k t place ≡ None
given_by p q id k t None is = refl
given_by p q id k t (Some offset) is = absurd (cc is)

variable_by : (p q : PoolParts) (id : ℕ) (k : VariablePool) (waiters : List ℕ) → q.table.sizes ≡ p.table.sizes → variable_serves p id k waiters ≡ None →
    variable_serves q id k waiters ≡ None
variable_by p q id k [] sizes is = refl
variable_by p q id k (t ∷ waiters) sizes is =
    ap (λ (all : List ℕ). block_given q id k t (place_in k (slice_index all t))) sizes ∙ given_by p q id k t (place_in k (size_of p.table t)) is

variable_in : (p q : PoolParts) (id : ℕ) (slot : Option VariablePool) → q.table.sizes ≡ p.table.sizes → SameQueue p.base q.base (variable_object id) →
    serve_variable_at p id slot ≡ None → serve_variable_at q id slot ≡ None
variable_in p q id None sizes queues is = refl
variable_in p q id (Some k) sizes queues is = ap (λ waiters. variable_serves q id k waiters) (queues k.order) ∙ variable_by p q id k (variable_waiters p.base k id) sizes is

-- a variable pool serves nobody still
pub variable_still : (p q : PoolParts) (id : ℕ) → variable_at q.table id ≡ variable_at p.table id → q.table.sizes ≡ p.table.sizes →
    SameQueue p.base q.base (variable_object id) → serve_variable p id ≡ None → serve_variable q id ≡ None
unfolding serve_variable
variable_still p q id same sizes queues is = ap (serve_variable_at q id) same ∙ variable_in p q id (variable_at p.table id) sizes queues is

-- so do all variable pools
pub variable_pools_still : (p q : PoolParts) → q.table.variable ≡ p.table.variable → q.table.sizes ≡ p.table.sizes →
    ((id : ℕ) → IsIn p.table.variable id → SameQueue p.base q.base (variable_object id)) → serve_variable_pools p ≡ None → serve_variable_pools q ≡ None
unfolding serve_variable_pools
variable_pools_still p q same sizes queues is =
    none_still (serve_variable p) (serve_variable q) p.table.variable q.table.variable (ap length same) (ap (λ table. taken_from 1 (drop 1 table)) same)
    (λ id in_it none. variable_still p q id (ap (λ table. entry table id) same) sizes (queues id in_it) none) is

-- ---- devices

-- the devices, with another base, other mails and another memory
abbrev pub devices_to : DevParts → MailParts → DevParts
devices_to p q = record p { base = q.base; mails = q.table; memory = q.memory }

acceptance_none : (p : DevParts) (q : MailParts) (d : ℕ) (waiters : List ℕ) → acceptance_by p d waiters ≡ None → acceptance_by (devices_to p q) d waiters ≡ None
acceptance_none p q d [] is = refl
acceptance_none p q d (t ∷ ts) is = place_none p (devices_to p q) (has_place p.table d) d t refl is

-- devices accept no request still
pub acceptances_still : (p : DevParts) (q : MailParts) → ((d : ℕ) → 1 ≤ d → SameQueue p.base q.base (acceptance_object d)) → serve_acceptances p ≡ None →
    serve_acceptances (devices_to p q) ≡ None
unfolding serve_acceptances serve_acceptance
acceptances_still p q queues is =
    none_still (serve_acceptance p) (serve_acceptance (devices_to p q)) p.table.links p.table.links refl refl
    (λ d in_it none. ap (acceptance_by (devices_to p q) d) (queues d in_it.0 Fifo) ∙ acceptance_none p q d (fifo_queue p.base (acceptance_object d)) none) is

ending_by : (p : DevParts) (q : MailParts) (dd : ℕ) (found : Option ℕ) → ending_of_first p dd found ≡ None → ending_of_first (devices_to p q) dd found ≡ None
ending_by p q dd None is = refl
ending_by p q dd (Some t) is = claimed_none p (devices_to p q) t (picked p.table dd (wish_of p.table t)) is

-- no wait ends with an ending still
pub endings_still : (p : DevParts) (q : MailParts) → ((dd : ℕ) → 1 ≤ dd → SameQueue p.base q.base (ending_object dd)) → serve_endings p ≡ None →
    serve_endings (devices_to p q) ≡ None
unfolding serve_endings serve_ending
endings_still p q queues is =
    none_still (serve_ending p) (serve_ending (devices_to p q)) p.table.opened p.table.opened refl refl
    (λ dd in_it none. ap (λ waiters. ending_of_first (devices_to p q) dd (find (λ t. is_some (picked p.table dd (wish_of p.table t))) waiters)) (queues dd in_it.0 Fifo) ∙ ending_by p q dd _ none) is

closed_by : (busy : Bool) (p : DevParts) (q : MailParts) (dd t : ℕ) → closed_unless busy p dd t ≡ None → closed_unless busy (devices_to p q) dd t ≡ None
closed_by true p q dd t is = refl
closed_by false p q dd t is = absurd (cc is)

close_none : (p : DevParts) (q : MailParts) (dd : ℕ) (waiters : List ℕ) → close_by p dd waiters ≡ None → close_by (devices_to p q) dd waiters ≡ None
close_none p q dd [] is = refl
close_none p q dd (t ∷ ts) is = closed_by (is_with_driver p.table dd) p q dd t is

-- no close ends still
pub closes_still : (p : DevParts) (q : MailParts) → ((dd : ℕ) → 1 ≤ dd → SameQueue p.base q.base (close_object dd)) → serve_closes p ≡ None →
    serve_closes (devices_to p q) ≡ None
unfolding serve_closes serve_close
closes_still p q queues is =
    none_still (serve_close p) (serve_close (devices_to p q)) p.table.opened p.table.opened refl refl
    (λ dd in_it none. ap (close_by (devices_to p q) dd) (queues dd in_it.0 Fifo) ∙ close_none p q dd (fifo_queue p.base (close_object dd)) none) is

suspended_by : (busy : Bool) (p : DevParts) (q : MailParts) (t : ℕ) → suspended_unless busy p t ≡ None → suspended_unless busy (devices_to p q) t ≡ None
suspended_by true p q t is = refl
suspended_by false p q t is = absurd (cc is)

suspension_none : (p : DevParts) (q : MailParts) (waiters : List ℕ) → suspension_by p waiters ≡ None → suspension_by (devices_to p q) waiters ≡ None
suspension_none p q [] is = refl
suspension_none p q (t ∷ ts) is = suspended_by (any_given p.table) p q t is

-- nor does a suspension
pub suspension_still : (p : DevParts) (q : MailParts) → SameQueue p.base q.base suspension_object → serve_suspension p ≡ None →
    serve_suspension (devices_to p q) ≡ None
unfolding serve_suspension
suspension_still p q queues is = ap (suspension_by (devices_to p q)) (queues Fifo) ∙ suspension_none p q (fifo_queue p.base suspension_object) is
