-- A serving of a semaphore, an event flag, a mailbox, a mutex, a message buffer or a memory pool ends a wait, or two, and leaves
-- the orders of all queues.
use Rattle.std.proofs.Common.{◌≡◌, ℕ, zero, suc, ◌+◌, ◌-◌, ◌≤◌, Bool, true, false, cond, ◌&&◌, List, [], ◌∷◌, Option, Some, None, refl, ◌∙◌, ap, subst, pos, arith}
use Rattle.std.specs.Prelude.{drop, nat_le, nat_lt, slice_set}
use Rattle.std.specs.Bool.{◌==◌}
use Rattle.tk_types.specs.declared.task.Order.{Order}
use Rattle.tk_types.specs.declared.task.Order.TheVariants.{Fifo}
use Rattle.kernel_model.specs.declared.objects.Semaphore.{Semaphore}
use Rattle.kernel_model.specs.declared.objects.EventFlag.{EventFlag}
use Rattle.kernel_model.specs.Words.Checks.{plain}
use Rattle.kernel_model.specs.Words.Orders.{taken_from}
use Rattle.kernel_model.specs.Tasks.Base.{Base, queue, release, waits_for}
use Rattle.kernel_model.specs.SemFlags.Tables.{SemFlags, SemFlagParts, sem_at, flag_at, sem_object, flag_object, sem_served, flag_served, serve_sem, serve_sem_at, serve_sem_of, serve_flag, serve_flag_at, serve_flag_of, first_served, or_else, serve_sem_flag}
use Rattle.kernel_model.specs.SemFlags.Orders.{sem_flag_order}
use Rattle.object_model.specs.declared.mails.Message.{Message}
use Rattle.object_model.specs.declared.mutexes.Mutex.{Mutex}
use Rattle.object_model.specs.Mutexes.Tables.{Mutexes, MutexParts, mutex_at, mutex_object, mutex_waiters, serve_mutex, serve_mutex_at, serve_mutex_of, serve_mutexes}
use Rattle.object_model.specs.Mutexes.Orders.{mutex_order}
use Rattle.object_model.specs.Mails.Tables.{Mailbox, MessageBuffer, MailParts, box_object, senders_object, receivers_object, box_at, buffer_at, bytes_of}
use Rattle.object_model.specs.Mails.Boxes.{box_waiters, box_serves, message_answer, message_bytes, serve_box, serve_box_at, serve_mailboxes}
use Rattle.object_model.specs.Mails.Buffers.{buffer_serves, first_of, has_space, receivers, senders, serve_buffer, serve_buffer_at, serve_buffers}
use Rattle.object_model.specs.Mails.Orders.{mail_order}
use Rattle.object_model.specs.Pools.Tables.{FixedPool, VariablePool, PoolParts, size_of, fixed_object, variable_object, fixed_at, variable_at}
use Rattle.object_model.specs.Pools.Fixed.{fixed_serves, fixed_waiters, free_block, serve_fixed, serve_fixed_at, serve_fixed_pools}
use Rattle.object_model.specs.Pools.Variable.{block_given, place_in, serve_variable, serve_variable_at, serve_variable_pools, variable_serves, variable_waiters}
use Rattle.object_model.specs.Pools.Orders.{pool_order}
use Rattle.tk_types.specs.declared.answer.Answer.{Answer}
use Rattle.call_lemmas.proofs.Serving.{sem_served_waits, flag_served_waits}
use Rattle.machine_lemmas.proofs.Changes.{IsChange, IsEnding, ends_then, giving, no_moves, one_ends, releasing}
use Rattle.machine_lemmas.proofs.Finding.{choice_same, first_from, first_waits, order_written, waits_on}

-- ---- semaphores and event flags

-- a wait ends, and the queues of semaphores and flags keep their orders
pub record IsSemFlagServing (b : Base) (s : SemFlags) (parts : SemFlagParts) : Type 1 where
  pub ends : IsEnding no_moves b parts.base
  pub orders : (object : ℕ) → sem_flag_order parts.table object ≡ sem_flag_order s object

sem_flag_parts : (b : Base) (s : SemFlags) (left parts : SemFlagParts) → Some left ≡ Some parts → IsSemFlagServing b s left → IsSemFlagServing b s parts
sem_flag_parts b s left parts same is = let e : left ≡ parts = cc same in subst (IsSemFlagServing b s) e is

sem_of : (b : Base) (s : SemFlags) (id : ℕ) (k : Semaphore) (parts : SemFlagParts) (picked : Option ℕ) → 1 ≤ id → sem_at s id ≡ Some k → sem_served s k b id ≡ picked → serve_sem_of b s id k picked ≡ Some parts → IsSemFlagServing b s parts
sem_of b s id k parts None least at is served = absurd (cc served)
sem_of b s id k parts (Some t) least at is served = sem_flag_parts b s _ parts served (record {
  ends = one_ends b t (sem_object id) _ (omega (arith, least)) (sem_served_waits b s id k t is);
  orders = λ object. choice_same (nat_le 64 object && nat_lt object 128) _ _ _ _ (order_written (λ (it : Semaphore). it.order) s.sems id k _ at refl (object - 63)) refl;
})

sem_in : (b : Base) (s : SemFlags) (id : ℕ) (parts : SemFlagParts) (slot : Option Semaphore) → 1 ≤ id → sem_at s id ≡ slot → serve_sem_at b s id slot ≡ Some parts → IsSemFlagServing b s parts
sem_in b s id parts None least at served = absurd (cc served)
sem_in b s id parts (Some k) least at served = sem_of b s id k parts (sem_served s k b id) least at refl served

sem_serving : (b : Base) (s : SemFlags) (id : ℕ) (parts : SemFlagParts) → 1 ≤ id → serve_sem b s id ≡ Some parts → IsSemFlagServing b s parts
unfolding serve_sem
sem_serving b s id parts least served = sem_in b s id parts (sem_at s id) least refl served

flag_of : (b : Base) (s : SemFlags) (id : ℕ) (k : EventFlag) (parts : SemFlagParts) (picked : Option ℕ) → flag_at s id ≡ Some k → flag_served s k b id ≡ picked → serve_flag_of b s id k picked ≡ Some parts → IsSemFlagServing b s parts
flag_of b s id k parts None at is served = absurd (cc served)
flag_of b s id k parts (Some t) at is served = sem_flag_parts b s _ parts served (record {
  ends = one_ends b t (flag_object id) _ (omega arith) (flag_served_waits b s id k t is);
  orders = λ object. choice_same (nat_le 64 object && nat_lt object 128) _ _ _ _ refl
      (choice_same (nat_le 128 object && nat_lt object 192) _ _ _ _ (order_written (λ (it : EventFlag). it.order) s.flags id k _ at refl (object - 127)) refl);
})

flag_in : (b : Base) (s : SemFlags) (id : ℕ) (parts : SemFlagParts) (slot : Option EventFlag) → flag_at s id ≡ slot → serve_flag_at b s id slot ≡ Some parts → IsSemFlagServing b s parts
flag_in b s id parts None at served = absurd (cc served)
flag_in b s id parts (Some k) at served = flag_of b s id k parts (flag_served s k b id) at refl served

flag_serving : (b : Base) (s : SemFlags) (id : ℕ) (parts : SemFlagParts) → serve_flag b s id ≡ Some parts → IsSemFlagServing b s parts
unfolding serve_flag
flag_serving b s id parts served = flag_in b s id parts (flag_at s id) refl served

first_or : (serve : ℕ → Option SemFlagParts) (P : SemFlagParts → Type 1) (parts : SemFlagParts) (id : ℕ) (here later : Option SemFlagParts) → serve id ≡ here → or_else here later ≡ Some parts → (serve id ≡ Some parts → P parts) → (later ≡ Some parts → P parts) → P parts
first_or serve P parts id (Some found) later is found_at by rest = by (is ∙ found_at)
first_or serve P parts id None later is found_at by rest = rest found_at

first_by : {A : Type 0} → (serve : ℕ → Option SemFlagParts) (P : SemFlagParts → Type 1) (parts : SemFlagParts) (id : ℕ) (slots : List (Option A)) → 1 ≤ id → first_served serve (taken_from id slots) ≡ Some parts → ((it : ℕ) → 1 ≤ it → serve it ≡ Some parts → P parts) → P parts
unfolding first_served
first_by serve P parts id [] least found by = absurd (cc found)
first_by serve P parts id (None ∷ slots) least found by = first_by serve P parts (id + 1) slots (omega (arith, least)) found by
first_by serve P parts id (Some k ∷ slots) least found by =
    first_or serve P parts id (serve id) (first_served serve (taken_from (id + 1) slots)) refl found (by id least)
    (λ later. first_by serve P parts (id + 1) slots (omega (arith, least)) later by)

either : (P : SemFlagParts → Type 1) (parts : SemFlagParts) (sems flags : Option SemFlagParts) → or_else sems flags ≡ Some parts → (sems ≡ Some parts → P parts) → (flags ≡ Some parts → P parts) → P parts
either P parts (Some found) flags is by_sem by_flag = by_sem is
either P parts None flags is by_sem by_flag = by_flag is

pub sem_flag_serving : (b : Base) (s : SemFlags) (parts : SemFlagParts) → serve_sem_flag b s ≡ Some parts → IsSemFlagServing b s parts
unfolding serve_sem_flag
sem_flag_serving b s parts is =
    either (IsSemFlagServing b s) parts (first_served (serve_sem b s) (taken_from 1 (drop 1 s.sems))) (first_served (serve_flag b s) (taken_from 1 (drop 1 s.flags))) is
    (λ by_sem. first_by (serve_sem b s) (IsSemFlagServing b s) parts 1 (drop 1 s.sems) (omega arith) by_sem (λ id least at. sem_serving b s id parts least at))
    (λ by_flag. first_by (serve_flag b s) (IsSemFlagServing b s) parts 1 (drop 1 s.flags) (omega arith) by_flag (λ id least at. flag_serving b s id parts at))

-- ---- mutexes

pub record IsMutexServing (b : Base) (m : Mutexes) (parts : MutexParts) : Type 1 where
  pub ends : IsEnding no_moves b parts.base
  pub orders : (object : ℕ) → mutex_order parts.table object ≡ mutex_order m object

mutex_parts : (b : Base) (m : Mutexes) (left parts : MutexParts) → Some left ≡ Some parts → IsMutexServing b m left → IsMutexServing b m parts
mutex_parts b m left parts same is = let e : left ≡ parts = cc same in subst (IsMutexServing b m) e is

mutex_of : (b : Base) (m : Mutexes) (id : ℕ) (k : Mutex) (parts : MutexParts) (waiters : List ℕ) → mutex_at m id ≡ Some k → mutex_waiters b k id ≡ waiters → serve_mutex_of b m id k waiters ≡ Some parts → IsMutexServing b m parts
mutex_of b m id k parts [] at is served = absurd (cc served)
mutex_of b m id k parts (t ∷ rest) at is served = mutex_parts b m _ parts served (record {
  ends = one_ends b t (mutex_object id) _ (omega arith) (first_waits k.order b (mutex_object id) t rest is);
  orders = λ object. choice_same (nat_le 256 object && nat_lt object 320) _ _ _ _ (order_written (λ (it : Mutex). it.order) m.table id k (record k { owner = t }) at refl (object - 255)) refl;
})

free_if : (free : Bool) (served : Option MutexParts) (parts : MutexParts) → cond free served None ≡ Some parts → served ≡ Some parts
free_if true served parts is = is
free_if false served parts is = absurd (cc is)

mutex_in : (b : Base) (m : Mutexes) (id : ℕ) (parts : MutexParts) (slot : Option Mutex) → mutex_at m id ≡ slot → serve_mutex_at b m id slot ≡ Some parts → IsMutexServing b m parts
mutex_in b m id parts None at served = absurd (cc served)
mutex_in b m id parts (Some k) at served = mutex_of b m id k parts (mutex_waiters b k id) at refl (free_if (k.owner == 0) (serve_mutex_of b m id k (mutex_waiters b k id)) parts served)

mutex_serving : (b : Base) (m : Mutexes) (id : ℕ) (parts : MutexParts) → serve_mutex b m id ≡ Some parts → IsMutexServing b m parts
unfolding serve_mutex
mutex_serving b m id parts served = mutex_in b m id parts (mutex_at m id) refl served

pub mutexes_serving : (b : Base) (m : Mutexes) (parts : MutexParts) → serve_mutexes b m ≡ Some parts → IsMutexServing b m parts
unfolding serve_mutexes
mutexes_serving b m parts is = let from = first_from (serve_mutex b m) parts (drop 1 m.table) is in mutex_serving b m from.id parts from.at

-- ---- mailboxes

pub record IsMailServing (p q : MailParts) : Type 1 where
  pub ends : IsEnding no_moves p.base q.base
  pub orders : (object : ℕ) → mail_order q.table object ≡ mail_order p.table object

mail_parts_of : (p left q : MailParts) → Some left ≡ Some q → IsMailServing p left → IsMailServing p q
mail_parts_of p left q same is = let e : left ≡ q = cc same in subst (IsMailServing p) e is

boxes_order : (p : MailParts) (id : ℕ) (k now : Mailbox) → box_at p.table id ≡ Some k → now.order ≡ k.order → (object : ℕ) → mail_order (record p.table { boxes = slice_set p.table.boxes id (Some now) }) object ≡ mail_order p.table object
boxes_order p id k now at same object = choice_same (nat_le 192 object && nat_lt object 256) _ _ _ _ (order_written (λ (it : Mailbox). it.order) p.table.boxes id k now at same (object - 191)) refl

box_of : (p : MailParts) (id : ℕ) (k : Mailbox) (q : MailParts) (waiters : List ℕ) (messages : List Message) → box_at p.table id ≡ Some k → box_waiters p.base k id ≡ waiters → box_serves p id k waiters messages ≡ Some q → IsMailServing p q
box_of p id k q [] messages at is served = absurd (cc served)
box_of p id k q (t ∷ waiters) [] at is served = absurd (cc served)
box_of p id k q (t ∷ waiters) (first ∷ rest) at is served = mail_parts_of p _ q served (record {
  ends = ends_then p.base _ t (box_object id) (message_answer first) (omega arith) (first_waits k.order p.base (box_object id) t waiters is) (giving (release p.base t (message_answer first)) message_bytes);
  orders = boxes_order p id k (record k { messages = rest }) at refl;
})

box_in : (p : MailParts) (id : ℕ) (q : MailParts) (slot : Option Mailbox) → box_at p.table id ≡ slot → serve_box_at p id slot ≡ Some q → IsMailServing p q
box_in p id q None at served = absurd (cc served)
box_in p id q (Some k) at served = box_of p id k q (box_waiters p.base k id) k.messages at refl served

box_serving : (p : MailParts) (id : ℕ) (q : MailParts) → serve_box p id ≡ Some q → IsMailServing p q
unfolding serve_box
box_serving p id q served = box_in p id q (box_at p.table id) refl served

pub boxes_serving : (p q : MailParts) → serve_mailboxes p ≡ Some q → IsMailServing p q
unfolding serve_mailboxes
boxes_serving p q is = let from = first_from (serve_box p) q (drop 1 p.table.boxes) is in box_serving p from.id q from.at

-- ---- message buffers

pub buffers_order : (p : MailParts) (id : ℕ) (k now : MessageBuffer) → buffer_at p.table id ≡ Some k → now.order ≡ k.order → (object : ℕ) → mail_order (record p.table { buffers = slice_set p.table.buffers id (Some now) }) object ≡ mail_order p.table object
buffers_order p id k now at same object =
    choice_same (nat_le 192 object && nat_lt object 256) _ _ _ _ refl
    (choice_same (nat_le 320 object && nat_lt object 384) _ _ _ _ (order_written (λ (it : MessageBuffer). it.order) p.table.buffers id k now at same (object - 319))
    (choice_same (nat_le 384 object && nat_lt object 448) _ _ _ _ (order_written (λ (it : MessageBuffer). Fifo) p.table.buffers id k now at refl (object - 383)) refl))

-- the first of a list
first_is : (ids : List ℕ) (t : ℕ) → first_of ids ≡ Some t → (rest : List ℕ) × (ids ≡ t ∷ rest)
first_is [] t is = absurd (cc is)
first_is (id ∷ rest) t is = (rest, ap (λ (first : ℕ). first ∷ rest) (let e : id ≡ t = cc is in e))

pub first_in_queue : (order : Order) (b : Base) (object t : ℕ) → first_of (queue order b object) ≡ Some t → waits_for b object t ≡ true
first_in_queue order b object t is = let first = first_is (queue order b object) t is in first_waits order b object t first.0 first.1

space_if : (fits : Bool) (left q : MailParts) → cond fits (Some left) None ≡ Some q → Some left ≡ Some q
space_if true left q is = is
space_if false left q is = absurd (cc is)

-- a receiver is no sender, and the end of its wait leaves the sender waiting
sender_ends : (p : MailParts) (id : ℕ) (k : MessageBuffer) (r s : ℕ) (result : Answer) → waits_for p.base (receivers_object id) r ≡ true → waits_for p.base (senders_object id) s ≡ true →
    IsChange (release p.base r result) (release (release p.base r result) s (plain (pos 0)))
sender_ends p id k r s result receives sends =
    releasing (release p.base r result) s (senders_object id) (plain (pos 0)) (omega arith) (waits_on p.base r s (receivers_object id) (senders_object id) result receives sends (λ e. omega (arith, e)))

buffer_of : (p : MailParts) (id : ℕ) (k : MessageBuffer) (q : MailParts) (receiver sender : Option ℕ) (messages : List (List ℕ)) → buffer_at p.table id ≡ Some k →
    first_of (receivers p.base id) ≡ receiver → first_of (senders p.base k id) ≡ sender → buffer_serves p id k receiver sender messages ≡ Some q → IsMailServing p q
buffer_of p id k q (Some r) sender (oldest ∷ later) at is_r is_s served = mail_parts_of p _ q served (record {
  ends = one_ends p.base r (receivers_object id) _ (omega arith) (first_in_queue Fifo p.base (receivers_object id) r is_r);
  orders = buffers_order p id k (record k { messages = later }) at refl;
})
buffer_of p id k q (Some r) (Some s) [] at is_r is_s served = mail_parts_of p _ q served (record {
  ends = ends_then p.base _ r (receivers_object id) _ (omega arith) (first_in_queue Fifo p.base (receivers_object id) r is_r) (sender_ends p id k r s _ (first_in_queue Fifo p.base (receivers_object id) r is_r) (first_in_queue k.order p.base (senders_object id) s is_s));
  orders = λ object. refl;
})
buffer_of p id k q (Some r) None [] at is_r is_s served = absurd (cc served)
buffer_of p id k q None (Some s) messages at is_r is_s served = mail_parts_of p _ q (space_if (has_space k (bytes_of p.table s)) _ q served) (record {
  ends = one_ends p.base s (senders_object id) _ (omega arith) (first_in_queue k.order p.base (senders_object id) s is_s);
  orders = buffers_order p id k _ at refl;
})
buffer_of p id k q None None messages at is_r is_s served = absurd (cc served)

buffer_in : (p : MailParts) (id : ℕ) (q : MailParts) (slot : Option MessageBuffer) → buffer_at p.table id ≡ slot → serve_buffer_at p id slot ≡ Some q → IsMailServing p q
buffer_in p id q None at served = absurd (cc served)
buffer_in p id q (Some k) at served = buffer_of p id k q (first_of (receivers p.base id)) (first_of (senders p.base k id)) k.messages at refl refl served

buffer_serving : (p : MailParts) (id : ℕ) (q : MailParts) → serve_buffer p id ≡ Some q → IsMailServing p q
unfolding serve_buffer
buffer_serving p id q served = buffer_in p id q (buffer_at p.table id) refl served

pub buffers_serving : (p q : MailParts) → serve_buffers p ≡ Some q → IsMailServing p q
unfolding serve_buffers
buffers_serving p q is = let from = first_from (serve_buffer p) q (drop 1 p.table.buffers) is in buffer_serving p from.id q from.at

-- ---- pools

pub record IsPoolServing (p q : PoolParts) : Type 1 where
  pub ends : IsEnding no_moves p.base q.base
  pub orders : (object : ℕ) → pool_order q.table object ≡ pool_order p.table object

pool_parts_of : (p left q : PoolParts) → Some left ≡ Some q → IsPoolServing p left → IsPoolServing p q
pool_parts_of p left q same is = let e : left ≡ q = cc same in subst (IsPoolServing p) e is

fixed_of : (p : PoolParts) (id : ℕ) (k : FixedPool) (q : PoolParts) (waiters : List ℕ) (number : ℕ) → fixed_at p.table id ≡ Some k → fixed_waiters p.base k id ≡ waiters → fixed_serves p id k waiters number ≡ Some q → IsPoolServing p q
fixed_of p id k q [] number at is served = absurd (cc served)
fixed_of p id k q (t ∷ waiters) zero at is served = absurd (cc served)
fixed_of p id k q (t ∷ waiters) (suc before) at is served = pool_parts_of p _ q served (record {
  ends = one_ends p.base t (fixed_object id) _ (omega arith) (first_waits k.order p.base (fixed_object id) t waiters is);
  orders = λ object. choice_same (nat_le 448 object && nat_lt object 512) _ _ _ _ (order_written (λ (it : FixedPool). it.order) p.table.fixed id k (record k { out = slice_set k.out (suc before) true }) at refl (object - 447)) refl;
})

fixed_in : (p : PoolParts) (id : ℕ) (q : PoolParts) (slot : Option FixedPool) → fixed_at p.table id ≡ slot → serve_fixed_at p id slot ≡ Some q → IsPoolServing p q
fixed_in p id q None at served = absurd (cc served)
fixed_in p id q (Some k) at served = fixed_of p id k q (fixed_waiters p.base k id) (free_block k) at refl served

fixed_serving : (p : PoolParts) (id : ℕ) (q : PoolParts) → serve_fixed p id ≡ Some q → IsPoolServing p q
unfolding serve_fixed
fixed_serving p id q served = fixed_in p id q (fixed_at p.table id) refl served

pub fixed_pools_serving : (p q : PoolParts) → serve_fixed_pools p ≡ Some q → IsPoolServing p q
unfolding serve_fixed_pools
fixed_pools_serving p q is = let from = first_from (serve_fixed p) q (drop 1 p.table.fixed) is in fixed_serving p from.id q from.at

given_of : (p : PoolParts) (id : ℕ) (k : VariablePool) (q : PoolParts) (t : ℕ) (rest : List ℕ) (place : Option ℕ) → variable_at p.table id ≡ Some k → variable_waiters p.base k id ≡ t ∷ rest → block_given p id k t place ≡ Some q → IsPoolServing p q
given_of p id k q t rest None at is served = absurd (cc served)
given_of p id k q t rest (Some offset) at is served = pool_parts_of p _ q served (record {
  ends = one_ends p.base t (variable_object id) _ (omega arith) (first_waits k.order p.base (variable_object id) t rest is);
  orders = λ object. choice_same (nat_le 448 object && nat_lt object 512) _ _ _ _ refl
      (choice_same (nat_le 512 object && nat_lt object 576) _ _ _ _ (order_written (λ (it : VariablePool). it.order) p.table.variable id k _ at refl (object - 511)) refl);
})

variable_of : (p : PoolParts) (id : ℕ) (k : VariablePool) (q : PoolParts) (waiters : List ℕ) → variable_at p.table id ≡ Some k → variable_waiters p.base k id ≡ waiters → variable_serves p id k waiters ≡ Some q → IsPoolServing p q
variable_of p id k q [] at is served = absurd (cc served)
variable_of p id k q (t ∷ rest) at is served = given_of p id k q t rest (place_in k (size_of p.table t)) at is served

variable_in : (p : PoolParts) (id : ℕ) (q : PoolParts) (slot : Option VariablePool) → variable_at p.table id ≡ slot → serve_variable_at p id slot ≡ Some q → IsPoolServing p q
variable_in p id q None at served = absurd (cc served)
variable_in p id q (Some k) at served = variable_of p id k q (variable_waiters p.base k id) at refl served

variable_serving : (p : PoolParts) (id : ℕ) (q : PoolParts) → serve_variable p id ≡ Some q → IsPoolServing p q
unfolding serve_variable
variable_serving p id q served = variable_in p id q (variable_at p.table id) refl served

pub variable_pools_serving : (p q : PoolParts) → serve_variable_pools p ≡ Some q → IsPoolServing p q
unfolding serve_variable_pools
variable_pools_serving p q is = let from = first_from (serve_variable p) q (drop 1 p.table.variable) is in variable_serving p from.id q from.at
