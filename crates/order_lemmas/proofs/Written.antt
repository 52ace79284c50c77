-- What writing one slot of a family's table leaves of the orders of all queues: all, where the slot keeps its order, or where
-- nobody waits for its object, as there was none, or as all waits for it have ended.
use Rattle.std.proofs.Common.{◌≡◌, ℕ, ◌-◌, ◌≤◌, true, List, cond, Option, Some, None, drop, refl, ◌∙◌, ap, sym, subst, arith}
use Rattle.std.specs.Prelude.{nat_lt, slice_set}
use Rattle.std.specs.Option.{option_map}
use Rattle.tk_types.specs.declared.task.Order.{Order}
use Rattle.tk_types.specs.declared.task.Order.TheVariants.{Fifo}
use Rattle.kernel_model.specs.declared.objects.Semaphore.{Semaphore}
use Rattle.kernel_model.specs.declared.objects.EventFlag.{EventFlag}
use Rattle.kernel_model.specs.Words.Orders.{entry, free_from}
use Rattle.kernel_model.specs.Tasks.Base.{Base}
use Rattle.kernel_model.specs.SemFlags.Tables.{flag_at, flag_object, sem_at, sem_object, with_flag, with_sem}
use Rattle.kernel_model.specs.SemFlags.Orders.{sem_flag_order}
use Rattle.object_model.specs.declared.mutexes.Mutex.{Mutex}
use Rattle.object_model.specs.Mutexes.Tables.{mutex_object, with_mutex}
use Rattle.object_model.specs.Mutexes.Orders.{mutex_order}
use Rattle.object_model.specs.Mails.Tables.{Mailbox, MessageBuffer, box_at, box_object, buffer_at, receivers_object, senders_object, with_box, with_buffer}
use Rattle.object_model.specs.Mails.Orders.{mail_order}
use Rattle.object_model.specs.Pools.Tables.{FixedPool, VariablePool, fixed_at, fixed_object, variable_at, variable_object, with_fixed, with_variable}
use Rattle.object_model.specs.Pools.Orders.{pool_order}
use Rattle.device_model.specs.Devices.Orders.{device_order}
use Rattle.machine_model.specs.States.Objects.{Objects}
use Rattle.machine_model.specs.States.Waits.{order_for, or_order}
use Rattle.machine_lemmas.proofs.Finding.{order_written}
use Rattle.order_lemmas.proofs.Rights.{AreRight, IsApart, IsIdle, none_idle, right_apart, right_same}
use Rattle.order_lemmas.proofs.Ranges.{box_is, fixed_is, flag_is, free_slot, in_range, mutex_is, range_apart, range_least, ranges_apart, receivers_is, sem_is, senders_is, slot_apart, variable_is}

none_there : {A : Type 0} → (order : A → Order) (slots : List (Option A)) (id i : ℕ) → (1 ≤ id → entry slots id ≡ None) → 1 ≤ i → i ≡ id → option_map order (entry slots i) ≡ None
none_there order slots id i free least is =
    let none : entry slots id ≡ None = free (omega (arith, least, is)) in
    ap (λ (n : ℕ). option_map order (entry slots n)) is ∙ ap (option_map order) none

own_idle : (b : Base) (object other : ℕ) → object ≡ other → IsIdle b other → IsIdle b object
own_idle b object other is idle = subst (λ (n : ℕ). IsIdle b n) (sym is) idle

-- ---- a semaphore

sem_apart : (o : Objects) (b : Base) (id : ℕ) (slot : Option Semaphore) → ((object : ℕ) → in_range 64 128 object ≡ true → object - 63 ≡ id → IsIdle b object) →
    IsApart (order_for o) (order_for (record o { sem_flags = with_sem o.sem_flags id slot })) b
sem_apart o b id slot idle object =
    range_apart (IsIdle b object) (in_range 64 128 object) (λ x. cond (nat_lt object 2) (Some Fifo)
    (or_order (x) (or_order (mutex_order o.mutexes object) (or_order (mail_order o.mails object) (or_order (pool_order o.pools object) (device_order object))))))
    (option_map (λ k. k.order) (entry (slice_set o.sem_flags.sems id slot) (object - 63))) (option_map (λ k. k.order) (entry o.sem_flags.sems (object - 63)))
    (cond (in_range 128 192 object) (option_map (λ k. k.order) (flag_at o.sem_flags (object - 127))) (None))
    (λ own. slot_apart (IsIdle b object) (λ k. k.order) o.sem_flags.sems id slot (object - 63) (idle object own))

-- a semaphore is written where there is none
pub sem_free : (o : Objects) (b : Base) (id : ℕ) (slot : Option Semaphore) → (1 ≤ id → entry o.sem_flags.sems id ≡ None) → AreRight (order_for o) b →
    AreRight (order_for (record o { sem_flags = with_sem o.sem_flags id slot })) b
sem_free o b id slot free all = right_apart (order_for o) (order_for (record o { sem_flags = with_sem o.sem_flags id slot })) b
    (sem_apart o b id slot (λ object own is. none_idle (order_for o) b object all
    (let least = range_least 64 128 object own in sem_is o object own ∙ none_there (λ k. k.order) o.sem_flags.sems id (object - 63) free (omega (arith, least)) is))) all

-- it is made at the least free ID
pub sem_made : (o : Objects) (b : Base) (slot : Option Semaphore) → AreRight (order_for o) b →
    AreRight (order_for (record o { sem_flags = with_sem o.sem_flags (free_from 1 (drop 1 o.sem_flags.sems)) slot })) b
sem_made o b slot all = let id : ℕ = free_from 1 (drop 1 o.sem_flags.sems) in sem_free o b id slot (λ least. free_slot o.sem_flags.sems id least refl) all

-- it is written where nobody waits for it
pub sem_idle : (o : Objects) (b : Base) (id : ℕ) (slot : Option Semaphore) → IsIdle b (sem_object id) → AreRight (order_for o) b →
    AreRight (order_for (record o { sem_flags = with_sem o.sem_flags id slot })) b
sem_idle o b id slot idle all = right_apart (order_for o) (order_for (record o { sem_flags = with_sem o.sem_flags id slot })) b
    (sem_apart o b id slot (λ object own is. let least = range_least 64 128 object own in own_idle b object (sem_object id) (omega (arith, least, is)) idle)) all

-- it is written in its own order
pub sem_same : (o : Objects) (b : Base) (id : ℕ) (k now : Semaphore) → entry o.sem_flags.sems id ≡ Some k → now.order ≡ k.order → AreRight (order_for o) b →
    AreRight (order_for (record o { sem_flags = with_sem o.sem_flags id (Some now) })) b
sem_same o b id k now at same all = right_same (order_for o) (order_for (record o { sem_flags = with_sem o.sem_flags id (Some now) })) b
    (λ object. ap (λ (y : Option Order). let x : Option Order = cond (in_range 64 128 object) y
    (cond (in_range 128 192 object) (option_map (λ k. k.order) (flag_at o.sem_flags (object - 127))) (None)) in cond (nat_lt object 2) (Some Fifo)
    (or_order (x) (or_order (mutex_order o.mutexes object) (or_order (mail_order o.mails object) (or_order (pool_order o.pools object) (device_order object))))))
    (order_written (λ (it : Semaphore). it.order) o.sem_flags.sems id k now at same (object - 63))) all

-- ---- an event flag

flag_apart : (o : Objects) (b : Base) (id : ℕ) (slot : Option EventFlag) → ((object : ℕ) → in_range 128 192 object ≡ true → object - 127 ≡ id → IsIdle b object) →
    IsApart (order_for o) (order_for (record o { sem_flags = with_flag o.sem_flags id slot })) b
flag_apart o b id slot idle object =
    range_apart (IsIdle b object) (in_range 128 192 object) (λ x. cond (nat_lt object 2) (Some Fifo)
    (or_order (cond (in_range 64 128 object) (option_map (λ k. k.order) (sem_at o.sem_flags (object - 63))) (x))
    (or_order (mutex_order o.mutexes object) (or_order (mail_order o.mails object) (or_order (pool_order o.pools object) (device_order object))))))
    (option_map (λ k. k.order) (entry (slice_set o.sem_flags.flags id slot) (object - 127))) (option_map (λ k. k.order) (entry o.sem_flags.flags (object - 127)))
    (None)
    (λ own. slot_apart (IsIdle b object) (λ k. k.order) o.sem_flags.flags id slot (object - 127) (idle object own))

-- an event flag is written where there is none
pub flag_free : (o : Objects) (b : Base) (id : ℕ) (slot : Option EventFlag) → (1 ≤ id → entry o.sem_flags.flags id ≡ None) → AreRight (order_for o) b →
    AreRight (order_for (record o { sem_flags = with_flag o.sem_flags id slot })) b
flag_free o b id slot free all = right_apart (order_for o) (order_for (record o { sem_flags = with_flag o.sem_flags id slot })) b
    (flag_apart o b id slot (λ object own is. none_idle (order_for o) b object all
    (let least = range_least 128 192 object own in flag_is o object own ∙ none_there (λ k. k.order) o.sem_flags.flags id (object - 127) free (omega (arith, least)) is))) all

-- it is made at the least free ID
pub flag_made : (o : Objects) (b : Base) (slot : Option EventFlag) → AreRight (order_for o) b →
    AreRight (order_for (record o { sem_flags = with_flag o.sem_flags (free_from 1 (drop 1 o.sem_flags.flags)) slot })) b
flag_made o b slot all = let id : ℕ = free_from 1 (drop 1 o.sem_flags.flags) in flag_free o b id slot (λ least. free_slot o.sem_flags.flags id least refl) all

-- it is written where nobody waits for it
pub flag_idle : (o : Objects) (b : Base) (id : ℕ) (slot : Option EventFlag) → IsIdle b (flag_object id) → AreRight (order_for o) b →
    AreRight (order_for (record o { sem_flags = with_flag o.sem_flags id slot })) b
flag_idle o b id slot idle all = right_apart (order_for o) (order_for (record o { sem_flags = with_flag o.sem_flags id slot })) b
    (flag_apart o b id slot (λ object own is. let least = range_least 128 192 object own in own_idle b object (flag_object id) (omega (arith, least, is)) idle)) all

-- it is written in its own order
pub flag_same : (o : Objects) (b : Base) (id : ℕ) (k now : EventFlag) → entry o.sem_flags.flags id ≡ Some k → now.order ≡ k.order → AreRight (order_for o) b →
    AreRight (order_for (record o { sem_flags = with_flag o.sem_flags id (Some now) })) b
flag_same o b id k now at same all = right_same (order_for o) (order_for (record o { sem_flags = with_flag o.sem_flags id (Some now) })) b
    (λ object. ap (λ (y : Option Order). let x : Option Order = cond (in_range 128 192 object) y (None) in cond (nat_lt object 2) (Some Fifo)
    (or_order (cond (in_range 64 128 object) (option_map (λ k. k.order) (sem_at o.sem_flags (object - 63))) (x))
    (or_order (mutex_order o.mutexes object) (or_order (mail_order o.mails object) (or_order (pool_order o.pools object) (device_order object))))))
    (order_written (λ (it : EventFlag). it.order) o.sem_flags.flags id k now at same (object - 127))) all

-- ---- a mutex

mutex_apart : (o : Objects) (b : Base) (id : ℕ) (slot : Option Mutex) → ((object : ℕ) → in_range 256 320 object ≡ true → object - 255 ≡ id → IsIdle b object) →
    IsApart (order_for o) (order_for (record o { mutexes = with_mutex o.mutexes id slot })) b
mutex_apart o b id slot idle object =
    range_apart (IsIdle b object) (in_range 256 320 object) (λ x. cond (nat_lt object 2) (Some Fifo)
    (or_order (sem_flag_order o.sem_flags object) (or_order (x) (or_order (mail_order o.mails object) (or_order (pool_order o.pools object) (device_order object))))))
    (option_map (λ k. k.order) (entry (slice_set o.mutexes.table id slot) (object - 255))) (option_map (λ k. k.order) (entry o.mutexes.table (object - 255)))
    (None)
    (λ own. slot_apart (IsIdle b object) (λ k. k.order) o.mutexes.table id slot (object - 255) (idle object own))

-- a mutex is written where there is none
pub mutex_free : (o : Objects) (b : Base) (id : ℕ) (slot : Option Mutex) → (1 ≤ id → entry o.mutexes.table id ≡ None) → AreRight (order_for o) b →
    AreRight (order_for (record o { mutexes = with_mutex o.mutexes id slot })) b
mutex_free o b id slot free all = right_apart (order_for o) (order_for (record o { mutexes = with_mutex o.mutexes id slot })) b
    (mutex_apart o b id slot (λ object own is. none_idle (order_for o) b object all
    (let least = range_least 256 320 object own in mutex_is o object own ∙ none_there (λ k. k.order) o.mutexes.table id (object - 255) free (omega (arith, least)) is))) all

-- it is made at the least free ID
pub mutex_made : (o : Objects) (b : Base) (slot : Option Mutex) → AreRight (order_for o) b →
    AreRight (order_for (record o { mutexes = with_mutex o.mutexes (free_from 1 (drop 1 o.mutexes.table)) slot })) b
mutex_made o b slot all = let id : ℕ = free_from 1 (drop 1 o.mutexes.table) in mutex_free o b id slot (λ least. free_slot o.mutexes.table id least refl) all

-- it is written where nobody waits for it
pub mutex_idle : (o : Objects) (b : Base) (id : ℕ) (slot : Option Mutex) → IsIdle b (mutex_object id) → AreRight (order_for o) b →
    AreRight (order_for (record o { mutexes = with_mutex o.mutexes id slot })) b
mutex_idle o b id slot idle all = right_apart (order_for o) (order_for (record o { mutexes = with_mutex o.mutexes id slot })) b
    (mutex_apart o b id slot (λ object own is. let least = range_least 256 320 object own in own_idle b object (mutex_object id) (omega (arith, least, is)) idle)) all

-- it is written in its own order
pub mutex_same : (o : Objects) (b : Base) (id : ℕ) (k now : Mutex) → entry o.mutexes.table id ≡ Some k → now.order ≡ k.order → AreRight (order_for o) b →
    AreRight (order_for (record o { mutexes = with_mutex o.mutexes id (Some now) })) b
mutex_same o b id k now at same all = right_same (order_for o) (order_for (record o { mutexes = with_mutex o.mutexes id (Some now) })) b
    (λ object. ap (λ (y : Option Order). let x : Option Order = cond (in_range 256 320 object) y (None) in cond (nat_lt object 2) (Some Fifo)
    (or_order (sem_flag_order o.sem_flags object) (or_order (x) (or_order (mail_order o.mails object) (or_order (pool_order o.pools object) (device_order object))))))
    (order_written (λ (it : Mutex). it.order) o.mutexes.table id k now at same (object - 255))) all

-- ---- a mailbox

box_apart : (o : Objects) (b : Base) (id : ℕ) (slot : Option Mailbox) → ((object : ℕ) → in_range 192 256 object ≡ true → object - 191 ≡ id → IsIdle b object) →
    IsApart (order_for o) (order_for (record o { mails = with_box o.mails id slot })) b
box_apart o b id slot idle object =
    range_apart (IsIdle b object) (in_range 192 256 object) (λ x. cond (nat_lt object 2) (Some Fifo)
    (or_order (sem_flag_order o.sem_flags object) (or_order (mutex_order o.mutexes object) (or_order (x) (or_order (pool_order o.pools object) (device_order object))))))
    (option_map (λ k. k.order) (entry (slice_set o.mails.boxes id slot) (object - 191))) (option_map (λ k. k.order) (entry o.mails.boxes (object - 191)))
    (cond (in_range 320 384 object) (option_map (λ k. k.order) (buffer_at o.mails (object - 319)))
    (cond (in_range 384 448 object) (option_map (λ k. Fifo) (buffer_at o.mails (object - 383))) (None)))
    (λ own. slot_apart (IsIdle b object) (λ k. k.order) o.mails.boxes id slot (object - 191) (idle object own))

-- a mailbox is written where there is none
pub box_free : (o : Objects) (b : Base) (id : ℕ) (slot : Option Mailbox) → (1 ≤ id → entry o.mails.boxes id ≡ None) → AreRight (order_for o) b →
    AreRight (order_for (record o { mails = with_box o.mails id slot })) b
box_free o b id slot free all = right_apart (order_for o) (order_for (record o { mails = with_box o.mails id slot })) b
    (box_apart o b id slot (λ object own is. none_idle (order_for o) b object all
    (let least = range_least 192 256 object own in box_is o object own ∙ none_there (λ k. k.order) o.mails.boxes id (object - 191) free (omega (arith, least)) is))) all

-- it is made at the least free ID
pub box_made : (o : Objects) (b : Base) (slot : Option Mailbox) → AreRight (order_for o) b →
    AreRight (order_for (record o { mails = with_box o.mails (free_from 1 (drop 1 o.mails.boxes)) slot })) b
box_made o b slot all = let id : ℕ = free_from 1 (drop 1 o.mails.boxes) in box_free o b id slot (λ least. free_slot o.mails.boxes id least refl) all

-- it is written where nobody waits for it
pub box_idle : (o : Objects) (b : Base) (id : ℕ) (slot : Option Mailbox) → IsIdle b (box_object id) → AreRight (order_for o) b →
    AreRight (order_for (record o { mails = with_box o.mails id slot })) b
box_idle o b id slot idle all = right_apart (order_for o) (order_for (record o { mails = with_box o.mails id slot })) b
    (box_apart o b id slot (λ object own is. let least = range_least 192 256 object own in own_idle b object (box_object id) (omega (arith, least, is)) idle)) all

-- it is written in its own order
pub box_same : (o : Objects) (b : Base) (id : ℕ) (k now : Mailbox) → entry o.mails.boxes id ≡ Some k → now.order ≡ k.order → AreRight (order_for o) b →
    AreRight (order_for (record o { mails = with_box o.mails id (Some now) })) b
box_same o b id k now at same all = right_same (order_for o) (order_for (record o { mails = with_box o.mails id (Some now) })) b
    (λ object. ap (λ (y : Option Order). let x : Option Order = cond (in_range 192 256 object) y
    (cond (in_range 320 384 object) (option_map (λ k. k.order) (buffer_at o.mails (object - 319)))
    (cond (in_range 384 448 object) (option_map (λ k. Fifo) (buffer_at o.mails (object - 383))) (None))) in cond (nat_lt object 2) (Some Fifo)
    (or_order (sem_flag_order o.sem_flags object) (or_order (mutex_order o.mutexes object) (or_order (x) (or_order (pool_order o.pools object) (device_order object))))))
    (order_written (λ (it : Mailbox). it.order) o.mails.boxes id k now at same (object - 191))) all

-- ---- a fixed pool

fixed_apart : (o : Objects) (b : Base) (id : ℕ) (slot : Option FixedPool) → ((object : ℕ) → in_range 448 512 object ≡ true → object - 447 ≡ id → IsIdle b object) →
    IsApart (order_for o) (order_for (record o { pools = with_fixed o.pools id slot })) b
fixed_apart o b id slot idle object =
    range_apart (IsIdle b object) (in_range 448 512 object) (λ x. cond (nat_lt object 2) (Some Fifo)
    (or_order (sem_flag_order o.sem_flags object) (or_order (mutex_order o.mutexes object) (or_order (mail_order o.mails object) (or_order (x) (device_order object))))))
    (option_map (λ k. k.order) (entry (slice_set o.pools.fixed id slot) (object - 447))) (option_map (λ k. k.order) (entry o.pools.fixed (object - 447)))
    (cond (in_range 512 576 object) (option_map (λ k. k.order) (variable_at o.pools (object - 511))) (None))
    (λ own. slot_apart (IsIdle b object) (λ k. k.order) o.pools.fixed id slot (object - 447) (idle object own))

-- a fixed pool is written where there is none
pub fixed_free : (o : Objects) (b : Base) (id : ℕ) (slot : Option FixedPool) → (1 ≤ id → entry o.pools.fixed id ≡ None) → AreRight (order_for o) b →
    AreRight (order_for (record o { pools = with_fixed o.pools id slot })) b
fixed_free o b id slot free all = right_apart (order_for o) (order_for (record o { pools = with_fixed o.pools id slot })) b
    (fixed_apart o b id slot (λ object own is. none_idle (order_for o) b object all
    (let least = range_least 448 512 object own in fixed_is o object own ∙ none_there (λ k. k.order) o.pools.fixed id (object - 447) free (omega (arith, least)) is))) all

-- it is made at the least free ID
pub fixed_made : (o : Objects) (b : Base) (slot : Option FixedPool) → AreRight (order_for o) b →
    AreRight (order_for (record o { pools = with_fixed o.pools (free_from 1 (drop 1 o.pools.fixed)) slot })) b
fixed_made o b slot all = let id : ℕ = free_from 1 (drop 1 o.pools.fixed) in fixed_free o b id slot (λ least. free_slot o.pools.fixed id least refl) all

-- it is written where nobody waits for it
pub fixed_idle : (o : Objects) (b : Base) (id : ℕ) (slot : Option FixedPool) → IsIdle b (fixed_object id) → AreRight (order_for o) b →
    AreRight (order_for (record o { pools = with_fixed o.pools id slot })) b
fixed_idle o b id slot idle all = right_apart (order_for o) (order_for (record o { pools = with_fixed o.pools id slot })) b
    (fixed_apart o b id slot (λ object own is. let least = range_least 448 512 object own in own_idle b object (fixed_object id) (omega (arith, least, is)) idle)) all

-- it is written in its own order
pub fixed_same : (o : Objects) (b : Base) (id : ℕ) (k now : FixedPool) → entry o.pools.fixed id ≡ Some k → now.order ≡ k.order → AreRight (order_for o) b →
    AreRight (order_for (record o { pools = with_fixed o.pools id (Some now) })) b
fixed_same o b id k now at same all = right_same (order_for o) (order_for (record o { pools = with_fixed o.pools id (Some now) })) b
    (λ object. ap (λ (y : Option Order). let x : Option Order = cond (in_range 448 512 object) y
    (cond (in_range 512 576 object) (option_map (λ k. k.order) (variable_at o.pools (object - 511))) (None)) in cond (nat_lt object 2) (Some Fifo)
    (or_order (sem_flag_order o.sem_flags object) (or_order (mutex_order o.mutexes object) (or_order (mail_order o.mails object) (or_order (x) (device_order object))))))
    (order_written (λ (it : FixedPool). it.order) o.pools.fixed id k now at same (object - 447))) all

-- ---- a variable pool

variable_apart : (o : Objects) (b : Base) (id : ℕ) (slot : Option VariablePool) → ((object : ℕ) → in_range 512 576 object ≡ true → object - 511 ≡ id → IsIdle b object) →
    IsApart (order_for o) (order_for (record o { pools = with_variable o.pools id slot })) b
variable_apart o b id slot idle object =
    range_apart (IsIdle b object) (in_range 512 576 object) (λ x. cond (nat_lt object 2) (Some Fifo)
    (or_order (sem_flag_order o.sem_flags object) (or_order (mutex_order o.mutexes object)
    (or_order (mail_order o.mails object) (or_order (cond (in_range 448 512 object) (option_map (λ k. k.order) (fixed_at o.pools (object - 447))) (x))
    (device_order object))))))
    (option_map (λ k. k.order) (entry (slice_set o.pools.variable id slot) (object - 511))) (option_map (λ k. k.order) (entry o.pools.variable (object - 511)))
    (None)
    (λ own. slot_apart (IsIdle b object) (λ k. k.order) o.pools.variable id slot (object - 511) (idle object own))

-- a variable pool is written where there is none
pub variable_free : (o : Objects) (b : Base) (id : ℕ) (slot : Option VariablePool) → (1 ≤ id → entry o.pools.variable id ≡ None) → AreRight (order_for o) b →
    AreRight (order_for (record o { pools = with_variable o.pools id slot })) b
variable_free o b id slot free all = right_apart (order_for o) (order_for (record o { pools = with_variable o.pools id slot })) b
    (variable_apart o b id slot (λ object own is. none_idle (order_for o) b object all
    (let least = range_least 512 576 object own in variable_is o object own ∙ none_there (λ k. k.order) o.pools.variable id (object - 511) free (omega (arith, least)) is))) all

-- it is made at the least free ID
pub variable_made : (o : Objects) (b : Base) (slot : Option VariablePool) → AreRight (order_for o) b →
    AreRight (order_for (record o { pools = with_variable o.pools (free_from 1 (drop 1 o.pools.variable)) slot })) b
variable_made o b slot all = let id : ℕ = free_from 1 (drop 1 o.pools.variable) in variable_free o b id slot (λ least. free_slot o.pools.variable id least refl) all

-- it is written where nobody waits for it
pub variable_idle : (o : Objects) (b : Base) (id : ℕ) (slot : Option VariablePool) → IsIdle b (variable_object id) → AreRight (order_for o) b →
    AreRight (order_for (record o { pools = with_variable o.pools id slot })) b
variable_idle o b id slot idle all = right_apart (order_for o) (order_for (record o { pools = with_variable o.pools id slot })) b
    (variable_apart o b id slot (λ object own is. let least = range_least 512 576 object own in own_idle b object (variable_object id) (omega (arith, least, is)) idle)) all

-- it is written in its own order
pub variable_same : (o : Objects) (b : Base) (id : ℕ) (k now : VariablePool) → entry o.pools.variable id ≡ Some k → now.order ≡ k.order → AreRight (order_for o) b →
    AreRight (order_for (record o { pools = with_variable o.pools id (Some now) })) b
variable_same o b id k now at same all = right_same (order_for o) (order_for (record o { pools = with_variable o.pools id (Some now) })) b
    (λ object. ap (λ (y : Option Order). let x : Option Order = cond (in_range 512 576 object) y (None) in cond (nat_lt object 2) (Some Fifo)
    (or_order (sem_flag_order o.sem_flags object) (or_order (mutex_order o.mutexes object)
    (or_order (mail_order o.mails object) (or_order (cond (in_range 448 512 object) (option_map (λ k. k.order) (fixed_at o.pools (object - 447))) (x))
    (device_order object))))))
    (order_written (λ (it : VariablePool). it.order) o.pools.variable id k now at same (object - 511))) all

-- ---- a message buffer

buffer_apart : (o : Objects) (b : Base) (id : ℕ) (slot : Option MessageBuffer) → ((object : ℕ) → in_range 320 384 object ≡ true → object - 319 ≡ id → IsIdle b object) →
    ((object : ℕ) → in_range 384 448 object ≡ true → object - 383 ≡ id → IsIdle b object) → IsApart (order_for o) (order_for (record o { mails = with_buffer o.mails id slot })) b
buffer_apart o b id slot sends receives object =
    ranges_apart (IsIdle b object) (in_range 320 384 object) (in_range 384 448 object) (λ x. cond (nat_lt object 2) (Some Fifo)
    (or_order (sem_flag_order o.sem_flags object) (or_order (mutex_order o.mutexes object)
    (or_order (cond (in_range 192 256 object) (option_map (λ k. k.order) (box_at o.mails (object - 191))) (x))
    (or_order (pool_order o.pools object) (device_order object))))))
    (option_map (λ k. k.order) (entry (slice_set o.mails.buffers id slot) (object - 319))) (option_map (λ k. k.order) (entry o.mails.buffers (object - 319)))
    (option_map (λ k. Fifo) (entry (slice_set o.mails.buffers id slot) (object - 383))) (option_map (λ k. Fifo) (entry o.mails.buffers (object - 383)))
    None
    (λ own. slot_apart (IsIdle b object) (λ k. k.order) o.mails.buffers id slot (object - 319) (sends object own))
    (λ own. slot_apart (IsIdle b object) (λ k. Fifo) o.mails.buffers id slot (object - 383) (receives object own))

-- a message buffer is written where there is none
pub buffer_free : (o : Objects) (b : Base) (id : ℕ) (slot : Option MessageBuffer) → (1 ≤ id → entry o.mails.buffers id ≡ None) → AreRight (order_for o) b →
    AreRight (order_for (record o { mails = with_buffer o.mails id slot })) b
buffer_free o b id slot free all = right_apart (order_for o) (order_for (record o { mails = with_buffer o.mails id slot })) b
    (buffer_apart o b id slot
    (λ object own is. none_idle (order_for o) b object all
    (let least = range_least 320 384 object own in senders_is o object own ∙ none_there (λ k. k.order) o.mails.buffers id (object - 319) free (omega (arith, least)) is))
    (λ object own is. none_idle (order_for o) b object all
    (let least = range_least 384 448 object own in receivers_is o object own ∙ none_there (λ k. Fifo) o.mails.buffers id (object - 383) free (omega (arith, least)) is))) all

-- it is made at the least free ID
pub buffer_made : (o : Objects) (b : Base) (slot : Option MessageBuffer) → AreRight (order_for o) b →
    AreRight (order_for (record o { mails = with_buffer o.mails (free_from 1 (drop 1 o.mails.buffers)) slot })) b
buffer_made o b slot all = let id : ℕ = free_from 1 (drop 1 o.mails.buffers) in buffer_free o b id slot (λ least. free_slot o.mails.buffers id least refl) all

-- it is written where nobody sends and nobody receives
pub buffer_idle : (o : Objects) (b : Base) (id : ℕ) (slot : Option MessageBuffer) → IsIdle b (senders_object id) → IsIdle b (receivers_object id) → AreRight (order_for o) b →
    AreRight (order_for (record o { mails = with_buffer o.mails id slot })) b
buffer_idle o b id slot sends receives all = right_apart (order_for o) (order_for (record o { mails = with_buffer o.mails id slot })) b
    (buffer_apart o b id slot
    (λ object own is. let least = range_least 320 384 object own in own_idle b object (senders_object id) (omega (arith, least, is)) sends)
    (λ object own is. let least = range_least 384 448 object own in own_idle b object (receivers_object id) (omega (arith, least, is)) receives)) all

-- it is written in its own order
pub buffer_same : (o : Objects) (b : Base) (id : ℕ) (k now : MessageBuffer) → entry o.mails.buffers id ≡ Some k → now.order ≡ k.order → AreRight (order_for o) b →
    AreRight (order_for (record o { mails = with_buffer o.mails id (Some now) })) b
buffer_same o b id k now at same all = right_same (order_for o) (order_for (record o { mails = with_buffer o.mails id (Some now) })) b
    (λ object. ap (λ (y : Option Order). let x : Option Order = cond (in_range 320 384 object) y
    (cond (in_range 384 448 object) (option_map (λ k. Fifo) (entry (slice_set o.mails.buffers id (Some now)) (object - 383))) None) in cond (nat_lt object 2) (Some Fifo)
    (or_order (sem_flag_order o.sem_flags object) (or_order (mutex_order o.mutexes object)
    (or_order (cond (in_range 192 256 object) (option_map (λ k. k.order) (box_at o.mails (object - 191))) (x))
    (or_order (pool_order o.pools object) (device_order object))))))
    (order_written (λ (it : MessageBuffer). it.order) o.mails.buffers id k now at same (object - 319))
    ∙ ap (λ (y : Option Order). let x : Option Order = cond (in_range 320 384 object) (option_map (λ k. k.order) (entry o.mails.buffers (object - 319)))
    (cond (in_range 384 448 object) y None) in cond (nat_lt object 2) (Some Fifo) (or_order (sem_flag_order o.sem_flags object)
    (or_order (mutex_order o.mutexes object) (or_order (cond (in_range 192 256 object) (option_map (λ k. k.order) (box_at o.mails (object - 191))) (x))
    (or_order (pool_order o.pools object) (device_order object))))))
    (order_written (λ (it : MessageBuffer). Fifo) o.mails.buffers id k now at refl (object - 383))) all
