-- How the waiters of an object queue by the range of its number, and what writing one slot of a table leaves of that.
use Rattle.std.proofs.Common.{◌≡◌, ℕ, suc, zero, ◌+◌, ◌-◌, ◌≤◌, Bool, true, false, ◌&&◌, cond, List, [], ◌∷◌, Option, Some, None, drop, refl, ◌∙◌, ap, arith, ℤ, pos, negsuc, ◌⊎◌, inl, inr}
use Rattle.std.specs.Prelude.{int_le, nat_le, nat_lt, slice_set}
use Rattle.std.specs.Option.{option_map}
use Rattle.std.proofs.lemmas.Bool.Decides.{nat_tests}
use Rattle.tk_types.specs.declared.task.Order.{Order}
use Rattle.tk_types.specs.declared.task.Order.TheVariants.{Fifo}
use Rattle.kernel_model.specs.Words.Checks.{natural, within}
use Rattle.kernel_model.specs.Words.Orders.{entry, free_from}
use Rattle.kernel_model.specs.SemFlags.Tables.{sem_at, flag_at}
use Rattle.object_model.specs.Mutexes.Tables.{mutex_at}
use Rattle.object_model.specs.Mails.Tables.{box_at, buffer_at}
use Rattle.object_model.specs.Pools.Tables.{fixed_at, variable_at}
use Rattle.machine_model.specs.States.Objects.{Objects}
use Rattle.machine_model.specs.States.Waits.{order_for, or_order}
use Rattle.kernel_lemmas.proofs.Tables.{entry_each}

-- ---- ranges

-- where two tests hold together, each does
both_true : (a b : Bool) → (a && b) ≡ true → (a ≡ true) × (b ≡ true)
both_true true b both = (refl, both)
both_true false b both = absurd (cc both)

second_false : (a b : Bool) → b ≡ false → (a && b) ≡ false
second_false true b is = is
second_false false b is = refl

-- whether a number stands in a range, which ends before its second bound
abbrev pub in_range : ℕ → ℕ → ℕ → Bool
in_range low high object = nat_le low object && nat_lt object high

-- a number of a range isn't below it
pub range_least : (low high object : ℕ) → in_range low high object ≡ true → low ≤ object
range_least low high object is = let parts = both_true (nat_le low object) (nat_lt object high) is in let least : nat_le low object ≡ true = parts.0 in grind
    (arith, nat_tests, least)

range_past : (low high object : ℕ) → high ≤ object → in_range low high object ≡ false
range_past low high object past = second_false (nat_le low object) (nat_lt object high) (grind (arith, nat_tests, past))

at_least : (n object : ℕ) → object ≤ n → nat_le object n ≡ true
at_least n object is = grind (arith, nat_tests, is)

range_true : (low high object : ℕ) → low ≤ object → object + 1 ≤ high → in_range low high object ≡ true
range_true low high object least most = let first : nat_le low object ≡ true = grind (arith, nat_tests, least) in let second : nat_lt object high ≡ true = grind
    (arith, nat_tests, most) in rw (first, second) refl

not_task : (object : ℕ) → 2 ≤ object → nat_lt object 2 ≡ false
not_task object is = grind (arith, nat_tests, is)

first_false : (a b : Bool) → a ≡ false → (a && b) ≡ false
first_false true b is = absurd (cc is)
first_false false b is = refl

-- and is below its end
range_most : (low high object : ℕ) → in_range low high object ≡ true → object + 1 ≤ high
range_most low high object is = let parts = both_true (nat_le low object) (nat_lt object high) is in let most : nat_lt object high ≡ true = parts.1 in grind
    (arith, nat_tests, most)

range_before : (low high object : ℕ) → object + 1 ≤ low → in_range low high object ≡ false
range_before low high object before = first_false (nat_le low object) (nat_lt object high) (grind (arith, nat_tests, before))

device_before : (object : ℕ) → object + 1 ≤ 576 → (nat_le 576 object && nat_le object 648) ≡ false
device_before object before = first_false (nat_le 576 object) (nat_le object 648) (grind (arith, nat_tests, before))

device_true : (object : ℕ) → 576 ≤ object → object ≤ 648 → (nat_le 576 object && nat_le object 648) ≡ true
device_true object least most = let first : nat_le 576 object ≡ true = grind (arith, nat_tests, least) in let second : nat_le object 648 ≡ true = grind
    (arith, nat_tests, most) in rw (first, second) refl

or_none : (order : Option Order) → or_order order None ≡ order
or_none None = refl
or_none (Some order) = refl

-- ---- the order of an object by its range

-- that of a semaphore
pub sem_is : (o : Objects) (object : ℕ) → in_range 64 128 object ≡ true → order_for o object ≡ option_map (λ k. k.order) (sem_at o.sem_flags (object - 63))
sem_is o object own =
    let least = range_least 64 128 object own in
    let most = range_most 64 128 object own in
    let task : nat_lt object 2 ≡ false = not_task object (omega (arith, least)) in
    let not_flag : (nat_le 128 object && nat_lt object 192) ≡ false = range_before 128 192 object (omega (arith, most)) in
    let not_box : (nat_le 192 object && nat_lt object 256) ≡ false = range_before 192 256 object (omega (arith, most)) in
    let not_mutex : (nat_le 256 object && nat_lt object 320) ≡ false = range_before 256 320 object (omega (arith, most)) in
    let not_senders : (nat_le 320 object && nat_lt object 384) ≡ false = range_before 320 384 object (omega (arith, most)) in
    let not_receivers : (nat_le 384 object && nat_lt object 448) ≡ false = range_before 384 448 object (omega (arith, most)) in
    let not_fixed : (nat_le 448 object && nat_lt object 512) ≡ false = range_before 448 512 object (omega (arith, most)) in
    let not_variable : (nat_le 512 object && nat_lt object 576) ≡ false = range_before 512 576 object (omega (arith, most)) in
    let not_device = device_before object (omega (arith, most)) in
    rw (task, not_flag, not_box, not_mutex, not_senders, not_receivers, not_fixed, not_variable, not_device, own)
    (or_none (option_map (λ k. k.order) (sem_at o.sem_flags (object - 63))))

-- that of an event flag
pub flag_is : (o : Objects) (object : ℕ) → in_range 128 192 object ≡ true → order_for o object ≡ option_map (λ k. k.order) (flag_at o.sem_flags (object - 127))
flag_is o object own =
    let least = range_least 128 192 object own in
    let most = range_most 128 192 object own in
    let task : nat_lt object 2 ≡ false = not_task object (omega (arith, least)) in
    let not_sem : (nat_le 64 object && nat_lt object 128) ≡ false = range_past 64 128 object (omega (arith, least)) in
    let not_box : (nat_le 192 object && nat_lt object 256) ≡ false = range_before 192 256 object (omega (arith, most)) in
    let not_mutex : (nat_le 256 object && nat_lt object 320) ≡ false = range_before 256 320 object (omega (arith, most)) in
    let not_senders : (nat_le 320 object && nat_lt object 384) ≡ false = range_before 320 384 object (omega (arith, most)) in
    let not_receivers : (nat_le 384 object && nat_lt object 448) ≡ false = range_before 384 448 object (omega (arith, most)) in
    let not_fixed : (nat_le 448 object && nat_lt object 512) ≡ false = range_before 448 512 object (omega (arith, most)) in
    let not_variable : (nat_le 512 object && nat_lt object 576) ≡ false = range_before 512 576 object (omega (arith, most)) in
    let not_device = device_before object (omega (arith, most)) in
    rw (task, not_sem, not_box, not_mutex, not_senders, not_receivers, not_fixed, not_variable, not_device, own)
    (or_none (option_map (λ k. k.order) (flag_at o.sem_flags (object - 127))))

-- that of a mailbox
pub box_is : (o : Objects) (object : ℕ) → in_range 192 256 object ≡ true → order_for o object ≡ option_map (λ k. k.order) (box_at o.mails (object - 191))
box_is o object own =
    let least = range_least 192 256 object own in
    let most = range_most 192 256 object own in
    let task : nat_lt object 2 ≡ false = not_task object (omega (arith, least)) in
    let not_sem : (nat_le 64 object && nat_lt object 128) ≡ false = range_past 64 128 object (omega (arith, least)) in
    let not_flag : (nat_le 128 object && nat_lt object 192) ≡ false = range_past 128 192 object (omega (arith, least)) in
    let not_mutex : (nat_le 256 object && nat_lt object 320) ≡ false = range_before 256 320 object (omega (arith, most)) in
    let not_senders : (nat_le 320 object && nat_lt object 384) ≡ false = range_before 320 384 object (omega (arith, most)) in
    let not_receivers : (nat_le 384 object && nat_lt object 448) ≡ false = range_before 384 448 object (omega (arith, most)) in
    let not_fixed : (nat_le 448 object && nat_lt object 512) ≡ false = range_before 448 512 object (omega (arith, most)) in
    let not_variable : (nat_le 512 object && nat_lt object 576) ≡ false = range_before 512 576 object (omega (arith, most)) in
    let not_device = device_before object (omega (arith, most)) in
    rw (task, not_sem, not_flag, not_mutex, not_senders, not_receivers, not_fixed, not_variable, not_device, own)
    (or_none (option_map (λ k. k.order) (box_at o.mails (object - 191))))

-- that of a mutex
pub mutex_is : (o : Objects) (object : ℕ) → in_range 256 320 object ≡ true → order_for o object ≡ option_map (λ k. k.order) (mutex_at o.mutexes (object - 255))
mutex_is o object own =
    let least = range_least 256 320 object own in
    let most = range_most 256 320 object own in
    let task : nat_lt object 2 ≡ false = not_task object (omega (arith, least)) in
    let not_sem : (nat_le 64 object && nat_lt object 128) ≡ false = range_past 64 128 object (omega (arith, least)) in
    let not_flag : (nat_le 128 object && nat_lt object 192) ≡ false = range_past 128 192 object (omega (arith, least)) in
    let not_box : (nat_le 192 object && nat_lt object 256) ≡ false = range_past 192 256 object (omega (arith, least)) in
    let not_senders : (nat_le 320 object && nat_lt object 384) ≡ false = range_before 320 384 object (omega (arith, most)) in
    let not_receivers : (nat_le 384 object && nat_lt object 448) ≡ false = range_before 384 448 object (omega (arith, most)) in
    let not_fixed : (nat_le 448 object && nat_lt object 512) ≡ false = range_before 448 512 object (omega (arith, most)) in
    let not_variable : (nat_le 512 object && nat_lt object 576) ≡ false = range_before 512 576 object (omega (arith, most)) in
    let not_device = device_before object (omega (arith, most)) in
    rw (task, not_sem, not_flag, not_box, not_senders, not_receivers, not_fixed, not_variable, not_device, own)
    (or_none (option_map (λ k. k.order) (mutex_at o.mutexes (object - 255))))

-- that of the senders of a message buffer
pub senders_is : (o : Objects) (object : ℕ) → in_range 320 384 object ≡ true → order_for o object ≡ option_map (λ k. k.order) (buffer_at o.mails (object - 319))
senders_is o object own =
    let least = range_least 320 384 object own in
    let most = range_most 320 384 object own in
    let task : nat_lt object 2 ≡ false = not_task object (omega (arith, least)) in
    let not_sem : (nat_le 64 object && nat_lt object 128) ≡ false = range_past 64 128 object (omega (arith, least)) in
    let not_flag : (nat_le 128 object && nat_lt object 192) ≡ false = range_past 128 192 object (omega (arith, least)) in
    let not_box : (nat_le 192 object && nat_lt object 256) ≡ false = range_past 192 256 object (omega (arith, least)) in
    let not_mutex : (nat_le 256 object && nat_lt object 320) ≡ false = range_past 256 320 object (omega (arith, least)) in
    let not_receivers : (nat_le 384 object && nat_lt object 448) ≡ false = range_before 384 448 object (omega (arith, most)) in
    let not_fixed : (nat_le 448 object && nat_lt object 512) ≡ false = range_before 448 512 object (omega (arith, most)) in
    let not_variable : (nat_le 512 object && nat_lt object 576) ≡ false = range_before 512 576 object (omega (arith, most)) in
    let not_device = device_before object (omega (arith, most)) in
    rw (task, not_sem, not_flag, not_box, not_mutex, not_receivers, not_fixed, not_variable, not_device, own)
    (or_none (option_map (λ k. k.order) (buffer_at o.mails (object - 319))))

-- that of the receivers of a message buffer
pub receivers_is : (o : Objects) (object : ℕ) → in_range 384 448 object ≡ true → order_for o object ≡ option_map (λ k. Fifo) (buffer_at o.mails (object - 383))
receivers_is o object own =
    let least = range_least 384 448 object own in
    let most = range_most 384 448 object own in
    let task : nat_lt object 2 ≡ false = not_task object (omega (arith, least)) in
    let not_sem : (nat_le 64 object && nat_lt object 128) ≡ false = range_past 64 128 object (omega (arith, least)) in
    let not_flag : (nat_le 128 object && nat_lt object 192) ≡ false = range_past 128 192 object (omega (arith, least)) in
    let not_box : (nat_le 192 object && nat_lt object 256) ≡ false = range_past 192 256 object (omega (arith, least)) in
    let not_mutex : (nat_le 256 object && nat_lt object 320) ≡ false = range_past 256 320 object (omega (arith, least)) in
    let not_senders : (nat_le 320 object && nat_lt object 384) ≡ false = range_past 320 384 object (omega (arith, least)) in
    let not_fixed : (nat_le 448 object && nat_lt object 512) ≡ false = range_before 448 512 object (omega (arith, most)) in
    let not_variable : (nat_le 512 object && nat_lt object 576) ≡ false = range_before 512 576 object (omega (arith, most)) in
    let not_device = device_before object (omega (arith, most)) in
    rw (task, not_sem, not_flag, not_box, not_mutex, not_senders, not_fixed, not_variable, not_device, own) (or_none (option_map (λ k. Fifo) (buffer_at o.mails (object - 383))))

-- that of a fixed pool
pub fixed_is : (o : Objects) (object : ℕ) → in_range 448 512 object ≡ true → order_for o object ≡ option_map (λ k. k.order) (fixed_at o.pools (object - 447))
fixed_is o object own =
    let least = range_least 448 512 object own in
    let most = range_most 448 512 object own in
    let task : nat_lt object 2 ≡ false = not_task object (omega (arith, least)) in
    let not_sem : (nat_le 64 object && nat_lt object 128) ≡ false = range_past 64 128 object (omega (arith, least)) in
    let not_flag : (nat_le 128 object && nat_lt object 192) ≡ false = range_past 128 192 object (omega (arith, least)) in
    let not_box : (nat_le 192 object && nat_lt object 256) ≡ false = range_past 192 256 object (omega (arith, least)) in
    let not_mutex : (nat_le 256 object && nat_lt object 320) ≡ false = range_past 256 320 object (omega (arith, least)) in
    let not_senders : (nat_le 320 object && nat_lt object 384) ≡ false = range_past 320 384 object (omega (arith, least)) in
    let not_receivers : (nat_le 384 object && nat_lt object 448) ≡ false = range_past 384 448 object (omega (arith, least)) in
    let not_variable : (nat_le 512 object && nat_lt object 576) ≡ false = range_before 512 576 object (omega (arith, most)) in
    let not_device = device_before object (omega (arith, most)) in
    rw (task, not_sem, not_flag, not_box, not_mutex, not_senders, not_receivers, not_variable, not_device, own)
    (or_none (option_map (λ k. k.order) (fixed_at o.pools (object - 447))))

-- that of a variable pool
pub variable_is : (o : Objects) (object : ℕ) → in_range 512 576 object ≡ true → order_for o object ≡ option_map (λ k. k.order) (variable_at o.pools (object - 511))
variable_is o object own =
    let least = range_least 512 576 object own in
    let most = range_most 512 576 object own in
    let task : nat_lt object 2 ≡ false = not_task object (omega (arith, least)) in
    let not_sem : (nat_le 64 object && nat_lt object 128) ≡ false = range_past 64 128 object (omega (arith, least)) in
    let not_flag : (nat_le 128 object && nat_lt object 192) ≡ false = range_past 128 192 object (omega (arith, least)) in
    let not_box : (nat_le 192 object && nat_lt object 256) ≡ false = range_past 192 256 object (omega (arith, least)) in
    let not_mutex : (nat_le 256 object && nat_lt object 320) ≡ false = range_past 256 320 object (omega (arith, least)) in
    let not_senders : (nat_le 320 object && nat_lt object 384) ≡ false = range_past 320 384 object (omega (arith, least)) in
    let not_receivers : (nat_le 384 object && nat_lt object 448) ≡ false = range_past 384 448 object (omega (arith, least)) in
    let not_fixed : (nat_le 448 object && nat_lt object 512) ≡ false = range_past 448 512 object (omega (arith, least)) in
    let not_device = device_before object (omega (arith, most)) in
    rw (task, not_sem, not_flag, not_box, not_mutex, not_senders, not_receivers, not_fixed, not_device, own)
    (or_none (option_map (λ k. k.order) (variable_at o.pools (object - 511))))

-- that of a wait for a device
pub device_is : (o : Objects) (object : ℕ) → 576 ≤ object → object ≤ 648 → order_for o object ≡ Some Fifo
device_is o object least most =
    let task : nat_lt object 2 ≡ false = not_task object (omega (arith, least)) in
    let not_sem : (nat_le 64 object && nat_lt object 128) ≡ false = range_past 64 128 object (omega (arith, least)) in
    let not_flag : (nat_le 128 object && nat_lt object 192) ≡ false = range_past 128 192 object (omega (arith, least)) in
    let not_box : (nat_le 192 object && nat_lt object 256) ≡ false = range_past 192 256 object (omega (arith, least)) in
    let not_mutex : (nat_le 256 object && nat_lt object 320) ≡ false = range_past 256 320 object (omega (arith, least)) in
    let not_senders : (nat_le 320 object && nat_lt object 384) ≡ false = range_past 320 384 object (omega (arith, least)) in
    let not_receivers : (nat_le 384 object && nat_lt object 448) ≡ false = range_past 384 448 object (omega (arith, least)) in
    let not_fixed : (nat_le 448 object && nat_lt object 512) ≡ false = range_past 448 512 object (omega (arith, least)) in
    let not_variable : (nat_le 512 object && nat_lt object 576) ≡ false = range_past 512 576 object (omega (arith, least)) in
    let own = device_true object least most in
    rw (task, not_sem, not_flag, not_box, not_mutex, not_senders, not_receivers, not_fixed, not_variable, own) refl

-- ---- the order of an object by its ID

-- that of a semaphore
pub sem_named : (o : Objects) (id : ℕ) → 1 ≤ id → id ≤ 64 → order_for o (63 + id) ≡ option_map (λ k. k.order) (sem_at o.sem_flags id)
sem_named o id least most =
    let back : 63 + id - 63 ≡ id = omega arith in
    sem_is o (63 + id) (range_true 64 128 (63 + id) (omega (arith, least)) (omega (arith, most))) ∙ ap (λ (n : ℕ). option_map (λ k. k.order) (sem_at o.sem_flags n)) back

-- that of an event flag
pub flag_named : (o : Objects) (id : ℕ) → 1 ≤ id → id ≤ 64 → order_for o (127 + id) ≡ option_map (λ k. k.order) (flag_at o.sem_flags id)
flag_named o id least most =
    let back : 127 + id - 127 ≡ id = omega arith in
    flag_is o (127 + id) (range_true 128 192 (127 + id) (omega (arith, least)) (omega (arith, most))) ∙ ap (λ (n : ℕ). option_map (λ k. k.order) (flag_at o.sem_flags n)) back

-- that of a mailbox
pub box_named : (o : Objects) (id : ℕ) → 1 ≤ id → id ≤ 64 → order_for o (191 + id) ≡ option_map (λ k. k.order) (box_at o.mails id)
box_named o id least most =
    let back : 191 + id - 191 ≡ id = omega arith in
    box_is o (191 + id) (range_true 192 256 (191 + id) (omega (arith, least)) (omega (arith, most))) ∙ ap (λ (n : ℕ). option_map (λ k. k.order) (box_at o.mails n)) back

-- that of a mutex
pub mutex_named : (o : Objects) (id : ℕ) → 1 ≤ id → id ≤ 64 → order_for o (255 + id) ≡ option_map (λ k. k.order) (mutex_at o.mutexes id)
mutex_named o id least most =
    let back : 255 + id - 255 ≡ id = omega arith in
    mutex_is o (255 + id) (range_true 256 320 (255 + id) (omega (arith, least)) (omega (arith, most))) ∙ ap (λ (n : ℕ). option_map (λ k. k.order) (mutex_at o.mutexes n)) back

-- that of the senders of a message buffer
pub senders_named : (o : Objects) (id : ℕ) → 1 ≤ id → id ≤ 64 → order_for o (319 + id) ≡ option_map (λ k. k.order) (buffer_at o.mails id)
senders_named o id least most =
    let back : 319 + id - 319 ≡ id = omega arith in
    senders_is o (319 + id) (range_true 320 384 (319 + id) (omega (arith, least)) (omega (arith, most))) ∙ ap (λ (n : ℕ). option_map (λ k. k.order) (buffer_at o.mails n)) back

-- that of the receivers of a message buffer
pub receivers_named : (o : Objects) (id : ℕ) → 1 ≤ id → id ≤ 64 → order_for o (383 + id) ≡ option_map (λ k. Fifo) (buffer_at o.mails id)
receivers_named o id least most =
    let back : 383 + id - 383 ≡ id = omega arith in
    receivers_is o (383 + id) (range_true 384 448 (383 + id) (omega (arith, least)) (omega (arith, most))) ∙ ap (λ (n : ℕ). option_map (λ k. Fifo) (buffer_at o.mails n)) back

-- that of a fixed pool
pub fixed_named : (o : Objects) (id : ℕ) → 1 ≤ id → id ≤ 64 → order_for o (447 + id) ≡ option_map (λ k. k.order) (fixed_at o.pools id)
fixed_named o id least most =
    let back : 447 + id - 447 ≡ id = omega arith in
    fixed_is o (447 + id) (range_true 448 512 (447 + id) (omega (arith, least)) (omega (arith, most))) ∙ ap (λ (n : ℕ). option_map (λ k. k.order) (fixed_at o.pools n)) back

-- that of a variable pool
pub variable_named : (o : Objects) (id : ℕ) → 1 ≤ id → id ≤ 64 → order_for o (511 + id) ≡ option_map (λ k. k.order) (variable_at o.pools id)
variable_named o id least most =
    let back : 511 + id - 511 ≡ id = omega arith in
    variable_is o (511 + id) (range_true 512 576 (511 + id) (omega (arith, least)) (omega (arith, most))) ∙ ap (λ (n : ℕ). option_map (λ k. k.order) (variable_at o.pools n)) back

-- ---- free IDs

free_above : {A : Type 0} → (from : ℕ) (slots : List (Option A)) → (free_from from slots ≡ 0) ⊎ (from ≤ free_from from slots)
unfolding free_from
free_above from [] = inl refl
free_above from (None ∷ slots) = inr (omega arith)
free_above from (Some k ∷ slots) = above_next from (free_from (from + 1) slots) (free_above (from + 1) slots)
  where
    above_next : (from free : ℕ) → (free ≡ 0) ⊎ (from + 1 ≤ free) → (free ≡ 0) ⊎ (from ≤ free)
    above_next from free (inl none) = inl none
    above_next from free (inr above) = inr (omega arith)

not_taken : {A : Type 0} → (from : ℕ) (k : A) (slots : List (Option A)) → 1 ≤ from → (free_from (from + 1) slots ≡ 0) ⊎ (from + 1 ≤ free_from (from + 1) slots) →
    from ≡ free_from (from + 1) slots → ⊥
not_taken from k slots one (inl none) is = absurd (omega arith)
not_taken from k slots one (inr above) is = absurd (omega arith)

free_at : {A : Type 0} → (from : ℕ) (slots : List (Option A)) (place : ℕ) → 1 ≤ from → from + place ≡ free_from from slots → entry slots place ≡ None
unfolding free_from
free_at from [] place one is = refl
free_at from (None ∷ slots) zero one is = refl
free_at from (None ∷ slots) (suc place) one is = absurd (omega (arith, is))
free_at from (Some k ∷ slots) zero one is = absurd (not_taken from k slots one (free_above (from + 1) slots)
    (let same : from + 0 ≡ free_from (from + 1) slots = is in omega arith))
free_at from (Some k ∷ slots) (suc place) one is = free_at (from + 1) slots place (omega arith) (let same : from + suc place ≡ free_from (from + 1) slots = is in omega arith)

-- the slot of the least free ID is free
pub free_slot : {A : Type 0} → (slots : List (Option A)) (id : ℕ) → 1 ≤ id → id ≡ free_from 1 (drop 1 slots) → entry slots id ≡ None
free_slot [] id one is = refl
free_slot (slot ∷ slots) zero one is = absurd (omega arith)
free_slot (slot ∷ slots) (suc id) one is = free_at 1 slots id (omega arith) (let same : suc id ≡ free_from 1 slots = is in omega arith)

-- an ID that a check let through
pub known_id : (most : ℕ) (id : ℤ) → within 1 most id ≡ true → (1 ≤ natural id) × (natural id ≤ most)
known_id most (pos n) test =
    let parts = both_true (int_le (pos 1) (pos n)) (int_le (pos n) (pos most)) test in
    let low : nat_le 1 n ≡ true = parts.0 in
    let high : nat_le n most ≡ true = parts.1 in
    (grind (arith, nat_tests, low), grind (arith, nat_tests, high))
known_id most (negsuc n) test = absurd (cc test)

-- ---- tables

joined : (Idle : Type 0) (whole : Option Order → Option Order) (x y : Option Order) → (x ≡ y) ⊎ Idle → (whole x ≡ whole y) ⊎ Idle
joined Idle whole x y (inl same) = inl (ap whole same)
joined Idle whole x y (inr idle) = inr idle

-- what is chosen in a range stays the same, or is idle, where that holds of the range
pub range_apart : (Idle : Type 0) (range : Bool) (whole : Option Order → Option Order) (x y other : Option Order) → (range ≡ true → (x ≡ y) ⊎ Idle) →
    (whole (cond range x other) ≡ whole (cond range y other)) ⊎ Idle
range_apart Idle true whole x y other at = joined Idle whole x y (at refl)
range_apart Idle false whole x y other at = inl refl

-- the same of two ranges behind one another
pub ranges_apart : (Idle : Type 0) (one two : Bool) (whole : Option Order → Option Order) (x y v w other : Option Order) → (one ≡ true → (x ≡ y) ⊎ Idle) →
    (two ≡ true → (v ≡ w) ⊎ Idle) →
    (whole (cond one x (cond two v other)) ≡ whole (cond one y (cond two w other))) ⊎ Idle
ranges_apart Idle true two whole x y v w other first second = joined Idle whole x y (first refl)
ranges_apart Idle false two whole x y v w other first second = range_apart Idle two whole v w other second

-- a slot that is written says the order of the others as before, and nobody waits for its own object
pub slot_apart : {A : Type 0} → (Idle : Type 0) (order : A → Order) (slots : List (Option A)) (id : ℕ) (slot : Option A) (i : ℕ) → (i ≡ id → Idle) →
    (option_map order (entry (slice_set slots id slot) i) ≡ option_map order (entry slots i)) ⊎ Idle
slot_apart Idle order slots id slot i idle =
    entry_each (λ j now. (j ≡ id → Idle) → (option_map order now ≡ option_map order (entry slots j)) ⊎ Idle) slots id slot
    (λ own. inr (own refl)) (λ j apart own. inl refl) i idle
