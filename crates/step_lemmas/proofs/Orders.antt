-- What the families ask of their waiters, from what holds over all objects.
use Rattle.std.proofs.Common.{◌≡◌, ℕ, ◌≤◌, ◌<◌, length, true, Option, Some, None, refl, ◌∙◌, ap, subst, arith}
use Rattle.std.proofs.lemmas.Bool.Decides.{nat_tests}
use Rattle.std.specs.Option.{option_map}
use Rattle.tk_types.specs.declared.task.Order.{Order}
use Rattle.tk_types.specs.declared.task.Order.TheVariants.{Fifo}
use Rattle.tk_types.specs.declared.task.Phase.{Phase}
use Rattle.tk_types.specs.declared.task.Phase.TheVariants.{Waiting, Ready, Dormant}
use Rattle.tk_types.specs.declared.task.Task.{Task}
use Rattle.kernel_model.specs.declared.objects.Semaphore.{Semaphore}
use Rattle.kernel_model.specs.declared.objects.EventFlag.{EventFlag}
use Rattle.kernel_model.specs.Tasks.Base.{Base, task_at, waiting_in, waits_for, waits_in}
use Rattle.kernel_model.specs.Tasks.Queues.{AreOfOrder, queue_in}
use Rattle.kernel_model.specs.Tasks.Waits.{FitsPhase, FitsRow}
use Rattle.kernel_model.specs.SemFlags.Tables.{flag_at, flag_object, sem_at, sem_object}
use Rattle.object_model.specs.declared.mutexes.Mutex.{Mutex}
use Rattle.object_model.specs.Mutexes.Tables.{mutex_at, mutex_object}
use Rattle.object_model.specs.Mails.Tables.{Mailbox, MessageBuffer, box_at, box_object, buffer_at, bytes_of, place_of, receivers_object, senders_object}
use Rattle.object_model.specs.Mails.Buffers.{takes_length}
use Rattle.object_model.specs.Mails.Calls.{has_place}
use Rattle.object_model.specs.Pools.Tables.{FixedPool, VariablePool, fixed_at, fixed_object, size_of, variable_at, variable_object}
use Rattle.machine_model.specs.States.Objects.{Objects}
use Rattle.machine_model.specs.States.Waits.{IsOrderly, order_for}
use Rattle.order_lemmas.proofs.Ranges.{box_named, device_is, fixed_named, flag_named, mutex_named, receivers_named, sem_named, senders_named, variable_named}
use Rattle.step_lemmas.specs.Sound.{IsSound}

phase_order : (orders : ℕ → Option Order) (object : ℕ) (queued by : Order) (phase : Phase) → FitsPhase orders queued phase → waits_in object phase ≡ true → orders object ≡ Some by → queued ≡ by
phase_order orders object queued by Ready fits waits is = absurd (cc waits)
phase_order orders object queued by Dormant fits waits is = absurd (cc waits)
phase_order orders object queued by (Waiting other) fits waits is =
    let same : other ≡ object = grind (arith, nat_tests, waits) in
    let here : orders object ≡ Some queued = subst (λ (o : ℕ). orders o ≡ Some queued) same fits in
    cc (here, is)

row_order : (orders : ℕ → Option Order) (object : ℕ) (by : Order) (slot : Option Task) → FitsRow orders slot → waiting_in object slot ≡ true → orders object ≡ Some by → queue_in slot ≡ by
row_order orders object by None fits waits is = absurd (cc waits)
row_order orders object by (Some k) fits waits is = phase_order orders object k.queue by k.phase fits waits is

-- where tasks wait in the order of what they wait for, an object's waiters queue as it says
waiters_order : (b : Base) (o : Objects) (object : ℕ) (by : Order) → IsOrderly b o → order_for o object ≡ Some by → AreOfOrder by b object
waiters_order b o object by all is = record { alike = λ t waits. row_order (order_for o) object by (task_at b t) (all.each t) waits is }

pub sleepers_order : (b : Base) (o : Objects) → IsSound b o → AreOfOrder Fifo b 0
sleepers_order b o sound = waiters_order b o 0 Fifo sound.orderly refl

pub delayed_order : (b : Base) (o : Objects) → IsSound b o → AreOfOrder Fifo b 1
delayed_order b o sound = waiters_order b o 1 Fifo sound.orderly refl

pub device_waiters : (b : Base) (o : Objects) (object : ℕ) → IsSound b o → 576 ≤ object → object ≤ 648 → AreOfOrder Fifo b object
device_waiters b o object sound least most = waiters_order b o object Fifo sound.orderly (device_is o object least most)

pub sem_waiters : (b : Base) (o : Objects) (id : ℕ) (k : Semaphore) → IsSound b o → 1 ≤ id → id ≤ 64 → sem_at o.sem_flags id ≡ Some k → AreOfOrder k.order b (sem_object id)
sem_waiters b o id k sound one last at = waiters_order b o (sem_object id) k.order sound.orderly (sem_named o id one last ∙ ap {A = Option Semaphore} (option_map (λ s. s.order)) at)

pub flag_waiters : (b : Base) (o : Objects) (id : ℕ) (k : EventFlag) → IsSound b o → 1 ≤ id → id ≤ 64 → flag_at o.sem_flags id ≡ Some k → AreOfOrder k.order b (flag_object id)
flag_waiters b o id k sound one last at = waiters_order b o (flag_object id) k.order sound.orderly (flag_named o id one last ∙ ap {A = Option EventFlag} (option_map (λ s. s.order)) at)

pub box_waiters : (b : Base) (o : Objects) (id : ℕ) (k : Mailbox) → IsSound b o → 1 ≤ id → id ≤ 64 → box_at o.mails id ≡ Some k → AreOfOrder k.order b (box_object id)
box_waiters b o id k sound one last at = waiters_order b o (box_object id) k.order sound.orderly (box_named o id one last ∙ ap {A = Option Mailbox} (option_map (λ s. s.order)) at)

pub mutex_waiters : (b : Base) (o : Objects) (id : ℕ) (k : Mutex) → IsSound b o → 1 ≤ id → id ≤ 64 → mutex_at o.mutexes id ≡ Some k → AreOfOrder k.order b (mutex_object id)
mutex_waiters b o id k sound one last at = waiters_order b o (mutex_object id) k.order sound.orderly (mutex_named o id one last ∙ ap {A = Option Mutex} (option_map (λ s. s.order)) at)

pub sender_waiters : (b : Base) (o : Objects) (id : ℕ) (k : MessageBuffer) → IsSound b o → 1 ≤ id → id ≤ 64 → buffer_at o.mails id ≡ Some k → AreOfOrder k.order b (senders_object id)
sender_waiters b o id k sound one last at =
    waiters_order b o (senders_object id) k.order sound.orderly (senders_named o id one last ∙ ap {A = Option MessageBuffer} (option_map (λ s. s.order)) at)

pub receiver_waiters : (b : Base) (o : Objects) (id : ℕ) (k : MessageBuffer) → IsSound b o → 1 ≤ id → id ≤ 64 → buffer_at o.mails id ≡ Some k → AreOfOrder Fifo b (receivers_object id)
receiver_waiters b o id k sound one last at =
    waiters_order b o (receivers_object id) Fifo sound.orderly (receivers_named o id one last ∙ ap {A = Option MessageBuffer} (option_map (λ s. Fifo)) at)

pub fixed_waiters : (b : Base) (o : Objects) (id : ℕ) (k : FixedPool) → IsSound b o → 1 ≤ id → id ≤ 64 → fixed_at o.pools id ≡ Some k → AreOfOrder k.order b (fixed_object id)
fixed_waiters b o id k sound one last at = waiters_order b o (fixed_object id) k.order sound.orderly (fixed_named o id one last ∙ ap {A = Option FixedPool} (option_map (λ s. s.order)) at)

pub variable_waiters : (b : Base) (o : Objects) (id : ℕ) (k : VariablePool) → IsSound b o → 1 ≤ id → id ≤ 64 → variable_at o.pools id ≡ Some k → AreOfOrder k.order b (variable_object id)
variable_waiters b o id k sound one last at =
    waiters_order b o (variable_object id) k.order sound.orderly (variable_named o id one last ∙ ap {A = Option VariablePool} (option_map (λ s. s.order)) at)

-- ---- what waiters have asked for

pub sender_asks : (b : Base) (o : Objects) (id t : ℕ) (k : MessageBuffer) → IsSound b o → 1 ≤ id → id ≤ 64 → buffer_at o.mails id ≡ Some k → waits_for b (senders_object id) t ≡ true → takes_length (length (bytes_of o.mails t)) k ≡ true
sender_asks b o id t k sound one last at waits = sound.asked.senders id t k one last at waits

pub receiver_asks : (b : Base) (o : Objects) (id t : ℕ) (k : MessageBuffer) → IsSound b o → 1 ≤ id → id ≤ 64 → buffer_at o.mails id ≡ Some k → waits_for b (receivers_object id) t ≡ true → has_place (place_of o.mails t) k ≡ true
receiver_asks b o id t k sound one last at waits = sound.asked.receivers id t k one last at waits

pub size_asks : (b : Base) (o : Objects) (id t : ℕ) → IsSound b o → 1 ≤ id → id ≤ 64 → waits_for b (variable_object id) t ≡ true → 0 < size_of o.pools t
size_asks b o id t sound one last waits = sound.asked.sizes id t one last waits
