-- What the calls on mailboxes and message buffers keep, what their servings keep, and what sends of the kernel itself keep, every
-- event keeps: nothing else changes mailboxes and message buffers.
use Rattle.std.proofs.Common.{◌≡◌, ℕ, List, Option, Some, None, refl, sym, subst}
use Rattle.std.specs.Option.{option_map}
use Rattle.tk_types.specs.declared.run.Mode.{Mode}
use Rattle.tk_types.specs.declared.run.Mode.TheVariants as modes
use Rattle.tk_types.specs.declared.script.Script.{Script}
use Rattle.kernel_model.specs.Bodies.Statements.{IsRunnable}
use Rattle.kernel_model.specs.SemFlags.Tables.{serve_sem_flag}
use Rattle.object_model.specs.Mutexes.Tables.{serve_mutexes}
use Rattle.object_model.specs.Mails.Tables.{Mails, mails_start}
use Rattle.object_model.specs.Mails.Boxes.{serve_mailboxes}
use Rattle.object_model.specs.Mails.Buffers.{serve_buffers}
use Rattle.object_model.specs.Pools.Fixed.{serve_fixed_pools}
use Rattle.object_model.specs.Pools.Variable.{serve_variable_pools}
use Rattle.device_model.specs.Devices.Servings.{serve_acceptances, serve_closes, serve_endings, serve_suspension}
use Rattle.machine_model.specs.States.Objects.{Parts, dev_parts, first_serving, mail_parts, pool_parts, serve_object, with_devices, with_mails, with_mutexes, with_pools, with_sem_flags}
use Rattle.machine_model.specs.States.State.{state_start}
use Rattle.machine_model.specs.Events.Settle.{handed}
use Rattle.machine_model.specs.Runs.Reached.{Move, state_after}
use Rattle.mail_laws.specs.Rooms.{HaveRoom}
use Rattle.mail_laws.specs.Turns.{AreInTurn}
use Rattle.mail_laws.proofs.Keeps as mails
use Rattle.mail_laws.proofs.Keeps.{boxes_keep, buffers_keep, call_keeps, post_keeps}
use Rattle.mail_laws.proofs.Room.{room_kept, start_room}
use Rattle.mail_laws.proofs.Turns.{start_turns, turns_kept}
use Rattle.machine_lemmas.proofs.BaseKept.{HasSlots, slots_are_kept, start_slots}
use Rattle.machine_lemmas.proofs.Reached.{reached_has}
use Rattle.machine_lemmas.proofs.Walk.{IsKept}
use Rattle.order_lemmas.proofs.Moves.{arrive_mails}
use Rattle.held_laws.proofs.DeviceMails.{acceptances_have, closes_have, device_calls_have, endings_have, suspension_has}

-- ---- servings

-- it holds of what is served
abbrev After : (Mails → Type 0) → Option Parts → Type 0
After P next = (q : Parts) → next ≡ Some q → P q.objects.mails

mapped_has : {A : Type 0} → (P : Mails → Type 0) (put : A → Parts) (served : Option A) → ((l : A) → served ≡ Some l → P (put l).objects.mails) → After P (option_map put served)
mapped_has P put None each q is = absurd (cc is)
mapped_has P put (Some l) each q is = let e : put l ≡ q = cc is in subst (λ (it : Parts). P it.objects.mails) e (each l refl)

two_have : (P : Mails → Type 0) (here next : Option Parts) → After P here → After P next → After P (elim here as (λ _. Option Parts) [ Some served ↦ Some served | None ↦ next ])
two_have P (Some served) next first later = first
two_have P None next first later = later

none_has : (P : Mails → Type 0) → After P None
none_has P q is = absurd (cc is)

served_has : (P : Mails → Type 0) → mails.IsKept P → (p : Parts) → P p.objects.mails → After P (serve_object p)
unfolding serve_object first_serving
served_has P keeps p has =
    two_have P _ _ (mapped_has P (with_sem_flags p) (serve_sem_flag p.base p.objects.sem_flags) (λ l is. has))
    (two_have P _ _ (mapped_has P (with_mails p) (serve_mailboxes (mail_parts p)) (λ l is. boxes_keep P keeps (mail_parts p) l has is))
    (two_have P _ _ (mapped_has P (with_mutexes p) (serve_mutexes p.base p.objects.mutexes) (λ l is. has))
    (two_have P _ _ (mapped_has P (with_mails p) (serve_buffers (mail_parts p)) (λ l is. buffers_keep P keeps (mail_parts p) l has is))
    (two_have P _ _ (mapped_has P (with_pools p) (serve_fixed_pools (pool_parts p)) (λ l is. has))
    (two_have P _ _ (mapped_has P (with_pools p) (serve_variable_pools (pool_parts p)) (λ l is. has))
    (two_have P _ _ (mapped_has P (with_devices p) (serve_acceptances (dev_parts p)) (λ l is. acceptances_have P (dev_parts p) l has is))
    (two_have P _ _ (mapped_has P (with_devices p) (serve_endings (dev_parts p)) (λ l is. endings_have P (dev_parts p) l has is))
    (two_have P _ _ (mapped_has P (with_devices p) (serve_closes (dev_parts p)) (λ l is. closes_have P (dev_parts p) l has is))
    (two_have P _ _ (mapped_has P (with_devices p) (serve_suspension (dev_parts p)) (λ l is. suspension_has P (post_keeps P keeps) (dev_parts p) l has is))
    (none_has P))))))))))

-- ---- every event

-- what is to be kept of mailboxes and message buffers, and the slots of tasks
pub record MailsHave (P : Mails → Type 0) (p : Parts) : Type 0 where
  pub mails : P p.objects.mails
  pub slots : HasSlots p

handed_has : (P : Mails → Type 0) (mode : Mode) (p : Parts) → P p.objects.mails → P (handed mode p).objects.mails
handed_has P modes.Sync p has = has
handed_has P modes.Free p has = has

-- what the family itself keeps, every event keeps
pub mails_kept : (P : Mails → Type 0) → mails.IsKept P → IsKept (MailsHave P)
mails_kept P keeps = record {
  few = λ p has. has.slots.few;
  task_calls = λ p who c has. record { mails = has.mails; slots = slots_are_kept.task_calls p who c has.slots };
  sem_flag_calls = λ p who c has. record { mails = has.mails; slots = slots_are_kept.sem_flag_calls p who c has.slots };
  mutex_calls = λ p who c has. record { mails = has.mails; slots = slots_are_kept.mutex_calls p who c has.slots };
  mail_calls = λ p who c has. record { mails = call_keeps P keeps (mail_parts p) who c has.mails; slots = slots_are_kept.mail_calls p who c has.slots };
  pool_calls = λ p who c has. record { mails = has.mails; slots = slots_are_kept.pool_calls p who c has.slots };
  time_calls = λ p c has. record { mails = has.mails; slots = slots_are_kept.time_calls p c has.slots };
  context_calls = λ p who c has. record { mails = has.mails; slots = slots_are_kept.context_calls p who c has.slots };
  device_calls = λ p who c has. record { mails = device_calls_have P (post_keeps P keeps) (dev_parts p) who c has.mails; slots = slots_are_kept.device_calls p who c has.slots };
  left = λ p t all has. record { mails = has.mails; slots = slots_are_kept.left p t all has.slots };
  freed = λ p t m is has. record { mails = has.mails; slots = slots_are_kept.freed p t m is has.slots };
  deleted = λ p t has. record { mails = has.mails; slots = slots_are_kept.deleted p t has.slots };
  refreshed = λ p t priority has. record { mails = has.mails; slots = slots_are_kept.refreshed p t priority has.slots };
  served = λ p q few is has. record { mails = served_has P keeps p has.mails q is; slots = slots_are_kept.served p q few is has.slots };
  handed = λ mode p has. record { mails = handed_has P mode p has.mails; slots = slots_are_kept.handed mode p has.slots };
  handed_first = λ p has. record { mails = has.mails; slots = slots_are_kept.handed_first p has.slots };
  messages = λ p has. record { mails = has.mails; slots = slots_are_kept.messages p has.slots };
  arrived = λ p e q is has. record { mails = subst P (sym (arrive_mails (dev_parts p) q e is)) has.mails; slots = slots_are_kept.arrived p e q is has.slots };
  released = λ p t answer has. record { mails = has.mails; slots = slots_are_kept.released p t answer has.slots };
  again = λ p what has. record { mails = has.mails; slots = slots_are_kept.again p what has.slots };
  taken = λ p has. record { mails = has.mails; slots = slots_are_kept.taken p has.slots };
  advanced = λ p has. record { mails = has.mails; slots = slots_are_kept.advanced p has.slots };
  flagged = λ p flags has. record { mails = has.mails; slots = slots_are_kept.flagged p flags has.slots };
  turned = λ p cur has. record { mails = has.mails; slots = slots_are_kept.turned p cur has.slots };
  emptied = λ p has. record { mails = has.mails; slots = slots_are_kept.emptied p has.slots };
  written = λ p memory has. record { mails = has.mails; slots = slots_are_kept.written p memory has.slots };
}

-- what holds at the start and is kept holds in every state that a machine comes to
pub reached_mails : (P : Mails → Type 0) → mails.IsKept P → P mails_start →
    (script : Script) (mode : Mode) (budget : ℕ) (moves : List Move) → IsRunnable script → P (state_after script mode budget moves).objects.mails
unfolding state_start
reached_mails P keeps starts script mode budget moves runnable =
    (reached_has (MailsHave P) (mails_kept P keeps) script mode budget moves (record { mails = starts; slots = start_slots script runnable })).mails

-- so what lies in a message buffer takes no more than its size
pub reached_room : (script : Script) (mode : Mode) (budget : ℕ) (moves : List Move) → IsRunnable script → HaveRoom (state_after script mode budget moves).objects.mails
reached_room = reached_mails HaveRoom room_kept start_room

-- and the messages of a mailbox that goes by priority stand by their priorities
pub reached_turns : (script : Script) (mode : Mode) (budget : ℕ) (moves : List Move) → IsRunnable script → AreInTurn (state_after script mode budget moves).objects.mails
reached_turns = reached_mails AreInTurn turns_kept start_turns
