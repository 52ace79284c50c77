-- What the calls on contexts keep, and what a task that leaves its services keeps, every event keeps: nothing else changes the
-- tables of contexts.
use Rattle.std.proofs.Common.{◌≡◌, ℕ, Bool, List, Option, Some, None, refl, sym, subst}
use Rattle.std.specs.Option.{option_map}
use Rattle.tk_types.specs.declared.answer.Who.{Who}
use Rattle.tk_types.specs.declared.calls.ContextCall.{ContextCall}
use Rattle.tk_types.specs.declared.run.Mode.{Mode}
use Rattle.tk_types.specs.declared.run.Mode.TheVariants as modes
use Rattle.tk_types.specs.declared.script.Script.{Script}
use Rattle.kernel_model.specs.Tasks.Base.{Base}
use Rattle.kernel_model.specs.Bodies.Statements.{IsRunnable}
use Rattle.kernel_model.specs.SemFlags.Tables.{serve_sem_flag}
use Rattle.object_model.specs.Mutexes.Tables.{serve_mutexes}
use Rattle.object_model.specs.Mails.Boxes.{serve_mailboxes}
use Rattle.object_model.specs.Mails.Buffers.{serve_buffers}
use Rattle.object_model.specs.Pools.Fixed.{serve_fixed_pools}
use Rattle.object_model.specs.Pools.Variable.{serve_variable_pools}
use Rattle.context_model.specs.Contexts.Calls.{context_call}
use Rattle.context_model.specs.Contexts.Tables.{Contexts, contexts_start, left}
use Rattle.device_model.specs.Devices.Servings.{serve_acceptances, serve_closes, serve_endings, serve_suspension}
use Rattle.machine_model.specs.States.Objects.{Parts, dev_parts, first_serving, mail_parts, pool_parts, serve_object, with_devices, with_mails, with_mutexes, with_pools, with_sem_flags}
use Rattle.machine_model.specs.States.State.{state_start}
use Rattle.machine_model.specs.Events.Settle.{handed}
use Rattle.machine_model.specs.Runs.Reached.{Move, state_after}
use Rattle.machine_lemmas.proofs.BaseKept.{HasSlots, slots_are_kept, start_slots}
use Rattle.machine_lemmas.proofs.Reached.{reached_has}
use Rattle.machine_lemmas.proofs.Walk.{IsKept}

-- ---- a serving leaves the tables of contexts

abbrev Same : Parts → Option Parts → Type 0
Same p next = (q : Parts) → next ≡ Some q → q.objects.contexts ≡ p.objects.contexts

mapped_same : {A : Type 0} → (p : Parts) (put : A → Parts) (served : Option A) → ((l : A) → (put l).objects.contexts ≡ p.objects.contexts) → Same p (option_map put served)
mapped_same p put None same q is = absurd (cc is)
mapped_same p put (Some l) same q is = let e : put l ≡ q = cc is in subst (λ (it : Parts). it.objects.contexts ≡ p.objects.contexts) e (same l)

two_same : (p : Parts) (here next : Option Parts) → Same p here → Same p next → Same p (elim here as (λ _. Option Parts) [ Some served ↦ Some served | None ↦ next ])
two_same p (Some served) next first later = first
two_same p None next first later = later

none_same : (p : Parts) → Same p None
none_same p q is = absurd (cc is)

served_same : (p : Parts) → Same p (serve_object p)
unfolding serve_object first_serving
served_same p =
    two_same p _ _ (mapped_same p (with_sem_flags p) (serve_sem_flag p.base p.objects.sem_flags) (λ l. refl))
    (two_same p _ _ (mapped_same p (with_mails p) (serve_mailboxes (mail_parts p)) (λ l. refl))
    (two_same p _ _ (mapped_same p (with_mutexes p) (serve_mutexes p.base p.objects.mutexes) (λ l. refl))
    (two_same p _ _ (mapped_same p (with_mails p) (serve_buffers (mail_parts p)) (λ l. refl))
    (two_same p _ _ (mapped_same p (with_pools p) (serve_fixed_pools (pool_parts p)) (λ l. refl))
    (two_same p _ _ (mapped_same p (with_pools p) (serve_variable_pools (pool_parts p)) (λ l. refl))
    (two_same p _ _ (mapped_same p (with_devices p) (serve_acceptances (dev_parts p)) (λ l. refl))
    (two_same p _ _ (mapped_same p (with_devices p) (serve_endings (dev_parts p)) (λ l. refl))
    (two_same p _ _ (mapped_same p (with_devices p) (serve_closes (dev_parts p)) (λ l. refl))
    (two_same p _ _ (mapped_same p (with_devices p) (serve_suspension (dev_parts p)) (λ l. refl))
    (none_same p))))))))))

-- ---- every event

-- what is to be kept of the tables of contexts, and the slots of tasks
pub record ContextsHave (Q : Contexts → Type 0) (p : Parts) : Type 0 where
  pub contexts : Q p.objects.contexts
  pub slots : HasSlots p

pub record IsContextProof (Q : Contexts → Type 0) : Type 0 where
  pub calls : (b : Base) (c : Contexts) (who : Who) (call : ContextCall) → Q c → Q (context_call b c who call).table
  pub leaves : (c : Contexts) (t : ℕ) (all : Bool) → Q c → Q (left c t all)

handed_has : (Q : Contexts → Type 0) (mode : Mode) (p : Parts) → Q p.objects.contexts → Q (handed mode p).objects.contexts
handed_has Q modes.Sync p has = has
handed_has Q modes.Free p has = has

pub contexts_kept : (Q : Contexts → Type 0) → IsContextProof Q → IsKept (ContextsHave Q)
contexts_kept Q keeps = record {
  few = λ p has. has.slots.few;
  task_calls = λ p who c has. record { contexts = has.contexts; slots = slots_are_kept.task_calls p who c has.slots };
  sem_flag_calls = λ p who c has. record { contexts = has.contexts; slots = slots_are_kept.sem_flag_calls p who c has.slots };
  mutex_calls = λ p who c has. record { contexts = has.contexts; slots = slots_are_kept.mutex_calls p who c has.slots };
  mail_calls = λ p who c has. record { contexts = has.contexts; slots = slots_are_kept.mail_calls p who c has.slots };
  pool_calls = λ p who c has. record { contexts = has.contexts; slots = slots_are_kept.pool_calls p who c has.slots };
  time_calls = λ p c has. record { contexts = has.contexts; slots = slots_are_kept.time_calls p c has.slots };
  context_calls = λ p who c has. record { contexts = keeps.calls p.base p.objects.contexts who c has.contexts; slots = slots_are_kept.context_calls p who c has.slots };
  device_calls = λ p who c has. record { contexts = has.contexts; slots = slots_are_kept.device_calls p who c has.slots };
  left = λ p t all has. record { contexts = keeps.leaves p.objects.contexts t all has.contexts; slots = slots_are_kept.left p t all has.slots };
  freed = λ p t m is has. record { contexts = has.contexts; slots = slots_are_kept.freed p t m is has.slots };
  deleted = λ p t has. record { contexts = has.contexts; slots = slots_are_kept.deleted p t has.slots };
  refreshed = λ p t priority has. record { contexts = has.contexts; slots = slots_are_kept.refreshed p t priority has.slots };
  served = λ p q few is has. record { contexts = subst Q (sym (served_same p q is)) has.contexts; slots = slots_are_kept.served p q few is has.slots };
  handed = λ mode p has. record { contexts = handed_has Q mode p has.contexts; slots = slots_are_kept.handed mode p has.slots };
  handed_first = λ p has. record { contexts = has.contexts; slots = slots_are_kept.handed_first p has.slots };
  messages = λ p has. record { contexts = has.contexts; slots = slots_are_kept.messages p has.slots };
  arrived = λ p e q is has. record { contexts = has.contexts; slots = slots_are_kept.arrived p e q is has.slots };
  released = λ p t answer has. record { contexts = has.contexts; slots = slots_are_kept.released p t answer has.slots };
  again = λ p what has. record { contexts = has.contexts; slots = slots_are_kept.again p what has.slots };
  taken = λ p has. record { contexts = has.contexts; slots = slots_are_kept.taken p has.slots };
  advanced = λ p has. record { contexts = has.contexts; slots = slots_are_kept.advanced p has.slots };
  flagged = λ p flags has. record { contexts = has.contexts; slots = slots_are_kept.flagged p flags has.slots };
  turned = λ p cur has. record { contexts = has.contexts; slots = slots_are_kept.turned p cur has.slots };
  emptied = λ p has. record { contexts = has.contexts; slots = slots_are_kept.emptied p has.slots };
  written = λ p memory has. record { contexts = has.contexts; slots = slots_are_kept.written p memory has.slots };
}

-- what holds at the start and is kept holds in every state that a machine comes to
pub reached_contexts : (Q : Contexts → Type 0) → IsContextProof Q → Q contexts_start →
    (script : Script) (mode : Mode) (budget : ℕ) (moves : List Move) → IsRunnable script → Q (state_after script mode budget moves).objects.contexts
unfolding state_start
reached_contexts Q keeps starts script mode budget moves runnable =
    (reached_has (ContextsHave Q) (contexts_kept Q keeps) script mode budget moves (record { contexts = starts; slots = start_slots script runnable })).contexts
