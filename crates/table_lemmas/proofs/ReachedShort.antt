-- In every state that a machine comes to no table of objects has more slots than its objects have numbers.
use Rattle.std.proofs.Common.{◌≡◌, ℕ, List, Option, Some, None, sym, subst, arith}
use Rattle.std.specs.Option.{option_map}
use Rattle.tk_types.specs.declared.run.Mode.{Mode}
use Rattle.tk_types.specs.declared.run.Mode.TheVariants as modes
use Rattle.tk_types.specs.declared.script.Script.{Script}
use Rattle.kernel_model.specs.Bodies.Statements.{IsRunnable}
use Rattle.kernel_model.specs.SemFlags.Tables.{SemFlagParts, serve_sem_flag}
use Rattle.object_model.specs.Mails.Boxes.{serve_mailboxes}
use Rattle.object_model.specs.Mails.Buffers.{serve_buffers}
use Rattle.object_model.specs.Mails.Tables.{MailParts}
use Rattle.object_model.specs.Mutexes.Tables.{MutexParts, serve_mutexes}
use Rattle.object_model.specs.Pools.Fixed.{serve_fixed_pools}
use Rattle.object_model.specs.Pools.Tables.{PoolParts}
use Rattle.object_model.specs.Pools.Variable.{serve_variable_pools}
use Rattle.device_model.specs.Devices.Endings.{DevParts}
use Rattle.device_model.specs.Devices.Servings.{serve_acceptances, serve_closes, serve_endings, serve_suspension}
use Rattle.machine_model.specs.States.Objects.{Parts, dev_parts, first_serving, mail_parts, pool_parts, serve_object, with_devices, with_mails, with_mutexes, with_pools, with_sem_flags}
use Rattle.machine_model.specs.States.State.{parts_of, state_start}
use Rattle.machine_model.specs.Events.Settle.{handed}
use Rattle.machine_model.specs.Runs.Reached.{Move, state_after}
use Rattle.machine_lemmas.proofs.BaseKept.{HasSlots, slots_are_kept, start_slots}
use Rattle.machine_lemmas.proofs.Reached.{reached_has}
use Rattle.machine_lemmas.proofs.Walk.{IsKept}
use Rattle.order_lemmas.proofs.Moves.{arrive_mails}
use Rattle.table_lemmas.specs.Short.{AreShort}
use Rattle.table_lemmas.proofs.ShortDevices.{acceptance_short, closes_short, device_calls_short, endings_short, suspension_short}
use Rattle.table_lemmas.proofs.ShortMails.{MailsShort, box_served_short, buffer_served_short, mail_calls_short}
use Rattle.table_lemmas.proofs.ShortMutexes.{MutexesShort, free_last_short, mutex_calls_short, mutex_served_short}
use Rattle.table_lemmas.proofs.ShortPools.{PoolsShort, fixed_served_short, pool_calls_short, variable_served_short}
use Rattle.table_lemmas.proofs.ShortSemFlags.{SemFlagsShort, sem_flag_calls_short, sem_flag_served_short}
use Rattle.table_lemmas.proofs.Slots.{IfServed}

-- the tables of each family are short, and the slots of tasks as they are
pub record AllShort (p : Parts) : Type 0 where
  pub sem_flags : SemFlagsShort p.objects.sem_flags
  pub mutexes : MutexesShort p.objects.mutexes
  pub mails : MailsShort p.objects.mails
  pub pools : PoolsShort p.objects.pools

pub record HasShort (p : Parts) : Type 0 where
  pub short : AllShort p
  pub slots : HasSlots p

-- ---- a serving

mapped_short : {A : Type 0} → (Q : A → Type 0) (put : A → Parts) (served : Option A) → IfServed Q served → ((l : A) → Q l → AllShort (put l)) → IfServed AllShort (option_map put served)
mapped_short Q put None kept all = tt
mapped_short Q put (Some l) kept all = all l kept

two_short : (here next : Option Parts) → IfServed AllShort here → IfServed AllShort next → IfServed AllShort (elim here as (λ _. Option Parts) [ Some served ↦ Some served | None ↦ next ])
two_short (Some served) next first later = first
two_short None next first later = later

with_mails_short : (p : Parts) → AllShort p → (l : MailParts) → MailsShort l.table → AllShort (with_mails p l)
with_mails_short p has l kept = record { sem_flags = has.sem_flags; mutexes = has.mutexes; mails = kept; pools = has.pools }

with_pools_short : (p : Parts) → AllShort p → (l : PoolParts) → PoolsShort l.table → AllShort (with_pools p l)
with_pools_short p has l kept = record { sem_flags = has.sem_flags; mutexes = has.mutexes; mails = has.mails; pools = kept }

with_devices_short : (p : Parts) → AllShort p → (l : DevParts) → MailsShort l.mails → AllShort (with_devices p l)
with_devices_short p has l kept = record { sem_flags = has.sem_flags; mutexes = has.mutexes; mails = kept; pools = has.pools }

-- a serving leaves them so
pub served_short : (p : Parts) → AllShort p → IfServed AllShort (serve_object p)
unfolding serve_object first_serving
served_short p has =
    two_short _ _ (mapped_short (λ (q : SemFlagParts). SemFlagsShort q.table) (with_sem_flags p) (serve_sem_flag p.base p.objects.sem_flags)
    (sem_flag_served_short p.base p.objects.sem_flags has.sem_flags) (λ l kept. record { sem_flags = kept; mutexes = has.mutexes; mails = has.mails; pools = has.pools }))
    (two_short _ _ (mapped_short (λ (q : MailParts). MailsShort q.table) (with_mails p) (serve_mailboxes (mail_parts p)) (box_served_short (mail_parts p) has.mails) (with_mails_short p has))
    (two_short _ _ (mapped_short (λ (q : MutexParts). MutexesShort q.table) (with_mutexes p) (serve_mutexes p.base p.objects.mutexes)
    (mutex_served_short p.base p.objects.mutexes has.mutexes) (λ l kept. record { sem_flags = has.sem_flags; mutexes = kept; mails = has.mails; pools = has.pools }))
    (two_short _ _ (mapped_short (λ (q : MailParts). MailsShort q.table) (with_mails p) (serve_buffers (mail_parts p)) (buffer_served_short (mail_parts p) has.mails) (with_mails_short p has))
    (two_short _ _ (mapped_short (λ (q : PoolParts). PoolsShort q.table) (with_pools p) (serve_fixed_pools (pool_parts p)) (fixed_served_short (pool_parts p) has.pools) (with_pools_short p has))
    (two_short _ _ (mapped_short (λ (q : PoolParts). PoolsShort q.table) (with_pools p) (serve_variable_pools (pool_parts p)) (variable_served_short (pool_parts p) has.pools) (with_pools_short p has))
    (two_short _ _ (mapped_short (λ (q : DevParts). MailsShort q.mails) (with_devices p) (serve_acceptances (dev_parts p)) (acceptance_short (dev_parts p) has.mails) (with_devices_short p has))
    (two_short _ _ (mapped_short (λ (q : DevParts). MailsShort q.mails) (with_devices p) (serve_endings (dev_parts p)) (endings_short (dev_parts p) has.mails) (with_devices_short p has))
    (two_short _ _ (mapped_short (λ (q : DevParts). MailsShort q.mails) (with_devices p) (serve_closes (dev_parts p)) (closes_short (dev_parts p) has.mails) (with_devices_short p has))
    (two_short _ None (mapped_short (λ (q : DevParts). MailsShort q.mails) (with_devices p) (serve_suspension (dev_parts p)) (suspension_short (dev_parts p) has.mails) (with_devices_short p has))
    tt)))))))))

-- what a serving left, where there was one
pub there : (q : Parts) (found : Option Parts) → found ≡ Some q → IfServed AllShort found → AllShort q
there q None is kept = absurd (cc is)
there q (Some r) is kept = let same : r ≡ q = cc is in subst AllShort same kept

-- ---- every event

handed_short : (mode : Mode) (p : Parts) → AllShort p → AllShort (handed mode p)
handed_short modes.Sync p has = has
handed_short modes.Free p has = record { sem_flags = has.sem_flags; mutexes = has.mutexes; mails = has.mails; pools = has.pools }

pub short_is_kept : IsKept HasShort
short_is_kept = record {
  few = λ p has. has.slots.few;
  task_calls = λ p who c has. record { short = record { sem_flags = has.short.sem_flags; mutexes = has.short.mutexes; mails = has.short.mails; pools = has.short.pools }; slots = slots_are_kept.task_calls p who c has.slots };
  sem_flag_calls = λ p who c has. record { short = record { sem_flags = sem_flag_calls_short p.objects.sem_flags p.base who c has.short.sem_flags; mutexes = has.short.mutexes; mails = has.short.mails; pools = has.short.pools }; slots = slots_are_kept.sem_flag_calls p who c has.slots };
  mutex_calls = λ p who c has. record { short = record { sem_flags = has.short.sem_flags; mutexes = mutex_calls_short p.objects.mutexes p.base who c has.short.mutexes; mails = has.short.mails; pools = has.short.pools }; slots = slots_are_kept.mutex_calls p who c has.slots };
  mail_calls = λ p who c has. record { short = record { sem_flags = has.short.sem_flags; mutexes = has.short.mutexes; mails = mail_calls_short (mail_parts p) who c has.short.mails; pools = has.short.pools }; slots = slots_are_kept.mail_calls p who c has.slots };
  pool_calls = λ p who c has. record { short = record { sem_flags = has.short.sem_flags; mutexes = has.short.mutexes; mails = has.short.mails; pools = pool_calls_short (pool_parts p) who c has.short.pools }; slots = slots_are_kept.pool_calls p who c has.slots };
  time_calls = λ p c has. record { short = record { sem_flags = has.short.sem_flags; mutexes = has.short.mutexes; mails = has.short.mails; pools = has.short.pools }; slots = slots_are_kept.time_calls p c has.slots };
  context_calls = λ p who c has. record { short = record { sem_flags = has.short.sem_flags; mutexes = has.short.mutexes; mails = has.short.mails; pools = has.short.pools }; slots = slots_are_kept.context_calls p who c has.slots };
  device_calls = λ p who c has. record { short = record { sem_flags = has.short.sem_flags; mutexes = has.short.mutexes; mails = device_calls_short (dev_parts p) who c has.short.mails; pools = has.short.pools }; slots = slots_are_kept.device_calls p who c has.slots };
  left = λ p t all has. record { short = record { sem_flags = has.short.sem_flags; mutexes = has.short.mutexes; mails = has.short.mails; pools = has.short.pools }; slots = slots_are_kept.left p t all has.slots };
  freed = λ p t m is has. record { short = record { sem_flags = has.short.sem_flags; mutexes = free_last_short p.base p.objects.mutexes m t is has.short.mutexes; mails = has.short.mails; pools = has.short.pools }; slots = slots_are_kept.freed p t m is has.slots };
  deleted = λ p t has. record { short = record { sem_flags = has.short.sem_flags; mutexes = has.short.mutexes; mails = has.short.mails; pools = has.short.pools }; slots = slots_are_kept.deleted p t has.slots };
  refreshed = λ p t priority has. record { short = record { sem_flags = has.short.sem_flags; mutexes = has.short.mutexes; mails = has.short.mails; pools = has.short.pools }; slots = slots_are_kept.refreshed p t priority has.slots };
  served = λ p q few is has. record { short = there q (serve_object p) is (served_short p has.short); slots = slots_are_kept.served p q few is has.slots };
  handed = λ mode p has. record { short = handed_short mode p has.short; slots = slots_are_kept.handed mode p has.slots };
  handed_first = λ p has. record { short = record { sem_flags = has.short.sem_flags; mutexes = has.short.mutexes; mails = has.short.mails; pools = has.short.pools }; slots = slots_are_kept.handed_first p has.slots };
  messages = λ p has. record { short = record { sem_flags = has.short.sem_flags; mutexes = has.short.mutexes; mails = has.short.mails; pools = has.short.pools }; slots = slots_are_kept.messages p has.slots };
  arrived = λ p e q is has. record { short = record { sem_flags = has.short.sem_flags; mutexes = has.short.mutexes; mails = subst MailsShort (sym (arrive_mails (dev_parts p) q e is)) has.short.mails; pools = has.short.pools }; slots = slots_are_kept.arrived p e q is has.slots };
  released = λ p t answer has. record { short = record { sem_flags = has.short.sem_flags; mutexes = has.short.mutexes; mails = has.short.mails; pools = has.short.pools }; slots = slots_are_kept.released p t answer has.slots };
  again = λ p what has. record { short = record { sem_flags = has.short.sem_flags; mutexes = has.short.mutexes; mails = has.short.mails; pools = has.short.pools }; slots = slots_are_kept.again p what has.slots };
  taken = λ p has. record { short = record { sem_flags = has.short.sem_flags; mutexes = has.short.mutexes; mails = has.short.mails; pools = has.short.pools }; slots = slots_are_kept.taken p has.slots };
  advanced = λ p has. record { short = record { sem_flags = has.short.sem_flags; mutexes = has.short.mutexes; mails = has.short.mails; pools = has.short.pools }; slots = slots_are_kept.advanced p has.slots };
  flagged = λ p flags has. record { short = record { sem_flags = has.short.sem_flags; mutexes = has.short.mutexes; mails = has.short.mails; pools = has.short.pools }; slots = slots_are_kept.flagged p flags has.slots };
  turned = λ p cur has. record { short = record { sem_flags = has.short.sem_flags; mutexes = has.short.mutexes; mails = has.short.mails; pools = has.short.pools }; slots = slots_are_kept.turned p cur has.slots };
  emptied = λ p has. record { short = record { sem_flags = has.short.sem_flags; mutexes = has.short.mutexes; mails = has.short.mails; pools = has.short.pools }; slots = slots_are_kept.emptied p has.slots };
  written = λ p memory has. record { short = record { sem_flags = has.short.sem_flags; mutexes = has.short.mutexes; mails = has.short.mails; pools = has.short.pools }; slots = slots_are_kept.written p memory has.slots };
}

start_short : (script : Script) → IsRunnable script → HasShort (parts_of (state_start script))
unfolding state_start
start_short script runnable = record {
  short = record {
    sem_flags = record { sems = omega arith; flags = omega arith };
    mutexes = omega arith;
    mails = record { boxes = omega arith; buffers = omega arith };
    pools = record { fixed = omega arith; variable = omega arith };
  };
  slots = start_slots script runnable;
}

-- no table of objects has more slots than its objects have numbers in any state that a machine comes to
pub reached_short : (script : Script) (mode : Mode) (budget : ℕ) (moves : List Move) → IsRunnable script → AreShort (state_after script mode budget moves).objects
reached_short script mode budget moves runnable =
    let has = (reached_has HasShort short_is_kept script mode budget moves (start_short script runnable)).short in
    record {
      sems = has.sem_flags.sems;
      flags = has.sem_flags.flags;
      boxes = has.mails.boxes;
      mutexes = has.mutexes;
      buffers = has.mails.buffers;
      fixed = has.pools.fixed;
      variable = has.pools.variable;
    }
