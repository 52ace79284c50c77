-- The live blocks of variable pools lie apart in every state that a machine comes to: each call and each serving leaves them so,
-- since whoever waits for a variable pool has asked for some bytes.
use Rattle.std.proofs.Common.{◌≡◌, ℕ, ◌≤◌, ◌<◌, true, List, Option, Some, None, length, refl, subst, arith}
use Rattle.std.specs.Option.{option_map}
use Rattle.tk_types.specs.declared.run.Mode.{Mode}
use Rattle.tk_types.specs.declared.run.Mode.TheVariants as modes
use Rattle.tk_types.specs.declared.script.Script.{Script}
use Rattle.kernel_model.specs.Bodies.Statements.{IsRunnable}
use Rattle.kernel_model.specs.Tasks.Base.{waits_for}
use Rattle.kernel_model.specs.SemFlags.Tables.{serve_sem_flag}
use Rattle.object_model.specs.Mutexes.Tables.{serve_mutexes}
use Rattle.object_model.specs.Mails.Boxes.{serve_mailboxes}
use Rattle.object_model.specs.Mails.Buffers.{serve_buffers}
use Rattle.object_model.specs.Pools.Tables.{Pools, PoolParts, size_of, variable_object}
use Rattle.object_model.specs.Pools.Fixed.{serve_fixed_pools}
use Rattle.object_model.specs.Pools.Variable.{serve_variable_pools}
use Rattle.device_model.specs.Devices.Servings.{serve_acceptances, serve_closes, serve_endings, serve_suspension}
use Rattle.machine_model.specs.Events.Settle.{handed}
use Rattle.machine_model.specs.Runs.Reached.{Move, state_after}
use Rattle.machine_model.specs.Runs.Trace.{start}
use Rattle.machine_model.specs.States.Objects.{Parts, dev_parts, first_serving, mail_parts, pool_parts, serve_object, with_devices, with_mails, with_mutexes, with_pools, with_sem_flags}
use Rattle.machine_model.specs.States.State.{parts_of, state_start}
use Rattle.pool_laws.specs.Blocks.{AllLieApart}
use Rattle.pool_laws.proofs.Apart.{call_apart, fixed_apart, start_apart, variable_apart}
use Rattle.machine_lemmas.proofs.Reached.{start_has}
use Rattle.table_lemmas.proofs.ShortPools.{PoolsShort, fixed_served_short, pool_calls_short, variable_served_short}
use Rattle.table_lemmas.proofs.Slots.{IfServed}
use Rattle.ask_lemmas.proofs.ReachedAsked.{HasAsked, asks_are_kept, start_asked}
use Rattle.ask_lemmas.proofs.WholeWalk.{IsKeptWhole, reached_whole}

-- ---- a serving of a variable pool

-- it leaves live blocks apart, where there are at most 64 such pools and each task that waits for one has asked for some bytes
variable_there : (p q : PoolParts) → length p.table.variable ≤ 65 → AllLieApart p.table → ((id t : ℕ) → 1 ≤ id → id ≤ 64 → waits_for p.base (variable_object id) t ≡ true → 0 < size_of p.table t) →
    serve_variable_pools p ≡ Some q → AllLieApart q.table
variable_there p q few apart asks served = variable_apart p q apart (λ id t least below waits. asks id t least (omega (arith, few, below)) waits) served

-- ---- servings of all kinds

-- what holds of the table of pools: it has no more slots than pools have numbers, and live blocks lie apart
record TableHolds (m : Pools) : Type 0 where
  short : PoolsShort m
  apart : AllLieApart m

-- and beside it each task that waits has asked for something that fits
record PoolsHold (p : Parts) : Type 0 where
  asked : HasAsked p
  table : TableHolds p.objects.pools

After : Option Parts → Type 0
After next = (q : Parts) → next ≡ Some q → TableHolds q.objects.pools

mapped_holds : {A : Type 0} → (put : A → Parts) (served : Option A) → ((l : A) → served ≡ Some l → TableHolds (put l).objects.pools) → After (option_map put served)
unfolding After
mapped_holds put None each q is = absurd (cc is)
mapped_holds put (Some l) each q is = let e : put l ≡ q = cc is in subst (λ (it : Parts). TableHolds it.objects.pools) e (each l refl)

two_hold : (here next : Option Parts) → After here → After next → After (elim here as (λ _. Option Parts) [ Some served ↦ Some served | None ↦ next ])
two_hold (Some served) next first later = first
two_hold None next first later = later

none_holds : After None
unfolding After
none_holds q is = absurd (cc is)

short_there : (q : PoolParts) (found : Option PoolParts) → found ≡ Some q → IfServed (λ (l : PoolParts). PoolsShort l.table) found → PoolsShort q.table
short_there q None is short = absurd (cc is)
short_there q (Some now) is short = let same : now ≡ q = cc is in subst (λ (l : PoolParts). PoolsShort l.table) same short

fixed_holds : (p : Parts) (l : PoolParts) → PoolsHold p → serve_fixed_pools (pool_parts p) ≡ Some l → TableHolds l.table
fixed_holds p l has is = record {
  short = short_there l (serve_fixed_pools (pool_parts p)) is (fixed_served_short (pool_parts p) has.table.short);
  apart = fixed_apart (pool_parts p) l has.table.apart is;
}

variable_holds : (p : Parts) (l : PoolParts) → PoolsHold p → serve_variable_pools (pool_parts p) ≡ Some l → TableHolds l.table
variable_holds p l has is = record {
  short = short_there l (serve_variable_pools (pool_parts p)) is (variable_served_short (pool_parts p) has.table.short);
  apart = variable_there (pool_parts p) l has.table.short.variable has.table.apart has.asked.asked.sizes is;
}

served_table : (p : Parts) → PoolsHold p → After (serve_object p)
unfolding serve_object first_serving
served_table p has =
    two_hold _ _ (mapped_holds (with_sem_flags p) (serve_sem_flag p.base p.objects.sem_flags) (λ l is. has.table))
    (two_hold _ _ (mapped_holds (with_mails p) (serve_mailboxes (mail_parts p)) (λ l is. has.table))
    (two_hold _ _ (mapped_holds (with_mutexes p) (serve_mutexes p.base p.objects.mutexes) (λ l is. has.table))
    (two_hold _ _ (mapped_holds (with_mails p) (serve_buffers (mail_parts p)) (λ l is. has.table))
    (two_hold _ _ (mapped_holds (with_pools p) (serve_fixed_pools (pool_parts p)) (λ l is. fixed_holds p l has is))
    (two_hold _ _ (mapped_holds (with_pools p) (serve_variable_pools (pool_parts p)) (λ l is. variable_holds p l has is))
    (two_hold _ _ (mapped_holds (with_devices p) (serve_acceptances (dev_parts p)) (λ l is. has.table))
    (two_hold _ _ (mapped_holds (with_devices p) (serve_endings (dev_parts p)) (λ l is. has.table))
    (two_hold _ _ (mapped_holds (with_devices p) (serve_closes (dev_parts p)) (λ l is. has.table))
    (two_hold _ None (mapped_holds (with_devices p) (serve_suspension (dev_parts p)) (λ l is. has.table))
    none_holds)))))))))

-- ---- every event

handed_table : (mode : Mode) (p : Parts) → TableHolds p.objects.pools → TableHolds (handed mode p).objects.pools
handed_table modes.Sync p has = has
handed_table modes.Free p has = has

-- a serving leaves it so
after_serving : (p q : Parts) → serve_object p ≡ Some q → PoolsHold p → TableHolds q.objects.pools
unfolding After
after_serving p q is has = served_table p has q is

pools_are_kept : IsKeptWhole PoolsHold
pools_are_kept = record {
  long = λ p has. asks_are_kept.long p has.asked;
  few = λ p has. asks_are_kept.few p has.asked;
  task_calls = λ p who c has. record { asked = asks_are_kept.task_calls p who c has.asked; table = has.table };
  sem_flag_calls = λ p who c has. record { asked = asks_are_kept.sem_flag_calls p who c has.asked; table = has.table };
  mutex_calls = λ p who c has. record { asked = asks_are_kept.mutex_calls p who c has.asked; table = has.table };
  mail_calls = λ p who c has. record { asked = asks_are_kept.mail_calls p who c has.asked; table = has.table };
  pool_calls = λ p who c has. record {
    asked = asks_are_kept.pool_calls p who c has.asked;
    table = record { short = pool_calls_short (pool_parts p) who c has.table.short; apart = call_apart (pool_parts p) who c has.table.apart };
  };
  time_calls = λ p c has. record { asked = asks_are_kept.time_calls p c has.asked; table = has.table };
  context_calls = λ p who c has. record { asked = asks_are_kept.context_calls p who c has.asked; table = has.table };
  device_calls = λ p who c has. record { asked = asks_are_kept.device_calls p who c has.asked; table = has.table };
  left = λ p t all has. record { asked = asks_are_kept.left p t all has.asked; table = has.table };
  freed = λ p t m is has. record { asked = asks_are_kept.freed p t m is has.asked; table = has.table };
  deleted = λ p t has. record { asked = asks_are_kept.deleted p t has.asked; table = has.table };
  refreshed = λ p t priority has. record { asked = asks_are_kept.refreshed p t priority has.asked; table = has.table };
  served = λ p q few is has. record { asked = asks_are_kept.served p q few is has.asked; table = after_serving p q is has };
  handed = λ mode p has. record { asked = asks_are_kept.handed mode p has.asked; table = handed_table mode p has.table };
  handed_first = λ p has. record { asked = asks_are_kept.handed_first p has.asked; table = has.table };
  messages = λ p has. record { asked = asks_are_kept.messages p has.asked; table = has.table };
  arrived = λ p e q is has. record { asked = asks_are_kept.arrived p e q is has.asked; table = has.table };
  released = λ p t answer has. record { asked = asks_are_kept.released p t answer has.asked; table = has.table };
  again = λ p what has. record { asked = asks_are_kept.again p what has.asked; table = has.table };
  taken = λ p has. record { asked = asks_are_kept.taken p has.asked; table = has.table };
  advanced = λ p has. record { asked = asks_are_kept.advanced p has.asked; table = has.table };
  flagged = λ p flags has. record { asked = asks_are_kept.flagged p flags has.asked; table = has.table };
  turned = λ p cur has. record { asked = asks_are_kept.turned p cur has.asked; table = has.table };
  emptied = λ p has. record { asked = asks_are_kept.emptied p has.asked; table = has.table };
  written = λ p memory long has. record { asked = asks_are_kept.written p memory long has.asked; table = has.table };
}

-- ---- every state that a machine comes to

first_table : (script : Script) → TableHolds (parts_of (state_start script)).objects.pools
unfolding state_start
first_table script = record { short = record { fixed = omega arith; variable = omega arith }; apart = start_apart }

start_holds : (script : Script) → IsRunnable script → PoolsHold (parts_of (start script).state)
start_holds script runnable = record {
  asked = start_asked script runnable;
  table = start_has (λ (p : Parts). TableHolds p.objects.pools) (λ p cur has. has) script (first_table script);
}

-- the live blocks of each variable pool lie apart
pub reached_apart : (script : Script) (mode : Mode) (budget : ℕ) (moves : List Move) → IsRunnable script → AllLieApart (state_after script mode budget moves).objects.pools
reached_apart script mode budget moves runnable = (reached_whole PoolsHold pools_are_kept script mode budget moves (start_holds script runnable)).table.apart
