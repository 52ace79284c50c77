-- Each cyclic handler has a period of a millisecond or more, in every state that a machine comes to: calls on time write the rows
-- of handlers, and nothing else does, neither settling nor devices.
use Rattle.std.proofs.Common.{◌≡◌, ℕ, List, [], ◌∷◌, Option, Some, None, refl, sym, subst}
use Rattle.std.specs.Option.{option_map}
use Rattle.tk_types.specs.declared.run.Mode.{Mode}
use Rattle.tk_types.specs.declared.run.Mode.TheVariants as modes
use Rattle.tk_types.specs.declared.script.Script.{Script}
use Rattle.kernel_model.specs.Bodies.Statements.{IsRunnable}
use Rattle.context_model.specs.Clocks.Phases.{ArePeriodic}
use Rattle.context_laws.proofs.Later.{call_keeps_periods, start_periodic}
use Rattle.machine_model.specs.States.Objects.{Parts, first_serving, kinds, serve_object, with_devices, with_mails, with_mutexes, with_pools, with_sem_flags}
use Rattle.machine_model.specs.States.State.{parts_of, state_start}
use Rattle.machine_model.specs.Events.Settle.{handed}
use Rattle.machine_model.specs.Runs.Reached.{Move, state_after}
use Rattle.machine_lemmas.proofs.BaseKept.{HasSlots, slots_are_kept, start_slots}
use Rattle.machine_lemmas.proofs.Reached.{reached_has}
use Rattle.machine_lemmas.proofs.Walk.{IsKept}

-- ---- a serving leaves the clocks

SameClocks : Parts → Option Parts → Type 0
SameClocks p None = Unit {0}
SameClocks p (Some q) = q.objects.clocks ≡ p.objects.clocks

mapped_clocks : {A : Type 0} → (p : Parts) (put : A → Parts) (served : Option A) → ((left : A) → (put left).objects.clocks ≡ p.objects.clocks) →
    SameClocks p (option_map put served)
unfolding SameClocks
mapped_clocks p put None same = tt
mapped_clocks p put (Some left) same = same left

-- each of these servings leaves them
EachSame : List (Parts → Option Parts) → Parts → Type 0
EachSame [] p = Unit {0}
EachSame (kind ∷ later) p = SameClocks p (kind p) × EachSame later p

first_of_two : (p : Parts) (here : Option Parts) (later : List (Parts → Option Parts)) → SameClocks p here → SameClocks p (first_serving later p) →
    SameClocks p (elim here as (λ _. Option Parts) [ Some served ↦ Some served | None ↦ first_serving later p ])
first_of_two p (Some served) later one rest = one
first_of_two p None later one rest = rest

first_clocks : (ks : List (Parts → Option Parts)) (p : Parts) → EachSame ks p → SameClocks p (first_serving ks p)
unfolding first_serving EachSame SameClocks
first_clocks [] p each = tt
first_clocks (kind ∷ later) p each = first_of_two p (kind p) later each.0 (first_clocks later p each.1)

object_clocks : (p : Parts) → SameClocks p (serve_object p)
unfolding serve_object EachSame
object_clocks p = first_clocks kinds p (
  mapped_clocks p (with_sem_flags p) _ (λ left. refl),
  (
    mapped_clocks p (with_mails p) _ (λ left. refl),
    (
      mapped_clocks p (with_mutexes p) _ (λ left. refl),
      (
        mapped_clocks p (with_mails p) _ (λ left. refl),
        (
          mapped_clocks p (with_pools p) _ (λ left. refl),
          (
            mapped_clocks p (with_pools p) _ (λ left. refl),
            (
              mapped_clocks p (with_devices p) _ (λ left. refl),
              (mapped_clocks p (with_devices p) _ (λ left. refl), (mapped_clocks p (with_devices p) _ (λ left. refl), (mapped_clocks p (with_devices p) _ (λ left. refl), tt))),
            ),
          ),
        ),
      ),
    ),
  ),
)

-- what is served leaves system time and the rows of handlers
pub serving_clocks : (p q : Parts) → serve_object p ≡ Some q → q.objects.clocks ≡ p.objects.clocks
unfolding SameClocks
serving_clocks p q is = subst (SameClocks p) is (object_clocks p)

-- ---- every event leaves the periods

-- what is kept, and of the clocks what calls on time keep
abbrev pub Periodic : Parts → Type 0
Periodic p = HasSlots p × ArePeriodic p.objects.clocks

handed_periodic : (mode : Mode) (p : Parts) → Periodic p → Periodic (handed mode p)
handed_periodic modes.Sync p has = has
handed_periodic modes.Free p has = (slots_are_kept.handed modes.Free p has.0, has.1)

-- every change keeps the periods
pub periods_are_kept : IsKept Periodic
periods_are_kept = record {
  few = λ p has. has.0.few;
  task_calls = λ p who c has. (slots_are_kept.task_calls p who c has.0, has.1);
  sem_flag_calls = λ p who c has. (slots_are_kept.sem_flag_calls p who c has.0, has.1);
  mutex_calls = λ p who c has. (slots_are_kept.mutex_calls p who c has.0, has.1);
  mail_calls = λ p who c has. (slots_are_kept.mail_calls p who c has.0, has.1);
  pool_calls = λ p who c has. (slots_are_kept.pool_calls p who c has.0, has.1);
  time_calls = λ p c has. (slots_are_kept.time_calls p c has.0, call_keeps_periods p.base p.objects.clocks c has.1);
  context_calls = λ p who c has. (slots_are_kept.context_calls p who c has.0, has.1);
  device_calls = λ p who c has. (slots_are_kept.device_calls p who c has.0, has.1);
  left = λ p t all has. (slots_are_kept.left p t all has.0, has.1);
  freed = λ p t m is has. (slots_are_kept.freed p t m is has.0, has.1);
  deleted = λ p t has. (slots_are_kept.deleted p t has.0, has.1);
  refreshed = λ p t priority has. (slots_are_kept.refreshed p t priority has.0, has.1);
  served = λ p q few is has. (slots_are_kept.served p q few is has.0, subst ArePeriodic (sym (serving_clocks p q is)) has.1);
  handed = handed_periodic;
  handed_first = λ p has. (slots_are_kept.handed_first p has.0, has.1);
  messages = λ p has. (slots_are_kept.messages p has.0, has.1);
  arrived = λ p e q is has. (slots_are_kept.arrived p e q is has.0, has.1);
  released = λ p t answer has. (slots_are_kept.released p t answer has.0, has.1);
  again = λ p what has. (slots_are_kept.again p what has.0, has.1);
  taken = λ p has. (slots_are_kept.taken p has.0, has.1);
  advanced = λ p has. (slots_are_kept.advanced p has.0, has.1);
  flagged = λ p flags has. (slots_are_kept.flagged p flags has.0, has.1);
  turned = λ p cur has. (slots_are_kept.turned p cur has.0, has.1);
  emptied = λ p has. (slots_are_kept.emptied p has.0, has.1);
  written = λ p memory has. (slots_are_kept.written p memory has.0, has.1);
}

-- at the start they are so
pub start_periods : (script : Script) → IsRunnable script → Periodic (parts_of (state_start script))
unfolding state_start
start_periods script runnable = (start_slots script runnable, start_periodic)

-- in every state that a machine comes to each period is a millisecond at least
pub reached_periods : (script : Script) (mode : Mode) (budget : ℕ) (moves : List Move) → IsRunnable script → ArePeriodic (state_after script mode budget moves).objects.clocks
reached_periods script mode budget moves runnable = (reached_has Periodic periods_are_kept script mode budget moves (start_periods script runnable)).1
