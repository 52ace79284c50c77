-- What every move of the base keeps holds in every state that a machine comes to: what is set stands in the order of time, each
-- task has one place at most among the stamps, each that waits has its places, and there are 256 slots.
use Rattle.std.proofs.Common.{◌≡◌, ℕ, false, replicate, List, [], ◌∷◌, Some, None, refl, ap, arith}
use Rattle.tk_types.specs.declared.run.Mode.{Mode}
use Rattle.tk_types.specs.declared.script.Script.{Script}
use Rattle.tk_types.specs.declared.task.Order.TheVariants.{Fifo}
use Rattle.tk_types.specs.declared.task.Phase.TheVariants.{Ready}
use Rattle.tk_types.specs.declared.task.Task.{Task}
use Rattle.kernel_model.specs.LawWords.Once.{IsOnce}
use Rattle.kernel_model.specs.LawWords.TimeOrder.{AreInTimeOrder}
use Rattle.kernel_model.specs.Tasks.Base.{Base, base_start, waiting_in, waits_for}
use Rattle.kernel_model.specs.Tasks.Waits.{HavePlaces}
use Rattle.kernel_model.specs.Bodies.Statements.{IsRunnable}
use Rattle.kernel_lemmas.proofs.Once.{once_behind}
use Rattle.kernel_lemmas.proofs.Tables.{entry_each, entry_same, none_there}
use Rattle.machine_model.specs.States.State.{parts_of, state_start}
use Rattle.machine_model.specs.Runs.Reached.{Move, state_after}
use Rattle.call_walk.proofs.BaseMoves.{IsBaseProof}
use Rattle.call_walk.proofs.DueEvents.{time_order_kept}
use Rattle.call_walk.proofs.Places.{places_kept}
use Rattle.call_walk.proofs.Stamps.{once_kept}
use Rattle.machine_lemmas.proofs.BaseKept.{BaseHas, base_kept, start_slots}
use Rattle.machine_lemmas.proofs.Reached.{reached_has}

first_has : (P : Base → Type 0) (script : Script) → IsRunnable script → P (base_start script.boot.priority) → BaseHas P (parts_of (state_start script))
unfolding state_start
first_has P script runnable first = record { base = first; few = (start_slots script runnable).few }

-- what each move keeps, and the first base has, every state that a machine comes to has
pub reached_base : (P : Base → Type 0) → IsBaseProof P → (script : Script) (mode : Mode) (budget : ℕ) (moves : List Move) → IsRunnable script →
    P (base_start script.boot.priority) → P (state_after script mode budget moves).base
reached_base P moves_keep script mode budget moves runnable first =
    (reached_has (BaseHas P) (base_kept P moves_keep) script mode budget moves (first_has P script runnable first)).base

-- ---- the order of time

none_in_order : AreInTimeOrder []
none_in_order = λ i j d before within. absurd (omega (arith, within))

-- what is set stands in the order of the times at which it falls due
pub reached_order : (script : Script) (mode : Mode) (budget : ℕ) (moves : List Move) → IsRunnable script → AreInTimeOrder (state_after script mode budget moves).base.events
reached_order script mode budget moves runnable = reached_base (λ b. AreInTimeOrder b.events) time_order_kept script mode budget moves runnable none_in_order

-- ---- the stamps

one_once : IsOnce (1 ∷ [])
one_once = once_behind 1 [] refl (λ n. omega arith)

reached_stamps : (script : Script) (mode : Mode) (budget : ℕ) (moves : List Move) → IsRunnable script →
    IsOnce (state_after script mode budget moves).base.order × IsOnce (state_after script mode budget moves).base.since
reached_stamps script mode budget moves runnable = reached_base (λ b. IsOnce b.order × IsOnce b.since) once_kept script mode budget moves runnable (one_once, one_once)

-- each task stands once at most in the order of stamps
pub reached_ranks : (script : Script) (mode : Mode) (budget : ℕ) (moves : List Move) → IsRunnable script → IsOnce (state_after script mode budget moves).base.order
reached_ranks script mode budget moves runnable = (reached_stamps script mode budget moves runnable).0

-- and in that of the beginnings of waits
pub reached_begins : (script : Script) (mode : Mode) (budget : ℕ) (moves : List Move) → IsRunnable script → IsOnce (state_after script mode budget moves).base.since
reached_begins script mode budget moves runnable = (reached_stamps script mode budget moves runnable).1

-- ---- the places

-- no task waits at the start
idle_start : (priority t object : ℕ) → waits_for (base_start priority) object t ≡ false
idle_start priority t object =
    entry_each (λ u now. waiting_in object now ≡ false) (replicate 256 None) 1 (Some boot)
    (entry_same (λ now. waiting_in object now ≡ false) (replicate 256 None) 1 (Some boot) refl refl)
    (λ u apart. ap (waiting_in object) (none_there 256 u)) t
  where
    boot : Task
    boot = record { phase = Ready; queue = Fifo; base = priority; initial = priority; current = priority; wakeups = 0; suspensions = 0; stack = 1024 }

start_places : (priority : ℕ) → HavePlaces (base_start priority)
start_places priority = record {
  ranks = λ t object waits. let idle = idle_start priority t object in absurd (cc (idle, waits));
  stands = λ t object waits. let idle = idle_start priority t object in absurd (cc (idle, waits));
}

-- each task that waits has its places
pub reached_places : (script : Script) (mode : Mode) (budget : ℕ) (moves : List Move) → IsRunnable script → HavePlaces (state_after script mode budget moves).base
reached_places script mode budget moves runnable = reached_base HavePlaces places_kept script mode budget moves runnable (start_places script.boot.priority)
