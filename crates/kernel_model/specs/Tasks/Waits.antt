-- Which tasks wait, and for what, by the orders in which the waiters of all objects queue.
use Rattle.std.specs.Prelude.{ℕ, ◌≡◌, ◌≤◌, true, Option, Some, None}
use Rattle.tk_types.specs.declared.task.Task.{Task}
use Rattle.tk_types.specs.declared.task.Phase.{Phase}
use Rattle.tk_types.specs.declared.task.Phase.TheVariants.{Waiting}
use Rattle.tk_types.specs.declared.task.Order.{Order}
use Rattle.kernel_model.specs.LawWords.Once.{times}
use Rattle.kernel_model.specs.Tasks.Base.{Base, task_at, waits_for}

abbrev pub FitsPhase : (ℕ → Option Order) → Order → Phase → Type 0
FitsPhase orders by (Waiting object) = orders object ≡ Some by
FitsPhase orders by _ = Unit {0}

-- a task that waits queues as the orders say
abbrev pub FitsRow : (ℕ → Option Order) → Option Task → Type 0
FitsRow orders None = Unit {0}
FitsRow orders (Some k) = FitsPhase orders k.queue k.phase

pub record StandInOrder (orders : ℕ → Option Order) (b : Base) : Type 0 where
  pub each : (t : ℕ) → FitsRow orders (task_at b t)

-- each task that waits has its places among the stamps
pub record HavePlaces (b : Base) : Type 0 where
  pub ranks : (t object : ℕ) → waits_for b object t ≡ true → 1 ≤ times t b.order
  pub stands : (t object : ℕ) → waits_for b object t ≡ true → 1 ≤ times t b.since
