-- Words on time, which laws speak in: the times for which handlers are set, and which call sets the system time.
use Rattle.std.specs.Prelude.{◌≡◌, ℕ, ◌+◌, ◌*◌, ◌≤◌, Bool, true, false, List, Option, Some, None, count_by}
use Rattle.tk_types.specs.declared.task.Event.{Event}
use Rattle.tk_types.specs.declared.task.Event.TheVariants.{Cyclic}
use Rattle.tk_types.specs.declared.task.DueEvent.{DueEvent}
use Rattle.tk_types.specs.declared.calls.TimeCall.{TimeCall}
use Rattle.tk_types.specs.declared.calls.TimeCall.TheVariants.{SetTim}
use Rattle.context_model.specs.declared.cyclic_row.CyclicRow.{CyclicRow}
use Rattle.context_model.specs.Clocks.Tables.{Clocks, cyclic_at, due_time, starts}

-- a time is the first one of a cyclic handler, or lies a whole number of periods behind it
abbrev pub IsTimeOf : CyclicRow → Option ℕ → Type 0
IsTimeOf k None = Unit {0}
IsTimeOf k (Some time) = (n : ℕ) × (time ≡ k.first + n * k.period)

-- a handler that keeps its phase is set for a time of it; one that isn't there isn't set
abbrev pub IsInPhase : Option CyclicRow → Option ℕ → Type 0
IsInPhase None due = due ≡ None
IsInPhase (Some k) due = k.phased ≡ true → IsTimeOf k due

-- so are all cyclic handlers
pub record AreInPhase (c : Clocks) (events : List DueEvent) : Type 0 where
  pub each : (id : ℕ) → IsInPhase (cyclic_at c id) (due_time (Cyclic id) events)

-- each period is at least one millisecond
abbrev pub IsPeriodic : Option CyclicRow → Type 0
IsPeriodic None = Unit {0}
IsPeriodic (Some k) = 1 ≤ k.period

pub record ArePeriodic (c : Clocks) : Type 0 where
  pub each : (id : ℕ) → IsPeriodic (cyclic_at c id)

-- how often a handler is set
abbrev pub set_count : Event → List DueEvent → ℕ
set_count what events = count_by (starts what) events

-- whether a call sets the system time
abbrev pub sets_time : TimeCall → Bool
sets_time (SetTim high low) = true
sets_time _ = false
