-- Words on when events fall due.
use Rattle.std.specs.Prelude.{ℕ, zero, suc, ◌<◌, ◌≤◌, List, All, AllPairs, Option, Some, None}
use Rattle.tk_types.specs.declared.task.DueEvent.{DueEvent}
use Rattle.kernel_model.specs.Tasks.Base.{Base, advance}

-- each of these events falls due after a time
abbrev pub AreLater : ℕ → List DueEvent → Type 0
AreLater now = All (λ event. now < event.time)

-- each of them falls due by a time
abbrev pub AreDueBy : ℕ → List DueEvent → Type 0
AreDueBy now = All (λ event. event.time ≤ now)

-- a limit comes after a time, where there is one
abbrev pub ComesAfter : ℕ → Option ℕ → Type 0
ComesAfter now None = Unit {0}
ComesAfter now (Some due) = now < due

-- none falls due after one that stands behind it
abbrev pub AreInTimeOrder : List DueEvent → Type 0
AreInTimeOrder = AllPairs (λ earlier later. earlier.time ≤ later.time)

-- the base so many milliseconds later, where nothing was taken meanwhile
abbrev pub after_time : ℕ → Base → Base
after_time zero b = b
after_time (suc n) b = advance (after_time n b)
