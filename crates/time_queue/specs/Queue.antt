-- What is set for later, as contracts see it, and what holds of it at every time.
use Rattle.std.specs.Prelude.{ℕ, ◌<◌, ◌≤◌, ◌≢◌, List, length}
use Rattle.std.specs.List.{All, AllPairs}
use Rattle.tk_types.specs.declared.task.DueEvent.{DueEvent}

-- the events, the first to fall due first, how many were made so far, and how many may be set at once
pub record Queue : Type 0 where
  pub events : List DueEvent
  pub made : ℕ
  pub most : ℕ

-- no event falls due after one that stands behind it
abbrev pub IsInOrder : List DueEvent → Type 0
IsInOrder = AllPairs (λ earlier later. earlier.time ≤ later.time)

-- each key stands once
abbrev pub HasDistinctKeys : List DueEvent → Type 0
HasDistinctKeys = AllPairs (λ earlier later. earlier.key ≢ later.key)

-- the keys are among those that were given so far
abbrev pub HasKeysBelow : ℕ → List DueEvent → Type 0
HasKeysBelow made = All (λ event. event.key < made)

-- what every queue keeps: its order, its keys, and room for as many events as may be set
pub record IsKept (events : List DueEvent) (made most capacity : ℕ) : Type 0 where
  pub in_order : IsInOrder events
  pub distinct : HasDistinctKeys events
  pub given : HasKeysBelow made events
  pub within : length events ≤ most
  pub room : most ≤ capacity
