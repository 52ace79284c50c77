-- What always holds of the list of the ready tasks.
use Rattle.std.specs.Prelude.{ℕ, ◌<◌, ◌≤◌, List, [], ◌∷◌, nat_eq}
use Rattle.std.specs.List.{IsDistinct, AllByRecursion}
use Rattle.ready_queue.specs.declared.places.ReadyTask.{ReadyTask}
use Rattle.ready_queue.specs.Queue.{tasks_of, priorities_of}

-- the priority of each of these places is at least this number
abbrev pub AllFrom : ℕ → List ReadyTask → Type 0
AllFrom priority list = AllByRecursion (λ other. priority ≤ other) (priorities_of list)

-- the priority numbers rise along the list, or stay equal
abbrev pub IsRising : List ReadyTask → Type 0
IsRising [] = Unit {0}
IsRising (first ∷ rest) = AllFrom first.priority rest × IsRising rest

-- each task stands at most once
abbrev pub EachOnce : List ReadyTask → Type 0
EachOnce list = IsDistinct nat_eq (tasks_of list)

-- the list of the ready tasks, in a memory that has room for so many
pub record IsReadyQueue (list : List ReadyTask) (room : ℕ) : Type 0 where
  pub enough : 256 ≤ room
  pub ids : AllByRecursion (λ task. task < 256) (tasks_of list)
  pub once : EachOnce list
  pub rising : IsRising list
