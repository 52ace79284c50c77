-- Why no move takes memory: lists of the base hold each task at most once, and their room was taken at the start.
use Rattle.std.specs.Prelude.{ℕ, ◌≡◌, ◌+◌, ◌≤◌, List, Option, map, length}
use Rattle.tk_types.specs.declared.task.Task.{Task}
use Rattle.tk_types.specs.declared.task.Event.{Event}
use Rattle.tk_types.specs.declared.task.Event.TheVariants.{Wait, Cyclic, Alarm}
use Rattle.tk_types.specs.declared.task.DueEvent.{DueEvent}
use Rattle.tk_types.specs.declared.task.Release.{Release}
use Rattle.ready_queue.specs.declared.places.ReadyTask.{ReadyTask}
use Rattle.kernel_model.specs.LawWords.Once.{AreBelow, IsOnce}
use Rattle.wait_queue.specs.Queues.{WaitTable}
use Rattle.kernel_base.specs.Ready.{IsQueued}
use Rattle.kernel_base.specs.Waiting.{AreWaits}

-- an order of task IDs
pub record IsOrder (ids : List ℕ) (capacity : ℕ) : Type 0 where
  pub once : IsOnce ids
  pub below : AreBelow 256 ids
  pub room : 256 ≤ capacity

abbrev pub tasks_of : List Release → List ℕ
tasks_of releases = map (λ release. release.task) releases

-- the ends of waits that weren't taken yet, one for each task at most
pub record AreReleases (releases : List Release) (capacity : ℕ) : Type 0 where
  pub once : IsOnce (tasks_of releases)
  pub below : AreBelow 256 (tasks_of releases)
  pub room : 256 ≤ capacity

-- a number for each event that there can be
abbrev pub number_of : Event → ℕ
number_of (Wait task) = task
number_of (Cyclic id) = 256 + id
number_of (Alarm id) = 512 + id

-- the most events that can be set
abbrev pub most_events : ℕ
most_events = 768

abbrev pub numbers_of : List DueEvent → List ℕ
numbers_of events = map (λ event. number_of event.what) events

-- a slot for each ID, and each event set once at most
pub record HasRoom (tasks : List (Option Task)) (events : List DueEvent) (most : ℕ) : Type 0 where
  pub slots : length tasks ≡ 256
  pub once : IsOnce (numbers_of events)
  pub below : AreBelow most_events (numbers_of events)
  pub room : most ≡ most_events

-- what holds of the base between its moves
pub record IsBase (tasks : List (Option Task)) (order since : List ℕ) (ready : List ReadyTask) (table : WaitTable) (events : List DueEvent) (most : ℕ) : Type 0 where
  pub room : HasRoom tasks events most
  pub queue : IsQueued tasks order ready
  pub waits : AreWaits tasks order since table
