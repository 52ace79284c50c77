-- The ready tasks in one list: by rising priority number, and of one priority by precedence, the first to run in front.
use Rattle.std.specs.Prelude.{ℕ, Bool, not, ◌==◌, nat_lt, if◌then◌else◌, List, [], ◌∷◌, Option, Some, None, map, filter}
use Rattle.std.specs.List.{list_any}
use Rattle.ready_queue.specs.declared.places.ReadyTask.{ReadyTask}

-- the tasks in their order
abbrev pub tasks_of : List ReadyTask → List ℕ
tasks_of list = map (λ place. place.task) list

-- their priorities
abbrev pub priorities_of : List ReadyTask → List ℕ
priorities_of list = map (λ place. place.priority) list

abbrev pub is_of_task : ℕ → ReadyTask → Bool
is_of_task task place = place.task == task

abbrev pub is_of_priority : ℕ → ReadyTask → Bool
is_of_priority priority place = place.priority == priority

-- whether a place is one of a lower priority, which is a greater number
abbrev pub is_below : ℕ → ReadyTask → Bool
is_below priority place = nat_lt priority place.priority

-- whether a task is ready
abbrev pub holds_task : ℕ → List ReadyTask → Bool
holds_task task list = list_any (is_of_task task) list

-- a place goes in front of the first one whose priority number is greater, so behind its equals
abbrev pub put_behind : ReadyTask → List ReadyTask → List ReadyTask
put_behind place [] = place ∷ []
put_behind place (first ∷ rest) =
    if is_below place.priority first then place ∷ first ∷ rest else first ∷ put_behind place rest

-- the list without a task
abbrev pub without_task : ℕ → List ReadyTask → List ReadyTask
without_task task list = filter (λ place. not (is_of_task task place)) list

-- the places of one priority, in their order
abbrev pub places_of : ℕ → List ReadyTask → List ReadyTask
places_of priority list = filter (is_of_priority priority) list

-- the first of these places, if there is one, goes behind its equals
abbrev pub first_goes_behind : List ReadyTask → List ReadyTask → List ReadyTask
first_goes_behind [] list = list
first_goes_behind (first ∷ rest) list = put_behind first (without_task first.task list)

-- the first task of a priority goes behind the last one of it; where there is none, nothing changes
abbrev pub rotated : ℕ → List ReadyTask → List ReadyTask
rotated priority list = first_goes_behind (places_of priority list) list

-- the task in front, if there is one
abbrev pub first_task : List ReadyTask → Option ℕ
first_task [] = None
first_task (first ∷ rest) = Some first.task

-- the first place behind a task that has the task's priority, with the place of the task in front
abbrev pub next_equal : ReadyTask → List ReadyTask → Option ℕ
next_equal place rest = first_task (places_of place.priority rest)

-- the first task behind this one among those of its priority
abbrev pub next_task : ℕ → List ReadyTask → Option ℕ
next_task task [] = None
next_task task (first ∷ rest) = if is_of_task task first then next_equal first rest else next_task task rest

-- the task in front of these places, where it has the priority of the place
abbrev pub equal_in_front : ReadyTask → List ReadyTask → Option ℕ
equal_in_front place [] = None
equal_in_front place (next ∷ rest) = if is_of_priority place.priority next then Some next.task else None
