-- Words on events that are set for a time. They stand by the time at which they fall due, and of equals in the order
-- in which they were made.
use Rattle.std.specs.Prelude.{ℕ, Bool, false, not, ◌==◌, nat_lt, nat_le, if◌then◌else◌, List, [], ◌∷◌, Option, Some, None, filter, drop}
use Rattle.std.specs.List.{list_any, find}
use Rattle.std.specs.Option.{option_map}
use Rattle.tk_types.specs.declared.task.Event.{Event}
use Rattle.tk_types.specs.declared.task.Event.TheVariants.{Wait}
use Rattle.tk_types.specs.declared.task.DueEvent.{DueEvent}

abbrev pub is_wait_of : ℕ → Event → Bool
is_wait_of t (Wait other) = other == t
is_wait_of t _ = false

-- whether an event is the end of that task's wait
abbrev pub ends_wait_of : ℕ → DueEvent → Bool
ends_wait_of t event = is_wait_of t event.what

-- an event goes behind all that fall due by its time
abbrev pub insert_event : DueEvent → List DueEvent → List DueEvent
insert_event event [] = event ∷ []
insert_event event (first ∷ rest) =
    if nat_lt event.time first.time then event ∷ first ∷ rest else first ∷ insert_event event rest

-- the events without the end of one task's wait
abbrev pub without_wait : ℕ → List DueEvent → List DueEvent
without_wait t events = filter (λ event. not (ends_wait_of t event)) events

-- the events without the one that has a key
abbrev pub without_key : ℕ → List DueEvent → List DueEvent
without_key key events = filter (λ event. not (event.key == key)) events

abbrev pub has_key : ℕ → List DueEvent → Bool
has_key key events = list_any (λ event. event.key == key) events

-- the time at which a task's wait ends, where it has a limit
abbrev pub limit_of : ℕ → List DueEvent → Option ℕ
limit_of t events = option_map (λ event. event.time) (find (ends_wait_of t) events)

-- whether the first event is due by a time
abbrev pub is_due : ℕ → List DueEvent → Bool
is_due now [] = false
is_due now (first ∷ rest) = nat_le first.time now

abbrev pub first_event : List DueEvent → Option Event
first_event [] = None
first_event (first ∷ rest) = Some first.what

-- the first event that is due by a time
abbrev pub due_event : ℕ → List DueEvent → Option Event
due_event now events = if is_due now events then first_event events else None

-- the events without the first one that is due by a time
abbrev pub left_after : ℕ → List DueEvent → List DueEvent
left_after now events = if is_due now events then drop 1 events else events
