-- System time, cyclic and alarm handlers: their tables, and the times for which handlers are set. A handler that is set stands
-- among the events of the base and nowhere else; one that isn't set has stopped.
use Rattle.std.specs.Prelude.{ℕ, ◌+◌, ◌-◌, ◌*◌, ◌/◌, ◌%◌, ◌^◌, ◌==◌, Bool, false, not, nat_lt, if◌then◌else◌, ℤ, List, [], ◌∷◌, Option, Some, None, filter, replicate, slice_set}
use Rattle.std.specs.Int.{w32, cast_signed}
use Rattle.std.specs.List.{find}
use Rattle.std.specs.Option.{option_map, is_some}
use Rattle.tk_types.specs.declared.task.Event.{Event}
use Rattle.tk_types.specs.declared.task.Event.TheVariants.{Wait, Cyclic, Alarm}
use Rattle.tk_types.specs.declared.task.DueEvent.{DueEvent}
use Rattle.kernel_model.specs.Words.Orders.{entry}
use Rattle.kernel_model.specs.Tasks.Base.{Base, add_event}
use Rattle.context_model.specs.declared.cyclic_row.CyclicRow.{CyclicRow}

pub record Clocks : Type 0 where
  pub cyclics : List (Option CyclicRow)  -- by ID, 65 slots
  pub alarms : List (Option ℕ)  -- by ID, 65 slots: the body of an alarm handler
  pub set_to : ℕ  -- the system time as it was last set
  pub set_at : ℕ  -- the operating time when it was

-- the start: no handler, and the system time is the operating time
abbrev pub clocks_start : Clocks
clocks_start = record { cyclics = replicate 65 None; alarms = replicate 65 None; set_to = 0; set_at = 0 }

abbrev pub cyclic_at : Clocks → ℕ → Option CyclicRow
cyclic_at c id = entry c.cyclics id

abbrev pub alarm_at : Clocks → ℕ → Option ℕ
alarm_at c id = entry c.alarms id

abbrev pub with_cyclic : Clocks → ℕ → Option CyclicRow → Clocks
with_cyclic c id slot = record c { cyclics = slice_set c.cyclics id slot }

abbrev pub with_alarm : Clocks → ℕ → Option ℕ → Clocks
with_alarm c id slot = record c { alarms = slice_set c.alarms id slot }

-- whether there is a cyclic or an alarm handler with an ID
abbrev pub has_cyc : Clocks → ℕ → Bool
has_cyc c id = is_some (cyclic_at c id)

abbrev pub has_alm : Clocks → ℕ → Bool
has_alm c id = is_some (alarm_at c id)

-- the body of a handler; the end of a wait has none
unfoldable pub body_of : Clocks → Event → Option ℕ
body_of c (Wait t) = None
body_of c (Cyclic id) = option_map (λ k. k.body) (cyclic_at c id)
body_of c (Alarm id) = alarm_at c id

-- ---- system time

-- the system time goes on from what it was set to, millisecond by millisecond
abbrev pub system_time : Base → Clocks → ℕ
system_time b c = c.set_to + (b.time - c.set_at)

-- a time in two halves of 32 bits, the high one first
abbrev pub halves : ℕ → List ℤ
halves time = cast_signed w32 (time / 2 ^ 32 % 2 ^ 32) ∷ cast_signed w32 (time % 2 ^ 32) ∷ []

-- ---- when handlers fall due

-- whether two events are the start of one handler, or the end of one task's wait
abbrev pub is_event : Event → Event → Bool
is_event (Wait t) (Wait other) = other == t
is_event (Cyclic id) (Cyclic other) = other == id
is_event (Alarm id) (Alarm other) = other == id
is_event _ _ = false

-- whether what is set for a time is this event
abbrev pub starts : Event → DueEvent → Bool
starts what event = is_event what event.what

-- the time for which a handler is set, where it is
abbrev pub due_time : Event → List DueEvent → Option ℕ
due_time what events = option_map (λ event. event.time) (find (starts what) events)

abbrev pub is_set : Event → List DueEvent → Bool
is_set what events = is_some (due_time what events)

abbrev pub without_event : Event → List DueEvent → List DueEvent
without_event what events = filter (λ event. not (starts what event)) events

-- a handler is no longer set for a time
abbrev pub unset : Base → Event → Base
unset b what = record b { events = without_event what b.events }

-- a handler is set for a time, in place of the one that it was set for
abbrev pub set_for : Base → ℕ → Event → Base
set_for b time what = add_event (unset b what) time what

-- the first time, where that is still to come; else the least one later than now that lies a whole number of periods behind it
unfoldable pub next_due : ℕ → ℕ → ℕ → ℕ
next_due first period now = if nat_lt now first then first else first + ((now - first) / period + 1) * period

abbrev pub again_in : Base → Event → Option CyclicRow → Base
again_in b what None = b
again_in b what (Some k) = set_for b (b.time + k.period) what

-- a cyclic handler that falls due now is set for one period later; what else falls due isn't set again
unfoldable pub again : Base → Clocks → Event → Base
again b c (Cyclic id) = again_in b (Cyclic id) (cyclic_at c id)
again b c _ = b
