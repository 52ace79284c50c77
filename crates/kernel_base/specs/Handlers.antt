-- Handlers that are set for a time.
use Rattle.std.specs.Prelude.{Bool, false, ◌==◌, ◌&&◌, nat_le, List}
use Rattle.std.specs.List.{list_any}
use Rattle.tk_types.specs.declared.task.Event.{Event}
use Rattle.tk_types.specs.declared.task.Event.TheVariants.{Wait, Cyclic, Alarm}
use Rattle.tk_types.specs.declared.task.DueEvent.{DueEvent}
use Rattle.kernel_base.specs.Room.{number_of}

-- a cyclic or alarm handler, with an ID that there can be
abbrev pub is_handler : Event → Bool
is_handler (Wait task) = false
is_handler (Cyclic id) = nat_le 1 id && nat_le id 64
is_handler (Alarm id) = nat_le 1 id && nat_le id 64

-- whether that event is set
abbrev pub has_event : Event → List DueEvent → Bool
has_event what events = list_any (λ event. number_of event.what == number_of what) events
