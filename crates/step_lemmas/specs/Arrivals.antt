-- The arrival of an ending: its effect on the parts, and what it comes to with all that follows it.
use Rattle.std.specs.Prelude.{◌≡◌, ◌++◌, List, Option, Some}
use Rattle.std.specs.Option.{option_map}
use Rattle.tk_types.specs.declared.line.Line.{Line}
use Rattle.device_model.specs.declared.messages.Ending.{Ending}
use Rattle.device_model.specs.declared.messages.Message.{Message}
use Rattle.device_model.specs.Devices.Endings.{DevParts, arrive}
use Rattle.device_model.specs.Devices.Handing.{messages}
use Rattle.machine_model.specs.Events.Follow.{Event}
use Rattle.machine_model.specs.States.Objects.{dev_parts, with_devices}
use Rattle.machine_model.specs.States.State.{State, parts_of, taken, with_parts}

-- the state with what an ending leaves of the devices and the memory
abbrev pub landed : State → DevParts → State
landed st q = with_parts st (with_devices (parts_of st) q)

-- the state once an ending has taken its effect, where it is fit
abbrev pub arrival_of : State → Ending → Option State
arrival_of st e = option_map (landed st) (arrive (dev_parts (parts_of st)) e)

-- an ending has arrived: the state after it, whose messages were taken, its lines behind others, and its messages behind others
pub record HasArrived (arrival : Option Event) (now : State) (before after : List Line) (waiting all : List Message) : Type 0 where
  pub event : Event
  pub comes : arrival ≡ Some event
  pub state : now ≡ taken event.state
  pub lines : after ≡ before ++ event.lines
  pub messages : all ≡ waiting ++ messages event.state.objects.devices
