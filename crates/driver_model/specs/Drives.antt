-- What a driver comes to by a list of events: messages that it takes, turns, and endings that it gives out. An event that
-- can't be leaves all as it is.
use Rattle.std.specs.Prelude.{◌≡◌, if◌then◌else◌, ℕ, List, [], ◌∷◌, ◌++◌, Option, Some, None, fold}
use Rattle.tk_types.specs.declared.script.Kind.{Kind}
use Rattle.device_model.specs.declared.messages.Ending.{Ending}
use Rattle.device_model.specs.declared.messages.Message.{Message}
use Rattle.driver_model.specs.Cores.{Core, after_block, after_ending, after_message, can_take, core_start, ending_out}

pub data Event : Type 0 where
  Take : (message : Message) → Event
  Block : Event
  End : Event

-- a driver, the messages that it has taken, and the endings that it has given out
pub record Driving : Type 0 where
  pub core : Core
  pub taken : List Message
  pub sent : List Ending

abbrev pub driving_start : ℕ → Kind → Driving
driving_start d kind = record { core = core_start d kind; taken = []; sent = [] }

abbrev pub listed : Option Ending → List Ending
listed None = []
listed (Some ending) = ending ∷ []

unfoldable pub driver_step : Driving → Event → Driving
driver_step d (Take m) = if can_take d.core m then record d { core = after_message d.core m; taken = d.taken ++ m ∷ [] } else d
driver_step d Block = record d { core = after_block d.core }
driver_step d End = record d { core = after_ending d.core; sent = d.sent ++ listed (ending_out d.core) }

-- a driver after a list of events
unfoldable pub ran : Driving → List Event → Driving
ran d events = fold driver_step d events

-- some list of events leads there
pub record Reaches (before after : Driving) : Type 0 where
  pub events : List Event
  pub gives : ran before events ≡ after
