-- The road between the kernel and the driver of a device, and what moves on it.
use Rattle.std.specs.Prelude.{ℕ, suc, Bool, true, false, nat_lt, if◌then◌else◌, List, [], ◌∷◌, ◌++◌, length, Option, Some, None}
use Rattle.tk_types.specs.declared.script.Device.{Device}
use Rattle.device_model.specs.declared.messages.Ending.{Ending}
use Rattle.device_model.specs.declared.messages.Message.{Message}
use Rattle.device_model.specs.declared.messages.Message.TheVariants as message
use Rattle.device_model.specs.Devices.Tables.{Link}
use Rattle.driver_model.specs.Cores.{Core, after_block, after_ending, after_message, can_take, core_start, ending_out}

pub record Road : Type 0 where
  pub waiting : List Message  -- messages that haven't gone into the inbox
  pub inbox : List Message
  pub core : Core
  pub outbox : List Ending

-- the most messages in an inbox, and the most endings in an outbox
abbrev pub inbox_size : ℕ
inbox_size = 4

abbrev pub outbox_size : ℕ
outbox_size = 2

-- ---- the start

abbrev pub road_start : ℕ → Device → Road
road_start d device = record { waiting = []; inbox = []; core = core_start d device.kind; outbox = [] }

abbrev pub roads_from : ℕ → List Device → List (Option Road)
roads_from d [] = []
roads_from d (device ∷ devices) = Some (road_start d device) ∷ roads_from (suc d) devices

-- ---- what the kernel gives

abbrev pub given_to : Road → List Message → Road
given_to road messages = record road { waiting = road.waiting ++ messages }

abbrev pub joined_to : Option Link → Option Road → Option Road
joined_to (Some link) (Some road) = Some (given_to road link.out)
joined_to _ road = road

-- the messages of each device that weren't taken yet join those that wait on its road
unfoldable pub joined : List (Option Link) → List (Option Road) → List (Option Road)
joined [] roads = roads
joined (link ∷ links) [] = []
joined (link ∷ links) (road ∷ roads) = joined_to link road ∷ joined links roads

abbrev pub stop_to : ℕ → Option Road → Option Road
stop_to d None = None
stop_to d (Some road) = Some (given_to road (message.Stop d ∷ []))

-- a Stop joins them on each road; the first of these roads is that of the device with a number
unfoldable pub stops_joined : ℕ → List (Option Road) → List (Option Road)
stops_joined d [] = []
stops_joined d (road ∷ roads) = stop_to d road ∷ stops_joined (suc d) roads

-- ---- into the inbox

abbrev pub is_abort : Message → Bool
is_abort (message.Abort d number) = true
is_abort _ = false

abbrev pub put_in : Road → Message → List Message → Road
put_in road m later = record road { waiting = later; inbox = road.inbox ++ m ∷ [] }

abbrev pub pushed : Bool → Road → Message → List Message → Road
pushed true road m later = if nat_lt (length road.inbox) inbox_size then put_in road m later else road
pushed false road m later = road

abbrev pub hand_first : Road → List Message → Road
hand_first road [] = road
hand_first road (m ∷ later) = if is_abort m then road else pushed true road m later

abbrev pub abort_first : Road → List Message → Road
abort_first road [] = road
abort_first road (m ∷ later) = pushed (is_abort m) road m later

-- the first message that waits, a Serve or a Stop, goes into the inbox, where it has room
unfoldable pub after_hand : Road → Road
after_hand road = hand_first road road.waiting

-- the same of an Abort
unfoldable pub after_abort : Road → Road
after_abort road = abort_first road road.waiting

-- ---- what the driver does

abbrev pub take_first : Road → List Message → Road
take_first road [] = road
take_first road (m ∷ later) =
    if can_take road.core m then record road { inbox = later; core = after_message road.core m } else road

-- the driver takes the first message of its inbox, if it takes that now
unfoldable pub after_take : Road → Road
after_take road = take_first road road.inbox

-- it makes a turn
unfoldable pub after_turn : Road → Road
after_turn road = record road { core = after_block road.core }

abbrev pub put_out : Road → Option Ending → Road
put_out road None = road
put_out road (Some ending) =
    if nat_lt (length road.outbox) outbox_size
    then record road { core = after_ending road.core; outbox = road.outbox ++ ending ∷ [] }
    else road

-- its ending that is ready goes into the outbox, where that has room
unfoldable pub after_end : Road → Road
after_end road = put_out road (ending_out road.core)
