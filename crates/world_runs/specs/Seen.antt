-- What is looked at of a world that was worked out.
use Rattle.std.specs.Prelude.{ℕ, Bool, List, Option, map, take, drop}
use Rattle.std.specs.Option.{option_map}
use Rattle.tk_types.specs.declared.run.End.{End}
use Rattle.device_model.specs.declared.messages.Ending.{Ending}
use Rattle.device_model.specs.declared.messages.Message.{Message}
use Rattle.device_model.specs.declared.messages.Message.TheVariants as message
use Rattle.device_model.specs.declared.messages.Request.{Request}
use Rattle.device_model.specs.declared.rows.Life.{Life}
use Rattle.device_model.specs.Devices.Tables.{Link, Row}
use Rattle.world_model.specs.Roads.{Road}
use Rattle.world_model.specs.Worlds.{World}

-- a message, where a request is told by its number
pub data Word : Type 0 where
  Serve : (number : ℕ) → Word
  Abort : (number : ℕ) → Word
  Stop : Word

abbrev pub word_of : Message → Word
word_of (message.Serve d request) = Serve request.number
word_of (message.Abort d number) = Abort number
word_of (message.Stop d) = Stop

-- a road, with the first two bytes of the driver's store
pub record SeenRoad : Type 0 where
  pub waiting : List Word
  pub inbox : List Word
  pub works : Option ℕ  -- the number of the request that the driver works on
  pub blocks : ℕ
  pub stopped : Bool
  pub outbox : List Ending
  pub holds : List ℕ

abbrev pub number_of : Request → ℕ
number_of request = request.number

abbrev pub road_seen : Road → SeenRoad
road_seen road = record {
  waiting = map word_of road.waiting;
  inbox = map word_of road.inbox;
  works = option_map number_of road.core.given;
  blocks = road.core.blocks;
  stopped = road.core.stopped;
  outbox = road.outbox;
  holds = take 2 road.core.store.bytes;
}

abbrev pub bytes_known : Link → List ℕ
bytes_known link = take 2 link.store.bytes

abbrev pub life_of : Row → Life
life_of row = row.life

-- a world: its steps, how it ended, the roads, the first two bytes of each store as the kernel knows it, where the first three
-- requests are in their lives, and which have ended, in that order
pub record Seen : Type 0 where
  pub steps : ℕ
  pub over : Option End
  pub roads : List (Option SeenRoad)
  pub known : List (Option (List ℕ))
  pub lives : List (Option Life)
  pub ended : List ℕ

abbrev pub seen : World → Seen
seen w = record {
  steps = w.state.steps;
  over = w.over;
  roads = map (option_map road_seen) (drop 1 w.roads);
  known = map (option_map bytes_known) (drop 1 w.state.objects.devices.links);
  lives = map (option_map life_of) (take 3 (drop 1 w.state.objects.devices.rows));
  ended = w.state.objects.devices.ended;
}
