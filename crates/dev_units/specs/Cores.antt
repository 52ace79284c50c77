-- What contracts see of a request that a driver works on, and of the driver.
use Rattle.std.specs.Prelude.{ℕ, Bool, nat_le, not, ◌&&◌, ◌==◌, ◌≡◌, ◌<◌, ◌+◌, ◌*◌, ◌^◌, true, false, if◌then◌else◌, List, [], length, Option, Some, None}
use Rattle.tk_types.specs.declared.error_code.Er.{Er}
use Rattle.device_model.specs.RoomyBytes.{RoomyBytes}
use Rattle.device_model.specs.declared.messages.Message.{Message}
use Rattle.device_model.specs.declared.messages.Message.TheVariants as message
use Rattle.device_model.specs.declared.messages.Request.{Request}
use Rattle.device_model.specs.Units.Stores.{Store}
use Rattle.device_model.specs.Units.Blocks.{count_at}
use Rattle.device_model.specs.Units.Function.{IsWhole, Served, block_size}
use Rattle.driver_model.specs.Cores.{Core, empty_turns}
use Rattle.dev_units.specs.Views.{HasBytes, HasRoom}

-- a request under way, as it came; blocks that are done, empty turns since the last of them, and bytes that were read
pub record Progress : Type 0 where
  pub request : Request
  pub blocks : ℕ
  pub turns : ℕ
  pub content : List ℕ

-- the bytes that a request came with: those of a write, and of a read none, with room for all that it has brought and more
abbrev pub came_with : Request → RoomyBytes → RoomyBytes
came_with request out = if request.write then request.bytes else record { items = []; room = length out.items + out.room }

-- the request as it came, whose room has what was read
abbrev pub as_it_came : Request → RoomyBytes → Request
as_it_came request out = record request { bytes = came_with request out }

-- what holds of a request that a driver works on: a write has its bytes, a read has brought those of the blocks that are done and
-- has room for the rest, and the number of its bytes so far is one of 32 bits
pub record IsServing (request : Request) (out : RoomyBytes) (blocks : ℕ) : Type 0 where
  pub bytes : HasBytes request
  pub room : request.write ≡ false → HasRoom request blocks out
  pub none : request.write ≡ true → out.items ≡ []
  pub no_room : request.write ≡ true → out.room ≡ 0
  pub few : block_size * blocks < 2 ^ 32

-- ---- the driver

abbrev pub request_in : Option Progress → Option Request
request_in None = None
request_in (Some it) = Some it.request

abbrev pub blocks_in : Option Progress → ℕ
blocks_in None = 0
blocks_in (Some it) = it.blocks

abbrev pub turns_in : Option Progress → ℕ
turns_in None = 0
turns_in (Some it) = it.turns

abbrev pub content_in : Option Progress → List ℕ
content_in None = []
content_in (Some it) = it.content

-- a driver with what it works on
abbrev pub holding : Core → Option Progress → Core
holding core it = record core { given = request_in it; blocks = blocks_in it; turns = turns_in it; content = content_in it }

-- what a message asks of the driver: a Serve has a whole request, and comes to a driver that has none, and no ending that is ready
abbrev pub MayTake : Core → Message → Type 0
MayTake core (message.Serve device request) = IsWhole request × (core.given ≡ None) × (core.ready ≡ None)
MayTake core (message.Abort device number) = Unit {0}
MayTake core (message.Stop device) = Unit {0}

-- whether a request has a number, where there is one
abbrev pub has_number : ℕ → Option Request → Bool
has_number number None = false
has_number number (Some request) = request.number == number

-- what came of a request, where the store plays no part
abbrev pub served_with : Store → ℕ → Er → List ℕ → Served
served_with store size error content = record { store = store; size = size; error = error; content = content }

-- the number of the block of a request that is done at the next turn: none where that turn is an empty one, and where the request
-- moves no bytes
abbrev pub block_for : Core → ℕ → ℕ → Request → Option ℕ
block_for core blocks turns request =
    if not (count_at core.kind core.store request (block_size * blocks) == 0) && nat_le (empty_turns core.kind) turns
    then Some blocks
    else None

abbrev pub block_of : Core → Option Progress → Option ℕ
block_of core None = None
block_of core (Some it) = block_for core it.blocks it.turns it.request

-- the number of the block that a driver does at its next turn
abbrev pub block_given : Core → Option Request → Option ℕ
block_given core None = None
block_given core (Some request) = block_for core core.blocks core.turns request

abbrev pub block_due : Core → Option ℕ
block_due core = if core.stopped then None else block_given core core.given
