-- What contracts see of a unit, and what holds of a unit at every time.
use Rattle.std.specs.Prelude.{ℕ, ◌≡◌, ◌≤◌, ◌<◌, ◌+◌, ◌*◌, ◌^◌, true, false, List, length, ⊤}
use Rattle.tk_types.specs.declared.script.Kind.{Kind}
use Rattle.tk_types.specs.declared.script.Kind.TheVariants.{Ram, Log, Flaky, Slow}
use Rattle.device_model.specs.declared.messages.Request.{Request}
use Rattle.device_model.specs.RoomyBytes.{RoomyBytes}
use Rattle.device_model.specs.Units.Stores.{Store, is_log, log_limit}
use Rattle.device_model.specs.Units.Function.{block_size}
use Rattle.dev_units.specs.Turns.{turn_of}

-- a unit: its kind, its store, and how many bytes it has reserved for it
pub record UnitState : Type 0 where
  pub kind : Kind
  pub store : Store
  pub capacity : ℕ

-- the most bytes that a store of a kind ever has
abbrev pub most_bytes : Kind → ℕ
most_bytes (Ram size) = size
most_bytes Log = log_limit
most_bytes (Flaky size each) = size
most_bytes (Slow size turns) = size

-- a flaky unit fails each request, or each second one, or each later one
abbrev pub HasTurns : Kind → Type 0
HasTurns (Flaky size each) = 1 ≤ each
HasTurns _ = ⊤

-- a kind that a unit can be of
pub record IsRightKind (kind : Kind) : Type 0 where
  pub size : most_bytes kind ≤ log_limit
  pub has_turns : HasTurns kind

-- a unit's store is never past the limit, a log has room up to it, and the turn is that of the requests that were begun
pub record IsUnit (kind : Kind) (bytes : List ℕ) (begun turn capacity : ℕ) : Type 0 where
  pub few : length bytes ≤ log_limit
  pub room : is_log kind ≡ true → log_limit ≤ capacity
  pub has_turns : HasTurns kind
  pub in_turn : turn ≡ turn_of kind begun

-- a write has as many bytes as its size
abbrev pub HasBytes : Request → Type 0
HasBytes request = request.write ≡ true → length request.bytes.items ≡ request.size

-- the bytes that a read has brought are those of the blocks before this one, and there is room for the rest
pub record HasRoom (request : Request) (number : ℕ) (out : RoomyBytes) : Type 0 where
  pub brought : length out.items ≡ block_size * number
  pub room : request.size ≤ block_size * number + out.room

-- a request has more blocks than so many, and of a read there is room for the rest
pub record GoesOn (request : Request) (number : ℕ) (out : RoomyBytes) : Type 0 where
  pub more : block_size * number < request.size
  pub few : block_size * number < 2 ^ 32
  pub room : request.write ≡ false → HasRoom request number out
