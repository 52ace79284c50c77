-- A fleet follows a run: what went over its channels is what has passed in the run so far.
use Rattle.std.specs.Prelude.{◌≡◌, ◌⊎◌, ℕ, ◌+◌, ◌==◌, false, if◌then◌else◌, List, [], ◌∷◌, ◌++◌, length, map, Option, Some, None}
use Rattle.tk_types.specs.declared.script.Kind.{Kind}
use Rattle.device_model.specs.declared.messages.Ending.{Ending}
use Rattle.device_model.specs.declared.messages.Message.{Message}
use Rattle.fleet_model.specs.Channels.{Channel}
use Rattle.fleet_model.specs.Fleets.{Fleet, channel_at, most_counted}
use Rattle.run_model.specs.Passings.{Passing, endings_of, given_at, messages_to}
use Rattle.run_model.specs.SoFar.{messages_for}
use Rattle.run_model.specs.Told.{EachAtMost, untold}

-- an ending that came out and wasn't offered to the kernel yet, where it is of a device
abbrev pub pending_of : ℕ → Option Ending → List Ending
pending_of d None = []
pending_of d (Some ending) = if ending.device == d then ending ∷ [] else []

abbrev pub pending_count : Option Ending → ℕ
pending_count None = 0
pending_count (Some ending) = 1

-- the kinds of units of all channels
abbrev pub kinds_of : List Channel → List Kind
kinds_of channels = map (λ (c : Channel). c.kind) channels

unfoldable pub received_in : List Channel → ℕ
received_in [] = 0
received_in (channel ∷ channels) = length channel.received + received_in channels

-- the endings of a device that were received are those that the run took in, then others where one was dropped, and last the one
-- that wasn't offered yet
pub record Receives (d : ℕ) (run : List Passing) (pending : Option Ending) (channel : Channel) : Type 0 where
  pub front : List Ending
  pub rest : List Ending
  pub all : channel.received ≡ front ++ (rest ++ pending_of d pending)
  pub same : map untold front ≡ map untold (endings_of d run)
  pub given : EachAtMost (map (λ (e : Ending). e.taken) front) (given_at d run)
  pub none : channel.dropped ≡ false → rest ≡ []

-- so many endings were taken in, these messages are still to be handed, and that ending wasn't offered yet
pub record Follows (run : List Passing) (count : ℕ) (left : List Message) (pending : Option Ending) (fleet : Fleet) : Type 0 where
  pub handed : (d : ℕ) (channel : Channel) → channel_at fleet d ≡ Some channel → messages_to d run ≡ channel.handed ++ messages_for d left
  pub received : (d : ℕ) (channel : Channel) → channel_at fleet d ≡ Some channel → Receives d run pending channel
  pub dropped : (fleet.dropped + (count + pending_count pending) ≡ received_in fleet.channels) ⊎ (fleet.dropped ≡ most_counted)
