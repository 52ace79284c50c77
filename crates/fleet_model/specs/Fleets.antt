-- A fleet: a channel for each device, and what each of its calls makes of them. How many of the messages that wait go into an
-- inbox at a call is the inbox's to say.
use Rattle.std.specs.Prelude.{◌≡◌, ℕ, zero, suc, ◌+◌, ◌<◌, ◌≤◌, Bool, false, nat_le, if◌then◌else◌, List, [], ◌∷◌, length, map, Option, Some, None, slice_get, slice_set}
use Rattle.tk_types.specs.declared.script.Device.{Device}
use Rattle.device_model.specs.declared.messages.Ending.{Ending}
use Rattle.device_model.specs.declared.messages.Message.{Message}
use Rattle.device_model.specs.declared.messages.Message.TheVariants as message
use Rattle.fleet_model.specs.Channels.{Channel, accepts, channel_start, flushed, marked, with_ending, with_message}

pub record Fleet : Type 0 where
  pub channels : List Channel  -- by device; the first is that of device 1
  pub dropped : ℕ  -- how many endings were dropped
  pub polls : ℕ

-- a count stays at the greatest number of 64 bits where it would pass it
abbrev pub most_counted : ℕ
most_counted = 18446744073709551615

abbrev pub counted : ℕ → ℕ
counted n = if nat_le n most_counted then n else most_counted

-- the device that a message is for
abbrev pub device_of : Message → ℕ
device_of (message.Serve d request) = d
device_of (message.Abort d number) = d
device_of (message.Stop d) = d

abbrev pub fleet_start : List Device → Fleet
fleet_start devices = record { channels = map channel_start devices; dropped = 0; polls = 0 }

-- ---- the channel of a device

unfoldable pub channel_in : List Channel → ℕ → Option Channel
channel_in channels zero = None
channel_in channels (suc d) = slice_get channels d

abbrev pub channel_at : Fleet → ℕ → Option Channel
channel_at fleet d = channel_in fleet.channels d

-- the channels where that of a device is another
abbrev pub changed_in : (Channel → Channel) → List Channel → ℕ → Option Channel → List Channel
changed_in change channels d None = channels
changed_in change channels zero (Some channel) = channels
changed_in change channels (suc d) (Some channel) = slice_set channels d (change channel)

unfoldable pub changed_at : (Channel → Channel) → List Channel → ℕ → List Channel
changed_at change channels d = changed_in change channels d (channel_in channels d)

-- ---- what the calls do

-- a message is handed, and of those that wait for its device so many go into the inbox
abbrev pub after_hand : Fleet → Message → ℕ → Fleet
after_hand fleet m n = record fleet { channels = changed_at (λ channel. flushed n (with_message m channel)) fleet.channels (device_of m) }

-- of the messages that wait for each device, so many go into its inbox
unfoldable pub all_flushed : List ℕ → List Channel → List Channel
all_flushed [] channels = channels
all_flushed (n ∷ counts) [] = []
all_flushed (n ∷ counts) (channel ∷ channels) = flushed n channel ∷ all_flushed counts channels

-- then an ending comes out of the outbox of its device, where there is one
abbrev pub taken_out : Option Ending → List Channel → List Channel
taken_out None channels = channels
taken_out (Some ending) channels = changed_at (with_ending ending) channels ending.device

abbrev pub after_wait : Fleet → List ℕ → Option Ending → Fleet
after_wait fleet counts ending = record fleet { channels = taken_out ending (all_flushed counts fleet.channels) }

abbrev pub after_poll : Fleet → List ℕ → Option Ending → Fleet
after_poll fleet counts ending = record (after_wait fleet counts ending) { polls = counted (fleet.polls + 1) }

-- whether the fleet lets an ending through to the kernel
unfoldable pub may_accept : Fleet → Ending → Bool
may_accept fleet ending = elim (channel_at fleet ending.device) as (λ _. Bool) [ Some channel ↦ accepts channel ending | None ↦ false ]

-- an ending of a device is dropped; it is counted for a device without a channel, too
abbrev pub after_drop : Fleet → ℕ → Fleet
after_drop fleet d = record fleet { channels = changed_at marked fleet.channels d; dropped = counted (fleet.dropped + 1) }

-- ---- what the calls are asked with

-- a device has a channel
abbrev pub HasChannel : Fleet → ℕ → Type 0
HasChannel fleet d = (1 ≤ d) × (d ≤ length fleet.channels)

-- a device has a channel, and fewer than four messages wait there
pub record HasPlace (fleet : Fleet) (d : ℕ) : Type 0 where
  pub channel : Channel
  pub is : channel_at fleet d ≡ Some channel
  pub few : length channel.waiting < 4

-- so it is of each device
abbrev pub EachHasPlace : List Channel → Type 0
EachHasPlace [] = Unit {0}
EachHasPlace (channel ∷ channels) = (length channel.waiting < 4) × EachHasPlace channels

-- a call handed a message
pub record Handed (old new : Fleet) (m : Message) : Type 0 where
  pub count : ℕ
  pub is : new ≡ after_hand old m count

-- a call waited for an ending, or asked for one without waiting
pub record Waited (old new : Fleet) (ending : Option Ending) : Type 0 where
  pub counts : List ℕ
  pub is : new ≡ after_wait old counts ending

pub record Polled (old new : Fleet) (ending : Option Ending) : Type 0 where
  pub counts : List ℕ
  pub is : new ≡ after_poll old counts ending

-- an ending is of a device that has a channel
abbrev pub IsOfFleet : Fleet → Option Ending → Type 0
IsOfFleet fleet None = Unit {0}
IsOfFleet fleet (Some ending) = HasChannel fleet ending.device
