-- The record of a fleet that was closed: what went over each of its channels, and what each driver did.
use Rattle.std.specs.Prelude.{◌≡◌, ◌⊎◌, ℕ, zero, suc, List, [], ◌∷◌, ◌++◌, length, map, Option, None, slice_get}
use Rattle.tk_types.specs.declared.script.Kind.{Kind}
use Rattle.device_model.specs.declared.messages.Ending.{Ending}
use Rattle.device_model.specs.declared.messages.Message.{Message}
use Rattle.device_model.specs.declared.messages.Message.TheVariants as message
use Rattle.driver_model.specs.Cores.{Core}
use Rattle.driver_model.specs.Drives.{Reaches, driving_start}
use Rattle.fleet_model.specs.Channels.{Channel}
use Rattle.fleet_model.specs.Fleets.{Fleet, most_counted}

-- what went over the channel of a device
pub record Joined : Type 0 where
  pub kind : Kind
  pub handed : List Message  -- by the kernel, with the Stop at the end
  pub taken : List Message  -- by the driver
  pub sent : List Ending  -- by the driver
  pub received : List Ending  -- by the kernel

pub record Record : Type 0 where
  pub channels : List Joined  -- by device; the first is that of device 1
  pub dropped : ℕ
  pub polls : ℕ

unfoldable pub joined_in : List Joined → ℕ → Option Joined
joined_in channels zero = None
joined_in channels (suc d) = slice_get channels d

-- one list is a front of another
pub record IsFront {A : Type 0} (front whole : List A) : Type 0 where
  pub rest : List A
  pub is : whole ≡ front ++ rest

-- the last of these messages is a Stop
pub record EndsWithStop (messages : List Message) : Type 0 where
  pub front : List Message
  pub device : ℕ
  pub is : messages ≡ front ++ message.Stop device ∷ []

-- what holds of a device once its driver was joined: the messages that it took are a front of those that were handed, and the
-- endings that came out are a front of those that it sent; and what it took and sent is what a driver of its unit does from its
-- start on, up to a Stop, or up to as many messages as can be counted
pub record IsJoined (d : ℕ) (channel : Joined) : Type 0 where
  pub taken : IsFront channel.taken channel.handed
  pub received : IsFront channel.received channel.sent
  pub core : Core
  pub run : Reaches (driving_start d channel.kind) (record { core = core; taken = channel.taken; sent = channel.sent })
  pub over : EndsWithStop channel.taken ⊎ (length channel.taken ≡ most_counted)

-- of all devices, the first of which has this number
abbrev pub AreJoined : ℕ → List Joined → Type 0
AreJoined d [] = Unit {0}
AreJoined d (channel ∷ channels) = IsJoined d channel × AreJoined (suc d) channels

-- ---- what a close makes of a fleet

-- the messages of each device, and then a Stop; the first device has this number
unfoldable pub all_stopped : ℕ → List Channel → List (List Message)
all_stopped d [] = []
all_stopped d (channel ∷ channels) = (channel.handed ++ message.Stop d ∷ []) ∷ all_stopped (suc d) channels

-- the record of a fleet that was closed: each driver was handed a Stop and was joined, no ending was taken out, and the counts
-- are as they were
pub record Closes (fleet : Fleet) (closed : Record) : Type 0 where
  pub kinds : map (λ (c : Joined). c.kind) closed.channels ≡ map (λ (c : Channel). c.kind) fleet.channels
  pub handed : map (λ (c : Joined). c.handed) closed.channels ≡ all_stopped 1 fleet.channels
  pub received : map (λ (c : Joined). c.received) closed.channels ≡ map (λ (c : Channel). c.received) fleet.channels
  pub joined : AreJoined 1 closed.channels
  pub dropped : closed.dropped ≡ fleet.dropped
  pub polls : closed.polls ≡ fleet.polls
