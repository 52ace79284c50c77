-- What holds of a fleet at every time, and what a wait comes to.
use Rattle.std.specs.Prelude.{ℕ, ◌≡◌, ◌≤◌, ◌<◌, List, [], length, Option, Some}
use Rattle.std.specs.List.{All}
use Rattle.tk_types.specs.declared.script.Device.{Device}
use Rattle.tk_types.specs.declared.script.Kind.{Kind}
use Rattle.tk_types.specs.declared.script.Kind.TheVariants.{Ram, Log, Flaky, Slow}
use Rattle.device_model.specs.declared.messages.Ending.{Ending}
use Rattle.device_model.specs.declared.messages.Message.{Message}
use Rattle.fleet_model.specs.Channels.{Channel, flushed, marked, with_message}
use Rattle.fleet_model.specs.Fleets.{all_flushed, changed_at, channel_in, device_of, taken_out}
use Rattle.dev_drivers.specs.declared.closed.Closed.{Closed}
use Rattle.dev_drivers.specs.declared.driven.Driven.{Driven}
use Rattle.dev_drivers.specs.declared.job.DriverJob.{DriverJob}
use Rattle.dev_drivers.specs.Lines.{EachLinked, Kept, channels_of, devices_of, numbers}

module _ {H : Type 0} where
  -- the links are the other sides of the drivers, in order, and there is room for the record
  pub record IsFleet (job_of : H → DriverJob) (lines : List (Driven H)) (kept : List Closed) (room : ℕ) : Type 0 where
    pub linked : EachLinked job_of lines
    pub numbered : devices_of lines ≡ numbers 1 (length lines)
    pub none : kept ≡ []
    pub fits : length lines ≤ room

  -- an ending came out
  pub record CameOut (before after : List (Driven H)) (ending : Ending) : Type 0 where
    pub kept : Kept before after
    pub counts : List ℕ
    pub channels : channels_of after ≡ taken_out (Some ending) (all_flushed counts (channels_of before))
    pub first : 1 ≤ ending.device
    pub last : ending.device ≤ length before

-- the numbers of a kind: each request of a flaky one counts up to at least 1, and no memory is larger than all addresses
abbrev pub IsKind : Kind → Type 0
IsKind (Ram size) = size ≤ 65536
IsKind Log = Unit {0}
IsKind (Flaky size each) = (size ≤ 65536) × (1 ≤ each)
IsKind (Slow size turns) = size ≤ 65536

-- at most eight devices, and the numbers of their kinds are in range
pub record AreDevices (devices : List Device) : Type 0 where
  pub few : length devices ≤ 8
  pub kinds : All (λ device. IsKind device.kind) devices

-- a device has a channel, and fewer than four messages wait there
pub record HasPlaceIn (channels : List Channel) (d : ℕ) : Type 0 where
  pub channel : Channel
  pub is : channel_in channels d ≡ Some channel
  pub few : length channel.waiting < 4

module _ {H : Type 0} where
  -- a message was handed to its device
  pub record HandedIn (before after : List (Driven H)) (m : Message) : Type 0 where
    pub kept : Kept before after
    pub count : ℕ
    pub channels : channels_of after ≡ changed_at (λ channel. flushed count (with_message m channel)) (channels_of before) (device_of m)

  -- a device was marked, if it has a channel
  pub record MarkedIn (before after : List (Driven H)) (d : ℕ) : Type 0 where
    pub kept : Kept before after
    pub channels : channels_of after ≡ changed_at marked (channels_of before) d
