-- What waits on the way to the driver of a device: the messages that the kernel gave and that haven't gone into its inbox, in order.
use Rattle.std.specs.Prelude.{◌≡◌, ℕ, ◌≤◌, if◌then◌else◌, List, [], ◌∷◌, ◌++◌, Option, Some, None}
use Rattle.device_model.specs.declared.messages.Message.{Message}
use Rattle.device_model.specs.declared.messages.Message.TheVariants as message
use Rattle.device_model.specs.Units.Function.{IsWhole}
use Rattle.device_model.specs.Devices.Tables.{Devices, Given, given_in, link_at}
use Rattle.fleet_model.specs.Channels.{Channel}
use Rattle.fleet_model.specs.Fleets.{channel_in, device_of}
use Rattle.run_model.specs.SoFar.{messages_for}

-- ---- the way to one driver

-- what a driver is told of the request that it has: to serve it, and to abort it, where that was asked
abbrev pub told_of : ℕ → Option Given → List Message
told_of d None = []
told_of d (Some given) = message.Serve d given.request ∷ (if given.asked then message.Abort d given.request.number ∷ [] else [])

-- what waits is a rear of an Abort, which was asked of an earlier request, and of what the driver is told of the one that it has;
-- the front has gone into the inbox
pub record IsWay (d : ℕ) (given : Option Given) (way : List Message) : Type 0 where
  pub old : ℕ
  pub gone : List Message
  pub is : message.Abort d old ∷ told_of d given ≡ gone ++ way

-- so it is of a device, by what the kernel keeps of it
abbrev pub Way : Devices → ℕ → List Message → Type 0
Way dv d way = IsWay d (given_in (link_at dv d)) way

-- ---- the ways to all drivers

-- of each channel that a device has, what waits there
abbrev pub EachWay : Devices → List Channel → Type 0
EachWay dv channels = (d : ℕ) (channel : Channel) → channel_in channels d ≡ Some channel → Way dv d channel.waiting

-- the same with messages behind it that are still to be handed
abbrev pub EachWayWith : Devices → List Channel → List Message → Type 0
EachWayWith dv channels ms = (d : ℕ) (channel : Channel) → channel_in channels d ≡ Some channel → Way dv d (channel.waiting ++ messages_for d ms)

-- ---- messages

-- the request of a Serve is whole, and there is no Stop
abbrev pub IsWholeMessage : Message → Type 0
IsWholeMessage (message.Serve d request) = IsWhole request
IsWholeMessage (message.Abort d number) = Unit {0}
IsWholeMessage (message.Stop d) = ⊥

-- a message is for one of so many devices, and is whole
pub record IsGoodMessage (n : ℕ) (m : Message) : Type 0 where
  pub first : 1 ≤ device_of m
  pub last : device_of m ≤ n
  pub rest : IsWholeMessage m
