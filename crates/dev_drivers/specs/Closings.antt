-- What a device has come to once its driver was joined.
use Rattle.std.specs.Prelude.{ℕ, suc, ◌+◌, ◌≡◌, List, [], ◌∷◌, ◌++◌, length, map}
use Rattle.rtrb.specs.Ring.{received, sent}
use Rattle.device_model.specs.declared.messages.Message.TheVariants as message
use Rattle.fleet_model.specs.Channels.{Channel}
use Rattle.fleet_model.specs.Fleets.{EachHasPlace}
use Rattle.fleet_model.specs.Records.{IsJoined, Joined}
use Rattle.dev_drivers.specs.declared.closed.Closed.{Closed}
use Rattle.dev_drivers.specs.declared.driven.Driven.{Driven}
use Rattle.dev_drivers.specs.declared.job.DriverJob.{DriverJob}
use Rattle.dev_drivers.specs.declared.link.Link.{Link}
use Rattle.dev_drivers.specs.declared.log.DriverLog.{DriverLog}
use Rattle.dev_drivers.specs.Jobs.{IsLogOf}
use Rattle.dev_drivers.specs.Lines.{EachLinked, channels_of, devices_of, numbers}
use Rattle.dev_drivers.specs.Links.{IsLinkOf, of_device}

abbrev pub joined_of : Closed → Joined
joined_of c = record {
  kind = c.kind;
  handed = sent c.to;
  taken = received c.inbox;
  sent = sent c.outbox;
  received = map (of_device c.device) (received c.from);
}

-- the driver on the other side of the link has ended
pub record IsEnded (link : Link) (log : DriverLog) : Type 0 where
  pub job : DriverJob
  pub linked : IsLinkOf job link
  pub ends : IsLogOf job log

-- nothing was handed or came out any more
pub record ClosesTo (channel : Channel) (device : ℕ) (joined : Joined) : Type 0 where
  pub kind : joined.kind ≡ channel.kind
  pub handed : joined.handed ≡ channel.handed
  pub received : joined.received ≡ channel.received
  pub ended : IsJoined device joined

-- the driver was handed a Stop, and then nothing was handed or came out any more
pub record StopsTo (channel : Channel) (device : ℕ) (joined : Joined) : Type 0 where
  pub kind : joined.kind ≡ channel.kind
  pub handed : joined.handed ≡ channel.handed ++ message.Stop device ∷ []
  pub received : joined.received ≡ channel.received
  pub ended : IsJoined device joined

-- so does each device, the first of which has this number
abbrev pub AllStop : ℕ → List Channel → List Joined → Type 0
AllStop d [] [] = Unit {0}
AllStop d [] (joined ∷ rest) = ⊥
AllStop d (channel ∷ channels) [] = ⊥
AllStop d (channel ∷ channels) (joined ∷ rest) = StopsTo channel d joined × AllStop (suc d) channels rest

module _ {H : Type 0} where
  -- some devices were closed, and these are left
  pub record Closing (job_of : H → DriverJob) (start : List Channel) (kept : List Closed) (left : List (Driven H)) : Type 0 where
    pub front : List Channel
    pub is : start ≡ front ++ channels_of left
    pub closed : AllStop 1 front (map joined_of kept)
    pub linked : EachLinked job_of left
    pub numbered : devices_of left ≡ numbers (length kept + 1) (length left)
    pub places : EachHasPlace (channels_of left)
