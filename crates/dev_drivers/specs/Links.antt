-- The kernel's side of a device, and what its moves come to.
use Rattle.std.specs.Prelude.{ℕ, ◌≡◌, ◌⊎◌, List, [], ◌∷◌, ◌++◌, map, Option, None, Some}
use Rattle.rtrb.specs.Ring.{IsPair, SameConsumer, SameProducer, known_free, received, sent}
use Rattle.device_model.specs.declared.messages.Ending.{Ending}
use Rattle.device_model.specs.declared.messages.Message.{Message}
use Rattle.fleet_model.specs.Channels.{Channel, flushed, with_message}
use Rattle.dev_drivers.specs.declared.job.DriverJob.{DriverJob}
use Rattle.dev_drivers.specs.declared.link.Link.{Link}

-- an ending with the device that it came from
abbrev pub of_device : ℕ → Ending → Ending
of_device device ending = record ending { device = device }

abbrev pub channel_of : Link → Channel
channel_of link = record {
  kind = link.kind;
  handed = sent link.to ++ link.waiting.items;
  waiting = link.waiting.items;
  received = map (of_device link.device) (received link.from);
  dropped = link.dropped;
}

-- the same rings, of the same device
pub record SameLink (before after : Link) : Type 0 where
  pub to : SameProducer before.to after.to
  pub from : SameConsumer before.from after.from
  pub device : after.device ≡ before.device

-- a message waits only where the kernel knows of no free slot of the inbox
abbrev pub IsFlushed : Link → Type 0
IsFlushed link = (link.waiting.items ≡ []) ⊎ (known_free link.to ≡ 0)

-- so many messages have gone into the inbox, and nothing else has happened
pub record Flushed (before after : Link) : Type 0 where
  pub same : SameLink before after
  pub count : ℕ
  pub channel : channel_of after ≡ flushed count (channel_of before)

-- the link is the other side of the rings of a job
abbrev pub IsLinkOf : DriverJob → Link → Type 0
IsLinkOf job link = IsPair link.to job.start.inbox × IsPair job.start.outbox link.from × (job.device ≡ link.device) × (job.kind ≡ link.kind)

-- a message was handed, and so many messages have gone into the inbox then
pub record HandedTo (before after : Link) (m : Message) : Type 0 where
  pub same : SameLink before after
  pub count : ℕ
  pub channel : channel_of after ≡ flushed count (with_message m (channel_of before))
