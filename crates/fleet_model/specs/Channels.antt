-- The channel between the kernel and the driver of a device, as the kernel sees it.
use Rattle.std.specs.Prelude.{ℕ, ◌-◌, not, ◌&&◌, Bool, true, false, nat_le, List, [], ◌∷◌, ◌++◌, length, drop}
use Rattle.std.specs.List.{list_any}
use Rattle.tk_types.specs.declared.script.Kind.{Kind}
use Rattle.tk_types.specs.declared.script.Device.{Device}
use Rattle.device_model.specs.declared.messages.Ending.{Ending}
use Rattle.device_model.specs.declared.messages.Message.{Message}
use Rattle.device_model.specs.declared.messages.Message.TheVariants as message

pub record Channel : Type 0 where
  pub kind : Kind  -- of the device's unit
  pub handed : List Message  -- all messages that were handed
  pub waiting : List Message  -- the last of them, which haven't gone into the inbox
  pub received : List Ending  -- all endings that came out of the outbox
  pub dropped : Bool  -- whether one of these was dropped

abbrev pub channel_start : Device → Channel
channel_start device = record { kind = device.kind; handed = []; waiting = []; received = []; dropped = false }

abbrev pub is_serve : Message → Bool
is_serve (message.Serve d request) = true
is_serve (message.Abort d number) = false
is_serve (message.Stop d) = false

-- how many messages have gone into the inbox
abbrev pub gone : Channel → ℕ
gone channel = length channel.handed - length channel.waiting

-- the first of the messages that wait, so many of them, go into the inbox
abbrev pub flushed : ℕ → Channel → Channel
flushed n channel = record channel { waiting = drop n channel.waiting }

-- a message is handed
abbrev pub with_message : Message → Channel → Channel
with_message m channel = record channel { handed = channel.handed ++ m ∷ []; waiting = channel.waiting ++ m ∷ [] }

-- an ending comes out of the outbox
abbrev pub with_ending : Ending → Channel → Channel
with_ending ending channel = record channel { received = channel.received ++ ending ∷ [] }

-- an ending was dropped
abbrev pub marked : Channel → Channel
marked channel = record channel { dropped = true }

-- an ending can be what its request came to only where the inbox has received at least as many messages as its driver had taken,
-- no request waits to go there, and no earlier ending was dropped
abbrev pub accepts : Channel → Ending → Bool
accepts channel ending =
    nat_le ending.taken (gone channel) && (not (list_any is_serve channel.waiting) && not channel.dropped)
