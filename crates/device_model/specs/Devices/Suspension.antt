-- What a suspension sends: an event to each device's event buffer.
use Rattle.std.specs.Prelude.{ℕ, List, ◌++◌, Option, Some, None, fold, reverse}
use Rattle.object_model.specs.Mails.Tables.{MailParts}
use Rattle.object_model.specs.Mails.Buffers.{post}
use Rattle.device_model.specs.Devices.Memory.{four_bytes}
use Rattle.device_model.specs.Devices.Tables.{buffer_of, device_ids}
use Rattle.device_model.specs.Devices.Endings.{DevParts}

-- an event of a device: its type, the device's ID, and 0
abbrev pub event_bytes : ℕ → ℕ → List ℕ
event_bytes type d = four_bytes type ++ (four_bytes d ++ four_bytes 0)

abbrev pub mail_parts : DevParts → MailParts
mail_parts p = record { base = p.base; table = p.mails; memory = p.memory }

abbrev pub after_post : DevParts → Option MailParts → DevParts
after_post p None = p
after_post p (Some parts) = record p { base = parts.base; mails = parts.table; memory = parts.memory }

-- one event goes to a device's event buffer; without one, and where it would be refused, it is dropped
abbrev pub event_sent : ℕ → DevParts → ℕ → DevParts
event_sent type p d = after_post p (post (mail_parts p) (buffer_of p.table d) (event_bytes type d))

-- a suspension sends event 1 to the devices by falling ID, and then event 2 by rising ID
unfoldable pub events_sent : DevParts → DevParts
events_sent p = fold (event_sent 2) (fold (event_sent 1) p (reverse (device_ids p.table))) (device_ids p.table)
