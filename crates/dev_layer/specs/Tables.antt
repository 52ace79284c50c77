-- The tables of the devices have a slot for each ID, and a place for each task.
use Rattle.std.specs.Prelude.{ℕ, ◌≡◌, ◌+◌, ◌≤◌, List, Option, length, Some, None}
use Rattle.std.specs.List.{All, slice_index_or}
use Rattle.tk_types.specs.declared.script.Device.{Device}
use Rattle.kernel_model.specs.Words.Orders.{entry}
use Rattle.device_model.specs.declared.rows.Opened.{Opened}
use Rattle.device_model.specs.declared.rows.Transfer.{Transfer}
use Rattle.device_model.specs.declared.rows.Wish.{Wish}
use Rattle.device_model.specs.declared.rows.Wish.TheVariants as wish
use Rattle.device_model.specs.Devices.Tables.{Devices}
use Rattle.dev_layer.specs.Links.{IsKind}
use Rattle.dev_layer.specs.Requests.{Requests}

-- what a call asks for lies inside the script's memory
pub record IsInside (transfer : Transfer) : Type 0 where
  pub descriptor_small : transfer.descriptor ≤ 32
  pub inside : transfer.address + transfer.size ≤ 65536

abbrev pub IsWish : Wish → Type 0
IsWish (wish.Acceptance transfer stays) = IsInside transfer
IsWish _ = Unit {0}

-- a wish for an acceptance is of a descriptor
abbrev pub HasDescriptor : Wish → Type 0
HasDescriptor (wish.Acceptance transfer stays) = transfer.descriptor ≤ 32
HasDescriptor _ = Unit {0}

-- an open descriptor is one of a device
abbrev pub IsOpened : Option Opened → Type 0
IsOpened None = Unit {0}
IsOpened (Some opened) = (1 ≤ opened.device) × (opened.device ≤ 8)

pub record AreTables (buffers : List ℕ) (opened : List (Option Opened)) (wishes : List Wish) : Type 0 where
  pub all_buffers : length buffers ≡ 9
  pub all_opened : length opened ≡ 33
  pub all_wishes : length wishes ≡ 256
  pub fit : (n : ℕ) → IsOpened (entry opened n)
  pub wished : (t : ℕ) → IsWish (slice_index_or wishes t wish.Nothing)

-- at most eight devices, and the numbers of their kinds are in range
pub record AreDevices (devices : List Device) : Type 0 where
  pub few : length devices ≤ 8
  pub kinds : All (λ device. IsKind device.kind) devices

abbrev pub requests_of : Devices → Requests
requests_of dv = record { rows = dv.rows; queued = dv.queued; ended = dv.ended; serial = dv.serial }

abbrev pub with_requests : Devices → Requests → Devices
with_requests dv rq = record dv { rows = rq.rows; queued = rq.queued; ended = rq.ended; serial = rq.serial }
