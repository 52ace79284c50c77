-- When requests go to drivers.
use Rattle.std.specs.Prelude.{ℕ, ◌<◌, ◌+◌, ◌^◌, nat_le, Bool, true, false, List, Option, Some, None}
use Rattle.tk_types.specs.declared.run.Mode.{Mode}
use Rattle.tk_types.specs.declared.run.Mode.TheVariants.{Free, Sync}
use Rattle.kernel_model.specs.Tasks.Base.{Base}
use Rattle.kernel_model.specs.Words.Orders.{entry}
use Rattle.device_model.specs.Devices.Tables.{Devices, Link}
use Rattle.device_model.specs.Devices.Handing.{hand_first, hand_over}
use Rattle.dev_layer.specs.Messages.{number_in}
use Rattle.dev_layer.specs.Requests.{Requests}
use Rattle.dev_layer.specs.Tables.{with_requests}

-- requests and links changed
abbrev pub with_parts : Devices → List (Option Link) → Requests → Devices
with_parts dv links rq = record (with_requests dv rq) { links = links }

-- whether as many requests were handed over to a driver as can be counted; so many never are
abbrev pub is_worn : Option Link → Bool
is_worn None = false
is_worn (Some link) = nat_le (2 ^ 64) (link.number + 1)

-- one request more can be counted for any driver
pub record MayCount (links : List (Option Link)) : Type 0 where
  pub few : (d : ℕ) → number_in (entry links d) + 1 < 2 ^ 64

-- in free mode each driver without a request gets one; in sync mode one driver does where the machine is idle
abbrev pub handed_over : Mode → Bool → Base → Devices → Devices
handed_over Free idle b dv = hand_over b dv
handed_over Sync true b dv = hand_first dv
handed_over Sync false b dv = dv
