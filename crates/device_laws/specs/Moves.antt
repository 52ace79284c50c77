-- The moves on devices as a list, and what such a list makes of them.
use Rattle.std.specs.Prelude.{◌≡◌, ℕ, ◌==◌, Bool, true, false, if◌then◌else◌, List, Option, Some, None, fold}
use Rattle.tk_types.specs.declared.line.How.{How}
use Rattle.device_model.specs.declared.rows.Opened.{Opened}
use Rattle.device_model.specs.declared.rows.Wish.{Wish}
use Rattle.device_model.specs.Devices.Tables.{Given, Link, Row, Devices, is_at_driver, link_at, row_at, with_open, with_wish, with_buffer, with_off, accepted, dropped, handed, asked}
use Rattle.device_model.specs.Devices.Endings.{DevParts, ended_at, is_allowed, served_of}
use Rattle.device_model.specs.Devices.Handing.{emptied}
use Rattle.device_model.specs.Devices.MoveProofs.{IsNew}

-- a move: a descriptor is set, a task asks for something, a device has another event buffer, suspending is disabled so many
-- times, a request is accepted, one is let go, the first that waits goes to a driver, a driver is asked to abort its request,
-- the ending of that kind arrives from it, and the messages that wait for drivers are taken
pub data Move : Type 0 where
  Opens : (dd : ℕ) (slot : Option Opened) → Move
  Wishes : (t : ℕ) (wish : Wish) → Move
  Buffers : (d id : ℕ) → Move
  Offs : (off : ℕ) → Move
  Accepts : (id : ℕ) (row : Row) (new : IsNew row) → Move
  Drops : (id : ℕ) → Move
  Hands : (d : ℕ) → Move
  Asks : (d : ℕ) → Move
  Arrives : (d : ℕ) (how : How) → Move
  Takes : Move

abbrev pub ended_row : Devices → ℕ → Link → Given → How → Option Row → Devices
ended_row dv d link given how None = dv
ended_row dv d link given how (Some row) =
    if is_at_driver row.life
    then ended_at dv d link given.request.id row (served_of link.kind link.store given.request how)
    else dv

abbrev pub ended_if : Bool → Devices → ℕ → Link → Given → How → Devices
ended_if false dv d link given how = dv
ended_if true dv d link given how = ended_row dv d link given how (row_at dv given.request.id)

abbrev pub ended_given : Devices → ℕ → Link → How → Option Given → Devices
ended_given dv d link how None = dv
ended_given dv d link how (Some given) = ended_if (is_allowed link.kind link.store given how) dv d link given how

abbrev pub ended_link : Devices → ℕ → How → Option Link → Devices
ended_link dv d how None = dv
ended_link dv d how (Some link) = ended_given dv d link how link.given

-- the request that is with the driver of a device ends, where an ending of that kind is fit
unfoldable pub ended : Devices → ℕ → How → Devices
ended dv d how = ended_link dv d how (link_at dv d)

unfoldable pub moved : Devices → Move → Devices
moved dv (Opens dd slot) = with_open dv dd slot
moved dv (Wishes t wish) = with_wish dv t wish
moved dv (Buffers d id) = with_buffer dv d id
moved dv (Offs off) = with_off dv off
moved dv (Accepts id row new) = accepted dv id row
moved dv (Drops id) = dropped dv id
moved dv (Hands d) = handed dv d
moved dv (Asks d) = asked dv d
moved dv (Arrives d how) = ended dv d how
moved dv Takes = emptied dv

-- the devices after a list of moves
unfoldable pub all_moved : Devices → List Move → Devices
all_moved dv moves = fold moved dv moves

-- some list of moves leads from these devices to those
pub record Leads (dv after : Devices) : Type 0 where
  pub moves : List Move
  pub leads : all_moved dv moves ≡ after

-- the same where a serving, or an arrival, has come about
abbrev pub LeadsIfAny : Devices → Option DevParts → Type 0
LeadsIfAny dv None = Unit {0}
LeadsIfAny dv (Some q) = Leads dv q.table

-- whether a move lets the request with an ID go
abbrev pub lets_go : ℕ → Move → Bool
lets_go id (Drops other) = other == id
lets_go id _ = false

-- whether a move asks a driver to abort
abbrev pub asks : Move → Bool
asks (Asks d) = true
asks _ = false
