-- What an ending makes of the table.
use Rattle.std.specs.Prelude.{ℕ, Option, Some, None, if◌then◌else◌, slice_set}
use Rattle.tk_types.specs.declared.line.How.{How}
use Rattle.device_model.specs.Devices.Endings.{served_of}
use Rattle.device_model.specs.Devices.Tables.{Devices, Given, Link, Row, at_driver, is_at_driver, link_at, row_at}
use Rattle.dev_layer.specs.declared.arriving.Expected.{Expected}
use Rattle.dev_layer.specs.Handing.{with_parts}
use Rattle.dev_layer.specs.Messages.{ended_entry}
use Rattle.dev_layer.specs.Requests.{request_ended}
use Rattle.dev_layer.specs.Tables.{requests_of}

abbrev pub given_ends : Devices → ℕ → ℕ → How → Link → Option Given → Devices
given_ends dv d id how link None = dv
given_ends dv d id how link (Some given) =
    with_parts dv (slice_set dv.links d (ended_entry how (Some link)))
    (request_ended (requests_of dv) id (served_of link.kind link.store given.request how).size (served_of link.kind link.store given.request how).error)

abbrev pub link_ends : Devices → ℕ → ℕ → How → Option Link → Devices
link_ends dv d id how None = dv
link_ends dv d id how (Some link) = given_ends dv d id how link link.given

-- the request of that ID that is with the driver of a device has ended
abbrev pub ended_parts : Devices → ℕ → ℕ → How → Devices
ended_parts dv d id how = link_ends dv d id how (link_at dv d)

abbrev pub expected_row : ℕ → Option Row → Option Expected
expected_row id None = None
expected_row id (Some row) = if is_at_driver row.life then Some (record { id = id; address = row.address; descriptor = row.descriptor }) else None

abbrev pub expected_id : Devices → Option ℕ → Option Expected
expected_id dv None = None
expected_id dv (Some id) = expected_row id (row_at dv id)

-- the request that is with the driver of a device, where the table of requests says so, too
abbrev pub request_at : Devices → ℕ → Option Expected
request_at dv d = expected_id dv (at_driver dv d)
