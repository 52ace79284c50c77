-- Which objects are served, and by which number.
use Rattle.std.specs.Prelude.{ℕ, ◌-◌, ◌==◌, ◌&&◌, Bool, true, false, nat_le, nat_lt, if◌then◌else◌, Option, None}
use Rattle.std.specs.Option.{is_some}
use Rattle.device_model.specs.Devices.Endings.{DevParts}
use Rattle.device_model.specs.Devices.Servings.{serve_acceptance, serve_close, serve_ending, serve_suspension}
use Rattle.device_model.specs.Devices.Tables.{link_at, opened_at}

-- one waiter of the object with that number is served, where one can be: acceptances of devices have the numbers from 576 on,
-- endings of descriptors those from 584 on, their closes those from 616 on, and the suspension has 648
abbrev pub serve_object : DevParts → ℕ → Option DevParts
serve_object p object =
    if nat_le 576 object && nat_lt object 584 then serve_acceptance p (object - 575)
    else (if nat_le 584 object && nat_lt object 616 then serve_ending p (object - 583)
    else (if nat_le 616 object && nat_lt object 648 then serve_close p (object - 615)
    else (if object == 648 then serve_suspension p else None)))

abbrev pub served_where : Bool → Option DevParts → Option DevParts
served_where true served = served
served_where false served = None

-- the same where there is that device, or where that descriptor is taken
abbrev pub at_device : DevParts → ℕ → Option DevParts
at_device p d = served_where (is_some (link_at p.table d)) (serve_acceptance p d)

abbrev pub at_ending : DevParts → ℕ → Option DevParts
at_ending p dd = served_where (is_some (opened_at p.table dd)) (serve_ending p dd)

abbrev pub at_close : DevParts → ℕ → Option DevParts
at_close p dd = served_where (is_some (opened_at p.table dd)) (serve_close p dd)
