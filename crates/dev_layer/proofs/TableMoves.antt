-- The moves on the devices, of those on their parts.
use Rattle.std.proofs.Common.{◌≡◌, ℕ, Bool, true, false, Option, Some, None, refl}
use Rattle.device_model.specs.Devices.Tables.{Devices, Given, Link, Row, accepted, accepted_in, asked, asked_given, asked_link, dropped, dropped_in, is_at_driver, link_at, row_at}
use Rattle.dev_layer.specs.Messages.{asked_entry, asked_slot, links_asked}
use Rattle.dev_layer.specs.Requests.{accepted_slot, dropped_slot, request_accepted, request_dropped}
use Rattle.dev_layer.specs.Tables.{requests_of, with_requests}

accepted_by : (dv : Devices) (id : ℕ) (row : Row) (slot : Option Row) → with_requests dv (accepted_slot slot (requests_of dv) id row) ≡ accepted_in slot dv id row
accepted_by dv id row None = refl
accepted_by dv id row (Some other) = refl

pub accepted_is : (dv : Devices) (id : ℕ) (row : Row) → with_requests dv (request_accepted (requests_of dv) id row) ≡ accepted dv id row
unfolding accepted
accepted_is dv id row = accepted_by dv id row (row_at dv id)

dropped_if : (dv : Devices) (id : ℕ) (row : Row) (b : Bool) → is_at_driver row.life ≡ b → with_requests dv (dropped_slot (Some row) (requests_of dv) id) ≡ dropped_in (Some row) dv id
dropped_if dv id row true is = rw is refl
dropped_if dv id row false is = rw is refl

dropped_by : (dv : Devices) (id : ℕ) (slot : Option Row) → with_requests dv (dropped_slot slot (requests_of dv) id) ≡ dropped_in slot dv id
dropped_by dv id None = refl
dropped_by dv id (Some row) = dropped_if dv id row (is_at_driver row.life) refl

pub dropped_is : (dv : Devices) (id : ℕ) → with_requests dv (request_dropped (requests_of dv) id) ≡ dropped dv id
unfolding dropped
dropped_is dv id = dropped_by dv id (row_at dv id)

asked_if : (dv : Devices) (d : ℕ) (link : Link) (given : Given) (b : Bool) → given.asked ≡ b → record dv { links = asked_slot dv.links d link (Some given) } ≡ asked_given dv d link (Some given)
asked_if dv d link given true is = rw is refl
asked_if dv d link given false is = rw is refl

asked_given_by : (dv : Devices) (d : ℕ) (link : Link) (given : Option Given) → record dv { links = asked_slot dv.links d link given } ≡ asked_given dv d link given
asked_given_by dv d link None = refl
asked_given_by dv d link (Some given) = asked_if dv d link given given.asked refl

asked_by : (dv : Devices) (d : ℕ) (slot : Option Link) → record dv { links = asked_entry dv.links d slot } ≡ asked_link dv d slot
asked_by dv d None = refl
asked_by dv d (Some link) = asked_given_by dv d link link.given

pub asked_is : (dv : Devices) (d : ℕ) → record dv { links = links_asked dv.links d } ≡ asked dv d
unfolding asked
asked_is dv d = asked_by dv d (link_at dv d)
