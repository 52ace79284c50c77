-- What an arrival comes to, of the table's parts.
use Rattle.std.proofs.Common.{◌≡◌, ℕ, Bool, true, false, List, [], ◌∷◌, Option, Some, None, refl, ap, sym, ◌∙◌, ◌++◌}
use Rattle.std.specs.Bool.{◌==◌}
use Rattle.std.specs.Option.{option_map}
use Rattle.std.specs.Prelude.{bytes_eq, if◌then◌else◌, slice_set, ◌&&◌}
use Rattle.std.proofs.lemmas.Slice.Eq.{bytes_eq-Decides}
use Rattle.tk_types.specs.declared.line.How.{How}
use Rattle.device_model.specs.declared.messages.Ending.{Ending}
use Rattle.device_model.specs.Devices.Memory.{write_bytes}
use Rattle.device_model.specs.Devices.Endings.{DevParts, arrive, arrive_fit, arrive_given, arrive_link, arrive_row, closed, ended_at, is_allowed, is_error, is_fit, says, served_of}
use Rattle.device_model.specs.Devices.Tables.{Devices, Given, Link, Row, at_driver, given_in, is_at_driver, link_at, request_in, row_at}
use Rattle.device_model.specs.Units.Function.{Served}
use Rattle.dev_layer.specs.Arriving.{ended_parts, expected_id, expected_row, given_ends, link_ends, request_at}
use Rattle.dev_layer.specs.Handing.{with_parts}
use Rattle.dev_layer.specs.Links.{ended_given, fits_given}
use Rattle.dev_layer.specs.Messages.{allows_link, ended_entry, fits_link}
use Rattle.dev_layer.specs.Requests.{Requests, ended_slot}
use Rattle.device_model.specs.declared.rows.Life.TheVariants.{Ended}
use Rattle.dev_layer.specs.Tables.{requests_of}
use Rattle.dev_layer.specs.declared.arriving.Expected.{Expected}

abbrev Both : Bool → Bool → Type 0
Both a b = (a ≡ true) × (b ≡ true)

both : (a b : Bool) → (a && b) ≡ true → Both a b
both true b is = (refl, is)
both false b is = absurd (cc is)

-- an ending that is fit has the bytes that its unit read
bytes_of_fit : (ending : Ending) (link : Link) (given : Given) → is_fit ending link given ≡ true → (served_of link.kind link.store given.request ending.how).content ≡ ending.bytes.items
bytes_of_fit ending link given fit =
    let served : Served = served_of link.kind link.store given.request ending.how in
    let told = both (is_allowed link.kind link.store given ending.how) (says ending given.request served) fit in
    let first = both (ending.request == given.request.id) _ told.1 in
    let second = both (ending.number == given.request.number) _ first.1 in
    let third = both (ending.size == served.size) _ second.1 in
    let fourth = both (is_error ending.error served.error) (bytes_eq ending.bytes.items served.content) third.1 in
    sym ((bytes_eq-Decides ending.bytes.items served.content).0 fourth.1)

allowed_of_fit : (ending : Ending) (link : Link) (given : Given) → is_fit ending link given ≡ true → is_allowed link.kind link.store given ending.how ≡ true
allowed_of_fit ending link given fit = (both (is_allowed link.kind link.store given ending.how) _ fit).0

allows_by : (ending : Ending) (link : Link) (given : Option Given) → link.given ≡ given → fits_given ending link given ≡ true → allows_link ending.how (Some link) ≡ true
allows_by ending link None has fit = absurd (cc fit)
allows_by ending link (Some given) has fit = ap (λ o. allows_link ending.how (Some (record link { given = o }))) has ∙ allowed_of_fit ending link given fit

-- an ending that is fit may be
pub allows_fit : (ending : Ending) (slot : Option Link) → fits_link ending slot ≡ true → allows_link ending.how slot ≡ true
allows_fit ending None fit = absurd (cc fit)
allows_fit ending (Some link) fit = allows_by ending link link.given refl fit

-- what an ending leaves of the state, for the request that is there
abbrev pub arrived_at : DevParts → Ending → Expected → DevParts
arrived_at p ending x = record p { table = closed p.base (ended_parts p.table ending.device x.id ending.how) x.id x.descriptor; memory = write_bytes ending.bytes.items x.address p.memory }

abbrev ended_slot_of : Devices → ℕ → Served → Row → Requests
ended_slot_of dv id served row = record {
  rows = slice_set dv.rows id (Some (record row { life = Ended served.size served.error }));
  queued = dv.queued;
  ended = dv.ended ++ id ∷ [];
  serial = dv.serial;
}

abbrev slot_if : Devices → ℕ → Served → Row → Bool → Requests
slot_if dv id served row b = if b then ended_slot_of dv id served row else requests_of dv

ended_table : (dv : Devices) (d : ℕ) (link : Link) (given : Given) (row : Row) (how : How) → link_at dv d ≡ Some link → link.given ≡ Some given → row_at dv given.request.id ≡ Some row → is_at_driver row.life ≡ true →
    ended_at dv d link given.request.id row (served_of link.kind link.store given.request how) ≡ ended_parts dv d given.request.id how
ended_table dv d link given row how there has in_row at =
    let served : Served = served_of link.kind link.store given.request how in
    let id : ℕ = given.request.id in
    ap (λ (l : Link). with_parts dv (slice_set dv.links d (Some l)) (ended_slot_of dv id served row)) (ap (λ o. ended_given link how o) (sym has))
    ∙ ap (λ (b : Bool). with_parts dv (slice_set dv.links d (ended_entry how (Some link))) (slot_if dv id served row b)) (sym at)
    ∙ ap (λ (o : Option Row). with_parts dv (slice_set dv.links d (ended_entry how (Some link))) (ended_slot o (requests_of dv) id served.size served.error)) (sym in_row)
    ∙ ap (λ (o : Option Given). given_ends dv d id how link o) (sym has)
    ∙ ap (λ (o : Option Link). link_ends dv d id how o) (sym there)

row_arrives : (p : DevParts) (ending : Ending) (link : Link) (given : Given) (slot : Option Row) → link_at p.table ending.device ≡ Some link → link.given ≡ Some given → row_at p.table given.request.id ≡ slot → is_fit ending link given ≡ true →
    arrive_row p ending.device link given.request.id (served_of link.kind link.store given.request ending.how) slot ≡ option_map (arrived_at p ending) (expected_row given.request.id slot)
row_arrives p ending link given None there has in_row fit = refl
row_arrives p ending link given (Some row) there has in_row fit = at_if (is_at_driver row.life) refl
  where
    at_if : (b : Bool) → is_at_driver row.life ≡ b →
        arrive_row p ending.device link given.request.id (served_of link.kind link.store given.request ending.how) (Some row) ≡ option_map (arrived_at p ending) (expected_row given.request.id (Some row))
    at_if false is = rw is refl
    at_if true is =
        let table : closed p.base (ended_at p.table ending.device link given.request.id row (served_of link.kind link.store given.request ending.how)) given.request.id row.descriptor ≡ closed p.base (ended_parts p.table ending.device given.request.id ending.how) given.request.id row.descriptor =
        ap (λ (dv : Devices). closed p.base dv given.request.id row.descriptor) (ended_table p.table ending.device link given row ending.how there has in_row is) in
        let memory : write_bytes (served_of link.kind link.store given.request ending.how).content row.address p.memory ≡ write_bytes ending.bytes.items row.address p.memory =
        ap (λ xs. write_bytes xs row.address p.memory) (bytes_of_fit ending link given fit) in
        rw is (ap (λ (dv : Devices). Some (record p { table = dv; memory = write_bytes (served_of link.kind link.store given.request ending.how).content row.address p.memory })) table
        ∙ ap (λ (m : List ℕ). Some (record p { table = closed p.base (ended_parts p.table ending.device given.request.id ending.how) given.request.id row.descriptor; memory = m })) memory)

at_driver_of : (dv : Devices) (d : ℕ) (link : Link) (given : Given) → link_at dv d ≡ Some link → link.given ≡ Some given → at_driver dv d ≡ Some given.request.id
unfolding at_driver
at_driver_of dv d link given there has = ap (λ o. request_in (given_in o)) there ∙ ap request_in has

given_arrives : (p : DevParts) (ending : Ending) (link : Link) (given : Option Given) → link_at p.table ending.device ≡ Some link → link.given ≡ given → fits_given ending link given ≡ true →
    arrive_given p ending link given ≡ option_map (arrived_at p ending) (request_at p.table ending.device)
given_arrives p ending link None there has fit = absurd (cc fit)
given_arrives p ending link (Some given) there has fit =
    ap (λ (b : Bool). arrive_fit b p ending link given) fit
    ∙ row_arrives p ending link given (row_at p.table given.request.id) there has refl fit
    ∙ ap (λ o. option_map (arrived_at p ending) (expected_id p.table o)) (sym (at_driver_of p.table ending.device link given there has))

link_arrives : (p : DevParts) (ending : Ending) (slot : Option Link) → link_at p.table ending.device ≡ slot → fits_link ending slot ≡ true → arrive_link p ending slot ≡ option_map (arrived_at p ending) (request_at p.table ending.device)
link_arrives p ending None there fit = absurd (cc fit)
link_arrives p ending (Some link) there fit = given_arrives p ending link link.given there refl fit

-- an ending that is fit arrives, where its request is with the driver
pub fit_arrives : (p : DevParts) (ending : Ending) → fits_link ending (link_at p.table ending.device) ≡ true → arrive p ending ≡ option_map (arrived_at p ending) (request_at p.table ending.device)
unfolding arrive
fit_arrives p ending fit = link_arrives p ending (link_at p.table ending.device) refl fit
