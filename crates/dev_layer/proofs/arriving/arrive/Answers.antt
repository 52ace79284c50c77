use Rattle.std.proofs.Common.{◌≡◌, ℕ, List, Some, None, ap, sym, ◌∙◌}
use Rattle.std.specs.Option.{is_some, option_map}
use Rattle.std.specs.Prelude.{unwrap_or}
use Rattle.device_model.specs.Devices.Endings.{DevParts, arrive, closed}
use Rattle.device_model.specs.Devices.Memory.{write_bytes}
use Rattle.device_model.specs.Devices.Tables.{Devices, link_at}
use Rattle.dev_layer.specs.Arriving.{ended_parts}
use Rattle.dev_layer.specs.Parts.{parts_of}
use Rattle.dev_layer.proofs.Arrivals.{allows_fit, arrived_at, fit_arrives}
use Rattle.dev_layer.proofs.arriving.arrive.Goals as goal

pub returns-in_default-clause-taken : goal.returns-in_default-clause-taken
returns-in_default-clause-taken c = λ mails.
    let p : DevParts = parts_of c.args.base.now c.args.table.now mails c.args.memory.now in
    let none : arrive p c.args.ending.now ≡ None = fit_arrives p c.args.ending.now (sym c.fits.ensures ∙ c.if-not-fits.false) ∙ ap (option_map (arrived_at p c.args.ending.now)) (sym c.request_at.ensures.known ∙ c.in_default.is) in
    ap is_some (sym none)

pub returns-in_default-clause-left : goal.returns-in_default-clause-left
returns-in_default-clause-left c = λ mails.
    let p : DevParts = parts_of c.args.base.now c.args.table.now mails c.args.memory.now in
    let none : arrive p c.args.ending.now ≡ None = fit_arrives p c.args.ending.now (sym c.fits.ensures ∙ c.if-not-fits.false) ∙ ap (option_map (arrived_at p c.args.ending.now)) (sym c.request_at.ensures.known ∙ c.in_default.is) in
    ap (λ o. unwrap_or o p) (sym none)

pub returns-clause-taken : goal.returns-clause-taken
returns-clause-taken c = λ mails.
    let p : DevParts = parts_of c.args.base.now c.args.table.now mails c.args.memory.now in
    let some : arrive p c.args.ending.now ≡ Some (arrived_at p c.args.ending.now c.in-Some.request) = fit_arrives p c.args.ending.now (sym c.fits.ensures ∙ c.if-not-fits.false) ∙ ap (option_map (arrived_at p c.args.ending.now)) (sym c.request_at.ensures.known ∙ c.in-Some.is) in
    ap is_some (sym some)

pub returns-clause-left : goal.returns-clause-left
returns-clause-left c = λ mails.
    let p : DevParts = parts_of c.args.base.now c.args.table.now mails c.args.memory.now in
    let some : arrive p c.args.ending.now ≡ Some (arrived_at p c.args.ending.now c.in-Some.request) = fit_arrives p c.args.ending.now (sym c.fits.ensures ∙ c.if-not-fits.false) ∙ ap (option_map (arrived_at p c.args.ending.now)) (sym c.request_at.ensures.known ∙ c.in-Some.is) in
    let memory : c.land.new.memory ≡ write_bytes c.args.ending.now.bytes.items c.in-Some.request.address c.args.memory.now = c.land.ensures ∙ ap (λ (xs : List ℕ). write_bytes xs c.in-Some.request.address c.args.memory.now) c.as_slice.ensures in
    let table : c.close_after.new.table ≡ closed c.args.base.now (ended_parts c.args.table.now c.args.ending.now.device c.in-Some.request.id c.args.ending.now.how) c.in-Some.request.id c.in-Some.request.descriptor =
    c.close_after.ensures ∙ ap (λ (dv : Devices). closed c.args.base.now dv c.in-Some.request.id c.in-Some.request.descriptor) c.end.ensures in
    ap (λ (dv : Devices). parts_of c.args.base.now dv mails c.land.new.memory) table
    ∙ ap (λ (m : List ℕ). parts_of c.args.base.now (closed c.args.base.now (ended_parts c.args.table.now c.args.ending.now.device c.in-Some.request.id c.args.ending.now.how) c.in-Some.request.id c.in-Some.request.descriptor) mails m) memory
    ∙ ap (λ o. unwrap_or o p) (sym some)

pub end-requires : goal.end-requires
end-requires c = allows_fit c.args.ending.now (link_at c.args.table.now c.args.ending.now.device) (sym c.fits.ensures ∙ c.if-not-fits.false)
