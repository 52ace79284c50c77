use Rattle.std.proofs.Common.{arith, ap, ◌∙◌, refl, sym, ◌≡◌, suc}
use Rattle.std.specs.Prelude.{◌-◌}
use Rattle.std.proofs.Common.{subst, ℕ, get_or}
use Rattle.fleet_model.specs.Channels.{Channel}
use Rattle.fleet_model.specs.Fleets.{device_of}
use Rattle.dev_drivers.specs.Lines.{channels_of}
use Rattle.dev_drivers.proofs.Fleets.{few_at, has_place_of}
use Rattle.dev_drivers.proofs.Lines.{handed_set, many}
use Rattle.dev_drivers.proofs.rows.hand_at.Goals as goal

pub overflow_sub-from : goal.overflow_sub-from
overflow_sub-from g c =
    let at = has_place_of (channels_of c.args.lines.now.items) (device_of c.args.m) c.requires.place.channel c.requires.place.is in
    omega (arith, at.0, c.from.ensures, c.receiver-device.ensures)

pub index_mut-requires : goal.index_mut-requires
index_mut-requires g c =
    let at = has_place_of (channels_of c.args.lines.now.items) (device_of c.args.m) c.requires.place.channel c.requires.place.is in
    omega (arith, at.0, at.1, many c.args.lines.now.items, c.from.ensures, c.receiver-device.ensures)

pub hand-requires-clause-few : goal.hand-requires-clause-few
hand-requires-clause-few g c =
    let at = has_place_of (channels_of c.args.lines.now.items) (device_of c.args.m) c.requires.place.channel c.requires.place.is in
    let same : device_of c.args.m ≡ c.from.result = sym (c.from.ensures ∙ c.receiver-device.ensures) in
    let few = few_at c.args.lines.now.items (c.from.result - 1) c.index_mut.result.now c.requires.place.channel
    (omega (arith, at.0, at.1, many c.args.lines.now.items, same)) c.index_mut.ensures.value
    (λ (o : Channel). ap (λ (n : ℕ). get_or (channels_of c.args.lines.now.items) (n - 1) o) (sym same) ∙ at.2 o) c.requires.place.few in
    omega (arith, few)

pub returns : goal.returns
returns g c =
    let at = has_place_of (channels_of c.args.lines.now.items) (device_of c.args.m) c.requires.place.channel c.requires.place.is in
    let same : device_of c.args.m ≡ c.from.result = sym (c.from.ensures ∙ c.receiver-device.ensures) in
    let handed = handed_set c.args.lines.now.items (c.from.result - 1) (device_of c.args.m) c.index_mut.result.now (record { link = c.hand.new.self; driver = c.index_mut.result.now.driver }) c.args.m c.hand.ensures.handed
    (omega (arith, at.0, at.1, many c.args.lines.now.items, same)) (omega (arith, at.0, same)) c.index_mut.ensures.value refl in
    record { kept = handed.0; count = c.hand.ensures.handed.count; channels = handed.1 }
