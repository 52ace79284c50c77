use Rattle.std.proofs.Common.{◌<◌, sym, ◌∙◌, arith, refl, length}
use Rattle.device_model.specs.Devices.Handing.{handed_all}
use Rattle.device_model.specs.Devices.Tables.{device_ids}
use Rattle.dev_layer.specs.Handing.{with_parts}
use Rattle.dev_layer.proofs.Handed.{one_handed}
use Rattle.dev_layer.proofs.handing.hand_each.Goals as goal

pub devices-preserved : goal.devices-preserved
devices-preserved c =
    let inside : c.devices.device < length c.args.links.now.links = omega arith in
    record {
      all = λ dv one other.
          one_handed c.args.links.now.links c.devices.device (with_parts dv c.devices.links.links c.devices.requests) (with_parts dv c.hand_one.new.links.links c.hand_one.new.requests) (handed_all (device_ids dv) dv) inside
          (c.devices.invariant.same c.devices.device (omega arith)) (sym (c.hand_one.ensures.handed (with_parts dv c.devices.links.links c.devices.requests) refl refl)) (c.devices.invariant.all dv one other);
      places = let before = c.devices.invariant.places in let one = c.hand_one.ensures.places in omega (arith, before, one);
      same = λ n above. c.hand_one.ensures.others n (λ is. omega (arith, above, is)) ∙ c.devices.invariant.same n (omega (arith, above));
    }
