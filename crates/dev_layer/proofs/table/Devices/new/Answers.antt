use Rattle.std.proofs.Common.{◌≡◌, None, ap, length, replicate, rules}
use Rattle.device_model.specs.declared.rows.Wish.TheVariants.{Nothing}
use Rattle.dev_layer.proofs.Opened.{none_fit, none_wished}
use Rattle.dev_layer.proofs.table.Devices.new.Goals as goal

pub invariant_of-result : goal.invariant_of-result
invariant_of-result c =
    let buffers : c.in_ok-no_buffers.field-0.items ≡ replicate 9 0 = search rules in
    let opened : c.in_ok-free_slots.field-0.items ≡ replicate 33 None = search rules in
    let wishes : c.in_ok-no_wishes.field-0.items ≡ replicate 256 Nothing = search rules in
    record {
      all_buffers = ap length buffers;
      all_opened = ap length opened;
      all_wishes = ap length wishes;
      fit = none_fit c.in_ok-free_slots.field-0.items opened;
      wished = none_wished c.in_ok-no_wishes.field-0.items wishes;
    }
