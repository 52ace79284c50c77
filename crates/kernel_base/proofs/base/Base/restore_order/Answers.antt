use Rattle.std.proofs.Common.{refl, rules}
use Rattle.kernel_base.proofs.Restored.{order_more}
use Rattle.kernel_base.proofs.base.Base.restore_order.Goals as goal

pub places-preserved : goal.places-preserved
places-preserved c = order_more c.args.self.now c.places.self c.move_to_back.new.self c.args.listed.now.ids c.places.place _ (search rules) c.places.invariant c.move_to_back.ensures refl
