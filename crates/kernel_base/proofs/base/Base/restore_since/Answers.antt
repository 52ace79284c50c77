use Rattle.std.proofs.Common.{refl, rules}
use Rattle.kernel_base.proofs.Restored.{since_more}
use Rattle.kernel_base.proofs.base.Base.restore_since.Goals as goal

pub places-preserved : goal.places-preserved
places-preserved c = since_more c.args.self.now c.places.self c.renew_wait.new.self c.args.listed.now.ids c.places.place _ (search rules) c.places.invariant c.renew_wait.ensures refl
