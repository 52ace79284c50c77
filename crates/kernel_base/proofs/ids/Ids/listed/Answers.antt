use Rattle.std.proofs.Common.{ap, arith, length}
use Rattle.kernel_lemmas.proofs.Once.{few_below}
use Rattle.kernel_base.proofs.ids.Ids.listed.Goals as goal

pub copied-requires : goal.copied-requires
copied-requires c = omega (arith, few_below 256 _ c.self.invariant.below c.self.invariant.once, ap length c.as_slice.ensures.value)
