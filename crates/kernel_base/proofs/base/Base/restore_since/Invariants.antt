use Rattle.std.proofs.Common.{◌≡◌, take}
use Rattle.kernel_base.specs.Waiting.{moved_back}
use Rattle.kernel_base.proofs.base.Base.restore_since.Given as goal

abbrev pub invariant-places : goal.invariant-places
invariant-places l = l.self ≡ record l.fn.self { since = moved_back (take l.place l.listed.ids) l.fn.self.since }
