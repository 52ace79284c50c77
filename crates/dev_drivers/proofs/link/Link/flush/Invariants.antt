use Rattle.std.proofs.Common.{ℕ}
use Rattle.std.specs.Prelude.{vec_len}
use Rattle.dev_drivers.specs.Links.{Flushed}
use Rattle.dev_drivers.proofs.link.Link.flush.Given as goal

abbrev pub invariant-goes : goal.invariant-goes
invariant-goes l = Flushed l.initial.self l.self

abbrev pub decreases-goes : goal.decreases-goes
decreases-goes l = vec_len l.self.waiting
