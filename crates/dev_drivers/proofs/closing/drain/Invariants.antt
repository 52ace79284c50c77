use Rattle.dev_drivers.specs.Links.{Flushed}
use Rattle.dev_drivers.proofs.closing.drain.Given as goal

abbrev pub invariant-turns : goal.invariant-turns
invariant-turns g l = Flushed l.initial.link l.link
