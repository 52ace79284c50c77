use Rattle.dev_drivers.specs.Lines.{AllFlushed}
use Rattle.dev_drivers.proofs.rows.await_of.Given as goal

abbrev pub invariant-turns : goal.invariant-turns
invariant-turns g l = AllFlushed l.initial.lines.items l.lines.items
