use Rattle.dev_drivers.specs.Logs.{Drove}
use Rattle.dev_drivers.proofs.worker.drive.Given as goal

abbrev pub invariant-turns : goal.invariant-turns
invariant-turns g l = Drove l.fn.job.start l.log
