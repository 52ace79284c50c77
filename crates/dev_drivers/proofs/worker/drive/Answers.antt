use Rattle.std.proofs.Common.{refl}
use Rattle.dev_drivers.proofs.Steps.{drove_none, log_of}
use Rattle.dev_drivers.proofs.worker.drive.Goals as goal

pub turns-init : goal.turns-init
turns-init g c = drove_none c.args.job.start

pub returns-then-is_over : goal.returns-then-is_over
returns-then-is_over g c = log_of c.args.job c.turns.log c.args.job.fresh c.turns.invariant (c.is_over.ensures.over c.if-is_over.true)
