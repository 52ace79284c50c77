use Rattle.dev_drivers.proofs.Steps.{drove_on}
use Rattle.dev_drivers.proofs.log.DriverLog.turn.Goals as goal

pub returns-then-give : goal.returns-then-give
returns-then-give g c = drove_on _ _ _ c.take.ensures (drove_on _ _ _ c.work.ensures (drove_on _ _ _ c.give.ensures c.pass_end.ensures))
