use Rattle.tk_gen.proofs.Scripts.{runnable, valid_devices}
use Rattle.tk_gen.proofs.laws.scripts_can_be_run.Goals as goal

pub returns-clause-runnable : goal.returns-clause-runnable
returns-clause-runnable c = runnable

pub returns-clause-devices : goal.returns-clause-devices
returns-clause-devices c = valid_devices
