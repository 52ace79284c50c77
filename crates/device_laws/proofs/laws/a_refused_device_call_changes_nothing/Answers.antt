use Rattle.device_laws.proofs.Refusals.{call_kept}
use Rattle.device_laws.proofs.laws.a_refused_device_call_changes_nothing.Goals as goal

pub returns : goal.returns
returns c p who call answer own is negative = (call_kept p who call own).kept answer is negative
