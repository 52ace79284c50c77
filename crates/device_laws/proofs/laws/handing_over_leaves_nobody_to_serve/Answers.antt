use Rattle.device_laws.proofs.Handing.{hand_first_quiet, hand_over_quiet}
use Rattle.device_laws.proofs.laws.handing_over_leaves_nobody_to_serve.Goals as goal

pub returns-clause-free : goal.returns-clause-free
returns-clause-free c = hand_over_quiet

pub returns-clause-sync : goal.returns-clause-sync
returns-clause-sync c = hand_first_quiet
