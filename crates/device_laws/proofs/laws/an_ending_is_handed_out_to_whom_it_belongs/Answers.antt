use Rattle.device_laws.proofs.Claims.{endings_serve, wait_hands_out}
use Rattle.device_laws.proofs.laws.an_ending_is_handed_out_to_whom_it_belongs.Goals as goal

pub returns-clause-call : goal.returns-clause-call
returns-clause-call c = wait_hands_out

pub returns-clause-serving : goal.returns-clause-serving
returns-clause-serving c = endings_serve
