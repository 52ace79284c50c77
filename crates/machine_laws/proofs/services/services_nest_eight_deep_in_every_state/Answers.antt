use Rattle.machine_laws.proofs.Nesting.{reached_shallow}
use Rattle.machine_laws.proofs.services.services_nest_eight_deep_in_every_state.Goals as goal

pub returns : goal.returns
returns c = reached_shallow
