use Rattle.context_laws.proofs.InPhase.{start_in_phase, call_in_phase, waits_in_phase, tick_in_phase}
use Rattle.context_laws.proofs.laws.cyclic_handlers_keep_their_phase.Goals as goal

pub returns-clause-start : goal.returns-clause-start
returns-clause-start c = start_in_phase

pub returns-clause-calls : goal.returns-clause-calls
returns-clause-calls c = call_in_phase

pub returns-clause-waits : goal.returns-clause-waits
returns-clause-waits c = waits_in_phase

pub returns-clause-tick : goal.returns-clause-tick
returns-clause-tick c = tick_in_phase
