use Rattle.machine_lemmas.proofs.TickPhases.{reached_later, reached_phase}
use Rattle.machine_laws.proofs.phases.cyclic_handlers_keep_their_phase_in_every_state.Goals as goal

pub returns-clause-later : goal.returns-clause-later
returns-clause-later c = reached_later

pub returns-clause-phase : goal.returns-clause-phase
returns-clause-phase c = reached_phase
