use Rattle.context_laws.proofs.Phases.{next_in_phase, next_is_later, next_is_least}
use Rattle.context_laws.proofs.laws.the_next_time_of_a_phase_is_the_least_to_come.Goals as goal

pub returns-clause-phase : goal.returns-clause-phase
returns-clause-phase c = next_in_phase

pub returns-clause-later : goal.returns-clause-later
returns-clause-later c = next_is_later

pub returns-clause-least : goal.returns-clause-least
returns-clause-least c = next_is_least
