use Rattle.kernel_laws.proofs.Precedence.{chosen_precedes, chosen_none}
use Rattle.kernel_laws.proofs.laws.dispatch_chooses_the_first.Goals as goal

pub returns-clause-first : goal.returns-clause-first
returns-clause-first c = chosen_precedes

pub returns-clause-none : goal.returns-clause-none
returns-clause-none c = chosen_none
