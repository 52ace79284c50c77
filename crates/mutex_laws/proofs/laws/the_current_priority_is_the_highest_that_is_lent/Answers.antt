use Rattle.mutex_laws.proofs.Heirs.{heir_is_next, next_is_heir}
use Rattle.mutex_laws.proofs.Least.{current_dormant, current_least, own_is}
use Rattle.mutex_laws.proofs.laws.the_current_priority_is_the_highest_that_is_lent.Goals as goal

pub returns-clause-least : goal.returns-clause-least
returns-clause-least c = current_least

pub returns-clause-own : goal.returns-clause-own
returns-clause-own c = own_is

pub returns-clause-dormant : goal.returns-clause-dormant
returns-clause-dormant c = current_dormant

pub returns-clause-heir : goal.returns-clause-heir
returns-clause-heir c = next_is_heir

pub returns-clause-next : goal.returns-clause-next
returns-clause-next c = heir_is_next
