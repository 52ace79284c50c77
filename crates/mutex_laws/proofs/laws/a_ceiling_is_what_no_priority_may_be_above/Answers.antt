use Rattle.mutex_laws.proofs.Ceilings.{allowed_under, awaits_waits, refused_above, waits_awaits}
use Rattle.mutex_laws.proofs.laws.a_ceiling_is_what_no_priority_may_be_above.Goals as goal

pub returns-clause-allowed : goal.returns-clause-allowed
returns-clause-allowed c = allowed_under

pub returns-clause-refused : goal.returns-clause-refused
returns-clause-refused c = refused_above

pub returns-clause-awaits : goal.returns-clause-awaits
returns-clause-awaits c = waits_awaits

pub returns-clause-waits : goal.returns-clause-waits
returns-clause-waits c = awaits_waits
