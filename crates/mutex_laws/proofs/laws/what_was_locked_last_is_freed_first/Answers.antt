use Rattle.mutex_laws.proofs.Freed.{last_freed, none_freed}
use Rattle.mutex_laws.proofs.laws.what_was_locked_last_is_freed_first.Goals as goal

pub returns-clause-freed : goal.returns-clause-freed
returns-clause-freed c = last_freed

pub returns-clause-none : goal.returns-clause-none
returns-clause-none c = none_freed
