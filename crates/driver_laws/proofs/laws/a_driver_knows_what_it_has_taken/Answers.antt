use Rattle.driver_laws.proofs.Folds.{counts, ending_counts, stopped_ends}
use Rattle.driver_laws.proofs.laws.a_driver_knows_what_it_has_taken.Goals as goal

pub returns-clause-counted : goal.returns-clause-counted
returns-clause-counted c = counts

pub returns-clause-told : goal.returns-clause-told
returns-clause-told c = ending_counts

pub returns-clause-stopped : goal.returns-clause-stopped
returns-clause-stopped c = stopped_ends
