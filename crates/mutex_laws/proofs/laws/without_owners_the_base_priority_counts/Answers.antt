use Rattle.mutex_laws.proofs.Unowned.{current_unowned}
use Rattle.mutex_laws.proofs.laws.without_owners_the_base_priority_counts.Goals as goal

pub returns : goal.returns
returns c = record { base = current_unowned }
