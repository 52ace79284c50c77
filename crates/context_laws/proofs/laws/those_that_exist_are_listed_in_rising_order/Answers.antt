use Rattle.context_laws.proofs.Existing.{times_existing, existing_rises}
use Rattle.context_laws.proofs.laws.those_that_exist_are_listed_in_rising_order.Goals as goal

pub returns-clause-stands : goal.returns-clause-stands
returns-clause-stands c = times_existing

pub returns-clause-rising : goal.returns-clause-rising
returns-clause-rising c = existing_rises
