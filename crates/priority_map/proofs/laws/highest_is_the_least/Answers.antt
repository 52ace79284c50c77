use Rattle.priority_map.proofs.Flagged.{first_is_least, none_is_set}
use Rattle.priority_map.proofs.laws.highest_is_the_least.Goals as goal

pub returns-clause-least : goal.returns-clause-least
returns-clause-least c = first_is_least

pub returns-clause-none : goal.returns-clause-none
returns-clause-none c = none_is_set
