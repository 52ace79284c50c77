use Rattle.priority_map.proofs.Flagged.{flags_of_nothing}
use Rattle.priority_map.proofs.map.PriorityMap.new.Goals as goal

pub returns : goal.returns
returns c = flags_of_nothing
