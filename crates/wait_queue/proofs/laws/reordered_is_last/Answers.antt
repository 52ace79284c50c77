use Rattle.wait_queue.proofs.Reordered.{reordered_is_last, reordered_stays}
use Rattle.wait_queue.proofs.laws.reordered_is_last.Goals as goal

pub returns-clause-behind_equals : goal.returns-clause-behind_equals
returns-clause-behind_equals c = reordered_is_last

pub returns-clause-stays : goal.returns-clause-stays
returns-clause-stays c = reordered_stays
