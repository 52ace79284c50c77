use Rattle.wait_queue.proofs.Lasts.{joins_at_end, joins_behind_equals}
use Rattle.wait_queue.proofs.laws.join_is_last.Goals as goal

pub returns-clause-at_end : goal.returns-clause-at_end
returns-clause-at_end c = joins_at_end

pub returns-clause-behind_equals : goal.returns-clause-behind_equals
returns-clause-behind_equals c = joins_behind_equals
