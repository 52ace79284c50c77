use Rattle.mutex_laws.proofs.Resettled.{resettled_but, resettled_current, resettled_order, resettled_place, resettled_rows, resettled_same}
use Rattle.mutex_laws.proofs.laws.taking_over_gives_each_task_its_priority.Goals as goal

pub returns-clause-current : goal.returns-clause-current
returns-clause-current c = resettled_current

pub returns-clause-rows : goal.returns-clause-rows
returns-clause-rows c = resettled_rows

pub returns-clause-order : goal.returns-clause-order
returns-clause-order c = resettled_order

pub returns-clause-rest : goal.returns-clause-rest
returns-clause-rest c = resettled_but

pub returns-clause-place : goal.returns-clause-place
returns-clause-place c = resettled_place

pub returns-clause-still : goal.returns-clause-still
returns-clause-still c = resettled_same
