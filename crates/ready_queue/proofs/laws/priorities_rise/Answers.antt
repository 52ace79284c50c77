use Rattle.std.proofs.Common.{not}
use Rattle.ready_queue.specs.Queue.{is_of_task}
use Rattle.ready_queue.proofs.Kept.{rising_put, rising_filter, rising_rotated}
use Rattle.ready_queue.proofs.laws.priorities_rise.Goals as goal

pub returns-clause-put_back : goal.returns-clause-put_back
returns-clause-put_back c = rising_put

pub returns-clause-removed : goal.returns-clause-removed
returns-clause-removed c = λ task. rising_filter (λ place. not (is_of_task task place))

pub returns-clause-rotation : goal.returns-clause-rotation
returns-clause-rotation c = rising_rotated
