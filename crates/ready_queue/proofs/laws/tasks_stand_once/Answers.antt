use Rattle.std.proofs.Common.{not}
use Rattle.ready_queue.specs.declared.places.ReadyTask.{ReadyTask}
use Rattle.ready_queue.specs.Queue.{is_of_task}
use Rattle.ready_queue.proofs.Kept.{once_put, once_rotated}
use Rattle.ready_queue.proofs.Keyed.{gone, once_filter}
use Rattle.ready_queue.proofs.laws.tasks_stand_once.Goals as goal

pub returns-clause-put_back : goal.returns-clause-put_back
returns-clause-put_back c = once_put

pub returns-clause-removed : goal.returns-clause-removed
returns-clause-removed c = λ task. once_filter (λ (p : ReadyTask). p.task) (λ place. not (is_of_task task place))

pub returns-clause-rotation : goal.returns-clause-rotation
returns-clause-rotation c = once_rotated

pub returns-clause-gone : goal.returns-clause-gone
returns-clause-gone c = gone (λ (p : ReadyTask). p.task)
