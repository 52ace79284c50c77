use Rattle.machine_laws.proofs.Turns.{due_next, dispatch_waits, handler_next}
use Rattle.machine_laws.proofs.laws.a_handler_is_never_interrupted.Goals as goal

pub returns-clause-runs : goal.returns-clause-runs
returns-clause-runs c = handler_next

pub returns-clause-waits : goal.returns-clause-waits
returns-clause-waits c = dispatch_waits

pub returns-clause-due : goal.returns-clause-due
returns-clause-due c = due_next
