use Rattle.journal_laws.proofs.Paces.{arrived_fed, step_went}
use Rattle.journal_laws.proofs.WholeTurns.{start_owes}
use Rattle.journal_laws.proofs.turns.a_step_makes_one_request_at_most.Goals as goal

pub returns-clause-start : goal.returns-clause-start
returns-clause-start c = start_owes

pub returns-clause-step : goal.returns-clause-step
returns-clause-step c = λ script mode budget st event over is. (step_went script mode budget st event over is).owes

pub returns-clause-ending : goal.returns-clause-ending
returns-clause-ending c = λ script mode st e event is. (arrived_fed script mode st e event is).owes
