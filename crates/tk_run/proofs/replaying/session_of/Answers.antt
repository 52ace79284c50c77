use Rattle.tk_run.proofs.SessionReadings.{found_replayable}
use Rattle.tk_run.proofs.replaying.session_of.Goals as goal

pub returns-clause-replayable : goal.returns-clause-replayable
returns-clause-replayable c = found_replayable _ _ c.read_session.ensures.found
