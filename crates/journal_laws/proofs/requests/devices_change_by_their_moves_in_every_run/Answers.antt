use Rattle.journal_laws.proofs.EveryRun.{made_from_before, made_from_start}
use Rattle.journal_laws.proofs.requests.devices_change_by_their_moves_in_every_run.Goals as goal

pub returns-clause-start : goal.returns-clause-start
returns-clause-start c = made_from_start

pub returns-clause-later : goal.returns-clause-later
returns-clause-later c = made_from_before
