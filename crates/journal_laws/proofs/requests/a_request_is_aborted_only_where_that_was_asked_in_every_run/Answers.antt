use Rattle.journal_laws.proofs.EveryRun.{arrived_as_asked, arrived_plain, reached_as_asked}
use Rattle.journal_laws.proofs.requests.a_request_is_aborted_only_where_that_was_asked_in_every_run.Goals as goal

pub returns-clause-cut : goal.returns-clause-cut
returns-clause-cut c = arrived_as_asked

pub returns-clause-done : goal.returns-clause-done
returns-clause-done c = arrived_plain

pub returns-clause-before : goal.returns-clause-before
returns-clause-before c = reached_as_asked
