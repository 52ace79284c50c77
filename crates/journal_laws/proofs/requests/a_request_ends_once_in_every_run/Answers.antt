use Rattle.journal_laws.proofs.EveryRun.{later_gone, later_so, reached_apart, reached_tied}
use Rattle.journal_laws.proofs.requests.a_request_ends_once_in_every_run.Goals as goal

pub returns-clause-apart : goal.returns-clause-apart
returns-clause-apart c = reached_apart

pub returns-clause-tied : goal.returns-clause-tied
returns-clause-tied c = reached_tied

pub returns-clause-ended : goal.returns-clause-ended
returns-clause-ended c = later_so

pub returns-clause-gone : goal.returns-clause-gone
returns-clause-gone c = later_gone
