use Rattle.journal_laws.proofs.OwnEndings.{sync_is_fed}
use Rattle.journal_laws.proofs.WholeTurns.{sync_by_turns, sync_endings, sync_reaches, sync_with_more}
use Rattle.journal_laws.proofs.turns.a_sync_run_ends_by_its_turns.Goals as goal

pub returns-clause-turns : goal.returns-clause-turns
returns-clause-turns c = sync_by_turns

pub returns-clause-more : goal.returns-clause-more
returns-clause-more c = sync_with_more

pub returns-clause-budget : goal.returns-clause-budget
returns-clause-budget c = sync_reaches

pub returns-clause-endings : goal.returns-clause-endings
returns-clause-endings c = sync_endings

pub returns-clause-own : goal.returns-clause-own
returns-clause-own c = sync_is_fed
