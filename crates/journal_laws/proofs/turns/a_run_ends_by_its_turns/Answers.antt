use Rattle.journal_laws.proofs.FedTurns.{trace_by_turns, trace_reaches, trace_with_more}
use Rattle.journal_laws.proofs.turns.a_run_ends_by_its_turns.Goals as goal

pub returns-clause-turns : goal.returns-clause-turns
returns-clause-turns c = trace_by_turns

pub returns-clause-more : goal.returns-clause-more
returns-clause-more c = trace_with_more

pub returns-clause-budget : goal.returns-clause-budget
returns-clause-budget c = trace_reaches
