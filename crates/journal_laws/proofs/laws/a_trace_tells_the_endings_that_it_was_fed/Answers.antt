use Rattle.journal_laws.proofs.Feeding.{front_told, whole_replays, whole_tells}
use Rattle.journal_laws.proofs.laws.a_trace_tells_the_endings_that_it_was_fed.Goals as goal

pub returns-clause-front : goal.returns-clause-front
returns-clause-front c = front_told

pub returns-clause-whole : goal.returns-clause-whole
returns-clause-whole c = whole_tells

pub returns-clause-again : goal.returns-clause-again
returns-clause-again c = whole_replays
