use Rattle.context_laws.proofs.SystemTime.{set_and_passed, operating, halves_are, others_leave, again_leaves, goes_on}
use Rattle.context_laws.proofs.laws.the_system_time_goes_on_from_what_it_was_set_to.Goals as goal

pub returns-clause-passed : goal.returns-clause-passed
returns-clause-passed c = set_and_passed

pub returns-clause-operating : goal.returns-clause-operating
returns-clause-operating c = operating

pub returns-clause-halves : goal.returns-clause-halves
returns-clause-halves c = halves_are

pub returns-clause-calls : goal.returns-clause-calls
returns-clause-calls c = others_leave

pub returns-clause-set_again : goal.returns-clause-set_again
returns-clause-set_again c = again_leaves

pub returns-clause-millisecond : goal.returns-clause-millisecond
returns-clause-millisecond c = goes_on
