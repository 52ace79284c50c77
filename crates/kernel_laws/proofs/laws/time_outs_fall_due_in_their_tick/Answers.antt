use Rattle.call_lemmas.proofs.TimeOuts.{limit_set, goes_on, ends_then}
use Rattle.kernel_laws.proofs.laws.time_outs_fall_due_in_their_tick.Goals as goal

pub returns-clause-limit : goal.returns-clause-limit
returns-clause-limit c = limit_set

pub returns-clause-goes_on : goal.returns-clause-goes_on
returns-clause-goes_on c = goes_on

pub returns-clause-ends : goal.returns-clause-ends
returns-clause-ends c = ends_then
