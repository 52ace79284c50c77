use Rattle.machine_lemmas.proofs.TickAhead.{tick_ends, tick_ends_or_moves}
use Rattle.machine_lemmas.proofs.TickEnds.{tick_leaves_or_serves, tick_leaves_set, tick_leaves_waiting}
use Rattle.machine_laws.proofs.ticks.a_tick_ends_the_waits_whose_time_has_come.Goals as goal

pub returns-clause-stays_set : goal.returns-clause-stays_set
returns-clause-stays_set c = tick_leaves_set

pub returns-clause-waits_on : goal.returns-clause-waits_on
returns-clause-waits_on c = tick_leaves_waiting

pub returns-clause-served_or_waits_on : goal.returns-clause-served_or_waits_on
returns-clause-served_or_waits_on c = tick_leaves_or_serves

pub returns-clause-is_over : goal.returns-clause-is_over
returns-clause-is_over c = tick_ends

pub returns-clause-is_over_or_moved : goal.returns-clause-is_over_or_moved
returns-clause-is_over_or_moved c = tick_ends_or_moves
