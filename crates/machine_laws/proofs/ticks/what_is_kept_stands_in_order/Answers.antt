use Rattle.machine_lemmas.proofs.ReachedRest.{reached_slots}
use Rattle.machine_lemmas.proofs.TickReached.{reached_begins, reached_order, reached_places, reached_ranks}
use Rattle.machine_laws.proofs.ticks.what_is_kept_stands_in_order.Goals as goal

pub returns-clause-times : goal.returns-clause-times
returns-clause-times c = reached_order

pub returns-clause-stamps : goal.returns-clause-stamps
returns-clause-stamps c = reached_ranks

pub returns-clause-beginnings : goal.returns-clause-beginnings
returns-clause-beginnings c = reached_begins

pub returns-clause-places : goal.returns-clause-places
returns-clause-places c = reached_places

pub returns-clause-slots : goal.returns-clause-slots
returns-clause-slots c = λ script mode budget moves runnable. (reached_slots script mode budget moves runnable).base
