use Rattle.machine_lemmas.proofs.TickClocks.{reached_periods}
use Rattle.machine_lemmas.proofs.TickTakes.{event_in_order, reached_takes_all, tick_keeps_order, tick_takes_all}
use Rattle.machine_laws.proofs.ticks.events_fall_due_in_order.Goals as goal

pub returns-clause-set_in_order : goal.returns-clause-set_in_order
returns-clause-set_in_order c = event_in_order

pub returns-clause-tick_in_order : goal.returns-clause-tick_in_order
returns-clause-tick_in_order c = tick_keeps_order

pub returns-clause-tick : goal.returns-clause-tick
returns-clause-tick c = tick_takes_all

pub returns-clause-periods : goal.returns-clause-periods
returns-clause-periods c = reached_periods

pub returns-clause-reached : goal.returns-clause-reached
returns-clause-reached c = reached_takes_all
