use Rattle.machine_lemmas.proofs.TickLasts.{wait_lasts, wait_over, wait_over_or_moved}
use Rattle.machine_laws.proofs.ticks.time_outs_fall_due_in_their_tick.Goals as goal

pub returns-clause-waits_on : goal.returns-clause-waits_on
returns-clause-waits_on c = wait_lasts

pub returns-clause-is_over : goal.returns-clause-is_over
returns-clause-is_over c = wait_over

pub returns-clause-is_over_or_moved : goal.returns-clause-is_over_or_moved
returns-clause-is_over_or_moved c = wait_over_or_moved
