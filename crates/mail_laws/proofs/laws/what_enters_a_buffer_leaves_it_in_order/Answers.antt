use Rattle.mail_laws.proofs.laws.what_enters_a_buffer_leaves_it_in_order.Goals as goal
use Rattle.mail_laws.proofs.Flows.{step_flows, steps_flow, all_that_entered}

pub returns-clause-step : goal.returns-clause-step
returns-clause-step c = step_flows

pub returns-clause-steps : goal.returns-clause-steps
returns-clause-steps c = steps_flow

pub returns-clause-from_empty : goal.returns-clause-from_empty
returns-clause-from_empty c = all_that_entered
