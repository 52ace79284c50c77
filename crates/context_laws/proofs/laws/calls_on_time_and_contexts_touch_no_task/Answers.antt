use Rattle.context_laws.proofs.Touches.{again_touches, context_touches, time_touches}
use Rattle.context_laws.proofs.laws.calls_on_time_and_contexts_touch_no_task.Goals as goal

pub returns-clause-time : goal.returns-clause-time
returns-clause-time c = λ b clocks call. let is = time_touches b clocks call in (is.rest, is.few)

pub returns-clause-set_again : goal.returns-clause-set_again
returns-clause-set_again c = λ b clocks what. let is = again_touches b clocks what in (is.rest, is.few)

pub returns-clause-contexts : goal.returns-clause-contexts
returns-clause-contexts c = λ b contexts who call. let is = context_touches b contexts who call in (is.rest, is.handler)
