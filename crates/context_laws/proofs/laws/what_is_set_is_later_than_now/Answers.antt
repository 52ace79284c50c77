use Rattle.kernel_model.specs.LawWords.TimeOrder.{AreInTimeOrder, AreLater}
use Rattle.context_laws.proofs.Later.{again_holds, call_holds, call_keeps_periods, later_survives, order_survives, start_periodic}
use Rattle.context_laws.proofs.laws.what_is_set_is_later_than_now.Goals as goal

pub returns-clause-start : goal.returns-clause-start
returns-clause-start c = start_periodic

pub returns-clause-periods : goal.returns-clause-periods
returns-clause-periods c = call_keeps_periods

pub returns-clause-calls : goal.returns-clause-calls
returns-clause-calls c = λ b clocks call are is. call_holds (AreLater b.time) b clocks call (later_survives b.time) are is

pub returns-clause-set_again : goal.returns-clause-set_again
returns-clause-set_again c = λ b clocks what are is. again_holds (AreLater b.time) b clocks what (later_survives b.time) are is

pub returns-clause-order : goal.returns-clause-order
returns-clause-order c = λ b clocks call are is. call_holds AreInTimeOrder b clocks call (order_survives b.time) are is

pub returns-clause-order_again : goal.returns-clause-order_again
returns-clause-order_again c = λ b clocks what are is. again_holds AreInTimeOrder b clocks what (order_survives b.time) are is
