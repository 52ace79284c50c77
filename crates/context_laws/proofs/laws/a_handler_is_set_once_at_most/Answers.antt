use Rattle.context_laws.proofs.SetOnce.{call_sets_once, tick_sets_once}
use Rattle.context_laws.proofs.Starts.{alarm_delete_leaves_none, alarm_starts, alarm_stop_leaves_none, delete_leaves_none, stop_leaves_none}
use Rattle.context_laws.proofs.laws.a_handler_is_set_once_at_most.Goals as goal

pub returns-clause-calls : goal.returns-clause-calls
returns-clause-calls c = call_sets_once

pub returns-clause-tick : goal.returns-clause-tick
returns-clause-tick c = tick_sets_once

pub returns-clause-alarm : goal.returns-clause-alarm
returns-clause-alarm c = alarm_starts

pub returns-clause-stopped_cyclic : goal.returns-clause-stopped_cyclic
returns-clause-stopped_cyclic c = stop_leaves_none

pub returns-clause-deleted_cyclic : goal.returns-clause-deleted_cyclic
returns-clause-deleted_cyclic c = delete_leaves_none

pub returns-clause-stopped_alarm : goal.returns-clause-stopped_alarm
returns-clause-stopped_alarm c = alarm_stop_leaves_none

pub returns-clause-deleted_alarm : goal.returns-clause-deleted_alarm
returns-clause-deleted_alarm c = alarm_delete_leaves_none
