use Rattle.kernel_lemmas.proofs.ReadyLists.{rising_ready, times_ready, once_ready, ready_of_level}
use Rattle.kernel_laws.proofs.laws.the_ready_list_is_in_order.Goals as goal

pub returns-clause-rising : goal.returns-clause-rising
returns-clause-rising c = rising_ready

pub returns-clause-stands : goal.returns-clause-stands
returns-clause-stands c = times_ready

pub returns-clause-once : goal.returns-clause-once
returns-clause-once c = once_ready

pub returns-clause-equals : goal.returns-clause-equals
returns-clause-equals c = ready_of_level
