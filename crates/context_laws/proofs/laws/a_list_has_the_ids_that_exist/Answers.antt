use Rattle.context_laws.proofs.Listings.{lists_tasks, lists_semaphores, lists_flags, lists_mailboxes, lists_mutexes, lists_buffers, lists_fixed_pools, lists_variable_pools, lists_cyclic_handlers, lists_alarm_handlers, lists_subsystems}
use Rattle.context_laws.proofs.laws.a_list_has_the_ids_that_exist.Goals as goal

pub returns-clause-tasks : goal.returns-clause-tasks
returns-clause-tasks c = lists_tasks

pub returns-clause-semaphores : goal.returns-clause-semaphores
returns-clause-semaphores c = lists_semaphores

pub returns-clause-flags : goal.returns-clause-flags
returns-clause-flags c = lists_flags

pub returns-clause-mailboxes : goal.returns-clause-mailboxes
returns-clause-mailboxes c = lists_mailboxes

pub returns-clause-mutexes : goal.returns-clause-mutexes
returns-clause-mutexes c = lists_mutexes

pub returns-clause-buffers : goal.returns-clause-buffers
returns-clause-buffers c = lists_buffers

pub returns-clause-fixed_pools : goal.returns-clause-fixed_pools
returns-clause-fixed_pools c = lists_fixed_pools

pub returns-clause-variable_pools : goal.returns-clause-variable_pools
returns-clause-variable_pools c = lists_variable_pools

pub returns-clause-cyclic_handlers : goal.returns-clause-cyclic_handlers
returns-clause-cyclic_handlers c = lists_cyclic_handlers

pub returns-clause-alarm_handlers : goal.returns-clause-alarm_handlers
returns-clause-alarm_handlers c = lists_alarm_handlers

pub returns-clause-subsystems : goal.returns-clause-subsystems
returns-clause-subsystems c = lists_subsystems
