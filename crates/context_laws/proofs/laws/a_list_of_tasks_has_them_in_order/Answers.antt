use Rattle.context_laws.proofs.Listings.{ready_listed, queues_semaphore, queues_flag, queues_mailbox, queues_mutex, queues_senders, queues_receivers, queues_fixed_pool, queues_variable_pool}
use Rattle.context_laws.proofs.laws.a_list_of_tasks_has_them_in_order.Goals as goal

pub returns-clause-ready : goal.returns-clause-ready
returns-clause-ready c = ready_listed

pub returns-clause-semaphore : goal.returns-clause-semaphore
returns-clause-semaphore c = queues_semaphore

pub returns-clause-flag : goal.returns-clause-flag
returns-clause-flag c = queues_flag

pub returns-clause-mailbox : goal.returns-clause-mailbox
returns-clause-mailbox c = queues_mailbox

pub returns-clause-mutex : goal.returns-clause-mutex
returns-clause-mutex c = queues_mutex

pub returns-clause-senders : goal.returns-clause-senders
returns-clause-senders c = queues_senders

pub returns-clause-receivers : goal.returns-clause-receivers
returns-clause-receivers c = queues_receivers

pub returns-clause-fixed_pool : goal.returns-clause-fixed_pool
returns-clause-fixed_pool c = queues_fixed_pool

pub returns-clause-variable_pool : goal.returns-clause-variable_pool
returns-clause-variable_pool c = queues_variable_pool
