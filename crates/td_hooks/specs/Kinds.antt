-- The kinds of what has a list of its IDs, and the queues of objects.
use Rattle.std.specs.Prelude.{ℕ, Bool}
use Rattle.kernel_model.specs.SemFlags.Tables.{sem_object, flag_object}
use Rattle.object_model.specs.Mutexes.Tables.{mutex_object, has_mutex}
use Rattle.object_model.specs.Mails.Tables.{box_object, senders_object, receivers_object, has_mbx, has_mbf}
use Rattle.object_model.specs.Pools.Tables.{fixed_object, variable_object, has_mpf, has_mpl}
use Rattle.context_model.specs.Clocks.Tables.{has_cyc, has_alm}
use Rattle.context_model.specs.Contexts.Tables.{has_ssy}
use Rattle.context_model.specs.Hooks.Tables.{Views}
use Rattle.context_model.specs.Hooks.Lists.{has_task, has_sem, has_flag}
use Rattle.td_hooks.specs.declared.kinds.Kind.{Kind}
use Rattle.td_hooks.specs.declared.kinds.Kind.TheVariants as kind
use Rattle.td_hooks.specs.declared.kinds.Queue.{Queue}
use Rattle.td_hooks.specs.declared.kinds.Queue.TheVariants as queue

-- the greatest ID that there can be
abbrev pub greatest : Kind → ℕ
greatest kind.Task = 255
greatest kind.Subsystem = 255
greatest _ = 64

-- which of a kind exist
abbrev pub exists : Views → Kind → ℕ → Bool
exists v kind.Task = has_task v.base
exists v kind.Semaphore = has_sem v.sem_flags
exists v kind.EventFlag = has_flag v.sem_flags
exists v kind.Mailbox = has_mbx v.mails
exists v kind.Mutex = has_mutex v.mutexes
exists v kind.MessageBuffer = has_mbf v.mails
exists v kind.FixedPool = has_mpf v.pools
exists v kind.VariablePool = has_mpl v.pools
exists v kind.CyclicHandler = has_cyc v.clocks
exists v kind.AlarmHandler = has_alm v.clocks
exists v kind.Subsystem = has_ssy v.contexts

-- what has such a queue
abbrev pub kind_of : Queue → Kind
kind_of queue.Semaphore = kind.Semaphore
kind_of queue.EventFlag = kind.EventFlag
kind_of queue.Mailbox = kind.Mailbox
kind_of queue.Mutex = kind.Mutex
kind_of queue.Senders = kind.MessageBuffer
kind_of queue.Receivers = kind.MessageBuffer
kind_of queue.FixedPool = kind.FixedPool
kind_of queue.VariablePool = kind.VariablePool

-- the object for which the tasks in the queue wait
abbrev pub object_of : Queue → ℕ → ℕ
object_of queue.Semaphore = sem_object
object_of queue.EventFlag = flag_object
object_of queue.Mailbox = box_object
object_of queue.Mutex = mutex_object
object_of queue.Senders = senders_object
object_of queue.Receivers = receivers_object
object_of queue.FixedPool = fixed_object
object_of queue.VariablePool = variable_object
