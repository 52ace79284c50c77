use Rattle.std.proofs.Common.{◌≡◌, ◌<◌, ℕ, Some}
use Rattle.object_model.specs.declared.mutexes.Mutex.{Mutex}
use Rattle.kernel_model.specs.Tasks.Queues.{AreOfOrder}
use Rattle.object_model.specs.Mutexes.Tables.{mutex_at, mutex_object}
use Rattle.mutex_prio.proofs.waiter_tests.are_queued.Given as goal

-- the waiters of those so far queue as they should
abbrev pub invariant-ids : goal.invariant-ids
invariant-ids l = (id : ℕ) → id < l.id → (k : Mutex) → mutex_at l.table id ≡ Some k → AreOfOrder k.order l.base (mutex_object id)
