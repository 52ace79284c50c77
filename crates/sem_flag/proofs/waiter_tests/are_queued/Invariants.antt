use Rattle.std.proofs.Common.{◌≡◌, ◌<◌, ℕ, Some}
use Rattle.kernel_model.specs.declared.objects.EventFlag.{EventFlag}
use Rattle.kernel_model.specs.declared.objects.Semaphore.{Semaphore}
use Rattle.kernel_model.specs.Tasks.Queues.{AreOfOrder}
use Rattle.kernel_model.specs.SemFlags.Tables.{flag_at, flag_object, sem_at, sem_object}
use Rattle.sem_flag.proofs.waiter_tests.are_queued.Given as goal

-- the waiters of those so far queue as they should
abbrev pub invariant-ids : goal.invariant-ids
invariant-ids l = record {
  sems : (id : ℕ) → id < l.id → (k : Semaphore) → sem_at l.table id ≡ Some k → AreOfOrder k.order l.base (sem_object id);
  flags : (id : ℕ) → id < l.id → (k : EventFlag) → flag_at l.table id ≡ Some k → AreOfOrder k.order l.base (flag_object id);
}
