use Rattle.std.proofs.Common.{◌≡◌, ◌<◌, ℕ, Some, true}
use Rattle.kernel_model.specs.Tasks.Base.{waits_for}
use Rattle.kernel_model.specs.Tasks.Queues.{AreOfOrder}
use Rattle.object_model.specs.Pools.Tables.{FixedPool, VariablePool, fixed_at, fixed_object, size_of, variable_at, variable_object}
use Rattle.mem_pools.proofs.waiter_tests.are_queued.Given as goal

-- the waiters of those so far queue as they should
abbrev pub invariant-ids : goal.invariant-ids
invariant-ids l = record {
  fixed : (id : ℕ) → id < l.id → (k : FixedPool) → fixed_at l.table id ≡ Some k → AreOfOrder k.order l.base (fixed_object id);
  variable : (id : ℕ) → id < l.id → (k : VariablePool) → variable_at l.table id ≡ Some k → AreOfOrder k.order l.base (variable_object id);
  asked : (id : ℕ) → id < l.id → (t : ℕ) → waits_for l.base (variable_object id) t ≡ true → 0 < size_of l.table t;
}
