use Rattle.std.proofs.Common.{◌≡◌, ◌<◌, ℕ, true}
use Rattle.kernel_model.specs.Tasks.Base.{waits_for}
use Rattle.object_model.specs.Pools.Tables.{size_of}
use Rattle.mem_pools.proofs.waiter_tests.have_asked.Given as goal

-- those so far asked for some bytes
abbrev pub invariant-tasks : goal.invariant-tasks
invariant-tasks l = (t : ℕ) → t < l.task → waits_for l.base l.obj t ≡ true → 0 < size_of l.table t
