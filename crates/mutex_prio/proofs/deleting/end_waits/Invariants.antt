use Rattle.std.proofs.Common.{◌≡◌, ◌-◌}
use Rattle.kernel_model.specs.Tasks.Queues.{AreOfOrder}
use Rattle.kernel_model.specs.SemFlags.Calls.{end_first, end_waits}
use Rattle.mutex_prio.proofs.deleting.end_waits.Given as goal

-- what is left to end comes to what all comes to, and the waiters still queue in that order
abbrev pub invariant-waiters : goal.invariant-waiters
invariant-waiters l = record {
  all : end_first (l.count - l._ended) l.order l.obj l.base ≡ end_waits l.order l.obj l.fn.base;
  alike : AreOfOrder l.order l.base l.obj;
}
