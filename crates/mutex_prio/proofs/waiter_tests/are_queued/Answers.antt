use Rattle.std.proofs.Common.{rules, ◌≡◌, ◌<◌, ℕ, Some, true, arith}
use Rattle.object_model.specs.declared.mutexes.Mutex.{Mutex}
use Rattle.kernel_model.specs.Tasks.Queues.{AreOfOrder}
use Rattle.object_model.specs.Mutexes.Tables.{mutex_at, mutex_object}
use Rattle.mutex_prio.proofs.Looking.{next_each}
use Rattle.mutex_prio.proofs.waiter_tests.are_queued.Goals as goal

pub ids-preserved : goal.ids-preserved
ids-preserved c =
    let yes : c.is_queued.result ≡ true = search rules in
    next_each (λ (id : ℕ). (k : Mutex) → mutex_at c.args.table.now id ≡ Some k → AreOfOrder k.order c.args.base.now (mutex_object id)) c.ids.id c.ids.invariant (c.is_queued.ensures yes)

pub returns : goal.returns
returns c = λ yes. record { waiters = λ id k low high there. c.ids.invariant id (omega arith) k there }
