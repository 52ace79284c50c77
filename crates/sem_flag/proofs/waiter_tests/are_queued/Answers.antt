use Rattle.std.proofs.Common.{rules, ◌≡◌, ◌<◌, ℕ, Some, true, ap, arith, length}
use Rattle.std.specs.Option.{is_some}
use Rattle.kernel_model.specs.declared.objects.EventFlag.{EventFlag}
use Rattle.kernel_model.specs.declared.objects.Semaphore.{Semaphore}
use Rattle.kernel_model.specs.Tasks.Queues.{AreOfOrder}
use Rattle.kernel_model.specs.SemFlags.Tables.{flag_at, flag_object, sem_at, sem_object}
use Rattle.sem_flag.proofs.Looking.{inside, next_each}
use Rattle.sem_flag.proofs.waiter_tests.are_queued.Goals as goal

pub ids-preserved : goal.ids-preserved
ids-preserved c =
    let sem_yes : c.is_sem_queued.result ≡ true = search rules in
    let flag_yes : c.is_flag_queued.result ≡ true = search rules in
    record {
      sems = next_each (λ (id : ℕ). (k : Semaphore) → sem_at c.args.table.now id ≡ Some k → AreOfOrder k.order c.args.base.now (sem_object id)) c.ids.id c.ids.invariant.sems (c.is_sem_queued.ensures sem_yes);
      flags = next_each (λ (id : ℕ). (k : EventFlag) → flag_at c.args.table.now id ≡ Some k → AreOfOrder k.order c.args.base.now (flag_object id)) c.ids.id c.ids.invariant.flags (c.is_flag_queued.ensures flag_yes);
    }

pub returns : goal.returns
returns c = λ yes. record {
  sems = λ id k low high there.
      let taken : id < length c.args.table.now.sems = inside c.args.table.now.sems id (ap is_some there) in
      c.ids.invariant.sems id (omega arith) k there;
  flags = λ id k low high there.
      let taken : id < length c.args.table.now.flags = inside c.args.table.now.flags id (ap is_some there) in
      c.ids.invariant.flags id (omega arith) k there;
}
