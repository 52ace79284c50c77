use Rattle.std.proofs.Common.{◌≡◌, ◌≤◌, ℕ, arith, true, ◌∙◌}
use Rattle.std.proofs.Math.ListN.{length-set}
use Rattle.kernel_model.specs.Tasks.Base.{task_at}
use Rattle.object_model.specs.Mutexes.Priority.{is_alive, own}
use Rattle.mutex_prio.proofs.Carried.{alive_some, each_put}
use Rattle.mutex_prio.proofs.lent.owns.Goals as goal

pub tasks-preserved : goal.tasks-preserved
tasks-preserved c = let long = c.tasks.invariant.long in record {
  long = length-set c.tasks.all c.tasks.task c.own.result ∙ long;
  owns = each_put (λ (t n : ℕ). n ≡ own c.args.base.now c.args.table.now t) c.tasks.all c.tasks.task c.own.result (omega (arith, long)) c.tasks.invariant.owns c.own.ensures.own;
  low = each_put (λ (t n : ℕ). is_alive (task_at c.args.base.now t) ≡ true → 1 ≤ n) c.tasks.all c.tasks.task c.own.result (omega (arith, long)) c.tasks.invariant.low (λ lives. c.own.ensures.low (alive_some (task_at c.args.base.now c.tasks.task) lives));
  high = each_put (λ (t n : ℕ). n ≤ 140) c.tasks.all c.tasks.task c.own.result (omega (arith, long)) c.tasks.invariant.high c.own.ensures.high;
}
