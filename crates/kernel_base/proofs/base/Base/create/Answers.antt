use Rattle.std.proofs.Common.{Some, ap, ◌∙◌}
use Rattle.tk_types.specs.declared.task.Task.{Task}
use Rattle.kernel_model.specs.Tasks.Base.{Base, waits_somewhere}
use Rattle.kernel_base.proofs.Waited.{idle_written, since_back}
use Rattle.kernel_base.proofs.base.Base.create.Goals as goal

pub invariant_of-self : goal.invariant_of-self
invariant_of-self c = record {
  room = c.self.invariant.room;
  queue = c.self.invariant.queue;
  waits = since_back c.args.task _ _ _ _ _
      (idle_written c.args.task (Some c.created.result) _ _ (ap (λ (b : Base). b.tasks) (c.self.view_is ∙ c.write_last.ensures)) (ap (λ (k : Task). waits_somewhere (Some k)) c.created.ensures))
      c.move_to_back.ensures c.self.invariant.waits;
}
