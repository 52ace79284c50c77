use Rattle.std.proofs.Common.{None, ap, refl, ◌∙◌}
use Rattle.kernel_model.specs.Tasks.Base.{Base}
use Rattle.kernel_base.proofs.Waited.{idle_written, since_without}
use Rattle.kernel_base.proofs.base.Base.delete.Goals as goal

pub invariant_of-self : goal.invariant_of-self
invariant_of-self c = record {
  room = c.self.invariant.room;
  queue = c.self.invariant.queue;
  waits = since_without c.args.task _ _ _ _ _ (idle_written c.args.task None _ _ (ap (λ (b : Base). b.tasks) (c.self.view_is ∙ c.erase.ensures)) refl) c.take_out.ensures c.self.invariant.waits;
}
