use Rattle.std.proofs.Common.{◌≡◌, drop, cond}
use Rattle.std.specs.Prelude.{filter, slice_get}
use Rattle.kernel_model.specs.Tasks.Base.{is_ready_with}
use Rattle.kernel_base.specs.Queues.{behind, next_ready}
use Rattle.kernel_base.proofs.base.Base.next_in_order.Given as goal

-- what is left to look at behind the task has the one that is looked for first
abbrev pub invariant-tasks : goal.invariant-tasks
invariant-tasks l =
    slice_get (filter (is_ready_with l.self l.pri) (cond l.passed (drop l.other-index l.self.order) (behind l.task (drop l.other-index l.self.order)))) 0 ≡ next_ready l.self l.task
