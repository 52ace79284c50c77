use Rattle.std.proofs.Common.{◌≤◌, ap, sym, subst, ◌∙◌}
use Rattle.std.specs.Prelude.{slice_get}
use Rattle.kernel_model.specs.LawWords.Once.{times}
use Rattle.kernel_base.specs.Queues.{behind}
use Rattle.td_hooks.specs.Tasks.{in_list}
use Rattle.td_hooks.specs.declared.tasks.TaskList.{TaskList}
use Rattle.td_hooks.proofs.Members.{in_queue_waits, next_in_queue, next_in_ready}
use Rattle.td_hooks.proofs.tasks.TaskList.next.Goals as goal

pub next_after-requires : goal.next_after-requires
next_after-requires c = in_queue_waits c.args.base.now c.in-Waiting.field-0 c.args.task (subst (λ (tasks : TaskList). 1 ≤ times c.args.task (in_list c.args.base.now tasks)) c.in-Waiting.is c.requires)

pub returns-in-Ready : goal.returns-in-Ready
returns-in-Ready c =
    c.next_ready.ensures
    ∙ next_in_ready c.args.base.now c.in-Ready.field-0 c.args.task (subst (λ (tasks : TaskList). 1 ≤ times c.args.task (in_list c.args.base.now tasks)) c.in-Ready.is c.requires)
    ∙ ap (λ (tasks : TaskList). slice_get (behind c.args.task (in_list c.args.base.now tasks)) 0) (sym c.in-Ready.is)

pub returns-in-Waiting : goal.returns-in-Waiting
returns-in-Waiting c =
    c.next_after.ensures
    ∙ next_in_queue c.args.base.now c.in-Waiting.field-0 c.args.task (subst (λ (tasks : TaskList). 1 ≤ times c.args.task (in_list c.args.base.now tasks)) c.in-Waiting.is c.requires)
    ∙ ap (λ (tasks : TaskList). slice_get (behind c.args.task (in_list c.args.base.now tasks)) 0) (sym c.in-Waiting.is)
