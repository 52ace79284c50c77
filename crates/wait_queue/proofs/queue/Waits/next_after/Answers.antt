use Rattle.std.proofs.Common.{◌+◌, ap, drop, ◌∙◌}
use Rattle.std.specs.List.{position}
use Rattle.std.proofs.lemmas.List.{take_rest}
use Rattle.wait_queue.specs.Queues.{WaitTable, first_task, is_of_task, next_waiter, queue_of}
use Rattle.wait_queue.proofs.Next.{next_at, next_past}
use Rattle.wait_queue.proofs.queue.Waits.next_after.Goals as goal

pub returns-in-None : goal.returns-in-None
returns-in-None c =
    next_past c.args.task c.self.inside.waiters.items (c.in-None.ensures ∙ ap (position (is_of_task c.args.task)) c.as_slice.ensures.value)
    ∙ ap (λ (t : WaitTable). next_waiter c.args.task t.waiters) c.self.view_is

pub returns-in-Some : goal.returns-in-Some
returns-in-Some c =
    let waiter = c.index.result.now in
    let behind = c.in-Some.index + 1 in
    c.first_of.ensures
    ∙ ap (λ list. first_task (queue_of waiter.object list)) (take_rest c.deref.result.now behind ∙ ap (drop behind) c.deref.ensures.value)
    ∙ next_at c.args.task c.self.inside.waiters.items c.in-Some.index waiter (c.in-Some.ensures ∙ ap (position (is_of_task c.args.task)) c.as_slice.ensures.value) c.index.ensures
    ∙ ap (λ (t : WaitTable). next_waiter c.args.task t.waiters) c.self.view_is
