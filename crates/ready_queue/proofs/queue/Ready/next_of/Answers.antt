use Rattle.std.proofs.Common.{ap, ◌∙◌, drop, ◌+◌}
use Rattle.std.specs.List.{position}
use Rattle.std.proofs.lemmas.List.{take_rest}
use Rattle.ready_queue.specs.Queue.{equal_in_front, is_of_task, next_task}
use Rattle.ready_queue.proofs.Next.{next_at, next_past}
use Rattle.ready_queue.proofs.queue.Ready.next_of.Goals as goal

pub returns-in-None : goal.returns-in-None
returns-in-None c =
    next_past c.args.task c.self.inside.places.items (c.in-None.ensures ∙ ap (position (is_of_task c.args.task)) c.as_slice.ensures.value)
    ∙ ap (next_task c.args.task) c.self.view_is

pub returns-in-Some : goal.returns-in-Some
returns-in-Some c =
    let place = c.index.result.now in
    let behind = c.in-Some.index + 1 in
    c.equal_in_front.ensures
    ∙ ap (equal_in_front place) (take_rest c.deref.result.now behind ∙ ap (drop behind) c.deref.ensures.value)
    ∙ next_at c.args.task c.self.inside.places.items c.in-Some.index place c.self.invariant.rising (c.in-Some.ensures ∙ ap (position (is_of_task c.args.task)) c.as_slice.ensures.value) c.index.ensures
    ∙ ap (next_task c.args.task) c.self.view_is
