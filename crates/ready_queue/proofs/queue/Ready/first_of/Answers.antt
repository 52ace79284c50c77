use Rattle.std.proofs.Common.{ap, ◌∙◌}
use Rattle.std.specs.List.{position}
use Rattle.ready_queue.specs.Queue.{first_task, is_of_priority, places_of}
use Rattle.ready_queue.proofs.Next.{first_at, first_past}
use Rattle.ready_queue.proofs.queue.Ready.first_of.Goals as goal

pub returns-in-None : goal.returns-in-None
returns-in-None c =
    first_past c.args.pri c.self.inside.places.items (c.in-None.ensures ∙ ap (position (is_of_priority c.args.pri)) c.as_slice.ensures.value)
    ∙ ap (λ list. first_task (places_of c.args.pri list)) c.self.view_is

pub returns-in-Some : goal.returns-in-Some
returns-in-Some c =
    first_at c.args.pri c.self.inside.places.items c.in-Some.index c.index.result.now (c.in-Some.ensures ∙ ap (position (is_of_priority c.args.pri)) c.as_slice.ensures.value) c.index.ensures
    ∙ ap (λ list. first_task (places_of c.args.pri list)) c.self.view_is
