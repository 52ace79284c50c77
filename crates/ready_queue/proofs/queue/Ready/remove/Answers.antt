use Rattle.std.proofs.Common.{◌≡◌, List, true, sym, subst, ap, ◌∙◌, arith}
use Rattle.std.specs.List.{position_or_len}
use Rattle.ready_queue.specs.declared.places.ReadyTask.{ReadyTask}
use Rattle.ready_queue.specs.Queue.{holds_task, is_of_task, without_task}
use Rattle.ready_queue.proofs.Kept.{queue_without}
use Rattle.ready_queue.proofs.Found.{found_within}
use Rattle.ready_queue.proofs.Taken.{taken_by_index}
use Rattle.ready_queue.proofs.queue.Ready.remove.Goals as goal

pub remove-requires : goal.remove-requires
remove-requires g c =
    let items = c.self.inside.places.items in
    let found : holds_task c.args.task items ≡ true = subst (λ (l : List ReadyTask). holds_task c.args.task l ≡ true) (sym c.self.view_is) c.requires in
    omega (arith, c.self.inside.places.ok.0, found_within (is_of_task c.args.task) items found, c.first_place-index.ensures.index ∙ ap (position_or_len (is_of_task c.args.task)) c.as_slice.ensures.value)

pub invariant_of-self : goal.invariant_of-self
invariant_of-self g c =
    let items = c.self.inside.places.items in
    let found : holds_task c.args.task items ≡ true = subst (λ (l : List ReadyTask). holds_task c.args.task l ≡ true) (sym c.self.view_is) c.requires in
    queue_without c.args.task items _ _ _ c.self.invariant (omega (arith, c.remove.ensures.capacity))
    (taken_by_index c.args.task items _ _ _ c.self.invariant.once found c.as_slice.ensures.value c.first_place-index.ensures.index c.remove.ensures.items)

pub returns-clause-places : goal.returns-clause-places
returns-clause-places g c =
    let items = c.self.inside.places.items in
    let found : holds_task c.args.task items ≡ true = subst (λ (l : List ReadyTask). holds_task c.args.task l ≡ true) (sym c.self.view_is) c.requires in
    taken_by_index c.args.task items _ _ _ c.self.invariant.once found c.as_slice.ensures.value c.first_place-index.ensures.index c.remove.ensures.items
    ∙ ap (without_task c.args.task) c.self.view_is
