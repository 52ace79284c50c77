use Rattle.std.proofs.Common.{ap, sym, ◌∙◌, arith}
use Rattle.ready_queue.specs.Queue.{rotated}
use Rattle.ready_queue.proofs.Kept.{queue_rotated}
use Rattle.ready_queue.proofs.Taken.{rotated_by_index, rotated_by_none}
use Rattle.ready_queue.proofs.queue.Ready.rotate.Goals as goal

pub invariant_of-self : goal.invariant_of-self
invariant_of-self g c =
    queue_rotated c.args.pri c.self.inside.places.items _ _ _ c.self.invariant (omega (arith, c.remove-place.ensures.capacity, c.put.ensures.room))
    (rotated_by_index c.args.pri c.self.inside.places.items _ _ _ _ _ c.self.invariant.once c.as_slice.ensures.value c.first_place-index.ensures.index (omega (arith, c.self.inside.places.ok.0, c.len.ensures)) c.remove-place.ensures.value c.remove-place.ensures.items c.put.ensures.places)

pub returns-then-index-len-clause-places : goal.returns-then-index-len-clause-places
returns-then-index-len-clause-places g c =
    rotated_by_index c.args.pri c.self.inside.places.items _ _ _ _ _ c.self.invariant.once c.as_slice.ensures.value c.first_place-index.ensures.index (omega (arith, c.self.inside.places.ok.0, c.len.ensures)) c.remove-place.ensures.value c.remove-place.ensures.items c.put.ensures.places
    ∙ ap (rotated c.args.pri) c.self.view_is

pub returns-else-index-len-clause-places : goal.returns-else-index-len-clause-places
returns-else-index-len-clause-places g c =
    (sym c.self.view_is)
    ∙ rotated_by_none c.args.pri c.self.inside.places.items _ _ c.as_slice.ensures.value c.first_place-index.ensures.index (omega (arith, c.self.inside.places.ok.0, c.len.ensures))
    ∙ ap (rotated c.args.pri) c.self.view_is
