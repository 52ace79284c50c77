use Rattle.std.proofs.Common.{arith}
use Rattle.wait_queue.specs.Queues.{without_waiter}
use Rattle.wait_queue.proofs.Kept.{table_without}
use Rattle.wait_queue.proofs.Moved.{changed, left_by_index, place_within}
use Rattle.wait_queue.proofs.queue.Waits.leave.Goals as goal

pub remove-requires : goal.remove-requires
remove-requires g c =
    let inside = c.self.inside in
    omega (arith, inside.waiters.ok.0, place_within c.args.task inside.objects inside.waiters.items _ _ _ c.self.view_is c.requires c.as_slice.ensures.value c.first_place-place.ensures.index)

pub invariant_of-self : goal.invariant_of-self
invariant_of-self g c =
    let inside = c.self.inside in
    table_without inside.objects c.args.task inside.waiters.items _ _ _ c.self.invariant (omega (arith, c.remove.ensures.capacity))
    (left_by_index c.args.task inside.objects inside.waiters.items _ _ _ _ c.self.invariant.once c.self.view_is c.requires c.as_slice.ensures.value c.first_place-place.ensures.index c.remove.ensures.items)

pub returns-clause-waiters : goal.returns-clause-waiters
returns-clause-waiters g c =
    let inside = c.self.inside in
    changed (without_waiter c.args.task) inside.objects inside.waiters.items _ _ c.self.view_is
    (left_by_index c.args.task inside.objects inside.waiters.items _ _ _ _ c.self.invariant.once c.self.view_is c.requires c.as_slice.ensures.value c.first_place-place.ensures.index c.remove.ensures.items)
