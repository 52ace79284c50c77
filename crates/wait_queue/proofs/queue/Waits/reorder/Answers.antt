use Rattle.std.proofs.Common.{refl, arith}
use Rattle.wait_queue.specs.Queues.{reordered}
use Rattle.wait_queue.proofs.Kept.{table_moved, table_noted}
use Rattle.wait_queue.proofs.Moved.{changed, moved_by_index, noted_by_index, place_within, waiter_found}
use Rattle.wait_queue.proofs.queue.Waits.reorder.Goals as goal

pub index-waiter-requires : goal.index-waiter-requires
index-waiter-requires g c =
    let inside = c.self.inside in
    omega (arith, inside.waiters.ok.0, place_within c.args.task inside.objects inside.waiters.items _ _ _ c.self.view_is c.requires c.as_slice.ensures.value c.first_place-index.ensures.index)

pub index_mut-requires : goal.index_mut-requires
index_mut-requires g c =
    let inside = c.self.inside in
    omega (arith, inside.waiters.ok.0, place_within c.args.task inside.objects inside.waiters.items _ _ _ c.self.view_is c.requires c.as_slice.ensures.value c.first_place-index.ensures.index)

pub remove-requires : goal.remove-requires
remove-requires g c =
    let inside = c.self.inside in
    omega (arith, inside.waiters.ok.0, place_within c.args.task inside.objects inside.waiters.items _ _ _ c.self.view_is c.requires c.as_slice.ensures.value c.first_place-index.ensures.index)

pub invariant_of-self : goal.invariant_of-self
invariant_of-self g c =
    let inside = c.self.inside in
    let found = waiter_found c.args.task inside.objects inside.waiters.items _ _ _ _ c.self.invariant.once c.self.view_is c.requires c.as_slice.ensures.value c.first_place-index.ensures.index c.index-waiter.ensures in
    table_noted inside.objects c.args.pri inside.waiters.items _ c.first_place-index.result c.index-waiter.result.now c.with_priority.result _ _ c.self.invariant (omega arith) found.within found.is c.in-Fifo.is c.with_priority.ensures refl

pub invariant_of-self-in-Priority : goal.invariant_of-self-in-Priority
invariant_of-self-in-Priority g c =
    let inside = c.self.inside in
    let found = waiter_found c.args.task inside.objects inside.waiters.items _ _ _ _ c.self.invariant.once c.self.view_is c.requires c.as_slice.ensures.value c.first_place-index.ensures.index c.index-waiter.ensures in
    table_moved inside.objects c.args.pri inside.waiters.items _ _ c.first_place-index.result c.index-waiter.result.now _ _ _ c.self.invariant (omega (arith, c.remove.ensures.capacity, c.put.ensures.room)) found.within found.is c.with_priority-in-Priority.ensures c.remove.ensures.items c.put.ensures.waiters

pub returns-in-Fifo-clause-waiters : goal.returns-in-Fifo-clause-waiters
returns-in-Fifo-clause-waiters g c =
    let inside = c.self.inside in
    let found = waiter_found c.args.task inside.objects inside.waiters.items _ _ _ _ c.self.invariant.once c.self.view_is c.requires c.as_slice.ensures.value c.first_place-index.ensures.index c.index-waiter.ensures in
    changed (reordered c.args.task c.args.pri) inside.objects inside.waiters.items _ _ c.self.view_is
    (noted_by_index c.args.task c.args.pri inside.waiters.items _ c.first_place-index.result c.index-waiter.result.now c.with_priority.result found c.in-Fifo.is c.with_priority.ensures refl)

pub returns-in-Priority-clause-waiters : goal.returns-in-Priority-clause-waiters
returns-in-Priority-clause-waiters g c =
    let inside = c.self.inside in
    let found = waiter_found c.args.task inside.objects inside.waiters.items _ _ _ _ c.self.invariant.once c.self.view_is c.requires c.as_slice.ensures.value c.first_place-index.ensures.index c.index-waiter.ensures in
    changed (reordered c.args.task c.args.pri) inside.objects inside.waiters.items _ _ c.self.view_is
    (moved_by_index c.args.task c.args.pri inside.waiters.items _ _ c.first_place-index.result c.index-waiter.result.now _ found c.in-Priority.is c.with_priority-in-Priority.ensures c.remove.ensures.items c.put.ensures.waiters)
