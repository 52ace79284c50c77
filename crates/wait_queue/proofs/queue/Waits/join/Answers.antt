use Rattle.std.proofs.Common.{◌≡◌, ◌<◌, false, sym, subst, arith}
use Rattle.wait_queue.specs.declared.waiters.Waiter.{Waiter}
use Rattle.wait_queue.specs.Queues.{WaitTable, queue_of, waits}
use Rattle.wait_queue.specs.Facts.{AreOfOrder}
use Rattle.wait_queue.proofs.Kept.{of_queue, table_joined, table_room}
use Rattle.wait_queue.proofs.queue.Waits.join.Goals as goal

pub put-requires : goal.put-requires
put-requires g c =
    let task = c.args.task in
    omega (arith, c.self.inside.waiters.ok.0, table_room _ task _ _ c.self.invariant c.ranges.task.fits (subst (λ (t : WaitTable). waits task t.waiters ≡ false) (sym c.self.view_is) c.requires.outside))

pub invariant_of-self : goal.invariant_of-self
invariant_of-self g c =
    let object = c.args.obj in
    let task = c.args.task in
    let order = c.args.order in
    let waiter : Waiter = record { object = object; task = task; order = order; priority = c.args.pri } in
    table_joined _ waiter c.self.inside.waiters.items _ _ _ c.self.invariant c.put.ensures.room
    (record {
      known = subst (λ (t : WaitTable). object < t.objects) (sym c.self.view_is) c.requires.object;
      id = c.ranges.task.fits;
      outside = subst (λ (t : WaitTable). waits task t.waiters ≡ false) (sym c.self.view_is) c.requires.outside;
      order = of_queue waiter c.self.inside.waiters.items (subst (λ (t : WaitTable). AreOfOrder order (queue_of object t.waiters)) (sym c.self.view_is) c.requires.same_order);
    })
    c.put.ensures.waiters
