use Rattle.std.proofs.Common.{◌<◌, length, ap}
use Rattle.time_queue.specs.Queue.{Queue}
use Rattle.time_queue.proofs.Kept.{kept_inserted}
use Rattle.time_queue.proofs.due.Due.add.Goals as goal

pub invariant_of-self : goal.invariant_of-self
invariant_of-self c =
    let below : length c.self.inside.events.items < c.self.inside.most = rw (ap (λ (q : Queue). q.events) c.self.view_is, ap (λ (q : Queue). q.most) c.self.view_is) c.requires.room in
    rw c.set_event.ensures.set (kept_inserted _ _ _ _ _ c.self.invariant below c.set_event.ensures.room)
