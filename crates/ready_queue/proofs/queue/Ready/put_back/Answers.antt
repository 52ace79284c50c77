use Rattle.std.proofs.Common.{subst, sym, arith}
use Rattle.std.proofs.Common.{List, ◌≡◌, false}
use Rattle.ready_queue.specs.declared.places.ReadyTask.{ReadyTask}
use Rattle.ready_queue.specs.Queue.{holds_task}
use Rattle.ready_queue.proofs.Kept.{queue_put, queue_room}
use Rattle.ready_queue.proofs.queue.Ready.put_back.Goals as goal

pub put-requires : goal.put-requires
put-requires g c =
    let items = c.self.inside.places.items in
    let out : holds_task c.args.task items ≡ false = subst (λ (l : List ReadyTask). holds_task c.args.task l ≡ false) (sym c.self.view_is) c.requires.outside in
    omega (arith, c.self.inside.places.ok.0, queue_room c.args.task items _ c.self.invariant c.ranges.task.fits out)

pub invariant_of-self : goal.invariant_of-self
invariant_of-self g c =
    let items = c.self.inside.places.items in
    let out : holds_task c.args.task items ≡ false = subst (λ (l : List ReadyTask). holds_task c.args.task l ≡ false) (sym c.self.view_is) c.requires.outside in
    queue_put (record { task = c.args.task; priority = c.args.pri }) items _ _ _ c.self.invariant c.put.ensures.room c.ranges.task.fits out c.put.ensures.places
