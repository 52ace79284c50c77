use Rattle.tk_kernel.proofs.Paces.{not_over}
use Rattle.step_lemmas.proofs.Going.{going_after_arrival}
use Rattle.tk_kernel.proofs.machine.Machine.arrive.Goals as goal

pub invariant_of-self : goal.invariant_of-self
invariant_of-self c =
    let has = c.in-Ok-true.ensures.some c.in-Ok-true.field-0-test in
    let going = not_over _ _ c.is_some.ensures c.if-is_some.false in
    going_after_arrival c.self.inside.script c.self.inside.mode c.self.inside.budget c.self.inside.kernel c.arrive.new.kernel _ _ c.args.ending has.event c.self.invariant.runnable c.self.invariant.limit
    (c.self.invariant.left c.if-self.false going) (c.self.invariant.counts c.if-self.false going) c.known_of_tasks.ensures.places c.known_of_tasks.ensures.whole c.known_of_tasks.ensures.devices
    (c.self.invariant.sound c.if-self.false going) (c.self.invariant.rest c.if-self.false going) has.comes has.state
