use Rattle.std.proofs.Common.{◌∙◌, ap}
use Rattle.machine_model.specs.Runs.Machine.{after_step}
use Rattle.tk_kernel.specs.contracts.machine.Machine.{the_view}
use Rattle.step_lemmas.proofs.Going.{going_after_step, none_left}
use Rattle.tk_kernel.proofs.Paces.{over_is, stepped_is}
use Rattle.tk_kernel.proofs.machine.Machine.step.Goals as goal

pub invariant_of-self : goal.invariant_of-self
invariant_of-self c =
    going_after_step _ _ _ c.self.inside.kernel _ _ _ c.self.invariant.runnable c.self.invariant.limit
    (c.self.invariant.left c.if-self.false (none_left _ c.in_default.not-Some))
    (c.self.invariant.counts c.if-self.false (none_left _ c.in_default.not-Some))
    c.known_of_tasks.ensures.places c.known_of_tasks.ensures.whole c.known_of_tasks.ensures.devices
    (c.self.invariant.sound c.if-self.false (none_left _ c.in_default.not-Some))
    (c.self.invariant.rest c.if-self.false (none_left _ c.in_default.not-Some))
    c.in-Ok.ensures.state
    (over_is _ _ _ c.in-Ok.ensures.pace c.over_of-self-inside.ensures)

pub returns-in-Ok-clause-stepped : goal.returns-in-Ok-clause-stepped
returns-in-Ok-clause-stepped c =
    stepped_is (the_view c.self.inside) _ _ _ _ _ (none_left _ c.in_default.not-Some) c.in-Ok.ensures.state c.in-Ok.ensures.pace c.over_of-self-inside.ensures c.in-Ok.ensures.lines c.in-Ok.ensures.messages
    ∙ ap after_step c.self.view_is
