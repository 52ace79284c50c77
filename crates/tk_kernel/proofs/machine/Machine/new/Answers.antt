use Rattle.step_lemmas.proofs.Going.{going_at_start}
use Rattle.tk_kernel.proofs.machine.Machine.new.Goals as goal

pub invariant_of-result : goal.invariant_of-result
invariant_of-result c = going_at_start _ _ _ c.in_ok-kernel.kernel _ c.requires.runnable c.requires.low c.requires.high c.in_ok-kernel.ensures c.in_ok-dispatch.ensures.state
