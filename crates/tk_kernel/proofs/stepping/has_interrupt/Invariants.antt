use Rattle.std.proofs.Common.{◌≡◌, drop}
use Rattle.step_lemmas.proofs.Pending.{is_to_come}
use Rattle.tk_kernel.proofs.stepping.has_interrupt.Given as goal

-- whether one of those that are left is to come comes to whether one of all is
abbrev pub invariant-interrupts : goal.invariant-interrupts
invariant-interrupts l = is_to_come l.step (drop l.irq-index l.irq-items) ≡ is_to_come l.fn.step l.fn.script.irqs
