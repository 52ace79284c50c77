use Rattle.std.proofs.Common.{◌≡◌, drop}
use Rattle.step_lemmas.proofs.Pending.{left_to_request}
use Rattle.tk_kernel.proofs.kernel.Kernel.request_all.Given as goal

-- what is left to request comes to what all comes to
abbrev pub invariant-interrupts : goal.invariant-interrupts
invariant-interrupts l = left_to_request l.step l.self (drop l.irq-index l.irq-items) ≡ left_to_request l.fn.step l.fn.self l.fn.script.irqs
