use Rattle.step_lemmas.specs.Places.{InFront}
use Rattle.tk_kernel.proofs.handlers.place_of.Given as goal

-- the number takes no place before this one
abbrev pub invariant-places : goal.invariant-places
invariant-places l = InFront l.number l.place l.pending
