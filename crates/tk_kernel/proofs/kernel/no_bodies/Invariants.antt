use Rattle.std.proofs.Common.{◌≡◌, length, replicate}
use Rattle.tk_kernel.proofs.kernel.no_bodies.Given as goal

abbrev pub invariant-slots : goal.invariant-slots
invariant-slots l = record {
  none : l.bodies.items ≡ replicate l._task 0;
  all : length l.bodies.items ≡ l._task;
}
