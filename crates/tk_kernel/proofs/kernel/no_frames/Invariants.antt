use Rattle.std.proofs.Common.{◌≡◌, length, replicate}
use Rattle.machine_model.specs.States.State.{no_frame}
use Rattle.tk_kernel.proofs.kernel.no_frames.Given as goal

abbrev pub invariant-slots : goal.invariant-slots
invariant-slots l = record {
  none : l.frames.items ≡ replicate l._place no_frame;
  all : length l.frames.items ≡ l._place;
}
