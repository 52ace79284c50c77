use Rattle.std.proofs.Common.{◌∙◌, ap, replicate}
use Rattle.std.specs.Prelude.{slice_set}
use Rattle.machine_model.specs.States.State.{no_frame}
use Rattle.tk_kernel.proofs.kernel.first_frames.Goals as goal

pub returns-clause-frames : goal.returns-clause-frames
returns-clause-frames c = ap (λ frames. slice_set frames 1 c.start_frame.result) c.in_ok-frames.ensures.none ∙ ap (slice_set (replicate 256 no_frame) 1) c.start_frame.ensures
