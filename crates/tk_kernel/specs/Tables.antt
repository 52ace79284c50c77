-- The tables by task have a place for each ID, and eight more for the frames of each task that wait for a service's return.
use Rattle.std.specs.Prelude.{ℕ, ◌≡◌, List, length}
use Rattle.tk_types.specs.declared.run.Frame.{Frame}

pub record AreTables (bodies : List ℕ) (frames saved : List Frame) : Type 0 where
  pub all_bodies : length bodies ≡ 256
  pub all_frames : length frames ≡ 256
  pub all_saved : length saved ≡ 2048
