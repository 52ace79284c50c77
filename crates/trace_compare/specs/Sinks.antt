-- What is true of the fields of a sink that compares.
use Rattle.std.specs.Prelude.{◌≡◌, ◌⊎◌, ℕ, ◌+◌, ◌<◌, IsTrue, List, ◌++◌, length}
use Rattle.tk_model.specs.TextLines.{text_lines}
use Rattle.trace_compare.specs.Comparisons.{IsDecided}
use Rattle.trace_compare.specs.Differences.{difference_of}
use Rattle.trace_compare.specs.Walks.{IsWalk, difference_behind, lines_behind}
use Rattle.trace_compare.specs.declared.comparing.Comparing.TheInside.{Inside}

-- the walk says what the difference of the bytes taken is, whatever follows them, and a write failed for a cause alone
pub record IsComparing (sink : Inside) : Type 0 where
  pub fair : IsWalk sink.walk
  pub difference : (more : List ℕ) → difference_of (sink.taken ++ more) sink.given.now ≡ difference_behind sink.walk more
  pub lines : lines_behind sink.walk ≡ length (text_lines sink.given.now) + 1
  pub cause : 0 < sink.faults → IsTrue sink.is_short ⊎ IsDecided sink.taken sink.given.now
