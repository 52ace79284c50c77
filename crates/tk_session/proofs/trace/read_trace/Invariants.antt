-- The entries so far, and those that the lines left make, are those of all lines.
use Rattle.std.proofs.Common.{◌≡◌, ◌+◌, ◌≤◌, length}
use Rattle.tk_model.specs.TextLines.{text_lines}
use Rattle.tk_session.specs.Reading.{with_front}
use Rattle.tk_session.specs.TracedAnswers.{entries_of}
use Rattle.tk_session.specs.TracedReading.{lines_from}
use Rattle.tk_session.proofs.trace.read_trace.Given as goal

abbrev pub invariant-lines : goal.invariant-lines
invariant-lines l = record {
  same : with_front l.entries.items (entries_of (lines_from l.number (text_lines l.left))) ≡ entries_of (lines_from l.first (text_lines l.lines));
  room : l.number + length l.left ≤ l.first + length l.lines;
}

abbrev pub decreases-lines : goal.decreases-lines
decreases-lines l = length l.left
